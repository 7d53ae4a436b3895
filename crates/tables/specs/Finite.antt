-- Bits that stand for a finite number. Definitions only.
use Rattle.std.specs.Prelude.{ℕ, ◌%◌, ◌/◌, ◌^◌, Bool, ◌&&◌, nat_lt}

-- the exponent's field is not all ones
abbrev pub is_finite : ℕ → Bool
is_finite b = nat_lt (b % 2 ^ 63 / 2 ^ 52) 2047

abbrev pub are_finite : ℕ × ℕ → Bool
are_finite p = is_finite p.0 && is_finite p.1
