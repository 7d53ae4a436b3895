-- A number that is not zero is one f64. Assumes nothing.
use Rattle.std.proofs.Common.{◌≡◌, ℕ, zero, suc, ◌+◌, ◌-◌, ◌*◌, ◌/◌, ◌^◌, ◌<◌, Bool, true, false, cond, nat_abs, sym, ap, ◌∙◌, subst, arith}
use lib.Ieee.{Float, nan, inf, fin, binary64, to_bits, of_bits, size, hid, top, up, down}
use lib.Ieee.Bits.{of_bits-to_bits}
use Rattle.ieee.specs.Val.{val, signed}
use Rattle.ieee.specs.Meaning.{Number}
use Rattle.ieee.proofs.Bridge.{abs_signed}

-- the bits of a finite f64, by its sign and its size in units
abbrev bits_of : Bool → ℕ → ℕ
bits_of s n = cond s (top binary64) 0 + (size n - 53) * hid binary64 + n / 2 ^ (size n - 53)

same_sign : (s t : Bool) (m n : ℕ) → signed s m ≡ signed t n → 0 < m → bits_of s m ≡ bits_of t n
same_sign true true zero n e h = absurd (omega arith)
same_sign true true (suc m) zero e h = absurd (let z : suc m ≡ 0 = ap nat_abs e in omega arith)
same_sign true true (suc m) (suc n) e h = ap (bits_of true) (ap nat_abs e)
same_sign true false zero n e h = absurd (omega arith)
same_sign true false (suc m) n e h = absurd (let z : ◌≡◌ {A = ℕ} 0 1 = cc in omega arith)
same_sign false true m zero e h = absurd (let z : m ≡ 0 = ap nat_abs e in omega arith)
same_sign false true m (suc n) e h = absurd (let z : ◌≡◌ {A = ℕ} 0 1 = cc in omega arith)
same_sign false false m n e h = ap (bits_of false) (ap nat_abs e)

pub unique : (x y : Float) → Number x → Number y → val x ≡ val y → 0 < nat_abs (val x) → x ≡ y
unfolding to_bits
unique nan y p q e h = absurd p.number
unique (inf s) y p q e h = absurd p.number
unique (fin s m a) nan p q e h = absurd q.number
unique (fin s m a) (inf t) p q e h = absurd q.number
unique (fin s m a) (fin t n b) p q e h =
    sym (of_bits-to_bits binary64 (fin s m a) p.holds) ∙ ap (of_bits binary64) (same_sign s t (m * up a * 2 ^ 1074 / down a) (n * up b * 2 ^ 1074 / down b) e (subst (λ (k : ℕ). 0 < k) (abs_signed s (m * up a * 2 ^ 1074 / down a)) h)) ∙ of_bits-to_bits binary64 (fin t n b) q.holds
