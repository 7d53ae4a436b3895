-- The row that serves an argument. Definitions only.
use Rattle.std.specs.Prelude.{◌≡◌, ℕ, ◌<◌, ◌≤◌, List, [], ◌∷◌, from_bits, Float}
use Rattle.std.specs.List.{prefix_len}
use Rattle.std.specs.Float.{binary64}
use Rattle.std.specs.Float.Ieee.{lt}

-- a row serves 1/x up to its threshold
abbrev pub fast_thresholds : List ℕ
fast_thresholds =
    0x3fbd500000000000 ∷
    0x3fc59da6ca291ba6 ∷
    0x3fcbc00000000000 ∷
    0x3fd0c00000000000 ∷
    0x3fd3800000000000 ∷
    0x3fd6300000000000 ∷
    []

abbrev pub accurate_thresholds : List ℕ
accurate_thresholds =
    0x3fb4500000000000 ∷
    0x3fbe000000000000 ∷
    0x3fc3f00000000000 ∷
    0x3fc9500000000000 ∷
    0x3fcf500000000000 ∷
    0x3fd3100000000000 ∷
    0x3fd7100000000000 ∷
    0x3fdbc00000000000 ∷
    0x3fe0b00000000000 ∷
    0x3fe3000000000000 ∷
    []

-- the place of the first threshold that is at least y; their count if there is none
abbrev pub first_not_below : List ℕ → Float → ℕ
first_not_below ts y = prefix_len (λ t. lt (from_bits binary64 t) y) ts

-- the rows for y, the f64 nearest to 1/x
abbrev pub fast_row : Float → ℕ
fast_row y = first_not_below fast_thresholds y

abbrev pub accurate_row : Float → ℕ
accurate_row y = first_not_below accurate_thresholds y

-- the first bits of the tail, the first where no fast step runs, and the first above the tail
abbrev pub tail_first : ℕ
tail_first = 0x400713786d9c7c0a

abbrev pub fast_end : ℕ
fast_end = 0x4039db1bb14e15ca

abbrev pub tail_end : ℕ
tail_end = 0x403b39dc41e48bfd

-- x is a tail argument with bits below end
pub record Argument (x : Float) (end : ℕ) : Type 0 where
  pub bits : ℕ
  pub is : x ≡ from_bits binary64 bits
  pub first : tail_first ≤ bits
  pub below : bits < end
