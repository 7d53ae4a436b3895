-- How near the pairs of the polynomials are. Definitions only.
use Rattle.std.specs.Prelude.{ℕ, zero, suc, ◌+◌, ◌*◌, List, [], ◌∷◌, from_bits, slice_index, Float}
use Rattle.std.specs.Float.{binary64}
use Rattle.double_double.specs.declared.double_double.DoubleDouble.{DoubleDouble}
use Rattle.ieee.specs.Meaning.{Number}
use Rattle.tables.specs.Erfc.{accurate_number}
use Rattle.bounds.specs.Num.{Q, ◌⊕◌, ◌⊗◌, mag, whole, tiny, Within}
use Rattle.bounds.specs.Floats.{exactly}
use Rattle.bounds.specs.Formulas.{sum_of}

-- 1 / x² for the arguments of a row: the square of its threshold and 2 ^ -50 more
abbrev pub square_bound : List ℕ → ℕ → Q
square_bound thresholds row = let t = exactly (from_bits binary64 (slice_index thresholds row)) in t ⊗ t ⊗ (whole 1 ⊕ tiny 50)

-- the pair u stands for a U of the row: 2 ^ -98 of it away at most, with a low part of at most 2 ^ -51 of it
pub record NearSquare (thresholds : List ℕ) (row : ℕ) (u : DoubleDouble) (U : Q) : Type 0 where
  pub low : Number u.lo
  pub high : Number u.hi
  pub size : Within U (whole 0) (square_bound thresholds row)
  pub near : Within (sum_of u) U (tiny 98 ⊗ mag U)
  pub low_small : Within (exactly u.lo) (whole 0) (tiny 51 ⊗ mag U)

-- 23 / 2 ^ 73, which is 2 ^ -68.47; the polynomials are between 0.5 and 0.6
abbrev pub fast_limit : Q
fast_limit = whole 23 ⊗ tiny 73

-- 2 ^ -90
abbrev pub accurate_limit : Q
accurate_limit = tiny 90

-- count numbers of a table, from number n on
abbrev pub singles_of : (ℕ → Float) → ℕ → ℕ → List Q
singles_of table n zero = []
singles_of table n (suc count) = exactly (table n) ∷ singles_of table (suc n) count

-- count coefficients of two numbers each of a table, from the i-th on, before the rest
abbrev pub doubles_of : (ℕ → Float) → ℕ → ℕ → List Q → List Q
doubles_of table i zero rest = rest
doubles_of table i (suc count) rest = (exactly (table (2 * i)) ⊕ exactly (table (2 * i + 1))) ∷ doubles_of table (suc i) count rest

-- of an accurate row: six coefficients of two numbers each, then 9 + row single ones
abbrev pub accurate_coefficients : ℕ → List Q
accurate_coefficients row = doubles_of (accurate_number row) 0 6 (singles_of (accurate_number row) 12 (9 + row))
