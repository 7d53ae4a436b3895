-- The exact formula of the accurate step, S(w) and G(x), and how near its pair and its answer are. Definitions only.
use Rattle.std.specs.Prelude.{◌≡◌, ℕ, ◌+◌, ◌*◌, ◌^◌, ◌<◌, ◌≤◌, ◌⊎◌, List, ℤ, pos, unsigned_abs, Float}
use Rattle.std.specs.Float.{binary64}
use Rattle.std.specs.Float.Ieee.{div, mul, neg}
use Rattle.ieee.specs.Val.{val}
use Rattle.ieee.specs.Meaning.{Number}
use Rattle.double_double.specs.declared.double_double.DoubleDouble.{DoubleDouble}
use Rattle.tables.specs.Erfc.{exp_number}
use Rattle.erfc.specs.Exponentials.{log2_high, log2_low, log2_tiny, accurate_multiple_int}
use Rattle.erfc.specs.Rows.{accurate_row}
use Rattle.erfc.specs.Asymptotics.{one, scaled_value}
use Rattle.erfc.specs.declared.answer.AccuratePart.{AccuratePart}
use Rattle.bounds.specs.Num.{Q, ◌⊕◌, ◌⊗◌, mag, whole, tiny, Within}
use Rattle.bounds.specs.Floats.{above, units, exactly, minus}
use Rattle.bounds.specs.Formulas.{integer, power_of, sum_of, inverse, polynomial}
use Rattle.bounds.specs.Polynomials.{singles_of, doubles_of, accurate_coefficients}

-- log 2 in its three parts
abbrev pub log2 : Q
log2 = exactly log2_high ⊕ exactly log2_low ⊕ exactly log2_tiny

-- w = -x² - K log 2
abbrev pub accurate_residue : Float → ℤ → Q
accurate_residue x k = minus (exactly x ⊗ exactly x) ⊕ minus (integer k ⊗ log2)

-- of the accurate exponential: eight coefficients of two numbers each, then twelve single ones
abbrev pub series_coefficients : List Q
series_coefficients = doubles_of exp_number 0 8 (singles_of exp_number 16 12)

-- S(w)
abbrev pub series : Float → ℤ → Q
series x k = polynomial (accurate_residue x k) series_coefficients

-- G(x) / 2 ^ K = S(w) (1/x) T
abbrev pub unscaled_formula : (x : Float) → 0 < above (val x) → ℕ → ℤ → Q
unscaled_formula x p row k = series x k ⊗ inverse x p ⊗ polynomial (inverse x p ⊗ inverse x p) (accurate_coefficients row)

-- G(x)
abbrev pub accurate_formula : (x : Float) → 0 < above (val x) → ℕ → ℤ → Q
accurate_formula x p row k = power_of k ⊗ unscaled_formula x p row k

-- the pair is within relative 2 ^ -88 of S(w), and its low part within 2 ^ -45 of it in size
pub record AccurateExp (x : Float) (k : ℤ) (e : DoubleDouble) : Type 0 where
  pub low : Number e.lo
  pub high : Number e.hi
  pub near : Within (sum_of e) (series x k) (tiny 88 ⊗ mag (series x k))
  pub low_small : Within (exactly e.lo) (whole 0) (tiny 45 ⊗ mag (series x k))

-- the pair before scaling is relatively within 2 ^ -85 of G(x) / 2 ^ K, and its low part at most 2 ^ -42 of it
pub record NearAccurate (x : Float) (p : 0 < above (val x)) (a : AccuratePart) : Type 0 where
  pub low : Number a.pair.lo
  pub high : Number a.pair.hi
  pub near : Within (sum_of a.pair) (unscaled_formula x p a.row a.k) (tiny 85 ⊗ mag (unscaled_formula x p a.row a.k))
  pub low_small : Within (exactly a.pair.lo) (whole 0) (tiny 42 ⊗ mag (unscaled_formula x p a.row a.k))

-- a < b
pub record Below (a b : Q) : Type 0 where
  pub less : a.up * b.den + b.dn * a.den < b.up * a.den + a.dn * b.den

-- v is less than one unit from a. The unit is 2 ^ j times 2 ^ -1074: j is 0 where v is below 2 ^ -1022, else v is from 2 ^ (52 + j) to 2 ^ (53 + j) times 2 ^ -1074
pub record LessThanUnit (v : Float) (a : Q) : Type 0 where
  pub number : Number v
  pub j : ℕ
  pub unit : ((unsigned_abs (val v) < 2 ^ 52) × (j ≡ 0)) ⊎ ((2 ^ (52 + j) ≤ unsigned_abs (val v)) × (unsigned_abs (val v) < 2 ^ (53 + j)))
  pub near : Below (mag (exactly v ⊕ minus a)) (units (pos (2 ^ j)))

-- the accurate step measured: row and K are those of x alone, the pair is near G(x) / 2 ^ K, and the scaled answer less than one unit from G(x)
pub record Measured (x : Float) (p : 0 < above (val x)) (a : AccuratePart) : Type 0 where
  pub row : a.row ≡ accurate_row (div binary64 one x)
  pub k : a.k ≡ accurate_multiple_int (neg (mul binary64 x x))
  pub pair : NearAccurate x p a
  pub answer : LessThanUnit (scaled_value a.pair a.k) (accurate_formula x p a.row a.k)
