-- How near the fast exponential's pair is. Definitions only.
use Rattle.std.specs.Prelude.{ℤ, Float}
use Rattle.double_double.specs.declared.double_double.DoubleDouble.{DoubleDouble}
use Rattle.ieee.specs.Meaning.{Number}
use Rattle.bounds.specs.Num.{◌⊗◌, mag, whole, tiny, Within}
use Rattle.bounds.specs.Floats.{exactly}
use Rattle.bounds.specs.Formulas.{sum_of, exponential}

-- the pair is within relative 2 ^ -71 of E(x), and its low part within 2 ^ -40 of it in size
pub record FastExp (x : Float) (k : ℤ) (e : DoubleDouble) : Type 0 where
  pub low : Number e.lo
  pub high : Number e.hi
  pub near : Within (sum_of e) (exponential x k) (tiny 71 ⊗ mag (exponential x k))
  pub low_small : Within (exactly e.lo) (whole 0) (tiny 40 ⊗ mag (exponential x k))
