-- How near the pair for 1/x and its square are. Definitions only.
use Rattle.std.specs.Prelude.{Float}
use Rattle.double_double.specs.declared.double_double.DoubleDouble.{DoubleDouble}
use Rattle.ieee.specs.Meaning.{Number}
use Rattle.bounds.specs.Num.{◌⊗◌, whole, tiny, Within}
use Rattle.bounds.specs.Floats.{exactly}
use Rattle.bounds.specs.Formulas.{sum_of}

-- x (yh + yl) differs from 1 by at most 2 ^ -104, x yh by at most 2 ^ -53, and the low part is small
pub record Reciprocal (x : Float) (y : DoubleDouble) : Type 0 where
  pub low : Number y.lo
  pub high : Number y.hi
  pub near : Within (exactly x ⊗ sum_of y) (whole 1) (tiny 104)
  pub high_near : Within (exactly x ⊗ exactly y.hi) (whole 1) (tiny 53)
  pub low_small : Within (exactly x ⊗ exactly y.lo) (whole 0) (tiny 52)

-- x² u differs from 1 by at most 2 ^ -98, x² u.hi by at most 2 ^ -51, and the low part is small
pub record Square (x : Float) (u : DoubleDouble) : Type 0 where
  pub low : Number u.lo
  pub high : Number u.hi
  pub near : Within (exactly x ⊗ exactly x ⊗ sum_of u) (whole 1) (tiny 98)
  pub high_near : Within (exactly x ⊗ exactly x ⊗ exactly u.hi) (whole 1) (whole 4 ⊗ tiny 53)
  pub low_small : Within (exactly x ⊗ exactly x ⊗ exactly u.lo) (whole 0) (tiny 51)
