-- How near the fast step's pair is to F(x). Definitions only.
use Rattle.std.specs.Prelude.{◌<◌, Float}
use Rattle.ieee.specs.Val.{val}
use Rattle.ieee.specs.Meaning.{Number}
use Rattle.erfc.specs.declared.answer.FastPart.{FastPart}
use Rattle.bounds.specs.Num.{◌⊗◌, mag, whole, tiny, Within}
use Rattle.bounds.specs.Floats.{above, exactly}
use Rattle.bounds.specs.Formulas.{sum_of, formula}

-- the pair is relatively within 25 / 2 ^ 72 of F(x), and its low part at most 2 ^ -39 of it
pub record NearFormula (x : Float) (p : 0 < above (val x)) (f : FastPart) : Type 0 where
  pub low : Number f.erf.result.lo
  pub high : Number f.erf.result.hi
  pub near : Within (sum_of f.erf.result) (formula x p f.row f.k) (whole 25 ⊗ tiny 72 ⊗ mag (formula x p f.row f.k))
  pub low_small : Within (exactly f.erf.result.lo) (whole 0) (tiny 39 ⊗ mag (formula x p f.row f.k))
