-- What one step of the arithmetic may answer, as relations between numbers. Any implementation that keeps the stated bounds is covered.
-- Assumes nothing.
use Rattle.std.specs.Prelude.{◌*◌, ◌≤◌}
use Rattle.bounds.specs.Num.{Q, ◌⊕◌, ◌⊗◌, mag, whole, tiny, Same, Within}

pub record Pair : Type 0 where
  pub hi : Q
  pub lo : Q

abbrev pub val : Pair → Q
val p = p.hi ⊕ p.lo

-- |a| ≤ |b|
pub record AtMost (a b : Q) : Type 0 where
  pub most : (mag a).up * b.den ≤ (mag b).up * a.den

-- pair times pair
pub record PairMul (a b v : Pair) : Type 0 where
  pub hi : Within v.hi (a.hi ⊗ b.hi) (tiny 53 ⊗ mag (a.hi ⊗ b.hi) ⊕ tiny 1075)
  pub near : Within (val v) (val a ⊗ val b) (mag (a.lo ⊗ b.lo) ⊕ tiny 50 ⊗ (mag (a.hi ⊗ b.lo) ⊕ mag (a.lo ⊗ b.hi)) ⊕ tiny 104 ⊗ mag (a.hi ⊗ b.hi) ⊕ tiny 1070)

-- the exact sum of two numbers, as a pair
pub record ExactAdd (c v : Q) (s : Pair) : Type 0 where
  pub sum : Same (val s) (c ⊕ v)
  pub lo : Within s.lo (whole 0) (tiny 53 ⊗ mag (c ⊕ v))

-- multiply-add
pub record Fma (a b c r : Q) : Type 0 where
  pub near : Within r (c ⊕ a ⊗ b) (tiny 53 ⊗ mag (c ⊕ a ⊗ b) ⊕ tiny 103 ⊗ (mag (a ⊗ b) ⊕ mag c) ⊕ tiny 1070)

-- a is b rounded
pub record Rounded (a b : Q) : Type 0 where
  pub near : Within a b (tiny 53 ⊗ mag b)
