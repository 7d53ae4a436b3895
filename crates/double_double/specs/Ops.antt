-- An arithmetic by what its functions answer, and what every arithmetic promises. Definitions only.
use Rattle.std.specs.Prelude.{◌≡◌, ◌+ℤ◌, ◌*ℤ◌, Float}
use Rattle.ieee.specs.Val.{val}
use Rattle.ieee.specs.Meaning.{Operand, Settled, fine, ProductMeans, PairsMean, NumberMeans, MaddMeans}
use Rattle.double_double.specs.declared.double_double.DoubleDouble.{DoubleDouble}

-- with states in S: from a state and the operands, the state that is left and the answer
pub record Ops (S : Type 0) : Type 0 where
  pub product : S → Float → Float → S × DoubleDouble
  pub pair_times_pair : S → DoubleDouble → DoubleDouble → S × DoubleDouble
  pub pair_times_number : S → DoubleDouble → Float → S × DoubleDouble
  pub multiply_add : S → Float → Float → Float → S × Float

-- At every state, whatever was called before, for finite operands of at most 2 ^ 400 in size. For other operands the answers are free.
pub record Meaning {S : Type 0} (o : Ops S) : Type 0 where
  pub product : (s : S) (a b : Float) → Operand a → Operand b →
      ProductMeans a b (o.product s a b).1.lo (o.product s a b).1.hi
  pub pair_times_pair : (s : S) (a b : DoubleDouble) → Operand a.lo → Operand a.hi → Operand b.lo → Operand b.hi →
      PairsMean a.lo a.hi b.lo b.hi (o.pair_times_pair s a b).1.lo (o.pair_times_pair s a b).1.hi
  pub pair_times_number : (s : S) (a : DoubleDouble) (b : Float) → Operand a.lo → Operand a.hi → Operand b →
      NumberMeans a.lo a.hi b (o.pair_times_number s a b).1.lo (o.pair_times_number s a b).1.hi
  pub multiply_add : (s : S) (a b c : Float) → Operand a → Operand b → Operand c → MaddMeans a b c (o.multiply_add s a b c).1

-- the product pair is a b itself where that is zero or at least 2 ^ -900 in size
abbrev pub ProductsAreExact : {S : Type 0} → Ops S → Type 0
ProductsAreExact {S = S} o = (s : S) (a b : Float) → Operand a → Operand b → Settled a b → fine (val (o.product s a b).1.hi +ℤ val (o.product s a b).1.lo) ≡ val a *ℤ val b
