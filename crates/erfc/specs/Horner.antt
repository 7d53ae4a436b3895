-- The Horner loops, over any arithmetic. Definitions only.
use Rattle.std.specs.Prelude.{ℕ, zero, suc, ◌+◌, ◌*◌, Float}
use Rattle.std.specs.Float.{binary64}
use Rattle.std.specs.Float.Ieee.{add}
use Rattle.double_double.specs.declared.double_double.DoubleDouble.{DoubleDouble}
use Rattle.double_double.specs.Ops.{Ops}

-- c + v for a pair v, by a way to add two numbers exactly
abbrev pub plus : (Float → Float → DoubleDouble) → Float → DoubleDouble → DoubleDouble
plus sum c v = let t = sum c v.hi in record { lo = add binary64 t.lo v.lo; hi = t.hi }

-- c + d + v: d is the small part of a coefficient
abbrev pub plus_both : (Float → Float → DoubleDouble) → Float → Float → DoubleDouble → DoubleDouble
plus_both sum c d v = let t = sum c v.hi in record { lo = add binary64 t.lo (add binary64 v.lo d); hi = t.hi }

-- a turn that adds one number of a list, counted from the first on
abbrev pub single_term : (Float → Float → DoubleDouble) → (ℕ → Float) → ℕ → ℕ → DoubleDouble → DoubleDouble
single_term sum numbers first n v = plus sum (numbers (n + first)) v

-- a turn that adds two
abbrev pub double_term : (Float → Float → DoubleDouble) → (ℕ → Float) → ℕ → DoubleDouble → DoubleDouble
double_term sum numbers n v = plus_both sum (numbers (2 * n)) (numbers (2 * n + 1)) v

module _ {S : Type 0} (o : Ops S) where
  -- n turns from z on: times u, then the term of the turn, whose number counts down to 0
  unfoldable pub horner : (ℕ → DoubleDouble → DoubleDouble) → DoubleDouble → ℕ → S → DoubleDouble → S × DoubleDouble
  horner term u zero s z = (s, z)
  horner term u (suc n) s z = let v = o.pair_times_pair s z u in horner term u n v.0 (term n v.1)
