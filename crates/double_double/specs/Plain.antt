-- What plain arithmetic answers: the steps of the branch without fma. Definitions only.
use Rattle.std.specs.Prelude.{Float}
use Rattle.std.specs.Float.{binary64}
use Rattle.std.specs.Float.Ieee.{add, mul}
use Rattle.double_double.specs.declared.double_double.DoubleDouble.{DoubleDouble}
use Rattle.double_double.specs.declared.plain.Plain.{Plain}
use Rattle.double_double.specs.Pairs.{dekker, pair_plus_number, rounded_sum}
use Rattle.double_double.specs.Ops.{Ops}

abbrev pub plain_product : Float → Float → DoubleDouble
plain_product a b = dekker a b

abbrev pub plain_pair_times_pair : DoubleDouble → DoubleDouble → DoubleDouble
plain_pair_times_pair a b =
    let c = plain_product a.hi b.hi in
    record { lo = add binary64 c.lo (add binary64 (mul binary64 a.hi b.lo) (mul binary64 a.lo b.hi)); hi = c.hi }

abbrev pub plain_pair_times_number : DoubleDouble → Float → DoubleDouble
plain_pair_times_number a b =
    let c = plain_product a.hi b in
    record { lo = add binary64 c.lo (mul binary64 a.lo b); hi = c.hi }

abbrev pub plain_multiply_add : Float → Float → Float → Float
plain_multiply_add a b c = rounded_sum (pair_plus_number (plain_product a b) c)

-- it has no state
abbrev pub plain_ops : Ops Plain
plain_ops = record {
  product = λ s a b. (s, plain_product a b);
  pair_times_pair = λ s a b. (s, plain_pair_times_pair a b);
  pair_times_number = λ s a b. (s, plain_pair_times_number a b);
  multiply_add = λ s a b c. (s, plain_multiply_add a b c);
}
