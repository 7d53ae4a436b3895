-- The pair for 1/x and its square, over every arithmetic with the meaning. Assumes nothing.
use Rattle.std.proofs.Common.{◌*◌, ◌^◌, ℤ, pos, ◌+ℤ◌, ◌*ℤ◌, subst, arith, pow_pos}
use lib.Ieee.{Float}
use Rattle.ieee.specs.Val.{val}
use Rattle.double_double.specs.declared.double_double.DoubleDouble.{DoubleDouble}
use Rattle.double_double.specs.Ops.{Ops, Meaning}
use Rattle.erfc.specs.Rows.{Argument, tail_end}
use Rattle.erfc.specs.Asymptotics.{reciprocal, squared}
use Rattle.bounds.specs.Num.{◌⊗◌, tiny}
use Rattle.bounds.specs.Floats.{exactly}
use Rattle.bounds.specs.Formulas.{sum_of}
use Rattle.bounds.specs.Reciprocals.{Reciprocal, Square}
use Rattle.bounds.proofs.Over.{Over, over_units, over_tiny, over_add, over_mul}
use Rattle.bounds.proofs.WholeBounds.{within_one, within_zero}
use Rattle.bounds.proofs.WholeReciprocal.{Inverse, inverse}
use Rattle.bounds.proofs.RecipSquare.{square_of}

-- the bounds over whole numbers as bounds between exact numbers
of_inverse : (x : Float) (y : DoubleDouble) → Inverse x y.lo y.hi → Reciprocal x y
of_inverse x y v =
    let X : Over (exactly x) (pos v.X) (2 ^ 1074) = subst (λ (z : ℤ). Over (exactly x) z (2 ^ 1074)) v.is (over_units (val x)) in
    let H = over_units (val y.hi) in
    let L = over_units (val y.lo) in
    record {
      low = v.low;
      high = v.high;
      near = within_one (exactly x ⊗ sum_of y) (tiny 104) (pos v.X *ℤ (val y.hi +ℤ val y.lo)) (2 ^ 1074 * 2 ^ 1074) 1 104 (pow_pos 2148) (over_mul X (over_add H L)) (over_tiny 104) v.near;
      high_near = within_one (exactly x ⊗ exactly y.hi) (tiny 53) (pos v.X *ℤ val y.hi) (2 ^ 1074 * 2 ^ 1074) 1 53 (pow_pos 2148) (over_mul X H) (over_tiny 53) v.high_near;
      low_small = within_zero (exactly x ⊗ exactly y.lo) (tiny 52) (pos v.X *ℤ val y.lo) (2 ^ 1074 * 2 ^ 1074) 1 52 (pow_pos 2148) (over_mul X L) (over_tiny 52) (omega (arith, v.low_small));
    }

module _ {S : Type 0} (o : Ops S) (m : Meaning o) where
  pub reciprocal_near : (s : S) (x : Float) → Argument x tail_end → Reciprocal x (reciprocal o s x).1
  reciprocal_near s x a = of_inverse x (reciprocal o s x).1 (inverse o m s x a)

  -- the square of the pair that `reciprocal` answers, from any later state
  pub reciprocal_square_near : (s t : S) (x : Float) → Argument x tail_end → Square x (squared o t (reciprocal o s x).1).1
  reciprocal_square_near s t x a = square_of o m t x (reciprocal o s x).1 (inverse o m s x a)
