-- 1/x and the pair for it at the scale X, where x = X 2 ^ -1074. Assumes nothing.
use Rattle.std.proofs.Common.{◌≡◌, ℕ, ◌+◌, ◌*◌, ◌^◌, ◌<◌, ℤ, pos, negsuc, refl, ap, le_trans, mul-le-mul_right, mul-le-mul_left, mul-pos, le_of_mul-le-mul_right, arith, lit≤, pow_pos}
use lib.Ieee.{Float}
use Rattle.ieee.specs.Val.{val}
use Rattle.double_double.specs.declared.double_double.DoubleDouble.{DoubleDouble}
use Rattle.double_double.specs.Ops.{Ops, Meaning}
use Rattle.erfc.specs.Rows.{Argument, tail_end}
use Rattle.erfc.specs.Asymptotics.{reciprocal}
use Rattle.bounds.specs.Num.{Q, ◌⊗◌, whole, tiny, Within}
use Rattle.bounds.specs.Floats.{above, units, exactly}
use Rattle.bounds.specs.Formulas.{sum_of, inverse}
use Rattle.bounds.specs.Reciprocals.{Reciprocal}
use Rattle.bounds.proofs.Near as N
use Rattle.bounds.proofs.Scale.{Least}
use Rattle.bounds.proofs.Chain.{G, G>0}
use Rattle.bounds.proofs.AtScale.{At, Operands, operands, product_high, product_low, product_error, product_at}
use Rattle.bounds.proofs.WholeReciprocal.{tail_bounds}
use Rattle.bounds.proofs.RecipPair.{reciprocal_near}

-- 1 / (z 2 ^ -1074)
abbrev pub inv : (z : ℤ) → 0 < above z → Q
inv z p = record { up = 2 ^ 1074; dn = 0; den = above z; ok = p }

pub near_inverse : (z : ℤ) (p : 0 < above z) (s : Q) (k e : ℕ) → 2 ^ 1074 ≡ e * 2 ^ k → Within (units z ⊗ s) (whole 1) (tiny k) → N.Near (above z) p s (inv z p) e
near_inverse (pos X) p s k e i h = record {
  le = omega (arith, mul-le-mul_right X (le_of_mul-le-mul_right {m = X * s.up} {n = X * s.dn + 2 ^ 1074 * s.den + e * s.den} (omega (arith, h.le, ap (λ (z : ℕ). z * s.den) i)) (pow_pos k)));
  ge = omega (arith, mul-le-mul_right X (le_of_mul-le-mul_right {m = X * s.dn + 2 ^ 1074 * s.den} {n = X * s.up + e * s.den} (omega (arith, h.ge, ap (λ (z : ℕ). z * s.den) i)) (pow_pos k)));
}
near_inverse (negsuc X) p s k e i h = absurd (omega (arith, p))

pub small_inverse : (z : ℤ) (p : 0 < above z) (s : Q) (k e : ℕ) → 2 ^ 1074 ≡ e * 2 ^ k → Within (units z ⊗ s) (whole 0) (tiny k) → N.Abs (above z) p s e
small_inverse (pos X) p s k e i h = record { le = le_of_mul-le-mul_right (omega (arith, h.le, ap (λ (z : ℕ). z * s.den) i)) (pow_pos k); ge = le_of_mul-le-mul_right (omega (arith, h.ge, ap (λ (z : ℕ). z * s.den) i)) (pow_pos k) }
small_inverse (negsuc X) p s k e i h = absurd (omega (arith, p))

pub inverse_size : (z : ℤ) (p : 0 < above z) → N.Abs (above z) p (inv z p) (2 ^ 1074)
inverse_size z p = record { le = omega arith; ge = omega arith }

pub inverse_least : (z : ℤ) (p : 0 < above z) → Least (above z) (inv z p) (2 ^ 1074)
inverse_least z p = record { le = omega arith }

-- the pair for 1/x
pub of_reciprocal : (x : Float) (p : 0 < above (val x)) (y : DoubleDouble) → Reciprocal x y → At (above (val x)) p y (inverse x p) (2 ^ 1074 + 2 ^ 1021) (2 ^ 1022) (2 ^ 970) (2 ^ 1074) (2 ^ 1074)
of_reciprocal x p y r = record {
  lo_number = r.low;
  hi_number = r.high;
  hi = N.abs_near (inverse_size (val x) p) (N.near_sym (near_inverse (val x) p (exactly y.hi) 53 (2 ^ 1021) refl r.high_near));
  lo = small_inverse (val x) p (exactly y.lo) 52 (2 ^ 1022) refl r.low_small;
  near = near_inverse (val x) p (sum_of y) 104 (2 ^ 970) refl r.near;
  size = inverse_size (val x) p;
  least = inverse_least (val x) p;
}

-- ---- that pair of a tail argument, times a pair near P
module _ {S : Type 0} (o : Ops S) (m : Meaning o) where
  pub times_inverse : (s t : S) (x : Float) (p : 0 < above (val x)) → Argument x tail_end → {z : DoubleDouble} {P : Q} {h l e r f : ℕ} → At G G>0 z P h l e r f → Operands z
      → At (G * above (val x)) (mul-pos G>0 p) (o.pair_times_pair t z (reciprocal o s x).1).1 (P ⊗ inverse x p) (product_high h (2 ^ 1074 + 2 ^ 1021) (2 ^ 265)) (product_low h l (2 ^ 1074 + 2 ^ 1021) (2 ^ 1022) (2 ^ 265))
      (product_error h l e r (2 ^ 1074 + 2 ^ 1021) (2 ^ 1022) (2 ^ 970) (2 ^ 265)) (r * 2 ^ 1074) (f * 2 ^ 1074)
  times_inverse s t x p a z oz =
      let b = tail_bounds x a in
      let Y = of_reciprocal x p (reciprocal o s x).1 (reciprocal_near o m s x a) in
      product_at o m t (2 ^ 265) (le_trans (mul-le-mul_left G b.1) (lit≤ tt)) z oz Y (operands (2 ^ 1074) b.0 Y (lit≤ tt) (lit≤ tt))
