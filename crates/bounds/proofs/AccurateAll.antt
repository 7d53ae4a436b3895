-- The accurate step's pair before scaling is near G(x) / 2 ^ K: the polynomial's pair and the exponential's are measured at 2 ^ 256, 1/x at x itself. Assumes nothing.
use Rattle.std.proofs.Common.{ℕ, zero, ◌+◌, ◌*◌, ◌^◌, ◌<◌, ◌≤◌, ℤ, neg_ℤ, sym, refl, ap, subst, le_refl, le_trans, mul-le-mul_right, mul-le-mul_left, mul-pos, le_of_mul-le-mul_right, arith, lit≤}
use lib.Ieee.{Float, binary64, of_int, mul, neg, div}
use Rattle.ieee.specs.Val.{val}
use Rattle.double_double.specs.declared.double_double.DoubleDouble.{DoubleDouble}
use Rattle.double_double.specs.Ops.{Ops, Meaning}
use Rattle.double_double.specs.Pairs.{negated, fast_two_sum}
use Rattle.erfc.specs.Exponentials.{accurate_multiple_int, accurate_argument, exp_accurate}
use Rattle.erfc.specs.Rows.{Argument, accurate_row, tail_end}
use Rattle.erfc.specs.Asymptotics.{one, reciprocal, squared, accurate_polynomial, accurate_step}
use Rattle.erfc.proofs.Tail.{accurate_row_within, square_is}
use Rattle.bounds.specs.Num.{Q, ◌⊗◌, tiny}
use Rattle.bounds.specs.Floats.{above}
use Rattle.bounds.specs.Formulas.{inverse, polynomial}
use Rattle.bounds.specs.Polynomials.{accurate_coefficients}
use Rattle.bounds.specs.AccurateFormulas.{accurate_residue, series, unscaled_formula, AccurateExp}
use Rattle.bounds.proofs.Near as N
use Rattle.bounds.proofs.Relative as Rel
use Rattle.bounds.proofs.Scale.{Least}
use Rattle.bounds.proofs.Chain.{G, G>0}
use Rattle.bounds.proofs.AtScale.{At, weaken_at, same_at, operands, product_at, turn, sum_at, Relative, relative_at}
use Rattle.bounds.proofs.Inverse.{times_inverse}
use Rattle.bounds.proofs.WholeReciprocal.{tail_bounds}
use Rattle.bounds.proofs.OfX.{accurate_square}
use Rattle.bounds.proofs.AccurateRows.{floor, ceiling, accurate_row_near}
use Rattle.bounds.proofs.AccurateSeries.{SeriesNear, series_near}
use Rattle.bounds.proofs.AccurateArg.{accurate_argument_lem}

-- ---- the exponential
to_exponential : (x : Float) (k : ℤ) (e : DoubleDouble) → SeriesNear e (series x k) → AccurateExp x k e
to_exponential x k e h = record {
  low = h.lo_number;
  high = h.hi_number;
  near = Rel.relative (tiny 88) refl h.near h.least (lit≤ tt);
  low_small = Rel.relative_to (tiny 45) refl h.lo h.least (lit≤ tt);
}

-- ---- the sizes of G(x) / 2 ^ K, from its bounds at a scale
at_least : (K : ℕ) → zero < K → (a : Q) (m : ℕ) → Least K a m → K ≤ 256 * m → a.dn * 256 + a.den ≤ a.up * 256
at_least K K>0 a m h i = le_of_mul-le-mul_right (omega (arith, h.le, mul-le-mul_right a.den i)) K>0

at_most : (K : ℕ) (K>0 : zero < K) (a : Q) (m : ℕ) → N.Abs K K>0 a m → m ≤ K → a.up ≤ a.dn + a.den
at_most K K>0 a m h i = le_of_mul-le-mul_right (omega (arith, h.le, mul-le-mul_right a.den i)) K>0

-- ---- what is promised, with row and k in sight
pub record AccurateResult (x : Float) (p : 0 < above (val x)) (row : ℕ) (k : ℤ) (v : DoubleDouble) : Type 0 where
  pub pair : Relative v (unscaled_formula x p row k) (tiny 85) (tiny 42)
  -- G(x) / 2 ^ K is at least 1 / 256 and at most 1
  pub least : (unscaled_formula x p row k).dn * 256 + (unscaled_formula x p row k).den ≤ (unscaled_formula x p row k).up * 256
  pub most : (unscaled_formula x p row k).up ≤ (unscaled_formula x p row k).dn + (unscaled_formula x p row k).den

module _ {S : Type 0} (o : Ops S) (m : Meaning o) where
  -- t is any state
  exp_near : (s t : S) (x : Float) → Argument x tail_end → SeriesNear (exp_accurate o t (negated (o.product s x x).1)).1 (series x (accurate_multiple_int (neg (mul binary64 x x))))
  unfolding exp_accurate
  exp_near s t x a =
      let u = (o.product s x x).1 in
      let y = accurate_argument o t (of_int binary64 (neg_ℤ (accurate_multiple_int (neg u.hi)))) (negated u) in
      series_near o m y.0 y.1 (accurate_residue x (accurate_multiple_int (neg (mul binary64 x x)))) (accurate_argument_lem o m s t x a)

  pub accurate_exponential : (s t : S) (x : Float) → Argument x tail_end → AccurateExp x (accurate_multiple_int (neg (mul binary64 x x))) (exp_accurate o t (negated (o.product s x x).1)).1
  accurate_exponential s t x a = to_exponential x (accurate_multiple_int (neg (mul binary64 x x))) (exp_accurate o t (negated (o.product s x x).1)).1 (exp_near s t x a)

  -- the polynomial at 1/x², times 1/x
  abbrev first_product : S → S → S → S → Float → DoubleDouble
  first_product t₂ t₃ t₄ t₅ x =
      let y = (reciprocal o t₂ x).1 in
      (o.pair_times_pair t₅ (accurate_polynomial o t₄ (accurate_row (div binary64 one x)) (squared o t₃ y).1).1 y).1

  -- the steps, each from any state
  steps_near : (s t₁ t₂ t₃ t₄ t₅ t₆ : S) (x : Float) (p : 0 < above (val x)) → Argument x tail_end
      → AccurateResult x p (accurate_row (div binary64 one x)) (accurate_multiple_int (neg (mul binary64 x x)))
      (o.pair_times_pair t₆ (fast_two_sum (first_product t₂ t₃ t₄ t₅ x).hi (first_product t₂ t₃ t₄ t₅ x).lo) (exp_accurate o t₁ (negated (o.product s x x).1)).1).1
  steps_near s t₁ t₂ t₃ t₄ t₅ t₆ x p a =
      let row = accurate_row (div binary64 one x) in
      let k = accurate_multiple_int (neg (mul binary64 x x)) in
      let w = tail_bounds x a in
      let K = G * above (val x) in
      let K>0 = mul-pos G>0 p in
      let e = (exp_accurate o t₁ (negated (o.product s x x).1)).1 in
      let q = (squared o t₃ (reciprocal o t₂ x).1).1 in
      let z = (accurate_polynomial o t₄ row q).1 in
      let r = (o.pair_times_pair t₅ z (reciprocal o t₂ x).1).1 in
      let f = fast_two_sum r.hi r.lo in
      let v = (o.pair_times_pair t₆ f e).1 in
      let I = inverse x p in
      let E = series x k in
      let A = polynomial (I ⊗ I) (accurate_coefficients row) in
      -- the polynomial's pair times that of 1/x, its parts added
      let Z = accurate_row_near o m t₄ row q (I ⊗ I) (accurate_row_within x tail_end a (lit≤ tt) (div binary64 one x) row refl refl) (accurate_square o m t₂ t₃ x p a) in
      let g : G * 2 ^ 1074 ≤ K = mul-le-mul_left G w.0 in
      let P : At K K>0 r (A ⊗ I) (ceiling * 2 ^ 1074 + 2 ^ 1278) (2 ^ 1279) (2 ^ 1231) (ceiling * 2 ^ 1074) (floor * 2 ^ 1074) =
      weaken_at (lit≤ tt) (lit≤ tt) (lit≤ tt) (times_inverse o m t₂ t₅ x p a Z (operands G (le_refl G) Z (lit≤ tt) (lit≤ tt))) in
      let R : At K K>0 f (A ⊗ I) (ceiling * 2 ^ 1074 + 2 ^ 1280) (2 ^ 1277) (2 ^ 1231) (ceiling * 2 ^ 1074) (floor * 2 ^ 1074) =
      weaken_at (lit≤ tt) (lit≤ tt) (lit≤ tt) (sum_at r (operands (G * 2 ^ 1074) g P (lit≤ tt) (lit≤ tt)) P (lit≤ tt)) in
      -- that pair times the exponential's
      let F = exp_near s t₁ x a in
      let J>0 = mul-pos K>0 G>0 in
      let few : K * G ≤ 2 ^ 1591 = le_trans (mul-le-mul_right G (mul-le-mul_left G w.1)) (lit≤ tt) in
      let many : 2 ^ 1586 ≤ K * G = le_trans (lit≤ tt) (mul-le-mul_right G g) in
      let V : At (K * G) J>0 v (A ⊗ I ⊗ E) (2 ^ 1586) (2 ^ 1540) (2 ^ 1496) (ceiling * 2 ^ 1074 * (3 * 2 ^ 255)) (floor * 2 ^ 1074 * 2 ^ 255) =
      weaken_at (lit≤ tt) (lit≤ tt) (lit≤ tt)
      (product_at o m t₆ (2 ^ 521) (le_trans few (lit≤ tt)) R (operands (G * 2 ^ 1074) g R (lit≤ tt) (lit≤ tt)) F (operands G (le_refl G) F (lit≤ tt) (lit≤ tt))) in
      let T = same_at (turn A I E) V in
      record {
        pair = relative_at (tiny 85) (tiny 42) refl refl (operands (2 ^ 1586) many V (lit≤ tt) (lit≤ tt)) T (lit≤ tt) (lit≤ tt);
        least = at_least (K * G) J>0 (E ⊗ I ⊗ A) (floor * 2 ^ 1074 * 2 ^ 255) T.least (le_trans few (lit≤ tt));
        most = at_most (K * G) J>0 (E ⊗ I ⊗ A) (ceiling * 2 ^ 1074 * (3 * 2 ^ 255)) T.size (le_trans (lit≤ tt) many);
      }

  pub accurate_result : (s : S) (x : Float) (p : 0 < above (val x)) → Argument x tail_end → AccurateResult x p (accurate_step o s x).1.row (accurate_step o s x).1.k (accurate_step o s x).1.pair
  unfolding accurate_step reciprocal
  accurate_result s x p a =
      let u = o.product s x x in
      let e = exp_accurate o u.0 (negated u.1) in
      let y = reciprocal o e.0 x in
      let q = squared o y.0 y.1 in
      let z = accurate_polynomial o q.0 (accurate_row y.1.hi) q.1 in
      let r = o.pair_times_pair z.0 z.1 y.1 in
      let v = o.pair_times_pair r.0 (fast_two_sum r.1.hi r.1.lo) e.1 in
      subst (λ (k : ℤ). AccurateResult x p (accurate_row (div binary64 one x)) k v.1)
      (sym (ap accurate_multiple_int (square_is o m s u.0 u.1 (negated u.1) x tail_end a (lit≤ tt) refl refl)))
      (steps_near s u.0 e.0 y.0 q.0 z.0 r.0 x p a)
