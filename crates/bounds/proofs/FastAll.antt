-- The fast step's pair is near F(x): the polynomial's pair is measured at 2 ^ 256, 1/x at x itself, and E(x) at a scale of its own. Assumes nothing.
use Rattle.std.proofs.Common.{◌≡◌, ℕ, zero, suc, ◌+◌, ◌-◌, ◌*◌, ◌/◌, ◌^◌, ◌<◌, ◌≤◌, ℤ, sym, refl, ap, subst, le_refl, le_trans, lt_of_lt_of_le, mul-le-mul, lt_of_mul-lt-mul_right, mul-le-mul_left, mul-pos, le-div_iff_mul-le, div-mul-le_self, le_of_mul-le-mul_right, arith, lit<, lit≤, pow_pos}
use native.Mathlib.Nat.{lt-mul-div-succ}
use lib.Ieee.{Float, binary64, add, sub, mul, neg, div}
use Rattle.ieee.specs.Val.{val}
use Rattle.double_double.specs.declared.double_double.DoubleDouble.{DoubleDouble}
use Rattle.double_double.specs.Ops.{Ops, Meaning}
use Rattle.double_double.specs.Pairs.{negated}
use Rattle.erfc.specs.Exponentials.{multiple_int, exp1}
use Rattle.erfc.specs.Rows.{Argument, fast_row, fast_end}
use Rattle.erfc.specs.Asymptotics.{one, reciprocal, squared, fast_polynomial, fast_err, fast_step}
use Rattle.erfc.proofs.Tail.{fast_row_within, square_is}
use Rattle.bounds.specs.Num.{Q, ◌⊕◌, ◌⊗◌, whole, tiny}
use Rattle.bounds.specs.Floats.{above, exactly}
use Rattle.bounds.specs.Formulas.{exponential, inverse, polynomial, row_coefficients, formula, AtLeast, Bracketed}
use Rattle.bounds.specs.FastExps.{FastExp}
use Rattle.bounds.specs.FastSteps.{NearFormula}
use Rattle.bounds.proofs.Near as N
use Rattle.bounds.proofs.Computed as Comp
use Rattle.bounds.proofs.RowAndK.{of_x_alone}
use Rattle.bounds.proofs.Bracket.{left, right}
use Rattle.bounds.proofs.AtScale.{At, sum_near, low_size, high_size, weaken_at, same_at, operands, number_of, product_at, turn, Relative, relative_at}
use Rattle.bounds.proofs.Inverse.{times_inverse}
use Rattle.bounds.proofs.Scale.{Least}
use Rattle.bounds.proofs.Chain.{G, G>0}
use Rattle.bounds.proofs.WholeReciprocal.{to_tail, tail_bounds}
use Rattle.bounds.proofs.ExpScale.{Between}
use Rattle.bounds.proofs.FastExp.{exponential_sized}
use Rattle.bounds.proofs.FastRows.{floor, ceiling, row_near}
use Rattle.bounds.proofs.OfX.{fast_square}

-- ---- a scale at which E is 2 ^ 256 or hardly less
pub record Scale (E : Q) : Type 0 where
  pub H : ℕ
  pub H>0 : zero < H
  pub many : 2 ^ 253 ≤ H
  pub few : H ≤ 2 ^ 1234
  pub size : N.Abs H H>0 E (2 ^ 256)
  pub least : Least H E (2 ^ 256 - 8)

scale_of : (E : Q) → Between E → Scale E
scale_of E b = record {
  H = h;
  H>0 = lt_of_lt_of_le (pow_pos 253) big;
  many = big;
  few = le_of_mul-le-mul_right (omega (arith, low, b.least)) k>0;
  size = record { le = subst (λ (u : ℕ). u * h ≤ E.dn * h + 2 ^ 256 * E.den) (sym b.is) (omega (arith, low)); ge = subst (λ (u : ℕ). E.dn * h ≤ u * h + 2 ^ 256 * E.den) (sym b.is) (omega arith) };
  least = record { le = subst (λ (u : ℕ). E.dn * h + (2 ^ 256 - 8) * E.den ≤ u * h) (sym b.is) (omega (arith, lt-mul-div-succ (2 ^ 256 * E.den) k>0, b.most)) };
}
  where
    k : ℕ
    k = b.k

    positive : (d k t : ℕ) → zero < d → d ≤ k * t → zero < k
    positive d zero t p h = absurd (omega (arith, p, h))
    positive d (suc k) t p h = omega arith

    k>0 : zero < k
    k>0 = positive E.den k (2 ^ 978) E.ok b.least

    h : ℕ
    h = 2 ^ 256 * E.den / k

    low : h * k ≤ 2 ^ 256 * E.den
    low = div-mul-le_self (2 ^ 256 * E.den) k

    big : 2 ^ 253 ≤ h
    big = (le-div_iff_mul-le k>0).1 (omega (arith, b.most))

-- what is at least a number above zero is above zero
least_positive : (k : ℕ) (a : Q) (m : ℕ) → 0 < m → Least k a m → a.dn < a.up
least_positive k a m p h = lt_of_mul-lt-mul_right k (omega (arith, h.le, mul-pos p a.ok))

-- ---- what is promised, with row and k in sight
pub record Result (x : Float) (p : 0 < above (val x)) (row : ℕ) (k : ℤ) (v : DoubleDouble) : Type 0 where
  pub pair : Relative v (formula x p row k) (whole 25 ⊗ tiny 72) (tiny 39)
  pub positive : (formula x p row k).dn < (formula x p row k).up

-- the exponential's pair
of_exponential : (x : Float) (k : ℤ) (e : DoubleDouble) → FastExp x k e → (c : Scale (exponential x k)) → At c.H c.H>0 e (exponential x k) (2 ^ 256 + 2 ^ 217) (2 ^ 216 + 1) (2 ^ 185 + 1) (2 ^ 256) (2 ^ 256 - 8)
of_exponential x k e f c = record {
  lo_number = f.low;
  hi_number = f.high;
  hi = Comp.abs_weaken (lit≤ tt) (high_size e 71 40 f.near f.low_small c.size);
  lo = low_size e 71 40 f.near f.low_small c.size;
  near = sum_near e 71 40 f.near f.low_small c.size;
  size = c.size;
  least = c.least;
}

module _ {S : Type 0} (o : Ops S) (m : Meaning o) where
  -- the steps, each from any state
  steps_near : (s t₁ t₂ t₃ t₄ t₅ t₆ : S) (x : Float) (p : 0 < above (val x)) → Argument x fast_end
      → Result x p (fast_row (div binary64 one x)) (multiple_int (neg (mul binary64 x x)))
      (o.pair_times_pair t₆ (o.pair_times_pair t₅ (fast_polynomial o t₄ (fast_row (div binary64 one x)) (squared o t₃ (reciprocal o t₂ x).1).1).1 (reciprocal o t₂ x).1).1 (exp1 o t₁ (negated (o.product s x x).1)).1).1
  steps_near s t₁ t₂ t₃ t₄ t₅ t₆ x p a =
      let row = fast_row (div binary64 one x) in
      let k = multiple_int (neg (mul binary64 x x)) in
      let b = to_tail a in
      let w = tail_bounds x b in
      let K = G * above (val x) in
      let K>0 = mul-pos G>0 p in
      let e = (exp1 o t₁ (negated (o.product s x x).1)).1 in
      let q = (squared o t₃ (reciprocal o t₂ x).1).1 in
      let z = (fast_polynomial o t₄ row q).1 in
      let r = (o.pair_times_pair t₅ z (reciprocal o t₂ x).1).1 in
      let v = (o.pair_times_pair t₆ r e).1 in
      let I = inverse x p in
      let E = exponential x k in
      let A = polynomial (I ⊗ I) (row_coefficients row) in
      -- the polynomial's pair times that of 1/x
      let Z = row_near o m t₄ row q (I ⊗ I) (fast_row_within x fast_end a (lit≤ tt) (div binary64 one x) row refl refl) (fast_square o m t₂ t₃ x p a) in
      let R : At K K>0 r (A ⊗ I) (ceiling * 2 ^ 1074 + 2 ^ 1280) (2 ^ 1283) (23 * 2 ^ 1257 + 2 ^ 1240) (ceiling * 2 ^ 1074) (floor * 2 ^ 1074) =
      weaken_at (lit≤ tt) (lit≤ tt) (lit≤ tt) (times_inverse o m t₂ t₅ x p b Z (operands G (le_refl G) Z (lit≤ tt) (lit≤ tt))) in
      -- that pair times the exponential's
      let X = exponential_sized o m s t₁ x a in
      let c = scale_of E X.between in
      let F = of_exponential x k e X.fast c in
      let J>0 = mul-pos K>0 c.H>0 in
      let V : At (K * c.H) J>0 v (A ⊗ I ⊗ E) (2 ^ 1586) (2 ^ 1546) (51 * 2 ^ 1512) (ceiling * 2 ^ 1074 * 2 ^ 256) (floor * 2 ^ 1074 * (2 ^ 256 - 8)) =
      weaken_at (lit≤ tt) (lit≤ tt) (lit≤ tt)
      (product_at o m t₆ (2 ^ 1499) (le_trans (mul-le-mul (mul-le-mul_left G w.1) c.few) (lit≤ tt))
      R (operands (G * 2 ^ 1074) (mul-le-mul_left G w.0) R (lit≤ tt) (lit≤ tt)) F (operands (2 ^ 253) c.many F (lit≤ tt) (lit≤ tt))) in
      let T = same_at (turn A I E) V in
      record {
        pair = relative_at (whole 25 ⊗ tiny 72) (tiny 39) refl refl (operands (G * 2 ^ 1074 * 2 ^ 253) (mul-le-mul (mul-le-mul_left G w.0) c.many) V (lit≤ tt) (lit≤ tt)) T (lit≤ tt) (lit≤ tt);
        positive = least_positive (K * c.H) (E ⊗ I ⊗ A) (floor * 2 ^ 1074 * (2 ^ 256 - 8)) (lit< tt) T.least;
      }

  to_step : (s : S) (x : Float) (p : 0 < above (val x)) → Result x p (fast_step o s x).1.row (fast_step o s x).1.k (fast_step o s x).1.erf.result → NearFormula x p (fast_step o s x).1
  to_step s x p r = let h = r.pair in record { low = number_of h.operands.lo; high = number_of h.operands.hi; near = h.near; low_small = h.low_small }

  pub fast_result : (s : S) (x : Float) (p : 0 < above (val x)) → Argument x fast_end → Result x p (fast_step o s x).1.row (fast_step o s x).1.k (fast_step o s x).1.erf.result
  unfolding fast_step reciprocal
  fast_result s x p a =
      let u = o.product s x x in
      let e = exp1 o u.0 (negated u.1) in
      let y = reciprocal o e.0 x in
      let q = squared o y.0 y.1 in
      let z = fast_polynomial o q.0 (fast_row y.1.hi) q.1 in
      let r = o.pair_times_pair z.0 z.1 y.1 in
      let v = o.pair_times_pair r.0 r.1 e.1 in
      subst (λ (k : ℤ). Result x p (fast_row (div binary64 one x)) k v.1)
      (sym (ap multiple_int (square_is o m s u.0 u.1 (negated u.1) x fast_end a (lit≤ tt) refl refl)))
      (steps_near s u.0 e.0 y.0 q.0 z.0 r.0 x p a)

  pub fast_near : (s : S) (x : Float) (p : 0 < above (val x)) → Argument x fast_end → NearFormula x p (fast_step o s x).1
  fast_near s x p a = to_step s x p (fast_result s x p a)

  pub err_is : (s : S) (x : Float) → (fast_step o s x).1.erf.err ≡ fast_err (fast_step o s x).1.erf.result.hi
  unfolding fast_step
  err_is s x = refl

  pub fast_bracketed : (s : S) (x : Float) (p : 0 < above (val x)) → Argument x fast_end → Bracketed x p (fast_step o s x).1
  fast_bracketed s x p a =
      let f = (fast_step o s x).1 in
      let r = fast_result s x p a in
      let F = formula x p f.row f.k in
      let lo = f.erf.result.lo in
      let hi = f.erf.result.hi in
      let w = of_x_alone o m in
      record {
        row = w.row s x a;
        k = w.k s x a;
        left = subst (λ (e : Float). AtLeast F (exactly hi ⊕ exactly (sub binary64 lo e))) (sym (err_is s x)) (left f.erf.result F r.positive r.pair);
        right = subst (λ (e : Float). AtLeast (exactly hi ⊕ exactly (add binary64 lo e)) F) (sym (err_is s x)) (right f.erf.result F r.positive r.pair);
      }
