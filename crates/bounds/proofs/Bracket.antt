-- From the error of the fast step's pair to the ends of the rounding test. Assumes nothing.
use Rattle.std.proofs.Common.{◌≡◌, ℕ, ◌+◌, ◌-◌, ◌*◌, ◌^◌, ◌<◌, ◌≤◌, Bool, true, false, cond, T, ℤ, pos, negsuc, ◌+ℤ◌, ◌-ℤ◌, ◌*ℤ◌, nat_abs, sym, refl, ap, ◌∙◌, subst, subst₂, le_of_eq, le_of_lt, lt_of_lt_of_le, mul-le-mul_right, mul-pos, le_of_mul-le-mul_right, arith, lit<, lit≤, pow_pos}
use Rattle.std.proofs.Math.IntN.{+ℤ_idr}
use native.Mathlib.Decide.{dec_le}
use borrow.Author.Differences.{up, down}
use lib.Ieee.{Float, binary64, of_bits, mul, le, add, sub}
use lib.Ieee.Bits.{of_bits-fits}
use Rattle.ieee.specs.Val.{val, rq}
use Rattle.ieee.specs.Pairs.{Good}
use Rattle.ieee.specs.Meaning.{Number, Operand}
use Rattle.ieee.proofs.Ints.{zs, abs_mul}
use Rattle.ieee.proofs.Scaled.{sub_scaled, add_scaled}
use Rattle.ieee.proofs.Compare.{Upto, le_out, le_in}
use Rattle.ieee.proofs.Floats.{good_up, good_add, good_sub}
use Rattle.ieee.proofs.Fractions.{rq_error}
use Rattle.ieee.proofs.Products.{good_times}
use Rattle.ieee.proofs.Highs.{good_operand}
use Rattle.ieee.proofs.PairTimes.{rz_error}
use Rattle.double_double.specs.declared.double_double.DoubleDouble.{DoubleDouble}
use Rattle.erfc.specs.Asymptotics.{min_normal, fast_err}
use Rattle.bounds.specs.Num.{Q, ◌⊕◌, ◌⊗◌, whole, tiny}
use Rattle.bounds.specs.Floats.{exactly}
use Rattle.bounds.specs.Formulas.{AtLeast}
use Rattle.bounds.proofs.AtScale.{Relative}
use Rattle.bounds.proofs.Over.{Over, over_units, over_tiny, over_zero, over_add, over_mul, over_scale, over_above, relative_out, tiny_out, scaled_abs, at_least, far, positive_near}

-- ---- all in units of 2 ^ -1074 times F's denominator: f is F, h and l the pair, e err, a and b the ends
left₀ : (h l e a : ℤ) (n : ℕ) → 2 ^ 76 * nat_abs (h +ℤ l -ℤ pos n) ≤ 400 * n → 2 ^ 39 * nat_abs l ≤ n → 2 ^ 53 * nat_abs (a -ℤ (l -ℤ e)) ≤ nat_abs (l -ℤ e) → 450 * nat_abs h ≤ 2 ^ 76 * nat_abs e → h ≡ pos (nat_abs h) → e ≡ pos (nat_abs e)
    → up (h +ℤ a) ≤ n + down (h +ℤ a)
left₀ h l e a n p q r s H E = omega zs

right₀ : (h l e b : ℤ) (n : ℕ) → 2 ^ 76 * nat_abs (h +ℤ l -ℤ pos n) ≤ 400 * n → 2 ^ 39 * nat_abs l ≤ n → 2 ^ 53 * nat_abs (b -ℤ (l +ℤ e)) ≤ nat_abs (l +ℤ e) → 450 * nat_abs h ≤ 2 ^ 76 * nat_abs e → h ≡ pos (nat_abs h) → e ≡ pos (nat_abs e)
    → n + down (h +ℤ b) ≤ up (h +ℤ b)
right₀ h l e b n p q r s H E = omega zs

-- ---- err is at least 450 / 2 ^ 76 of hi, in both its branches
abbrev ratio : Float
ratio = of_bits binary64 0x3bbd900000000000

abbrev change : Float
change = of_bits binary64 0x044151b9a3fdd5c9

ratio_is : val ratio ≡ pos (473 * 2 ^ 998)
unfolding of_bits
ratio_is = refl

ratio_good : Good ratio 1007
unfolding of_bits
ratio_good = record { holds = of_bits-fits binary64 0x3bbd900000000000; number = tt; small = lit≤ tt }

change_is : val change ≡ pos (0x1151b9a3fdd5c9 * 2 ^ 67)
unfolding of_bits
change_is = refl

change_number : Number change
unfolding of_bits
change_number = record { holds = of_bits-fits binary64 0x044151b9a3fdd5c9; number = tt }

least_is : val min_normal ≡ pos (2 ^ 52)
unfolding of_bits
least_is = refl

least_good : Good min_normal 1474
unfolding of_bits
least_good = record { holds = of_bits-fits binary64 0x0010000000000000; number = tt; small = lit≤ tt }

pub record Enough (n : ℕ) (err : Float) : Type 0 where
  pub e : ℕ
  pub is : val err ≡ pos e
  pub enough : 450 * n ≤ 2 ^ 76 * e
  pub good : Good err 1474

enough₀ : (M n e d : ℕ) → 0 < M → 473 * M * n ≤ e * (2 ^ 76 * M) + d → 2 ^ 53 * d ≤ 473 * M * n + 2 ^ 52 * (2 ^ 76 * M) → 2 ^ 119 ≤ n → 450 * n ≤ 2 ^ 76 * e
enough₀ M n e d p h k l = go (le_of_mul-le-mul_right (omega (arith, h, k)) p)
  where
    go : 2 ^ 53 * 473 * n ≤ 2 ^ 129 * e + 473 * n + 2 ^ 128 → 450 * n ≤ 2 ^ 76 * e
    go h = omega arith

product_enough : (M n : ℕ) (z : ℤ) → 0 < M → 2 ^ 53 * nat_abs (z *ℤ pos (2 ^ 76 * M) -ℤ pos (473 * M * n)) ≤ 473 * M * n + 2 ^ 52 * (2 ^ 76 * M) → 2 ^ 119 ≤ n → (e : ℕ) × ((z ≡ pos e) × (450 * n ≤ 2 ^ 76 * e))
product_enough M n z p h l =
    let d = nat_abs (z *ℤ pos (2 ^ 76 * M) -ℤ pos (473 * M * n)) in
    let e = positive_near z (2 ^ 76 * M) (473 * M * n) (mul-pos (mul-pos (lit< tt) p) (lt_of_lt_of_le (lit< tt) l)) (omega (arith, h, l, mul-le-mul_right M l)) in
    (nat_abs z, (e, enough₀ M n (nat_abs z) d p (far (nat_abs z * (2 ^ 76 * M)) (473 * M * n) d (le_of_eq (ap (λ (y : ℤ). nat_abs (y *ℤ pos (2 ^ 76 * M) -ℤ pos (473 * M * n))) (sym e)))) h l))

err_enough : (hi : Float) → Operand hi → (n : ℕ) → val hi ≡ pos n → Enough n (fast_err hi)
err_enough hi o n h = by (le change hi) refl
  where
    by : (b : Bool) → le change hi ≡ b → Enough n (cond b (mul binary64 ratio hi) min_normal)
    by true e =
        let u : Upto (pos (0x1151b9a3fdd5c9 * 2 ^ 67)) (pos n) = subst₂ Upto change_is h (le_out change hi change_number.holds o.holds change_number.number o.number (subst T (sym e) tt)) in
        let G = good_times ratio hi 1007 1474 1407 ratio_good (good_operand hi o) refl (lit< tt) in
        let z : val (mul binary64 ratio hi) ≡ rq (pos (473 * 2 ^ 998 * n)) (2 ^ 1074) = G.1 ∙ ap (λ (t : ℤ). rq (t *ℤ val hi) (2 ^ 1074)) ratio_is ∙ ap (λ (t : ℤ). rq (pos (473 * 2 ^ 998) *ℤ t) (2 ^ 1074)) h in
        let w = product_enough (2 ^ 998) n (val (mul binary64 ratio hi)) (pow_pos 998)
        (subst (λ (t : ℤ). 2 ^ 53 * nat_abs (t *ℤ pos (2 ^ 1074) -ℤ pos (473 * 2 ^ 998 * n)) ≤ 473 * 2 ^ 998 * n + 2 ^ 52 * 2 ^ 1074) (sym z) (rq_error (pos (473 * 2 ^ 998 * n)) (2 ^ 1074) (pow_pos 1074))) (omega (arith, u)) in
        record { e = w.0; is = w.1.0; enough = w.1.1; good = good_up (mul binary64 ratio hi) 1408 1474 (lit≤ tt) G.0 }
    by false e = record { e = 2 ^ 52; is = least_is; enough = under (dec_le (0x1151b9a3fdd5c9 * 2 ^ 67) n); good = least_good }
      where
        under : Dec (0x1151b9a3fdd5c9 * 2 ^ 67 ≤ n) → 450 * n ≤ 2 ^ 76 * 2 ^ 52
        under (yes k) = absurd (subst T e (le_in change hi change_number.holds o.holds change_number.number o.number (subst₂ Upto (sym change_is) (sym h) (omega (arith, k)))))
        under (no k) = omega (arith, k)

scaled_pos : (z : ℤ) (d : ℕ) → z ≡ pos (nat_abs z) → z *ℤ pos d ≡ pos (nat_abs (z *ℤ pos d))
scaled_pos (pos n) d e = refl
scaled_pos (negsuc n) d e = absurd (omega (zs, e))

-- what stands between F and the pair, as integers
module _ (v : DoubleDouble) (F : Q) (positive : F.dn < F.up) (r : Relative v F (whole 25 ⊗ tiny 72) (tiny 39)) where
  abbrev hi : Float
  hi = v.hi

  abbrev lo : Float
  lo = v.lo

  -- F in units of 2 ^ -1074 over its denominator
  abbrev f : ℕ
  f = (F.up - F.dn) * 2 ^ 1074

  f_over : Over F (pos f) (2 ^ 1074 * F.den)
  f_over = over_above F (le_of_lt positive)

  near_is : 2 ^ 76 * nat_abs (val hi *ℤ pos F.den +ℤ val lo *ℤ pos F.den -ℤ pos f) ≤ 400 * f
  near_is =
      let w = relative_out (over_scale F.den refl (over_add (over_units (val hi)) (over_units (val lo)))) f_over f_over (over_mul {a = whole 25} {x = pos 25} {k = 1} (record { is = refl }) (over_tiny 72)) r.near in
      subst (λ (z : ℤ). 2 ^ 76 * nat_abs (z -ℤ pos f) ≤ 400 * f) (sym (add_scaled (val hi) (val lo) (pos F.den))) (omega (arith, w))

  low_is : 2 ^ 39 * nat_abs (val lo *ℤ pos F.den) ≤ f
  low_is = subst (λ (n : ℕ). 2 ^ 39 * n ≤ f) (ap nat_abs (+ℤ_idr (val lo *ℤ pos F.den))) (tiny_out 39 (over_scale F.den refl (over_units (val lo))) (over_zero (2 ^ 1074 * F.den)) f_over r.low_small)

  f_positive : 0 < f
  f_positive = mul-pos (omega (arith, positive)) (pow_pos 1074)

  hi_positive : val hi ≡ pos (nat_abs (val hi))
  hi_positive = positive_near (val hi) F.den f f_positive (omega (zs, near_is, low_is))

  pub err : Enough (nat_abs (val hi)) (fast_err hi)
  err = err_enough hi r.operands.hi (nat_abs (val hi)) hi_positive

  -- an end: s is z rounded, times the denominator
  end_near : (s z : ℤ) → 2 ^ 53 * nat_abs (s -ℤ z) ≤ nat_abs z → 2 ^ 53 * nat_abs (s *ℤ pos F.den -ℤ z *ℤ pos F.den) ≤ nat_abs (z *ℤ pos F.den)
  end_near s z h = rw (scaled_abs s z F.den, abs_mul z (pos F.den)) (omega (arith, h, mul-le-mul_right F.den h))

  err_scaled : 450 * nat_abs (val hi *ℤ pos F.den) ≤ 2 ^ 76 * nat_abs (val (fast_err hi) *ℤ pos F.den)
  err_scaled = rw (abs_mul (val hi) (pos F.den), abs_mul (val (fast_err hi)) (pos F.den)) (most (nat_abs (val hi)) (nat_abs (val (fast_err hi))) F.den (subst (λ (z : ℤ). 450 * nat_abs (val hi) ≤ 2 ^ 76 * nat_abs z) (sym err.is) err.enough))
    where
      most : (h e d : ℕ) → 450 * h ≤ 2 ^ 76 * e → 450 * (h * d) ≤ 2 ^ 76 * (e * d)
      most h e d k = omega (arith, mul-le-mul_right d k)

  err_positive : val (fast_err hi) ≡ pos (nat_abs (val (fast_err hi)))
  err_positive = err.is ∙ ap (λ (z : ℤ). pos (nat_abs z)) (sym err.is)

  left_is : up (val hi *ℤ pos F.den +ℤ val (sub binary64 lo (fast_err hi)) *ℤ pos F.den) ≤ f + down (val hi *ℤ pos F.den +ℤ val (sub binary64 lo (fast_err hi)) *ℤ pos F.den)
  left_is =
      let z = val lo -ℤ val (fast_err hi) in
      let g = good_sub lo (fast_err hi) 1474 (good_operand lo r.operands.lo) err.good (lit< tt) in
      let n = end_near (val (sub binary64 lo (fast_err hi))) z (rz_error (val (sub binary64 lo (fast_err hi))) z g.1) in
      left₀ (val hi *ℤ pos F.den) (val lo *ℤ pos F.den) (val (fast_err hi) *ℤ pos F.den) (val (sub binary64 lo (fast_err hi)) *ℤ pos F.den) f near_is low_is
      (subst (λ (t : ℤ). 2 ^ 53 * nat_abs (val (sub binary64 lo (fast_err hi)) *ℤ pos F.den -ℤ t) ≤ nat_abs t) (sym (sub_scaled (val lo) (val (fast_err hi)) (pos F.den))) n)
      err_scaled (scaled_pos (val hi) F.den hi_positive) (scaled_pos (val (fast_err hi)) F.den err_positive)

  right_is : f + down (val hi *ℤ pos F.den +ℤ val (add binary64 lo (fast_err hi)) *ℤ pos F.den) ≤ up (val hi *ℤ pos F.den +ℤ val (add binary64 lo (fast_err hi)) *ℤ pos F.den)
  right_is =
      let z = val lo +ℤ val (fast_err hi) in
      let g = good_add lo (fast_err hi) 1474 (good_operand lo r.operands.lo) err.good (lit< tt) in
      let n = end_near (val (add binary64 lo (fast_err hi))) z (rz_error (val (add binary64 lo (fast_err hi))) z g.1) in
      right₀ (val hi *ℤ pos F.den) (val lo *ℤ pos F.den) (val (fast_err hi) *ℤ pos F.den) (val (add binary64 lo (fast_err hi)) *ℤ pos F.den) f near_is low_is
      (subst (λ (t : ℤ). 2 ^ 53 * nat_abs (val (add binary64 lo (fast_err hi)) *ℤ pos F.den -ℤ t) ≤ nat_abs t) (sym (add_scaled (val lo) (val (fast_err hi)) (pos F.den))) n)
      err_scaled (scaled_pos (val hi) F.den hi_positive) (scaled_pos (val (fast_err hi)) F.den err_positive)

  -- hi and an end, over the same denominator
  end_over : (e : Float) → Over (exactly hi ⊕ exactly e) (val hi *ℤ pos F.den +ℤ val e *ℤ pos F.den) (2 ^ 1074 * F.den)
  end_over e = subst (λ (z : ℤ). Over (exactly hi ⊕ exactly e) z (2 ^ 1074 * F.den)) (sym (add_scaled (val hi) (val e) (pos F.den))) (over_scale F.den refl (over_add (over_units (val hi)) (over_units (val e))))

  pub left : AtLeast F (exactly hi ⊕ exactly (sub binary64 lo (fast_err hi)))
  left = at_least (mul-pos (pow_pos 1074) F.ok) (end_over (sub binary64 lo (fast_err hi))) f_over (omega (arith, left_is))

  pub right : AtLeast (exactly hi ⊕ exactly (add binary64 lo (fast_err hi))) F
  right = at_least (mul-pos (pow_pos 1074) F.ok) f_over (end_over (add binary64 lo (fast_err hi))) (omega (arith, right_is))
