-- What is left of -x² after K multiples of log 2, in the accurate exponential: the pair is within 2 ^ -93 of the exact residue, and small. Assumes nothing.
use Rattle.std.proofs.Common.{◌≡◌, ℕ, suc, ◌+◌, ◌*◌, ◌^◌, ◌≤◌, ℤ, pos, negsuc, ◌+ℤ◌, ◌*ℤ◌, neg_ℤ, nat_abs, sym, refl, ap, ◌∙◌, subst, inr, le_trans, le_of_eq, lt_of_le_of_lt, mul-le-mul, arith, lit<, lit≤, pow_pos}
use Rattle.std.proofs.Math.IntN.{+ℤ_comm}
use Rattle.std.specs.Float.{round_ties_even}
use lib.Ieee.{Float, binary64, of_bits, of_int, add, mul, neg}
use lib.Ieee.Fits.{add-fits, sub-fits}
use Rattle.ieee.specs.Val.{val, Mult}
use Rattle.ieee.specs.Pairs.{Good, Leads, SumOf}
use Rattle.ieee.specs.Whole.{Whole}
use Rattle.ieee.specs.Meaning.{Number, Operand, ProductMeans, MaddMeans, IsF64, fine}
use Rattle.ieee.proofs.Ints.{abs_le, abs_mul, massoc, mcomm, dist}
use Rattle.ieee.proofs.Whole.{mult_add}
use Rattle.ieee.proofs.Sums.{repr_of}
use Rattle.ieee.proofs.Split.{mult_scale}
use Rattle.ieee.proofs.Floats.{good_add, quick_add, full_add}
use Rattle.ieee.proofs.Middle.{to_f64}
use Rattle.double_double.specs.Pairs.{negated, two_sum, fast_two_sum}
use Rattle.double_double.specs.Ops.{Ops, Meaning}
use Rattle.erfc.specs.Rows.{Argument, tail_end}
use Rattle.erfc.specs.Exponentials.{log2_inv, log2_high, log2_low, log2_tiny, accurate_multiple, accurate_multiple_int, accurate_argument}
use Rattle.erfc.proofs.Tail.{operand, square_is, accurate_whole}
use Rattle.erfc.proofs.Casts.{cast_is}
use Rattle.bounds.specs.Num.{Q, ◌⊕◌, ◌⊗◌, whole, Same}
use Rattle.bounds.specs.Steps.{ExactAdd}
use Rattle.bounds.specs.Floats.{pair_of, units, exactly, minus}
use Rattle.bounds.specs.Formulas.{integer}
use Rattle.bounds.specs.AccurateFormulas.{log2, accurate_residue}
use Rattle.bounds.proofs.Near.{abs_add, abs_near, near_add, near_refl, near_same, near_sym}
use Rattle.bounds.proofs.Computed.{product_size, size_of}
use Rattle.bounds.proofs.Relative as R
use Rattle.bounds.proofs.Scale.{Least, near_least, whole_size, whole_least}
use Rattle.bounds.proofs.Over.{Over, over_units, over_add, over_mul, same_over}
use Rattle.bounds.proofs.Chain.{G, Near, Abs, near_to, abs_to, least_to, least_product, ◌then◌, one_plus, spread, swap, grouped, rounded_near, times_near, fma_near, exact_near, exact_low, exact_high}
use Rattle.bounds.proofs.Sizes.{known, units_below, sized_good, sized_operand, product_good}
use Rattle.bounds.proofs.FromMeaning.{product_rounds, madd_means, sum_means, exact_sum}
use Rattle.bounds.proofs.ExpWhole.{neg_number, near_minus, difference_size, minus_product}
use Rattle.bounds.proofs.ExpArg.{multiple_near, argument_size, negated_near, negated_high, negated_low}
use Rattle.bounds.proofs.Loop.{Holds}
use Rattle.bounds.proofs.AccurateSeries.{argument_bounds}
use Rattle.bounds.proofs.Multiples.{whole_is, whole_same, whole_operand, multiple_least, leads_multiple}

-- ---- the constants
inverse_size : Abs (exactly log2_inv) (2 ^ 257)
unfolding of_bits
inverse_size = abs_to (2 ^ 257) (size_of (exactly log2_inv)) tt

high_size : Abs (exactly log2_high) (710 * 2 ^ 246)
unfolding of_bits
high_size = abs_to (710 * 2 ^ 246) (size_of (exactly log2_high)) tt

low_size : Abs (exactly log2_low) (2 ^ 201)
unfolding of_bits
low_size = abs_to (2 ^ 201) (size_of (exactly log2_low)) tt

tiny_size : Abs (exactly log2_tiny) (2 ^ 154)
unfolding of_bits
tiny_size = abs_to (2 ^ 154) (size_of (exactly log2_tiny)) tt

high_least : Least G (exactly log2_high) (2 ^ 255)
unfolding of_bits
high_least = record { le = lit≤ tt }

-- 1 / log 2 times log 2, both rounded, is 1 but for 2 ^ -54
inverses : Near (exactly log2_inv ⊗ exactly log2_high) (whole 1) (2 ^ 202)
unfolding of_bits
inverses = record { le = lit≤ tt; ge = lit≤ tt }

-- the last place of the high part is 2 ^ -53
high_multiple : Mult 1021 (val log2_high)
unfolding of_bits
high_multiple = (pos 6243314768165359, refl)

inverse_operand : Operand log2_inv
unfolding of_bits
inverse_operand = sized_operand log2_inv (known 0x3ff71547652b82fe tt) inverse_size tt

high_operand : Operand log2_high
unfolding of_bits
high_operand = sized_operand log2_high (known 0x3fe62e42fefa39ef tt) high_size tt

low_operand : Operand log2_low
unfolding of_bits
low_operand = sized_operand log2_low (known 0x3c7abc9e3b398000 tt) low_size tt

tiny_operand : Operand log2_tiny
unfolding of_bits
tiny_operand = sized_operand log2_tiny (known 0x398f97b57a079a19 tt) tiny_size tt

-- a + ((b + c) + d) = ((a + b) + c) + d
gathered : (a b c d : Q) → Near (a ⊕ (b ⊕ c ⊕ d)) (a ⊕ b ⊕ c ⊕ d) 0
gathered a b c d = near_to 0 (near_sym (grouped a (b ⊕ c) d) then near_add (near_sym (grouped a b c)) (near_refl d)) tt

-- ---- c, the high part of -x², is near K log 2, with the high part of log 2 alone
head_near : (c : Float) → Operand c → Abs (exactly c) (2 ^ 267) → (k : Q) → Same (exactly (round_ties_even binary64 (mul binary64 c log2_inv))) k → Near (exactly c) (k ⊗ exactly log2_high) (355 * 2 ^ 246 + 2 ^ 217)
head_near c C cs k K = near_to (355 * 2 ^ 246 + 2 ^ 217) (multiple_near log2_inv log2_high c inverse_operand C inverse_size high_size inverses cs k K) tt

-- ---- whole numbers of the high part of log 2
high_abs : 2 ^ 1073 ≤ nat_abs (val log2_high)
unfolding of_bits
high_abs = lit≤ tt

-- c + N h in the unit of a product, where c is in units of l
fine_is : (c h : ℤ) (n l : ℕ) → (c +ℤ pos n *ℤ h) *ℤ pos l ≡ pos (n * l) *ℤ h +ℤ c *ℤ pos l
fine_is c h n l =
    dist c (pos n *ℤ h) (pos l) ∙ ap (λ (z : ℤ). c *ℤ pos l +ℤ z) (massoc (pos n) h (pos l) ∙ ap (λ (z : ℤ). pos n *ℤ z) (mcomm h (pos l)) ∙ sym (massoc (pos n) (pos l) h)) ∙ +ℤ_comm (c *ℤ pos l) (pos (n * l) *ℤ h)

module _ (n : ℕ) (low : 12 ≤ suc n) (high : suc n ≤ 1070) where
  abbrev j : Float
  j = of_int binary64 (pos (suc n))

  n_size : Abs (whole (suc n)) (1070 * 2 ^ 256)
  n_size = whole_size (suc n) 1070 high

  j_is : val j ≡ pos (suc n * 2 ^ 1074)
  j_is = (whole_is (pos (suc n)) (omega arith)).1

  j_same : Same (exactly j) (whole (suc n))
  j_same = whole_same (pos (suc n)) (omega arith)

  j_size : Abs (exactly j) (1070 * 2 ^ 256)
  j_size = abs_to (1070 * 2 ^ 256) (abs_near n_size (near_sym (near_same j_same))) tt

  j_operand : Operand j
  j_operand = whole_operand (pos (suc n)) (omega arith)

  -- the exact -x² - K log 2, of the high parts
  module _ (c : Float) (cn : Number c) (ck : Near (exactly c) (integer (negsuc n) ⊗ exactly log2_high) (355 * 2 ^ 246 + 2 ^ 217)) where
    abbrev z : ℤ
    z = val c +ℤ pos (suc n) *ℤ val log2_high

    z_same : Same (units z) (exactly c ⊕ whole (suc n) ⊗ exactly log2_high)
    z_same = same_over (pow_pos 1074) (over_units z) (over_add (over_units (val c)) (over_mul n_over (over_units (val log2_high))))
      where
        n_over : Over (whole (suc n)) (pos (suc n)) 1
        n_over = record { is = refl }

    z_size : Abs (units z) (355 * 2 ^ 246 + 2 ^ 217)
    z_size = abs_to (355 * 2 ^ 246 + 2 ^ 217)
        (abs_near (difference_size ck) (one_plus (exactly c) (near_same (minus_product (integer (negsuc n)) (exactly log2_high))) then near_sym (near_same z_same))) tt

    -- c is at most -1/2, so a multiple of 2 ^ -53
    c_least : Least G (minus (exactly c)) (2 ^ 255)
    c_least = near_least {e = 355 * 2 ^ 246 + 2 ^ 217 + 0} {k = 2 ^ 255} (least_to (2 ^ 255 + (355 * 2 ^ 246 + 2 ^ 217 + 0)) (least_product (12 * 2 ^ 255) (whole_least (suc n) 12 low) high_least tt) tt)
        (near_sym (near_minus ck then near_same (minus_product (integer (negsuc n)) (exactly log2_high))))

    c_multiple : Mult 1021 (val c)
    c_multiple = multiple_least 1021 c cn c_least tt

    z_multiple : Mult 1021 z
    z_multiple = mult_add 1021 (val c) (pos (suc n) *ℤ val log2_high) c_multiple (mult_scale 1021 (pos (suc n)) (val log2_high) high_multiple)

    z_below : nat_abs z ≤ 2 ^ 53 * 2 ^ 1021
    z_below = units_below z z_size (2 ^ 53 * 2 ^ 1021) tt

    z_is : IsF64 z
    z_is = to_f64 z (repr_of 1021 z z_multiple (abs_le z (2 ^ 53 * 2 ^ 1021) z_below)) (lt_of_le_of_lt z_below (lit< tt))

    settled : 2 ^ 1248 ≤ nat_abs (val j *ℤ val log2_high)
    settled = subst (λ (y : ℤ). 2 ^ 1248 ≤ nat_abs (y *ℤ val log2_high)) (sym j_is) (le_trans (le_trans (lit≤ tt) (mul-le-mul (more (2 ^ 1074)) high_abs)) (le_of_eq (sym (abs_mul (pos (suc n * 2 ^ 1074)) (val log2_high)))))
      where
        more : (l : ℕ) → l ≤ suc n * l
        more l = omega arith

    -- so the multiply-add gives it
    exact_head : (h : Float) → MaddMeans j log2_high c h → val h ≡ z
    exact_head h M = M.exact (inr settled) z z_is (fine_is (val c) (val log2_high) (suc n) (2 ^ 1074) ∙ ap (λ (y : ℤ). y *ℤ val log2_high +ℤ fine (val c)) (sym j_is))

    -- ---- the steps, with d for the low part of -x²
    module _ (d h : Float) (dn : Number d) (ds : Abs (exactly d) (2 ^ 214)) (M : MaddMeans j log2_high c h) where
      h_is : val h ≡ z
      h_is = exact_head h M

      h_size : Abs (exactly h) (355 * 2 ^ 246 + 2 ^ 217)
      h_size = subst (λ (y : ℤ). Abs (units y) (355 * 2 ^ 246 + 2 ^ 217)) (sym h_is) z_size

      h_same : Same (exactly h) (exactly c ⊕ whole (suc n) ⊗ exactly log2_high)
      h_same = subst (λ (y : ℤ). Same (units y) (exactly c ⊕ whole (suc n) ⊗ exactly log2_high)) (sym h_is) z_same

      -- the product with the low part of log 2
      abbrev p : Float
      p = mul binary64 j log2_low

      p_number : Number p
      p_number = product_good j log2_low j_operand low_operand

      p_near : Near (exactly p) (whole (suc n) ⊗ exactly log2_low) (2 ^ 159)
      p_near = near_to (2 ^ 159) (times_near (product_rounds j log2_low j_operand low_operand) (product_size j_size low_size) then R.equal_factor (exactly log2_low) j_same) tt

      p_size : Abs (exactly p) (2 ^ 212)
      p_size = abs_to (2 ^ 212) (abs_near (product_size n_size low_size) (near_sym p_near)) tt

      -- its exact sum with d
      abbrev th : Float
      th = (two_sum p d).hi

      abbrev tl : Float
      tl = (two_sum p d).lo

      t_sum : SumOf p d tl th
      t_sum = full_add p d 1100 (sized_good p p_number p_size 1100 tt) (sized_good d dn ds 1100 tt) (lit< tt)

      t_exact : ExactAdd (exactly p) (exactly d) (pair_of tl th)
      t_exact = exact_sum p d tl th t_sum

      th_number : Number th
      th_number = record { holds = add-fits binary64 p d; number = t_sum.hi_number }

      tl_number : Number tl
      tl_number = record { holds = add-fits binary64 _ _; number = t_sum.lo_number }

      th_size : Abs (exactly th) (2 ^ 215)
      th_size = abs_to (2 ^ 215) (exact_high t_exact (abs_add p_size ds)) tt

      tl_size : Abs (exactly tl) (2 ^ 162)
      tl_size = abs_to (2 ^ 162) (exact_low t_exact (abs_add p_size ds)) tt

      -- its last place divides h
      leads : Leads h th
      leads = leads_multiple 1021 h th (subst (Mult 1021) (sym h_is) z_multiple) th_size tt

      abbrev yh : Float
      yh = (fast_two_sum h th).hi

      abbrev yl : Float
      yl = (fast_two_sum h th).lo

      y_sum : SumOf h th yl yh
      y_sum = quick_add h th 1100 (sized_good h M.answer h_size 1100 tt) (sized_good th th_number th_size 1100 tt) leads (lit< tt)

      y_exact : ExactAdd (exactly h) (exactly th) (pair_of yl yh)
      y_exact = exact_sum h th yl yh y_sum

      yl_number : Number yl
      yl_number = record { holds = sub-fits binary64 _ _; number = y_sum.lo_number }

      yh_number : Number yh
      yh_number = record { holds = add-fits binary64 h th; number = y_sum.hi_number }

      yh_size : Abs (exactly yh) (355 * 2 ^ 246 + 2 ^ 218)
      yh_size = abs_to (355 * 2 ^ 246 + 2 ^ 218) (exact_high y_exact (abs_add h_size th_size)) tt

      yl_size : Abs (exactly yl) (2 ^ 202)
      yl_size = abs_to (2 ^ 202) (exact_low y_exact (abs_add h_size th_size)) tt

      -- the low parts together
      abbrev v : Float
      v = add binary64 yl tl

      yl_good : Good yl 1100
      yl_good = sized_good yl yl_number yl_size 1100 tt

      tl_good : Good tl 1100
      tl_good = sized_good tl tl_number tl_size 1100 tt

      v_number : Number v
      v_number = record { holds = add-fits binary64 yl tl; number = (good_add yl tl 1100 yl_good tl_good (lit< tt)).0.number }

      v_near : Near (exactly v) (exactly yl ⊕ exactly tl) (2 ^ 150)
      v_near = near_to (2 ^ 150) (rounded_near (sum_means yl tl 1100 yl_good tl_good (lit< tt)) (abs_add yl_size tl_size)) tt

      v_size : Abs (exactly v) (2 ^ 202 + 2 ^ 163)
      v_size = abs_to (2 ^ 202 + 2 ^ 163) (abs_near (abs_add yl_size tl_size) (near_sym v_near)) tt

      v_operand : Operand v
      v_operand = sized_operand v v_number v_size tt

      -- and the least part of log 2
      module _ (l : Float) (L : MaddMeans j log2_tiny v l) where
        l_near : Near (exactly l) (exactly v ⊕ whole (suc n) ⊗ exactly log2_tiny) (2 ^ 151)
        l_near = near_to (2 ^ 151) (fma_near j_size tiny_size v_size (madd_means j log2_tiny v l L) then one_plus (exactly v) (R.equal_factor (exactly log2_tiny) j_same)) tt

        l_size : Abs (exactly l) (2 ^ 203)
        l_size = abs_to (2 ^ 203) (abs_near (abs_add v_size (product_size n_size tiny_size)) (near_sym l_near)) tt

        -- the pair against the exact sum
        together : Near (exactly yh ⊕ exactly l) (exactly c ⊕ exactly d ⊕ whole (suc n) ⊗ log2) (2 ^ 160)
        together = near_to (2 ^ 160)
            (one_plus (exactly yh) (l_near then near_add v_near (near_refl (whole (suc n) ⊗ exactly log2_tiny)))
            then gathered (exactly yh) (exactly yl) (exactly tl) (whole (suc n) ⊗ exactly log2_tiny)
            then near_add (near_add (exact_near y_exact) (near_refl (exactly tl)) then grouped (exactly h) (exactly th) (exactly tl) then near_add (near_same h_same) (exact_near t_exact then near_add p_near (near_refl (exactly d)))) (near_refl (whole (suc n) ⊗ exactly log2_tiny))
            then near_add (swap (exactly c) (whole (suc n) ⊗ exactly log2_high) (whole (suc n) ⊗ exactly log2_low) (exactly d)) (near_refl (whole (suc n) ⊗ exactly log2_tiny))
            then grouped (exactly c ⊕ exactly d) (whole (suc n) ⊗ exactly log2_high ⊕ whole (suc n) ⊗ exactly log2_low) (whole (suc n) ⊗ exactly log2_tiny)
            then one_plus (exactly c ⊕ exactly d) (near_add (spread (whole (suc n)) (exactly log2_high) (exactly log2_low)) (near_refl (whole (suc n) ⊗ exactly log2_tiny)) then spread (whole (suc n)) (exactly log2_high ⊕ exactly log2_low) (exactly log2_tiny))) tt

        pair_holds : (X : Q) → Near (exactly c ⊕ exactly d) X (2 ^ 162 + 2 ^ 150) → Holds argument_bounds (record { lo = l; hi = yh }) (X ⊕ minus (integer (negsuc n) ⊗ log2))
        pair_holds X q =
            let e = near_to (2 ^ 163) (together then near_add q (near_sym (near_same (minus_product (integer (negsuc n)) log2)))) tt in
            record {
              lo_number = L.answer;
              hi_number = yh_number;
              parts = record { hi = abs_to (89 * 2 ^ 248) yh_size tt; lo = l_size };
              near = e;
              size = abs_to (89 * 2 ^ 248) (abs_near (abs_add yh_size l_size) e) tt;
            }

module _ {S : Type 0} (o : Ops S) (m : Meaning o) where
  -- with the multiple -(n + 1)
  module _ (t : S) (x : Float) (xs : Abs (exactly x) (2 ^ 261)) (l h : Float) (U : ProductMeans x x l h) (n : ℕ) (low : 12 ≤ suc n) (high : suc n ≤ 1070) (e : accurate_multiple (neg h) ≡ of_int binary64 (negsuc n)) where
    c_operand : Operand (neg h)
    c_operand = sized_operand (neg h) (neg_number U.high) (negated_high x xs l h U) tt

    c_near : Near (exactly (neg h)) (integer (negsuc n) ⊗ exactly log2_high) (355 * 2 ^ 246 + 2 ^ 217)
    c_near = head_near (neg h) c_operand (negated_high x xs l h U) (integer (negsuc n)) (subst (λ (z : Float). Same (exactly z) (integer (negsuc n))) (sym e) (whole_same (negsuc n) (omega arith)))

    reduced : Holds argument_bounds (accurate_argument o t (of_int binary64 (pos (suc n))) (record { lo = neg l; hi = neg h })).1 (accurate_residue x (negsuc n))
    unfolding accurate_argument
    reduced =
        let f = of_int binary64 (pos (suc n)) in
        let F = j_operand n low high in
        let r = o.multiply_add t f log2_high (neg h) in
        let M = m.multiply_add t f log2_high (neg h) F high_operand c_operand in
        let ds = negated_low x xs l h U in
        let w = v n low high (neg h) (neg_number U.high) c_near (neg l) r.1 (neg_number U.low) ds M in
        let L = m.multiply_add r.0 f log2_tiny w F tiny_operand (v_operand n low high (neg h) (neg_number U.high) c_near (neg l) r.1 (neg_number U.low) ds M) in
        pair_holds n low high (neg h) (neg_number U.high) c_near (neg l) r.1 (neg_number U.low) ds M (o.multiply_add r.0 f log2_tiny w).1 L (minus (exactly x ⊗ exactly x)) (negated_near x xs l h U)

  -- the same with the multiple as it is computed; t is any state
  pub accurate_argument_lem : (s t : S) (x : Float) → Argument x tail_end
      → Holds argument_bounds (accurate_argument o t (of_int binary64 (neg_ℤ (accurate_multiple_int (neg (o.product s x x).1.hi)))) (negated (o.product s x x).1)).1 (accurate_residue x (accurate_multiple_int (neg (mul binary64 x x))))
  accurate_argument_lem s t x a =
      let u = (o.product s x x).1 in
      let X = operand x tail_end a (lit≤ tt) in
      let r : neg u.hi ≡ neg (mul binary64 x x) = square_is o m s (o.product s x x).0 u (negated u) x tail_end a (lit≤ tt) refl refl in
      let w : Whole (accurate_multiple (neg u.hi)) 12 1070 = accurate_whole o m s (o.product s x x).0 u (negated u) x a refl refl in
      let c : accurate_multiple_int (neg u.hi) ≡ negsuc w.n = cast_is (accurate_multiple (neg u.hi)) 11 1069 31 w (lit≤ tt) (lit≤ tt) in
      subst (λ (z : Float). Holds argument_bounds (accurate_argument o t (of_int binary64 (neg_ℤ (accurate_multiple_int (neg u.hi)))) (negated u)).1 (accurate_residue x (accurate_multiple_int z))) {x = neg u.hi} {y = neg (mul binary64 x x)} r
      (subst (λ (k : ℤ). Holds argument_bounds (accurate_argument o t (of_int binary64 (neg_ℤ k)) (negated u)).1 (accurate_residue x k)) {x = negsuc w.n} {y = accurate_multiple_int (neg u.hi)} (sym c)
      (reduced t x (argument_size x a) u.lo u.hi (m.product s x x X X) w.n w.least w.most w.is))
