-- What is left of -x² after k multiples of log 2 / 4096: the pair y is within 2 ^ -90 of the exact residue, and small. Assumes nothing.
use Rattle.std.proofs.Common.{◌≡◌, ℕ, ◌+◌, ◌-◌, ◌*◌, ◌^◌, ◌≤◌, T, leb, ℤ, ◌-ℤ◌, neg_ℤ, nat_abs, sym, ◌∙◌, subst, le_trans, le_of_lt, mul-le-mul_right, mul-le-mul, pow_mono, lit<, lit≤, pow_pos}
use Rattle.std.specs.Float.{round_ties_even}
use lib.Ieee.{Float, binary64, of_bits, add, sub, mul, neg}
use lib.Ieee.Fits.{add-fits, sub-fits}
use Rattle.ieee.specs.Val.{val, rz, Mult}
use Rattle.ieee.specs.Pairs.{Good, Leads, SumOf}
use Rattle.ieee.specs.Meaning.{Number, Operand, ProductMeans}
use Rattle.ieee.proofs.Ints.{abs_le}
use Rattle.ieee.proofs.Whole.{Repr, rounds, exact, mult_add, mult_neg}
use Rattle.ieee.proofs.Sums.{repr_of}
use Rattle.ieee.proofs.Floats.{good_sub, quick_add}
use Rattle.erfc.specs.Exponentials.{inv_log2, log2_pair}
use Rattle.erfc.specs.Rows.{Argument, tail_end}
use Rattle.bounds.specs.Num.{Q, ◌⊕◌, ◌⊗◌, whole, Same}
use Rattle.bounds.specs.Steps.{Pair, PairMul, ExactAdd, Rounded}
use Rattle.bounds.specs.Floats.{pair_of, single, units, exactly, minus}
use Rattle.bounds.specs.Steps as S
use Rattle.bounds.specs.Formulas.{sum_of}
use Rattle.bounds.proofs.Near.{abs_add, abs_near, near_add, near_refl, near_same, near_sym}
use Rattle.bounds.proofs.Computed.{kept, product_size, size_of}
use Rattle.bounds.proofs.WholeReciprocal.{tail_value}
use Rattle.bounds.proofs.Near as N
use Rattle.bounds.proofs.Computed as Comp
use Rattle.bounds.proofs.Relative as R
use Rattle.bounds.proofs.Scale.{Least, near_least}
use Rattle.bounds.proofs.Over.{over_units, over_minus, over_add, same_over}
use Rattle.bounds.proofs.Chain.{G, G>0, Near, Abs, Parts, mul_g, shr, no_size, near_to, abs_to, least_to, least_product, ◌then◌, one_plus, product_near, turned_product, product_grouped, by_one, regroup, grouped, rounded_near, times_near, exact_near, exact_low, exact_high, value_size, pair_near, pair_high_near, pair_parts}
use Rattle.bounds.proofs.Sizes.{known, from_units, units_below, sized_good, sized_operand, product_good, good_number}
use Rattle.bounds.proofs.FromMeaning.{product_means, product_rounds, difference_means, exact_sum}
use Rattle.bounds.proofs.Loop.{Holds}
use Rattle.bounds.proofs.ExpPoly.{reduced_bounds}
use Rattle.bounds.proofs.Multiples.{multiple_least, leads_multiple}
use Rattle.bounds.proofs.ExpWhole.{whole_half, neg_same, near_minus, abs_minus, difference_size, minus_product}

-- ---- the constants
abbrev step : Float
step = log2_pair.hi

pub inverse_size : Abs (exactly inv_log2) (2 ^ 269)
unfolding of_bits
inverse_size = abs_to (2 ^ 269) (size_of (exactly inv_log2)) tt

pub step_parts : Parts (pair_of log2_pair.lo log2_pair.hi) (2 ^ 243 + 2 ^ 242) (2 ^ 188 + 2 ^ 187 + 2 ^ 186)
unfolding of_bits
step_parts = record { hi = abs_to (2 ^ 243 + 2 ^ 242) (size_of (exactly log2_pair.hi)) tt; lo = abs_to (2 ^ 188 + 2 ^ 187 + 2 ^ 186) (size_of (exactly log2_pair.lo)) tt }

step_least : Least G (exactly step) (2 ^ 243 + 2 ^ 241 + 2 ^ 240)
unfolding of_bits
step_least = record { le = lit≤ tt }

inverse_operand : Operand inv_log2
unfolding of_bits
inverse_operand = sized_operand inv_log2 (known 0x40b71547652b82fe tt) inverse_size tt

-- 4096 / log 2 times log 2 / 4096, both rounded, is 1 but for 2 ^ -52
inverses : Near (exactly inv_log2 ⊗ exactly step) (whole 1) (2 ^ 204)
unfolding of_bits
inverses = record { le = lit≤ tt; ge = lit≤ tt }

-- ---- h is near k s, where k is h i rounded to a whole number, and i s is nearly 1
module _ (i s h : Float) (I : Operand i) (H : Operand h) {m n e : ℕ} (i_size : Abs (exactly i) m) (s_size : Abs (exactly s) n) (inverses : Near (exactly i ⊗ exactly s) (whole 1) e) (h_size : Abs (exactly h) (2 ^ 267))
    (k : Q) (K : Same (exactly (round_ties_even binary64 (mul binary64 h i))) k) where
  scaled_near : Near (exactly h ⊗ exactly i) k (shr (mul_g (2 ^ 267) m) 53 + 1 + (2 ^ 255 + 0))
  scaled_near = near_sym (times_near (product_rounds h i H I) (product_size h_size i_size)) then whole_half (mul binary64 h i) (product_good h i H I) then near_same K

  pub multiple_near : Near (exactly h) (k ⊗ exactly s) (0 + (mul_g e (2 ^ 267) + (0 + mul_g (shr (mul_g (2 ^ 267) m) 53 + 1 + (2 ^ 255 + 0)) n)))
  multiple_near =
      near_sym (by_one (exactly h)) then N.near_mulʳ (near_sym inverses) h_size (Comp.mul_g_ok G G>0 e (2 ^ 267)) then near_sym (product_grouped (exactly h) (exactly i) (exactly s))
      then N.near_mulˡ scaled_near s_size (Comp.mul_g_ok G G>0 (shr (mul_g (2 ^ 267) m) 53 + 1 + (2 ^ 255 + 0)) n)

-- the high part of -x² is near k log 2 / 4096
pub high_near : (h : Float) → Operand h → Abs (exactly h) (2 ^ 267) → (k : Q) → Same (exactly (round_ties_even binary64 (mul binary64 h inv_log2))) k → Near (exactly h) (k ⊗ exactly step) (2 ^ 242 + 2 ^ 241 + 2 ^ 217)
high_near h H hs k K = near_to (2 ^ 242 + 2 ^ 241 + 2 ^ 217) (multiple_near inv_log2 step h inverse_operand H inverse_size step_parts.hi inverses hs k K) tt

-- ---- the multiple's product with the pair for log 2 / 4096
module _ (f : Float) (k : Q) (ks : Abs k (4000000 * 2 ^ 256)) (K : Same (exactly f) k) (d : Pair) (M : PairMul (pair_of log2_pair.lo log2_pair.hi) (single f) d) where
  multiple_parts : Parts (single f) (4000000 * 2 ^ 256) 0
  multiple_parts = record { hi = abs_to (4000000 * 2 ^ 256) (abs_near ks (near_sym (near_same K))) tt; lo = no_size }

  -- the low part, below 2 ^ -43
  pub d_low : Abs d.lo (2 ^ 213 - 2 ^ 209)
  d_low = abs_to (2 ^ 213 - 2 ^ 209) (pair_parts step_parts multiple_parts M).lo tt

  pub d_high : Near d.hi (k ⊗ exactly step) (2 ^ 213)
  d_high = near_to (2 ^ 213) (pair_high_near step_parts multiple_parts M then turned_product (exactly step) (exactly f) then R.equal_factor (exactly step) K) tt

  pub d_size : Abs d.hi (2 ^ 266)
  d_size = abs_to (2 ^ 266) (pair_parts step_parts multiple_parts M).hi tt

  pub d_near : Near (S.val d) (k ⊗ sum_of log2_pair) (2 ^ 163)
  d_near = near_to (2 ^ 163) (pair_near step_parts multiple_parts M then R.equal_product' (sum_of log2_pair) (kept (exactly f) no_size) then turned_product (sum_of log2_pair) (exactly f) then R.equal_factor (sum_of log2_pair) K) tt

-- ---- a tail argument is at most 32
pub argument_size : (x : Float) → Argument x tail_end → Abs (exactly x) (2 ^ 261)
argument_size x a =
    let v = tail_value x a in
    from_units (val x) (2 ^ 261) (subst (λ (y : ℤ). nat_abs y * G ≤ 2 ^ 261 * 2 ^ 1074) (sym v.is) (le_trans (mul-le-mul_right G (mul-le-mul (le_of_lt v.high) (pow_mono v.last))) (lit≤ tt)))

-- ---- the square as a pair, negated
module _ (x : Float) (xs : Abs (exactly x) (2 ^ 261)) (l h : Float) (U : ProductMeans x x l h) where
  square : PairMul (single x) (single x) (pair_of l h)
  square = product_means x x l h U

  single_parts : Parts (single x) (2 ^ 261) 0
  single_parts = record { hi = xs; lo = no_size }

  square_parts : Parts (pair_of l h) (2 ^ 267) (2 ^ 214)
  square_parts = let p = pair_parts single_parts single_parts square in record { hi = abs_to (2 ^ 267) p.hi tt; lo = abs_to (2 ^ 214) p.lo tt }

  square_near : Near (exactly h ⊕ exactly l) (exactly x ⊗ exactly x) (2 ^ 162 + 2 ^ 150)
  square_near = near_to (2 ^ 162 + 2 ^ 150) (pair_near single_parts single_parts square then product_near (kept (exactly x) no_size) (value_size single_parts) (kept (exactly x) no_size) xs) tt

  pub negated_near : Near (exactly (neg h) ⊕ exactly (neg l)) (minus (exactly x ⊗ exactly x)) (2 ^ 162 + 2 ^ 150)
  negated_near = near_to (2 ^ 162 + 2 ^ 150) (near_add (near_same (neg_same h)) (near_same (neg_same l)) then near_minus square_near) tt

  pub negated_high : Abs (exactly (neg h)) (2 ^ 267)
  negated_high = abs_to (2 ^ 267) (abs_near (abs_minus square_parts.hi) (near_sym (near_same (neg_same h)))) tt

  pub negated_low : Abs (exactly (neg l)) (2 ^ 214)
  negated_low = abs_to (2 ^ 214) (abs_near (abs_minus square_parts.lo) (near_sym (near_same (neg_same l)))) tt

shuffled : (a b c d : Q) → Near (a ⊕ b ⊕ c ⊕ d) (a ⊕ c ⊕ (b ⊕ d)) 0
shuffled a b c d = near_to 0 (near_add (near_sym (regroup a c b) then near_sym (grouped a c b)) (near_refl d) then grouped (a ⊕ c) b d) tt

-- ---- the residue's pair
module _ (h l dh dl : Float) (hn : Number h) (ln : Number l) (dhn : Number dh) (dln : Number dl) (hs : Abs (exactly h) (2 ^ 267)) (ls : Abs (exactly l) (2 ^ 214)) (k : Q) (kl : Least G (minus k) (49000 * 2 ^ 256))
    (hk : Near (exactly h) (k ⊗ exactly step) (2 ^ 242 + 2 ^ 241 + 2 ^ 217)) (dk : Near (exactly dh) (k ⊗ exactly step) (2 ^ 213)) (ds : Abs (exactly dh) (2 ^ 266)) (dls : Abs (exactly dl) (2 ^ 213 - 2 ^ 209)) where
  -- both are multiples of 2 ^ -49
  product_least : Least G (minus k ⊗ exactly step) (66000 * 2 ^ 243)
  product_least = least_product (66000 * 2 ^ 243) kl step_least tt

  eight : (x : Float) {e : ℕ} → Near (exactly x) (k ⊗ exactly step) e → T (leb (8 * 2 ^ 256 + (e + 0)) (66000 * 2 ^ 243)) → Least G (minus (exactly x)) (8 * 2 ^ 256)
  eight x {e} n t = near_least {e = e + 0} {k = 8 * 2 ^ 256} (least_to (8 * 2 ^ 256 + (e + 0)) product_least t) (near_sym (near_minus n then near_same (minus_product k (exactly step))))

  h_multiple : Mult 1025 (val h)
  h_multiple = multiple_least 1025 h hn (eight h hk tt) tt

  d_multiple : Mult 1025 (val dh)
  d_multiple = multiple_least 1025 dh dhn (eight dh dk tt) tt

  -- so their difference is exact
  abbrev gap : ℤ
  gap = val h -ℤ val dh

  gap_same : Same (units gap) (exactly h ⊕ minus (exactly dh))
  gap_same = same_over (pow_pos 1074) (over_units gap) (over_add (over_units (val h)) (over_minus (over_units (val dh))))

  gap_size : Abs (units gap) (2 ^ 242 + 2 ^ 241 + 2 ^ 218)
  gap_size = abs_to (2 ^ 242 + 2 ^ 241 + 2 ^ 218) (abs_near (difference_size (hk then near_sym dk)) (near_sym (near_same gap_same))) tt

  gap_multiple : Mult 1025 gap
  gap_multiple = mult_add 1025 (val h) (neg_ℤ (val dh)) h_multiple (mult_neg 1025 (val dh) d_multiple)

  gap_repr : Repr gap
  gap_repr = repr_of 1025 gap gap_multiple (abs_le gap (2 ^ 53 * 2 ^ 1025) (units_below gap gap_size (2 ^ 53 * 2 ^ 1025) tt))

  abbrev a : Float
  a = sub binary64 h dh

  a_made : Good a 1100 × (val a ≡ rz gap)
  a_made = good_sub h dh 1099 (sized_good h hn hs 1099 tt) (sized_good dh dhn ds 1099 tt) (lit< tt)

  a_is : val a ≡ gap
  a_is = a_made.1 ∙ exact gap (rz gap) (rounds gap) gap_repr

  a_size : Abs (exactly a) (2 ^ 242 + 2 ^ 241 + 2 ^ 218)
  a_size = subst (λ (z : ℤ). Abs (units z) (2 ^ 242 + 2 ^ 241 + 2 ^ 218)) (sym a_is) gap_size

  a_same : Same (exactly a) (exactly h ⊕ minus (exactly dh))
  a_same = subst (λ (z : ℤ). Same (units z) (exactly h ⊕ minus (exactly dh))) (sym a_is) gap_same

  -- the low part's last place divides it
  leads : Leads a l
  leads = leads_multiple 1025 a l (subst (Mult 1025) (sym a_is) gap_multiple) ls tt

  abbrev yh : Float
  yh = add binary64 a l

  abbrev yl : Float
  yl = sub binary64 l (sub binary64 yh a)

  y_sum : SumOf a l yl yh
  y_sum = quick_add a l 1100 a_made.0 (sized_good l ln ls 1100 tt) leads (lit< tt)

  y_exact : ExactAdd (exactly a) (exactly l) (pair_of yl yh)
  y_exact = exact_sum a l yl yh y_sum

  y_high : Abs (exactly yh) (2 ^ 243)
  y_high = abs_to (2 ^ 243) (exact_high y_exact (abs_add a_size ls)) tt

  y_low : Abs (exactly yl) (2 ^ 190)
  y_low = abs_to (2 ^ 190) (exact_low y_exact (abs_add a_size ls)) tt

  yl_number : Number yl
  yl_number = record { holds = sub-fits binary64 l (sub binary64 yh a); number = y_sum.lo_number }

  abbrev z : Float
  z = sub binary64 yl dl

  z_made : Good z 1101
  z_made = (good_sub yl dl 1100 (sized_good yl yl_number y_low 1100 tt) (sized_good dl dln dls 1100 tt) (lit< tt)).0

  z_rounded : Rounded (exactly z) (exactly yl ⊕ minus (exactly dl))
  z_rounded = difference_means yl dl 1100 (sized_good yl yl_number y_low 1100 tt) (sized_good dl dln dls 1100 tt) (lit< tt)

  low_size : Abs (exactly yl ⊕ minus (exactly dl)) (2 ^ 190 + (2 ^ 213 - 2 ^ 209))
  low_size = abs_add y_low (abs_minus dls)

  -- the pair against the exact difference
  together : Near (exactly yh ⊕ exactly z) (exactly h ⊕ exactly l ⊕ minus (exactly dh ⊕ exactly dl)) (2 ^ 161)
  together = near_to (2 ^ 161) (one_plus (exactly yh) (rounded_near z_rounded low_size) then near_sym (grouped (exactly yh) (exactly yl) (minus (exactly dl))) then near_add (exact_near y_exact then near_add (near_same a_same) (near_refl (exactly l))) (near_refl (minus (exactly dl)))
      then shuffled (exactly h) (minus (exactly dh)) (exactly l) (minus (exactly dl))) tt

  pub argument_near : (X D : Q) → Near (exactly h ⊕ exactly l) X (2 ^ 162 + 2 ^ 150) → Near (exactly dh ⊕ exactly dl) D (2 ^ 163) → Holds reduced_bounds (record { lo = z; hi = yh }) (X ⊕ minus D)
  argument_near X D p q =
      let lo = abs_to (2 ^ 213) (abs_near low_size (near_sym (rounded_near z_rounded low_size))) tt in
      let near = near_to (2 ^ 171) (together then near_add p (near_minus q)) tt in
      record {
        lo_number = good_number z_made;
        hi_number = record { holds = add-fits binary64 a l; number = y_sum.hi_number };
        parts = record { hi = y_high; lo = lo };
        near = near;
        size = abs_to (2 ^ 244) (abs_near (abs_add y_high lo) near) tt;
      }
