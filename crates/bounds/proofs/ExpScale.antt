-- A pair scaled by 2 ^ m: the high part exactly, the low part within half of the least unit. Assumes nothing.
use Rattle.std.proofs.Common.{◌≡◌, ℕ, zero, suc, ◌+◌, ◌-◌, ◌*◌, ◌^◌, ◌<◌, ◌≤◌, false, T, ℤ, pos, negsuc, ◌*ℤ◌, nat_abs, sym, refl, ap, ◌∙◌, subst, le_trans, le_of_eq, le_of_lt, mul_comm, mul-le-mul_left, mul-pos, one-mul, le_of_mul-le-mul_right, arith, lit<, lit≤, pow_pos, pow_mono, pow-add}
use lib.Ieee.{Float, binary64, mul}
use lib.Ieee.Bits.{of_bits-fits}
use lib.Ieee.Scale.{finite}
use Rattle.ieee.specs.Val.{val}
use Rattle.ieee.specs.Meaning.{Number, Operand}
use Rattle.ieee.proofs.Ints.{zs, massoc, lt_abs}
use Rattle.ieee.proofs.Whole.{Repr, repr_lt}
use Rattle.ieee.proofs.Bridge.{reflect, val_repr, of_value}
use Rattle.ieee.proofs.Products.{good_times}
use Rattle.ieee.proofs.Highs.{good_operand}
use Rattle.ieee.proofs.FusedMadd.{rq_exact}
use Rattle.ieee.proofs.Thresholds.{pow_split}
use Rattle.double_double.specs.declared.double_double.DoubleDouble.{DoubleDouble}
use Rattle.erfc.specs.Scaling.{power}
use Rattle.erfc.proofs.Powers.{power_down}
use Rattle.erfc.proofs.Rounded.{rescaled}
use Rattle.bounds.specs.Num.{Q, ◌⊕◌, ◌⊗◌, mag, whole, tiny, Same, Within}
use Rattle.bounds.specs.Floats.{units, exactly}
use Rattle.bounds.proofs.Sames.{product_turned, product_grouped, spread}
use Rattle.bounds.proofs.Near as N
use Rattle.bounds.proofs.Computed as Comp
use Rattle.bounds.proofs.Relative as R
use Rattle.bounds.proofs.Scale.{Least, near_least, near_scale, split_least, tiny_size, least_units}
use Rattle.bounds.proofs.Chain.{G, G>0}
use Rattle.bounds.proofs.AtScale.{high_least}
use Rattle.bounds.proofs.Sizes.{sized_operand, product_good}
use Rattle.bounds.proofs.FromMeaning.{product_rounds}
use Rattle.bounds.proofs.ExpProduct.{ProductNear}
use Rattle.bounds.proofs.Over.{Over, over_units, over_tiny, over_mul, over_scale, same_over}

-- ---- the power
module _ (n : ℕ) (h : n ≤ 976) where
  abbrev pub two : Float
  two = power (negsuc n)

  up_to : 2 ^ (1074 - suc n) * 2 ^ suc n ≡ 2 ^ 1074
  up_to = sym (pow_split 1074 (suc n) (omega arith))

  power_is : T (finite two) × (val two ≡ pos (2 ^ (1074 - suc n)))
  power_is = of_value two false (2 ^ (1074 - suc n)) (rescaled two false 1 (2 ^ suc n) (2 ^ (1074 - suc n)) (2 ^ 1074) (pow_pos (suc n)) (power_down n (omega arith))
      (up_to ∙ sym (one-mul (2 ^ 1074))))

  pub power_operand : Operand two
  power_operand = record {
    holds = of_bits-fits binary64 _;
    number = power_is.0;
    small = subst (λ (z : ℤ). nat_abs z ≤ 2 ^ 1474) (sym power_is.1) (pow_mono {i = 1074 - suc n} {j = 1474} (omega arith));
  }

  pub power_same : Same (exactly two) (tiny (suc n))
  power_same = subst (λ (z : ℤ). Same (units z) (tiny (suc n))) (sym power_is.1) (record { same = omega (arith, up_to) })

  -- ---- a high part of at least 1/2 is a multiple of 2 ^ (n + 1) units
  module _ (x : Float) (o : Operand x) (l : 2 ^ 1073 ≤ nat_abs (val x)) where
    repr : Repr (val x)
    repr = val_repr x o.holds

    place : suc n ≤ repr.j
    place =
        let a : nat_abs (val x) < 2 ^ 53 * 2 ^ repr.j = lt_abs (val x) (2 ^ 53 * 2 ^ repr.j) (repr_lt (val x) repr) in
        let b : 2 ^ 1073 ≤ 2 ^ (53 + repr.j) = le_trans l (le_trans (le_of_lt a) (le_of_eq (sym (pow-add 2 53 repr.j)))) in
        let c : 1073 ≤ 53 + repr.j = reflect 1073 (53 + repr.j) b in
        omega arith

    abbrev part : ℤ
    part = repr.q *ℤ pos (2 ^ (repr.j - suc n))

    part_is : part *ℤ pos (2 ^ suc n) ≡ val x
    part_is = massoc repr.q (pos (2 ^ (repr.j - suc n))) (pos (2 ^ suc n)) ∙ ap (λ (z : ℕ). repr.q *ℤ pos z) (sym (pow_split repr.j (suc n) place)) ∙ sym repr.is

    product_is : part *ℤ pos (2 ^ 1074) ≡ val x *ℤ val two
    product_is =
        ap (λ (z : ℕ). part *ℤ pos z) (pow_split 1074 (suc n) (omega arith) ∙ mul_comm (2 ^ (1074 - suc n)) (2 ^ suc n)) ∙ sym (massoc part (pos (2 ^ suc n)) (pos (2 ^ (1074 - suc n))))
        ∙ ap (λ (z : ℤ). z *ℤ pos (2 ^ (1074 - suc n))) part_is ∙ ap (λ (z : ℤ). val x *ℤ z) (sym power_is.1)

    times_is : val (mul binary64 x two) ≡ part
    times_is = (good_times x two 1474 1474 1874 (good_operand x o) (good_operand two power_operand) refl (lit< tt)).1
        ∙ rq_exact part (val x *ℤ val two) (2 ^ 1074) (pow_pos 1074) (record { q = repr.q; j = repr.j - suc n; small = repr.small; is = refl }) product_is

    pub high_exact : Same (exactly (mul binary64 x two)) (tiny (suc n) ⊗ exactly x)
    high_exact = subst (λ (z : ℤ). Same (units z) (tiny (suc n) ⊗ exactly x)) (sym times_is)
        (same_over {x = part *ℤ pos (2 ^ suc n)} {k = 2 ^ suc n * 2 ^ 1074} (mul-pos (pow_pos (suc n)) (pow_pos 1074)) (over_scale (2 ^ suc n) (mul_comm (2 ^ 1074) (2 ^ suc n)) (over_units part))
        (subst (λ (z : ℤ). Over (tiny (suc n) ⊗ exactly x) z (2 ^ suc n * 2 ^ 1074)) (omega zs ∙ sym part_is) (over_mul (over_tiny (suc n)) (over_units (val x)))))

-- ---- 2 ^ -978 ≤ E ≤ 8
pub record Between (E : Q) : Type 0 where
  pub k : ℕ
  pub is : E.up ≡ E.dn + k
  pub least : E.den ≤ k * 2 ^ 978
  pub most : k ≤ 8 * E.den

between : (E : Q) (n : ℕ) (p : zero < G * 2 ^ suc n) → n ≤ 976 → Least (G * 2 ^ suc n) E (2 ^ 256 - 2 ^ 246) → N.Abs (G * 2 ^ suc n) p E (2 ^ 259 + 0) → Between E
between E n p h l m =
    let (k, (e, b)) = split_least p l in
    record { k = k; is = e; least = omega (arith, mul-le-mul_left k (pow_mono {i = suc n} {j = 977} (omega arith)), b); most = most₀ E.dn E.up k E.den (2 ^ suc n) e (pow_pos (suc n)) m.le }
  where
    most₀ : (d u k D P : ℕ) → u ≡ d + k → zero < P → u * (2 ^ 256 * P) ≤ d * (2 ^ 256 * P) + (2 ^ 259 + 0) * D → k ≤ 8 * D
    most₀ d u k D P e q h = omega (arith, mul-le-mul_left k q, rw e at h)

-- ---- a pair near e, scaled: near 2 ^ -(n + 1) e
pub record Scaled (v : DoubleDouble) (E : Q) : Type 0 where
  pub low : Number v.lo
  pub high : Number v.hi
  pub near : Within (exactly v.hi ⊕ exactly v.lo) E (tiny 71 ⊗ mag E)
  pub low_small : Within (exactly v.lo) (whole 0) (tiny 40 ⊗ mag E)
  pub between : Between E

module _ (n : ℕ) (h : n ≤ 976) (v : DoubleDouble) (A B C : Q) (P : ProductNear v (A ⊗ B ⊗ C)) where
  abbrev G' : ℕ
  G' = G * 2 ^ suc n

  abbrev G'>0 : zero < G'
  G'>0 = mul-pos G>0 (pow_pos (suc n))

  low_operand : Operand v.lo
  low_operand = sized_operand v.lo P.lo_number P.lo tt

  high_operand : Operand v.hi
  high_operand = sized_operand v.hi P.hi_number P.hi tt

  -- the least unit is far below
  half_unit : N.Abs G' G'>0 (tiny 1075) (2 ^ 158)
  half_unit = tiny_size 1075 (2 ^ 158) (le_trans (mul-le-mul_left G (pow_mono {i = suc n} {j = 977} (omega arith))) (lit≤ tt))

  -- the low part's product, before it is rounded
  product_same : N.Near G' G'>0 (exactly v.lo ⊗ exactly (two n h)) (tiny (suc n) ⊗ exactly v.lo) (0 + 0)
  product_same = N.near_trans (R.equal_product (exactly v.lo) (power_same n h)) (N.near_same (product_turned (exactly v.lo) (tiny (suc n))))

  low_size : N.Abs G' G'>0 (tiny (suc n) ⊗ exactly v.lo) (2 ^ 215 + 2 ^ 211)
  low_size = R.abs_scale (suc n) P.lo

  low_near : N.Near G' G'>0 (exactly (mul binary64 v.lo (two n h))) (tiny (suc n) ⊗ exactly v.lo) (2 ^ 163)
  low_near = N.near_weaken (lit≤ tt) (N.near_trans
      (N.within_near (product_rounds v.lo (two n h) low_operand (power_operand n h)) (N.abs_add (Comp.shr_ok 53 (N.abs_mag (N.abs_near low_size (N.near_sym product_same)))) half_unit)) product_same)

  high_half : 2 ^ 1073 ≤ nat_abs (val v.hi)
  high_half = le_of_mul-le-mul_right (le_trans (lit≤ tt) (least_units (val v.hi) (high_least v (2 ^ 255) P (lit≤ tt)))) G>0

  high_near : N.Near G' G'>0 (exactly (mul binary64 v.hi (two n h))) (tiny (suc n) ⊗ exactly v.hi) 0
  high_near = N.near_same (high_exact n h v.hi high_operand high_half)

  -- the exact value, with the power in front and inside
  regrouped : N.Near G' G'>0 (tiny (suc n) ⊗ (A ⊗ B ⊗ C)) (tiny (suc n) ⊗ A ⊗ B ⊗ C) 0
  regrouped = N.near_sym (N.near_weaken (lit≤ tt) (N.near_trans (R.equal_factor C (product_grouped (tiny (suc n)) A B)) (N.near_same (product_grouped (tiny (suc n)) (A ⊗ B) C))))

  least : Least G' (tiny (suc n) ⊗ A ⊗ B ⊗ C) (2 ^ 256 - 2 ^ 246)
  least = near_least {e = 0} {k = 2 ^ 256 - 2 ^ 246} (R.least_scale (suc n) P.least) regrouped

  sum_near : N.Near G' G'>0 (exactly (mul binary64 v.hi (two n h)) ⊕ exactly (mul binary64 v.lo (two n h))) (tiny (suc n) ⊗ A ⊗ B ⊗ C) (2 ^ 184 + 2 ^ 181)
  sum_near = N.near_weaken (lit≤ tt) (N.near_trans (N.near_add high_near low_near) (N.near_trans (N.near_same (spread (tiny (suc n)) (exactly v.hi) (exactly v.lo)))
      (N.near_trans (near_scale (suc n) P.near) regrouped)))

  pub scaled : Scaled (record { lo = mul binary64 v.lo (two n h); hi = mul binary64 v.hi (two n h) }) (tiny (suc n) ⊗ A ⊗ B ⊗ C)
  scaled = record {
    low = product_good v.lo (two n h) low_operand (power_operand n h);
    high = product_good v.hi (two n h) high_operand (power_operand n h);
    near = R.relative (tiny 71) refl sum_near least (lit≤ tt);
    low_small = R.relative_to (tiny 40) refl (N.abs_near low_size (N.near_sym low_near)) least (lit≤ tt);
    between = between (tiny (suc n) ⊗ A ⊗ B ⊗ C) n G'>0 h least (N.abs_near (R.abs_scale (suc n) P.size) regrouped);
  }
