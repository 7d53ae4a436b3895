-- Products of numbers and of pairs by a multiply-add: its low part is a b - hi. The multiply-add is any that keeps the bound of `Madd`,
-- so these serve for the one that rounds once, the one in steps, and a choice between the two. Assumes nothing.
use Rattle.std.proofs.Common.{◌≡◌, ℕ, ◌+◌, ◌*◌, ◌^◌, ◌<◌, ◌≤◌, ℤ, pos, ◌+ℤ◌, ◌-ℤ◌, ◌*ℤ◌, neg_ℤ, nat_abs, sym, refl, ap, ◌∙◌, subst, arith, lit<, lit≤, pow_pos}
use lib.Ieee.{Float, binary64, add, mul, neg}
use lib.Ieee.Fits.{add-fits, mul-fits, neg-fits}
use Rattle.std.specs.Float.{float_mul_add}
use Rattle.ieee.specs.Val.{val, rq, rz}
use Rattle.ieee.specs.Pairs.{Good}
use Rattle.ieee.specs.Meaning.{Number, Settled, NearestProduct, fine, ProductMeans, PairsMean, NumberMeans}
use Rattle.ieee.proofs.Ints.{zs, mcomm, dist, neg_mul}
use Rattle.ieee.proofs.Whole.{exact, rounds}
use Rattle.ieee.proofs.Bridge.{val_repr, val_neg, finite_neg}
use Rattle.ieee.proofs.Bounded.{zero_rz}
use Rattle.ieee.proofs.Scaled.{add_scaled}
use Rattle.ieee.proofs.Tools.{lin, triangle, abs_add, abs_neg}
use Rattle.ieee.proofs.Floats.{good_up, good_add, full_add}
use Rattle.ieee.proofs.PairTimes.{pairs_are}
use Rattle.ieee.proofs.Products.{rest, good_times, any_mult}
use Rattle.ieee.proofs.PlainNumber.{frac_error, times_good}
use Rattle.ieee.proofs.PlainMadd.{Madd, lost, madd, settled}
use Rattle.ieee.proofs.FusedMadd.{fused_good}

-- ---- the pair of a product: hi is nearest, the pair is within 2 ^ -106 |a b| and two units of a b, and is a b where that is zero or 2 ^ -900 at least
pub record Paired (a b lo hi : Float) : Type 0 where
  pub low : Good lo 1880
  pub high : Number hi
  pub nearest : NearestProduct a b hi
  pub within : 2 ^ 106 * nat_abs (fine (val hi +ℤ val lo) -ℤ val a *ℤ val b) ≤ nat_abs (val a *ℤ val b) + 2 ^ 107 * 2 ^ 1074
  pub exact : Settled a b → fine (val hi +ℤ val lo) ≡ val a *ℤ val b

-- ---- the low part, rounded once: n is - hi
module _ (p h n s : ℤ) (l : ℕ) (e : n ≡ neg_ℤ h) where
  rest_is : (h +ℤ s) *ℤ pos l -ℤ p ≡ s *ℤ pos l -ℤ (p +ℤ n *ℤ pos l)
  rest_is =
      let x : n *ℤ pos l ≡ neg_ℤ (h *ℤ pos l) = ap (λ (z : ℤ). z *ℤ pos l) e ∙ neg_mul h (pos l) in
      ap (λ (z : ℤ). z -ℤ p) (dist h s (pos l)) ∙ turn (h *ℤ pos l) (s *ℤ pos l) (n *ℤ pos l) x
    where
      turn : (h s n : ℤ) → n ≡ neg_ℤ h → h +ℤ s -ℤ p ≡ s -ℤ (p +ℤ n)
      turn h s n x = omega lin

  error_is : nat_abs (p +ℤ n *ℤ pos l) ≡ nat_abs (h *ℤ pos l -ℤ p)
  error_is =
      let x : n *ℤ pos l ≡ neg_ℤ (h *ℤ pos l) = ap (λ (z : ℤ). z *ℤ pos l) e ∙ neg_mul h (pos l) in
      ap nat_abs (turn (h *ℤ pos l) (n *ℤ pos l) x) ∙ abs_neg (h *ℤ pos l -ℤ p)
    where
      turn : (h n : ℤ) → n ≡ neg_ℤ h → p +ℤ n ≡ neg_ℤ (h -ℤ p)
      turn h n x = omega lin

  pub once_within : 0 < l → h ≡ rq p l → s ≡ rq (p +ℤ n *ℤ pos l) l → 2 ^ 106 * nat_abs ((h +ℤ s) *ℤ pos l -ℤ p) ≤ nat_abs p + 2 ^ 107 * l
  once_within L f g =
      both (nat_abs ((h +ℤ s) *ℤ pos l -ℤ p)) (nat_abs (s *ℤ pos l -ℤ (p +ℤ n *ℤ pos l))) (nat_abs (p +ℤ n *ℤ pos l)) (nat_abs (h *ℤ pos l -ℤ p)) (nat_abs p)
      (ap nat_abs rest_is) error_is (frac_error s (p +ℤ n *ℤ pos l) l L g) (frac_error h p l L f)
    where
      both : (t e x y z : ℕ) → t ≡ e → x ≡ y → 2 ^ 53 * e ≤ x + 2 ^ 52 * l → 2 ^ 53 * y ≤ z + 2 ^ 52 * l → 2 ^ 106 * t ≤ z + 2 ^ 107 * l
      both t e x y z i j a b = omega arith

  -- where h + s is p, s is p + n
  pub left_is : (h +ℤ s) *ℤ pos l ≡ p → s *ℤ pos l ≡ p +ℤ n *ℤ pos l
  left_is f =
      let x : n *ℤ pos l ≡ neg_ℤ (h *ℤ pos l) = ap (λ (z : ℤ). z *ℤ pos l) e ∙ neg_mul h (pos l) in
      turn (h *ℤ pos l) (s *ℤ pos l) (n *ℤ pos l) x (sym (dist h s (pos l)) ∙ f)
    where
      turn : (h s n : ℤ) → n ≡ neg_ℤ h → h +ℤ s ≡ p → s ≡ p +ℤ n
      turn h s n x y = omega lin

pub good_neg : (x : Float) (j : ℕ) → Good x j → Good (neg x) j
good_neg x j g = record { holds = neg-fits binary64 x g.holds; number = finite_neg x g.number; small = subst (λ (z : ℕ). z ≤ 2 ^ j) (sym (ap nat_abs (val_neg x) ∙ abs_neg (val x))) g.small }

-- ---- the low part in steps: hi - hi is 0, so the low part of the product in steps is left
no_sum : (x y : ℤ) → y ≡ neg_ℤ x → x +ℤ y ≡ pos 0
no_sum x y e = omega zs

no_rest : (t u s : ℤ) → t +ℤ u ≡ s → s ≡ pos 0 → t ≡ pos 0 → u ≡ pos 0
no_rest t u s e f g = omega zs

no_more : (x y z : ℤ) → x ≡ z → y ≡ pos 0 → x +ℤ y ≡ z
no_more x y z e f = omega zs

pub steps_low : (lo hi : Float) → Good lo 1876 → Good hi 1875 → val (madd lo hi (neg hi)) ≡ val lo
steps_low lo hi glo ghi =
    let n = neg hi in
    let t = add binary64 hi n in
    let u = lost hi n in
    let gn = good_neg hi 1875 ghi in
    let none : val hi +ℤ val n ≡ pos 0 = no_sum (val hi) (val n) (val_neg hi) in
    let H = good_add hi n 1875 ghi gn (lit< tt) in
    let S = full_add hi n 1875 ghi gn (lit< tt) in
    let et : val t ≡ pos 0 = H.1 ∙ ap rz none ∙ zero_rz in
    let eu : val u ≡ pos 0 = no_rest (val t) (val u) (val hi +ℤ val n) S.exact none et in
    let gu : Good u 1876 = record { holds = add-fits binary64 _ _; number = S.lo_number; small = subst (λ (z : ℤ). nat_abs z ≤ 2 ^ 1876) (sym eu) (lit≤ tt) } in
    let own : rz (val lo) ≡ val lo = exact (val lo) (rz (val lo)) (rounds (val lo)) (val_repr lo glo.holds) in
    let m = add binary64 lo u in
    let M = good_add lo u 1876 glo gu (lit< tt) in
    let em : val m ≡ val lo = M.1 ∙ ap rz (no_more (val lo) (val u) (val lo) refl eu) ∙ own in
    let R = good_add m t 1877 M.0 (good_up t 1876 1877 (lit≤ tt) H.0) (lit< tt) in
    R.1 ∙ ap rz (no_more (val m) (val t) (val lo) em et) ∙ own

-- ---- the pair, from the bound of the multiply-add and how near the low part is
pub paired : (a b lo : Float) → Good a 1474 → Good b 1474 → Madd a b (neg (mul binary64 a b)) lo 1876
    → 2 ^ 106 * nat_abs (fine (val (mul binary64 a b) +ℤ val lo) -ℤ val a *ℤ val b) ≤ nat_abs (val a *ℤ val b) + 2 ^ 107 * 2 ^ 1074 → Paired a b lo (mul binary64 a b)
paired a b lo ga gb w near =
    let h = mul binary64 a b in
    let x = any_mult a b ga gb in
    record {
      low = w.answer;
      high = record { holds = mul-fits binary64 a b; number = x.hi_number };
      nearest = x.nearest;
      within = near;
      exact = λ s.
          let e : fine (val h +ℤ val (rest a b)) ≡ val a *ℤ val b = x.exact (settled (val a) (val b) s) in
          let f : val lo ≡ val (rest a b) = w.exact s (val (rest a b)) (rest a b, (record { holds = add-fits binary64 _ _; number = x.lo_number }, refl)) (left_is (val a *ℤ val b) (val h) (val (neg h)) (val (rest a b)) (2 ^ 1074) (val_neg h) e) in
          ap (λ (z : ℤ). fine (val h +ℤ z)) f ∙ e;
    }

pub once_near : (a b : Float) → Good a 1474 → Good b 1474
    → 2 ^ 106 * nat_abs (fine (val (mul binary64 a b) +ℤ val (float_mul_add binary64 a b (neg (mul binary64 a b)))) -ℤ val a *ℤ val b) ≤ nat_abs (val a *ℤ val b) + 2 ^ 107 * 2 ^ 1074
once_near a b ga gb =
    let h = mul binary64 a b in
    let H = good_times a b 1474 1474 1874 ga gb refl (lit< tt) in
    let F = fused_good a b (neg h) 1875 ga gb (good_neg h 1875 H.0) (lit≤ tt) (lit< tt) in
    once_within (val a *ℤ val b) (val h) (val (neg h)) (val (float_mul_add binary64 a b (neg h))) (2 ^ 1074) (val_neg h) (pow_pos 1074) H.1 F.1

two_units : (e p l : ℕ) → e ≤ 2 * l → 2 ^ 106 * e ≤ p + 2 ^ 107 * l
two_units e p l h = omega arith

pub steps_near : (a b : Float) → Good a 1474 → Good b 1474
    → 2 ^ 106 * nat_abs (fine (val (mul binary64 a b) +ℤ val (madd (rest a b) (mul binary64 a b) (neg (mul binary64 a b)))) -ℤ val a *ℤ val b) ≤ nat_abs (val a *ℤ val b) + 2 ^ 107 * 2 ^ 1074
steps_near a b ga gb =
    let h = mul binary64 a b in
    let x = any_mult a b ga gb in
    let G = times_good a b (rest a b) h ga gb (add-fits binary64 _ _) (mul-fits binary64 a b) x in
    subst (λ (z : ℤ). 2 ^ 106 * nat_abs (fine (val h +ℤ z) -ℤ val a *ℤ val b) ≤ nat_abs (val a *ℤ val b) + 2 ^ 107 * 2 ^ 1074) (sym (steps_low (rest a b) h G.0 G.1))
    (two_units (nat_abs (fine (val h +ℤ val (rest a b)) -ℤ val a *ℤ val b)) (nat_abs (val a *ℤ val b)) (2 ^ 1074) x.within)

-- ---- the product
less_far : (e p l : ℕ) → 2 ^ 106 * e ≤ p + 2 ^ 107 * l → 2 ^ 104 * e ≤ p + 2 ^ 108 * l
less_far e p l h = omega arith

pub paired_means : (a b lo hi : Float) → Paired a b lo hi → ProductMeans a b lo hi
paired_means a b lo hi w = record {
  low = record { holds = w.low.holds; number = w.low.number };
  high = w.high;
  nearest = w.nearest;
  within = less_far (nat_abs (fine (val hi +ℤ val lo) -ℤ val a *ℤ val b)) (nat_abs (val a *ℤ val b)) (2 ^ 1074) w.within;
}

-- ---- pair times pair, in units of 2 ^ -2148: p, q, r, s are ah bh, ah bl, al bh, al bl; h + w is the product pair, t is about q + w and v about r + t
module _ (p q r s h w t v : ℤ) (l : ℕ) where
  p_1 : h +ℤ v -ℤ (p +ℤ q +ℤ r +ℤ s) ≡ (h +ℤ w -ℤ p) +ℤ ((t -ℤ (q +ℤ w)) +ℤ ((v -ℤ (r +ℤ t)) -ℤ s))
  p_1 = omega lin

  p_2 : w ≡ (h +ℤ w -ℤ p) -ℤ (h -ℤ p)
  p_2 = omega lin

  p_3 : t ≡ (t -ℤ (q +ℤ w)) +ℤ (q +ℤ w)
  p_3 = omega lin

  -- in steps: in one, `omega` meets numbers that are too long
  w_le : 2 ^ 106 * nat_abs (h +ℤ w -ℤ p) ≤ nat_abs p + 2 ^ 107 * l → 2 ^ 53 * nat_abs (h -ℤ p) ≤ nat_abs p + 2 ^ 52 * l → 2 ^ 55 * nat_abs w ≤ 5 * nat_abs p + 2 ^ 57 * l
  w_le h1 h2 = let e = ap nat_abs p_2 in omega triangle

  t_le : 2 ^ 103 * nat_abs (t -ℤ (q +ℤ w)) ≤ 2 ^ 50 * nat_abs (q +ℤ w) + (nat_abs q + nat_abs w) + 3 * 2 ^ 103 * l → 2 ^ 10 * nat_abs t ≤ 1025 * (nat_abs q + nat_abs w) + 2 ^ 12 * l
  t_le h = let e = ap nat_abs p_3 in omega triangle

  all_le : nat_abs (h +ℤ v -ℤ (p +ℤ q +ℤ r +ℤ s)) ≤ nat_abs (h +ℤ w -ℤ p) + (nat_abs (t -ℤ (q +ℤ w)) + (nat_abs (v -ℤ (r +ℤ t)) + nat_abs s))
  all_le = let e = ap nat_abs p_1 in omega triangle

  pairs_product : 2 ^ 106 * nat_abs (h +ℤ w -ℤ p) ≤ nat_abs p + 2 ^ 107 * l → 2 ^ 53 * nat_abs (h -ℤ p) ≤ nat_abs p + 2 ^ 52 * l
      → 2 ^ 103 * nat_abs (t -ℤ (q +ℤ w)) ≤ 2 ^ 50 * nat_abs (q +ℤ w) + (nat_abs q + nat_abs w) + 3 * 2 ^ 103 * l
      → 2 ^ 103 * nat_abs (v -ℤ (r +ℤ t)) ≤ 2 ^ 50 * nat_abs (r +ℤ t) + (nat_abs r + nat_abs t) + 3 * 2 ^ 103 * l
      → 2 ^ 104 * nat_abs (h +ℤ v -ℤ (p +ℤ q +ℤ r +ℤ s)) ≤ 2 ^ 104 * nat_abs s + 2 ^ 54 * (nat_abs q + nat_abs r) + nat_abs p + 2 ^ 108 * l
  pairs_product h1 h2 h3 h4 =
      total (nat_abs (h +ℤ v -ℤ (p +ℤ q +ℤ r +ℤ s))) (nat_abs (h +ℤ w -ℤ p)) (nat_abs (t -ℤ (q +ℤ w))) (nat_abs (v -ℤ (r +ℤ t))) (nat_abs (q +ℤ w)) (nat_abs (r +ℤ t)) (nat_abs p) (nat_abs q) (nat_abs r) (nat_abs s) (nat_abs w) (nat_abs t)
      all_le h1 h3 h4 (abs_add q w) (abs_add r t) (w_le h1 h2) (t_le h3)
    where
      total : (e e0 e1 e2 qw rt p q r s w t : ℕ) → e ≤ e0 + (e1 + (e2 + s)) → 2 ^ 106 * e0 ≤ p + 2 ^ 107 * l → 2 ^ 103 * e1 ≤ 2 ^ 50 * qw + (q + w) + 3 * 2 ^ 103 * l → 2 ^ 103 * e2 ≤ 2 ^ 50 * rt + (r + t) + 3 * 2 ^ 103 * l
          → qw ≤ q + w → rt ≤ r + t → 2 ^ 55 * w ≤ 5 * p + 2 ^ 57 * l → 2 ^ 10 * t ≤ 1025 * (q + w) + 2 ^ 12 * l → 2 ^ 104 * e ≤ 2 ^ 104 * s + 2 ^ 54 * (q + r) + p + 2 ^ 108 * l
      total e e0 e1 e2 qw rt p q r s w t a b c d f g h i = omega arith

pairs_bound : (ah al bh bl h w t v : ℤ) (l : ℕ) → 0 < l → 2 ^ 106 * nat_abs ((h +ℤ w) *ℤ pos l -ℤ ah *ℤ bh) ≤ nat_abs (ah *ℤ bh) + 2 ^ 107 * l → h ≡ rq (ah *ℤ bh) l
    → 2 ^ 103 * nat_abs (t *ℤ pos l -ℤ (ah *ℤ bl +ℤ w *ℤ pos l)) ≤ 2 ^ 50 * nat_abs (ah *ℤ bl +ℤ w *ℤ pos l) + (nat_abs (ah *ℤ bl) + nat_abs (w *ℤ pos l)) + 3 * 2 ^ 103 * l
    → 2 ^ 103 * nat_abs (v *ℤ pos l -ℤ (al *ℤ bh +ℤ t *ℤ pos l)) ≤ 2 ^ 50 * nat_abs (al *ℤ bh +ℤ t *ℤ pos l) + (nat_abs (al *ℤ bh) + nat_abs (t *ℤ pos l)) + 3 * 2 ^ 103 * l
    → 2 ^ 104 * nat_abs ((h +ℤ v) *ℤ pos l -ℤ (ah +ℤ al) *ℤ (bh +ℤ bl)) ≤ 2 ^ 104 * nat_abs (al *ℤ bl) + 2 ^ 54 * (nat_abs (ah *ℤ bl) + nat_abs (al *ℤ bh)) + nat_abs (ah *ℤ bh) + 2 ^ 108 * l
pairs_bound ah al bh bl h w t v l L h1 e h3 h4 =
    let P = pos l in
    let x : h *ℤ P +ℤ v *ℤ P -ℤ (ah *ℤ bh +ℤ ah *ℤ bl +ℤ al *ℤ bh +ℤ al *ℤ bl) ≡ (h +ℤ v) *ℤ P -ℤ (ah +ℤ al) *ℤ (bh +ℤ bl) = (λ i. add_scaled h v P i -ℤ sym (pairs_are ah al bh bl) i) in
    subst (λ (z : ℤ). 2 ^ 104 * nat_abs z ≤ 2 ^ 104 * nat_abs (al *ℤ bl) + 2 ^ 54 * (nat_abs (ah *ℤ bl) + nat_abs (al *ℤ bh)) + nat_abs (ah *ℤ bh) + 2 ^ 108 * l) x
    (pairs_product (ah *ℤ bh) (ah *ℤ bl) (al *ℤ bh) (al *ℤ bl) (h *ℤ P) (w *ℤ P) (t *ℤ P) (v *ℤ P) l
    (subst (λ (z : ℤ). 2 ^ 106 * nat_abs (z -ℤ ah *ℤ bh) ≤ nat_abs (ah *ℤ bh) + 2 ^ 107 * l) (sym (add_scaled h w P)) h1) (frac_error h (ah *ℤ bh) l L e) h3 h4)

pub paired_pairs : (al ah bl bh lo hi t v : Float) → Paired ah bh lo hi → Madd ah bl lo t 1880 → Madd al bh t v 1884 → PairsMean al ah bl bh v hi
paired_pairs al ah bl bh lo hi t v w x y = record {
  low = record { holds = y.answer.holds; number = y.answer.number };
  high = w.high;
  nearest = w.nearest;
  within = pairs_bound (val ah) (val al) (val bh) (val bl) (val hi) (val lo) (val t) (val v) (2 ^ 1074) (pow_pos 1074) w.within w.nearest x.within y.within;
}

-- ---- pair times number: p and r are b ah and b al, h + w is the product pair, and v about r + w
module _ (p r h w v : ℤ) (l : ℕ) where
  n_1 : h +ℤ v -ℤ (p +ℤ r) ≡ (h +ℤ w -ℤ p) +ℤ (v -ℤ (r +ℤ w))
  n_1 = omega lin

  n_2 : w ≡ (h +ℤ w -ℤ p) -ℤ (h -ℤ p)
  n_2 = omega lin

  number_product : 2 ^ 106 * nat_abs (h +ℤ w -ℤ p) ≤ nat_abs p + 2 ^ 107 * l → 2 ^ 53 * nat_abs (h -ℤ p) ≤ nat_abs p + 2 ^ 52 * l
      → 2 ^ 103 * nat_abs (v -ℤ (r +ℤ w)) ≤ 2 ^ 50 * nat_abs (r +ℤ w) + (nat_abs r + nat_abs w) + 3 * 2 ^ 103 * l
      → 2 ^ 104 * nat_abs (h +ℤ v -ℤ (p +ℤ r)) ≤ 2 ^ 54 * nat_abs r + nat_abs p + 2 ^ 108 * l
  number_product h1 h2 h3 =
      let e1 = ap nat_abs n_1 in
      let e2 = ap nat_abs n_2 in
      omega triangle

number_bound : (ah al b h w v : ℤ) (l : ℕ) → 0 < l → 2 ^ 106 * nat_abs ((h +ℤ w) *ℤ pos l -ℤ b *ℤ ah) ≤ nat_abs (b *ℤ ah) + 2 ^ 107 * l → h ≡ rq (b *ℤ ah) l
    → 2 ^ 103 * nat_abs (v *ℤ pos l -ℤ (b *ℤ al +ℤ w *ℤ pos l)) ≤ 2 ^ 50 * nat_abs (b *ℤ al +ℤ w *ℤ pos l) + (nat_abs (b *ℤ al) + nat_abs (w *ℤ pos l)) + 3 * 2 ^ 103 * l
    → 2 ^ 104 * nat_abs ((h +ℤ v) *ℤ pos l -ℤ (ah +ℤ al) *ℤ b) ≤ 2 ^ 54 * nat_abs (al *ℤ b) + nat_abs (ah *ℤ b) + 2 ^ 108 * l
number_bound ah al b h w v l L h1 e h3 =
    let P = pos l in
    let x : h *ℤ P +ℤ v *ℤ P -ℤ (b *ℤ ah +ℤ b *ℤ al) ≡ (h +ℤ v) *ℤ P -ℤ (ah +ℤ al) *ℤ b = (λ i. add_scaled h v P i -ℤ (turn ah al b) i) in
    subst (λ (z : ℤ). 2 ^ 104 * nat_abs z ≤ 2 ^ 54 * nat_abs (al *ℤ b) + nat_abs (ah *ℤ b) + 2 ^ 108 * l) x
    (subst (λ (z : ℤ). 2 ^ 104 * nat_abs (h *ℤ P +ℤ v *ℤ P -ℤ (b *ℤ ah +ℤ b *ℤ al)) ≤ 2 ^ 54 * nat_abs z + nat_abs (ah *ℤ b) + 2 ^ 108 * l) (mcomm b al)
    (subst (λ (z : ℤ). 2 ^ 104 * nat_abs (h *ℤ P +ℤ v *ℤ P -ℤ (b *ℤ ah +ℤ b *ℤ al)) ≤ 2 ^ 54 * nat_abs (b *ℤ al) + nat_abs z + 2 ^ 108 * l) (mcomm b ah)
    (number_product (b *ℤ ah) (b *ℤ al) (h *ℤ P) (w *ℤ P) (v *ℤ P) l
    (subst (λ (z : ℤ). 2 ^ 106 * nat_abs (z -ℤ b *ℤ ah) ≤ nat_abs (b *ℤ ah) + 2 ^ 107 * l) (sym (add_scaled h w P)) h1) (frac_error h (b *ℤ ah) l L e) h3)))
  where
    turn : (x y b : ℤ) → b *ℤ x +ℤ b *ℤ y ≡ (x +ℤ y) *ℤ b
    turn x y b = (λ i. mcomm b x i +ℤ mcomm b y i) ∙ sym (dist x y b)

pub paired_number : (al ah b lo hi v : Float) → Paired b ah lo hi → Madd b al lo v 1880 → NumberMeans al ah b v hi
paired_number al ah b lo hi v w x = record {
  low = record { holds = x.answer.holds; number = x.answer.number };
  high = w.high;
  nearest = w.nearest ∙ ap (λ (z : ℤ). rq z (2 ^ 1074)) (mcomm (val b) (val ah));
  within = number_bound (val ah) (val al) (val b) (val hi) (val lo) (val v) (2 ^ 1074) (pow_pos 1074) w.within w.nearest x.within;
}
