-- The product of two pairs, without fma. Assumes nothing.
use Rattle.std.proofs.Common.{◌≡◌, ℕ, suc, ◌+◌, ◌*◌, ◌^◌, ◌<◌, ◌≤◌, T, ℤ, pos, ◌+ℤ◌, ◌-ℤ◌, ◌*ℤ◌, nat_abs, sym, refl, ap, ◌∙◌, subst, le_trans, le_of_eq, mul-le-mul_right, mul-le-mul, arith, lit<, pow_pos}
use lib.Ieee.{Float, binary64, fits, add, mul}
use Rattle.ieee.specs.Val.{val, rq, rz}
use Rattle.ieee.specs.Pairs.{Good, Times, PairTimes}
use Rattle.ieee.proofs.Ints.{zs, abs_mul, dist, cancel_le}
use Rattle.ieee.proofs.Whole.{Rounds, rounds}
use Rattle.ieee.proofs.Product.{dist_left}
use Rattle.ieee.proofs.Fractions.{rq_error, rounds_error}
use Rattle.ieee.proofs.Scaled.{sub_scaled, add_scaled}
use Rattle.ieee.proofs.Tools.{lin, pair_product, abs_back}
use Rattle.ieee.proofs.Floats.{good_add}
use Rattle.ieee.proofs.Bounded.{rq_le}
use Rattle.ieee.proofs.Products.{good_times}

-- a rounded whole number, in finer units
pub scale_error : (s z : ℤ) (l : ℕ) → 2 ^ 53 * nat_abs (s -ℤ z) ≤ nat_abs z → 2 ^ 53 * nat_abs (s *ℤ pos l -ℤ z *ℤ pos l) ≤ nat_abs (z *ℤ pos l)
scale_error s z l h =
    let e : nat_abs (s *ℤ pos l -ℤ z *ℤ pos l) ≡ nat_abs (s -ℤ z) * l = ap nat_abs (sub_scaled s z (pos l)) ∙ abs_mul (s -ℤ z) (pos l) in
    let f : nat_abs (z *ℤ pos l) ≡ nat_abs z * l = abs_mul z (pos l) in
    omega (arith, mul-le-mul_right l h)

pub rz_error : (s z : ℤ) → s ≡ rz z → 2 ^ 53 * nat_abs (s -ℤ z) ≤ nat_abs z
rz_error s z e = rounds_error z s (subst (Rounds z) (sym e) (rounds z))

regroup : (x y z w : ℤ) → x +ℤ y +ℤ (z +ℤ w) ≡ x +ℤ y +ℤ z +ℤ w
regroup x y z w = omega lin

pub pairs_are : (ah al bh bl : ℤ) → (ah +ℤ al) *ℤ (bh +ℤ bl) ≡ ah *ℤ bh +ℤ ah *ℤ bl +ℤ al *ℤ bh +ℤ al *ℤ bl
pairs_are ah al bh bl = dist ah al (bh +ℤ bl) ∙ (λ i. dist_left ah bh bl i +ℤ dist_left al bh bl i) ∙ regroup (ah *ℤ bh) (ah *ℤ bl) (al *ℤ bh) (al *ℤ bl)

pub pair_bound : (ah al bh bl ch c1 c2 c3 t1 t2 : ℤ) (l : ℕ) → 0 < l → nat_abs ((ch +ℤ c1) *ℤ pos l -ℤ ah *ℤ bh) ≤ 2 * l → ch ≡ rq (ah *ℤ bh) l → t1 ≡ rq (ah *ℤ bl) l → t2 ≡ rq (al *ℤ bh) l → c2 ≡ rz (t1 +ℤ t2) → c3 ≡ rz (c1 +ℤ c2)
    → 2 ^ 104 * nat_abs ((ch +ℤ c3) *ℤ pos l -ℤ (ah +ℤ al) *ℤ (bh +ℤ bl)) ≤ 2 ^ 104 * nat_abs (al *ℤ bl) + 2 ^ 54 * (nat_abs (ah *ℤ bl) + nat_abs (al *ℤ bh)) + nat_abs (ah *ℤ bh) + 2 ^ 108 * l
pair_bound ah al bh bl ch c1 c2 c3 t1 t2 l L h1 e0 e1 e2 e3 e4 =
    let P = pos l in
    let x : ch *ℤ P +ℤ c3 *ℤ P -ℤ (ah *ℤ bh +ℤ ah *ℤ bl +ℤ al *ℤ bh +ℤ al *ℤ bl) ≡ (ch +ℤ c3) *ℤ P -ℤ (ah +ℤ al) *ℤ (bh +ℤ bl) = (λ i. add_scaled ch c3 P i -ℤ sym (pairs_are ah al bh bl) i) in
    subst (λ (z : ℤ). 2 ^ 104 * nat_abs z ≤ 2 ^ 104 * nat_abs (al *ℤ bl) + 2 ^ 54 * (nat_abs (ah *ℤ bl) + nat_abs (al *ℤ bh)) + nat_abs (ah *ℤ bh) + 2 ^ 108 * l) x
    (pair_product (ch *ℤ P) (c1 *ℤ P) (c2 *ℤ P) (c3 *ℤ P) (t1 *ℤ P) (t2 *ℤ P) (ah *ℤ bh) (ah *ℤ bl) (al *ℤ bh) (al *ℤ bl) l
    (subst (λ (z : ℤ). nat_abs (z -ℤ ah *ℤ bh) ≤ 2 * l) (sym (add_scaled ch c1 P)) h1)
    (frac ch (ah *ℤ bh) e0) (frac t1 (ah *ℤ bl) e1) (frac t2 (al *ℤ bh) e2)
    (subst (λ (z : ℤ). 2 ^ 53 * nat_abs (c2 *ℤ P -ℤ z) ≤ nat_abs z) (sym (add_scaled t1 t2 P)) (scale_error c2 (t1 +ℤ t2) l (rz_error c2 (t1 +ℤ t2) e3)))
    (subst (λ (z : ℤ). 2 ^ 53 * nat_abs (c3 *ℤ P -ℤ z) ≤ nat_abs z) (sym (add_scaled c1 c2 P)) (scale_error c3 (c1 +ℤ c2) l (rz_error c3 (c1 +ℤ c2) e4))))
  where
    frac : (s z : ℤ) → s ≡ rq z l → 2 ^ 53 * nat_abs (s *ℤ pos l -ℤ z) ≤ nat_abs z + 2 ^ 52 * l
    frac s z e = subst (λ (t : ℤ). 2 ^ 53 * nat_abs (t *ℤ pos l -ℤ z) ≤ nat_abs z + 2 ^ 52 * l) (sym e) (rq_error z l L)

-- ---- the low part of a product is not large
pub low_small : (h c p : ℤ) (k l : ℕ) → 0 < l → nat_abs ((h +ℤ c) *ℤ pos l -ℤ p) ≤ 2 * l → nat_abs p ≤ 2 ^ suc k * l → nat_abs h ≤ 2 ^ suc (suc k) → nat_abs c ≤ 2 ^ suc (suc (suc k))
low_small h c p k l L a b d =
    let s = h +ℤ c in
    let K : 2 ≤ 2 ^ suc k = lib.Pow.pow_mono {i = 1} {j = suc k} (omega arith) in
    let t : nat_abs (s *ℤ pos l) ≤ nat_abs (s *ℤ pos l -ℤ p) + nat_abs p = abs_back (s *ℤ pos l) p in
    let m : nat_abs (s *ℤ pos l) ≡ nat_abs s * l = abs_mul s (pos l) in
    let n : nat_abs s ≤ 2 * 2 ^ suc k = cancel_le l (nat_abs s) (2 * 2 ^ suc k) L (omega (arith, mul-le-mul_right l K)) in
    let e : nat_abs c ≤ nat_abs s + nat_abs h = ends h c in
    omega arith
  where
    ends : (h c : ℤ) → nat_abs c ≤ nat_abs (h +ℤ c) + nat_abs h
    ends h c = omega zs

-- ---- on floats
pub pair_times : (al ah bl bh lo hi : Float) → Good al 1474 → Good ah 1474 → Good bl 1474 → Good bh 1474 → T (fits binary64 lo) → T (fits binary64 hi) → Times ah bh lo hi
    → PairTimes al ah bl bh (add binary64 lo (add binary64 (mul binary64 ah bl) (mul binary64 al bh))) hi
pair_times al ah bl bh lo hi gal gah gbl gbh flo fhi w =
    let t1 = mul binary64 ah bl in
    let t2 = mul binary64 al bh in
    let c2 = add binary64 t1 t2 in
    let p = val ah *ℤ val bh in
    let b : nat_abs p ≤ 2 ^ 1874 * 2 ^ 1074 = le_trans (le_of_eq (abs_mul (val ah) (val bh))) (mul-le-mul gah.small gbh.small) in
    let h : nat_abs (val hi) ≤ 2 ^ 1875 = subst (λ (z : ℤ). nat_abs z ≤ 2 ^ 1875) (sym w.nearest) (rq_le p (2 ^ 1074) 1874 (pow_pos 1074) b) in
    let LO : Good lo 1876 = record { holds = flo; number = w.lo_number; small = low_small (val hi) (val lo) p 1873 (2 ^ 1074) (pow_pos 1074) w.within b h } in
    let T1 = good_times ah bl 1474 1474 1874 gah gbl refl (lit< tt) in
    let T2 = good_times al bh 1474 1474 1874 gal gbh refl (lit< tt) in
    let C2 = good_add t1 t2 1875 T1.0 T2.0 (lit< tt) in
    let C3 = good_add lo c2 1876 LO C2.0 (lit< tt) in
    record {
      lo_number = C3.0.number;
      hi_number = w.hi_number;
      nearest = w.nearest;
      within = pair_bound (val ah) (val al) (val bh) (val bl) (val hi) (val lo) (val c2) (val (add binary64 lo c2)) (val t1) (val t2) (2 ^ 1074) (pow_pos 1074) w.within w.nearest T1.1 T2.1 C2.1 C3.1;
    }
