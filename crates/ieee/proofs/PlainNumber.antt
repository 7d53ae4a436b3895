-- A pair times a number, without fma: from the product pair of ah and b, what is left is al b rounded and added to the low part. Assumes nothing.
use Rattle.std.proofs.Common.{◌≡◌, ℕ, ◌+◌, ◌*◌, ◌^◌, ◌<◌, ◌≤◌, T, ℤ, pos, ◌+ℤ◌, ◌-ℤ◌, ◌*ℤ◌, nat_abs, sym, refl, ap, subst, le_trans, le_of_eq, mul-le-mul, lit<, lit≤, pow_pos}
use lib.Ieee.{Float, binary64, fits, add, mul}
use Rattle.ieee.specs.Val.{val, rq, rz}
use Rattle.ieee.specs.Pairs.{Good, Times}
use Rattle.ieee.specs.Meaning.{NumberMeans}
use Rattle.ieee.proofs.Ints.{abs_mul}
use Rattle.ieee.proofs.Fractions.{rq_error}
use Rattle.ieee.proofs.Scaled.{add_scaled}
use Rattle.ieee.proofs.Tools.{lin, triangle}
use Rattle.ieee.proofs.Floats.{good_add, good_up}
use Rattle.ieee.proofs.Bounded.{rq_le}
use Rattle.ieee.proofs.Products.{good_times}
use Rattle.ieee.proofs.PairTimes.{scale_error, rz_error, low_small}

-- the error of a rounded fraction, for a number known to be it
pub frac_error : (s z : ℤ) (l : ℕ) → 0 < l → s ≡ rq z l → 2 ^ 53 * nat_abs (s *ℤ pos l -ℤ z) ≤ nat_abs z + 2 ^ 52 * l
frac_error s z l L e = subst (λ (t : ℤ). 2 ^ 53 * nat_abs (t *ℤ pos l -ℤ z) ≤ nat_abs z + 2 ^ 52 * l) (sym e) (rq_error z l L)

-- the error of a rounded sum of whole numbers, in finer units
pub sum_error : (s x y : ℤ) (l : ℕ) → s ≡ rz (x +ℤ y) → 2 ^ 53 * nat_abs (s *ℤ pos l -ℤ (x *ℤ pos l +ℤ y *ℤ pos l)) ≤ nat_abs (x *ℤ pos l +ℤ y *ℤ pos l)
sum_error s x y l e = subst (λ (z : ℤ). 2 ^ 53 * nat_abs (s *ℤ pos l -ℤ z) ≤ nat_abs z) (sym (add_scaled x y (pos l))) (scale_error s (x +ℤ y) l (rz_error s (x +ℤ y) e))

-- ---- the bound, in units of 2 ^ -2148: p and r are ah b and al b, ch + c1 the product pair, t rounds r, and c3 rounds c1 + t
module _ (ch c1 c3 t p r : ℤ) (l : ℕ) where
  errors_are : ch +ℤ c3 -ℤ (p +ℤ r) ≡ (ch +ℤ c1 -ℤ p) +ℤ ((c3 -ℤ (c1 +ℤ t)) +ℤ (t -ℤ r))
  errors_are = omega lin

  c1_is : c1 ≡ (ch +ℤ c1 -ℤ p) -ℤ (ch -ℤ p)
  c1_is = omega lin

  t_is : t ≡ (t -ℤ r) +ℤ r
  t_is = omega lin

  number_product : nat_abs (ch +ℤ c1 -ℤ p) ≤ 2 * l → 2 ^ 53 * nat_abs (ch -ℤ p) ≤ nat_abs p + 2 ^ 52 * l → 2 ^ 53 * nat_abs (t -ℤ r) ≤ nat_abs r + 2 ^ 52 * l → 2 ^ 53 * nat_abs (c3 -ℤ (c1 +ℤ t)) ≤ nat_abs (c1 +ℤ t)
      → 2 ^ 104 * nat_abs (ch +ℤ c3 -ℤ (p +ℤ r)) ≤ 2 ^ 54 * nat_abs r + nat_abs p + 2 ^ 108 * l
  number_product h1 h2 h3 h4 =
      let e1 = ap nat_abs errors_are in
      let e2 = ap nat_abs c1_is in
      let e3 = ap nat_abs t_is in
      omega triangle

pub number_bound : (ah al b ch c1 c3 t : ℤ) (l : ℕ) → 0 < l → nat_abs ((ch +ℤ c1) *ℤ pos l -ℤ ah *ℤ b) ≤ 2 * l → ch ≡ rq (ah *ℤ b) l → t ≡ rq (al *ℤ b) l → c3 ≡ rz (c1 +ℤ t)
    → 2 ^ 104 * nat_abs ((ch +ℤ c3) *ℤ pos l -ℤ (ah +ℤ al) *ℤ b) ≤ 2 ^ 54 * nat_abs (al *ℤ b) + nat_abs (ah *ℤ b) + 2 ^ 108 * l
number_bound ah al b ch c1 c3 t l L h e0 e1 e2 =
    let P = pos l in
    let x : ch *ℤ P +ℤ c3 *ℤ P -ℤ (ah *ℤ b +ℤ al *ℤ b) ≡ (ch +ℤ c3) *ℤ P -ℤ (ah +ℤ al) *ℤ b = (λ i. add_scaled ch c3 P i -ℤ add_scaled ah al b i) in
    subst (λ (z : ℤ). 2 ^ 104 * nat_abs z ≤ 2 ^ 54 * nat_abs (al *ℤ b) + nat_abs (ah *ℤ b) + 2 ^ 108 * l) x
    (number_product (ch *ℤ P) (c1 *ℤ P) (c3 *ℤ P) (t *ℤ P) (ah *ℤ b) (al *ℤ b) l
    (subst (λ (z : ℤ). nat_abs (z -ℤ ah *ℤ b) ≤ 2 * l) (sym (add_scaled ch c1 P)) h)
    (frac_error ch (ah *ℤ b) l L e0) (frac_error t (al *ℤ b) l L e1) (sum_error c3 c1 t l e2))

-- ---- on floats
-- both parts of a product pair are far below the overflow
pub times_good : (a b lo hi : Float) → Good a 1474 → Good b 1474 → T (fits binary64 lo) → T (fits binary64 hi) → Times a b lo hi → Good lo 1876 × Good hi 1875
times_good a b lo hi ga gb flo fhi w =
    let p = val a *ℤ val b in
    let z : nat_abs p ≤ 2 ^ 1874 * 2 ^ 1074 = le_trans (le_of_eq (abs_mul (val a) (val b))) (mul-le-mul ga.small gb.small) in
    let h : nat_abs (val hi) ≤ 2 ^ 1875 = subst (λ (z : ℤ). nat_abs z ≤ 2 ^ 1875) (sym w.nearest) (rq_le p (2 ^ 1074) 1874 (pow_pos 1074) z) in (
      record { holds = flo; number = w.lo_number; small = low_small (val hi) (val lo) p 1873 (2 ^ 1074) (pow_pos 1074) w.within z h },
      record { holds = fhi; number = w.hi_number; small = h },
    )

pub number_times : (al ah b lo hi : Float) → Good al 1474 → Good ah 1474 → Good b 1474 → T (fits binary64 lo) → T (fits binary64 hi) → Times ah b lo hi
    → NumberMeans al ah b (add binary64 lo (mul binary64 al b)) hi
number_times al ah b lo hi gal gah gb flo fhi w =
    let t = mul binary64 al b in
    let LO = (times_good ah b lo hi gah gb flo fhi w).0 in
    let T = good_times al b 1474 1474 1874 gal gb refl (lit< tt) in
    let C = good_add lo t 1876 LO (good_up t 1875 1876 (lit≤ tt) T.0) (lit< tt) in
    record {
      low = record { holds = C.0.holds; number = C.0.number };
      high = record { holds = fhi; number = w.hi_number };
      nearest = w.nearest;
      within = number_bound (val ah) (val al) (val b) (val hi) (val lo) (val (add binary64 lo t)) (val t) (2 ^ 1074) (pow_pos 1074) w.within w.nearest T.1 C.1;
    }
