-- The multiply-add without fma: with lo and hi the product pair of a and b, TwoSum of hi and c is t + u, m rounds lo + u, and the answer rounds m + t. Assumes nothing.
use Rattle.std.proofs.Common.{◌≡◌, ℕ, suc, ◌+◌, ◌*◌, ◌^◌, ◌<◌, ◌≤◌, T, ◌⊎◌, ℤ, pos, ◌+ℤ◌, ◌-ℤ◌, ◌*ℤ◌, nat_abs, sym, refl, ap, ◌∙◌, subst, inl, inr, le_trans, le_of_eq, arith, pow_pos}
use lib.Ieee.{Float, binary64, fits, add, sub}
use lib.Ieee.Fits.{add-fits}
use Rattle.ieee.specs.Val.{val, rq, rz}
use Rattle.ieee.specs.Pairs.{Good, Times}
use Rattle.ieee.specs.Meaning.{IsF64, fine, Settled, MaddMeans}
use Rattle.ieee.proofs.Ints.{zs, abs_mul}
use Rattle.ieee.proofs.Whole.{Repr}
use Rattle.ieee.proofs.Bridge.{val_repr}
use Rattle.ieee.proofs.Product.{cancel}
use Rattle.ieee.proofs.Fractions.{rq_whole}
use Rattle.ieee.proofs.Scaled.{add_scaled}
use Rattle.ieee.proofs.Tools.{triangle, m_1, m_2, m_3, m_4, m_5, m_6}
use Rattle.ieee.proofs.Floats.{rounding, good_up, good_add, full_add}
use Rattle.ieee.proofs.MulAdd.{mul_add_exact}
use Rattle.ieee.proofs.PlainNumber.{frac_error, sum_error, times_good}

-- ---- the bound of `mul_add_bound` with three units in place of sixteen: p is a b, h + w the product pair; all in units of 2 ^ -2148
sharp_sum : (p h w c t u m s : ℤ) (l : ℕ) → h +ℤ c ≡ t +ℤ u
    → nat_abs (h +ℤ w -ℤ p) ≤ 2 * l → 2 ^ 53 * nat_abs (h -ℤ p) ≤ nat_abs p + 2 ^ 52 * l → 2 ^ 53 * nat_abs (t -ℤ (h +ℤ c)) ≤ nat_abs (h +ℤ c) → 2 ^ 53 * nat_abs (m -ℤ (w +ℤ u)) ≤ nat_abs (w +ℤ u) → 2 ^ 53 * nat_abs (s -ℤ (m +ℤ t)) ≤ nat_abs (m +ℤ t)
    → 2 ^ 103 * nat_abs (s -ℤ (p +ℤ c)) ≤ 2 ^ 50 * nat_abs (p +ℤ c) + (nat_abs p + nat_abs c) + 3 * 2 ^ 103 * l
sharp_sum p h w c t u m s l f h1 h2 h3 h4 h5 =
    let e1 = ap nat_abs (m_1 p h w c t u m s l f) in
    let e2 = ap nat_abs (m_2 p h w c t u m s l f) in
    let e3 = ap nat_abs (m_3 p h w c t u m s l f) in
    let e4 = ap nat_abs (m_4 p h w c t u m s l f) in
    let e5 = ap nat_abs (m_5 p h w c t u m s l f) in
    let e6 = ap nat_abs (m_6 p h w c t u m s l f) in
    omega triangle

-- from what each step rounds
pub sharp_bound : (a b h w c t u m s : ℤ) (l : ℕ) → 0 < l → nat_abs ((h +ℤ w) *ℤ pos l -ℤ a *ℤ b) ≤ 2 * l → h ≡ rq (a *ℤ b) l → t ≡ rz (h +ℤ c) → t +ℤ u ≡ h +ℤ c → m ≡ rz (w +ℤ u) → s ≡ rz (m +ℤ t)
    → 2 ^ 103 * nat_abs (s *ℤ pos l -ℤ (a *ℤ b +ℤ c *ℤ pos l)) ≤ 2 ^ 50 * nat_abs (a *ℤ b +ℤ c *ℤ pos l) + (nat_abs (a *ℤ b) + nat_abs (c *ℤ pos l)) + 3 * 2 ^ 103 * l
sharp_bound a b h w c t u m s l L near eh et f em es =
    let P = pos l in
    sharp_sum (a *ℤ b) (h *ℤ P) (w *ℤ P) (c *ℤ P) (t *ℤ P) (u *ℤ P) (m *ℤ P) (s *ℤ P) l
    (add_scaled h c P ∙ ap (λ (z : ℤ). z *ℤ P) (sym f) ∙ sym (add_scaled t u P))
    (subst (λ (z : ℤ). nat_abs (z -ℤ a *ℤ b) ≤ 2 * l) (sym (add_scaled h w P)) near)
    (frac_error h (a *ℤ b) l L eh) (sum_error t h c l et) (sum_error m w u l em) (sum_error s m t l es)

-- where a b is the whole number h + w of units, and a b + c one of 53 digits, that is the answer
pub sharp_exact : (ab h w c t u m s z : ℤ) (l : ℕ) → 0 < l → (h +ℤ w) *ℤ pos l ≡ ab → h ≡ rq ab l → Repr w → Repr c → t ≡ rz (h +ℤ c) → t +ℤ u ≡ h +ℤ c → m ≡ rz (w +ℤ u) → s ≡ rz (m +ℤ t)
    → Repr z → z *ℤ pos l ≡ ab +ℤ c *ℤ pos l → s ≡ z
sharp_exact ab h w c t u m s z l L whole eh rw rc et f em es rz e =
    let p = h +ℤ w in
    let is : z ≡ p +ℤ c = cancel z (p +ℤ c) l L (e ∙ ap (λ (y : ℤ). y +ℤ c *ℤ pos l) (sym whole) ∙ add_scaled p c (pos l)) in
    mul_add_exact p h w c t u (rounding h p (eh ∙ rq_whole ab p l L (sym whole))) refl rw rc (rounding t (h +ℤ c) et) (sym f) (subst Repr is rz) m s (rounding m (w +ℤ u) em) (rounding s (m +ℤ t) es) ∙ sym is

-- ---- on floats
-- the low part of TwoSum
abbrev pub lost : Float → Float → Float
lost a b =
    let s = add binary64 a b in
    let t = sub binary64 s a in
    add binary64 (sub binary64 b t) (sub binary64 a (sub binary64 s t))

-- the answer, from the product pair
abbrev pub madd : Float → Float → Float → Float
madd lo hi c = add binary64 (add binary64 lo (lost hi c)) (add binary64 hi c)

-- what is lost is at most the three numbers together
lost_small : (a b t u : ℤ) (j : ℕ) → t +ℤ u ≡ a +ℤ b → nat_abs a ≤ 2 ^ j → nat_abs b ≤ 2 ^ j → nat_abs t ≤ 2 ^ suc j → nat_abs u ≤ 2 ^ suc (suc j)
lost_small a b t u j e x y z = omega zs

-- the same bound for c of any size that does not overflow, and how large the answer is
pub record Madd (a b c r : Float) (j : ℕ) : Type 0 where
  pub answer : Good r (suc (suc (suc (suc j))))
  pub within : 2 ^ 103 * nat_abs (fine (val r) -ℤ (val a *ℤ val b +ℤ fine (val c))) ≤ 2 ^ 50 * nat_abs (val a *ℤ val b +ℤ fine (val c)) + (nat_abs (val a *ℤ val b) + nat_abs (fine (val c))) + 3 * 2 ^ 103 * 2 ^ 1074
  pub exact : Settled a b → (z : ℤ) → IsF64 z → fine z ≡ val a *ℤ val b +ℤ fine (val c) → val r ≡ z

-- a product that is at least 2 ^ -900 in size, by its factors
pub settled : (a b : ℤ) → (a *ℤ b ≡ pos 0) ⊎ (2 ^ 1248 ≤ nat_abs (a *ℤ b)) → (a *ℤ b ≡ pos 0) ⊎ (2 ^ 1248 ≤ nat_abs a * nat_abs b)
settled a b (inl e) = inl e
settled a b (inr h) = inr (le_trans h (le_of_eq (abs_mul a b)))

pub madd_sharp : (a b c lo hi : Float) (j : ℕ) → Good a 1474 → Good b 1474 → Good c j → T (fits binary64 lo) → T (fits binary64 hi) → Times a b lo hi → 1876 ≤ j → j + 5 < 2098 → Madd a b c (madd lo hi c) j
madd_sharp a b c lo hi j ga gb gc flo fhi w least most =
    let t = add binary64 hi c in
    let u = lost hi c in
    let m = add binary64 lo u in
    let G = times_good a b lo hi ga gb flo fhi w in
    let H : Good hi j = good_up hi 1875 j (omega arith) G.1 in
    let T = good_add hi c j H gc (omega arith) in
    let S = full_add hi c j H gc (omega arith) in
    let U : Good u (suc (suc j)) = record { holds = add-fits binary64 _ _; number = S.lo_number; small = lost_small (val hi) (val c) (val t) (val u) j S.exact H.small gc.small T.0.small } in
    let M = good_add lo u (suc (suc j)) (good_up lo 1876 (suc (suc j)) (omega arith) G.0) U (omega arith) in
    let R = good_add m t (suc (suc (suc j))) M.0 (good_up t (suc j) (suc (suc (suc j))) (omega arith) T.0) (omega arith) in
    record {
      answer = R.0;
      within = sharp_bound (val a) (val b) (val hi) (val lo) (val c) (val t) (val u) (val m) (val (add binary64 m t)) (2 ^ 1074) (pow_pos 1074) w.within w.nearest T.1 S.exact M.1 R.1;
      exact = λ s z y e. sharp_exact (val a *ℤ val b) (val hi) (val lo) (val c) (val t) (val u) (val m) (val (add binary64 m t)) z (2 ^ 1074) (pow_pos 1074) (w.exact (settled (val a) (val b) s)) w.nearest (val_repr lo flo) (val_repr c gc.holds)
          T.1 S.exact M.1 R.1 (subst Repr y.1.1 (val_repr y.0 y.1.0.holds)) e;
    }

-- sixteen units instead of three
more_units : (e x y l : ℕ) → e ≤ x + y + 3 * 2 ^ 103 * l → e ≤ x + y + 2 ^ 107 * l
more_units e x y l h = omega arith

pub madd_means : (a b c r : Float) (j : ℕ) → Madd a b c r j → MaddMeans a b c r
madd_means a b c r j w = record {
  answer = record { holds = w.answer.holds; number = w.answer.number };
  within = more_units (2 ^ 103 * nat_abs (fine (val r) -ℤ (val a *ℤ val b +ℤ fine (val c)))) (2 ^ 50 * nat_abs (val a *ℤ val b +ℤ fine (val c))) (nat_abs (val a *ℤ val b) + nat_abs (fine (val c))) (2 ^ 1074) w.within;
  exact = w.exact;
}
