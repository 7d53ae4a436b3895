-- Absolute values of sums and products, and how to prove what is not linear. Assumes nothing.
use Rattle.std.proofs.Common.{◌≡◌, ℕ, zero, suc, ◌+◌, ◌-◌, ◌*◌, ◌^◌, ◌≤◌, ℤ, pos, negsuc, ◌+ℤ◌, ◌-ℤ◌, ◌*ℤ◌, neg_ℤ, nat_abs, sym, refl, ap, ◌∙◌, le_trans, le_of_eq, arith}
use borrow.Author.Differences.{up, sum_is_lem, neg_is, same_in, same_out, abs_is}
use Rattle.ieee.proofs.Ints.{zs, abs_mul, massoc, mcomm, dist, neg_mul, mul_neg}
use Rattle.ieee.proofs.Product.{dist_left}

-- multiply out, then the rest is linear
pub ruleset ring = (dist, dist_left, mul_neg, neg_mul)

-- the same for three factors and more: the factors sorted, and each product one unknown
pub mlcomm : (a b c : ℤ) → a *ℤ (b *ℤ c) ≡ b *ℤ (a *ℤ c)
mlcomm a b c = sym (massoc a b c) ∙ ap (λ (z : ℤ). z *ℤ c) (mcomm a b) ∙ massoc b a c

pub ruleset poly = (dist, dist_left, mul_neg, neg_mul, massoc, mcomm, mlcomm)

pub ruleset lin = (arith, sum_is_lem, neg_is, same_in, same_out, abs_is)

pub abs_add : (a b : ℤ) → nat_abs (a +ℤ b) ≤ nat_abs a + nat_abs b
abs_add a b = omega zs

pub abs_sub : (a b : ℤ) → nat_abs (a -ℤ b) ≤ nat_abs a + nat_abs b
abs_sub a b = omega zs

pub abs_back : (a b : ℤ) → nat_abs a ≤ nat_abs (a -ℤ b) + nat_abs b
abs_back a b = omega zs

-- ---- bounds by the triangle inequality: `abs_add` is a lemma at an atom, so `omega` takes it at each |a + b| in sight, and `abs_neg` at each |- a|
pub abs_neg : (a : ℤ) → nat_abs (neg_ℤ a) ≡ nat_abs a
abs_neg (pos zero) = refl
abs_neg (pos (suc n)) = refl
abs_neg (negsuc n) = refl

pub ruleset triangle = (arith, abs_add, abs_neg)

-- A whole error analysis: the pair product without fma. All in units of 2 ^ -2148, l = 2 ^ 1074 being one unit of an f64:
-- p, q, r, s are ah bh, ah bl, al bh, al bl; ch + c1 is the product pair; t1, t2 round q and r; c2 rounds t1 + t2, and c3 rounds c1 + c2.
module _ (ch c1 c2 c3 t1 t2 p q r s : ℤ) (l : ℕ) where
  -- what the errors add up to
  -- (in steps: with more than about 30 facts `omega` leaves some out)
  step_1 : ch +ℤ c3 -ℤ (p +ℤ q +ℤ r +ℤ s) ≡ (ch +ℤ c1 -ℤ p) +ℤ (c3 -ℤ c1 -ℤ (q +ℤ r +ℤ s))
  step_1 = omega lin

  step_2 : c3 -ℤ c1 -ℤ (q +ℤ r +ℤ s) ≡ (c3 -ℤ (c1 +ℤ c2)) +ℤ (c2 -ℤ (q +ℤ r +ℤ s))
  step_2 = omega lin

  step_3 : c2 -ℤ (q +ℤ r +ℤ s) ≡ (c2 -ℤ (t1 +ℤ t2)) +ℤ ((t1 -ℤ q) +ℤ (t2 -ℤ r) -ℤ s)
  step_3 = omega lin

  c1_is : c1 ≡ (ch +ℤ c1 -ℤ p) -ℤ (ch -ℤ p)
  c1_is = omega lin

  c2_is : c2 ≡ (c2 -ℤ (t1 +ℤ t2)) +ℤ (t1 +ℤ t2)
  c2_is = omega lin

  t1_is : t1 ≡ (t1 -ℤ q) +ℤ q
  t1_is = omega lin

  t2_is : t2 ≡ (t2 -ℤ r) +ℤ r
  t2_is = omega lin

  pub pair_product : nat_abs (ch +ℤ c1 -ℤ p) ≤ 2 * l → 2 ^ 53 * nat_abs (ch -ℤ p) ≤ nat_abs p + 2 ^ 52 * l → 2 ^ 53 * nat_abs (t1 -ℤ q) ≤ nat_abs q + 2 ^ 52 * l → 2 ^ 53 * nat_abs (t2 -ℤ r) ≤ nat_abs r + 2 ^ 52 * l
      → 2 ^ 53 * nat_abs (c2 -ℤ (t1 +ℤ t2)) ≤ nat_abs (t1 +ℤ t2) → 2 ^ 53 * nat_abs (c3 -ℤ (c1 +ℤ c2)) ≤ nat_abs (c1 +ℤ c2)
      → 2 ^ 104 * nat_abs (ch +ℤ c3 -ℤ (p +ℤ q +ℤ r +ℤ s)) ≤ 2 ^ 104 * nat_abs s + 2 ^ 54 * (nat_abs q + nat_abs r) + nat_abs p + 2 ^ 108 * l
  pair_product h1 h2 h3 h4 h5 h6 =
      let e0 = ap nat_abs step_1 in
      let e5 = ap nat_abs step_2 in
      let e6 = ap nat_abs step_3 in
      let e1 = ap nat_abs c1_is in
      let e2 = ap nat_abs c2_is in
      let e3 = ap nat_abs t1_is in
      let e4 = ap nat_abs t2_is in
      omega triangle

-- ---- a reciprocal as a pair: y = 1 / x, t = 1 - x y, z = y t, each rounded; the error of x (y + z) by those of t and z. l is 1
recip_identity : (x y z t l : ℤ) → (x *ℤ (y +ℤ z) -ℤ l *ℤ l) *ℤ l ≡ l *ℤ (t *ℤ l -ℤ (l *ℤ l -ℤ x *ℤ y)) -ℤ (l *ℤ l -ℤ x *ℤ y) *ℤ t +ℤ x *ℤ (z *ℤ l -ℤ y *ℤ t)
recip_identity x y z t l = simp poly (omega lin)

pub recip_off : (x y z t l : ℤ) → nat_abs (x *ℤ (y +ℤ z) -ℤ l *ℤ l) * nat_abs l ≤ nat_abs l * nat_abs (t *ℤ l -ℤ (l *ℤ l -ℤ x *ℤ y)) + nat_abs (l *ℤ l -ℤ x *ℤ y) * nat_abs t + nat_abs x * nat_abs (z *ℤ l -ℤ y *ℤ t)
recip_off x y z t l =
    let d = l *ℤ l -ℤ x *ℤ y in
    let e = t *ℤ l -ℤ d in
    let f = z *ℤ l -ℤ y *ℤ t in
    let g = sym (abs_mul (x *ℤ (y +ℤ z) -ℤ l *ℤ l) l) ∙ ap nat_abs (recip_identity x y z t l) in
    let p1 = abs_mul l e in
    let p2 = abs_mul d t in
    let p3 = abs_mul x f in
    le_trans (le_of_eq g) (spread (l *ℤ e) (d *ℤ t) (x *ℤ f) (nat_abs l * nat_abs e) (nat_abs d * nat_abs t) (nat_abs x * nat_abs f) p1 p2 p3)
  where
    spread : (a b c : ℤ) (p q r : ℕ) → nat_abs a ≡ p → nat_abs b ≡ q → nat_abs c ≡ r → nat_abs (a -ℤ b +ℤ c) ≤ p + q + r
    spread a b c p q r e f g = omega triangle

-- ---- the bound of the multiply-add, in units of 2 ^ -2148: p is a b, h + w the product pair, t + u the sum of h and c, m rounds w + u, and s rounds m + t
module _ (p h w c t u m s : ℤ) (l : ℕ) (f : h +ℤ c ≡ t +ℤ u) where
  pub m_1 : s -ℤ (p +ℤ c) ≡ (s -ℤ (m +ℤ t)) +ℤ ((m +ℤ t) -ℤ (p +ℤ c))
  m_1 = omega lin

  pub m_2 : (m +ℤ t) -ℤ (p +ℤ c) ≡ (m -ℤ (w +ℤ u)) +ℤ (h +ℤ w -ℤ p)
  m_2 = omega lin

  pub m_3 : m +ℤ t ≡ ((m +ℤ t) -ℤ (p +ℤ c)) +ℤ (p +ℤ c)
  m_3 = omega lin

  pub m_4 : w ≡ (h +ℤ w -ℤ p) -ℤ (h -ℤ p)
  m_4 = omega lin

  pub m_5 : u ≡ neg_ℤ (t -ℤ (h +ℤ c))
  m_5 = omega lin

  pub m_6 : h ≡ (h -ℤ p) +ℤ p
  m_6 = omega lin

  pub mul_add_bound : nat_abs (h +ℤ w -ℤ p) ≤ 2 * l → 2 ^ 53 * nat_abs (h -ℤ p) ≤ nat_abs p + 2 ^ 52 * l → 2 ^ 53 * nat_abs (t -ℤ (h +ℤ c)) ≤ nat_abs (h +ℤ c) → 2 ^ 53 * nat_abs (m -ℤ (w +ℤ u)) ≤ nat_abs (w +ℤ u) → 2 ^ 53 * nat_abs (s -ℤ (m +ℤ t)) ≤ nat_abs (m +ℤ t)
      → 2 ^ 103 * nat_abs (s -ℤ (p +ℤ c)) ≤ 2 ^ 50 * nat_abs (p +ℤ c) + (nat_abs p + nat_abs c) + 2 ^ 107 * l
  mul_add_bound h1 h2 h3 h4 h5 =
      let e1 = ap nat_abs m_1 in
      let e2 = ap nat_abs m_2 in
      let e3 = ap nat_abs m_3 in
      let e4 = ap nat_abs m_4 in
      let e5 = ap nat_abs m_5 in
      let e6 = ap nat_abs m_6 in
      omega triangle
