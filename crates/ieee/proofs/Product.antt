-- Dekker's product: the error of a rounded product, from the halves of the factors. Assumes nothing.
use Rattle.std.proofs.Common.{◌≡◌, ℕ, suc, ◌+◌, ◌*◌, ◌^◌, ◌<◌, ◌≤◌, ℤ, pos, ◌+ℤ◌, ◌-ℤ◌, ◌*ℤ◌, neg_ℤ, nat_abs, sym, ap, ◌∙◌, subst, inl, inr, le_trans, le_of_eq, mul-le-mul_right, mul-le-mul, le_of_mul-le-mul_right, arith, pow_pos, pow_mono, pow-add}
use native.Mathlib.Nat.{eq_of_mul-eq-mul_right}
use borrow.Author.Differences.{up, down, same_out}
use Rattle.ieee.specs.Val.{Mult}
use Rattle.ieee.proofs.Ints.{zs, Le, Near, abs_le, le_abs, abs_mul, massoc, mcomm, dist}
use Rattle.ieee.proofs.Whole.{order, Rounds, Repr, mult_down, mult_add, mult_neg, exact}
use Rattle.ieee.proofs.Sums.{repr_of}
use Rattle.ieee.proofs.Split.{Normal, Halves}

-- ---- a common factor of integers
pub cancel : (x y : ℤ) (p : ℕ) → 0 < p → x *ℤ pos p ≡ y *ℤ pos p → x ≡ y
cancel x y p P e =
    let f = same_out (x *ℤ pos p) (y *ℤ pos p) e in
    let g : up x + down y ≡ up y + down x = eq_of_mul-eq-mul_right p P (up x + down y) (up y + down x) (omega zs) in
    omega zs

pub dist_left : (a b c : ℤ) → a *ℤ (b +ℤ c) ≡ a *ℤ b +ℤ a *ℤ c
dist_left a b c = mcomm a (b +ℤ c) ∙ dist b c a ∙ (λ i. mcomm b a i +ℤ mcomm c a i)

-- (x p) (y q) = (x y) (p q)
pub mul_mul : (x y : ℤ) (p q : ℕ) → x *ℤ pos p *ℤ (y *ℤ pos q) ≡ x *ℤ y *ℤ pos (p * q)
mul_mul x y p q =
    massoc x (pos p) (y *ℤ pos q)
    ∙ ap (λ (z : ℤ). x *ℤ z) (sym (massoc (pos p) y (pos q)) ∙ ap (λ (z : ℤ). z *ℤ pos q) (mcomm (pos p) y) ∙ massoc y (pos p) (pos q))
    ∙ sym (massoc x y (pos (p * q)))

-- ---- a product in units: p * 2 ^ t = x * y
powers : (i j w t : ℕ) → w + t ≡ i + j → 2 ^ i * 2 ^ j ≡ 2 ^ w * 2 ^ t
powers i j w t e = sym (pow-add 2 i j) ∙ ap (λ (k : ℕ). 2 ^ k) (sym e) ∙ pow-add 2 w t

pub prod_mult : (x y p : ℤ) (i j w t : ℕ) → Mult i x → Mult j y → p *ℤ pos (2 ^ t) ≡ x *ℤ y → w + t ≡ i + j → Mult w p
prod_mult x y p i j w t (q, e) (r, f) h s = (
  q *ℤ r,
  cancel p (q *ℤ r *ℤ pos (2 ^ w)) (2 ^ t) (pow_pos t)
      (h ∙ (λ k. e k *ℤ f k) ∙ mul_mul q r (2 ^ i) (2 ^ j) ∙ ap (λ (z : ℕ). q *ℤ r *ℤ pos z) (powers i j w t s) ∙ sym (massoc (q *ℤ r) (pos (2 ^ w)) (pos (2 ^ t)))),
)

abs_prod : (x y p : ℤ) (t : ℕ) → p *ℤ pos t ≡ x *ℤ y → nat_abs p * t ≡ nat_abs x * nat_abs y
abs_prod x y p t h = sym (abs_mul p (pos t)) ∙ ap nat_abs h ∙ abs_mul x y

regroup : (c d i j w t : ℕ) → i * j ≡ w * t → c * i * (d * j) ≡ c * d * w * t
regroup c d i j w t e = omega (arith, ap (λ (z : ℕ). c * d * z) e)

pub prod_le : (x y p : ℤ) (c d i j w t : ℕ) → nat_abs x ≤ c * 2 ^ i → nat_abs y ≤ d * 2 ^ j → p *ℤ pos (2 ^ t) ≡ x *ℤ y → w + t ≡ i + j → nat_abs p ≤ c * d * 2 ^ w
prod_le x y p c d i j w t a b h s =
    le_of_mul-le-mul_right (le_trans (le_of_eq (abs_prod x y p (2 ^ t) h)) (le_trans (mul-le-mul a b) (le_of_eq (regroup c d (2 ^ i) (2 ^ j) (2 ^ w) (2 ^ t) (powers i j w t s))))) (pow_pos t)

pub prod_ge : (x y p : ℤ) (c d i j w t : ℕ) → c * 2 ^ i ≤ nat_abs x → d * 2 ^ j ≤ nat_abs y → p *ℤ pos (2 ^ t) ≡ x *ℤ y → w + t ≡ i + j → c * d * 2 ^ w ≤ nat_abs p
prod_ge x y p c d i j w t a b h s =
    le_of_mul-le-mul_right (le_trans (le_of_eq (sym (regroup c d (2 ^ i) (2 ^ j) (2 ^ w) (2 ^ t) (powers i j w t s)))) (le_trans (mul-le-mul a b) (le_of_eq (sym (abs_prod x y p (2 ^ t) h))))) (pow_pos t)

-- ---- the four parts
sum_scaled : (a b c d : ℤ) (t : ℕ) → (a +ℤ b +ℤ c +ℤ d) *ℤ pos t ≡ a *ℤ pos t +ℤ b *ℤ pos t +ℤ c *ℤ pos t +ℤ d *ℤ pos t
sum_scaled a b c d t = dist (a +ℤ b +ℤ c) d (pos t) ∙ ap (λ (z : ℤ). z +ℤ d *ℤ pos t) (dist (a +ℤ b) c (pos t) ∙ ap (λ (z : ℤ). z +ℤ c *ℤ pos t) (dist a b (pos t)))

pub four : (a b c d : ℤ) (t : ℕ) (hh hl lh ll p : ℤ) → hh *ℤ pos t ≡ a *ℤ c → hl *ℤ pos t ≡ a *ℤ d → lh *ℤ pos t ≡ b *ℤ c → ll *ℤ pos t ≡ b *ℤ d → p *ℤ pos t ≡ (a +ℤ b) *ℤ (c +ℤ d) → 0 < t → p ≡ hh +ℤ hl +ℤ lh +ℤ ll
four a b c d t hh hl lh ll p e1 e2 e3 e4 e T =
    cancel p (hh +ℤ hl +ℤ lh +ℤ ll) t T
    (e ∙ dist a b (c +ℤ d) ∙ (λ i. dist_left a c d i +ℤ dist_left b c d i) ∙ regrouped (a *ℤ c) (a *ℤ d) (b *ℤ c) (b *ℤ d) ∙ sym (sum_scaled hh hl lh ll t ∙ (λ i. e1 i +ℤ e2 i +ℤ e3 i +ℤ e4 i)))
  where
    regrouped : (x y z w : ℤ) → x +ℤ y +ℤ (z +ℤ w) ≡ x +ℤ y +ℤ z +ℤ w
    regrouped x y z w = omega zs

-- the sizes of the four sums, each with few facts in reach
size_1 : (p r hh hl lh ll : ℤ) (v : ℕ) → p ≡ hh +ℤ hl +ℤ lh +ℤ ll → Near r p (2 ^ 53 * v) → Le hl (2 ^ 79 * v) → Le lh (2 ^ 79 * v) → Le ll (2 ^ 52 * v) → Le (hh -ℤ r) (2 ^ 53 * (2 ^ 52 * v))
size_1 p r hh hl lh ll v e n a b c = (omega zs, omega zs)

size_2 : (p r hh hl lh ll : ℤ) (v : ℕ) → p ≡ hh +ℤ hl +ℤ lh +ℤ ll → Near r p (2 ^ 53 * v) → Le lh (2 ^ 79 * v) → Le ll (2 ^ 52 * v) → Le (hl +ℤ (hh -ℤ r)) (2 ^ 53 * (2 ^ 27 * v))
size_2 p r hh hl lh ll v e n b c = (omega zs, omega zs)

size_3 : (p r hh hl lh ll : ℤ) (v : ℕ) → p ≡ hh +ℤ hl +ℤ lh +ℤ ll → Near r p (2 ^ 53 * v) → Le ll (2 ^ 52 * v) → Le (lh +ℤ (hl +ℤ (hh -ℤ r))) (2 ^ 53 * (2 ^ 27 * v))
size_3 p r hh hl lh ll v e n c = (omega zs, omega zs)

size_4 : (p r hh hl lh ll : ℤ) (v : ℕ) → p ≡ hh +ℤ hl +ℤ lh +ℤ ll → Near r p (2 ^ 53 * v) → Le (ll +ℤ (lh +ℤ (hl +ℤ (hh -ℤ r)))) (2 ^ 53 * v)
size_4 p r hh hl lh ll v e n = (omega zs, omega zs)

pub raised : (i w : ℕ) (x : ℤ) → Mult (i + w) x → Le x (2 ^ 53 * (2 ^ i * 2 ^ w)) → Repr x
raised i w x m l = repr_of (i + w) x m (subst (λ (z : ℕ). Le x (2 ^ 53 * z)) (sym (pow-add 2 i w)) l)

id_all : (p r hh hl lh ll l : ℤ) → p ≡ hh +ℤ hl +ℤ lh +ℤ ll → l ≡ ll +ℤ (lh +ℤ (hl +ℤ (hh -ℤ r))) → r +ℤ l ≡ p
id_all p r hh hl lh ll l e f = omega zs

-- ---- what the four sums need, with v = 2 ^ w
module _ (p r hh hl lh ll : ℤ) (w : ℕ) (R : Rounds p r)
    (parts : p ≡ hh +ℤ hl +ℤ lh +ℤ ll)
    (mhh : Mult (54 + w) hh) (mhl : Mult (27 + w) hl) (mlh : Mult (27 + w) lh) (mll : Mult w ll)
    (bhh : Le hh (2 ^ 106 * 2 ^ w)) (bhl : Le hl (2 ^ 79 * 2 ^ w)) (blh : Le lh (2 ^ 79 * 2 ^ w)) (bll : Le ll (2 ^ 52 * 2 ^ w))
    (top : Le p (2 ^ 106 * 2 ^ w)) (bottom : 2 ^ 104 * 2 ^ w ≤ nat_abs p) where
  k_ge : 52 + w ≤ R.k
  k_ge = elim (order (52 + w) R.k) [
    | inl l ↦ l
    | inr g ↦ absurd (let m : 2 ^ suc R.k ≤ 2 ^ (52 + w) = pow_mono g in let hi = R.hi in omega (zs, pow-add 2 52 w, pow_pos w))
  ]

  pub off : Near r p (2 ^ 53 * 2 ^ w)
  off = let above = R.above in let below = R.below in
      let k_le : 2 ^ R.k ≤ 2 ^ 54 * 2 ^ w = elim R.lo [ inl e ↦ absurd (omega (arith, k_ge)) | inr (inl l) ↦ omega (arith, top) | inr (inr l) ↦ omega (arith, top) ] in
      (omega arith, omega arith)

  mr : Mult (52 + w) r
  mr = mult_down (52 + w) R.k r k_ge (R.q, R.is)

  repr_hh : Repr hh
  repr_hh = repr_of (54 + w) hh mhh (omega (arith, pow-add 2 54 w, bhh), omega (arith, pow-add 2 54 w, bhh))

  repr_hl : Repr hl
  repr_hl = repr_of (27 + w) hl mhl (omega (arith, pow-add 2 27 w, bhl), omega (arith, pow-add 2 27 w, bhl))

  repr_lh : Repr lh
  repr_lh = repr_of (27 + w) lh mlh (omega (arith, pow-add 2 27 w, blh), omega (arith, pow-add 2 27 w, blh))

  repr_ll : Repr ll
  repr_ll = repr_of w ll mll (omega (arith, bll), omega (arith, bll))

  m1 : Mult (52 + w) (hh -ℤ r)
  m1 = mult_add (52 + w) hh (neg_ℤ r) (mult_down (52 + w) (54 + w) hh (omega arith) mhh) (mult_neg (52 + w) r mr)

  pub repr_1 : Repr (hh -ℤ r)
  repr_1 = raised 52 w (hh -ℤ r) m1 (size_1 p r hh hl lh ll (2 ^ w) parts off bhl blh bll)

  m2 : Mult (27 + w) (hl +ℤ (hh -ℤ r))
  m2 = mult_add (27 + w) hl (hh -ℤ r) mhl (mult_down (27 + w) (52 + w) (hh -ℤ r) (omega arith) m1)

  pub repr_2 : Repr (hl +ℤ (hh -ℤ r))
  repr_2 = raised 27 w (hl +ℤ (hh -ℤ r)) m2 (size_2 p r hh hl lh ll (2 ^ w) parts off blh bll)

  m3 : Mult (27 + w) (lh +ℤ (hl +ℤ (hh -ℤ r)))
  m3 = mult_add (27 + w) lh (hl +ℤ (hh -ℤ r)) mlh m2

  pub repr_3 : Repr (lh +ℤ (hl +ℤ (hh -ℤ r)))
  repr_3 = raised 27 w (lh +ℤ (hl +ℤ (hh -ℤ r))) m3 (size_3 p r hh hl lh ll (2 ^ w) parts off bll)

  pub repr_4 : Repr (ll +ℤ (lh +ℤ (hl +ℤ (hh -ℤ r))))
  repr_4 = repr_of w (ll +ℤ (lh +ℤ (hl +ℤ (hh -ℤ r)))) (mult_add w ll (lh +ℤ (hl +ℤ (hh -ℤ r))) mll (mult_down w (27 + w) (lh +ℤ (hl +ℤ (hh -ℤ r))) (omega arith) m3)) (size_4 p r hh hl lh ll (2 ^ w) parts off)

  -- from the rounded products and sums
  pub assembled : (y1 y2 y3 y4 t1 t2 t3 l : ℤ) → Rounds hh y1 → Rounds hl y2 → Rounds lh y3 → Rounds ll y4 → Rounds (y1 -ℤ r) t1 → Rounds (y2 +ℤ t1) t2 → Rounds (y3 +ℤ t2) t3 → Rounds (y4 +ℤ t3) l → r +ℤ l ≡ p
  assembled y1 y2 y3 y4 t1 t2 t3 l R1 R2 R3 R4 S1 S2 S3 S4 =
      let e1 : y1 ≡ hh = exact hh y1 R1 repr_hh in
      let e2 : y2 ≡ hl = exact hl y2 R2 repr_hl in
      let e3 : y3 ≡ lh = exact lh y3 R3 repr_lh in
      let e4 : y4 ≡ ll = exact ll y4 R4 repr_ll in
      let f1 : t1 ≡ hh -ℤ r = exact (hh -ℤ r) t1 (subst (λ (z : ℤ). Rounds (z -ℤ r) t1) e1 S1) repr_1 in
      let f2 : t2 ≡ hl +ℤ (hh -ℤ r) = exact (hl +ℤ (hh -ℤ r)) t2 (subst (λ (z : ℤ). Rounds z t2) (λ i. e2 i +ℤ f1 i) S2) repr_2 in
      let f3 : t3 ≡ lh +ℤ (hl +ℤ (hh -ℤ r)) = exact (lh +ℤ (hl +ℤ (hh -ℤ r))) t3 (subst (λ (z : ℤ). Rounds z t3) (λ i. e3 i +ℤ f2 i) S3) repr_3 in
      let f4 : l ≡ ll +ℤ (lh +ℤ (hl +ℤ (hh -ℤ r))) = exact (ll +ℤ (lh +ℤ (hl +ℤ (hh -ℤ r)))) l (subst (λ (z : ℤ). Rounds z l) (λ i. e4 i +ℤ f3 i) S4) repr_4 in
      id_all p r hh hl lh ll l parts f4

-- ---- Dekker's product: the parts in units of 2 ^ t
pub normal_le : (a : ℤ) (j : ℕ) → Normal a j → (nat_abs a ≤ 2 ^ 53 * 2 ^ j) × (2 ^ 52 * 2 ^ j ≤ nat_abs a)
normal_le a j n =
    let p = 2 ^ j in
    let e = same_out a (n.m *ℤ pos p) n.is in
    let x = mul-le-mul_right p n.hi.0 in
    let y = mul-le-mul_right p n.hi.1 in
    (le_abs a (2 ^ 53 * p) (omega zs, omega zs), elim n.lo [ inl l ↦ (let z = mul-le-mul_right p l in omega zs) | inr l ↦ (let z = mul-le-mul_right p l in omega zs) ])

pub dekker : (a ah al b bh bl : ℤ) (i j w t : ℕ) → Normal a i → Halves a i ah al → Normal b j → Halves b j bh bl → w + t ≡ i + j
    → (p r hh hl lh ll : ℤ) → p *ℤ pos (2 ^ t) ≡ a *ℤ b → hh *ℤ pos (2 ^ t) ≡ ah *ℤ bh → hl *ℤ pos (2 ^ t) ≡ ah *ℤ bl → lh *ℤ pos (2 ^ t) ≡ al *ℤ bh → ll *ℤ pos (2 ^ t) ≡ al *ℤ bl
    → Rounds p r → (y1 y2 y3 y4 t1 t2 t3 l : ℤ) → Rounds hh y1 → Rounds hl y2 → Rounds lh y3 → Rounds ll y4 → Rounds (y1 -ℤ r) t1 → Rounds (y2 +ℤ t1) t2 → Rounds (y3 +ℤ t2) t3 → Rounds (y4 +ℤ t3) l → r +ℤ l ≡ p
dekker a ah al b bh bl i j w t na ha nb hb s p r hh hl lh ll e ehh ehl elh ell R =
    let parts = four ah al bh bl (2 ^ t) hh hl lh ll p ehh ehl elh ell (e ∙ sym (λ k. ha.both k *ℤ hb.both k)) (pow_pos t) in
    assembled p r hh hl lh ll w R parts
    (prod_mult ah bh hh (27 + i) (27 + j) (54 + w) t ha.h_mult hb.h_mult ehh (omega arith))
    (prod_mult ah bl hl (27 + i) j (27 + w) t ha.h_mult hb.l_mult ehl (omega arith))
    (prod_mult al bh lh i (27 + j) (27 + w) t ha.l_mult hb.h_mult elh (omega arith))
    (prod_mult al bl ll i j w t ha.l_mult hb.l_mult ell s)
    (abs_le hh (2 ^ 106 * 2 ^ w) (prod_le ah bh hh (2 ^ 53) (2 ^ 53) i j w t (le_abs ah (2 ^ 53 * 2 ^ i) ha.h_le) (le_abs bh (2 ^ 53 * 2 ^ j) hb.h_le) ehh s))
    (abs_le hl (2 ^ 79 * 2 ^ w) (prod_le ah bl hl (2 ^ 53) (2 ^ 26) i j w t (le_abs ah (2 ^ 53 * 2 ^ i) ha.h_le) (le_abs bl (2 ^ 26 * 2 ^ j) hb.l_le) ehl s))
    (abs_le lh (2 ^ 79 * 2 ^ w) (prod_le al bh lh (2 ^ 26) (2 ^ 53) i j w t (le_abs al (2 ^ 26 * 2 ^ i) ha.l_le) (le_abs bh (2 ^ 53 * 2 ^ j) hb.h_le) elh s))
    (abs_le ll (2 ^ 52 * 2 ^ w) (prod_le al bl ll (2 ^ 26) (2 ^ 26) i j w t (le_abs al (2 ^ 26 * 2 ^ i) ha.l_le) (le_abs bl (2 ^ 26 * 2 ^ j) hb.l_le) ell s))
    (abs_le p (2 ^ 106 * 2 ^ w) (prod_le a b p (2 ^ 53) (2 ^ 53) i j w t (normal_le a i na).0 (normal_le b j nb).0 e s))
    (prod_ge a b p (2 ^ 52) (2 ^ 52) i j w t (normal_le a i na).1 (normal_le b j nb).1 e s)
