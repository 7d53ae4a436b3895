-- Rounding goes through a multiplication by a power of two, so a small factor can be split as a large one is. Dekker's product at any two numbers of 53 digits
-- whose product is no smaller than 2 ^ -900. Assumes nothing.
use Rattle.std.proofs.Common.{◌≡◌, ℕ, suc, ◌+◌, ◌-◌, ◌*◌, ◌^◌, ◌<◌, ◌≤◌, true, ◌⊎◌, ℤ, pos, negsuc, ◌+ℤ◌, ◌-ℤ◌, ◌*ℤ◌, neg_ℤ, nat_abs, sym, refl, ap, ◌∙◌, subst, inl, inr, le_trans, le_of_eq, lt_of_lt_of_le, mul-le-mul_right, mul-le-mul, mul-one, mul-div_cancel, arith, pow_pos, pow_mono, pow-add}
use lib.Ieee.{size, binary64}
use lib.Ieee.Digits.{size-lt}
use lib.Ieee.Scale.{grid, grid_scale}
use borrow.Author.Differences.{up, down, same_out}
use Rattle.ieee.specs.Val.{rnd, rz, Mult}
use Rattle.ieee.proofs.Ints.{zs, abs_mul, massoc, dist, neg_mul, cancel_le, cancel_lt}
use Rattle.ieee.proofs.Round.{rnd_same}
use Rattle.ieee.proofs.Whole.{order, Rounds, rounds, Repr, exact}
use Rattle.ieee.proofs.Bridge.{rz_signed, reflect}
use Rattle.ieee.proofs.Split.{Normal, Halves, split}
use Rattle.ieee.proofs.Product.{cancel, dekker, mul_mul, normal_le}

-- ---- `rnd` and `rz` scaled
repr_nat : (m n : ℕ) → m < 2 ^ 53 → Repr (pos (m * 2 ^ n))
repr_nat m n h = record { q = pos m; j = n; small = omega arith; is = refl }

pub exact_nat : (m n : ℕ) → m < 2 ^ 53 → rnd (m * 2 ^ n) 1 ≡ m * 2 ^ n
exact_nat m n h = ap nat_abs (exact (pos (m * 2 ^ n)) (rz (pos (m * 2 ^ n))) (rounds (pos (m * 2 ^ n))) (repr_nat m n h))

grid_is : (a : ℕ) → grid binary64 a (2 ^ 1074) ≡ rnd a 1
grid_is a = unfolded ∙ rnd_same (a * 2 ^ 1074) (2 ^ 1074) a 1 (pow_pos 1074) (pow_pos 0) (mul-one (a * 2 ^ 1074))
  where
    unfolded : grid binary64 a (2 ^ 1074) ≡ rnd (a * 2 ^ 1074) (2 ^ 1074)
    unfolded = unfold rnd in refl

pub rnd_scale : (m n : ℕ) → rnd (m * 2 ^ n) 1 ≡ rnd m 1 * 2 ^ n
rnd_scale m n = elim (order 53 (size m)) [
  | inl g ↦ sym (grid_is (m * 2 ^ n)) ∙ grid_scale binary64 m (2 ^ 1074) n (pow_pos 1074) (subst (λ (z : ℕ). 53 ≤ size z) (sym (mul-div_cancel m (pow_pos 1074))) g) ∙ ap (λ (z : ℕ). z * 2 ^ n) (grid_is m)
  | inr g ↦
      let h : m < 2 ^ 53 = lt_of_lt_of_le (size-lt m) (pow_mono {i = size m} {j = 53} (omega arith)) in
      let e : rnd m 1 ≡ m = sym (ap (λ (z : ℕ). rnd z 1) (mul-one m)) ∙ exact_nat m 0 h ∙ mul-one m in
      exact_nat m n h ∙ ap (λ (z : ℕ). z * 2 ^ n) (sym e)
]

pub rz_scale : (x : ℤ) (n : ℕ) → rz (x *ℤ pos (2 ^ n)) ≡ rz x *ℤ pos (2 ^ n)
rz_scale (pos m) n = ap pos (rnd_scale m n)
rz_scale (negsuc m) n = rz_signed true (suc m * 2 ^ n) ∙ ap (λ (z : ℕ). neg_ℤ (pos z)) (rnd_scale (suc m) n) ∙ sym (neg_mul (pos (rnd (suc m) 1)) (pos (2 ^ n)))

-- a rounded x, scaled, is the rounded y, where y is x scaled
pub scaled : (x y s : ℤ) (n : ℕ) → s ≡ rz x → y ≡ x *ℤ pos (2 ^ n) → Rounds y (s *ℤ pos (2 ^ n))
scaled x y s n e f = subst (Rounds y) (ap rz f ∙ rz_scale x n ∙ ap (λ (z : ℤ). z *ℤ pos (2 ^ n)) (sym e)) (rounds y)

-- ---- any number of 53 digits but 0, times 2 ^ 52, is normal
big : (a p : ℤ) (k : ℕ) → a ≡ p → Rounds a a → nat_abs a ≡ k → 2 ^ 52 ≤ k → (j : ℕ) × Normal a j
big a p k e r f h = (
  r.k,
  record {
    m = r.q;
    is = r.is;
    hi = let g = same_out a (r.q *ℤ pos (2 ^ r.k)) r.is in let H = r.hi in (cancel_lt (2 ^ r.k) (up r.q) (down r.q + 2 ^ 53) (omega zs), cancel_lt (2 ^ r.k) (down r.q) (up r.q + 2 ^ 53) (omega zs));
    lo = least a k r f h;
  },
)
  where
    least : (a : ℤ) (k : ℕ) (r : Rounds a a) → nat_abs a ≡ k → 2 ^ 52 ≤ k → (2 ^ 52 + down r.q ≤ up r.q) ⊎ (2 ^ 52 + up r.q ≤ down r.q)
    least a k r f h =
        let p = 2 ^ r.k in
        let P = pow_pos r.k in
        let q = r.q in
        let g = same_out a (q *ℤ pos p) r.is in
        elim (order (down a) (up a)) [
          | inl l ↦ inl (cancel_le p (2 ^ 52 + down q) (up q) P (elim r.lo [ inl z ↦ (let p1 : p ≡ 1 = ap (λ (i : ℕ). 2 ^ i) z in omega zs) | inr (inl z) ↦ omega zs | inr (inr z) ↦ absurd (omega arith) ]))
          | inr l ↦ inr (cancel_le p (2 ^ 52 + up q) (down q) P (elim r.lo [ inl z ↦ (let p1 : p ≡ 1 = ap (λ (i : ℕ). 2 ^ i) z in omega zs) | inr (inl z) ↦ absurd (omega arith) | inr (inr z) ↦ omega zs ]))
        ]

pub repr_scale : (a : ℤ) (n : ℕ) → Repr a → Repr (a *ℤ pos (2 ^ n))
repr_scale a n r = record { q = r.q; j = r.j + n; small = r.small; is = ap (λ (z : ℤ). z *ℤ pos (2 ^ n)) r.is ∙ massoc r.q (pos (2 ^ r.j)) (pos (2 ^ n)) ∙ ap (λ (z : ℕ). r.q *ℤ pos z) (sym (pow-add 2 r.j n)) }

abbrev pub lift : ℤ → ℤ
lift a = a *ℤ pos (2 ^ 52)

pub normal : (a : ℤ) → Repr a → 0 < nat_abs a → (j : ℕ) × Normal (lift a) j
normal a r h =
    let e = exact (lift a) (rz (lift a)) (rounds (lift a)) (repr_scale a 52 r) in
    big (lift a) (lift a) (nat_abs a * 2 ^ 52) refl (subst (Rounds (lift a)) e (rounds (lift a))) (abs_mul a (pos (2 ^ 52))) (omega arith)

-- ---- the split of any number of 53 digits, scaled
pub sub_scaled : (x y : ℤ) (p : ℤ) → x *ℤ p -ℤ y *ℤ p ≡ (x -ℤ y) *ℤ p
sub_scaled x y p = sym (dist x (neg_ℤ y) p ∙ ap (λ (z : ℤ). x *ℤ p +ℤ z) (neg_mul y p))

pub add_scaled : (x y : ℤ) (p : ℤ) → x *ℤ p +ℤ y *ℤ p ≡ (x +ℤ y) *ℤ p
add_scaled x y p = sym (dist x y p)

-- the steps of `split`
pub record Steps (a t1 t2 h l : ℤ) : Type 0 where
  pub s1 : t1 ≡ rz (pos (2 ^ 27 + 1) *ℤ a)
  pub s2 : t2 ≡ rz (a -ℤ t1)
  pub s3 : h ≡ rz (t1 +ℤ t2)
  pub s4 : l ≡ rz (a -ℤ h)

pub halves : (a t1 t2 h l : ℤ) (j : ℕ) → Normal (lift a) j → Steps a t1 t2 h l → Halves (lift a) j (lift h) (lift l)
halves a t1 t2 h l j n s =
    let p = pos (2 ^ 52) in
    split (lift a) (lift t1) (lift t2) (lift h) (lift l) j n
    (scaled (pos (2 ^ 27 + 1) *ℤ a) (pos (2 ^ 27 + 1) *ℤ lift a) t1 52 s.s1 (sym (massoc (pos (2 ^ 27 + 1)) a p)))
    (scaled (a -ℤ t1) (lift a -ℤ lift t1) t2 52 s.s2 (sub_scaled a t1 p))
    (scaled (t1 +ℤ t2) (lift t1 +ℤ lift t2) h 52 s.s3 (add_scaled t1 t2 p))
    (scaled (a -ℤ h) (lift a -ℤ lift h) l 52 s.s4 (sub_scaled a h p))

-- ---- the products of the parts are whole
pub whole_product : (x y : ℤ) (i j : ℕ) → Mult i (lift x) → Mult j (lift y) → 1178 ≤ i + j → (p : ℤ) × (p *ℤ pos (2 ^ 1074) ≡ x *ℤ y)
whole_product x y i j (q, e) (r, f) h =
    let d = i + j - 1178 in
    let p = q *ℤ r *ℤ pos (2 ^ d) in
    let g : 2 ^ i * 2 ^ j ≡ 2 ^ d * 2 ^ 1178 = sym (pow-add 2 i j) ∙ ap (λ (z : ℕ). 2 ^ z) {x = i + j} {y = d + 1178} (omega arith) ∙ pow-add 2 d 1178 in (
      p,
      cancel (p *ℤ pos (2 ^ 1074)) (x *ℤ y) (2 ^ 104) (pow_pos 104)
          (massoc p (pos (2 ^ 1074)) (pos (2 ^ 104)) ∙ massoc (q *ℤ r) (pos (2 ^ d)) (pos (2 ^ 1178)) ∙ ap (λ (z : ℕ). q *ℤ r *ℤ pos z) (sym g) ∙ sym (mul_mul q r (2 ^ i) (2 ^ j)) ∙ sym (λ k. e k *ℤ f k) ∙ mul_mul x y (2 ^ 52) (2 ^ 52)),
    )

-- the exponents, from the size of the product
both_lifted : (A B u : ℕ) → A * B * (u * u) ≡ A * u * (B * u)
both_lifted A B u = omega arith

tops : (x y : ℕ) → 2 ^ 53 * x * (2 ^ 53 * y) ≡ 2 ^ 106 * (x * y)
tops x y = omega arith

pub exponents : (a b : ℤ) (i j : ℕ) → Normal (lift a) i → Normal (lift b) j → 2 ^ 1248 ≤ nat_abs a * nat_abs b → 1246 ≤ i + j
exponents a b i j m n h =
    let c = le_trans (le_of_eq (sym (abs_mul a (pos (2 ^ 52))))) (normal_le (lift a) i m).0 in
    let d = le_trans (le_of_eq (sym (abs_mul b (pos (2 ^ 52))))) (normal_le (lift b) j n).0 in
    let k : 2 ^ 1352 ≤ 2 ^ (106 + (i + j)) = le_trans (mul-le-mul_right (2 ^ 52 * 2 ^ 52) h) (le_trans (le_of_eq (both_lifted (nat_abs a) (nat_abs b) (2 ^ 52))) (le_trans (mul-le-mul c d) (le_of_eq (tops (2 ^ i) (2 ^ j) ∙ ap (λ (z : ℕ). 2 ^ 106 * z) (sym (pow-add 2 i j)) ∙ sym (pow-add 2 106 (i + j)))))) in
    let l = reflect 1352 (106 + (i + j)) k in
    omega (arith, l)

-- ---- the products
pub lifted_product : (x y p : ℤ) → p *ℤ pos (2 ^ 1074) ≡ x *ℤ y → p *ℤ pos (2 ^ 104) *ℤ pos (2 ^ 1074) ≡ lift x *ℤ lift y
lifted_product x y p e = massoc p (pos (2 ^ 104)) (pos (2 ^ 1074)) ∙ sym (massoc p (pos (2 ^ 1074)) (pos (2 ^ 104))) ∙ ap (λ (z : ℤ). z *ℤ pos (2 ^ 104)) e ∙ sym (mul_mul x y (2 ^ 52) (2 ^ 52))

pub exact_product : (a ta ua ah al b tb ub bh bl : ℤ) (i j : ℕ) → Normal (lift a) i → Steps a ta ua ah al → Normal (lift b) j → Steps b tb ub bh bl → 1178 ≤ i + j
    → (p r hh hl lh ll y1 y2 y3 y4 t1 t2 t3 l : ℤ) → p *ℤ pos (2 ^ 1074) ≡ a *ℤ b → hh *ℤ pos (2 ^ 1074) ≡ ah *ℤ bh → hl *ℤ pos (2 ^ 1074) ≡ ah *ℤ bl → lh *ℤ pos (2 ^ 1074) ≡ al *ℤ bh → ll *ℤ pos (2 ^ 1074) ≡ al *ℤ bl
    → r ≡ rz p → y1 ≡ rz hh → y2 ≡ rz hl → y3 ≡ rz lh → y4 ≡ rz ll → t1 ≡ rz (y1 -ℤ r) → t2 ≡ rz (y2 +ℤ t1) → t3 ≡ rz (y3 +ℤ t2) → l ≡ rz (y4 +ℤ t3) → r +ℤ l ≡ p
exact_product a ta ua ah al b tb ub bh bl i j na sa nb sb h p r hh hl lh ll y1 y2 y3 y4 t1 t2 t3 l ep e1 e2 e3 e4 er f1 f2 f3 f4 g1 g2 g3 g4 =
    let P = pos (2 ^ 104) in
    cancel (r +ℤ l) p (2 ^ 104) (pow_pos 104)
    (dist r l P
    ∙ dekker (lift a) (lift ah) (lift al) (lift b) (lift bh) (lift bl) i j (i + j - 1074) 1074 na (halves a ta ua ah al i na sa) nb (halves b tb ub bh bl j nb sb) (omega (arith, h))
    (p *ℤ P) (r *ℤ P) (hh *ℤ P) (hl *ℤ P) (lh *ℤ P) (ll *ℤ P) (lifted_product a b p ep) (lifted_product ah bh hh e1) (lifted_product ah bl hl e2) (lifted_product al bh lh e3) (lifted_product al bl ll e4)
    (scaled p (p *ℤ P) r 104 er refl)
    (y1 *ℤ P) (y2 *ℤ P) (y3 *ℤ P) (y4 *ℤ P) (t1 *ℤ P) (t2 *ℤ P) (t3 *ℤ P) (l *ℤ P)
    (scaled hh (hh *ℤ P) y1 104 f1 refl) (scaled hl (hl *ℤ P) y2 104 f2 refl) (scaled lh (lh *ℤ P) y3 104 f3 refl) (scaled ll (ll *ℤ P) y4 104 f4 refl)
    (scaled (y1 -ℤ r) (y1 *ℤ P -ℤ r *ℤ P) t1 104 g1 (sub_scaled y1 r P)) (scaled (y2 +ℤ t1) (y2 *ℤ P +ℤ t1 *ℤ P) t2 104 g2 (add_scaled y2 t1 P)) (scaled (y3 +ℤ t2) (y3 *ℤ P +ℤ t2 *ℤ P) t3 104 g3 (add_scaled y3 t2 P)) (scaled (y4 +ℤ t3) (y4 *ℤ P +ℤ t3 *ℤ P) l 104 g4 (add_scaled y4 t3 P)))
