-- Dekker's product at any two numbers of 53 digits: within two units of the product. Assumes nothing.
use Rattle.std.proofs.Common.{◌≡◌, ℕ, suc, ◌+◌, ◌-◌, ◌*◌, ◌^◌, ◌<◌, ◌≤◌, ◌⊎◌, ℤ, pos, negsuc, ◌+ℤ◌, ◌-ℤ◌, ◌*ℤ◌, neg_ℤ, nat_abs, sym, refl, ap, ◌∙◌, subst, inl, inr, le_trans, le_of_eq, mul-le-mul_right, zero-add, arith, pow_pos, pow-add}
use borrow.Author.Differences.{up, down, product_is, same_out}
use Rattle.ieee.specs.Val.{rq, rz, Mult}
use Rattle.ieee.proofs.Ints.{zs, Near, le_abs, abs_mul, massoc, mcomm, cancel_le}
use Rattle.ieee.proofs.Round.{rnd_same}
use Rattle.ieee.proofs.Whole.{Rounds, rounds}
use Rattle.ieee.proofs.Split.{Normal}
use Rattle.ieee.proofs.Product.{cancel, four, mul_mul, prod_le, prod_ge, normal_le}
use Rattle.ieee.proofs.Fractions.{Parts, parts}
use Rattle.ieee.proofs.Scaled.{lift, Steps, halves}
use Rattle.ieee.proofs.Tiny.{within_two}

-- ---- equal fractions
pub rq_same : (x y : ℤ) (d e : ℕ) → 0 < d → 0 < e → x *ℤ pos e ≡ y *ℤ pos d → rq x d ≡ rq y e
rq_same (pos m) (pos n) d e D E h = ap pos (rnd_same m d n e D E (ap nat_abs h))
rq_same (pos m) (negsuc n) d e D E h = absurd (let f = same_out (pos m *ℤ pos e) (negsuc n *ℤ pos d) h in omega (zs, f))
rq_same (negsuc m) (pos n) d e D E h = absurd (let f = same_out (negsuc m *ℤ pos e) (pos n *ℤ pos d) h in omega (zs, f))
rq_same (negsuc m) (negsuc n) d e D E h = ap (λ (z : ℕ). neg_ℤ (pos z)) (rnd_same (suc m) d (suc n) e D E (sym (abs_mul (negsuc m) (pos e)) ∙ ap nat_abs h ∙ abs_mul (negsuc n) (pos d)))

-- ---- x y in units, as q / 2 ^ z
swap_last : (a : ℤ) (p q : ℕ) → a *ℤ pos p *ℤ pos q ≡ a *ℤ pos q *ℤ pos p
swap_last a p q = massoc a (pos p) (pos q) ∙ ap (λ (t : ℤ). a *ℤ t) (mcomm (pos p) (pos q)) ∙ sym (massoc a (pos q) (pos p))

in_units : (x y q : ℤ) (k z : ℕ) → k + z ≡ 1178 → q *ℤ pos (2 ^ k) ≡ lift x *ℤ lift y → x *ℤ y *ℤ pos (2 ^ z) ≡ q *ℤ pos (2 ^ 1074)
in_units x y q k z s e =
    cancel (x *ℤ y *ℤ pos (2 ^ z)) (q *ℤ pos (2 ^ 1074)) (2 ^ 104) (pow_pos 104)
    (swap_last (x *ℤ y) (2 ^ z) (2 ^ 104)
    ∙ ap (λ (t : ℤ). t *ℤ pos (2 ^ z)) (sym (mul_mul x y (2 ^ 52) (2 ^ 52)) ∙ sym e)
    ∙ massoc q (pos (2 ^ k)) (pos (2 ^ z))
    ∙ ap (λ (t : ℕ). q *ℤ pos t) (sym (pow-add 2 k z) ∙ ap (λ (t : ℕ). 2 ^ t) s)
    ∙ sym (massoc q (pos (2 ^ 1074)) (pos (2 ^ 104))))

-- one of the parts
part : (x y q s : ℤ) (k z : ℕ) → k + z ≡ 1178 → q *ℤ pos (2 ^ k) ≡ lift x *ℤ lift y → s ≡ rq (x *ℤ y) (2 ^ 1074) → Parts q (2 ^ z) s
part x y q s k z h e f = subst (Parts q (2 ^ z)) (sym (f ∙ rq_same (x *ℤ y) q (2 ^ 1074) (2 ^ z) (pow_pos 1074) (pow_pos z) (in_units x y q k z h e))) (parts q (2 ^ z) (pow_pos z))

-- quotients by the units of the two factors
quotient : (x y a b : ℤ) (i j c d k : ℕ) → x ≡ a *ℤ pos (2 ^ (c + i)) → y ≡ b *ℤ pos (2 ^ (d + j)) → k ≡ c + d → a *ℤ b *ℤ pos (2 ^ k) *ℤ pos (2 ^ (i + j)) ≡ x *ℤ y
quotient x y a b i j c d k e f h =
    massoc (a *ℤ b) (pos (2 ^ k)) (pos (2 ^ (i + j)))
    ∙ ap (λ (t : ℕ). a *ℤ b *ℤ pos t) (sym (pow-add 2 k (i + j)) ∙ ap (λ (t : ℕ). 2 ^ t) {x = k + (i + j)} {y = c + i + (d + j)} (omega arith) ∙ pow-add 2 (c + i) (d + j))
    ∙ sym (mul_mul a b (2 ^ (c + i)) (2 ^ (d + j)))
    ∙ sym (λ t. e t *ℤ f t)

at_zero : (x : ℤ) (i : ℕ) → Mult i x → Mult (0 + i) x
at_zero x i m = subst (λ (k : ℕ). Mult k x) (sym (zero-add i)) m

-- from units of 2 ^ z back to units of 2 ^ 1074
back : (s ab p : ℤ) (k z : ℕ) → k + z ≡ 1178 → p *ℤ pos (2 ^ k) ≡ ab *ℤ pos (2 ^ 104) → Near (s *ℤ pos (2 ^ z)) p (2 * 2 ^ z) → Near (s *ℤ pos (2 ^ 1074)) ab (2 * 2 ^ 1074)
back s ab p k z h e n = from_104 s ab (2 ^ 1074) (2 ^ 104) (pow_pos 104) (subst (λ (t : ℕ). Near (s *ℤ pos t) (ab *ℤ pos (2 ^ 104)) (2 * t)) (sym (pow-add 2 z k) ∙ ap (λ (t : ℕ). 2 ^ t) {x = z + k} {y = 1178} (omega arith)) (up_k s p (ab *ℤ pos (2 ^ 104)) (2 ^ z) (2 ^ k) e n))
  where
    up_k : (s p c : ℤ) (u v : ℕ) → p *ℤ pos v ≡ c → Near (s *ℤ pos u) p (2 * u) → Near (s *ℤ pos (u * v)) c (2 * (u * v))
    up_k s p c u v e n = let f = same_out (p *ℤ pos v) c e in let x = mul-le-mul_right v n.0 in let y = mul-le-mul_right v n.1 in
        (omega (zs, ap (λ (t : ℕ). t * v) (product_is s (pos u)).0, ap (λ (t : ℕ). t * v) (product_is s (pos u)).1), omega (zs, ap (λ (t : ℕ). t * v) (product_is s (pos u)).0, ap (λ (t : ℕ). t * v) (product_is s (pos u)).1))

    from_104 : (s c : ℤ) (u v : ℕ) → 0 < v → Near (s *ℤ pos (u * v)) (c *ℤ pos v) (2 * (u * v)) → Near (s *ℤ pos u) c (2 * u)
    from_104 s c u v V n = (
      cancel_le v (up (s *ℤ pos u) + down c) (up c + down (s *ℤ pos u) + 2 * u) V (omega (zs, ap (λ (t : ℕ). t * v) (product_is s (pos u)).0, ap (λ (t : ℕ). t * v) (product_is s (pos u)).1, n.0)),
      cancel_le v (up c + down (s *ℤ pos u)) (up (s *ℤ pos u) + down c + 2 * u) V (omega (zs, ap (λ (t : ℕ). t * v) (product_is s (pos u)).0, ap (λ (t : ℕ). t * v) (product_is s (pos u)).1, n.1)),
    )

pub near_product : (a ta ua ah al b tb ub bh bl : ℤ) (i j : ℕ) → Normal (lift a) i → Steps a ta ua ah al → Normal (lift b) j → Steps b tb ub bh bl → i + j < 1178
    → (r y1 y2 y3 y4 t1 t2 t3 l : ℤ) → r ≡ rq (a *ℤ b) (2 ^ 1074) → y1 ≡ rq (ah *ℤ bh) (2 ^ 1074) → y2 ≡ rq (ah *ℤ bl) (2 ^ 1074) → y3 ≡ rq (al *ℤ bh) (2 ^ 1074) → y4 ≡ rq (al *ℤ bl) (2 ^ 1074)
    → t1 ≡ rz (y1 -ℤ r) → t2 ≡ rz (y2 +ℤ t1) → t3 ≡ rz (y3 +ℤ t2) → l ≡ rz (y4 +ℤ t3) → Near ((r +ℤ l) *ℤ pos (2 ^ 1074)) (a *ℤ b) (2 * 2 ^ 1074)
near_product a ta ua ah al b tb ub bh bl i j na sa nb sb h r y1 y2 y3 y4 t1 t2 t3 l er f1 f2 f3 f4 g1 g2 g3 g4 =
    let ha = halves a ta ua ah al i na sa in
    let hb = halves b tb ub bh bl j nb sb in
    let z = 1178 - (i + j) in
    let k = i + j in
    let s : k + z ≡ 1178 = omega (arith, h) in
    let H = ha.h_mult in
    let L = at_zero (lift al) i ha.l_mult in
    let H' = hb.h_mult in
    let L' = at_zero (lift bl) j hb.l_mult in
    let M = at_zero (lift a) i (na.m, na.is) in
    let M' = at_zero (lift b) j (nb.m, nb.is) in
    let p = M.0 *ℤ M'.0 *ℤ pos (2 ^ 0) in
    let hh = H.0 *ℤ H'.0 *ℤ pos (2 ^ 54) in
    let hl = H.0 *ℤ L'.0 *ℤ pos (2 ^ 27) in
    let lh = L.0 *ℤ H'.0 *ℤ pos (2 ^ 27) in
    let ll = L.0 *ℤ L'.0 *ℤ pos (2 ^ 0) in
    let ep : p *ℤ pos (2 ^ k) ≡ lift a *ℤ lift b = quotient (lift a) (lift b) M.0 M'.0 i j 0 0 0 M.1 M'.1 refl in
    let ehh : hh *ℤ pos (2 ^ k) ≡ lift ah *ℤ lift bh = quotient (lift ah) (lift bh) H.0 H'.0 i j 27 27 54 H.1 H'.1 refl in
    let ehl : hl *ℤ pos (2 ^ k) ≡ lift ah *ℤ lift bl = quotient (lift ah) (lift bl) H.0 L'.0 i j 27 0 27 H.1 L'.1 refl in
    let elh : lh *ℤ pos (2 ^ k) ≡ lift al *ℤ lift bh = quotient (lift al) (lift bh) L.0 H'.0 i j 0 27 27 L.1 H'.1 refl in
    let ell : ll *ℤ pos (2 ^ k) ≡ lift al *ℤ lift bl = quotient (lift al) (lift bl) L.0 L'.0 i j 0 0 0 L.1 L'.1 refl in
    let w : 0 + k ≡ i + j = zero-add k in
    let bah = le_abs (lift ah) (2 ^ 53 * 2 ^ i) ha.h_le in
    let bal = le_abs (lift al) (2 ^ 26 * 2 ^ i) ha.l_le in
    let bbh = le_abs (lift bh) (2 ^ 53 * 2 ^ j) hb.h_le in
    let bbl = le_abs (lift bl) (2 ^ 26 * 2 ^ j) hb.l_le in
    back (r +ℤ l) (a *ℤ b) p k z s (ep ∙ mul_mul a b (2 ^ 52) (2 ^ 52))
    (within_two p r hh hl lh ll y1 y2 y3 y4 t1 t2 t3 l z
    (four (lift ah) (lift al) (lift bh) (lift bl) (2 ^ k) hh hl lh ll p ehh ehl elh ell (ep ∙ sym (λ t. ha.both t *ℤ hb.both t)) (pow_pos k))
    (H.0 *ℤ H'.0, refl) (H.0 *ℤ L'.0, refl) (L.0 *ℤ H'.0, refl) (L.0 *ℤ L'.0, refl)
    (prod_le (lift ah) (lift bh) hh (2 ^ 53) (2 ^ 53) i j 0 k bah bbh ehh w)
    (prod_le (lift ah) (lift bl) hl (2 ^ 53) (2 ^ 26) i j 0 k bah bbl ehl w)
    (prod_le (lift al) (lift bh) lh (2 ^ 26) (2 ^ 53) i j 0 k bal bbh elh w)
    (prod_le (lift al) (lift bl) ll (2 ^ 26) (2 ^ 26) i j 0 k bal bbl ell w)
    (prod_le (lift a) (lift b) p (2 ^ 53) (2 ^ 53) i j 0 k (normal_le (lift a) i na).0 (normal_le (lift b) j nb).0 ep w)
    (prod_ge (lift a) (lift b) p (2 ^ 52) (2 ^ 52) i j 0 k (normal_le (lift a) i na).1 (normal_le (lift b) j nb).1 ep w)
    (omega (arith, h))
    (part a b p r k z s ep er) (part ah bh hh y1 k z s ehh f1) (part ah bl hl y2 k z s ehl f2) (part al bh lh y3 k z s elh f3) (part al bl ll y4 k z s ell f4)
    (subst (Rounds (y1 -ℤ r)) (sym g1) (rounds (y1 -ℤ r))) (subst (Rounds (y2 +ℤ t1)) (sym g2) (rounds (y2 +ℤ t1))) (subst (Rounds (y3 +ℤ t2)) (sym g3) (rounds (y3 +ℤ t2))) (subst (Rounds (y4 +ℤ t3)) (sym g4) (rounds (y4 +ℤ t3))))

-- ---- a factor that is zero
pub zero_rz : rz (pos 0) ≡ pos 0
zero_rz = ap pos Rattle.ieee.proofs.Bridge.rnd_zero

pub zero_rq : (z : ℤ) (d : ℕ) → 0 < d → z ≡ pos 0 → rq z d ≡ pos 0
zero_rq z d D e = ap (λ (t : ℤ). rq t d) e ∙ Rattle.ieee.proofs.Fractions.rq_whole (pos 0) (pos 0) d D (ap pos (sym (native.Mathlib.Nat.zero-mul d))) ∙ zero_rz

rz_at : (s x : ℤ) → s ≡ rz x → x ≡ pos 0 → s ≡ pos 0
rz_at s x e f = e ∙ ap rz f ∙ zero_rz

id_sub : (x y : ℤ) → x ≡ pos 0 → y ≡ pos 0 → x -ℤ y ≡ pos 0
id_sub x y e f = omega zs

id_add : (x y : ℤ) → x ≡ pos 0 → y ≡ pos 0 → x +ℤ y ≡ pos 0
id_add x y e f = omega zs

pub zero_steps : (a t u h l : ℤ) → Steps a t u h l → a ≡ pos 0 → (h ≡ pos 0) × (l ≡ pos 0)
zero_steps a t u h l s e =
    let e1 : t ≡ pos 0 = rz_at t (pos (2 ^ 27 + 1) *ℤ a) s.s1 (ap (λ (z : ℤ). pos (2 ^ 27 + 1) *ℤ z) e) in
    let e2 : u ≡ pos 0 = rz_at u (a -ℤ t) s.s2 (id_sub a t e e1) in
    let e3 : h ≡ pos 0 = rz_at h (t +ℤ u) s.s3 (id_add t u e1 e2) in
    (e3, rz_at l (a -ℤ h) s.s4 (id_sub a h e e3))

zero_left : (x y : ℤ) → x ≡ pos 0 → x *ℤ y ≡ pos 0
zero_left x y e = ap (λ (z : ℤ). z *ℤ y) e ∙ lib.IntN.zero-*ℤ y

zero_right : (x y : ℤ) → y ≡ pos 0 → x *ℤ y ≡ pos 0
zero_right x y e = mcomm x y ∙ zero_left y x e

-- where each product is zero
pub zero_sums : (r y1 y2 y3 y4 t1 t2 t3 l : ℤ) → r ≡ pos 0 → y1 ≡ pos 0 → y2 ≡ pos 0 → y3 ≡ pos 0 → y4 ≡ pos 0 → t1 ≡ rz (y1 -ℤ r) → t2 ≡ rz (y2 +ℤ t1) → t3 ≡ rz (y3 +ℤ t2) → l ≡ rz (y4 +ℤ t3) → r +ℤ l ≡ pos 0
zero_sums r y1 y2 y3 y4 t1 t2 t3 l e0 e1 e2 e3 e4 g1 g2 g3 g4 =
    let f1 = rz_at t1 (y1 -ℤ r) g1 (id_sub y1 r e1 e0) in
    let f2 = rz_at t2 (y2 +ℤ t1) g2 (id_add y2 t1 e2 f1) in
    let f3 = rz_at t3 (y3 +ℤ t2) g3 (id_add y3 t2 e3 f2) in
    id_add r l e0 (rz_at l (y4 +ℤ t3) g4 (id_add y4 t3 e4 f3))

pub zero_product : (a ah al b bh bl r y1 y2 y3 y4 t1 t2 t3 l : ℤ) → ((a ≡ pos 0) × (ah ≡ pos 0) × (al ≡ pos 0)) ⊎ ((b ≡ pos 0) × (bh ≡ pos 0) × (bl ≡ pos 0))
    → r ≡ rq (a *ℤ b) (2 ^ 1074) → y1 ≡ rq (ah *ℤ bh) (2 ^ 1074) → y2 ≡ rq (ah *ℤ bl) (2 ^ 1074) → y3 ≡ rq (al *ℤ bh) (2 ^ 1074) → y4 ≡ rq (al *ℤ bl) (2 ^ 1074)
    → t1 ≡ rz (y1 -ℤ r) → t2 ≡ rz (y2 +ℤ t1) → t3 ≡ rz (y3 +ℤ t2) → l ≡ rz (y4 +ℤ t3) → (r +ℤ l ≡ pos 0) × (a *ℤ b ≡ pos 0)
zero_product a ah al b bh bl r y1 y2 y3 y4 t1 t2 t3 l (inl w) er f1 f2 f3 f4 g1 g2 g3 g4 =
    let z : (x y s : ℤ) → x ≡ pos 0 → s ≡ rq (x *ℤ y) (2 ^ 1074) → s ≡ pos 0 = λ x y s e f. f ∙ zero_rq (x *ℤ y) (2 ^ 1074) (pow_pos 1074) (zero_left x y e) in
    (zero_sums r y1 y2 y3 y4 t1 t2 t3 l (z a b r w.0 er) (z ah bh y1 w.1 f1) (z ah bl y2 w.1 f2) (z al bh y3 w.2 f3) (z al bl y4 w.2 f4) g1 g2 g3 g4, zero_left a b w.0)
zero_product a ah al b bh bl r y1 y2 y3 y4 t1 t2 t3 l (inr w) er f1 f2 f3 f4 g1 g2 g3 g4 =
    let z : (x y s : ℤ) → y ≡ pos 0 → s ≡ rq (x *ℤ y) (2 ^ 1074) → s ≡ pos 0 = λ x y s e f. f ∙ zero_rq (x *ℤ y) (2 ^ 1074) (pow_pos 1074) (zero_right x y e) in
    (zero_sums r y1 y2 y3 y4 t1 t2 t3 l (z a b r w.0 er) (z ah bh y1 w.1 f1) (z ah bl y2 w.2 f2) (z al bh y3 w.1 f3) (z al bl y4 w.2 f4) g1 g2 g3 g4, zero_right a b w.0)

-- ---- how large a rounded fraction is
pub rq_le : (z : ℤ) (d k : ℕ) → 0 < d → nat_abs z ≤ 2 ^ k * d → nat_abs (rq z d) ≤ 2 ^ suc k
rq_le z d k D h =
    let e = Rattle.ieee.proofs.Fractions.rq_error z d D in
    let t : nat_abs (rq z d *ℤ pos d) ≤ nat_abs (rq z d *ℤ pos d -ℤ z) + nat_abs z = Rattle.ieee.proofs.Tools.abs_back (rq z d *ℤ pos d) z in
    let m : nat_abs (rq z d *ℤ pos d) ≡ nat_abs (rq z d) * d = abs_mul (rq z d) (pos d) in
    let one : d ≤ 2 ^ k * d = le_trans (le_of_eq (sym (native.Mathlib.Nat.one-mul d))) (mul-le-mul_right d (pow_pos k)) in
    subst (λ (x : ℕ). nat_abs (rq z d) ≤ x) (sym (native.Mathlib.Nat.pow-succ' 2 k)) (cancel_le d (nat_abs (rq z d)) (2 * 2 ^ k) D (final (nat_abs (rq z d)) (nat_abs (rq z d *ℤ pos d -ℤ z)) (nat_abs z) d (2 ^ k) (nat_abs (rq z d *ℤ pos d)) e t m one h))
  where
    final : (s e z d k x : ℕ) → 2 ^ 53 * e ≤ z + 2 ^ 52 * d → x ≤ e + z → x ≡ s * d → d ≤ k * d → z ≤ k * d → s * d ≤ 2 * k * d
    final s e z d k x a b c f g = omega arith
