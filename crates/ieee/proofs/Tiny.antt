-- Dekker's product where the last places of the parts fall below the smallest value, by z digits: the pair is within two units of the product. Assumes nothing.
use Rattle.std.proofs.Common.{◌≡◌, ℕ, ◌+◌, ◌-◌, ◌*◌, ◌^◌, ◌<◌, ◌≤◌, ℤ, pos, ◌+ℤ◌, ◌-ℤ◌, ◌*ℤ◌, neg_ℤ, nat_abs, sym, refl, ap, ◌∙◌, subst, inl, inr, le_trans, mul-le-mul_right, arith, pow_pos, pow_mono, pow-add}
use borrow.Author.Differences.{up, down, same_out}
use Rattle.ieee.specs.Val.{Mult}
use Rattle.ieee.proofs.Ints.{zs, Le, Near, massoc, dist, neg_mul, cancel_le, same_multiple}
use Rattle.ieee.proofs.Whole.{order, Rounds, Repr, mult_down, exact}
use Rattle.ieee.proofs.Sums.{repr_of}
use Rattle.ieee.proofs.Product.{cancel, repr_1, repr_2, repr_3}
use Rattle.ieee.proofs.Fractions.{Parts}

-- ---- small and scaled numbers
pub repr_small : (x : ℤ) → Le x (2 ^ 53) → Repr x
repr_small x l = repr_of 0 x (x, omega zs) l

pub unscale : (x : ℤ) (z : ℕ) → Repr (x *ℤ pos (2 ^ z)) → Repr x
unscale x z r =
    let p = 2 ^ z in
    elim (order z r.j) [
      | inl g ↦
          let d = mult_down z r.j (x *ℤ pos p) g (r.q, r.is) in
          record { q = r.q; j = r.j - z; small = r.small; is = cancel x (r.q *ℤ pos (2 ^ (r.j - z))) p (pow_pos z) (r.is ∙ ap (λ (k : ℕ). r.q *ℤ pos k) (split_pow r.j z g) ∙ sym (massoc r.q (pos (2 ^ (r.j - z))) (pos p))) }
      | inr g ↦
          let m : 2 ^ r.j ≤ p = pow_mono (omega arith) in
          let e = same_out (x *ℤ pos p) (r.q *ℤ pos (2 ^ r.j)) r.is in
          let u = mul-le-mul_right (2 ^ r.j) r.small.0 in
          let v = mul-le-mul_right (2 ^ r.j) r.small.1 in
          repr_small x (cancel_le p (up x) (down x + 2 ^ 53) (pow_pos z) (omega zs), cancel_le p (down x) (up x + 2 ^ 53) (pow_pos z) (omega zs))
    ]
  where
    split_pow : (j z : ℕ) → z ≤ j → 2 ^ j ≡ 2 ^ (j - z) * 2 ^ z
    split_pow j z h = ap (λ (k : ℕ). 2 ^ k) {x = j} {y = j - z + z} (omega arith) ∙ pow-add 2 (j - z) z

-- ---- a rounded fraction x / 2 ^ z, x a multiple of 2 ^ e with 52 digits
pub record Half (x s : ℤ) (u : ℕ) : Type 0 where
  pub above : up (s *ℤ pos u) * 2 + down x * 2 ≤ up x * 2 + down (s *ℤ pos u) * 2 + u
  pub below : up x * 2 + down (s *ℤ pos u) * 2 ≤ up (s *ℤ pos u) * 2 + down x * 2 + u

eq_at : (x s : ℤ) (e z : ℕ) (r : Parts x (2 ^ z) s) → Mult e x → r.k + z ≤ e → s *ℤ pos (2 ^ z) ≡ x
eq_at x s e z r m h =
    let k = r.k in
    let w = 2 ^ (k + z) in
    let d = mult_down (k + z) e x h m in
    let f : s *ℤ pos (2 ^ z) ≡ r.q *ℤ pos w = ap (λ (t : ℤ). t *ℤ pos (2 ^ z)) r.is ∙ massoc r.q (pos (2 ^ k)) (pos (2 ^ z)) ∙ ap (λ (t : ℕ). r.q *ℤ pos t) (sym (pow-add 2 k z)) in
    let a = r.above in
    let b = r.below in
    let P = pow-add 2 k z in
    let W = pow_pos (k + z) in
    let f' = same_out (s *ℤ pos (2 ^ z)) (r.q *ℤ pos w) f in
    let g' = same_out x (d.0 *ℤ pos w) d.1 in
    f ∙ ap (λ (t : ℤ). t *ℤ pos w) (same_multiple r.q d.0 w (omega zs, omega zs) W) ∙ sym d.1

half_of : (x s : ℤ) (u : ℕ) → s *ℤ pos u ≡ x → Half x s u
half_of x s u e = let f = same_out (s *ℤ pos u) x e in record { above = omega arith; below = omega arith }

fits_in : (k z e : ℕ) → 2 ^ 52 * (2 ^ z * 2 ^ k) ≤ 2 ^ 52 * 2 ^ e → k + z ≤ e
fits_in k z e h = Rattle.ieee.proofs.Bridge.reflect (k + z) e (omega (arith, pow-add 2 k z))

pub half : (x s : ℤ) (e z : ℕ) → Parts x (2 ^ z) s → Mult e x → nat_abs x ≤ 2 ^ 52 * 2 ^ e → Half x s (2 ^ z) × (z ≤ e → s *ℤ pos (2 ^ z) ≡ x)
half x s e z r m l =
    elim r.lo [
      | inl k0 ↦
          let p1 : 2 ^ z * 2 ^ r.k ≡ 2 ^ z = ap (λ (k : ℕ). 2 ^ z * 2 ^ k) k0 ∙ native.Mathlib.Nat.mul-one (2 ^ z) in
          let a = r.above in
          let b = r.below in
          (record { above = omega zs; below = omega zs }, λ g. eq_at x s e z r m (omega arith))
      | inr g ↦ let q = eq_at x s e z r m (fits_in r.k z e (le_trans g l)) in (half_of x s (2 ^ z) q, λ g. q)
    ]

-- ---- sums of parts times u
times_sub : (y r a : ℤ) (u : ℕ) → y *ℤ pos u ≡ a → (y -ℤ r) *ℤ pos u ≡ a -ℤ r *ℤ pos u
times_sub y r a u e = dist y (neg_ℤ r) (pos u) ∙ (λ i. e i +ℤ neg_mul r (pos u) i)

times_add : (y t a b : ℤ) (u : ℕ) → y *ℤ pos u ≡ a → t *ℤ pos u ≡ b → (y +ℤ t) *ℤ pos u ≡ a +ℤ b
times_add y t a b u e f = dist y t (pos u) ∙ (λ i. e i +ℤ f i)

pub le_unscale : (x : ℤ) (c u : ℕ) → 0 < u → Le (x *ℤ pos u) (c * u) → Le x c
le_unscale x c u U l = (cancel_le u (up x) (down x + c) U (omega (zs, l.0)), cancel_le u (down x) (up x + c) U (omega (zs, l.1)))

-- 2 |y - x| ≤ b
abbrev Twice : ℤ → ℤ → ℕ → Type 0
Twice x y b = (up y * 2 + down x * 2 ≤ up x * 2 + down y * 2 + b) × (up x * 2 + down y * 2 ≤ up y * 2 + down x * 2 + b)

-- the sizes of the sums where u is 2 ^ 28 at least
module _ (p R hh hl lh ll : ℤ) (u : ℕ) (e : p ≡ hh +ℤ hl +ℤ lh +ℤ ll) (off : Twice p R (u + 2 ^ 54)) (U : 2 ^ 28 ≤ u) where
  sum_1 : (Y1 : ℤ) → Twice hh Y1 u → Le hl (2 ^ 79) → Le lh (2 ^ 79) → Le ll (2 ^ 52) → Le (Y1 -ℤ R) (2 ^ 53 * u)
  sum_1 Y1 h a b c = (omega zs, omega zs)

  sum_2 : (Y1 Y2 : ℤ) → Twice hh Y1 u → Twice hl Y2 u → Le lh (2 ^ 79) → Le ll (2 ^ 52) → Le (Y2 +ℤ (Y1 -ℤ R)) (2 ^ 53 * u)
  sum_2 Y1 Y2 h k b c = (omega zs, omega zs)

  sum_3 : (Y1 Y2 Y3 : ℤ) → Twice hh Y1 u → Twice hl Y2 u → Twice lh Y3 u → Le ll (2 ^ 52) → Le (Y3 +ℤ (Y2 +ℤ (Y1 -ℤ R))) (2 ^ 53 * u)
  sum_3 Y1 Y2 Y3 h k m c = (omega zs, omega zs)

  sum_4 : (Y1 Y2 Y3 Y4 : ℤ) → Twice hh Y1 u → Twice hl Y2 u → Twice lh Y3 u → Twice ll Y4 u → Le (Y4 +ℤ (Y3 +ℤ (Y2 +ℤ (Y1 -ℤ R)))) (2 ^ 53 * u)
  sum_4 Y1 Y2 Y3 Y4 h k m n = (omega zs, omega zs)

-- the errors add up
all_errors : (p R hh hl lh ll Y1 Y2 Y3 Y4 s : ℤ) (u : ℕ) → p ≡ hh +ℤ hl +ℤ lh +ℤ ll → Twice hh Y1 u → Twice hl Y2 u → Twice lh Y3 u → Twice ll Y4 u → s ≡ R +ℤ (Y4 +ℤ (Y3 +ℤ (Y2 +ℤ (Y1 -ℤ R)))) → Near s p (2 * u)
all_errors p R hh hl lh ll Y1 Y2 Y3 Y4 s u e h k m n f = (omega zs, omega zs)

-- the last sum where u is 2 at least and the first three are exact
last_sum : (p R hh hl lh ll Y4 : ℤ) (u : ℕ) → p ≡ hh +ℤ hl +ℤ lh +ℤ ll → Twice p R (2 ^ 54) → Twice ll Y4 u → 2 ≤ u → Le (Y4 +ℤ (lh +ℤ (hl +ℤ (hh -ℤ R)))) (2 ^ 53 * u)
last_sum p R hh hl lh ll Y4 u e off n U = (omega zs, omega zs)

-- how far r is off
off_by : (p r : ℤ) (z : ℕ) → Parts p (2 ^ z) r → nat_abs p ≤ 2 ^ 106 → Twice p (r *ℤ pos (2 ^ z)) (2 ^ z + 2 ^ 54)
off_by p r z R top =
    let a = R.above in
    let b = R.below in
    elim R.lo [
      | inl k0 ↦ let p1 : 2 ^ z * 2 ^ R.k ≡ 2 ^ z = ap (λ (k : ℕ). 2 ^ z * 2 ^ k) k0 ∙ native.Mathlib.Nat.mul-one (2 ^ z) in (omega zs, omega zs)
      | inr g ↦ (omega zs, omega zs)
    ]

-- where z is small, r * 2 ^ z is p rounded
as_rounds : (p r : ℤ) (z : ℕ) → Parts p (2 ^ z) r → z ≤ 27 → 2 ^ 104 ≤ nat_abs p → Rounds p (r *ℤ pos (2 ^ z))
as_rounds p r z R h bottom =
    let k = R.k in
    let P = pow-add 2 k z in
    let a = R.above in
    let b = R.below in
    let H = R.hi in
    record {
      k = k + z;
      q = R.q;
      is = ap (λ (t : ℤ). t *ℤ pos (2 ^ z)) R.is ∙ massoc R.q (pos (2 ^ k)) (pos (2 ^ z)) ∙ ap (λ (t : ℕ). R.q *ℤ pos t) (sym P);
      above = omega zs;
      below = omega zs;
      hi = (omega arith, omega arith);
      lo = elim R.lo [
        | inl k0 ↦ absurd (let m : 2 ^ z ≤ 2 ^ 27 = pow_mono {i = z} {j = 27} h in let p1 : 2 ^ z * 2 ^ k ≡ 2 ^ z = ap (λ (i : ℕ). 2 ^ z * 2 ^ i) k0 ∙ native.Mathlib.Nat.mul-one (2 ^ z) in omega zs)
        | inr g ↦ inr (elim (order (down p) (up p)) [ inl l ↦ inl (omega zs) | inr l ↦ inr (omega zs) ])
      ];
    }

half_twice : (x s : ℤ) (u : ℕ) → Half x s u → Twice x (s *ℤ pos u) u
half_twice x s u h = (h.above, h.below)

total : (r y1 y2 y3 y4 t1 t2 t3 l : ℤ) (u : ℕ) → t1 ≡ y1 -ℤ r → t2 ≡ y2 +ℤ t1 → t3 ≡ y3 +ℤ t2 → l ≡ y4 +ℤ t3
    → (r +ℤ l) *ℤ pos u ≡ r *ℤ pos u +ℤ (y4 *ℤ pos u +ℤ (y3 *ℤ pos u +ℤ (y2 *ℤ pos u +ℤ (y1 *ℤ pos u -ℤ r *ℤ pos u))))
total r y1 y2 y3 y4 t1 t2 t3 l u e1 e2 e3 e4 =
    let f1 = ap (λ (t : ℤ). t *ℤ pos u) e1 ∙ times_sub y1 r (y1 *ℤ pos u) u refl in
    let f2 = ap (λ (t : ℤ). t *ℤ pos u) e2 ∙ times_add y2 t1 (y2 *ℤ pos u) _ u refl f1 in
    let f3 = ap (λ (t : ℤ). t *ℤ pos u) e3 ∙ times_add y3 t2 (y3 *ℤ pos u) _ u refl f2 in
    let f4 = ap (λ (t : ℤ). t *ℤ pos u) e4 ∙ times_add y4 t3 (y4 *ℤ pos u) _ u refl f3 in
    times_add r l (r *ℤ pos u) _ u refl f4

module _ (p r hh hl lh ll y1 y2 y3 y4 t1 t2 t3 l : ℤ) (z : ℕ)
    (parts : p ≡ hh +ℤ hl +ℤ lh +ℤ ll)
    (mhh : Mult 54 hh) (mhl : Mult 27 hl) (mlh : Mult 27 lh) (mll : Mult 0 ll)
    (bhh : nat_abs hh ≤ 2 ^ 106) (bhl : nat_abs hl ≤ 2 ^ 79) (blh : nat_abs lh ≤ 2 ^ 79) (bll : nat_abs ll ≤ 2 ^ 52)
    (top : nat_abs p ≤ 2 ^ 106) (bottom : 2 ^ 104 ≤ nat_abs p) (Z : 1 ≤ z)
    (R : Parts p (2 ^ z) r) (P1 : Parts hh (2 ^ z) y1) (P2 : Parts hl (2 ^ z) y2) (P3 : Parts lh (2 ^ z) y3) (P4 : Parts ll (2 ^ z) y4)
    (S1 : Rounds (y1 -ℤ r) t1) (S2 : Rounds (y2 +ℤ t1) t2) (S3 : Rounds (y3 +ℤ t2) t3) (S4 : Rounds (y4 +ℤ t3) l) where
  U : ℕ
  U = 2 ^ z

  h1 : Half hh y1 (2 ^ z) × (z ≤ 54 → y1 *ℤ pos (2 ^ z) ≡ hh)
  h1 = half hh y1 54 z P1 mhh bhh

  h2 : Half hl y2 (2 ^ z) × (z ≤ 27 → y2 *ℤ pos (2 ^ z) ≡ hl)
  h2 = half hl y2 27 z P2 mhl bhl

  h3 : Half lh y3 (2 ^ z) × (z ≤ 27 → y3 *ℤ pos (2 ^ z) ≡ lh)
  h3 = half lh y3 27 z P3 mlh blh

  h4 : Half ll y4 (2 ^ z) × (z ≤ 0 → y4 *ℤ pos (2 ^ z) ≡ ll)
  h4 = half ll y4 0 z P4 mll bll

  w1 : Twice hh (y1 *ℤ pos (2 ^ z)) (2 ^ z)
  w1 = half_twice hh y1 (2 ^ z) h1.0

  w2 : Twice hl (y2 *ℤ pos (2 ^ z)) (2 ^ z)
  w2 = half_twice hl y2 (2 ^ z) h2.0

  w3 : Twice lh (y3 *ℤ pos (2 ^ z)) (2 ^ z)
  w3 = half_twice lh y3 (2 ^ z) h3.0

  w4 : Twice ll (y4 *ℤ pos (2 ^ z)) (2 ^ z)
  w4 = half_twice ll y4 (2 ^ z) h4.0

  ends : t1 ≡ y1 -ℤ r → t2 ≡ y2 +ℤ t1 → t3 ≡ y3 +ℤ t2 → l ≡ y4 +ℤ t3 → Near ((r +ℤ l) *ℤ pos (2 ^ z)) p (2 * 2 ^ z)
  ends e1 e2 e3 e4 = all_errors p (r *ℤ pos (2 ^ z)) hh hl lh ll (y1 *ℤ pos (2 ^ z)) (y2 *ℤ pos (2 ^ z)) (y3 *ℤ pos (2 ^ z)) (y4 *ℤ pos (2 ^ z)) ((r +ℤ l) *ℤ pos (2 ^ z)) (2 ^ z) parts w1 w2 w3 w4 (total r y1 y2 y3 y4 t1 t2 t3 l (2 ^ z) e1 e2 e3 e4)

  -- all sums are small
  far : 28 ≤ z → Near ((r +ℤ l) *ℤ pos (2 ^ z)) p (2 * 2 ^ z)
  far g =
      let u = 2 ^ z in
      let C : 2 ^ 28 ≤ u = pow_mono {i = 28} {j = z} g in
      let off = off_by p r z R top in
      let q = r *ℤ pos u in
      let Bhl = Rattle.ieee.proofs.Ints.abs_le hl (2 ^ 79) bhl in
      let Blh = Rattle.ieee.proofs.Ints.abs_le lh (2 ^ 79) blh in
      let Bll = Rattle.ieee.proofs.Ints.abs_le ll (2 ^ 52) bll in
      let f1 = times_sub y1 r (y1 *ℤ pos u) u refl in
      let e1 : t1 ≡ y1 -ℤ r = exact (y1 -ℤ r) t1 S1 (repr_small (y1 -ℤ r) (le_unscale (y1 -ℤ r) (2 ^ 53) u (pow_pos z) (subst (λ (t : ℤ). Le t (2 ^ 53 * u)) (sym f1) (sum_1 p q hh hl lh ll u parts off C (y1 *ℤ pos u) w1 Bhl Blh Bll)))) in
      let f2 = times_add y2 t1 (y2 *ℤ pos u) _ u refl (ap (λ (t : ℤ). t *ℤ pos u) e1 ∙ f1) in
      let e2 : t2 ≡ y2 +ℤ t1 = exact (y2 +ℤ t1) t2 S2 (repr_small (y2 +ℤ t1) (le_unscale (y2 +ℤ t1) (2 ^ 53) u (pow_pos z) (subst (λ (t : ℤ). Le t (2 ^ 53 * u)) (sym f2) (sum_2 p q hh hl lh ll u parts off C (y1 *ℤ pos u) (y2 *ℤ pos u) w1 w2 Blh Bll)))) in
      let f3 = times_add y3 t2 (y3 *ℤ pos u) _ u refl (ap (λ (t : ℤ). t *ℤ pos u) e2 ∙ f2) in
      let e3 : t3 ≡ y3 +ℤ t2 = exact (y3 +ℤ t2) t3 S3 (repr_small (y3 +ℤ t2) (le_unscale (y3 +ℤ t2) (2 ^ 53) u (pow_pos z) (subst (λ (t : ℤ). Le t (2 ^ 53 * u)) (sym f3) (sum_3 p q hh hl lh ll u parts off C (y1 *ℤ pos u) (y2 *ℤ pos u) (y3 *ℤ pos u) w1 w2 w3 Bll)))) in
      let f4 = times_add y4 t3 (y4 *ℤ pos u) _ u refl (ap (λ (t : ℤ). t *ℤ pos u) e3 ∙ f3) in
      let e4 : l ≡ y4 +ℤ t3 = exact (y4 +ℤ t3) l S4 (repr_small (y4 +ℤ t3) (le_unscale (y4 +ℤ t3) (2 ^ 53) u (pow_pos z) (subst (λ (t : ℤ). Le t (2 ^ 53 * u)) (sym f4) (sum_4 p q hh hl lh ll u parts off C (y1 *ℤ pos u) (y2 *ℤ pos u) (y3 *ℤ pos u) (y4 *ℤ pos u) w1 w2 w3 w4)))) in
      ends e1 e2 e3 e4

  -- the first three sums are as in the exact product
  near : z ≤ 27 → Near ((r +ℤ l) *ℤ pos (2 ^ z)) p (2 * 2 ^ z)
  near g =
      let u = 2 ^ z in
      let q = r *ℤ pos u in
      let R' = as_rounds p r z R g bottom in
      let Bhh = Rattle.ieee.proofs.Ints.abs_le hh (2 ^ 106) bhh in
      let Bhl = Rattle.ieee.proofs.Ints.abs_le hl (2 ^ 79) bhl in
      let Blh = Rattle.ieee.proofs.Ints.abs_le lh (2 ^ 79) blh in
      let Bll = Rattle.ieee.proofs.Ints.abs_le ll (2 ^ 52) bll in
      let Bp = Rattle.ieee.proofs.Ints.abs_le p (2 ^ 106) top in
      let g1 = h1.1 (le_trans g (lib.Dec.lit≤ tt)) in
      let g2 = h2.1 g in
      let g3 = h3.1 g in
      let f1 = times_sub y1 r hh u g1 in
      let e1 : t1 ≡ y1 -ℤ r = exact (y1 -ℤ r) t1 S1 (unscale (y1 -ℤ r) z (subst Repr (sym f1) (repr_1 p q hh hl lh ll 0 R' parts mhh mhl mlh mll Bhh Bhl Blh Bll Bp bottom))) in
      let f2 = times_add y2 t1 hl _ u g2 (ap (λ (t : ℤ). t *ℤ pos u) e1 ∙ f1) in
      let e2 : t2 ≡ y2 +ℤ t1 = exact (y2 +ℤ t1) t2 S2 (unscale (y2 +ℤ t1) z (subst Repr (sym f2) (repr_2 p q hh hl lh ll 0 R' parts mhh mhl mlh mll Bhh Bhl Blh Bll Bp bottom))) in
      let f3 = times_add y3 t2 lh _ u g3 (ap (λ (t : ℤ). t *ℤ pos u) e2 ∙ f2) in
      let e3 : t3 ≡ y3 +ℤ t2 = exact (y3 +ℤ t2) t3 S3 (unscale (y3 +ℤ t2) z (subst Repr (sym f3) (repr_3 p q hh hl lh ll 0 R' parts mhh mhl mlh mll Bhh Bhl Blh Bll Bp bottom))) in
      let f4 = times_add y4 t3 (y4 *ℤ pos u) _ u refl (ap (λ (t : ℤ). t *ℤ pos u) e3 ∙ f3) in
      let off = Rattle.ieee.proofs.Product.off p q hh hl lh ll 0 R' parts mhh mhl mlh mll Bhh Bhl Blh Bll Bp bottom in
      let two : 2 ≤ u = pow_mono {i = 1} {j = z} Z in
      let e4 : l ≡ y4 +ℤ t3 = exact (y4 +ℤ t3) l S4 (repr_small (y4 +ℤ t3) (le_unscale (y4 +ℤ t3) (2 ^ 53) u (pow_pos z) (subst (λ (t : ℤ). Le t (2 ^ 53 * u)) (sym f4) (last_sum p q hh hl lh ll (y4 *ℤ pos u) u parts (twice_of p q off) w4 two)))) in
      ends e1 e2 e3 e4
    where
      twice_of : (p q : ℤ) → Near q p (2 ^ 53 * 2 ^ 0) → Twice p q (2 ^ 54)
      twice_of p q n = (omega arith, omega arith)

  pub within_two : Near ((r +ℤ l) *ℤ pos (2 ^ z)) p (2 * 2 ^ z)
  within_two = elim (order z 27) [ inl g ↦ near g | inr g ↦ far g ]
