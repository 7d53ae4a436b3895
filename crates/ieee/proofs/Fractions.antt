-- Products and quotients of f64, as rounded fractions; the error of a rounded fraction; the order and the bounds that rounding keeps. Assumes nothing.
use Rattle.std.proofs.Common.{◌≡◌, ℕ, zero, suc, ◌+◌, ◌-◌, ◌*◌, ◌^◌, ◌<◌, ◌≤◌, Bool, true, false, T, eqb, ◌⊎◌, ℤ, pos, negsuc, ◌-ℤ◌, ◌*ℤ◌, neg_ℤ, nat_abs, sym, refl, ap, ◌∙◌, subst, inl, inr, mul-pos, zero-mul, mul-one, arith, eqb→eq, pow_pos}
use lib.Ieee.{Float, nan, inf, fin, binary64, up, down, fits, mul, div, unlike, round}
use lib.Ieee.Fits.{up_pos, down_pos}
use lib.Ieee.Scale.{finite}
use borrow.Author.Differences.{up as plus, down as less, neg_is}
use Rattle.ieee.specs.Val.{signed, val, rnd, rq, rz, Under}
use Rattle.ieee.proofs.Ints.{zs, Lt, Le, neg_mul, mul_neg}
use Rattle.ieee.proofs.Round.{rnd_same, error}
use Rattle.ieee.proofs.Whole.{Repr, Rounds, nearest}
use Rattle.ieee.proofs.Bridge.{mag, mag_is, Is, round_to, abs_signed, rnd_zero}

-- ---- a fraction with a sign
rnd_none : (d : ℕ) → 0 < d → rnd 0 d ≡ 0
rnd_none d D = rnd_same 0 d 0 1 D (pow_pos 0) (zero-mul 1 ∙ sym (zero-mul d)) ∙ rnd_zero

pub rq_signed : (s : Bool) (n d : ℕ) → 0 < d → rq (signed s n) d ≡ signed s (rnd n d)
rq_signed false n d D = refl
rq_signed true zero d D = ap pos (rnd_none d D) ∙ ap (λ (z : ℕ). neg_ℤ (pos z)) (sym (rnd_none d D))
rq_signed true (suc n) d D = refl

pub round_rq : (s : Bool) (num den n d : ℕ) → 0 < den → 0 < d → num * 2 ^ 1074 * d ≡ n * den → Under (rq (signed s n) d) → Is (round binary64 s num den) (rq (signed s n) d)
round_rq s num den n d DE D e h =
    subst (Is (round binary64 s num den)) (sym (rq_signed s n d D))
    (round_to s num den n d DE D e (subst (λ (z : ℕ). z < 2 ^ 2098) (ap nat_abs (rq_signed s n d D) ∙ abs_signed s (rnd n d)) h))

pub product : (s t : Bool) (A B : ℕ) → signed s A *ℤ signed t B ≡ signed (unlike s t) (A * B)
product false false A B = refl
product false true A B = mul_neg (pos A) (pos B)
product true false A B = neg_mul (pos A) (pos B)
product true true A B = neg_mul (pos A) (neg_ℤ (pos B)) ∙ ap neg_ℤ (mul_neg (pos A) (pos B)) ∙ lib.IntN.neg_ℤ-neg_ℤ (pos (A * B))

pub mul_cross : (u v A B de dd l : ℕ) → A * de ≡ u * l → B * dd ≡ v * l → u * v * l * l ≡ A * B * (de * dd)
mul_cross u v A B de dd l p q = omega (arith, ap (λ (z : ℕ). z * (v * l)) p, ap (λ (z : ℕ). z * (A * de)) q)

pub mul_is : (x y : Float) → T (fits binary64 x) → T (fits binary64 y) → T (finite x) → T (finite y) → Under (rq (val x *ℤ val y) (2 ^ 1074)) → Is (mul binary64 x y) (rq (val x *ℤ val y) (2 ^ 1074))
unfolding mul
mul_is nan y fx fy nx ny h = absurd nx
mul_is (inf s) y fx fy nx ny h = absurd nx
mul_is (fin s m e) nan fx fy nx ny h = absurd ny
mul_is (fin s m e) (inf t) fx fy nx ny h = absurd ny
mul_is (fin s m e) (fin t n d) fx fy nx ny h =
    let w = product s t (mag m e) (mag n d) in
    subst (λ (z : ℤ). Is (round binary64 (unlike s t) (m * up e * (n * up d)) (down e * down d)) (rq z (2 ^ 1074))) (sym w)
    (round_rq (unlike s t) (m * up e * (n * up d)) (down e * down d) (mag m e * mag n d) (2 ^ 1074) (mul-pos (down_pos e) (down_pos d)) (pow_pos 1074)
    (mul_cross (m * up e) (n * up d) (mag m e) (mag n d) (down e) (down d) (2 ^ 1074) (mag_is s m e fx).3 (mag_is t n d fy).3) (subst (λ (z : ℤ). Under (rq z (2 ^ 1074))) w h))

-- a fraction that is a whole number
pub rq_whole : (z p : ℤ) (d : ℕ) → 0 < d → z ≡ p *ℤ pos d → rq z d ≡ rz p
rq_whole z p d D e = ap (λ (y : ℤ). rq y d) e ∙ go p
  where
    go : (p : ℤ) → rq (p *ℤ pos d) d ≡ rz p
    go (pos n) = ap pos (rnd_same (n * d) d n 1 D (pow_pos 0) (mul-one (n * d)))
    go (negsuc n) = rq_signed true (suc n * d) d D ∙ ap (λ (z : ℕ). neg_ℤ (pos z)) (rnd_same (suc n * d) d (suc n) 1 D (pow_pos 0) (mul-one (suc n * d)))

pub mul_whole : (x y : Float) (p : ℤ) → T (fits binary64 x) → T (fits binary64 y) → T (finite x) → T (finite y) → val x *ℤ val y ≡ p *ℤ pos (2 ^ 1074) → Under (rz p) → Is (mul binary64 x y) (rz p)
mul_whole x y p fx fy nx ny e h =
    let w = rq_whole (val x *ℤ val y) p (2 ^ 1074) (pow_pos 1074) e in
    subst (Is (mul binary64 x y)) w (mul_is x y fx fy nx ny (subst Under (sym w) h))

-- ---- quotients, by a number above zero
div_cross : (u v A B de dd l : ℕ) → A * de ≡ u * l → B * dd ≡ v * l → u * dd * l * B ≡ A * l * (v * de)
div_cross u v A B de dd l p q = omega (arith, ap (λ (z : ℕ). z * (dd * B)) p, ap (λ (z : ℕ). z * (A * de)) q)

sign_of : (t : Bool) (M B : ℕ) → signed t M ≡ pos B → 0 < B → (t ≡ false) × (M ≡ B)
sign_of false M B e h = (refl, omega zs)
sign_of true M B e h = absurd (omega zs)

not_none : (n j M B : ℕ) → M ≡ n * 2 ^ j → M ≡ B → 0 < B → n ≡ 0 → ⊥
not_none n j M B e f h z = omega (arith, ap (λ (k : ℕ). k * 2 ^ j) z)

pub div_is : (x y : Float) (B : ℕ) → T (fits binary64 x) → T (fits binary64 y) → T (finite x) → T (finite y) → val y ≡ pos B → 0 < B → Under (rq (val x *ℤ pos (2 ^ 1074)) B) → Is (div binary64 x y) (rq (val x *ℤ pos (2 ^ 1074)) B)
unfolding div
div_is nan y B fx fy nx ny v p h = absurd nx
div_is (inf s) y B fx fy nx ny v p h = absurd nx
div_is (fin s m e) nan B fx fy nx ny v p h = absurd ny
div_is (fin s m e) (inf t) B fx fy nx ny v p h = absurd ny
div_is (fin s m e) (fin t n d) B fx fy nx ny v p h = go n d fy (eqb n 0) (eqb→eq n 0) t (sign_of t (mag n d) B v p)
  where
    go : (n : ℕ) (d : ℤ) → T (fits binary64 (fin t n d)) → (z : Bool) → (T z → n ≡ 0) → (u : Bool) → (u ≡ false) × (mag n d ≡ B)
        → Is (mathlib.Core.Bool.cond z (mathlib.Core.Bool.cond (eqb m 0) nan (inf (unlike s u))) (round binary64 (unlike s u) (m * up e * down d) (n * up d * down e))) (rq (val (fin s m e) *ℤ pos (2 ^ 1074)) B)
    go n d fy true k u w = let i = mag_is t n d fy in absurd (not_none n i.0 (mag n d) B i.2 w.1 p (k tt))
    go n d fy false k true w = absurd (mathlib.Core.Bool.true≢false w.0)
    go n d fy false k false w =
        let i = product s false (mag m e) (2 ^ 1074) in
        let y = mag_is t n d fy in
        let N : 0 < n = elim (native.Mathlib.Nat.eq-zero-or-pos n) [ inl z ↦ absurd (not_none n y.0 (mag n d) B y.2 w.1 p z) | inr q ↦ q ] in
        let B0 : 0 < n * up d * down e = mul-pos (mul-pos N (up_pos d)) (down_pos e) in
        subst (λ (z : ℤ). Is (round binary64 (unlike s false) (m * up e * down d) (n * up d * down e)) (rq z B)) (sym i)
        (round_rq (unlike s false) (m * up e * down d) (n * up d * down e) (mag m e * 2 ^ 1074) B B0 p
        (div_cross (m * up e) (n * up d) (mag m e) B (down e) (down d) (2 ^ 1074) (mag_is s m e fx).3 (ap (λ (z : ℕ). z * down d) (sym w.1) ∙ (mag_is t n d fy).3)) (subst (λ (z : ℤ). Under (rq z B)) i h))

-- ---- the error of a rounded fraction: 2 ^ -53 of it, and half a unit
pub rq_error : (z : ℤ) (d : ℕ) → 0 < d → 2 ^ 53 * nat_abs (rq z d *ℤ pos d -ℤ z) ≤ nat_abs z + 2 ^ 52 * d
rq_error (pos n) d D = go (rnd n d) (error n d D)
  where
    go : (s : ℕ) → (2 ^ 53 * (s * d) ≤ 2 ^ 53 * n + (n + 2 ^ 52 * d)) × (2 ^ 53 * n ≤ 2 ^ 53 * (s * d) + (n + 2 ^ 52 * d)) → 2 ^ 53 * nat_abs (pos s *ℤ pos d -ℤ pos n) ≤ n + 2 ^ 52 * d
    go s h = omega zs
rq_error (negsuc n) d D = go (rnd (suc n) d) (error (suc n) d D)
  where
    go : (s : ℕ) → (2 ^ 53 * (s * d) ≤ 2 ^ 53 * suc n + (suc n + 2 ^ 52 * d)) × (2 ^ 53 * suc n ≤ 2 ^ 53 * (s * d) + (suc n + 2 ^ 52 * d)) → 2 ^ 53 * nat_abs (neg_ℤ (pos s) *ℤ pos d -ℤ negsuc n) ≤ suc n + 2 ^ 52 * d
    go s h = rw neg_mul (omega zs)

-- ---- order
-- a bound of 53 digits is kept
pub bounded : (x s : ℤ) (b : ℕ) → Rounds x s → Repr (pos b) → Le x b → Le s b
bounded x s b r w h =
    let up_b = nearest x s (pos b) r w (b + less x - plus x) (omega arith, omega arith) in
    let low_b = nearest x s (neg_ℤ (pos b)) r (Rattle.ieee.proofs.Sums.repr_neg (pos b) w) (b + plus x - less x) (omega zs, omega zs) in
    (omega arith, omega arith)

-- ---- a whole number: 2 ^ -53 of it, and no more
pub rounds_error : (z s : ℤ) → Rounds z s → 2 ^ 53 * nat_abs (s -ℤ z) ≤ nat_abs z
rounds_error z s r =
    let a = r.above in
    let b = r.below in
    elim r.lo [
      | inl e ↦ (let p : 2 ^ r.k ≡ 1 = ap (λ (k : ℕ). 2 ^ k) e in let w : s ≡ z = omega zs in let w' : nat_abs (s -ℤ z) ≡ 0 = omega zs in omega arith)
      | inr (inl l) ↦ omega zs
      | inr (inr l) ↦ omega zs
    ]

-- ---- a rounded fraction, as `Rounds`
pub record Parts (x : ℤ) (d : ℕ) (s : ℤ) : Type 0 where
  pub k : ℕ
  pub q : ℤ
  pub is : s ≡ q *ℤ pos (2 ^ k)
  pub above : plus s * d * 2 + less x * 2 ≤ plus x * 2 + less s * d * 2 + d * 2 ^ k
  pub below : plus x * 2 + less s * d * 2 ≤ plus s * d * 2 + less x * 2 + d * 2 ^ k
  pub hi : Lt x (2 ^ 53 * (d * 2 ^ k))
  pub lo : (k ≡ 0) ⊎ (2 ^ 52 * (d * 2 ^ k) ≤ nat_abs x)

pub parts : (x : ℤ) (d : ℕ) → 0 < d → Parts x d (rq x d)
parts (pos n) d D = go (rnd n d) (Rattle.ieee.proofs.Round.unit_of n d D)
  where
    go : (s : ℕ) → Rattle.ieee.proofs.Round.UnitOf n d s → Parts (pos n) d (pos s)
    go s u = record { k = u.k; q = pos u.c; is = ap pos u.is; above = omega (arith, u.above); below = omega (arith, u.below); hi = omega (arith, u.hi); lo = u.lo }
parts (negsuc n) d D = go (rnd (suc n) d) (Rattle.ieee.proofs.Round.unit_of (suc n) d D)
  where
    go : (s : ℕ) → Rattle.ieee.proofs.Round.UnitOf (suc n) d s → Parts (negsuc n) d (neg_ℤ (pos s))
    go s u = record {
      k = u.k;
      q = neg_ℤ (pos u.c);
      is = ap (λ (z : ℕ). neg_ℤ (pos z)) u.is ∙ sym (neg_mul (pos u.c) (pos (2 ^ u.k)));
      above = let e = u.above in let f = neg_is (pos s) in omega (arith, ap (λ (z : ℕ). z * d) f.0, ap (λ (z : ℕ). z * d) f.1);
      below = let e = u.below in let f = neg_is (pos s) in omega (arith, ap (λ (z : ℕ). z * d) f.0, ap (λ (z : ℕ). z * d) f.1);
      hi = omega (arith, u.hi);
      lo = u.lo;
    }
