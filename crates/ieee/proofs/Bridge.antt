-- The operations on f64, as rounded operations on `val`. Assumes nothing.
use Rattle.std.proofs.Common.{◌≡◌, ℕ, zero, suc, ◌+◌, ◌-◌, ◌*◌, ◌/◌, ◌%◌, ◌^◌, ◌<◌, ◌≤◌, Bool, true, false, not, ◌&&◌, T, eqb, ltb, leb, ℤ, pos, negsuc, ◌+ℤ◌, ◌-ℤ◌, neg_ℤ, nat_abs, sym, refl, ap, ◌∙◌, subst, inl, inr, mul_assoc, lt_of_mul-lt-mul_right, mul-lt-mul_of_pos_right, mul-pos, zero-mul, mul-one, mul-div_cancel, arith, eqb→eq, ltb→lt, leb→le, pow_pos, pow-add, le-ltb, lt-ltb}
use mathlib.Core.Bool.{beq}
use native.Mathlib.Nat.{eq_of_mul-eq-mul_right}
use lib.Pow.{pow-lt}
use lib.Ieee.{Float, nan, inf, fin, Format, binary64, up, down, units, round, fits, neg, sum, add, sub}
use lib.Ieee.Fits.{and_l, and_r, down_pos, round_is}
use lib.Ieee.Exact.{HasValue, units_val}
use lib.Ieee.Order.{drop, kept}
use lib.Ieee.Scale.{finite}
use Rattle.ieee.specs.Val.{signed, val, rnd, rz, Under}
use Rattle.ieee.proofs.Ints.{zs}
use Rattle.ieee.proofs.Round.{rnd_same}
use Rattle.ieee.proofs.Whole.{order, Repr}

-- ---- what it is to fit
pub reflect : (i j : ℕ) → 2 ^ i ≤ 2 ^ j → i ≤ j
reflect i j h = elim (order i j) [ inl l ↦ l | inr g ↦ absurd (let m : 2 ^ j < 2 ^ i = pow-lt g in omega arith) ]

zero_down : (l : ℕ) (e : ℤ) → T (eqb (up e * down e) 1) → down e ≤ 2 ^ l
zero_down l (pos k) t = pow_pos l
zero_down l (negsuc k) t = let h : 1 * 2 ^ suc k ≡ 1 = eqb→eq (1 * 2 ^ suc k) 1 t in let p = pow_pos l in omega arith

pub fits_parts : (s : Bool) (m : ℕ) (e : ℤ) → T (fits binary64 (fin s m e)) → (m < 2 ^ 53) × (down e ≤ 2 ^ 1074)
unfolding fits
fits_parts s zero e t = (omega arith, zero_down 1074 e t)
fits_parts s (suc m) e t =
    let a : Bool = eqb (suc m % 2) 1 in
    let b : Bool = ltb (suc m) (2 ^ 53) in
    let c : Bool = leb (down e) (2 ^ 1074) in
    let d : Bool = ltb (suc m * up e) (2 ^ 1024 * down e) in
    let u : T (a && b && c) = and_l (a && b && c) d t in
    (ltb→lt (suc m) (2 ^ 53) (and_r a b (and_l (a && b) c u)), leb→le (down e) (2 ^ 1074) (and_r (a && b) c u))

pub shape : (l m : ℕ) (e : ℤ) → down e ≤ 2 ^ l → (j : ℕ) × (m * up e * 2 ^ l ≡ m * 2 ^ j * down e)
shape l m (pos k) h = (k + l, mul_assoc m (2 ^ k) (2 ^ l) ∙ ap (λ (z : ℕ). m * z) (sym (pow-add 2 k l)) ∙ sym (mul-one (m * 2 ^ (k + l))))
shape l m (negsuc k) h =
    let i : suc k ≤ l = reflect (suc k) l h in
    let p : 2 ^ (l - suc k) * 2 ^ suc k ≡ 2 ^ l = sym (pow-add 2 (l - suc k) (suc k)) ∙ ap (λ (z : ℕ). 2 ^ z) {x = l - suc k + suc k} {y = l} (omega arith) in
    (l - suc k, ap (λ (z : ℕ). m * 1 * z) (sym p) ∙ ap (λ (z : ℕ). z * (2 ^ (l - suc k) * 2 ^ suc k)) (mul-one m) ∙ sym (mul_assoc m (2 ^ (l - suc k)) (2 ^ suc k)))

-- the magnitude of a finite value, in units
abbrev pub mag : ℕ → ℤ → ℕ
mag m e = m * up e * 2 ^ 1074 / down e

pub mag_is : (s : Bool) (m : ℕ) (e : ℤ) → T (fits binary64 (fin s m e)) → (j : ℕ) × (m < 2 ^ 53) × (mag m e ≡ m * 2 ^ j) × (mag m e * down e ≡ m * up e * 2 ^ 1074)
mag_is s m e f =
    let p = fits_parts s m e f in
    let w = shape 1074 m e p.1 in
    let v : mag m e ≡ m * 2 ^ w.0 = ap (λ (z : ℕ). z / down e) w.1 ∙ mul-div_cancel (m * 2 ^ w.0) (down_pos e) in
    (w.0, p.0, v, ap (λ (z : ℕ). z * down e) v ∙ sym w.1)

-- ---- each value has 53 digits
pub signed_repr : (s : Bool) (m n j : ℕ) → m < 2 ^ 53 → n ≡ m * 2 ^ j → Repr (signed s n)
signed_repr false m n j h e = record { q = pos m; j = j; small = omega arith; is = ap pos e }
signed_repr true m n j h e = record { q = neg_ℤ (pos m); j = j; small = (omega zs, omega zs); is = ap (λ (z : ℕ). neg_ℤ (pos z)) e ∙ sym (Rattle.ieee.proofs.Ints.neg_mul (pos m) (pos (2 ^ j))) }

pub val_repr : (x : Float) → T (fits binary64 x) → Repr (val x)
val_repr nan f = Rattle.ieee.proofs.Sums.repr_zero
val_repr (inf s) f = Rattle.ieee.proofs.Sums.repr_zero
val_repr (fin s m e) f = let w = mag_is s m e f in signed_repr s m (mag m e) w.0 w.1 w.2

-- ---- what `round` gives
pub of_value : (x : Float) (s : Bool) (a : ℕ) → HasValue x s a (2 ^ 1074) → T (finite x) × (val x ≡ signed s a)
of_value nan s a h = absurd h
of_value (inf t) s a h = absurd h
of_value (fin t m e) s a h = (tt, (λ i. signed (h.0 i) (mag m e)) ∙ ap (signed s) (ap (λ (z : ℕ). z / down e) h.1 ∙ mul-div_cancel a (down_pos e)))

abbrev pub Is : Float → ℤ → Type 0
Is x z = T (finite x) × (val x ≡ z)

pub round_frac : (s : Bool) (num den : ℕ) → rnd (num * 2 ^ 1074) den < 2 ^ 2098 → Is (round binary64 s num den) (signed s (rnd (num * 2 ^ 1074) den))
unfolding rnd
round_frac s num den h =
    subst (λ (x : Float). Is x (signed s (rnd (num * 2 ^ 1074) den))) (sym (round_is binary64 s num den))
    (of_value (units binary64 s (kept 53 (num * 2 ^ 1074) den) (drop 53 (num * 2 ^ 1074) den)) s (rnd (num * 2 ^ 1074) den) (units_val binary64 s (kept 53 (num * 2 ^ 1074) den) (drop 53 (num * 2 ^ 1074) den) h))

-- with any other fraction of the same size, in units
pub round_to : (s : Bool) (num den n d : ℕ) → 0 < den → 0 < d → num * 2 ^ 1074 * d ≡ n * den → rnd n d < 2 ^ 2098 → Is (round binary64 s num den) (signed s (rnd n d))
round_to s num den n d DE D e h =
    let w : rnd (num * 2 ^ 1074) den ≡ rnd n d = rnd_same (num * 2 ^ 1074) den n d DE D e in
    subst (λ (z : ℕ). Is (round binary64 s num den) (signed s z)) w (round_frac s num den (subst (λ (z : ℕ). z < 2 ^ 2098) (sym w) h))

-- ---- whole numbers
pub rnd_zero : rnd 0 1 ≡ 0
unfolding rnd lib.Ieee.size
rnd_zero = refl

pub rz_signed : (s : Bool) (n : ℕ) → rz (signed s n) ≡ signed s (rnd n 1)
rz_signed false n = refl
rz_signed true zero = ap pos rnd_zero ∙ ap (λ (z : ℕ). neg_ℤ (pos z)) (sym rnd_zero)
rz_signed true (suc n) = refl

pub abs_signed : (s : Bool) (n : ℕ) → nat_abs (signed s n) ≡ n
abs_signed false n = refl
abs_signed true zero = refl
abs_signed true (suc n) = refl

pub round_int : (s : Bool) (num den n : ℕ) → 0 < den → num * 2 ^ 1074 ≡ n * den → Under (rz (signed s n)) → Is (round binary64 s num den) (rz (signed s n))
round_int s num den n D e h =
    subst (Is (round binary64 s num den)) (sym (rz_signed s n))
    (round_to s num den n 1 D (pow_pos 0) (mul-one (num * 2 ^ 1074) ∙ e) (subst (λ (z : ℕ). z < 2 ^ 2098) (ap nat_abs (rz_signed s n) ∙ abs_signed s (rnd n 1)) h))

-- ---- sums: from core's num.Values
pub sum_like : (f : Format) (s : Bool) (a b c : ℕ) → sum f s a s b c ≡ round f s (a + b) c
unfolding sum
sum_like f true a b c = refl
sum_like f false a b c = refl

pub sum_less : (f : Format) (s t : Bool) (a b c : ℕ) → beq s t ≡ false → a < b → sum f s a t b c ≡ round f t (b - a) c
unfolding sum
sum_less f s t a b c u l = rw (u, lt-ltb a b l) refl

pub sum_more : (f : Format) (s t : Bool) (a b c : ℕ) → beq s t ≡ false → b < a → sum f s a t b c ≡ round f s (a - b) c
unfolding sum
sum_more f true t a b c u l = rw (u, le-ltb a b (omega arith), lt-ltb b a l) refl
sum_more f false t a b c u l = rw (u, le-ltb a b (omega arith)) refl

pub sum_level : (f : Format) (s t : Bool) (a b c : ℕ) → beq s t ≡ false → a ≡ b → sum f s a t b c ≡ round f false 0 c
unfolding sum
sum_level f true t a b c u e = let z : a - b ≡ 0 = omega arith in rw (u, le-ltb a b (omega arith), le-ltb b a (omega arith), z) refl
sum_level f false t a b c u e = let z : a - b ≡ 0 = omega arith in rw (u, le-ltb a b (omega arith), z) refl

-- ±A ± B
pub like_is : (s : Bool) (A B : ℕ) → signed s A +ℤ signed s B ≡ signed s (A + B)
like_is false A B = refl
like_is true A B = omega zs

pub less_is : (s t : Bool) (A B : ℕ) → beq s t ≡ false → A < B → signed s A +ℤ signed t B ≡ signed t (B - A)
less_is true true A B u h = absurd (mathlib.Core.Bool.true≢false u)
less_is false false A B u h = absurd (mathlib.Core.Bool.true≢false u)
less_is false true A B u h = omega zs
less_is true false A B u h = omega zs

pub more_is : (s t : Bool) (A B : ℕ) → beq s t ≡ false → B < A → signed s A +ℤ signed t B ≡ signed s (A - B)
more_is true true A B u h = absurd (mathlib.Core.Bool.true≢false u)
more_is false false A B u h = absurd (mathlib.Core.Bool.true≢false u)
more_is false true A B u h = omega zs
more_is true false A B u h = omega zs

pub level_is : (s t : Bool) (A B : ℕ) → beq s t ≡ false → A ≡ B → signed s A +ℤ signed t B ≡ pos 0
level_is true true A B u h = absurd (mathlib.Core.Bool.true≢false u)
level_is false false A B u h = absurd (mathlib.Core.Bool.true≢false u)
level_is false true A B u h = omega zs
level_is true false A B u h = omega zs

pub lt_scaled : (a b c A B l : ℕ) → 0 < c → a * l ≡ A * c → b * l ≡ B * c → A < B → a < b
lt_scaled a b c A B l C p q h = lt_of_mul-lt-mul_right l (omega (arith, mul-lt-mul_of_pos_right h C))

pub eq_scaled : (a b c A B l : ℕ) → 0 < l → a * l ≡ A * c → b * l ≡ B * c → A ≡ B → a ≡ b
eq_scaled a b c A B l L p q h = eq_of_mul-eq-mul_right l L a b (p ∙ ap (λ (z : ℕ). z * c) h ∙ sym q)

pub add_scaled : (a b c A B l : ℕ) → a * l ≡ A * c → b * l ≡ B * c → (a + b) * l ≡ (A + B) * c
add_scaled a b c A B l p q = omega arith

pub sub_scaled : (a b c A B l : ℕ) → a * l ≡ A * c → b * l ≡ B * c → a < b → A < B → (b - a) * l ≡ (B - A) * c
sub_scaled a b c A B l p q h k =
    let d : b - a + a ≡ b = omega arith in
    let d' : B - A + A ≡ B = omega arith in
    omega (arith, ap (λ (z : ℕ). z * l) d, ap (λ (z : ℕ). z * c) d')

module _ (a b c A B : ℕ) (C : 0 < c) (p : a * 2 ^ 1074 ≡ A * c) (q : b * 2 ^ 1074 ≡ B * c) where
  abbrev SumIs : Bool → Bool → Type 0
  SumIs s t = Under (rz (signed s A +ℤ signed t B)) → Is (sum binary64 s a t b c) (rz (signed s A +ℤ signed t B))

  -- from one `round`
  from : (s t u : Bool) (n N : ℕ) → sum binary64 s a t b c ≡ round binary64 u n c → signed s A +ℤ signed t B ≡ signed u N → n * 2 ^ 1074 ≡ N * c → SumIs s t
  from s t u n N e f g h =
      subst (λ (x : Float). Is x (rz (signed s A +ℤ signed t B))) (sym e)
      (subst (λ (z : ℤ). Is (round binary64 u n c) (rz z)) (sym f) (round_int u n c N C g (subst (λ (z : ℤ). Under (rz z)) f h)))

  sum_alike : (s : Bool) → SumIs s s
  sum_alike s = from s s s (a + b) (A + B) (sum_like binary64 s a b c) (like_is s A B) (add_scaled a b c A B (2 ^ 1074) p q)

  sum_apart : (s t : Bool) → beq s t ≡ false → SumIs s t
  sum_apart s t u =
      elim (order A B) [
        | inl h ↦ elim (order B A) [
          | inl k ↦
              let E : A ≡ B = omega (arith, h, k) in
              from s t false 0 0 (sum_level binary64 s t a b c u (eq_scaled a b c A B (2 ^ 1074) (pow_pos 1074) p q E)) (level_is s t A B u E) (zero-mul (2 ^ 1074) ∙ sym (zero-mul c))
          | inr k ↦
              let l : a < b = lt_scaled a b c A B (2 ^ 1074) C p q k in
              from s t t (b - a) (B - A) (sum_less binary64 s t a b c u l) (less_is s t A B u k) (sub_scaled a b c A B (2 ^ 1074) p q l k)
        ]
        | inr k ↦
            let l : b < a = lt_scaled b a c B A (2 ^ 1074) C q p k in
            from s t s (a - b) (A - B) (sum_more binary64 s t a b c u l) (more_is s t A B u k) (sub_scaled b a c B A (2 ^ 1074) q p l k)
      ]

  sum_to : (s t : Bool) → SumIs s t
  sum_to true true = sum_alike true
  sum_to false false = sum_alike false
  sum_to true false = sum_apart true false refl
  sum_to false true = sum_apart false true refl

cross : (u A de dd l : ℕ) → A * de ≡ u * l → u * dd * l ≡ A * (de * dd)
cross u A de dd l e = omega (arith, ap (λ (z : ℕ). z * dd) e)

cross' : (u A de dd l : ℕ) → A * dd ≡ u * l → u * de * l ≡ A * (de * dd)
cross' u A de dd l e = omega (arith, ap (λ (z : ℕ). z * de) e)

pub add_is : (x y : Float) → T (fits binary64 x) → T (fits binary64 y) → T (finite x) → T (finite y) → Under (rz (val x +ℤ val y)) → Is (add binary64 x y) (rz (val x +ℤ val y))
unfolding add
add_is nan y fx fy nx ny h = absurd nx
add_is (inf s) y fx fy nx ny h = absurd nx
add_is (fin s m e) nan fx fy nx ny h = absurd ny
add_is (fin s m e) (inf t) fx fy nx ny h = absurd ny
add_is (fin s m e) (fin t n d) fx fy nx ny h =
    sum_to (m * up e * down d) (n * up d * down e) (down e * down d) (mag m e) (mag n d) (mul-pos (down_pos e) (down_pos d))
    (cross (m * up e) (mag m e) (down e) (down d) (2 ^ 1074) (mag_is s m e fx).3) (cross' (n * up d) (mag n d) (down e) (down d) (2 ^ 1074) (mag_is t n d fy).3) s t h

neg_signed : (s : Bool) (n : ℕ) → signed (not s) n ≡ neg_ℤ (signed s n)
neg_signed false n = refl
neg_signed true n = sym (lib.IntN.neg_ℤ-neg_ℤ (pos n))

pub val_neg : (x : Float) → val (neg x) ≡ neg_ℤ (val x)
unfolding neg
val_neg nan = refl
val_neg (inf s) = refl
val_neg (fin s m e) = neg_signed s (mag m e)

pub finite_neg : (x : Float) → T (finite x) → T (finite (neg x))
unfolding neg
finite_neg nan t = t
finite_neg (inf s) t = t
finite_neg (fin s m e) t = t

pub sub_is : (x y : Float) → T (fits binary64 x) → T (fits binary64 y) → T (finite x) → T (finite y) → Under (rz (val x -ℤ val y)) → Is (sub binary64 x y) (rz (val x -ℤ val y))
unfolding sub
sub_is x y fx fy nx ny h =
    let e : val x +ℤ val (neg y) ≡ val x -ℤ val y = ap (λ (z : ℤ). val x +ℤ z) (val_neg y) in
    subst (λ (z : ℤ). Is (add binary64 x (neg y)) (rz z)) e (add_is x (neg y) fx (lib.Ieee.Fits.neg-fits binary64 y fy) nx (finite_neg y ny) (subst (λ (z : ℤ). Under (rz z)) (sym e) h))
