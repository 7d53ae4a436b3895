-- `round` on f64, with the fraction in units of 2 ^ -1074: where it is exact, a zero or an infinity; and a product with a positive number. Assumes nothing.
use Rattle.std.proofs.Common.{◌≡◌, ℕ, ◌+◌, ◌*◌, ◌^◌, ◌<◌, ◌≤◌, Bool, true, false, cond, ltb, pos, sym, refl, ap, ◌∙◌, subst, inl, inr, mul-le-mul_right, mul_assoc, mul-le-mul_left, mul-pos, zero-mul, mul-one, arith, pow_pos, le-ltb, ne_eqb}
use native.Mathlib.Nat.{eq_of_mul-eq-mul_right}
use lib.Ieee.{Float, nan, inf, fin, binary64, unlike, up, down, odd, units, round, mul}
use lib.Ieee.Fits.{down_pos, round_is}
use lib.Ieee.Exact.{HasValue, units_val, round_exact}
use lib.Ieee.Order.{drop, kept}
use lib.Ieee.Scale.{round_same}
use Rattle.ieee.specs.Val.{rnd}
use Rattle.ieee.proofs.Round.{rnd_same}
use Rattle.ieee.proofs.Closest.{closest_is}
use Rattle.ieee.proofs.Whole.{order}
use Rattle.ieee.proofs.Thresholds.{rnd_at_least}

-- ---- a value by another fraction of the same size
carry : (u v l a n d : ℕ) → u * l ≡ n * v → a * l ≡ n * d → u * d * l ≡ a * v * l
carry u v l a n d e h = omega (arith, ap (λ (z : ℕ). z * d) e, ap (λ (z : ℕ). z * v) h)

pub rescaled : (x : Float) (s : Bool) (n l a d : ℕ) → 0 < l → HasValue x s n l → a * l ≡ n * d → HasValue x s a d
rescaled nan s n l a d L v h = v
rescaled (inf t) s n l a d L v h = v
rescaled (fin t m e) s n l a d L v h = (v.0, eq_of_mul-eq-mul_right l L (m * up e * d) (a * down e) (carry (m * up e) (down e) l a n d v.1 h))

-- ---- n / d units, rounded
abbrev pub rounded : Bool → ℕ → ℕ → Float
rounded s n d = round binary64 s n (2 ^ 1074 * d)

swap : (l a d c : ℕ) → c ≡ a * l * d → a * (l * d) ≡ c
swap l a d c e = omega arith

pub rounded_is : (s : Bool) (a c n d : ℕ) → 0 < c → 0 < d → a * 2 ^ 1074 * d ≡ n * c → round binary64 s a c ≡ rounded s n d
rounded_is s a c n d C D e = round_same binary64 s a c n (2 ^ 1074 * d) C (mul-pos (pow_pos 1074) D) (swap (2 ^ 1074) a d (n * c) (sym e))

cross : (l a b c d : ℕ) → a * d ≡ c * b → a * l * d ≡ c * (l * b)
cross l a b c d e = omega (arith, ap (λ (z : ℕ). z * l) e)

pub rounded_same : (s : Bool) (a b c d : ℕ) → 0 < b → 0 < d → a * d ≡ c * b → rounded s a b ≡ rounded s c d
rounded_same s a b c d B D e = rounded_is s a (2 ^ 1074 * b) c d (mul-pos (pow_pos 1074) B) D (cross (2 ^ 1074) a b c d e)

-- ---- exact: a whole number of units, of 53 digits
spread : (l n w d : ℕ) → n ≡ w * d → n * l ≡ w * (l * d)
spread l n w d e = omega (arith, ap (λ (z : ℕ). z * l) e)

pub rounded_exact : (s : Bool) (n d q j : ℕ) → 0 < d → q < 2 ^ 53 → q * 2 ^ j < 2 ^ 2098 → n ≡ q * 2 ^ j * d → HasValue (rounded s n d) s (q * 2 ^ j) (2 ^ 1074)
rounded_exact s n d q j D small fine e =
    let g : n * 2 ^ 1074 ≡ q * 2 ^ j * (2 ^ 1074 * d) = spread (2 ^ 1074) n (q * 2 ^ j) d e in
    rescaled (rounded s n d) s n (2 ^ 1074 * d) (q * 2 ^ j) (2 ^ 1074) (mul-pos (pow_pos 1074) D) (round_exact binary64 s n (2 ^ 1074 * d) q j (mul-pos (pow_pos 1074) D) small fine g) (sym g)

-- ---- in general: `rnd n d` units, and an infinity from 2 ^ 2098 units on
rnd_units : (n d : ℕ) → 0 < d → rnd (n * 2 ^ 1074) (2 ^ 1074 * d) ≡ rnd n d
rnd_units n d D = rnd_same (n * 2 ^ 1074) (2 ^ 1074 * d) n d (mul-pos (pow_pos 1074) D) D (mul_assoc n (2 ^ 1074) d)

pub rounded_value : (s : Bool) (n d : ℕ) → 0 < d → rnd n d < 2 ^ 2098 → HasValue (rounded s n d) s (rnd n d) (2 ^ 1074)
unfolding rnd
rounded_value s n d D h =
    let c = 2 ^ 1074 * d in
    let N = n * 2 ^ 1074 in
    let e : rnd N c ≡ rnd n d = rnd_units n d D in
    subst (λ (z : ℕ). HasValue (rounded s n d) s z (2 ^ 1074)) e
    (subst (λ (x : Float). HasValue x s (rnd N c) (2 ^ 1074)) (sym (round_is binary64 s n c)) (units_val binary64 s (kept 53 N c) (drop 53 N c) (subst (λ (z : ℕ). z < 2 ^ 2098) (sym e) h)))

over : (s : Bool) (q k : ℕ) → 2 ^ 2098 ≤ q * 2 ^ k → units binary64 s q k ≡ inf s
unfolding units
over s q k h = ap (λ (b : Bool). cond b (odd 54 s q k 1074) (inf s)) (le-ltb (q * 2 ^ k) (2 ^ 2098) h)

pub rounded_over : (s : Bool) (n d : ℕ) → 0 < d → 2 ^ 2098 ≤ rnd n d → rounded s n d ≡ inf s
unfolding rnd
rounded_over s n d D h =
    let c = 2 ^ 1074 * d in
    let N = n * 2 ^ 1074 in
    round_is binary64 s n c ∙ over s (kept 53 N c) (drop 53 N c) (subst (λ (z : ℕ). 2 ^ 2098 ≤ z) (sym (rnd_units n d D)) h)

pub rounded_inf : (s : Bool) (n d : ℕ) → 0 < d → 2 ^ 2098 * d ≤ n → rounded s n d ≡ inf s
rounded_inf s n d D h = rounded_over s n d D (rnd_at_least n d 2098 D h)

-- ---- half a unit at most rounds to a zero
none : (s : Bool) (k : ℕ) → units binary64 s 0 k ≡ fin s 0 (pos 0)
unfolding units odd
none s k = ap (λ (z : ℕ). cond (ltb z (2 ^ 2098)) (odd 54 s 0 k 1074) (inf s)) (zero-mul (2 ^ k))

low : (a u : ℕ) → 0 * u * 2 ≤ a * 2 + u
low a u = omega arith

half : (l n d p : ℕ) → n * 2 ≤ d → 0 < p → n * l * 2 ≤ 0 * (l * d * p) * 2 + l * d * p
half l n d p h P = omega (arith, mul-le-mul_right l h, mul-le-mul_left (l * d) P)

pub rounded_zero : (s : Bool) (n d : ℕ) → 0 < d → n * 2 ≤ d → rounded s n d ≡ fin s 0 (pos 0)
rounded_zero s n d D h =
    let c = 2 ^ 1074 * d in
    let N = n * 2 ^ 1074 in
    let k = drop 53 N c in
    let z : kept 53 N c ≡ 0 = closest_is N (c * 2 ^ k) 0 (mul-pos (mul-pos (pow_pos 1074) D) (pow_pos k)) (record { above = low N (c * 2 ^ k); below = half (2 ^ 1074) n d (2 ^ k) h (pow_pos k); even = λ t. refl }) in
    round_is binary64 s n c ∙ ap (λ (q : ℕ). units binary64 s q k) z ∙ none s k

-- ---- a product with a positive number
unlike_false : (s : Bool) → unlike s false ≡ s
unlike_false true = refl
unlike_false false = refl

both : (u v l n de dd D C : ℕ) → u * l ≡ n * de → v * D ≡ C * dd → u * v * l * D ≡ n * C * (de * dd)
both u v l n de dd D C p q = omega (arith, ap (λ (z : ℕ). z * (v * D)) p, ap (λ (z : ℕ). z * (n * de)) q)

pub times : (x y : Float) (s : Bool) (n C D : ℕ) → 0 < D → HasValue x s n (2 ^ 1074) → HasValue y false C D → mul binary64 x y ≡ rounded s (n * C) D
unfolding mul
times nan y s n C D P v w = absurd v
times (inf t) y s n C D P v w = absurd v
times (fin t m e) nan s n C D P v w = absurd w
times (fin t m e) (inf u) s n C D P v w = absurd w
times (fin t m e) (fin u k f) s n C D P v w =
    ap (λ (b : Bool). round binary64 (unlike b u) (m * up e * (k * up f)) (down e * down f)) v.0
    ∙ ap (λ (b : Bool). round binary64 (unlike s b) (m * up e * (k * up f)) (down e * down f)) w.0
    ∙ ap (λ (b : Bool). round binary64 b (m * up e * (k * up f)) (down e * down f)) (unlike_false s)
    ∙ rounded_is s (m * up e * (k * up f)) (down e * down f) (n * C) D (mul-pos (down_pos e) (down_pos f)) P (both (m * up e) (k * up f) (2 ^ 1074) n (down e) (down f) D C v.1 w.1)

not_zero : (k u C v D : ℕ) → k * u * D ≡ C * v → 0 < C * v → k ≡ 0 → ⊥
not_zero k u C v D e h z = omega (arith, ap (λ (x : ℕ). x * u * D) z)

pub times_inf : (y : Float) (s : Bool) (C D : ℕ) → 0 < C → HasValue y false C D → mul binary64 (inf s) y ≡ inf s
unfolding mul
times_inf nan s C D P w = absurd w
times_inf (inf u) s C D P w = absurd w
times_inf (fin u k f) s C D P w =
    ap (λ (b : Bool). cond b nan (inf (unlike s u))) (ne_eqb k 0 (not_zero k (up f) C (down f) D w.1 (mul-pos P (down_pos f))))
    ∙ ap (λ (b : Bool). inf (unlike s b)) w.0
    ∙ ap (λ (b : Bool). inf b) (unlike_false s)

-- a product upward goes through the rounding of a number of 53 digits: that is exact, or an infinity on both sides
grown : (a n p : ℕ) → a * 1 ≤ n → 0 < p → a * 1 ≤ n * p
grown a n p h P = omega (arith, mul-le-mul_left n P)

pub times_up : (s : Bool) (q k : ℕ) (y : Float) (C : ℕ) → q < 2 ^ 53 → 0 < C → HasValue y false C 1 → mul binary64 (rounded s (q * 2 ^ k) 1) y ≡ rounded s (q * 2 ^ k * C) 1
times_up s q k y C small P w =
    elim (order (2 ^ 2098) (q * 2 ^ k)) [
      | inl h ↦
          let g : 2 ^ 2098 * 1 ≤ q * 2 ^ k = subst (λ (z : ℕ). z ≤ q * 2 ^ k) (sym (mul-one (2 ^ 2098))) h in
          ap (λ (x : Float). mul binary64 x y) (rounded_inf s (q * 2 ^ k) 1 (pow_pos 0) g) ∙ times_inf y s C 1 P w ∙ sym (rounded_inf s (q * 2 ^ k * C) 1 (pow_pos 0) (grown (2 ^ 2098) (q * 2 ^ k) C g P))
      | inr h ↦ times (rounded s (q * 2 ^ k) 1) y s (q * 2 ^ k) C 1 (pow_pos 0) (rounded_exact s (q * 2 ^ k) 1 q k (pow_pos 0) small h (sym (mul-one (q * 2 ^ k)))) w
    ]
