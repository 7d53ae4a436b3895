-- The order of finite f64 is that of their whole numbers of units. Assumes nothing.
use Rattle.std.proofs.Common.{◌≡◌, ℕ, zero, suc, ◌+◌, ◌*◌, ◌^◌, ◌<◌, ◌≤◌, Bool, true, false, ◌&&◌, ◌||◌, T, eqb, ◌⊎◌, ℤ, pos, neg_ℤ, nat_abs, sym, refl, ap, ◌∙◌, subst, inl, inr, mul-pos, zero-mul, arith, eqb→eq, ltb→lt, lt→ltb, pow_pos}
use mathlib.Core.Bool.{beq}
use lib.Dec.{eqb_refl}
use lib.Ieee.{Float, nan, inf, fin, binary64, fits, up, down, below, level, lt, eq, le}
use lib.Ieee.Fits.{and_l, and_r, down_pos}
use lib.Ieee.Scale.{finite}
use borrow.Author.Differences.{up as plus, down as less, same_in, same_out}
use Rattle.std.specs.Float.{float_with_sign}
use Rattle.ieee.specs.Val.{signed, val}
use Rattle.ieee.proofs.Ints.{zs}
use Rattle.ieee.proofs.Whole.{order}
use Rattle.ieee.proofs.Bridge.{mag, mag_is, lt_scaled, eq_scaled, add_scaled, abs_signed}

-- x < y and x ≤ y
abbrev pub Below : ℤ → ℤ → Type 0
Below x y = plus x + less y < plus y + less x

abbrev pub Upto : ℤ → ℤ → Type 0
Upto x y = plus x + less y ≤ plus y + less x

-- ---- a test's parts
pub either : (a b : Bool) → T (a || b) → T a ⊎ T b
either true b t = inl tt
either false b t = inr t

pub or_l : (a b : Bool) → T a → T (a || b)
or_l true b t = tt
or_l false b t = absurd t

pub or_r : (a b : Bool) → T b → T (a || b)
or_r true b t = tt
or_r false b t = t

pub both : (a b : Bool) → T a → T b → T (a && b)
both true true t u = tt
both true false t u = u
both false b t u = t

eq→eqb : (m n : ℕ) → m ≡ n → T (eqb m n)
eq→eqb m n e = subst (λ (z : ℕ). T (eqb m z)) e (eqb_refl m)

-- ---- a / k and b / k are A / l and B / l
module _ (a b A B k l : ℕ) (K : 0 < k) (L : 0 < l) (p : a * l ≡ A * k) (q : b * l ≡ B * k) where
  some : 0 < a + b → 0 < A + B
  some h = lt_scaled 0 (A + B) l 0 (a + b) k L (zero-mul k ∙ sym (zero-mul l)) (sym (add_scaled a b k A B l p q)) h

  some_back : 0 < A + B → 0 < a + b
  some_back h = lt_scaled 0 (a + b) k 0 (A + B) l K (zero-mul l ∙ sym (zero-mul k)) (add_scaled a b k A B l p q) h

  below_out : (s t : Bool) → T (below s a t b) → Below (signed s A) (signed t B)
  below_out false false h = let g = lt_scaled A B l a b k L (sym p) (sym q) (ltb→lt a b h) in omega zs
  below_out false true h = absurd h
  below_out true false h = let g = some (ltb→lt 0 (a + b) h) in omega zs
  below_out true true h = let g = lt_scaled B A l b a k L (sym q) (sym p) (ltb→lt b a h) in omega zs

  below_in : (s t : Bool) → Below (signed s A) (signed t B) → T (below s a t b)
  below_in false false h = lt→ltb a b (lt_scaled a b k A B l K p q (omega zs))
  below_in false true h = absurd (omega zs)
  below_in true false h = lt→ltb 0 (a + b) (some_back (omega zs))
  below_in true true h = lt→ltb b a (lt_scaled b a k B A l K q p (omega zs))

  level_out : (s t : Bool) → T (level s a t b) → signed s A ≡ signed t B
  level_out s t h = go s t (eq_scaled A B l a b k K (sym p) (sym q) (eqb→eq a b (and_l (eqb a b) (beq s t || eqb a 0) h))) (and_r (eqb a b) (beq s t || eqb a 0) h)
    where
      none : T (eqb a 0) → A ≡ 0
      none h = eq_scaled A 0 l a 0 k K (sym p) (zero-mul k ∙ sym (zero-mul l)) (eqb→eq a 0 h)

      go : (s t : Bool) → A ≡ B → T (beq s t || eqb a 0) → signed s A ≡ signed t B
      go false false e h = ap pos e
      go false true e h = let z = none h in omega zs
      go true false e h = let z = none h in omega zs
      go true true e h = ap (λ (z : ℕ). neg_ℤ (pos z)) e

  level_in : (s t : Bool) → signed s A ≡ signed t B → T (level s a t b)
  level_in s t e = both (eqb a b) (beq s t || eqb a 0) (eq→eqb a b (eq_scaled a b k A B l L p q (sym (abs_signed s A) ∙ ap nat_abs e ∙ abs_signed t B))) (go s t e)
    where
      none : A ≡ 0 → T (eqb a 0)
      none z = eq→eqb a 0 (eq_scaled a 0 k A 0 l L p (zero-mul l ∙ sym (zero-mul k)) z)

      go : (s t : Bool) → signed s A ≡ signed t B → T (beq s t || eqb a 0)
      go false false e = tt
      go false true e = none (omega zs)
      go true false e = none (omega zs)
      go true true e = tt

-- ---- two floats
left : (u A de dd l : ℕ) → A * de ≡ u * l → u * dd * l ≡ A * (de * dd)
left u A de dd l e = omega (arith, ap (λ (z : ℕ). z * dd) e)

right : (v B de dd l : ℕ) → B * dd ≡ v * l → v * de * l ≡ B * (de * dd)
right v B de dd l e = omega (arith, ap (λ (z : ℕ). z * de) e)

module _ (s : Bool) (m : ℕ) (e : ℤ) (t : Bool) (n : ℕ) (d : ℤ) (f : T (fits binary64 (fin s m e))) (g : T (fits binary64 (fin t n d))) where
  K : 0 < down e * down d
  K = mul-pos (down_pos e) (down_pos d)

  p : m * up e * down d * 2 ^ 1074 ≡ mag m e * (down e * down d)
  p = left (m * up e) (mag m e) (down e) (down d) (2 ^ 1074) (mag_is s m e f).3

  q : n * up d * down e * 2 ^ 1074 ≡ mag n d * (down e * down d)
  q = right (n * up d) (mag n d) (down e) (down d) (2 ^ 1074) (mag_is t n d g).3

  lt_fin : T (lt (fin s m e) (fin t n d)) → Below (val (fin s m e)) (val (fin t n d))
  unfolding lt
  lt_fin h = below_out (m * up e * down d) (n * up d * down e) (mag m e) (mag n d) (down e * down d) (2 ^ 1074) K (pow_pos 1074) p q s t h

  fin_lt : Below (val (fin s m e)) (val (fin t n d)) → T (lt (fin s m e) (fin t n d))
  unfolding lt
  fin_lt h = below_in (m * up e * down d) (n * up d * down e) (mag m e) (mag n d) (down e * down d) (2 ^ 1074) K (pow_pos 1074) p q s t h

  eq_fin : T (eq (fin s m e) (fin t n d)) → val (fin s m e) ≡ val (fin t n d)
  unfolding eq
  eq_fin h = level_out (m * up e * down d) (n * up d * down e) (mag m e) (mag n d) (down e * down d) (2 ^ 1074) K (pow_pos 1074) p q s t h

  fin_eq : val (fin s m e) ≡ val (fin t n d) → T (eq (fin s m e) (fin t n d))
  unfolding eq
  fin_eq h = level_in (m * up e * down d) (n * up d * down e) (mag m e) (mag n d) (down e * down d) (2 ^ 1074) K (pow_pos 1074) p q s t h

pub lt_out : (x y : Float) → T (fits binary64 x) → T (fits binary64 y) → T (finite x) → T (finite y) → T (lt x y) → Below (val x) (val y)
lt_out nan y fx fy nx ny h = absurd nx
lt_out (inf s) y fx fy nx ny h = absurd nx
lt_out (fin s m e) nan fx fy nx ny h = absurd ny
lt_out (fin s m e) (inf t) fx fy nx ny h = absurd ny
lt_out (fin s m e) (fin t n d) fx fy nx ny h = lt_fin s m e t n d fx fy h

pub lt_in : (x y : Float) → T (fits binary64 x) → T (fits binary64 y) → T (finite x) → T (finite y) → Below (val x) (val y) → T (lt x y)
lt_in nan y fx fy nx ny h = absurd nx
lt_in (inf s) y fx fy nx ny h = absurd nx
lt_in (fin s m e) nan fx fy nx ny h = absurd ny
lt_in (fin s m e) (inf t) fx fy nx ny h = absurd ny
lt_in (fin s m e) (fin t n d) fx fy nx ny h = fin_lt s m e t n d fx fy h

pub eq_out : (x y : Float) → T (fits binary64 x) → T (fits binary64 y) → T (finite x) → T (finite y) → T (eq x y) → val x ≡ val y
eq_out nan y fx fy nx ny h = absurd nx
eq_out (inf s) y fx fy nx ny h = absurd nx
eq_out (fin s m e) nan fx fy nx ny h = absurd ny
eq_out (fin s m e) (inf t) fx fy nx ny h = absurd ny
eq_out (fin s m e) (fin t n d) fx fy nx ny h = eq_fin s m e t n d fx fy h

pub eq_in : (x y : Float) → T (fits binary64 x) → T (fits binary64 y) → T (finite x) → T (finite y) → val x ≡ val y → T (eq x y)
eq_in nan y fx fy nx ny h = absurd nx
eq_in (inf s) y fx fy nx ny h = absurd nx
eq_in (fin s m e) nan fx fy nx ny h = absurd ny
eq_in (fin s m e) (inf t) fx fy nx ny h = absurd ny
eq_in (fin s m e) (fin t n d) fx fy nx ny h = fin_eq s m e t n d fx fy h

pub le_out : (x y : Float) → T (fits binary64 x) → T (fits binary64 y) → T (finite x) → T (finite y) → T (le x y) → Upto (val x) (val y)
unfolding le
le_out x y fx fy nx ny h = elim (either (lt x y) (eq x y) h) [ inl l ↦ let g = lt_out x y fx fy nx ny l in omega arith | inr e ↦ let g = same_out (val x) (val y) (eq_out x y fx fy nx ny e) in omega arith ]

pub le_in : (x y : Float) → T (fits binary64 x) → T (fits binary64 y) → T (finite x) → T (finite y) → Upto (val x) (val y) → T (le x y)
unfolding le
le_in x y fx fy nx ny h = elim (order (plus (val y) + less (val x)) (plus (val x) + less (val y))) [
  | inl g ↦ or_r (lt x y) (eq x y) (eq_in x y fx fy nx ny (same_in (val x) (val y) (omega arith)))
  | inr g ↦ or_l (lt x y) (eq x y) (lt_in x y fx fy nx ny g)
]

-- ---- the size
pub size_val : (x : Float) → val (float_with_sign false x) ≡ pos (nat_abs (val x))
unfolding float_with_sign
size_val nan = refl
size_val (inf s) = refl
size_val (fin s m e) = ap pos (sym (abs_signed s (mag m e)))

pub size_fits : (x : Float) → T (fits binary64 x) → T (fits binary64 (float_with_sign false x))
unfolding float_with_sign fits
size_fits nan h = tt
size_fits (inf s) h = tt
size_fits (fin s zero e) h = h
size_fits (fin s (suc m) e) h = h

pub size_finite : (x : Float) → T (finite x) → T (finite (float_with_sign false x))
unfolding float_with_sign
size_finite nan h = h
size_finite (inf s) h = h
size_finite (fin s m e) h = h

-- what is bounded by a number is one
pub bounded_finite : (x y : Float) → T (finite y) → T (le (float_with_sign false x) y) → T (finite x)
unfolding le float_with_sign
bounded_finite nan y n h = h
bounded_finite (inf s) nan n h = h
bounded_finite (inf s) (inf t) n h = n
bounded_finite (inf s) (fin t m e) n h = h
bounded_finite (fin s m e) y n h = tt
