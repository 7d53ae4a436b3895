-- A number below 2 ^ 51 in size, rounded to a whole number by adding and subtracting 2 ^ 52 + 2 ^ 51. Assumes nothing.
use Rattle.std.proofs.Common.{◌≡◌, ℕ, ◌+◌, ◌-◌, ◌*◌, ◌^◌, ◌<◌, ◌≤◌, Bool, true, false, ◌||◌, T, eqb, ℤ, pos, ◌+ℤ◌, ◌-ℤ◌, neg_ℤ, nat_abs, sym, refl, ap, ◌∙◌, subst, inl, inr, true≢false, lt_of_le_of_lt, mul-le-mul_right, eq-zero-or-pos, mul-lt-mul_of_pos_right, mul-pos, mul_right_comm, arith, lit<, eqb→eq, ltb→lt, pow_pos}
use mathlib.Core.Bool.{beq}
use native.Mathlib.Nat.{eq_of_mul-eq-mul_right}
use lib.Ieee.{Float, nan, inf, fin, binary64, up, down, round, of_bits, add, mul, eq, lt, level, fits}
use lib.Ieee.Back.{round_whole, whole_unique}
use lib.Ieee.Exact.{HasValue}
use lib.Ieee.Fits.{add-fits, sub-fits, round-fits, down_pos, and_l}
use lib.Ieee.Nearest.{closest, closest_same}
use lib.Ieee.Scale.{round_same}
use Rattle.std.specs.Float.{round_ties_even, round_with}
use Rattle.ieee.specs.Val.{signed, val, rz, Under}
use Rattle.ieee.proofs.Ints.{zs, cancel_lt}
use Rattle.ieee.proofs.Whole.{Repr, rounds, exact}
use Rattle.ieee.proofs.Sums.{repr_neg}
use Rattle.ieee.proofs.Bridge.{mag, mag_is, Is, abs_signed, add_is, sub_is}
use Rattle.ieee.specs.Shifted.{shift, shifted}
use Rattle.ieee.proofs.Closest.{closest_add, closest_sub, closest_at_most, rnd_closest}

-- ---- in units of 1 / u: the sum, the whole number nearest to it, and the difference

-- 2 ^ 52 + 2 ^ 51
abbrev C : ℕ
C = 3 * 2 ^ 51

-- of v with the sign s, where k is nearest to v / u
record Moved (s : Bool) (v k u : ℕ) : Type 0 where
  n : ℕ
  w : ℕ
  sum : signed s v +ℤ pos (C * u) ≡ pos n
  low : 2 ^ 52 * u ≤ n
  high : n < 2 ^ 53 * u
  near : closest n u ≡ w
  most : w ≤ 2 ^ 53
  back : pos (w * u) -ℤ pos (C * u) ≡ signed s (k * u)

take_off : (w k u c : ℕ) → w ≡ c - k → k ≤ c → pos (w * u) -ℤ pos (c * u) ≡ neg_ℤ (pos (k * u))
take_off w k u c e h = let f : w + k ≡ c = omega arith in let g = ap (λ (z : ℕ). z * u) f in omega zs

leave : (w k u c : ℕ) → w ≡ c + k → pos (w * u) -ℤ pos (c * u) ≡ pos (k * u)
leave w k u c e = let g = ap (λ (z : ℕ). z * u) e in omega zs

moved : (s : Bool) (v u : ℕ) → 0 < u → v < 2 ^ 51 * u → Moved s v (closest v u) u
moved false v u U h =
    let k = closest_at_most v u (2 ^ 51) U (omega arith) in
    record {
      n = C * u + v;
      w = C + closest v u;
      sum = ap pos (omega arith);
      low = omega arith;
      high = omega arith;
      near = closest_add v u C U refl;
      most = omega arith;
      back = leave (C + closest v u) (closest v u) u C refl;
    }
moved true v u U h =
    let k = closest_at_most v u (2 ^ 51) U (omega arith) in
    record {
      n = C * u - v;
      w = C - closest v u;
      sum = omega zs;
      low = omega arith;
      high = omega arith;
      near = closest_sub v u C U refl (omega arith);
      most = omega arith;
      back = take_off (C - closest v u) (closest v u) u C refl (omega arith);
    }

-- ---- the value of the result

whole_repr : (s : Bool) (k l : ℕ) → k < 2 ^ 53 → Repr (signed s (k * 2 ^ l))
whole_repr false k l h = record { q = pos k; j = l; small = omega arith; is = refl }
whole_repr true k l h = repr_neg (pos (k * 2 ^ l)) (record { q = pos k; j = l; small = omega arith; is = refl })

shift_fits : T (fits binary64 shift)
unfolding fits of_bits
shift_fits = tt

shift_val : Is shift (pos (C * 2 ^ 1074))
unfolding of_bits
shift_val = (tt, refl)

-- a whole number up to 2 ^ 53 is far below what overflows
no_overflow : (w : ℕ) → w ≤ 2 ^ 53 → w * 2 ^ 1074 < 2 ^ 2098
no_overflow w h = lt_of_le_of_lt (mul-le-mul_right (2 ^ 1074) h) (lit< tt)

sum_val : (x : Float) (s : Bool) (v k : ℕ) → T (fits binary64 x) → Is x (signed s v) → (o : Moved s v k (2 ^ 1074)) → Is (add binary64 x shift) (pos (o.w * 2 ^ 1074))
sum_val x s v k f i o =
    let e : rz (val x +ℤ val shift) ≡ pos (o.w * 2 ^ 1074) =
    (λ t. rz (i.1 t +ℤ shift_val.1 t)) ∙ ap rz o.sum ∙ ap pos (rnd_closest o.n 1074 o.low o.high ∙ ap (λ (z : ℕ). z * 2 ^ 1074) o.near) in
    subst (Is (add binary64 x shift)) e (add_is x shift f shift_fits i.0 shift_val.0 (subst Under (sym e) (no_overflow o.w o.most)))

shifted_val : (x : Float) (s : Bool) (v k : ℕ) → T (fits binary64 x) → Is x (signed s v) → k ≤ 2 ^ 51 → Moved s v k (2 ^ 1074) → Is (shifted x) (signed s (k * 2 ^ 1074))
shifted_val x s v k f i l o =
    let y = add binary64 x shift in
    let j = sum_val x s v k f i o in
    let d : val y -ℤ val shift ≡ signed s (k * 2 ^ 1074) = (λ t. j.1 t -ℤ shift_val.1 t) ∙ o.back in
    let z = signed s (k * 2 ^ 1074) in
    let e : rz (val y -ℤ val shift) ≡ z = ap rz d ∙ exact z (rz z) (rounds z) (whole_repr s k 1074 (omega arith)) in
    let b : Under z = subst (λ (n : ℕ). n < 2 ^ 2098) (sym (abs_signed s (k * 2 ^ 1074))) (no_overflow k (omega arith)) in
    subst (Is (shifted x)) e (sub_is y shift (add-fits binary64 x shift) shift_fits j.0 shift_val.0 (subst Under (sym e) b))

-- ---- x: finite, and below 2 ^ 51 in size

abbrev Within : Float → Type 0
Within nan = ⊥
Within (inf s) = ⊥
Within (fin s m e) = m * up e * 1 < 1 * 2 ^ 51 * down e

within : (x : Float) → T (lt (of_bits binary64 0xc320000000000000) x) → T (lt x (of_bits binary64 0x4320000000000000)) → Within x
unfolding lt of_bits
within nan p q = absurd q
within (inf true) p q = absurd p
within (inf false) p q = absurd q
within (fin true m e) p q = ltb→lt (m * up e * 1) (1 * 2 ^ 51 * down e) p
within (fin false m e) p q = ltb→lt (m * up e * 1) (1 * 2 ^ 51 * down e) q

mag_lt : (v a d u : ℕ) → 0 < u → v * d ≡ a * u → a * 1 < 1 * 2 ^ 51 * d → v < 2 ^ 51 * u
mag_lt v a d u U e h = cancel_lt d v (2 ^ 51 * u) (omega (arith, mul-lt-mul_of_pos_right h U))

-- the whole number nearest to the size of x
abbrev K : ℕ → ℤ → ℕ
K m e = closest (m * up e) (down e)

record Answer (s : Bool) (m : ℕ) (e : ℤ) : Type 0 where
  most : K m e ≤ 2 ^ 51
  is : Is (shifted (fin s m e)) (signed s (K m e * 2 ^ 1074))

answer : (s : Bool) (m : ℕ) (e : ℤ) → T (fits binary64 (fin s m e)) → Within (fin s m e) → Answer s m e
answer s m e f h =
    let c : mag m e * down e ≡ m * up e * 2 ^ 1074 = (mag_is s m e f).3 in
    let l = mag_lt (mag m e) (m * up e) (down e) (2 ^ 1074) (pow_pos 1074) c h in
    let k : closest (mag m e) (2 ^ 1074) ≡ K m e = closest_same (mag m e) (2 ^ 1074) (m * up e) (down e) (pow_pos 1074) (down_pos e) c in
    let b : K m e ≤ 2 ^ 51 = closest_at_most (m * up e) (down e) (2 ^ 51) (down_pos e) (omega arith) in
    record {
      most = b;
      is = shifted_val (fin s m e) s (mag m e) (K m e) f (tt, refl) b (subst (λ (z : ℕ). Moved s (mag m e) z (2 ^ 1074)) k (moved s (mag m e) (2 ^ 1074) (pow_pos 1074) l));
    }

-- ---- from the value to the float

-- a size, back in whole numbers
size_of : (s t : Bool) (m : ℕ) (e : ℤ) (k : ℕ) → T (fits binary64 (fin t m e)) → val (fin t m e) ≡ signed s (k * 2 ^ 1074) → m * up e ≡ k * down e
size_of s t m e k f v =
    let a : mag m e ≡ k * 2 ^ 1074 = sym (abs_signed t (mag m e)) ∙ ap nat_abs v ∙ abs_signed s (k * 2 ^ 1074) in
    eq_of_mul-eq-mul_right (2 ^ 1074) (pow_pos 1074) (m * up e) (k * down e) (sym (mag_is t m e f).3 ∙ ap (λ (z : ℕ). z * down e) a ∙ mul_right_comm k (2 ^ 1074) (down e))

-- numbers that are not zero have one sign
same_sign : (s t : Bool) (a b : ℕ) → 0 < b → signed t a ≡ signed s b → t ≡ s
same_sign true true a b h e = refl
same_sign false false a b h e = refl
same_sign true false a b h e = absurd (omega zs)
same_sign false true a b h e = absurd (omega zs)

has_value : (y : Float) (s : Bool) (k : ℕ) → T (fits binary64 y) → Is y (signed s (k * 2 ^ 1074)) → 0 < k → HasValue y s k 1
has_value nan s k f i h = absurd i.0
has_value (inf t) s k f i h = absurd i.0
has_value (fin t m e) s k f i h =
    (same_sign s t (mag m e) (k * 2 ^ 1074) (mul-pos h (pow_pos 1074)) i.1, let g = size_of s t m e k f i.1 in omega arith)

-- ---- the test of the result against zero

level_zero : (t : Bool) (a b : ℕ) → a ≡ 0 → b ≡ 0 → level t a false b ≡ true
level_zero true a b p q = (λ i. level true (p i) false (q i))
level_zero false a b p q = (λ i. level false (p i) false (q i))

zero_eq : (y : Float) (s : Bool) → T (fits binary64 y) → Is y (signed s (0 * 2 ^ 1074)) → eq y (of_bits binary64 0) ≡ true
unfolding eq of_bits
zero_eq nan s f i = absurd i.0
zero_eq (inf t) s f i = absurd i.0
zero_eq (fin t m e) s f i = let g = size_of s t m e 0 f i.1 in level_zero t (m * up e * 1) (0 * 1 * down e) (omega arith) (omega arith)

level_same : (t : Bool) (a b : ℕ) → level t a false b ≡ true → a ≡ b
level_same t a b h = eqb→eq a b (and_l (eqb a b) (beq t false || eqb a 0) (subst T (sym h) tt))

eq_zero : (y : Float) (s : Bool) (k : ℕ) → T (fits binary64 y) → Is y (signed s (k * 2 ^ 1074)) → eq y (of_bits binary64 0) ≡ true → k ≡ 0
unfolding eq of_bits
eq_zero nan s k f i h = absurd i.0
eq_zero (inf t) s k f i h = absurd i.0
eq_zero (fin t m e) s k f i h =
    let g = size_of s t m e k f i.1 in
    let z = level_same t (m * up e * 1) (0 * 1 * down e) h in
    eq_of_mul-eq-mul_right (down e) (down_pos e) k 0 (omega arith)

-- ---- the nearest whole number, by the sign

even_is : (s : Bool) (m : ℕ) (e : ℤ) → round_ties_even binary64 (fin s m e) ≡ round binary64 s (K m e) 1
unfolding round_with
even_is true m e = refl
even_is false m e = refl

times_zero : (s : Bool) (m : ℕ) (e : ℤ) → mul binary64 (fin s m e) (of_bits binary64 0) ≡ round binary64 s 0 1
unfolding mul of_bits
times_zero true m e = round_same binary64 true (m * up e * 0) (down e * 1) 0 1 (mul-pos (down_pos e) (pow_pos 0)) (pow_pos 0) (omega arith)
times_zero false m e = round_same binary64 false (m * up e * 0) (down e * 1) 0 1 (mul-pos (down_pos e) (pow_pos 0)) (pow_pos 0) (omega arith)

-- the nearest whole number, ties to even, where it is not zero
pub shift_round : (x : Float) → T (fits binary64 x) → T (lt (of_bits binary64 0xc320000000000000) x) → T (lt x (of_bits binary64 0x4320000000000000)) →
    eq (shifted x) (of_bits binary64 0) ≡ false → shifted x ≡ round_ties_even binary64 x
shift_round nan f p q h = absurd (within nan p q)
shift_round (inf s) f p q h = absurd (within (inf s) p q)
shift_round (fin s m e) f p q h =
    let x = fin s m e in
    let y = shifted x in
    let F : T (fits binary64 y) = sub-fits binary64 (add binary64 x shift) shift in
    let a = answer s m e f (within x p q) in
    elim (eq-zero-or-pos (K m e)) [
      | inl z ↦ absurd (true≢false (sym (zero_eq y s F (subst (λ (k : ℕ). Is y (signed s (k * 2 ^ 1074))) z a.is)) ∙ h))
      | inr k ↦
          whole_unique binary64 y (round binary64 s (K m e) 1) s (K m e) F (round-fits binary64 s (K m e) 1) (has_value y s (K m e) F a.is k) (round_whole binary64 s (K m e) (omega (arith, a.most)))
          ∙ sym (even_is s m e)
    ]

-- where it is, a zero with the sign of x
pub shift_zero : (x : Float) → T (fits binary64 x) → T (lt (of_bits binary64 0xc320000000000000) x) → T (lt x (of_bits binary64 0x4320000000000000)) →
    eq (shifted x) (of_bits binary64 0) ≡ true → mul binary64 x (of_bits binary64 0) ≡ round_ties_even binary64 x
shift_zero nan f p q h = absurd (within nan p q)
shift_zero (inf s) f p q h = absurd (within (inf s) p q)
shift_zero (fin s m e) f p q h =
    let x = fin s m e in
    let z : K m e ≡ 0 = eq_zero (shifted x) s (K m e) (sub-fits binary64 (add binary64 x shift) shift) (answer s m e f (within x p q)).is h in
    times_zero s m e ∙ ap (λ (k : ℕ). round binary64 s k 1) (sym z) ∙ sym (even_is s m e)
