-- d times 2 ^ i, rounded once wherever the first product of a step down does not round. Assumes nothing.
use Rattle.std.proofs.Common.{◌≡◌, ℕ, suc, ◌+◌, ◌-◌, ◌*◌, ◌^◌, ◌<◌, ◌≤◌, Bool, true, false, cond, T, ℤ, pos, negsuc, nat_abs, sym, refl, ap, ◌∙◌, subst, inl, inr, le_of_lt, mul_assoc, mul-le-mul_left, mul-lt-mul_of_pos_right, mul-pos, mul-one, arith, pow_pos, pow_mono, pow-add, le-ltb, lt-ltb}
use lib.Signed.{lt_z}
use lib.Ieee.{Float, fin, binary64, fits, up, down, mul, round}
use lib.Ieee.Fits.{down_pos}
use lib.Ieee.Exact.{HasValue}
use Rattle.ieee.specs.Val.{val, Mult}
use Rattle.ieee.proofs.Ints.{abs_mul, cancel_lt}
use Rattle.ieee.proofs.Bridge.{mag, mag_is, abs_signed}
use Rattle.ieee.proofs.Middle.{val_under}
use Rattle.ieee.proofs.Whole.{order}
use Rattle.erfc.specs.Scaling.{power, scaled_down, scaled_up, ldexp_of}
use Rattle.erfc.proofs.Rounded.{rounded, rounded_is, times}
use Rattle.erfc.proofs.Powers.{power_up, power_down}
use Rattle.erfc.proofs.Ups.{scaled_up_lem}
use Rattle.erfc.proofs.Downs.{scaled_down_lem}

-- a multiple of 2 ^ 970 of 53 digits is 2 ^ 970 times a number of 53 digits
pub divided : (n m j c : ℕ) → m < 2 ^ 53 → n ≡ m * 2 ^ j → n ≡ c * 2 ^ 970 → (q : ℕ) × (k : ℕ) × (q < 2 ^ 53) × (n ≡ q * 2 ^ k * 2 ^ 970)
divided n m j c small e g = elim (order 970 j) [
  | inl h ↦ (
    m,
    j - 970,
    small,
    e ∙ ap (λ (z : ℕ). m * z) (ap (λ (z : ℕ). 2 ^ z) {x = j} {y = j - 970 + 970} (omega arith) ∙ pow-add 2 (j - 970) 970) ∙ sym (mul_assoc m (2 ^ (j - 970)) (2 ^ 970)),
  )
  | inr h ↦ (c, 0, less c m (2 ^ 970) (2 ^ j) small (sym g ∙ e) (pow_pos 970) (pow_mono (le_of_lt h)), g ∙ ap (λ (z : ℕ). z * 2 ^ 970) (sym (mul-one c)))
]
  where
    less : (c m p u : ℕ) → m < 2 ^ 53 → c * p ≡ m * u → 0 < p → u ≤ p → c < 2 ^ 53
    less c m p u a b P h = cancel_lt p c (2 ^ 53) (omega (arith, mul-le-mul_left m h, mul-lt-mul_of_pos_right a P))

-- ---- both signs of i
pub product : (u v l n a b : ℕ) → n * v ≡ u * l → u * a * l * b ≡ n * a * (v * b)
product u v l n a b e = omega (arith, ap (λ (z : ℕ). z * (a * b)) e)

module _ (s : Bool) (m : ℕ) (e : ℤ) (f : T (fits binary64 (fin s m e))) where
  abbrev d : Float
  d = fin s m e

  value : HasValue d s (mag m e) (2 ^ 1074)
  value = (refl, sym (mag_is s m e f).3)

  abbrev goal : ℤ → Float
  goal i = round binary64 s (m * up e * up i) (down e * down i)

  goal_is : (i : ℤ) → goal i ≡ rounded s (mag m e * up i) (down i)
  goal_is i = rounded_is s (m * up e * up i) (down e * down i) (mag m e * up i) (down i) (mul-pos (down_pos e) (down_pos i)) (down_pos i) (product (m * up e) (down e) (2 ^ 1074) (mag m e) (up i) (down i) (mag_is s m e f).3)

  -- one product
  once : (i : ℤ) → HasValue (power i) false (up i) (down i) → mul binary64 d (power i) ≡ goal i
  once i w = times d (power i) s (mag m e) (up i) (down i) (down_pos i) value w ∙ sym (goal_is i)

  ups : (i : ℕ) → 1023 < i → scaled_up d (pos i) ≡ goal (pos i)
  ups i h =
      let w = mag_is s m e f in
      let j = w.0 in
      scaled_up_lem d s m j w.1 (subst (λ (z : ℕ). HasValue d s z (2 ^ 1074)) w.2 value) i h
      ∙ ap (λ (z : ℕ). rounded s z 1) (ap (λ (z : ℕ). m * z) (pow-add 2 j i) ∙ sym (mul_assoc m (2 ^ j) (2 ^ i)) ∙ ap (λ (z : ℕ). z * 2 ^ i) (sym w.2))
      ∙ sym (goal_is (pos i))

  downs : (i : ℕ) → 1021 < i → Mult 970 (val d) → scaled_down d (negsuc i) ≡ goal (negsuc i)
  downs i h g =
      let w = mag_is s m e f in
      let c : mag m e ≡ nat_abs g.0 * 2 ^ 970 = sym (abs_signed s (mag m e)) ∙ ap nat_abs g.1 ∙ abs_mul g.0 (pos (2 ^ 970)) in
      let p = divided (mag m e) m w.0 (nat_abs g.0) w.1 w.2 c in
      scaled_down_lem d s p.0 p.1 p.2 (subst (λ (z : ℕ). z < 2 ^ 2098) (abs_signed s (mag m e) ∙ p.3) (val_under d f)) (subst (λ (z : ℕ). HasValue d s z (2 ^ 1074)) p.3 value) i h
      ∙ ap (λ (z : ℕ). rounded s z (2 ^ suc i)) (sym (mul-one (mag m e) ∙ p.3))
      ∙ sym (goal_is (negsuc i))

-- ---- the theorem
-- a step down is exact where d is a whole number of 2 ^ -104, which is 2 ^ 970 units
pub ldexp_once : (s : Bool) (m : ℕ) (e i : ℤ) → T (fits binary64 (fin s m e)) → (lt_z i (negsuc 1021) ≡ true → Mult 970 (val (fin s m e))) →
    ldexp_of (fin s m e) i ≡ round binary64 s (m * up e * up i) (down e * down i)
unfolding ldexp_of
ldexp_once s m e (pos i) f h =
    let pick = λ (t : Bool). cond t (scaled_up (fin s m e) (pos i)) (mul binary64 (fin s m e) (power (pos i))) in
    elim (order i 1023) [
      | inl g ↦ ap pick (le-ltb 1023 i g) ∙ once s m e f (pos i) (power_up i g)
      | inr g ↦ ap pick (lt-ltb 1023 i g) ∙ ups s m e f i g
    ]
ldexp_once s m e (negsuc i) f h =
    let pick = λ (t : Bool). cond t (scaled_down (fin s m e) (negsuc i)) (mul binary64 (fin s m e) (power (negsuc i))) in
    elim (order i 1021) [
      | inl g ↦ ap pick (le-ltb 1021 i g) ∙ once s m e f (negsuc i) (power_down i g)
      | inr g ↦ ap pick (lt-ltb 1021 i g) ∙ downs s m e f i g (h (lt-ltb 1021 i g))
    ]
