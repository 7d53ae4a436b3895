-- d times 2 ^ i for i above 1023. Each step up is exact or gives an infinity, and then the rounded product is one too. Assumes nothing.
use Rattle.std.proofs.Common.{◌≡◌, ℕ, ◌+◌, ◌-◌, ◌*◌, ◌^◌, ◌<◌, ◌≤◌, Bool, false, cond, ℤ, pos, ◌-ℤ◌, sym, ap, ◌∙◌, inl, inr, mul_assoc, eq-zero-or-pos, mul-le-mul, zero-mul, arith, pow_pos, pow_mono, pow-add, le-ltb, lt-ltb}
use lib.Signed.{lt_z}
use lib.Ieee.{Float, binary64, mul}
use lib.Ieee.Exact.{HasValue}
use Rattle.ieee.proofs.Ints.{zs}
use Rattle.ieee.proofs.Whole.{order}
use Rattle.erfc.specs.Scaling.{power, step_up, scaled_up}
use Rattle.erfc.proofs.Rounded.{rounded, rounded_inf, times, times_up}
use Rattle.erfc.proofs.Powers.{power_up, step_up_lem}

less : (a : ℕ) → pos (a + 1023) -ℤ pos 1023 ≡ pos a
less a = omega zs

large : (l q p : ℕ) → l ≤ p → 0 < q → l * 1 ≤ q * p
large l q p h Q = omega (arith, mul-le-mul Q h)

module _ (d : Float) (s : Bool) (q k : ℕ) (small : q < 2 ^ 53) (v : HasValue d s (q * 2 ^ k) (2 ^ 1074)) where
  -- where the exponents are so large that only zero does not give an infinity
  cut : (i j : ℕ) → 2098 ≤ i → 2098 ≤ j → rounded s (q * 2 ^ i) 1 ≡ rounded s (q * 2 ^ j) 1
  cut i j I J = elim (eq-zero-or-pos q) [
    | inl z ↦ ap (λ (t : ℕ). rounded s t 1) (ap (λ (t : ℕ). t * 2 ^ i) z ∙ zero-mul (2 ^ i) ∙ sym (zero-mul (2 ^ j)) ∙ ap (λ (t : ℕ). t * 2 ^ j) (sym z))
    | inr p ↦
        rounded_inf s (q * 2 ^ i) 1 (pow_pos 0) (large (2 ^ 2098) q (2 ^ i) (pow_mono I) p)
        ∙ sym (rounded_inf s (q * 2 ^ j) 1 (pow_pos 0) (large (2 ^ 2098) q (2 ^ j) (pow_mono J) p))
  ]

  -- with the exponents added
  joined : (i t : ℕ) → q * 2 ^ i * 2 ^ t ≡ q * 2 ^ (i + t)
  joined i t = mul_assoc q (2 ^ i) (2 ^ t) ∙ ap (λ (z : ℕ). q * z) (sym (pow-add 2 i t))

  first : (y : Float) (t : ℕ) → HasValue y false (2 ^ t) 1 → mul binary64 d y ≡ rounded s (q * 2 ^ (k + t)) 1
  first y t w = times d y s (q * 2 ^ k) (2 ^ t) 1 (pow_pos 0) v w ∙ ap (λ (z : ℕ). rounded s z 1) (joined k t)

  next : (x y : Float) (i t : ℕ) → x ≡ rounded s (q * 2 ^ i) 1 → HasValue y false (2 ^ t) 1 → mul binary64 x y ≡ rounded s (q * 2 ^ (i + t)) 1
  next x y i t e w = ap (λ (z : Float). mul binary64 z y) e ∙ times_up s q i y (2 ^ t) small (pow_pos t) w ∙ ap (λ (z : ℕ). rounded s z 1) (joined i t)

  at : (i j : ℕ) → i ≡ j → rounded s (q * 2 ^ i) 1 ≡ rounded s (q * 2 ^ j) 1
  at i j e = ap (λ (z : ℕ). rounded s (q * 2 ^ z) 1) e

  abbrev x : Float
  x = mul binary64 d step_up

  abbrev y : Float
  y = mul binary64 x step_up

  x_is : x ≡ rounded s (q * 2 ^ (k + 1023)) 1
  x_is = first step_up 1023 step_up_lem

  y_is : y ≡ rounded s (q * 2 ^ (k + 1023 + 1023)) 1
  y_is = next x step_up (k + 1023) 1023 x_is step_up_lem

  -- i is a + 1023, and a is b + 1023 where there are two steps
  one : (a : ℕ) → a ≤ 1023 → mul binary64 x (power (pos a)) ≡ rounded s (q * 2 ^ (k + (a + 1023))) 1
  one a h = next x (power (pos a)) (k + 1023) a x_is (power_up a h) ∙ at (k + 1023 + a) (k + (a + 1023)) (omega arith)

  two : (b : ℕ) → b ≤ 1023 → mul binary64 y (power (pos b)) ≡ rounded s (q * 2 ^ (k + (b + 1023 + 1023))) 1
  two b h = next y (power (pos b)) (k + 1023 + 1023) b y_is (power_up b h) ∙ at (k + 1023 + 1023 + b) (k + (b + 1023 + 1023)) (omega arith)

  most : (b : ℕ) → 1023 < b → mul binary64 y (power (pos 1023)) ≡ rounded s (q * 2 ^ (k + (b + 1023 + 1023))) 1
  most b h = next y (power (pos 1023)) (k + 1023 + 1023) 1023 y_is (power_up 1023 (omega arith)) ∙ cut (k + 1023 + 1023 + 1023) (k + (b + 1023 + 1023)) (omega arith) (omega arith)

  -- what scaled_up makes of i - 1023, and of i - 1023 - 1023 after a second step
  abbrev last : ℤ → Float
  last m = cond (lt_z (pos 1023) m) (mul binary64 y (power (pos 1023))) (mul binary64 y (power m))

  abbrev pick : ℤ → Float
  pick n = cond (lt_z (pos 1023) n) (last (n -ℤ pos 1023)) (mul binary64 x (power n))

  last_is : (b : ℕ) → last (pos b) ≡ rounded s (q * 2 ^ (k + (b + 1023 + 1023))) 1
  last_is b = elim (order b 1023) [
    | inl h ↦ ap (λ (t : Bool). cond t (mul binary64 y (power (pos 1023))) (mul binary64 y (power (pos b)))) (le-ltb 1023 b h) ∙ two b h
    | inr h ↦ ap (λ (t : Bool). cond t (mul binary64 y (power (pos 1023))) (mul binary64 y (power (pos b)))) (lt-ltb 1023 b h) ∙ most b h
  ]

  pick_is : (a : ℕ) → pick (pos a) ≡ rounded s (q * 2 ^ (k + (a + 1023))) 1
  pick_is a = elim (order a 1023) [
    | inl h ↦ ap (λ (t : Bool). cond t (last (pos a -ℤ pos 1023)) (mul binary64 x (power (pos a)))) (le-ltb 1023 a h) ∙ one a h
    | inr h ↦
        let e : a - 1023 + 1023 ≡ a = omega arith in
        ap (λ (t : Bool). cond t (last (pos a -ℤ pos 1023)) (mul binary64 x (power (pos a)))) (lt-ltb 1023 a h)
        ∙ ap (λ (z : ℕ). last (pos z -ℤ pos 1023)) (sym e)
        ∙ ap last (less (a - 1023))
        ∙ last_is (a - 1023)
        ∙ at (k + (a - 1023 + 1023 + 1023)) (k + (a + 1023)) (omega arith)
  ]

  pub scaled_up_lem : (i : ℕ) → 1023 < i → scaled_up d (pos i) ≡ rounded s (q * 2 ^ (k + i)) 1
  scaled_up_lem i h =
      let e : i - 1023 + 1023 ≡ i = omega arith in
      ap (λ (z : ℕ). pick (pos z -ℤ pos 1023)) (sym e) ∙ ap pick (less (i - 1023)) ∙ pick_is (i - 1023) ∙ at (k + (i - 1023 + 1023)) (k + i) (omega arith)
