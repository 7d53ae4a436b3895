-- The powers of two that ldexp_of multiplies by: their values. Assumes nothing.
use Rattle.std.proofs.Common.{◌≡◌, ℕ, zero, suc, ◌+◌, ◌-◌, ◌*◌, ◌%◌, ◌^◌, ◌<◌, ◌≤◌, Bool, false, cond, pos, negsuc, nat_abs, sym, refl, ap, ◌∙◌, subst, mul_comm, one-mul, mul-one, arith, pow_pos, pow-add, shl_exact, le-ltb}
use native.Mathlib.Nat.{mul-mod_left, pow-succ'}
use lib.Bits.{or_zero_r}
use lib.Pow.{shl-shr}
use lib.Ieee.{Float, binary64, of_bits, mul}
use lib.Ieee.Exact.{HasValue}
use Rattle.ieee.proofs.Patterns.{Normal, sized, normal_value}
use Rattle.erfc.specs.declared.dyadic_float.DyadicSign.TheVariants.{Pos}
use Rattle.erfc.specs.Scaling.{from_parts, power, step_down, step_up}
use Rattle.erfc.proofs.Rounded.{rescaled}

-- the bits are the field alone
bits_are : (f : ℕ) → f < 2 ^ 12 → from_parts Pos f 0 ≡ of_bits binary64 (f * 2 ^ 52)
bits_are f h = ap (of_bits binary64) (or_zero_r ((f * 2 ^ 52) % 2 ^ 64) ∙ shl_exact 12 52 64 h (omega arith))

normal_field : (x : ℕ) → x < 2046 → Normal (suc x * 2 ^ 52)
normal_field x h = record { x = x; field = shl-shr (suc x) 52; most = h; under = omega arith }

doubled : (p l h x : ℕ) → p * h ≡ 2 * l → 2 * x * l ≡ (p + 0) * x * h
doubled p l h x e = omega (arith, ap (λ (z : ℕ). z * x) e)

field_value : (f : ℕ) → 0 < f → f < 2047 → HasValue (from_parts Pos f 0) false (2 ^ f) (2 ^ 1023)
unfolding normal_field
field_value zero a b = absurd (omega arith)
field_value (suc x) a b =
    let B = of_bits binary64 (suc x * 2 ^ 52) in
    let v : HasValue B false (sized x (suc x * 2 ^ 52 % 2 ^ 52)) (2 ^ 1074) = normal_value (suc x * 2 ^ 52) (normal_field x (omega arith)) in
    let w : HasValue B false (sized x 0) (2 ^ 1074) = subst (λ (t : ℕ). HasValue B false (sized x t) (2 ^ 1074)) (mul-mod_left (suc x) (2 ^ 52)) v in
    subst (λ (z : Float). HasValue z false (2 ^ suc x) (2 ^ 1023)) (sym (bits_are (suc x) (omega arith)))
    (rescaled B false (sized x 0) (2 ^ 1074) (2 ^ suc x) (2 ^ 1023) (pow_pos 1074) w (ap (λ (z : ℕ). z * 2 ^ 1074) (pow-succ' 2 x) ∙ doubled (2 ^ 52) (2 ^ 1074) (2 ^ 1023) (2 ^ x) refl))

-- 2 ^ n for n up to 1023
pub power_up : (n : ℕ) → n ≤ 1023 → HasValue (power (pos n)) false (2 ^ n) 1
power_up n h =
    rescaled (from_parts Pos (1023 + n) 0) false (2 ^ (1023 + n)) (2 ^ 1023) (2 ^ n) 1 (pow_pos 1023) (field_value (1023 + n) (omega arith) (omega arith))
    (mul_comm (2 ^ n) (2 ^ 1023) ∙ sym (pow-add 2 1023 n) ∙ sym (mul-one (2 ^ (1023 + n))))

-- 2 ^ -(n + 1) for n up to 1021
pub power_down : (n : ℕ) → n ≤ 1021 → HasValue (power (negsuc n)) false 1 (2 ^ suc n)
power_down n h =
    subst (λ (b : Bool). HasValue (from_parts Pos (nat_abs (cond b (negsuc (suc n - 1024)) (pos (1023 - suc n)))) 0) false 1 (2 ^ suc n)) (sym (le-ltb 1023 (suc n) (omega arith)))
    (rescaled (from_parts Pos (1023 - suc n) 0) false (2 ^ (1023 - suc n)) (2 ^ 1023) 1 (2 ^ suc n) (pow_pos 1023) (field_value (1023 - suc n) (omega arith) (omega arith))
    (one-mul (2 ^ 1023) ∙ ap (λ (z : ℕ). 2 ^ z) {x = 1023} {y = 1023 - suc n + suc n} (omega arith) ∙ pow-add 2 (1023 - suc n) (suc n)))

-- ---- the steps
pub step_up_lem : HasValue step_up false (2 ^ 1023) 1
step_up_lem = power_up 1023 (omega arith)

pub step_down_lem : HasValue step_down false 1 (2 ^ 970)
unfolding mul of_bits lib.Ieee.size lib.Ieee.span lib.Ieee.climb
step_down_lem = (refl, refl)
