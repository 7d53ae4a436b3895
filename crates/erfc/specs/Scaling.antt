-- A sign, an f64 from its parts, and d times 2 ^ i in the Rust's steps. Definitions only.
use Rattle.std.specs.Prelude.{◌≡◌, ℕ, ◌*◌, ◌%◌, ◌^◌, true, cond, ℤ, pos, negsuc, ◌+ℤ◌, ◌-ℤ◌, bit_or, from_bits, int_lt, unsigned_abs, Float}
use Rattle.std.specs.Float.{nan, inf, fin, binary64}
use Rattle.std.specs.Float.Ieee.{up, down, round, mul}
use Rattle.ieee.specs.Val.{val, Mult}
use Rattle.erfc.specs.declared.dyadic_float.DyadicSign.{DyadicSign}
use Rattle.erfc.specs.declared.dyadic_float.DyadicSign.TheVariants.{Pos, Neg}

abbrev pub sign_bit : DyadicSign → ℕ
sign_bit Pos = 0
sign_bit Neg = 1

-- the bits of the sign, of the exponent's field and of the digits, each put in its place
abbrev pub from_parts : DyadicSign → ℕ → ℕ → Float
from_parts s e m = from_bits binary64 (bit_or (bit_or ((sign_bit s * 2 ^ 63) % 2 ^ 64) ((e * 2 ^ 52) % 2 ^ 64)) m)

-- 2 ^ n for n from -1022 to 1023
abbrev pub power : ℤ → Float
power n = from_parts Pos (unsigned_abs (pos 1023 +ℤ n)) 0

-- 2 ^ -970, as a product of 2 ^ -1022 and 2 ^ 52
abbrev pub step_down : Float
step_down = mul binary64 (from_parts Pos 1 0) (from_parts Pos 1075 0)

-- 2 ^ 1023
abbrev pub step_up : Float
step_up = from_parts Pos 2046 0

-- -1022 and 1023: the least and the largest exponent of a normal number
abbrev pub exp_min : ℤ
exp_min = negsuc 1021

abbrev pub exp_max : ℤ
exp_max = pos 1023

-- d times 2 ^ i for i below -1022: one or two steps down, then one product; at the end i is cut at -1022
abbrev pub scaled_down : Float → ℤ → Float
scaled_down d i =
    let x = mul binary64 d step_down in
    let n = i +ℤ pos 970 in
    let m = n +ℤ pos 970 in
    let y = mul binary64 x step_down in
    cond (int_lt n exp_min) (cond (int_lt m exp_min) (mul binary64 y (power exp_min)) (mul binary64 y (power m))) (mul binary64 x (power n))

-- d times 2 ^ i for i above 1023: one or two steps up, then one product; at the end i is cut at 1023
abbrev pub scaled_up : Float → ℤ → Float
scaled_up d i =
    let x = mul binary64 d step_up in
    let n = i -ℤ exp_max in
    let m = n -ℤ exp_max in
    let y = mul binary64 x step_up in
    cond (int_lt exp_max n) (cond (int_lt exp_max m) (mul binary64 y (power exp_max)) (mul binary64 y (power m))) (mul binary64 x (power n))

-- d times 2 ^ i
unfoldable pub ldexp_of : Float → ℤ → Float
ldexp_of d i = cond (int_lt i exp_min) (scaled_down d i) (cond (int_lt exp_max i) (scaled_up d i) (mul binary64 d (power i)))

-- d times 2 ^ i, rounded once
abbrev pub times_power : Float → ℤ → Float
times_power nan i = nan
times_power (inf s) i = inf s
times_power (fin s m e) i = round binary64 s (m * up e * up i) (down e * down i)

-- the first step down, if there is one, does not round: d is a whole number of 2 ^ -104, which is 2 ^ 970 units
abbrev pub FirstExact : Float → ℤ → Type 0
FirstExact d i = int_lt i exp_min ≡ true → Mult 970 (val d)
