-- Rounding to a whole number by a shift of the digits. Definitions only.
use Rattle.std.specs.Prelude.{from_bits, Float}
use Rattle.std.specs.Float.{binary64}
use Rattle.std.specs.Float.Ieee.{add, sub}

-- 2 ^ 52 + 2 ^ 51: the unit of the last digit is 1 around it
abbrev pub shift : Float
shift = from_bits binary64 0x4338000000000000

abbrev pub shifted : Float → Float
shifted x = sub binary64 (add binary64 x shift) shift
