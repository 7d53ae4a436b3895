-- f64 numbers as exact numbers. Definitions only.
use Rattle.std.specs.Prelude.{ℕ, suc, ◌^◌, ℤ, pos, negsuc, Float}
use Rattle.std.proofs.Common.{pow_pos}
use Rattle.ieee.specs.Val.{val}
use Rattle.bounds.specs.Num.{Q, whole}
use Rattle.bounds.specs.Steps.{Pair}

-- z = above z - below z, one of them zero
abbrev pub above : ℤ → ℕ
above (pos n) = n
above (negsuc n) = 0

abbrev pub below : ℤ → ℕ
below (pos n) = 0
below (negsuc n) = suc n

-- z times 2 ^ -1074
abbrev pub units : ℤ → Q
units z = record { up = above z; dn = below z; den = 2 ^ 1074; ok = pow_pos 1074 }

-- the number that a finite f64 is
abbrev pub exactly : Float → Q
exactly x = units (val x)

abbrev pub pair_of : Float → Float → Pair
pair_of lo hi = record { hi = exactly hi; lo = exactly lo }

-- a number as a pair
abbrev pub single : Float → Pair
single x = record { hi = exactly x; lo = whole 0 }

abbrev pub minus : Q → Q
minus a = record { up = a.dn; dn = a.up; den = a.den; ok = a.ok }
