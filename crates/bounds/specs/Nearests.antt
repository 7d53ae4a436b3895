-- The f64 nearest to a number. Definitions only.
use Rattle.std.specs.Prelude.{◌^◌, pos, ◌-ℤ◌, ◌*ℤ◌, Float}
use Rattle.ieee.specs.Nearest.{Nearest}
use Rattle.bounds.specs.Num.{Q}

-- v is the f64 nearest to a, ties to even; a is (up - dn) 2 ^ 1074 / den units of 2 ^ -1074
abbrev pub NearestTo : Q → Float → Type 0
NearestTo a v = Nearest ((pos a.up -ℤ pos a.dn) *ℤ pos (2 ^ 1074)) a.den v
