-- What ldexp answers, where its first product does not round. Assumes nothing.
use Rattle.std.proofs.Common.{◌≡◌, ℤ}
use lib.Ieee.{Float, nan, inf, fin}
use Rattle.ieee.specs.Meaning.{Number}
use Rattle.erfc.specs.Scaling.{ldexp_of, times_power, FirstExact}
use Rattle.erfc.proofs.Once.{ldexp_once}

pub once : (d : Float) (i : ℤ) → Number d → FirstExact d i → ldexp_of d i ≡ times_power d i
once nan i n h = absurd n.number
once (inf s) i n h = absurd n.number
once (fin s m e) i n h = ldexp_once s m e i n.holds h
