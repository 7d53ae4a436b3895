-- The rounding test of a fast answer. Definitions only.
use Rattle.std.specs.Prelude.{Float}
use Rattle.std.specs.Float.{binary64}
use Rattle.std.specs.Float.Ieee.{add, sub}
use Rattle.erfc.specs.declared.err.erf.Erf.{Erf}

-- hi + (lo - err) and hi + (lo + err), rounded
abbrev pub left_end : Erf → Float
left_end e = add binary64 e.result.hi (sub binary64 e.result.lo e.err)

abbrev pub right_end : Erf → Float
right_end e = add binary64 e.result.hi (add binary64 e.result.lo e.err)
