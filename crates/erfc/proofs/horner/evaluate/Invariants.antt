use Rattle.std.proofs.Common.{◌≡◌}
use Rattle.erfc.specs.Horner.{horner}
use Rattle.erfc.proofs.horner.evaluate.Given as goal

abbrev pub invariant-loop-n : goal.invariant-loop-n
invariant-loop-n g l =
    horner g.A.Arithmetic.ops (g.T.Terms.adds l.terms) l.u l.n l.arith l.z_dd
    ≡ horner g.A.Arithmetic.ops (g.T.Terms.adds l.terms) l.u l.turns l.initial.arith l.initial.z_dd
