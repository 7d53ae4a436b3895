use Rattle.std.proofs.Common.{◌∙◌, arith}
use Rattle.erfc.proofs.Turns.{turn}
use Rattle.erfc.proofs.horner.evaluate.Goals as goal

pub loop-n-preserved : goal.loop-n-preserved
loop-n-preserved g c =
    turn g.A.Arithmetic.ops (g.T.Terms.adds c.args.terms.now) c.args.u c.loop-n.n _ _ _ _ _ (omega arith) c.quick_mult-v.ensures c.add-z_dd.ensures ∙ c.loop-n.invariant
