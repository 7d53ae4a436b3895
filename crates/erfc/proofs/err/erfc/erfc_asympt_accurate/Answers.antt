use Rattle.std.proofs.Common.{◌<◌, arith}
use Rattle.erfc.proofs.Tail.{argument, accurate_whole, accurate_row_of}
use Rattle.erfc.proofs.err.erfc.erfc_asympt_accurate.Goals as goal

pub exp_accurate-exp_result-requires : goal.exp_accurate-exp_result-requires
exp_accurate-exp_result-requires g c =
    accurate_whole g.A.Arithmetic.ops g.met.A.Arithmetic.meaning _ _ _ _ _
    (argument c.args.argument.bits c.args.argument.first c.args.argument.below c.from-x.ensures) c.from_exact_mult-u_dd.ensures c.neg.ensures

pub invariant_of-accurate_polynomial : goal.invariant_of-accurate_polynomial
invariant_of-accurate_polynomial g c =
    let h : c.accurate_row-row.result < 7 =
    accurate_row_of g.A.Arithmetic.ops _ _ _ _ _
    (argument c.args.argument.bits c.args.argument.first c.args.argument.below c.from-x.ensures) c.reciprocal_pair-y.ensures c.accurate_row-row.ensures in
    record { within = omega arith }

pub returns-clause-row_bound : goal.returns-clause-row_bound
returns-clause-row_bound g c =
    accurate_row_of g.A.Arithmetic.ops _ _ _ _ _
    (argument c.args.argument.bits c.args.argument.first c.args.argument.below c.from-x.ensures) c.reciprocal_pair-y.ensures c.accurate_row-row.ensures
