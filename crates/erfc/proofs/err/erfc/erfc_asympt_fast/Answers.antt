use Rattle.erfc.proofs.Tail.{argument, fast_whole, fast_row_of}
use Rattle.erfc.proofs.err.erfc.erfc_asympt_fast.Goals as goal

pub exp_1-e-requires : goal.exp_1-e-requires
exp_1-e-requires g c =
    fast_whole g.A.Arithmetic.ops g.met.A.Arithmetic.meaning _ _ _ _ _
    (argument c.args.argument.bits c.args.argument.first c.args.argument.below c.from-x.ensures) c.from_exact_mult-u.ensures c.neg.ensures

pub invariant_of-fast_polynomial : goal.invariant_of-fast_polynomial
invariant_of-fast_polynomial g c =
    record {
      within = fast_row_of g.A.Arithmetic.ops _ _ _ _ _
          (argument c.args.argument.bits c.args.argument.first c.args.argument.below c.from-x.ensures) c.reciprocal_pair-y.ensures c.fast_row-row.ensures;
    }
