use Rattle.std.proofs.Common.{lit<, rules}
use Rattle.ieee.proofs.Floats.{good, full_add}
use Rattle.double_double.proofs.double_double.DoubleDouble.from_full_exact_add.Goals as goal

pub returns-clause-exact : goal.returns-clause-exact
returns-clause-exact c = λ p q. rw c.two_sum.ensures (full_add _ _ 1974 (good _ _ (search rules) p) (good _ _ (search rules) q) (lit< tt))
