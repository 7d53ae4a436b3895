use Rattle.bounds.proofs.FastExp.{exponential_sized}
use Rattle.bounds.proofs.exponentials_are_near.Goals as goal

pub returns : goal.returns
returns g c = record { fast = λ s t x a. (exponential_sized g.A.Arithmetic.ops g.met.A.Arithmetic.meaning s t x a).fast }
