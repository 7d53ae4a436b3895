use Rattle.bounds.proofs.AccurateAll.{accurate_exponential}
use Rattle.bounds.proofs.accurate_exponentials_are_near.Goals as goal

pub returns : goal.returns
returns g c = record { accurate = accurate_exponential g.A.Arithmetic.ops g.met.A.Arithmetic.meaning }
