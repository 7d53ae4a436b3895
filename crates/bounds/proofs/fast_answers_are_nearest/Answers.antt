use Rattle.bounds.proofs.Nearest.{fast_nearest}
use Rattle.bounds.proofs.fast_answers_are_nearest.Goals as goal

pub returns : goal.returns
returns g c = record { fast = fast_nearest g.A.Arithmetic.ops g.met.A.Arithmetic.meaning }
