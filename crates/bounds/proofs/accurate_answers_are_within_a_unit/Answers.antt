use Rattle.bounds.proofs.AccurateAnswers.{accurate_measured}
use Rattle.bounds.proofs.accurate_answers_are_within_a_unit.Goals as goal

pub returns : goal.returns
returns g c = record { measured = accurate_measured g.A.Arithmetic.ops g.met.A.Arithmetic.meaning }
