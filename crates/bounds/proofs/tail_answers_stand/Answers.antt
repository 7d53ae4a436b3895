use Rattle.bounds.proofs.TailAnswers.{tail_stands, listed_is}
use Rattle.bounds.proofs.tail_answers_stand.Goals as goal

pub returns : goal.returns
returns g c = record { stands = tail_stands g.A.Arithmetic.ops g.met.A.Arithmetic.meaning; listed = listed_is g.A.Arithmetic.ops }
