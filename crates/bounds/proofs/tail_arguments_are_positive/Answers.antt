use Rattle.bounds.proofs.WholeReciprocal.{tail_positive}
use Rattle.bounds.proofs.tail_arguments_are_positive.Goals as goal

pub returns : goal.returns
returns c = record { positive = tail_positive }
