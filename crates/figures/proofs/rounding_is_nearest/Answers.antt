use Rattle.ieee.proofs.PlainWords.{round_nearest, nearest_one}
use Rattle.figures.proofs.rounding_is_nearest.Goals as goal

pub returns : goal.returns
returns c = record { is = round_nearest; one = nearest_one }
