use Rattle.bounds.proofs.RowAndK.{within_bounds}
use Rattle.bounds.proofs.rows_and_multiples_are_within.Goals as goal

pub returns : goal.returns
returns c = within_bounds
