use Rattle.bounds.proofs.RowAndK.{of_x_alone}
use Rattle.bounds.proofs.row_and_k_are_x_alone.Goals as goal

pub returns : goal.returns
returns g c = of_x_alone g.A.Arithmetic.ops g.met.A.Arithmetic.meaning
