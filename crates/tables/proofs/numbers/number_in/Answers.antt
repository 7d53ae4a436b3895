use Rattle.tables.proofs.Finite.{row_finite}
use Rattle.tables.proofs.numbers.number_in.Goals as goal

pub number_at-requires-clause-finite : goal.number_at-requires-clause-finite
number_at-requires-clause-finite g c = row_finite _ c.args.rows.now c.args.row _ c.requires.row_in c.requires.finite
