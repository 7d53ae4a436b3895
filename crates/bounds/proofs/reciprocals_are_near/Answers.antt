use Rattle.bounds.proofs.RecipPair.{reciprocal_near, reciprocal_square_near}
use Rattle.bounds.proofs.OfX.{fast_square, accurate_square}
use Rattle.bounds.proofs.reciprocals_are_near.Goals as goal

pub returns : goal.returns
returns g c = record {
  reciprocals = reciprocal_near g.A.Arithmetic.ops g.met.A.Arithmetic.meaning;
  squares = reciprocal_square_near g.A.Arithmetic.ops g.met.A.Arithmetic.meaning;
  fast = fast_square g.A.Arithmetic.ops g.met.A.Arithmetic.meaning;
  accurate = accurate_square g.A.Arithmetic.ops g.met.A.Arithmetic.meaning;
}
