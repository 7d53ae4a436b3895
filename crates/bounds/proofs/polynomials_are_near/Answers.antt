use Rattle.bounds.proofs.FastRows.{polynomial_near}
use Rattle.bounds.proofs.AccurateRows.{accurate_polynomial_near}
use Rattle.bounds.proofs.polynomials_are_near.Goals as goal

pub returns : goal.returns
returns g c = record {
  fast = polynomial_near g.A.Arithmetic.ops g.met.A.Arithmetic.meaning;
  accurate = accurate_polynomial_near g.A.Arithmetic.ops g.met.A.Arithmetic.meaning;
}
