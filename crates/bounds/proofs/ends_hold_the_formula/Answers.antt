use Rattle.bounds.proofs.FastAll.{fast_near, fast_bracketed}
use Rattle.bounds.proofs.ends_hold_the_formula.Goals as goal

pub returns : goal.returns
returns g c = record {
  near = fast_near g.A.Arithmetic.ops g.met.A.Arithmetic.meaning;
  bracketed = fast_bracketed g.A.Arithmetic.ops g.met.A.Arithmetic.meaning;
}
