-- A polynomial from below, and the sizes of a pair for it: what is tested, and what it means. Assumes nothing.
use Rattle.std.proofs.Common.{ℕ, ◌+◌, ◌*◌, Bool, false, T, leb, List, [], ◌∷◌, arith, leb→le}
use Rattle.double_double.specs.declared.double_double.DoubleDouble.{DoubleDouble}
use Rattle.bounds.specs.Num.{Q}
use Rattle.bounds.specs.Formulas.{polynomial}
use Rattle.bounds.proofs.Near.{abs_add}
use Rattle.bounds.proofs.Computed.{product_size, size_of}
use Rattle.bounds.proofs.Computed as Comp
use Rattle.bounds.proofs.Scale.{Least, sum_least}
use Rattle.bounds.proofs.Chain.{G, G>0, Abs, mul_g, near_to, abs_to}
use Rattle.bounds.proofs.AtScale.{At}
use Rattle.bounds.proofs.Loop.{State, Holds}
use Rattle.bounds.proofs.Rules.{conj, pick}

-- |polynomial| for |U| ≤ u / G
abbrev size : ℕ → List Q → ℕ
size u [] = 0
size u (a ∷ rest) = Comp.above G G>0 a + mul_g (size u rest) u

size_ok : (U : Q) (u : ℕ) (cs : List Q) → Abs U u → Abs (polynomial U cs) (size u cs)
size_ok U u [] h = record { le = omega arith; ge = omega arith }
size_ok U u (a ∷ rest) h = abs_add (size_of a) (product_size (size_ok U u rest h) h)

-- the constant coefficient less all the rest is at least floor
abbrev least_test : ℕ → ℕ → List Q → Bool
least_test floor u [] = false
least_test floor u (a ∷ rest) = leb (a.dn * G + (floor + mul_g (size u rest) u) * a.den) (a.up * G)

least_ok : (floor : ℕ) (U : Q) (u : ℕ) (cs : List Q) → Abs U u → T (least_test floor u cs) → Least G (polynomial U cs) floor
least_ok floor U u [] h t = absurd t
least_ok floor U u (a ∷ rest) h t = sum_least {k = floor} {n = mul_g (size u rest) u} (record { le = leb→le _ _ t }) (product_size (size_ok U u rest h) h)

-- V are the bounds that were computed, B those that are stated; floor / G bounds the polynomial from below
abbrev fine_tests : State → ℕ → State → ℕ → List Q → List Bool
fine_tests B floor V u cs = leb V.high B.high ∷ leb V.low B.low ∷ leb V.error B.error ∷ leb V.size B.size ∷ least_test floor u cs ∷ []

abbrev pub fine : State → ℕ → State → ℕ → List Q → Bool
fine B floor V u cs = conj (fine_tests B floor V u cs)

pub bounds_hold : (B : State) (floor : ℕ) (V : State) (u : ℕ) (cs : List Q) (z : DoubleDouble) (U : Q) → Holds V z (polynomial U cs) → Abs U u → T (fine B floor V u cs) → At G G>0 z (polynomial U cs) B.high B.low B.error B.size floor
bounds_hold B floor V u cs z U h k t =
    let ts = fine_tests B floor V u cs in
    record {
      lo_number = h.lo_number;
      hi_number = h.hi_number;
      hi = abs_to B.high h.parts.hi (pick 0 ts t);
      lo = abs_to B.low h.parts.lo (pick 1 ts t);
      near = near_to B.error h.near (pick 2 ts t);
      size = abs_to B.size h.size (pick 3 ts t);
      least = least_ok floor U u cs k (pick 4 ts t);
    }
