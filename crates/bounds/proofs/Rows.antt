-- The polynomials of a table, one for each row: a test that holds of every row, and what it means. Assumes nothing.
use Rattle.std.proofs.Common.{◌≡◌, ℕ, zero, suc, ◌+◌, ◌*◌, ◌<◌, ◌≤◌, Bool, true, ◌&&◌, T, leb, List, subst, lt_of_lt_of_le, arith, leb→le}
use native.Mathlib.Decide.{dec_le}
use Rattle.double_double.specs.declared.double_double.DoubleDouble.{DoubleDouble}
use Rattle.bounds.specs.Num.{Q, Within}
use Rattle.bounds.specs.Formulas.{sum_of, polynomial}
use Rattle.bounds.specs.Polynomials.{square_bound, NearSquare}
use Rattle.bounds.proofs.Computed.{size_of}
use Rattle.bounds.proofs.Near as N
use Rattle.bounds.proofs.Computed as Comp
use Rattle.bounds.proofs.Scale.{near_within}
use Rattle.bounds.proofs.Chain.{G, G>0, Near, shr}
use Rattle.bounds.proofs.Loop.{State, Holds}
use Rattle.bounds.proofs.AtScale.{At, sum_near, low_size, high_size}
use Rattle.bounds.proofs.Rules.{conj}
use Rattle.bounds.proofs.FromBelow.{fine, bounds_hold}

abbrev pub below : (ℕ → Bool) → ℕ → Bool
below test zero = true
below test (suc n) = test n && below test n

pub at_row : (test : ℕ → Bool) (n row : ℕ) → row < n → T (below test n) → T (test row)
at_row test zero row h t = absurd (omega (arith, h))
at_row test (suc n) row h t = go (dec_le n row) (λ l. at_row test n row l (Comp.and_r (test n) (below test n) t))
  where
    go : Dec (n ≤ row) → (row < n → T (test row)) → T (test row)
    go (yes l) f = let e : n ≡ row = omega (arith, h, l) in subst (λ (r : ℕ). T (test r)) e (Comp.and_l (test n) (below test n) t)
    go (no l) f = f (omega (arith, l))

-- an error of e / G is at most r
abbrev pub within_limit : Q → ℕ → Bool
within_limit r e = leb (r.dn * G + e * r.den) (r.up * G)

pub limited : {a b : Q} (r : Q) (e : ℕ) → Near a b e → T (within_limit r e) → Within a b r
limited r e h t = near_within {e = e} h (record { le = leb→le _ _ t })

-- the bounds of u
module _ (thresholds : List ℕ) where
  abbrev pub square : ℕ → ℕ
  square row = Comp.above G G>0 (square_bound thresholds row)

  abbrev pub argument : ℕ → State
  argument row = record { high = square row + (shr (square row) 51 + shr (square row) 98); low = shr (square row) 51; error = shr (square row) 98; size = square row }

  pub holds_argument : (row : ℕ) (u : DoubleDouble) (U : Q) → NearSquare thresholds row u U → Holds (argument row) u U
  holds_argument row u U g =
      let size = Comp.zero_abs (N.within_near g.size (size_of (square_bound thresholds row))) in
      record { lo_number = g.low; hi_number = g.high; parts = record { hi = high_size u 98 51 g.near g.low_small size; lo = low_size u 98 51 g.near g.low_small size }; near = sum_near u 98 51 g.near g.low_small size; size = size }

-- ---- the polynomials of a table: bounds, and tests of them, for u with given bounds
pub record Rows : Type 0 where
  pub thresholds : List ℕ
  pub coefficients : ℕ → List Q
  pub bounds : ℕ → State → State
  pub tests : ℕ → State → List Bool

module _ (R : Rows) where
  abbrev pub bounds_out : ℕ → State
  bounds_out row = R.bounds row (argument R.thresholds row)

  abbrev tested : ℕ → Bool
  tested row = conj (R.tests row (argument R.thresholds row))

  -- the tests, and an error of at most r
  abbrev pub row_passes : Q → ℕ → Bool
  row_passes r row = tested row && within_limit r (bounds_out row).error

  -- the bounds B, and a polynomial of at least floor
  abbrev pub row_fine : State → ℕ → ℕ → Bool
  row_fine B floor row = fine B floor (bounds_out row) (square R.thresholds row) (R.coefficients row)

  module _ {S : Type 0} (steps : S → ℕ → DoubleDouble → S × DoubleDouble)
      (sound : (s : S) (row : ℕ) (A : State) (u : DoubleDouble) (U : Q) → Holds A u U → T (conj (R.tests row A)) → Holds (R.bounds row A) (steps s row u).1 (polynomial U (R.coefficients row)))
      (r : Q) (rows : ℕ) (pass : T (below (row_passes r) rows)) where
    pub row_holds : (s : S) (row : ℕ) (u : DoubleDouble) (U : Q) → row < rows → NearSquare R.thresholds row u U → Holds (bounds_out row) (steps s row u).1 (polynomial U (R.coefficients row))
    row_holds s row u U l g = sound s row (argument R.thresholds row) u U (holds_argument R.thresholds row u U g) (Comp.and_l (tested row) (within_limit r (bounds_out row).error) (at_row (row_passes r) rows row l pass))

    pub row_within : (s : S) (row : ℕ) (u : DoubleDouble) (U : Q) → row < rows → NearSquare R.thresholds row u U → Within (sum_of (steps s row u).1) (polynomial U (R.coefficients row)) r
    row_within s row u U l g = limited r (bounds_out row).error (row_holds s row u U l g).near (Comp.and_r (tested row) (within_limit r (bounds_out row).error) (at_row (row_passes r) rows row l pass))

    pub row_bounded : (B : State) (floor n : ℕ) → n ≤ rows → T (below (row_fine B floor) n)
        → (s : S) (row : ℕ) (u : DoubleDouble) (U : Q) → row < n → NearSquare R.thresholds row u U → At G G>0 (steps s row u).1 (polynomial U (R.coefficients row)) B.high B.low B.error B.size floor
    row_bounded B floor n i t s row u U l g =
        bounds_hold B floor (bounds_out row) (square R.thresholds row) (R.coefficients row) (steps s row u).1 U
        (row_holds s row u U (lt_of_lt_of_le l i) g) (holds_argument R.thresholds row u U g).size (at_row (row_fine B floor) n row l t)
