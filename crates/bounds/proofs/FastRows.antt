-- The six fast polynomials keep one bound, and are neither small nor large: two tests over the table. Assumes nothing.
use Rattle.std.proofs.Common.{ℕ, ◌*◌, ◌/◌, ◌^◌, ◌<◌, T, lit≤}
use lib.Ieee.{of_bits}
use Rattle.double_double.specs.declared.double_double.DoubleDouble.{DoubleDouble}
use Rattle.double_double.specs.Ops.{Ops, Meaning}
use Rattle.erfc.specs.Rows.{fast_thresholds}
use Rattle.erfc.specs.Asymptotics.{fast_polynomial}
use Rattle.bounds.specs.Num.{Q, Within}
use Rattle.bounds.specs.Formulas.{sum_of, polynomial, row_coefficients}
use Rattle.bounds.specs.Polynomials.{NearSquare, fast_limit}
use Rattle.bounds.proofs.Loop.{State}
use Rattle.bounds.proofs.AtScale.{At}
use Rattle.bounds.proofs.Chain.{G, G>0}
use Rattle.bounds.proofs.Rows.{Rows, below, row_passes, row_fine, row_within, row_bounded}
use Rattle.bounds.proofs.FastPoly.{fast_tests, fast_bounds, fast_holds}

abbrev table : Rows
table = record { thresholds = fast_thresholds; coefficients = row_coefficients; bounds = fast_bounds; tests = fast_tests }

table_passes : T (below (row_passes table fast_limit) 6)
unfolding of_bits
table_passes = tt

-- 0.52 and 0.61
abbrev pub floor : ℕ
floor = 52 * 2 ^ 256 / 100

abbrev pub ceiling : ℕ
ceiling = 61 * 2 ^ 256 / 100

-- what is shown of each row: the low part at most 2 ^ -48, the pair within 23 / 2 ^ 73 of the polynomial
abbrev pub row_bounds : State
row_bounds = record { high = ceiling; low = 2 ^ 208; error = 23 * 2 ^ 183; size = ceiling }

table_fine : T (below (row_fine table row_bounds floor) 6)
unfolding of_bits
table_fine = tt

module _ {S : Type 0} (o : Ops S) (m : Meaning o) where
  pub polynomial_near : (s : S) (row : ℕ) (u : DoubleDouble) (U : Q) → row < 6 → NearSquare fast_thresholds row u U → Within (sum_of (fast_polynomial o s row u).1) (polynomial U (row_coefficients row)) fast_limit
  polynomial_near = row_within table (fast_polynomial o) (fast_holds o m) fast_limit 6 table_passes

  pub row_near : (s : S) (row : ℕ) (u : DoubleDouble) (U : Q) → row < 6 → NearSquare fast_thresholds row u U → At G G>0 (fast_polynomial o s row u).1 (polynomial U (row_coefficients row)) row_bounds.high row_bounds.low row_bounds.error row_bounds.size floor
  row_near = row_bounded table (fast_polynomial o) (fast_holds o m) fast_limit 6 table_passes row_bounds floor 6 (lit≤ tt) table_fine
