-- The ten accurate polynomials keep one bound, and those of rows 0 to 6 are neither small nor large: two tests over the table. Assumes nothing.
use Rattle.std.proofs.Common.{ℕ, ◌*◌, ◌/◌, ◌^◌, ◌<◌, T, lit≤}
use lib.Ieee.{of_bits}
use Rattle.double_double.specs.declared.double_double.DoubleDouble.{DoubleDouble}
use Rattle.double_double.specs.Ops.{Ops, Meaning}
use Rattle.erfc.specs.Rows.{accurate_thresholds}
use Rattle.erfc.specs.Asymptotics.{accurate_polynomial}
use Rattle.bounds.specs.Num.{Q, Within}
use Rattle.bounds.specs.Formulas.{sum_of, polynomial}
use Rattle.bounds.specs.Polynomials.{NearSquare, accurate_limit, accurate_coefficients}
use Rattle.bounds.proofs.Loop.{State}
use Rattle.bounds.proofs.AtScale.{At}
use Rattle.bounds.proofs.Chain.{G, G>0}
use Rattle.bounds.proofs.Rows.{Rows, below, row_passes, row_fine, row_within, row_bounded}
use Rattle.bounds.proofs.AccuratePoly.{accurate_tests, accurate_bounds, accurate_holds}

abbrev table : Rows
table = record { thresholds = accurate_thresholds; coefficients = accurate_coefficients; bounds = accurate_bounds; tests = accurate_tests }

table_passes : T (below (row_passes table accurate_limit) 10)
unfolding of_bits
table_passes = tt

-- 0.51 and 0.62
abbrev pub floor : ℕ
floor = 51 * 2 ^ 256 / 100

abbrev pub ceiling : ℕ
ceiling = 62 * 2 ^ 256 / 100

-- what is shown of each row below 7: the low part at most 2 ^ -52, the pair within 2 ^ -100 of the polynomial
abbrev pub row_bounds : State
row_bounds = record { high = ceiling; low = 2 ^ 204; error = 2 ^ 156; size = ceiling }

table_fine : T (below (row_fine table row_bounds floor) 7)
unfolding of_bits
table_fine = tt

module _ {S : Type 0} (o : Ops S) (m : Meaning o) where
  pub accurate_polynomial_near : (s : S) (row : ℕ) (u : DoubleDouble) (U : Q) → row < 10 → NearSquare accurate_thresholds row u U → Within (sum_of (accurate_polynomial o s row u).1) (polynomial U (accurate_coefficients row)) accurate_limit
  accurate_polynomial_near = row_within table (accurate_polynomial o) (accurate_holds o m) accurate_limit 10 table_passes

  pub accurate_row_near : (s : S) (row : ℕ) (u : DoubleDouble) (U : Q) → row < 7 → NearSquare accurate_thresholds row u U → At G G>0 (accurate_polynomial o s row u).1 (polynomial U (accurate_coefficients row)) row_bounds.high row_bounds.low row_bounds.error row_bounds.size floor
  accurate_row_near = row_bounded table (accurate_polynomial o) (accurate_holds o m) accurate_limit 10 table_passes row_bounds floor 7 (lit≤ tt) table_fine
