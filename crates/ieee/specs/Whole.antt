-- A float that is a negative whole number within bounds. Definitions only.
use Rattle.std.specs.Prelude.{◌≡◌, ℕ, suc, ◌≤◌, negsuc, Float}
use Rattle.std.specs.Float.{binary64}
use Rattle.std.specs.Float.Ieee.{of_int}

-- x is the whole number -(n + 1), of a size from low to high
pub record Whole (x : Float) (low high : ℕ) : Type 0 where
  pub n : ℕ
  pub is : x ≡ of_int binary64 (negsuc n)
  pub least : low ≤ suc n
  pub most : suc n ≤ high
