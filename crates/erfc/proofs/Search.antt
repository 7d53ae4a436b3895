-- The search of the first threshold that is at least y. Assumes nothing.
use Rattle.std.proofs.Common.{◌≡◌, ℕ, zero, suc, ◌+◌, ◌<◌, ◌≤◌, Bool, true, false, cond, List, [], ◌∷◌, length, get_or, ap, le_of_suc-le-suc, not-suc-le-zero, arith}
use lib.Ieee.{Float, binary64, of_bits, lt}
use Rattle.erfc.specs.Rows.{first_not_below}

-- a threshold that y does not pass bounds the row
pub row_within : (ts : List ℕ) (y : Float) (i : ℕ) → i < length ts → lt (of_bits binary64 (get_or ts i 0)) y ≡ false → first_not_below ts y ≤ i
row_within [] y i h t = absurd (not-suc-le-zero h)
row_within (x ∷ ts) y zero h t = let e = ap (λ b. cond b (1 + first_not_below ts y) 0) t in omega (arith, e)
row_within (x ∷ ts) y (suc i) h t = by (lt (of_bits binary64 x) y) (row_within ts y i (le_of_suc-le-suc h) t)
  where
    by : (b : Bool) → first_not_below ts y ≤ i → cond b (1 + first_not_below ts y) 0 ≤ suc i
    by true p = omega arith
    by false p = omega arith
