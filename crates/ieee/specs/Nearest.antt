-- 'Nearest, ties to even' in plain words. Definitions only.
use Rattle.std.specs.Prelude.{◌≡◌, ℕ, suc, ◌*◌, ◌^◌, ◌≤◌, ◌⊎◌, ℤ, pos, ◌-ℤ◌, ◌*ℤ◌, unsigned_abs, Float}
use Rattle.ieee.specs.Val.{val, Mult}
use Rattle.ieee.specs.Pairs.{last}
use Rattle.ieee.specs.Meaning.{Number}

-- how far the f64 y is from z / d units, times d
abbrev pub apart : ℤ → ℕ → Float → ℕ
apart z d y = unsigned_abs (val y *ℤ pos d -ℤ z)

-- the last of the 53 digits of r is even
abbrev pub EvenEnd : Float → Type 0
EvenEnd r = Mult (suc (last r)) (val r)

-- r is the f64 nearest to z / d units of 2 ^ -1074: no f64 is nearer, and where another is as near, r ends in an even digit
pub record Nearest (z : ℤ) (d : ℕ) (r : Float) : Type 0 where
  pub number : Number r
  pub nearest : (y : Float) → Number y → apart z d r ≤ apart z d y
  pub even : (y : Float) → Number y → apart z d r ≡ apart z d y → (val y ≡ val r) ⊎ EvenEnd r

-- r is the whole number nearest to x: at most a half away, and even where it is a half away
pub record NearestWhole (x r : Float) : Type 0 where
  pub n : ℤ
  pub is : val r ≡ n *ℤ pos (2 ^ 1074)
  pub near : 2 * unsigned_abs (val x -ℤ n *ℤ pos (2 ^ 1074)) ≤ 2 ^ 1074
  pub even : 2 * unsigned_abs (val x -ℤ n *ℤ pos (2 ^ 1074)) ≡ 2 ^ 1074 → (h : ℤ) × (n ≡ h *ℤ pos 2)
