-- The toolchain's rounding in plain words. Definitions only.
use Rattle.std.specs.Prelude.{◌≡◌, ℕ, ◌*◌, ◌^◌, ◌<◌, Bool, T, ℤ, Float}
use Rattle.std.specs.Float.{binary64}
use Rattle.std.specs.Float.Ieee.{round}
use Rattle.std.specs.Float.Ieee.Scale.{finite}
use Rattle.ieee.specs.Val.{val, signed}
use Rattle.ieee.specs.Nearest.{Nearest}

-- what `round` gives of num / den is the nearest f64, ties to even, wherever it is finite; and only one number is nearest
pub record RoundIsNearest : Type 0 where
  pub is : (s : Bool) (num den : ℕ) → 0 < den → T (finite (round binary64 s num den)) → Nearest (signed s (num * 2 ^ 1074)) den (round binary64 s num den)
  pub one : (z : ℤ) (d : ℕ) (r t : Float) → 0 < d → Nearest z d r → Nearest z d t → val r ≡ val t
