-- Where fused arithmetic's multiply-add rounds once, over whole numbers. Definitions only.
use Rattle.std.specs.Prelude.{◌≡◌, ◌^◌, ◌≤◌, ◌⊎◌, pos, ◌*ℤ◌, unsigned_abs, Float}
use Rattle.ieee.specs.Val.{val}
use Rattle.ieee.specs.Meaning.{Operand}

-- finite operands of at most 2 ^ 400 in size; a b zero or at least 2 ^ -960 in size, and c zero or at least 2 ^ -960 in size
pub record Domain (a b c : Float) : Type 0 where
  pub first : Operand a
  pub second : Operand b
  pub third : Operand c
  pub product : (val a *ℤ val b ≡ pos 0) ⊎ (2 ^ 1188 ≤ unsigned_abs (val a *ℤ val b))
  pub addend : (val c ≡ pos 0) ⊎ (2 ^ 114 ≤ unsigned_abs (val c))
