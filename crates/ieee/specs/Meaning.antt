-- What an arithmetic means: how far its answers lie from the exact numbers. Definitions only.
-- A finite f64 x is the whole number val x times 2 ^ -1074. A product of two is a whole number of 2 ^ -2148; sums and answers are brought to that unit by 2 ^ 1074.
-- So each bound stands between whole numbers, both sides multiplied by one power of two.
use Rattle.std.specs.Prelude.{◌≡◌, ◌+◌, ◌*◌, ◌^◌, ◌≤◌, T, ◌⊎◌, ℤ, pos, ◌+ℤ◌, ◌-ℤ◌, ◌*ℤ◌, unsigned_abs, Float}
use Rattle.std.specs.Float.{binary64}
use Rattle.std.specs.Float.Ieee.{fits}
use Rattle.std.specs.Float.Ieee.Scale.{finite}
use Rattle.ieee.specs.Val.{val, rq}

-- a finite f64
pub record Number (x : Float) : Type 0 where
  pub holds : T (fits binary64 x)
  pub number : T (finite x)

-- a finite f64 of at most 2 ^ 400 in size
pub record Operand (x : Float) : Type 0 where
  pub holds : T (fits binary64 x)
  pub number : T (finite x)
  pub small : unsigned_abs (val x) ≤ 2 ^ 1474

-- the whole number z of 2 ^ -1074 is an f64
abbrev pub IsF64 : ℤ → Type 0
IsF64 z = (y : Float) × (Number y × (val y ≡ z))

-- x in units of 2 ^ -2148
abbrev pub fine : ℤ → ℤ
fine x = x *ℤ pos (2 ^ 1074)

-- hi is the f64 nearest to a b, ties to even
abbrev pub NearestProduct : Float → Float → Float → Type 0
NearestProduct a b hi = val hi ≡ rq (val a *ℤ val b) (2 ^ 1074)

-- a b is zero, or at least 2 ^ -900 in size
abbrev pub Settled : Float → Float → Type 0
Settled a b = (val a *ℤ val b ≡ pos 0) ⊎ (2 ^ 1248 ≤ unsigned_abs (val a *ℤ val b))

-- the product of a and b: hi is nearest, and the pair is within 2 ^ -104 |a b| + 2 ^ -1070 of a b. Times 2 ^ 104.
pub record ProductMeans (a b lo hi : Float) : Type 0 where
  pub low : Number lo
  pub high : Number hi
  pub nearest : NearestProduct a b hi
  pub within : 2 ^ 104 * unsigned_abs (fine (val hi +ℤ val lo) -ℤ val a *ℤ val b) ≤ unsigned_abs (val a *ℤ val b) + 2 ^ 108 * 2 ^ 1074

-- pair times pair: hi is nearest to ah bh, and the pair is within |al bl| + 2 ^ -50 (|ah bl| + |al bh|) + 2 ^ -104 |ah bh| + 2 ^ -1070 of the product. Times 2 ^ 104.
pub record PairsMean (al ah bl bh lo hi : Float) : Type 0 where
  pub low : Number lo
  pub high : Number hi
  pub nearest : NearestProduct ah bh hi
  pub within : 2 ^ 104 * unsigned_abs (fine (val hi +ℤ val lo) -ℤ (val ah +ℤ val al) *ℤ (val bh +ℤ val bl))
      ≤ 2 ^ 104 * unsigned_abs (val al *ℤ val bl) + 2 ^ 54 * (unsigned_abs (val ah *ℤ val bl) + unsigned_abs (val al *ℤ val bh)) + unsigned_abs (val ah *ℤ val bh) + 2 ^ 108 * 2 ^ 1074

-- pair times number: hi is nearest to ah b, and the pair is within 2 ^ -50 |al b| + 2 ^ -104 |ah b| + 2 ^ -1070 of the product. Times 2 ^ 104.
pub record NumberMeans (al ah b lo hi : Float) : Type 0 where
  pub low : Number lo
  pub high : Number hi
  pub nearest : NearestProduct ah b hi
  pub within : 2 ^ 104 * unsigned_abs (fine (val hi +ℤ val lo) -ℤ (val ah +ℤ val al) *ℤ val b) ≤ 2 ^ 54 * unsigned_abs (val al *ℤ val b) + unsigned_abs (val ah *ℤ val b) + 2 ^ 108 * 2 ^ 1074

-- multiply-add: within 2 ^ -53 |a b + c| + 2 ^ -103 (|a b| + |c|) + 2 ^ -1070 of a b + c (times 2 ^ 103);
-- and a b + c itself where a b is zero or at least 2 ^ -900 in size and a b + c is an f64
pub record MaddMeans (a b c r : Float) : Type 0 where
  pub answer : Number r
  pub within : 2 ^ 103 * unsigned_abs (fine (val r) -ℤ (val a *ℤ val b +ℤ fine (val c)))
      ≤ 2 ^ 50 * unsigned_abs (val a *ℤ val b +ℤ fine (val c)) + (unsigned_abs (val a *ℤ val b) + unsigned_abs (fine (val c))) + 2 ^ 107 * 2 ^ 1074
  pub exact : Settled a b → (z : ℤ) → IsF64 z → fine z ≡ val a *ℤ val b +ℤ fine (val c) → val r ≡ z
