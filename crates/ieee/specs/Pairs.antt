-- What is said of a pair of f64 that stands for a sum. Assumes nothing.
use Rattle.std.specs.Prelude.{◌≡◌, ℕ, ◌+◌, ◌*◌, ◌^◌, ◌≤◌, false, T, ◌⊎◌, pos, ◌+ℤ◌, ◌-ℤ◌, ◌*ℤ◌, unsigned_abs, Float}
use Rattle.std.specs.Float.{fin, binary64}
use Rattle.std.specs.Float.Ieee.{fits, add, sub, mul}
use Rattle.std.specs.Float.Ieee.Order.{drop}
use Rattle.std.specs.Float.Ieee.Scale.{finite}
use Rattle.ieee.specs.Val.{val, rq, rz, Mult}

-- a finite f64 of magnitude 2 ^ (j - 1074) at most
pub record Small (x : Float) (j : ℕ) : Type 0 where
  pub number : T (finite x)
  pub small : unsigned_abs (val x) ≤ 2 ^ j

-- the same, and it is an f64
pub record Good (x : Float) (j : ℕ) : Type 0 where
  pub holds : T (fits binary64 x)
  pub number : T (finite x)
  pub small : unsigned_abs (val x) ≤ 2 ^ j

-- hi is nearest to a + b, and hi + lo is a + b
pub record SumOf (a b lo hi : Float) : Type 0 where
  pub lo_number : T (finite lo)
  pub hi_number : T (finite hi)
  pub nearest : val hi ≡ rz (val a +ℤ val b)
  pub exact : val hi +ℤ val lo ≡ val a +ℤ val b

-- the place of the last digit of x: 2 ^ last x units
abbrev pub last : Float → ℕ
last x = drop 53 (unsigned_abs (val x)) 1

abbrev pub Leads : Float → Float → Type 0
Leads a b = (val a ≡ pos 0) ⊎ ((unsigned_abs (val b) ≤ unsigned_abs (val a)) ⊎ Mult (last b) (val a))

-- hi is nearest to a b, and hi + lo is a b; a b is in units of 2 ^ -2148
pub record ProductOf (a b lo hi : Float) : Type 0 where
  pub lo_number : T (finite lo)
  pub hi_number : T (finite hi)
  pub nearest : val hi ≡ rq (val a *ℤ val b) (2 ^ 1074)
  pub exact : (val hi +ℤ val lo) *ℤ pos (2 ^ 1074) ≡ val a *ℤ val b

-- a b is 2 ^ -900 at least
abbrev pub Large : Float → Float → Type 0
Large a b = 2 ^ 1248 ≤ unsigned_abs (val a) * unsigned_abs (val b)

-- the two halves of a number, as they are computed
abbrev pub splitter : Float
splitter = fin false 134217729 (pos 0)

abbrev pub s1 : Float → Float
s1 a = mul binary64 splitter a

abbrev pub s2 : Float → Float
s2 a = sub binary64 a (s1 a)

abbrev pub high : Float → Float
high a = add binary64 (s1 a) (s2 a)

abbrev pub low : Float → Float
low a = sub binary64 a (high a)

-- hi is nearest to a b; hi + lo is within 2 ^ -1073 of a b, and is a b where a b is zero or 2 ^ -900 at least
pub record Times (a b lo hi : Float) : Type 0 where
  pub lo_number : T (finite lo)
  pub hi_number : T (finite hi)
  pub nearest : val hi ≡ rq (val a *ℤ val b) (2 ^ 1074)
  pub within : unsigned_abs ((val hi +ℤ val lo) *ℤ pos (2 ^ 1074) -ℤ val a *ℤ val b) ≤ 2 * 2 ^ 1074
  pub exact : (val a *ℤ val b ≡ pos 0) ⊎ Large a b → (val hi +ℤ val lo) *ℤ pos (2 ^ 1074) ≡ val a *ℤ val b

-- hi is nearest to ah bh, and hi + lo is within |al bl| + 2 ^ -50 (|ah bl| + |al bh|) + 2 ^ -104 |ah bh| + 2 ^ -1070 of the product of the pairs. All is in units of 2 ^ -2148, times 2 ^ 104
pub record PairTimes (al ah bl bh lo hi : Float) : Type 0 where
  pub lo_number : T (finite lo)
  pub hi_number : T (finite hi)
  pub nearest : val hi ≡ rq (val ah *ℤ val bh) (2 ^ 1074)
  pub within : 2 ^ 104 * unsigned_abs ((val hi +ℤ val lo) *ℤ pos (2 ^ 1074) -ℤ (val ah +ℤ val al) *ℤ (val bh +ℤ val bl))
      ≤ 2 ^ 104 * unsigned_abs (val al *ℤ val bl) + 2 ^ 54 * (unsigned_abs (val ah *ℤ val bl) + unsigned_abs (val al *ℤ val bh)) + unsigned_abs (val ah *ℤ val bh) + 2 ^ 108 * 2 ^ 1074
