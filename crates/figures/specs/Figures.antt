-- Worked figures, each computed from the definitions that the contracts cite. Definitions only.
use Rattle.std.specs.Prelude.{◌≡◌, ℕ, List, [], ◌∷◌, ℤ, negsuc, Ok, Err, Result, from_bits, Float}
use Rattle.std.specs.Float.Ieee.{mul, div, neg}
use Rattle.std.specs.Float.{round_ties_even, binary64}
use Rattle.double_double.specs.declared.double_double.DoubleDouble.{DoubleDouble}
use Rattle.double_double.specs.Pairs.{bit_pair}
use Rattle.double_double.specs.Plain.{plain_product}
use Rattle.double_double.specs.Fused.{fused_product}
use Rattle.erfc.specs.declared.answer.Refusal.{Refusal}
use Rattle.erfc.specs.declared.answer.Refusal.TheVariants.{Positive, Negative}
use Rattle.erfc.specs.declared.classes.Class.{Class}
use Rattle.erfc.specs.declared.classes.Class.TheVariants.{Two, One, FastTail}
use Rattle.erfc.specs.Scaling.{ldexp_of}
use Rattle.erfc.specs.Exponentials.{multiple_int, reduced_indices, accurate_multiple_int}
use Rattle.erfc.specs.Rows.{fast_row, accurate_row}
use Rattle.erfc.specs.Classes.{class_of}

-- P of each entry
abbrev pub Each : {A : Type 0} → (A → Type 0) → List A → Type 0
Each P [] = Unit {0}
Each P (x ∷ xs) = P x × Each P xs

abbrev number : ℕ → Float
number b = from_bits binary64 b

-- 0.5 to 0, 2.5 to 2, -1.5 to -2
abbrev pub roundings : List (ℕ × ℕ)
roundings = (0x3fe0000000000000, 0) ∷ (0x4004000000000000, 0x4000000000000000) ∷ (0xbff8000000000000, 0xc000000000000000) ∷ []

abbrev pub RoundsTo : ℕ × ℕ → Type 0
RoundsTo p = round_ties_even binary64 (number p.0) ≡ number p.1

-- 1.0 by -1,075 is 0, 1.5 is 2 ^ -1074
abbrev pub scalings : List (ℕ × ℤ × ℕ)
scalings = (0x3ff0000000000000, negsuc 1074, 0) ∷ (0x3ff8000000000000, negsuc 1074, 1) ∷ []

abbrev pub ScalesTo : ℕ × ℤ × ℕ → Type 0
ScalesTo p = ldexp_of (number p.0) p.1 ≡ number p.2

-- 2 ^ 27 + 1, whose square is hi 2 ^ 54 + 2 ^ 28 and lo 1
abbrev pub root : Float
root = number 0x41a0000002000000

abbrev pub square : DoubleDouble
square = bit_pair (0x3ff0000000000000, 0x4350000004000000)

-- an argument with its fast row, k, m, i2, i1, and its accurate row and K
pub record Steps : Type 0 where
  pub bits : ℕ
  pub fast : ℕ
  pub k : ℤ
  pub indices : ℤ × ℕ × ℕ
  pub accurate : ℕ
  pub big : ℤ

-- 4 and 8
abbrev pub arguments : List Steps
arguments =
    record { bits = 0x4010000000000000; fast = 3; k = negsuc 94547; indices = (negsuc 23, 58, 44); accurate = 5; big = negsuc 22 } ∷
    record { bits = 0x4020000000000000; fast = 1; k = negsuc 378193; indices = (negsuc 92, 42, 46); accurate = 2; big = negsuc 91 } ∷
    []

pub record StepsAre (s : Steps) : Type 0 where
  pub fast_is : fast_row (div binary64 (number 0x3ff0000000000000) (number s.bits)) ≡ s.fast
  pub k_is : multiple_int (neg (mul binary64 (number s.bits) (number s.bits))) ≡ s.k
  pub indices_are : reduced_indices s.k ≡ s.indices
  pub accurate_is : accurate_row (div binary64 (number 0x3ff0000000000000) (number s.bits)) ≡ s.accurate
  pub big_is : accurate_multiple_int (neg (mul binary64 (number s.bits) (number s.bits))) ≡ s.big

-- both sides of three boundaries
abbrev pub boundaries : List (ℕ × Result Class Refusal)
boundaries =
    (0x3c8c5bf891b4ef6a, Ok One) ∷ (0x3c8c5bf891b4ef6b, Err Positive) ∷
    (0x400713786d9c7c09, Err Positive) ∷ (0x400713786d9c7c0a, Ok FastTail) ∷
    (0xc017744f8f74e94a, Err Negative) ∷ (0xc017744f8f74e94b, Ok Two) ∷ []

abbrev pub ClassIs : ℕ × Result Class Refusal → Type 0
ClassIs p = class_of p.0 ≡ p.1

pub record Figures : Type 0 where
  pub rounds : Each RoundsTo roundings
  pub scales : Each ScalesTo scalings
  pub plain_square : plain_product root root ≡ square
  pub fused_square : fused_product root root ≡ square
  pub steps : Each StepsAre arguments
  pub classes : Each ClassIs boundaries
