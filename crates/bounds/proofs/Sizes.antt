-- From bounds at the scale 2 ^ 256 to what the steps ask of an f64. Assumes nothing.
use Rattle.std.proofs.Common.{ℕ, ◌*◌, ◌^◌, ◌≤◌, T, leb, ℤ, pos, negsuc, nat_abs, refl, le_trans, le_of_mul-le-mul_right, arith, lit<, leb→le}
use lib.Ieee.{Float, binary64, of_bits, mul}
use lib.Ieee.Bits.{of_bits-fits}
use lib.Ieee.Scale.{finite}
use Rattle.ieee.specs.Val.{val}
use Rattle.ieee.specs.Pairs.{Good}
use Rattle.ieee.specs.Meaning.{Number, Operand}
use Rattle.ieee.proofs.Products.{good_times}
use Rattle.ieee.proofs.Highs.{good_operand}
use Rattle.bounds.specs.Floats.{units, exactly}
use Rattle.bounds.proofs.Scale.{in_units}
use Rattle.bounds.proofs.Chain.{G, G>0, Abs}

-- a number of a table
pub known : (bits : ℕ) → T (finite (of_bits binary64 bits)) → Number (of_bits binary64 bits)
known bits t = record { holds = of_bits-fits binary64 bits; number = t }

pub from_units : (z : ℤ) (m : ℕ) → nat_abs z * G ≤ m * 2 ^ 1074 → Abs (units z) m
from_units (pos n) m h = record { le = omega (arith, h); ge = omega arith }
from_units (negsuc n) m h = record { le = omega arith; ge = omega (arith, h) }

pub good_number : {x : Float} {j : ℕ} → Good x j → Number x
good_number g = record { holds = g.holds; number = g.number }

pub units_below : (z : ℤ) {m : ℕ} → Abs (units z) m → (n : ℕ) → T (leb (m * 2 ^ 1074) (n * G)) → nat_abs z ≤ n
units_below z {m} h n t = le_of_mul-le-mul_right (le_trans (in_units z h) (leb→le (m * 2 ^ 1074) (n * G) t)) G>0

pub sized_good : (x : Float) {m : ℕ} → Number x → Abs (exactly x) m → (j : ℕ) → T (leb (m * 2 ^ 1074) (2 ^ j * G)) → Good x j
sized_good x n h j t = record { holds = n.holds; number = n.number; small = units_below (val x) h (2 ^ j) t }

pub sized_operand : (x : Float) {m : ℕ} → Number x → Abs (exactly x) m → T (leb (m * 2 ^ 1074) (2 ^ 1474 * G)) → Operand x
sized_operand x {m} n h t = let g = sized_good x n h 1474 t in record { holds = g.holds; number = g.number; small = g.small }

-- 1
abbrev pub one : Float
one = of_bits binary64 0x3ff0000000000000

-- the product of two operands is finite
pub product_good : (x y : Float) → Operand x → Operand y → Number (mul binary64 x y)
product_good x y p q =
    let g = (good_times x y 1474 1474 1874 (good_operand x p) (good_operand y q) refl (lit< tt)).0 in
    good_number g
