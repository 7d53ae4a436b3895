-- What fused arithmetic answers: the steps of the fma branch, with a multiply-add that rounds once in a stated domain. Definitions only.
use Rattle.std.specs.Prelude.{Bool, false, cond, ◌&&◌, ◌||◌, from_bits, Float}
use Rattle.std.specs.Float.Ieee.{mul, neg, lt, le, eq}
use Rattle.std.specs.Float.{float_with_sign, float_mul_add, binary64}
use Rattle.double_double.specs.declared.double_double.DoubleDouble.{DoubleDouble}
use Rattle.double_double.specs.declared.fused.Fused.{Fused}
use Rattle.double_double.specs.Ops.{Ops}
use Rattle.double_double.specs.Plain.{plain_product, plain_multiply_add}

abbrev pub size : Float → Float
size x = float_with_sign false x

abbrev pub zero : Float
zero = from_bits binary64 0

-- 2 ^ 400
abbrev pub most : Float
most = from_bits binary64 0x58f0000000000000

-- 2 ^ -960
abbrev pub least : Float
least = from_bits binary64 0x03f0000000000000

-- 2 ^ -899
abbrev pub ample : Float
ample = from_bits binary64 0x07c0000000000000

-- 2 ^ 480
abbrev pub lift : Float
lift = from_bits binary64 0x5df0000000000000

-- finite, and at most 2 ^ 400 in size
abbrev pub bounded : Float → Bool
bounded x = le (size x) most

-- |a b| is at least 2 ^ -960: by the rounded product, and where that is 2 ^ -960 itself by what it lost
abbrev pub reaches : Float → Float → Bool
reaches a b =
    let p = size (mul binary64 a b) in
    cond (lt least p) (lt least p)
    (cond (eq least p) (le zero (plain_product (mul binary64 (size a) lift) (mul binary64 (size b) lift)).lo) (eq least p))

-- where the multiply-add rounds once: operands bounded, a b and c each zero or at least 2 ^ -960 in size
unfoldable pub fused_domain : Float → Float → Float → Bool
fused_domain a b c = bounded a && bounded b && bounded c && (eq a zero || eq b zero || reaches a b) && (eq c zero || le least (size c))

-- where plain's low part is a b - h exactly, h being a b rounded: operands bounded, h at least 2 ^ -899 in size
abbrev pub low_is_exact : Float → Float → Float → Bool
low_is_exact a b h = bounded a && bounded b && bounded h && le ample (size h)

-- a b + c: IEEE 754's fusedMultiplyAdd in the domain, plain's elsewhere
abbrev pub fused_multiply_add : Float → Float → Float → Float
fused_multiply_add a b c = cond (fused_domain a b c) (float_mul_add binary64 a b c) (plain_multiply_add a b c)

abbrev pub fused_product : Float → Float → DoubleDouble
fused_product a b = let h = mul binary64 a b in record { lo = fused_multiply_add a b (neg h); hi = h }

abbrev pub fused_pair_times_pair : DoubleDouble → DoubleDouble → DoubleDouble
fused_pair_times_pair a b =
    let r = fused_product a.hi b.hi in
    record { lo = fused_multiply_add a.lo b.hi (fused_multiply_add a.hi b.lo r.lo); hi = r.hi }

abbrev pub fused_pair_times_number : DoubleDouble → Float → DoubleDouble
fused_pair_times_number a b =
    let h = mul binary64 b a.hi in
    record { lo = fused_multiply_add b a.lo (fused_multiply_add b a.hi (neg h)); hi = h }

-- it has no state
abbrev pub fused_ops : Ops Fused
fused_ops = record {
  product = λ s a b. (s, fused_product a b);
  pair_times_pair = λ s a b. (s, fused_pair_times_pair a b);
  pair_times_number = λ s a b. (s, fused_pair_times_number a b);
  multiply_add = λ s a b c. (s, fused_multiply_add a b c);
}
