-- What the functions of DoubleDouble answer, as IEEE 754 operations in the order of the steps. Definitions only.
use Rattle.std.specs.Prelude.{ℕ, from_bits, Float}
use Rattle.std.specs.Float.{binary64}
use Rattle.std.specs.Float.Ieee.{add, sub, mul, neg}
use Rattle.double_double.specs.declared.double_double.DoubleDouble.{DoubleDouble}

-- a table entry: the bits of lo, then of hi
abbrev pub bit_pair : ℕ × ℕ → DoubleDouble
bit_pair p = record { lo = from_bits binary64 p.0; hi = from_bits binary64 p.1 }

abbrev pub negated : DoubleDouble → DoubleDouble
negated p = record { lo = neg p.lo; hi = neg p.hi }

-- a + b, three operations
abbrev pub fast_two_sum : Float → Float → DoubleDouble
fast_two_sum a b =
    let h = add binary64 a b in
    record { lo = sub binary64 b (sub binary64 h a); hi = h }

-- a + b, six operations
abbrev pub two_sum : Float → Float → DoubleDouble
two_sum a b =
    let h = add binary64 a b in
    let t = sub binary64 h a in
    record { lo = add binary64 (sub binary64 b t) (sub binary64 a (sub binary64 h t)); hi = h }

-- 2 ^ 27 + 1
abbrev pub splitter : Float
splitter = from_bits binary64 0x41a0000002000000

-- the upper and the lower half of a's digits
abbrev pub veltkamp : Float → DoubleDouble
veltkamp a =
    let t = mul binary64 splitter a in
    let h = add binary64 t (sub binary64 a t) in
    record { lo = sub binary64 a h; hi = h }

-- a b, by the products of halves, given those of a
abbrev pub dekker_from : DoubleDouble → Float → Float → DoubleDouble
dekker_from x a b =
    let y = veltkamp b in
    let h = mul binary64 a b in
    let t1 = sub binary64 (mul binary64 x.hi y.hi) h in
    let t2 = add binary64 (mul binary64 x.hi y.lo) t1 in
    let t3 = add binary64 (mul binary64 x.lo y.hi) t2 in
    record { lo = add binary64 (mul binary64 x.lo y.lo) t3; hi = h }

abbrev pub dekker : Float → Float → DoubleDouble
dekker a b = dekker_from (veltkamp a) a b

-- b + a, for a pair a
abbrev pub number_plus_pair : Float → DoubleDouble → DoubleDouble
number_plus_pair b a =
    let t = fast_two_sum b a.hi in
    record { lo = add binary64 a.lo t.lo; hi = t.hi }

abbrev pub pair_plus_number : DoubleDouble → Float → DoubleDouble
pair_plus_number a b =
    let t = two_sum a.hi b in
    record { lo = add binary64 a.lo t.lo; hi = t.hi }

-- the pair as one number
abbrev pub rounded_sum : DoubleDouble → Float
rounded_sum p = add binary64 p.lo p.hi
