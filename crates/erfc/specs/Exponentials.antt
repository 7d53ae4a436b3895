-- exp_1 and exp_accurate with their parts, in the Rust's steps over any arithmetic. Definitions only.
use Rattle.std.specs.Prelude.{ℕ, ◌-◌, ◌/◌, ◌%◌, ℤ, pos, negsuc, neg_ℤ, from_bits, Float}
use Rattle.std.specs.Float.Ieee.{add, sub, mul, of_int, to_signed}
use Rattle.std.specs.Float.{round_ties_even, binary64}
use Rattle.double_double.specs.declared.double_double.DoubleDouble.{DoubleDouble}
use Rattle.double_double.specs.Pairs.{bit_pair, fast_two_sum, two_sum, number_plus_pair, rounded_sum}
use Rattle.double_double.specs.Ops.{Ops}
use Rattle.tables.specs.Erfc.{exp_number}
use Rattle.tables.specs.Exp.{reduce0, reduce1}
use Rattle.erfc.specs.Scaling.{power}
use Rattle.erfc.specs.Horner.{plus, single_term, double_term, horner}

-- ---- constants

-- 4096 / log 2
abbrev pub inv_log2 : Float
inv_log2 = from_bits binary64 0x40b71547652b82fe

-- log 2 / 4096
abbrev pub log2_pair : DoubleDouble
log2_pair = bit_pair (0x3bbabc9e3b39803f, 0x3f262e42fefa39ef)

-- 1 / log 2
abbrev pub log2_inv : Float
log2_inv = from_bits binary64 0x3ff71547652b82fe

-- log 2 in three parts
abbrev pub log2_high : Float
log2_high = from_bits binary64 0x3fe62e42fefa39ef

abbrev pub log2_low : Float
log2_low = from_bits binary64 0x3c7abc9e3b398000

abbrev pub log2_tiny : Float
log2_tiny = from_bits binary64 0x398f97b57a079a19

-- ---- the fast exponential

-- x over log 2 / 4096, rounded to a whole number, as a float and as an integer
abbrev pub multiple : Float → Float
multiple x = round_ties_even binary64 (mul binary64 x inv_log2)

abbrev pub multiple_int : Float → ℤ
multiple_int x = to_signed 63 (multiple x)

-- k over 2 ^ j, rounded down
abbrev pub floor_div : ℤ → ℕ → ℤ
floor_div (pos n) d = pos (n / d)
floor_div (negsuc n) d = negsuc (n / d)

-- what that leaves
abbrev pub floor_mod : ℤ → ℕ → ℕ
floor_mod (pos n) d = n % d
floor_mod (negsuc n) d = d - 1 - n % d

-- k = 4096 m + 64 i2 + i1
abbrev pub reduced_indices : ℤ → ℤ × ℕ × ℕ
reduced_indices k = (floor_div k 4096, floor_mod (floor_div k 64) 64, floor_mod k 64)

module _ {S : Type 0} (o : Ops S) where
  -- a polynomial for exp of a small z
  unfoldable pub q1 : S → DoubleDouble → S × DoubleDouble
  q1 s z =
      let x = rounded_sum z in
      let p = o.multiply_add s (from_bits binary64 0x3fa55555558489dc) z.hi (from_bits binary64 0x3fc5555555995d37) in
      let q = o.multiply_add p.0 p.1 x (from_bits binary64 0x3fe0000000000000) in
      let v = o.pair_times_pair q.0 z (fast_two_sum (from_bits binary64 0x3ff0000000000000) (mul binary64 q.1 x)) in
      (v.0, number_plus_pair (from_bits binary64 0x3ff0000000000000) v.1)

  -- what is left of x after k multiples of log 2 / 4096
  abbrev pub reduced_argument : S → Float → DoubleDouble → S × DoubleDouble
  reduced_argument s k x =
      let d = o.pair_times_number s log2_pair k in
      let y = fast_two_sum (sub binary64 x.hi d.1.hi) x.lo in
      (d.0, record { lo = sub binary64 y.lo d.1.lo; hi = y.hi })

  -- exp of x
  unfoldable pub exp1 : S → DoubleDouble → S × DoubleDouble
  exp1 s x =
      let k = multiple x.hi in
      let r = reduced_indices (to_signed 63 k) in
      let y = reduced_argument s k x in
      let t = o.pair_times_pair y.0 (reduce1 r.2) (reduce0 r.1) in
      let q = q1 t.0 y.1 in
      let v = o.pair_times_pair q.0 t.1 q.1 in
      (v.0, record { lo = mul binary64 v.1.lo (power r.0); hi = mul binary64 v.1.hi (power r.0) })

-- ---- the accurate exponential

-- x over log 2, rounded to a whole number, as a float and as an integer
abbrev pub accurate_multiple : Float → Float
accurate_multiple x = round_ties_even binary64 (mul binary64 x log2_inv)

abbrev pub accurate_multiple_int : Float → ℤ
accurate_multiple_int x = to_signed 31 (accurate_multiple x)

-- a turn adds one number in the upper degrees, two in the lower ones
abbrev pub upper_term : ℕ → DoubleDouble → DoubleDouble
upper_term = single_term fast_two_sum exp_number 16

abbrev pub lower_term : ℕ → DoubleDouble → DoubleDouble
lower_term = double_term fast_two_sum exp_number

module _ {S : Type 0} (o : Ops S) where
  -- what is left of x after k multiples of log 2; j is -k
  unfoldable pub accurate_argument : S → Float → DoubleDouble → S × DoubleDouble
  accurate_argument s j x =
      let h = o.multiply_add s j log2_high x.hi in
      let t = two_sum (mul binary64 j log2_low) x.lo in
      let y = fast_two_sum h.1 t.hi in
      let l = o.multiply_add h.0 j log2_tiny (add binary64 y.lo t.lo) in
      (l.0, record { lo = l.1; hi = y.hi })

  -- degrees 19 to 16 as one number, 15 as a pair
  unfoldable pub leading_degrees : S → DoubleDouble → S × DoubleDouble
  leading_degrees s y =
      let a = o.multiply_add s (exp_number 27) y.hi (exp_number 26) in
      let b = o.multiply_add a.0 a.1 y.hi (exp_number 25) in
      let c = o.multiply_add b.0 b.1 y.hi (exp_number 24) in
      let t = o.product c.0 c.1 y.hi in
      let l = o.multiply_add t.0 c.1 y.lo t.1.lo in
      (l.0, plus fast_two_sum (exp_number 23) (record { lo = l.1; hi = t.1.hi }))

  -- exp of x over 2 ^ k, for the multiple k
  unfoldable pub exp_accurate : S → DoubleDouble → S × DoubleDouble
  exp_accurate s x =
      let y = accurate_argument s (of_int binary64 (neg_ℤ (accurate_multiple_int x.hi))) x in
      let v = leading_degrees y.0 y.1 in
      let w = horner o upper_term y.1 7 v.0 v.1 in
      horner o lower_term y.1 8 w.0 w.1
