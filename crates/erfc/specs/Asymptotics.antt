-- The fast and the accurate step of the tail, in the Rust's steps over any arithmetic. Definitions only.
use Rattle.std.specs.Prelude.{ℕ, ◌+◌, cond, ℤ, neg_ℤ, from_bits, Float}
use Rattle.std.specs.Float.{binary64}
use Rattle.std.specs.Float.Ieee.{add, sub, mul, div, neg, lt, le}
use Rattle.double_double.specs.declared.double_double.DoubleDouble.{DoubleDouble}
use Rattle.double_double.specs.Pairs.{fast_two_sum, two_sum, rounded_sum, negated}
use Rattle.double_double.specs.Ops.{Ops}
use Rattle.tables.specs.Erfc.{fast_number, accurate_number}
use Rattle.erfc.specs.declared.answer.FastPart.{FastPart}
use Rattle.erfc.specs.declared.answer.AccuratePart.{AccuratePart}
use Rattle.erfc.specs.Scaling.{ldexp_of}
use Rattle.erfc.specs.Horner.{plus, plus_both, single_term, double_term, horner}
use Rattle.erfc.specs.Exponentials.{multiple_int, accurate_multiple_int, exp1, exp_accurate}
use Rattle.erfc.specs.Rows.{fast_row, accurate_row}

abbrev pub one : Float
one = from_bits binary64 0x3ff0000000000000

abbrev pub two : Float
two = from_bits binary64 0x4000000000000000

-- 2 ^ -1022
abbrev pub min_normal : Float
min_normal = from_bits binary64 0x0010000000000000

module _ {S : Type 0} (o : Ops S) where
  -- 1/x as a pair, by one step of Newton
  unfoldable pub reciprocal : S → Float → S × DoubleDouble
  reciprocal s x =
      let y = div binary64 one x in
      let r = o.multiply_add s (neg x) y one in
      (r.0, record { lo = mul binary64 y r.1; hi = y })

  -- its square, without the square of the low part
  unfoldable pub squared : S → DoubleDouble → S × DoubleDouble
  squared s y =
      let u = o.product s y.hi y.hi in
      let l = o.multiply_add u.0 (mul binary64 two y.hi) y.lo u.1.lo in
      (l.0, record { lo = l.1; hi = u.1.hi })

-- ---- the fast step

-- turn n adds number n + 2 of the row
abbrev pub fast_term : ℕ → ℕ → DoubleDouble → DoubleDouble
fast_term row = single_term fast_two_sum (fast_number row) 2

-- the bound of the error: 0x1.d9p-68 hi, and 2 ^ -1022 where that would be subnormal
abbrev pub fast_err : Float → Float
fast_err h = cond (le (from_bits binary64 0x044151b9a3fdd5c9) h) (mul binary64 (from_bits binary64 0x3bbd900000000000) h) min_normal

module _ {S : Type 0} (o : Ops S) where
  -- the row's polynomial at u: three numbers by multiply-adds, the rest as pairs
  unfoldable pub fast_polynomial : S → ℕ → DoubleDouble → S × DoubleDouble
  fast_polynomial s row u =
      let a = o.multiply_add s (fast_number row 12) u.hi (fast_number row 11) in
      let b = o.multiply_add a.0 a.1 u.hi (fast_number row 10) in
      let v = o.pair_times_number b.0 u b.1 in
      let w = horner o (fast_term row) u 7 v.0 (plus fast_two_sum (fast_number row 9) v.1) in
      let t = o.pair_times_pair w.0 w.1 u in
      (t.0, plus_both fast_two_sum (fast_number row 0) (fast_number row 1) t.1)

  -- exp(-x²) times 1/x times the polynomial at 1/x²
  unfoldable pub fast_step : S → Float → S × FastPart
  fast_step s x =
      let u = o.product s x x in
      let e = exp1 o u.0 (negated u.1) in
      let y = reciprocal o e.0 x in
      let q = squared o y.0 y.1 in
      let z = fast_polynomial q.0 (fast_row y.1.hi) q.1 in
      let r = o.pair_times_pair z.0 z.1 y.1 in
      let v = o.pair_times_pair r.0 r.1 e.1 in
      (v.0, record { row = fast_row y.1.hi; k = multiple_int (neg u.1.hi); erf = record { result = v.1; err = fast_err v.1.hi } })

-- ---- the accurate step

abbrev pub accurate_upper_term : ℕ → ℕ → DoubleDouble → DoubleDouble
accurate_upper_term row = single_term two_sum (accurate_number row) 12

abbrev pub accurate_lower_term : ℕ → ℕ → DoubleDouble → DoubleDouble
accurate_lower_term row = double_term two_sum (accurate_number row)

-- v times 2 ^ k as one number; below 2 ^ -1022 the rounding is done again from what it lost
unfoldable pub scaled_value : DoubleDouble → ℤ → Float
scaled_value v k =
    let r = ldexp_of (rounded_sum v) k in
    cond (lt r min_normal) (add binary64 r (ldexp_of (add binary64 (sub binary64 v.hi (ldexp_of r (neg_ℤ k))) v.lo) k)) r

module _ {S : Type 0} (o : Ops S) where
  -- the row's polynomial at u: 9 + row single numbers, then six of two
  unfoldable pub accurate_polynomial : S → ℕ → DoubleDouble → S × DoubleDouble
  accurate_polynomial s row u =
      let w = horner o (accurate_upper_term row) u (row + 8) s (record { lo = from_bits binary64 0; hi = accurate_number row (row + 20) }) in
      horner o (accurate_lower_term row) u 6 w.0 w.1

  -- the pair before scaling
  unfoldable pub accurate_step : S → Float → S × AccuratePart
  accurate_step s x =
      let u = o.product s x x in
      let e = exp_accurate o u.0 (negated u.1) in
      let y = reciprocal o e.0 x in
      let q = squared o y.0 y.1 in
      let z = accurate_polynomial q.0 (accurate_row y.1.hi) q.1 in
      let r = o.pair_times_pair z.0 z.1 y.1 in
      let v = o.pair_times_pair r.0 (fast_two_sum r.1.hi r.1.lo) e.1 in
      (v.0, record { row = accurate_row y.1.hi; k = accurate_multiple_int (neg u.1.hi); pair = v.1 })
