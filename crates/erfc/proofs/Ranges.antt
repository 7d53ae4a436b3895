-- What the bits of a tail argument say of the multiples of log 2 and of 1/x. Assumes nothing.
use Rattle.std.proofs.Common.{◌≡◌, ℕ, suc, ◌+◌, ◌*◌, ◌/◌, ◌%◌, ◌^◌, ◌<◌, ◌≤◌, false, T, nat_abs, ap, le_trans, le_of_eq, mul-le-mul, arith, lit<, lit≤, pow_mono}
use lib.Ieee.{Float, binary64, of_bits, mul, div, neg, le, lt}
use lib.Ieee.Bits.{of_bits-fits}
use lib.Ieee.Positive.{positive, between, mul_mono}
use Rattle.std.specs.Float.{round_ties_even}
use Rattle.std.proofs.lemmas.Nat.{mod_below}
use Rattle.ieee.specs.Whole.{Whole}
use Rattle.ieee.specs.Meaning.{Operand}
use Rattle.ieee.proofs.Bridge.{of_value}
use Rattle.ieee.proofs.Patterns.{sized, normal, normal_value, bits_order, bits_positive}
use Rattle.ieee.proofs.Between.{square_between, quotient_within}

-- ---- a tail argument as an operand
digits_within : (b x : ℕ) → b / 2 ^ 52 ≡ suc x → b < 0x403b39dc41e48bfd → sized x (b % 2 ^ 52) ≤ 2 ^ 53 * 2 ^ 1026
digits_within b x e h =
    let k : x ≤ 1026 = omega arith in
    let m : 2 ^ x ≤ 2 ^ 1026 = pow_mono k in
    let t : b % 2 ^ 52 < 2 ^ 52 = mod_below b (2 ^ 52) (lit< tt) in
    let d : 2 ^ 52 + b % 2 ^ 52 ≤ 2 ^ 53 = omega arith in
    mul-le-mul d m

-- a tail argument is finite and at most 2 ^ 400 in size
pub tail_operand : (b : ℕ) → 0x400713786d9c7c0a ≤ b → b < 0x403b39dc41e48bfd → Operand (of_bits binary64 b)
tail_operand b p q =
    let n = normal b (omega arith) (omega arith) in
    let v = of_value (of_bits binary64 b) false (sized n.x (b % 2 ^ 52)) (normal_value b n) in
    record {
      holds = of_bits-fits binary64 b;
      number = v.0;
      small = le_trans (le_of_eq (ap nat_abs v.1)) (le_trans (digits_within b n.x n.field q) (lit≤ tt));
    }

-- the first argument of the tail, and the last ones of the two steps
abbrev pub first : Float
first = of_bits binary64 0x400713786d9c7c0a

abbrev last_fast : Float
last_fast = of_bits binary64 0x4039db1bb14e15c9

abbrev last : Float
last = of_bits binary64 0x403b39dc41e48bfc

-- 4096 / log 2 and 1 / log 2
abbrev fast_scale : Float
fast_scale = of_bits binary64 0x40b71547652b82fe

abbrev scale : Float
scale = of_bits binary64 0x3ff71547652b82fe

-- the square of a tail argument is above zero
pub square_positive : (b : ℕ) → 0x400713786d9c7c0a ≤ b → b < 0x403b39dc41e48bfd → T (positive (mul binary64 (of_bits binary64 b) (of_bits binary64 b)))
unfolding of_bits mul
square_positive b p q =
    let x = of_bits binary64 b in
    let h = bits_positive b (omega arith) (omega arith) in
    let l = bits_order 0x400713786d9c7c0a b (lit≤ tt) p (omega arith) in
    let m = bits_order b 0x403b39dc41e48bfc (omega arith) (omega arith) (lit< tt) in
    between (mul binary64 first first) (mul binary64 x x) (mul binary64 last last) tt tt (mul_mono binary64 first x first x tt h tt h l l) (mul_mono binary64 x last x last h tt h tt m m)

-- the multiple of log 2 / 4096, where a fast step runs
pub fast_multiple : (b : ℕ) → 0x400713786d9c7c0a ≤ b → b < 0x4039db1bb14e15ca →
    Whole (round_ties_even binary64 (mul binary64 (neg (mul binary64 (of_bits binary64 b) (of_bits binary64 b))) (of_bits binary64 0x40b71547652b82fe))) 49000 4000000
unfolding of_bits mul
fast_multiple b p q =
    square_between first (of_bits binary64 b) last_fast fast_scale 49000 4000000 tt (bits_positive b (omega arith) (omega arith)) tt tt
    (bits_order 0x400713786d9c7c0a b (lit≤ tt) p (omega arith)) (bits_order b 0x4039db1bb14e15c9 (omega arith) (omega arith) (lit< tt))
    tt tt tt tt (lit< tt) (lit≤ tt) (lit≤ tt)

-- the multiple of log 2, on the whole tail
pub accurate_multiple_lem : (b : ℕ) → 0x400713786d9c7c0a ≤ b → b < 0x403b39dc41e48bfd →
    Whole (round_ties_even binary64 (mul binary64 (neg (mul binary64 (of_bits binary64 b) (of_bits binary64 b))) (of_bits binary64 0x3ff71547652b82fe))) 12 1070
unfolding of_bits mul
accurate_multiple_lem b p q =
    square_between first (of_bits binary64 b) last scale 12 1070 tt (bits_positive b (omega arith) (omega arith)) tt tt
    (bits_order 0x400713786d9c7c0a b (lit≤ tt) p (omega arith)) (bits_order b 0x403b39dc41e48bfc (omega arith) (omega arith) (lit< tt))
    tt tt tt tt (lit< tt) (lit≤ tt) (lit≤ tt)

-- 1/x passes no threshold that 1/first does not pass
pub not_passed : (t : Float) → T (positive t) → T (le (div binary64 (of_bits binary64 0x3ff0000000000000) first) t) → (b : ℕ) → 0x400713786d9c7c0a ≤ b → b < 0x403b39dc41e48bfd →
    lt t (div binary64 (of_bits binary64 0x3ff0000000000000) (of_bits binary64 b)) ≡ false
unfolding of_bits div le
not_passed t u v b p q =
    quotient_within binary64 (of_bits binary64 0x3ff0000000000000) first (of_bits binary64 b) last t tt tt (bits_positive b (omega arith) (omega arith)) tt u
    (bits_order 0x400713786d9c7c0a b (lit≤ tt) p (omega arith)) (bits_order b 0x403b39dc41e48bfc (omega arith) (omega arith) (lit< tt)) tt tt v
