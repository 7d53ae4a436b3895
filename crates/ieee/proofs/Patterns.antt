-- Bit patterns of positive normal numbers: the value of each, and their order. Assumes nothing.
use Rattle.std.proofs.Common.{◌≡◌, ℕ, zero, suc, ◌+◌, ◌*◌, ◌/◌, ◌%◌, ◌^◌, ◌<◌, ◌≤◌, Bool, false, cond, T, eqb, sym, ap, ◌∙◌, subst, inl, inr, mul-le-mul_right, mod-eq_of_lt, eq-or-lt_of_le, mul-pos, arith, pow_pos, pow_mono, ne_eqb}
use lib.Ieee.{Float, inf, nan, binary64, odd, of_fields, of_bits, le}
use lib.Ieee.Exact.{HasValue, odd_sign}
use lib.Ieee.Order.{le_of_values}
use lib.Ieee.Positive.{positive, positive_of_value}
use borrow.Author.Tests.{lt-leb}

-- ---- the value

-- the size of the number with exponent field suc x and digits t, in units of 2 ^ -1074
abbrev pub sized : ℕ → ℕ → ℕ
sized x t = (2 ^ 52 + t) * 2 ^ x

below_ones : (x : ℕ) → x < 2046 → suc x ≡ 2047 → ⊥
below_ones x h e = omega arith

fields_value : (x t : ℕ) → x < 2046 → HasValue (of_fields binary64 false (suc x) t) false (sized x t) (2 ^ 1074)
unfolding of_fields
fields_value x t h =
    subst (λ (c : Bool). HasValue (cond c (cond (eqb t 0) (inf false) nan) (odd 53 false (2 ^ 52 + t) x 1074)) false (sized x t) (2 ^ 1074))
    (sym (ne_eqb (suc x) 2047 (below_ones x h))) (odd_sign 53 false (2 ^ 52 + t) x 1074)

-- the sign bit is clear, and taking it off changes nothing
opened : (b y : ℕ) → b < 2 ^ 63 → b / 2 ^ 52 ≡ y → of_bits binary64 b ≡ of_fields binary64 false y (b % 2 ^ 52)
unfolding of_bits
opened b y h e =
    ap (λ (s : Bool). of_fields binary64 s (b % 2 ^ 63 / 2 ^ 52) (b % 2 ^ 52)) (lt-leb (2 ^ 63) b h)
    ∙ ap (λ (z : ℕ). of_fields binary64 false (z / 2 ^ 52) (b % 2 ^ 52)) (mod-eq_of_lt h)
    ∙ ap (λ (z : ℕ). of_fields binary64 false z (b % 2 ^ 52)) e

-- a pattern as suc x * 2 ^ 52 + t
pub record Normal (b : ℕ) : Type 0 where
  pub x : ℕ
  pub field : b / 2 ^ 52 ≡ suc x
  pub most : x < 2046
  pub under : b < 2 ^ 63

pub normal : (b : ℕ) → 0x0010000000000000 ≤ b → b < 0x7ff0000000000000 → Normal b
normal b h k = go (b / 2 ^ 52) (omega arith)
  where
    go : (y : ℕ) → b / 2 ^ 52 ≡ y → Normal b
    go zero e = absurd (omega arith)
    go (suc x) e = record { x = x; field = e; most = omega arith; under = omega arith }

pub normal_value : (b : ℕ) (n : Normal b) → HasValue (of_bits binary64 b) false (sized n.x (b % 2 ^ 52)) (2 ^ 1074)
normal_value b n =
    subst (λ (z : Float). HasValue z false (sized n.x (b % 2 ^ 52)) (2 ^ 1074)) (sym (opened b (suc n.x) n.under n.field)) (fields_value n.x (b % 2 ^ 52) n.most)

sized_pos : (x t : ℕ) → 0 < sized x t
sized_pos x t = mul-pos (omega arith) (pow_pos x)

pub bits_positive : (b : ℕ) → 0x0010000000000000 ≤ b → b < 0x7ff0000000000000 → T (positive (of_bits binary64 b))
bits_positive b h k = let n = normal b h k in positive_of_value (of_bits binary64 b) (sized n.x (b % 2 ^ 52)) (2 ^ 1074) (normal_value b n) (sized_pos n.x (b % 2 ^ 52))

-- ---- the order

-- with the same exponent the digits decide; with a smaller one the number is below 2 ^ 53 of its own units, which is 2 ^ 52 of the next
sized_mono : (x t y u : ℕ) → t < 2 ^ 52 → u < 2 ^ 52 → suc x * 2 ^ 52 + t ≤ suc y * 2 ^ 52 + u → sized x t ≤ sized y u
sized_mono x t y u ht hu h =
    let w : x ≤ y = omega arith in
    elim (eq-or-lt_of_le w) [
      | inl e ↦ subst (λ (z : ℕ). sized x t ≤ sized z u) e (mul-le-mul_right (2 ^ x) (omega arith))
      | inr l ↦
          let p : 2 ^ suc x ≤ 2 ^ y = pow_mono l in
          let a : (2 ^ 52 + t) * 2 ^ x ≤ 2 ^ 53 * 2 ^ x = mul-le-mul_right (2 ^ x) (omega arith) in
          let c : 2 ^ 52 * 2 ^ y ≤ (2 ^ 52 + u) * 2 ^ y = mul-le-mul_right (2 ^ y) (omega arith) in
          omega arith
    ]

pub bits_order : (a b : ℕ) → 0x0010000000000000 ≤ a → a ≤ b → b < 0x7ff0000000000000 → T (le (of_bits binary64 a) (of_bits binary64 b))
bits_order a b p h q =
    let m : Normal a = normal a p (omega arith) in
    let n : Normal b = normal b (omega arith) q in
    let e = m.field in
    let f = n.field in
    le_of_values (of_bits binary64 a) (of_bits binary64 b) (sized m.x (a % 2 ^ 52)) (2 ^ 1074) (sized n.x (b % 2 ^ 52)) (2 ^ 1074) (pow_pos 1074) (pow_pos 1074)
    (normal_value a m) (normal_value b n)
    (mul-le-mul_right (2 ^ 1074) (sized_mono m.x (a % 2 ^ 52) n.x (b % 2 ^ 52) (omega arith) (omega arith) (omega arith)))
