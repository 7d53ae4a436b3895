-- Whole numbers as f64 numbers, and f64 numbers that are whole multiples of a unit. Assumes nothing.
use Rattle.std.proofs.Common.{◌≡◌, ℕ, suc, ◌*◌, leb, ap, ◌∙◌, le_trans, le_of_eq, le_of_mul-le-mul_right, lit≤, leb→le, ◌^◌, ◌<◌, ◌≤◌, Bool, true, false, T, ℤ, pos, negsuc, ◌*ℤ◌, nat_abs, sym, refl, subst, inl, inr, lt_of_le_of_lt, le_of_lt, mul-le-mul_right, mul-one, arith, lit<, pow_pos}
use lib.Ieee.{Float, binary64, fits, of_int, round}
use lib.Ieee.Fits.{of_int-fits}
use Rattle.ieee.specs.Val.{signed, val, rz, Under, Mult}
use Rattle.ieee.specs.Pairs.{Leads, last}
use Rattle.ieee.specs.Meaning.{Number, Operand}
use Rattle.ieee.proofs.Ints.{abs_mul, neg_mul, lt_abs}
use Rattle.ieee.proofs.Whole.{rounds, exact, places, repr_lt, mult_down}
use Rattle.ieee.proofs.Bridge.{Is, round_int, signed_repr, val_repr, abs_signed}
use Rattle.ieee.proofs.Ties.{placed_one}
use Rattle.bounds.specs.Num.{Same}
use Rattle.bounds.specs.Floats.{units, exactly, minus}
use Rattle.bounds.specs.Formulas.{integer}
use Rattle.bounds.proofs.Scale.{Least, minus_least}
use Rattle.bounds.proofs.Chain.{G, G>0, Abs}
use Rattle.bounds.proofs.Sizes.{units_below}
use Rattle.bounds.proofs.Over.{Over, over_units, over_scale, same_over}

-- ---- a whole number as an f64
signed_is : (s : Bool) (n : ℕ) → n < 2 ^ 53 → Is (round binary64 s n 1) (signed s (n * 2 ^ 1074))
signed_is s n h =
    let z : ℤ = signed s (n * 2 ^ 1074) in
    let e : rz z ≡ z = exact z (rz z) (rounds z) (signed_repr s n (n * 2 ^ 1074) 1074 h refl) in
    let u : Under z = subst (λ (k : ℕ). k < 2 ^ 2098) (sym (abs_signed s (n * 2 ^ 1074))) (lt_of_le_of_lt (mul-le-mul_right (2 ^ 1074) (le_of_lt h)) (lit< tt)) in
    subst (Is (round binary64 s n 1)) e (round_int s n 1 (n * 2 ^ 1074) (lit< tt) (sym (mul-one (n * 2 ^ 1074))) (subst Under (sym e) u))

pub whole_is : (k : ℤ) → nat_abs k < 2 ^ 53 → Is (of_int binary64 k) (k *ℤ pos (2 ^ 1074))
unfolding of_int
whole_is (pos n) h = signed_is false n h
whole_is (negsuc n) h = subst (Is (round binary64 true (suc n) 1)) (sym (neg_mul (pos (suc n)) (pos (2 ^ 1074)))) (signed_is true (suc n) h)

pub whole_same : (k : ℤ) → nat_abs k < 2 ^ 53 → Same (exactly (of_int binary64 k)) (integer k)
whole_same k h = subst (λ (z : ℤ). Same (units z) (integer k)) (sym (whole_is k h).1) (same_over {x = k *ℤ pos (2 ^ 1074)} (pow_pos 1074) (over_units (k *ℤ pos (2 ^ 1074))) (over_scale (2 ^ 1074) {l = 2 ^ 1074} refl (over_integer k)))
  where
    over_integer : (k : ℤ) → Over (integer k) k 1
    over_integer (pos n) = record { is = refl }
    over_integer (negsuc n) = record { is = refl }

pub whole_operand : (k : ℤ) → nat_abs k < 2 ^ 53 → Operand (of_int binary64 k)
whole_operand k h =
    let w = whole_is k h in
    record { holds = of_int-fits binary64 k; number = w.0; small = le_trans (le_of_eq (ap nat_abs w.1 ∙ abs_mul k (pos (2 ^ 1074)))) (le_trans (mul-le-mul_right (2 ^ 1074) (le_of_lt h)) (lit≤ tt)) }

-- ---- the place of the last of 53 digits
-- a number of at least 2 ^ 52 of a unit is a multiple of it
pub multiple_from : (i : ℕ) (x : Float) → T (fits binary64 x) → 2 ^ 52 * 2 ^ i ≤ nat_abs (val x) → Mult i (val x)
multiple_from i x f l =
    let r = val_repr x f in
    let a : nat_abs (val x) < 2 ^ 53 * 2 ^ r.j = lt_abs (val x) (2 ^ 53 * 2 ^ r.j) (repr_lt (val x) r) in
    mult_down i r.j (val x) (places i r.j (lt_of_le_of_lt l a)) (r.q, r.is)

-- the last place of a number below 2 ^ 53 of a unit is no larger
pub last_within : (i : ℕ) (x : Float) → nat_abs (val x) < 2 ^ 53 * 2 ^ i → last x ≤ i
last_within i x h = elim (placed_one (nat_abs (val x))).1 [
  | inl e ↦ omega (arith, e)
  | inr l ↦ places (last x) i (lt_of_le_of_lt l h)
]

-- the same from bounds at the scale 2 ^ 256
pub multiple_least : (i : ℕ) (x : Float) {m : ℕ} → Number x → Least G (minus (exactly x)) m → T (leb (2 ^ 52 * 2 ^ i * G) (m * 2 ^ 1074)) → Mult i (val x)
multiple_least i x {m} n l t = multiple_from i x n.holds (le_of_mul-le-mul_right (le_trans (leb→le (2 ^ 52 * 2 ^ i * G) (m * 2 ^ 1074) t) (minus_least (val x) l)) G>0)

pub leads_multiple : (i : ℕ) (x y : Float) {m : ℕ} → Mult i (val x) → Abs (exactly y) m → T (leb (m * 2 ^ 1074) (2 ^ 52 * 2 ^ i * G)) → Leads x y
leads_multiple i x y d h t = inr (inr (mult_down (last y) i (val x) (last_within i y (omega (arith, pow_pos i, units_below (val y) h (2 ^ 52 * 2 ^ i) t))) d))
