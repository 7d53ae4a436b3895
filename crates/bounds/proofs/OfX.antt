-- 1/x² of a tail argument, and the pair for it, in the bounds of the row that 1/x chooses. Assumes nothing.
use Rattle.std.proofs.Common.{◌≡◌, ℕ, zero, suc, ◌+◌, ◌-◌, ◌*◌, ◌^◌, ◌<◌, ◌≤◌, Bool, true, false, cond, ◌&&◌, T, List, [], ◌∷◌, length, get_or, ℤ, pos, negsuc, ◌-ℤ◌, ◌*ℤ◌, nat_abs, sym, refl, subst, le_refl, lt_of_lt_of_le, le_of_suc-le-suc, not-suc-le-zero, mul-le-mul_right, mul-le-mul, mul-le-mul_left, mul-pos, arith, lit≤, pow_pos}
use native.Mathlib.Decide.{dec_le}
use lib.Ieee.{Float, binary64, of_bits, lt, div}
use lib.Ieee.Scale.{finite}
use lib.Ieee.Bits.{of_bits-fits}
use Rattle.ieee.specs.Val.{val}
use Rattle.ieee.proofs.Ints.{zs}
use Rattle.ieee.proofs.Compare.{Below, lt_in}
use Rattle.double_double.specs.Ops.{Ops, Meaning}
use Rattle.erfc.specs.Rows.{Argument, fast_thresholds, accurate_thresholds, first_not_below, fast_row, accurate_row, fast_end, tail_end}
use Rattle.erfc.specs.Asymptotics.{one, reciprocal, squared}
use Rattle.erfc.proofs.Tail.{fast_row_within, accurate_row_within}
use Rattle.bounds.specs.Polynomials.{square_bound, NearSquare}
use Rattle.bounds.specs.Num.{Q, ◌⊕◌, ◌⊗◌, mag, whole, tiny, Within}
use Rattle.bounds.specs.Floats.{above, units, exactly}
use Rattle.bounds.specs.Formulas.{inverse, sum_of}
use Rattle.bounds.proofs.WholeReciprocal as W
use Rattle.bounds.proofs.WholeReciprocal.{Inverse, to_tail}
use Rattle.bounds.proofs.RecipPair.{reciprocal_square_near}
use Rattle.bounds.proofs.Computed as Comp
use Rattle.bounds.proofs.Over.{far}
use Rattle.bounds.proofs.Inverse.{inv}

-- ---- dividing by x²
near_inverse : (X : ℕ) (p : 0 < X) (s : Q) (k : ℕ) → Within (units (pos X) ⊗ units (pos X) ⊗ s) (whole 1) (tiny k) → Within s (inv (pos X) p ⊗ inv (pos X) p) (tiny k ⊗ mag (inv (pos X) p ⊗ inv (pos X) p))
near_inverse X p s k h = record { le = omega (arith, mul-le-mul_right (X * X) h.le); ge = omega (arith, mul-le-mul_right (X * X) h.ge) }

small_inverse : (X : ℕ) (p : 0 < X) (s : Q) (k : ℕ) → Within (units (pos X) ⊗ units (pos X) ⊗ s) (whole 0) (tiny k) → Within s (whole 0) (tiny k ⊗ mag (inv (pos X) p ⊗ inv (pos X) p))
small_inverse X p s k h = record { le = omega (arith, h.le); ge = omega (arith, h.ge) }

-- ---- 1 / x² below the square of the threshold
square₀ : (l X t : ℕ) → (2 ^ 53 - 1) * (l * l) ≤ 2 ^ 53 * (X * t) → 2 ^ 50 * (l * l * (l * l)) ≤ (2 ^ 50 + 1) * (X * t * (X * t))
square₀ l X t h = go (l * l * (l * l)) (X * t * (X * t)) (omega (arith, mul-le-mul h h))
  where
    go : (a b : ℕ) → (2 ^ 53 - 1) * (2 ^ 53 - 1) * a ≤ 2 ^ 53 * 2 ^ 53 * b → 2 ^ 50 * a ≤ (2 ^ 50 + 1) * b
    go a b h = omega arith

square_size : (X t : ℕ) (p : 0 < X) → (2 ^ 53 - 1) * (2 ^ 1074 * 2 ^ 1074) ≤ 2 ^ 53 * (X * t) → Within (inv (pos X) p ⊗ inv (pos X) p) (whole 0) (units (pos t) ⊗ units (pos t) ⊗ (whole 1 ⊕ tiny 50))
square_size X t p h = record { le = omega (arith, square₀ (2 ^ 1074) X t h); ge = omega arith }

-- ---- from y to the threshold above it
least : (a l d : ℕ) → l * l ≤ a + d → 2 ^ 53 * d ≤ l * l → (2 ^ 53 - 1) * (l * l) ≤ 2 ^ 53 * a
least a l d h k = omega arith

none : (n d : ℕ) → 0 < n → n ≤ d → 2 ^ 53 * d ≤ n → ⊥
none n d p h k = omega arith

pub record Reached (X l : ℕ) (T' : ℤ) : Type 0 where
  pub t : ℕ
  pub is : T' ≡ pos t
  pub reached : (2 ^ 53 - 1) * (l * l) ≤ 2 ^ 53 * (X * t)

reach : (X l : ℕ) (Y T' : ℤ) → 0 < l → 2 ^ 53 * nat_abs (pos X *ℤ Y -ℤ pos l *ℤ pos l) ≤ l * l → (Below T' Y → ⊥) → Reached X l T'
reach X l (pos v) (pos t) q h n = record { t = t; is = refl; reached = go (dec_le v t) }
  where
    up : (a b c : ℕ) → c ≤ 2 ^ 53 * a → a ≤ b → c ≤ 2 ^ 53 * b
    up a b c h k = omega arith

    go : Dec (v ≤ t) → (2 ^ 53 - 1) * (l * l) ≤ 2 ^ 53 * (X * t)
    go (yes k) = up (X * v) (X * t) ((2 ^ 53 - 1) * (l * l)) (least (X * v) l (nat_abs (pos X *ℤ pos v -ℤ pos l *ℤ pos l)) (far (X * v) (l * l) _ (le_refl _)) h) (mul-le-mul_left X k)
    go (no k) = absurd (n (omega (arith, k)))
reach X l (pos v) (negsuc t) q h n = absurd (n (omega arith))
reach X l (negsuc v) T' q h n = absurd (none (l * l) (nat_abs (pos X *ℤ negsuc v -ℤ pos l *ℤ pos l)) (mul-pos q q) (omega zs) h)

-- ---- the threshold of the row
next_place : (n : ℕ) → suc n ≡ 1 + n
next_place n = omega arith

row_passes : (ts : List ℕ) (y : Float) → first_not_below ts y < length ts → lt (of_bits binary64 (get_or ts (first_not_below ts y) 0)) y ≡ false
row_passes [] y h = absurd (not-suc-le-zero h)
row_passes (c ∷ ts) y h = by (lt (of_bits binary64 c) y) refl h (row_passes ts y)
  where
    by : (b : Bool) → lt (of_bits binary64 c) y ≡ b → cond b (1 + first_not_below ts y) 0 < suc (length ts) → (first_not_below ts y < length ts → lt (of_bits binary64 (get_or ts (first_not_below ts y) 0)) y ≡ false)
        → lt (of_bits binary64 (get_or (c ∷ ts) (cond b (1 + first_not_below ts y) 0) 0)) y ≡ false
    by true e h f = subst (λ (n : ℕ). lt (of_bits binary64 (get_or (c ∷ ts) n 0)) y ≡ false) (next_place (first_not_below ts y)) (f (omega (arith, h)))
    by false e h f = e

-- every threshold is a number
abbrev numbers : List ℕ → Bool
numbers [] = true
numbers (c ∷ ts) = finite (of_bits binary64 c) && numbers ts

number_at : (ts : List ℕ) (i : ℕ) → i < length ts → T (numbers ts) → T (finite (of_bits binary64 (get_or ts i 0)))
number_at [] i h t = absurd (not-suc-le-zero h)
number_at (c ∷ ts) zero h t = Comp.and_l (finite (of_bits binary64 c)) (numbers ts) t
number_at (c ∷ ts) (suc i) h t = number_at ts i (le_of_suc-le-suc h) (Comp.and_r (finite (of_bits binary64 c)) (numbers ts) t)

in_row : (ts : List ℕ) (x lo y : Float) → Inverse x lo y → T (numbers ts) → first_not_below ts y < length ts → (p : 0 < above (val x)) → Within (inverse x p ⊗ inverse x p) (whole 0) (square_bound ts (first_not_below ts y))
in_row ts x lo y v t h =
    let c = of_bits binary64 (get_or ts (first_not_below ts y) 0) in
    let r = reach v.X (2 ^ 1074) (val y) (val c) (pow_pos 1074) v.high_near
    (λ b. subst T (row_passes ts y h) (lt_in c y (of_bits-fits binary64 _) v.high.holds (number_at ts (first_not_below ts y) h t) v.high.number b)) in
    subst (λ (z : ℤ). (p : 0 < above z) → Within (inv z p ⊗ inv z p) (whole 0) (square_bound ts (first_not_below ts y))) (sym v.is)
    (λ p. subst (λ (z : ℤ). Within (inv (pos v.X) p ⊗ inv (pos v.X) p) (whole 0) (units z ⊗ units z ⊗ (whole 1 ⊕ tiny 50))) (sym r.is) (square_size v.X r.t p r.reached))

-- ---- the pair for 1/x² in the bounds of the row that 1/x chooses
module _ {S : Type 0} (o : Ops S) (m : Meaning o) where
  square_in_row : (ts : List ℕ) → T (numbers ts) → (s t : S) (x : Float) (p : 0 < above (val x)) → Argument x tail_end → first_not_below ts (div binary64 one x) < length ts
      → NearSquare ts (first_not_below ts (div binary64 one x)) (squared o t (reciprocal o s x).1).1 (inverse x p ⊗ inverse x p)
  unfolding reciprocal
  square_in_row ts n s t x p a h =
      let v = W.inverse o m s x a in
      let q = reciprocal_square_near o m s t x a in
      record {
        low = q.low;
        high = q.high;
        size = in_row ts x (reciprocal o s x).1.lo (div binary64 one x) v n h p;
        near = subst (λ (z : ℤ). (p : 0 < above z) → Within (units z ⊗ units z ⊗ sum_of (squared o t (reciprocal o s x).1).1) (whole 1) (tiny 98) → Within (sum_of (squared o t (reciprocal o s x).1).1) (inv z p ⊗ inv z p) (tiny 98 ⊗ mag (inv z p ⊗ inv z p))) (sym v.is)
            (λ p h. near_inverse v.X p (sum_of (squared o t (reciprocal o s x).1).1) 98 h) p q.near;
        low_small = subst (λ (z : ℤ). (p : 0 < above z) → Within (units z ⊗ units z ⊗ exactly (squared o t (reciprocal o s x).1).1.lo) (whole 0) (tiny 51) → Within (exactly (squared o t (reciprocal o s x).1).1.lo) (whole 0) (tiny 51 ⊗ mag (inv z p ⊗ inv z p))) (sym v.is)
            (λ p h. small_inverse v.X p (exactly (squared o t (reciprocal o s x).1).1.lo) 51 h) p q.low_small;
      }

  pub fast_square : (s t : S) (x : Float) (p : 0 < above (val x)) → Argument x fast_end → NearSquare fast_thresholds (fast_row (div binary64 one x)) (squared o t (reciprocal o s x).1).1 (inverse x p ⊗ inverse x p)
  unfolding of_bits
  fast_square s t x p a = square_in_row fast_thresholds tt s t x p (to_tail a) (fast_row_within x fast_end a (lit≤ tt) (div binary64 one x) (fast_row (div binary64 one x)) refl refl)

  pub accurate_square : (s t : S) (x : Float) (p : 0 < above (val x)) → Argument x tail_end → NearSquare accurate_thresholds (accurate_row (div binary64 one x)) (squared o t (reciprocal o s x).1).1 (inverse x p ⊗ inverse x p)
  unfolding of_bits
  accurate_square s t x p a = square_in_row accurate_thresholds tt s t x p a (lt_of_lt_of_le (accurate_row_within x tail_end a (lit≤ tt) (div binary64 one x) (accurate_row (div binary64 one x)) refl refl) (lit≤ tt))
