-- The nearest whole number, and numbers with the other sign. Assumes nothing.
use Rattle.std.proofs.Common.{ℕ, ◌*◌, ◌^◌, ◌≤◌, ℤ, ◌-ℤ◌, neg_ℤ, nat_abs, sym, refl, subst, arith, lit≤, pow_pos}
use Rattle.std.specs.Float.{round_ties_even}
use lib.Ieee.{Float, binary64, neg}
use lib.Ieee.Fits.{neg-fits}
use Rattle.ieee.specs.Val.{val}
use Rattle.ieee.specs.Meaning.{Number}
use Rattle.ieee.proofs.Bridge.{val_neg, finite_neg}
use Rattle.ieee.proofs.PlainWords.{whole_nearest}
use Rattle.bounds.specs.Num.{Q, ◌⊕◌, ◌⊗◌, tiny, Same}
use Rattle.bounds.specs.Floats.{units, exactly, minus}
use Rattle.bounds.proofs.Near as N
use Rattle.bounds.proofs.Chain.{Near, Abs}
use Rattle.bounds.proofs.Over.{over_units, over_tiny, over_minus, over_scale, within_over, same_over}

-- ---- the nearest whole number is within 1/2
pub whole_half : (y : Float) → Number y → Near (exactly y) (exactly (round_ties_even binary64 y)) (2 ^ 255)
whole_half y n =
    let w = whole_nearest y n in
    let z = round_ties_even binary64 y in
    N.within_near (within_over {x = val y} {y = val z} {e = 1 * 2 ^ 1073} {k = 2 ^ 1074} (pow_pos 1074) (over_units (val y)) (over_units (val z)) (over_scale (2 ^ 1073) {l = 2 ^ 1074} refl (over_tiny 1))
    (half (nat_abs (val y -ℤ val z)) (2 ^ 1073) (subst (λ (v : ℤ). 2 * nat_abs (val y -ℤ v) ≤ 2 * 2 ^ 1073) (sym w.is) w.near))) half_size
  where
    half : (d l : ℕ) → 2 * d ≤ 2 * l → d ≤ 1 * l
    half d l h = omega arith

    half_size : Abs (tiny 1) (2 ^ 255)
    half_size = record { le = lit≤ tt; ge = lit≤ tt }

-- ---- signs
pub neg_same : (x : Float) → Same (exactly (neg x)) (minus (exactly x))
neg_same x = subst (λ (z : ℤ). Same (units z) (minus (exactly x))) (sym (val_neg x)) (same_over (pow_pos 1074) (over_units (neg_ℤ (val x))) (over_minus (over_units (val x))))

pub neg_number : {x : Float} → Number x → Number (neg x)
neg_number {x} n = record { holds = neg-fits binary64 x n.holds; number = finite_neg x n.number }

pub near_minus : {a b : Q} {e : ℕ} → Near a b e → Near (minus a) (minus b) e
near_minus h = record { le = h.ge; ge = h.le }

pub abs_minus : {a : Q} {m : ℕ} → Abs a m → Abs (minus a) m
abs_minus h = record { le = h.ge; ge = h.le }

-- the difference of near numbers
pub difference_size : {a b : Q} {e : ℕ} → Near a b e → Abs (a ⊕ minus b) e
difference_size h = record { le = h.le; ge = h.ge }

pub minus_product : (a b : Q) → Same (minus (a ⊗ b)) (minus a ⊗ b)
minus_product a b = record { same = omega arith }
