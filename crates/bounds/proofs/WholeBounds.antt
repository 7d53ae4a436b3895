-- Bounds near 1 and near 0 between exact numbers, from integers over one whole number. Assumes nothing.
use Rattle.std.proofs.Common.{ℕ, zero, ◌*◌, ◌^◌, ◌<◌, ◌≤◌, ℤ, pos, ◌-ℤ◌, ◌*ℤ◌, nat_abs, refl, ap, ◌∙◌, le_trans, le_of_eq, mul_comm, mul-pos, arith, pow_pos}
use Rattle.std.proofs.Math.IntN.{+ℤ_idr}
use Rattle.ieee.proofs.Ints.{abs_mul}
use Rattle.bounds.specs.Num.{Q, whole, Within}
use Rattle.bounds.proofs.Over.{Over, over_zero, over_scale, within_over, scaled_abs}

over_one : (k : ℕ) → Over (whole 1) (pos k) k
over_one k = record { is = omega arith }

scaled : (A : ℤ) (n m e : ℕ) → m * nat_abs (A -ℤ pos n) ≤ e * n → nat_abs (A *ℤ pos m -ℤ pos (n * m)) ≤ e * n
scaled A n m e h = le_trans (le_of_eq (scaled_abs A (pos n) m ∙ mul_comm (nat_abs (A -ℤ pos n)) m)) h

scaled_zero : (A : ℤ) (n m e : ℕ) → m * nat_abs A ≤ e * n → nat_abs (A *ℤ pos m -ℤ pos 0) ≤ e * n
scaled_zero A n m e h = le_trans (le_of_eq (ap nat_abs (+ℤ_idr (A *ℤ pos m)) ∙ abs_mul A (pos m) ∙ mul_comm (nat_abs A) m)) h

-- a is A / n, and r is e / 2 ^ j
module _ (a r : Q) (A : ℤ) (n e j : ℕ) (N : zero < n) (h : Over a A n) (i : Over r (pos e) (2 ^ j)) where
  pub within_one : 2 ^ j * nat_abs (A -ℤ pos n) ≤ e * n → Within a (whole 1) r
  within_one g =
      within_over {x = A *ℤ pos (2 ^ j)} {y = pos (n * 2 ^ j)} {e = e * n} {k = n * 2 ^ j} (mul-pos N (pow_pos j))
      (over_scale (2 ^ j) refl h) (over_one (n * 2 ^ j)) (over_scale n (mul_comm (2 ^ j) n) i) (scaled A n (2 ^ j) e g)

  pub within_zero : 2 ^ j * nat_abs A ≤ e * n → Within a (whole 0) r
  within_zero g =
      within_over {x = A *ℤ pos (2 ^ j)} {y = pos 0} {e = e * n} {k = n * 2 ^ j} (mul-pos N (pow_pos j))
      (over_scale (2 ^ j) refl h) (over_zero (n * 2 ^ j)) (over_scale n (mul_comm (2 ^ j) n) i) (scaled_zero A n (2 ^ j) e g)
