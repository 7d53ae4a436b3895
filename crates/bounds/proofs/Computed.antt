-- Bounds that are computed, in units of 1 / G: products, shifts and sizes of numbers. Assumes nothing.
use Rattle.std.proofs.Common.{ℕ, zero, ◌+◌, ◌-◌, ◌*◌, ◌/◌, ◌^◌, ◌<◌, ◌≤◌, le_trans, le_of_eq, le_of_lt, mul-le-mul_right, mul_comm, mul-pos, div-mul-le_self, le_of_mul-le-mul_right, arith, pow_pos}
use native.Mathlib.Nat.{lt-mul-div-succ}
pub use lib.Ieee.Fits.{and_l, and_r}
use Rattle.bounds.specs.Num.{Q, ◌⊕◌, ◌⊗◌, mag, whole, tiny}
use Rattle.bounds.specs.Steps.{AtMost}
use Rattle.bounds.proofs.Near as N

module _ (G : ℕ) (G>0 : zero < G) where
  abbrev pub mul_g : ℕ → ℕ → ℕ
  mul_g m n = m * n / G + 1

  abbrev pub shr : ℕ → ℕ → ℕ
  shr m k = m / 2 ^ k + 1

  pub mul_g_ok : (m n : ℕ) → m * n ≤ mul_g m n * G
  mul_g_ok m n = le_trans (le_of_lt (lt-mul-div-succ (m * n) G>0)) (le_of_eq (mul_comm G (m * n / G + 1)))

  -- |c| in units, from above and from below
  abbrev pub above : Q → ℕ
  above c = (mag c).up * G / c.den + 1

  abbrev pub below : Q → ℕ
  below c = (mag c).up * G / c.den

module _ {G : ℕ} {G>0 : zero < G} where
  pub product_size : {a b : Q} {m n : ℕ} → N.Abs G G>0 a m → N.Abs G G>0 b n → N.Abs G G>0 (a ⊗ b) (mul_g G G>0 m n)
  product_size {m = m} {n = n} h k = N.abs_mul h k (mul_g_ok G G>0 m n)

  -- |x| from a + x near a, and back
  pub near_drop : {a x : Q} {e : ℕ} → N.Near G G>0 (a ⊕ x) a e → N.Abs G G>0 x e
  near_drop {a} {x} {e} h = record {
    le = le_of_mul-le-mul_right (omega (arith, h.le)) (mul-pos a.ok a.ok);
    ge = le_of_mul-le-mul_right (omega (arith, h.ge)) (mul-pos a.ok a.ok);
  }

  pub kept : (a : Q) {x : Q} {e : ℕ} → N.Abs G G>0 x e → N.Near G G>0 (a ⊕ x) a e
  kept a {x} {e} h = record {
    le = omega (arith, mul-le-mul_right (a.den * a.den) h.le);
    ge = omega (arith, mul-le-mul_right (a.den * a.den) h.ge);
  }

  -- 2^-k a, in units
  pub shr_ok : (k : ℕ) {a : Q} {m : ℕ} → N.Abs G G>0 a m → N.Abs G G>0 (tiny k ⊗ a) (shr G G>0 m k)
  shr_ok k {a} {m} h = record {
    le = omega (arith, h.le, mul-le-mul_right a.den (le_of_lt (lt-mul-div-succ m (pow_pos k))));
    ge = omega (arith, h.ge, mul-le-mul_right a.den (le_of_lt (lt-mul-div-succ m (pow_pos k))));
  }

  pub zero_abs : {a : Q} {e : ℕ} → N.Near G G>0 a (whole 0) e → N.Abs G G>0 a e
  zero_abs {a} {e} h = record { le = omega (arith, h.le); ge = omega (arith, h.ge) }

  pub abs_zero : {a : Q} {e : ℕ} → N.Abs G G>0 a e → N.Near G G>0 a (whole 0) e
  abs_zero {a} {e} h = record { le = omega (arith, h.le); ge = omega (arith, h.ge) }

  pub abs_weaken : {a : Q} {m n : ℕ} → m ≤ n → N.Abs G G>0 a m → N.Abs G G>0 a n
  abs_weaken {a} l h = record { le = omega (arith, h.le, mul-le-mul_right a.den l); ge = omega (arith, h.ge, mul-le-mul_right a.den l) }

  pub size_of : (c : Q) → N.Abs G G>0 c (above G G>0 c)
  size_of c =
      let M = (c.up - c.dn) + (c.dn - c.up) in
      let d = lt-mul-div-succ (M * G) c.ok in
      let u : c.up ≤ c.dn + M = omega arith in
      let l : c.dn ≤ c.up + M = omega arith in
      record { le = omega (arith, d, mul-le-mul_right G u); ge = omega (arith, d, mul-le-mul_right G l) }

  pub below_ok : {a c : Q} {m : ℕ} → N.Abs G G>0 a m → m ≤ below G G>0 c → AtMost a c
  below_ok {a} {c} {m} h l = record {
    most = le_of_mul-le-mul_right (omega (arith, mul-le-mul_right c.den (N.abs_mag h).le, mul-le-mul_right a.den (le_trans (mul-le-mul_right c.den l) (div-mul-le_self ((mag c).up * G) c.den)))) G>0;
  }
