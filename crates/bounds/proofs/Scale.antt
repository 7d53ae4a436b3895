-- Bounds from below, sizes in units of 2 ^ -1074, and bounds carried to another scale. Assumes nothing.
use Rattle.std.proofs.Common.{◌≡◌, ℕ, zero, ◌+◌, ◌-◌, ◌*◌, ◌^◌, ◌<◌, ◌≤◌, ℤ, pos, negsuc, nat_abs, subst, mul-le-mul_right, mul-pos, le_of_mul-le-mul_right, arith, pow_pos}
use Rattle.bounds.specs.Num.{Q, ◌⊕◌, ◌⊗◌, whole, tiny, Within}
use Rattle.bounds.specs.Floats.{units, minus}
use Rattle.bounds.proofs.Near as N

-- a ≥ m / G
pub record Least (G : ℕ) (a : Q) (m : ℕ) : Type 0 where
  pub le : a.dn * G + m * a.den ≤ a.up * G

rest : (n k g x : ℕ) → n * g + x ≤ (n + k) * g → x ≤ k * g
rest n k g x h = omega arith

module _ {G : ℕ} where
  pub least_weaken : {a : Q} {m n : ℕ} → m ≤ n → Least G a n → Least G a m
  least_weaken {a} {m} {n} l h = record { le = omega (arith, mul-le-mul_right a.den l, h.le) }

  -- a number from below is above zero: what it is above
  pub split_least : {a : Q} {m : ℕ} → zero < G → Least G a m → (k : ℕ) × ((a.up ≡ a.dn + k) × (m * a.den ≤ k * G))
  split_least {a} {m} G>0 h =
      let l : a.dn ≤ a.up = le_of_mul-le-mul_right (omega (arith, h.le)) G>0 in
      let e : a.up ≡ a.dn + (a.up - a.dn) = omega arith in
      (a.up - a.dn, (e, rest a.dn (a.up - a.dn) G (m * a.den) (subst (λ (u : ℕ). a.dn * G + m * a.den ≤ u * G) e h.le)))

  pub whole_least : (n m : ℕ) → m ≤ n → Least G (whole n) (m * G)
  whole_least n m h = record { le = omega (arith, mul-le-mul_right G h) }

  pub least_units : (z : ℤ) {m : ℕ} → Least G (units z) m → m * 2 ^ 1074 ≤ nat_abs z * G
  least_units (pos n) {m} h = omega (arith, h.le)
  least_units (negsuc n) {m} h = omega (arith, h.le)

  pub minus_least : (z : ℤ) {m : ℕ} → Least G (minus (units z)) m → m * 2 ^ 1074 ≤ nat_abs z * G
  minus_least (pos n) {m} h = omega (arith, h.le)
  minus_least (negsuc n) {m} h = omega (arith, h.le)

module _ {G : ℕ} {G>0 : zero < G} where
  pub near_least : {a b : Q} {e k : ℕ} → Least G a (k + e) → N.Near G G>0 a b e → Least G b k
  near_least {a} {b} {e} {k} h i = record { le = le_of_mul-le-mul_right (omega (arith, mul-le-mul_right b.den h.le, i.le)) a.ok }

  -- c + y ≥ k where c ≥ k + n and |y| ≤ n: the polynomial from below
  pub sum_least : {a b : Q} {k n : ℕ} → Least G a (k + n) → N.Abs G G>0 b n → Least G (a ⊕ b) k
  sum_least {a} {b} {k} {n} h i = record { le = omega (arith, mul-le-mul_right b.den h.le, mul-le-mul_right a.den i.ge) }

  -- an error in units, turned into a bound that is a number; `within_near` is the way back
  pub near_within : {a b r : Q} {e : ℕ} → N.Near G G>0 a b e → Least G r e → Within a b r
  near_within {a} {b} {r} {e} h i = record {
    le = le_of_mul-le-mul_right (omega (arith, mul-le-mul_right r.den h.le, mul-le-mul_right (a.den * b.den) i.le)) G>0;
    ge = le_of_mul-le-mul_right (omega (arith, mul-le-mul_right r.den h.ge, mul-le-mul_right (a.den * b.den) i.le)) G>0;
  }

  -- e units of 1/G, times 2^-k: e units of 1/(G·2^k)
  pub near_scale : (k : ℕ) {a b : Q} {e : ℕ} → N.Near G G>0 a b e → N.Near (G * 2 ^ k) (mul-pos G>0 (pow_pos k)) (tiny k ⊗ a) (tiny k ⊗ b) e
  near_scale k {a} {b} {e} h = record { le = omega (arith, mul-le-mul_right (2 ^ k * 2 ^ k) h.le); ge = omega (arith, mul-le-mul_right (2 ^ k * 2 ^ k) h.ge) }

  -- ---- a whole number, from above and from below
  pub whole_size : (n m : ℕ) → n ≤ m → N.Abs G G>0 (whole n) (m * G)
  whole_size n m h = record { le = omega (arith, mul-le-mul_right G h); ge = omega arith }

  -- ---- 2^-k, where t units are no less
  pub tiny_size : (k t : ℕ) → G ≤ t * 2 ^ k → N.Abs G G>0 (tiny k) t
  tiny_size k t h = record { le = omega (arith, h); ge = omega arith }

  -- ---- z units of 2 ^ -1074
  pub in_units : (z : ℤ) {m : ℕ} → N.Abs G G>0 (units z) m → nat_abs z * G ≤ m * 2 ^ 1074
  in_units (pos n) {m} h = omega (arith, h.le)
  in_units (negsuc n) {m} h = omega (arith, h.ge)
