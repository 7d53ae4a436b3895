-- Nearness with an error that is a whole number of units 1 / G. Assumes nothing.
use Rattle.std.proofs.Common.{◌≡◌, ℕ, zero, ◌+◌, ◌-◌, ◌*◌, ◌<◌, ◌≤◌, sym, subst, mul-le-mul_right, mul-le-mul, le_of_mul-le-mul_right, arith}
use native.Mathlib.Decide.{dec_le}
use Rattle.bounds.specs.Num.{Q, ◌⊕◌, ◌⊗◌, mag, Same, Within}
use Rattle.bounds.proofs.Sames.{product_turned}

-- ---- the product of two bounded differences of naturals
-- x = a - b with |x| ≤ E, as one of two cases
data Split (a b E : ℕ) : Type 0 where
  over : (k : ℕ) → a ≡ b + k → k ≤ E → Split a b E
  under : (k : ℕ) → b ≡ a + k → k ≤ E → Split a b E

split : (a b E : ℕ) → a ≤ b + E → b ≤ a + E → Split a b E
split a b E h k = go (dec_le b a)
  where
    go : Dec (b ≤ a) → Split a b E
    go (yes l) = over (a - b) (omega arith) (omega arith)
    go (no l) = under (b - a) (omega arith) (omega arith)

mul_b : (a b E c d M : ℕ) → a ≤ b + E → b ≤ a + E → c ≤ d + M → d ≤ c + M → a * c + b * d ≤ a * d + b * c + E * M
mul_b a b E c d M h₁ h₂ h₃ h₄ = go (split a b E h₁ h₂) (split c d M h₃ h₄)
  where
    go : Split a b E → Split c d M → a * c + b * d ≤ a * d + b * c + E * M
    go (over k p h) (over l q i) = rw (p, q) (omega (arith, mul-le-mul h i))
    go (over k p h) (under l q i) = rw (p, q) (omega (arith, mul-le-mul h i))
    go (under k p h) (over l q i) = rw (p, q) (omega (arith, mul-le-mul h i))
    go (under k p h) (under l q i) = rw (p, q) (omega (arith, mul-le-mul h i))

diff : (u d G r : ℕ) → d ≤ u → u * G ≤ d * G + r → ((u - d) + (d - u)) * G ≤ 0 * G + r
diff u d G r l h = go (u - d) (d - u) (omega arith) (omega arith)
  where
    go : (x y : ℕ) → u ≡ d + x → y ≡ 0 → (x + y) * G ≤ 0 * G + r
    go x y p q = rw q (omega (arith, rw p at h))

module _ (G : ℕ) (G>0 : zero < G) where
  -- |a - b| ≤ e / G
  pub record Near (a b : Q) (e : ℕ) : Type 0 where
    pub le : (a.up * b.den + b.dn * a.den) * G ≤ (a.dn * b.den + b.up * a.den) * G + e * (a.den * b.den)
    pub ge : (a.dn * b.den + b.up * a.den) * G ≤ (a.up * b.den + b.dn * a.den) * G + e * (a.den * b.den)

  -- |a| ≤ m / G
  pub record Abs (a : Q) (m : ℕ) : Type 0 where
    pub le : a.up * G ≤ a.dn * G + m * a.den
    pub ge : a.dn * G ≤ a.up * G + m * a.den

module _ {G : ℕ} {G>0 : zero < G} where
  pub near_sym : {a b : Q} {e : ℕ} → Near G G>0 a b e → Near G G>0 b a e
  near_sym h = record { le = omega (arith, h.ge); ge = omega (arith, h.le) }

  pub near_refl : (a : Q) → Near G G>0 a a 0
  near_refl a = record { le = omega arith; ge = omega arith }

  pub near_same : {a b : Q} → Same a b → Near G G>0 a b 0
  near_same {a} {b} h = record { le = omega (arith, mul-le-mul_right G (native.Mathlib.Nat.le_of_eq h.same)); ge = omega (arith, mul-le-mul_right G (native.Mathlib.Nat.le_of_eq (sym h.same))) }

  pub near_weaken : {a b : Q} {e f : ℕ} → e ≤ f → Near G G>0 a b e → Near G G>0 a b f
  near_weaken {a} {b} l h = record { le = omega (arith, h.le, mul-le-mul_right (a.den * b.den) l); ge = omega (arith, h.ge, mul-le-mul_right (a.den * b.den) l) }

  pub near_trans : {a b c : Q} {e f : ℕ} → Near G G>0 a b e → Near G G>0 b c f → Near G G>0 a c (e + f)
  near_trans {a} {b} {c} {e} {f} h k = record {
    le = le_of_mul-le-mul_right (omega (arith, mul-le-mul_right c.den h.le, mul-le-mul_right a.den k.le)) b.ok;
    ge = le_of_mul-le-mul_right (omega (arith, mul-le-mul_right c.den h.ge, mul-le-mul_right a.den k.ge)) b.ok;
  }

  pub near_add : {a A b B : Q} {e f : ℕ} → Near G G>0 a A e → Near G G>0 b B f → Near G G>0 (a ⊕ b) (A ⊕ B) (e + f)
  near_add {a} {A} {b} {B} {e} {f} h k = record {
    le = omega (arith, mul-le-mul_right (b.den * B.den) h.le, mul-le-mul_right (a.den * A.den) k.le);
    ge = omega (arith, mul-le-mul_right (b.den * B.den) h.ge, mul-le-mul_right (a.den * A.den) k.ge);
  }

  pub abs_near : {a b : Q} {m e : ℕ} → Abs G G>0 a m → Near G G>0 a b e → Abs G G>0 b (m + e)
  abs_near {a} {b} h k = record {
    le = le_of_mul-le-mul_right (omega (arith, mul-le-mul_right b.den h.le, k.ge)) a.ok;
    ge = le_of_mul-le-mul_right (omega (arith, mul-le-mul_right b.den h.ge, k.le)) a.ok;
  }

  pub abs_add : {a b : Q} {m n : ℕ} → Abs G G>0 a m → Abs G G>0 b n → Abs G G>0 (a ⊕ b) (m + n)
  abs_add {a} {b} h k = record {
    le = omega (arith, mul-le-mul_right b.den h.le, mul-le-mul_right a.den k.le);
    ge = omega (arith, mul-le-mul_right b.den h.ge, mul-le-mul_right a.den k.ge);
  }

  pub abs_mul : {a b : Q} {m n k : ℕ} → Abs G G>0 a m → Abs G G>0 b n → m * n ≤ k * G → Abs G G>0 (a ⊗ b) k
  abs_mul {a} {b} {m} {n} {k} h i l = record {
    le = le_of_mul-le-mul_right (omega (arith, mul_b (a.up * G) (a.dn * G) (m * a.den) (b.up * G) (b.dn * G) (n * b.den) h.le h.ge i.le i.ge, mul-le-mul_right (a.den * b.den) l)) G>0;
    ge = le_of_mul-le-mul_right (omega (arith, mul_b (a.up * G) (a.dn * G) (m * a.den) (b.dn * G) (b.up * G) (n * b.den) h.le h.ge i.ge i.le, mul-le-mul_right (a.den * b.den) l)) G>0;
  }

  -- (z - Z) u
  pub near_mulˡ : {z Z u : Q} {e m k : ℕ} → Near G G>0 z Z e → Abs G G>0 u m → e * m ≤ k * G → Near G G>0 (z ⊗ u) (Z ⊗ u) k
  near_mulˡ {z} {Z} {u} {e} {m} {k} h i l = record { le = side u.up u.dn i.le i.ge; ge = side u.dn u.up i.ge i.le }
    where
      side : (p n : ℕ) → p * G ≤ n * G + m * u.den → n * G ≤ p * G + m * u.den
          → ((z.up * p + z.dn * n) * (Z.den * u.den) + (Z.up * n + Z.dn * p) * (z.den * u.den)) * G
          ≤ ((z.up * n + z.dn * p) * (Z.den * u.den) + (Z.up * p + Z.dn * n) * (z.den * u.den)) * G + k * (z.den * u.den * (Z.den * u.den))
      side p n a b = le_of_mul-le-mul_right (omega (
        arith,
        mul-le-mul_right u.den (mul_b ((z.up * Z.den + Z.dn * z.den) * G) ((z.dn * Z.den + Z.up * z.den) * G) (e * (z.den * Z.den)) (p * G) (n * G) (m * u.den) h.le h.ge a b),
        mul-le-mul_right (z.den * Z.den * u.den * u.den) l,
      )) G>0

  pub near_mulʳ : {Z u U : Q} {e m k : ℕ} → Near G G>0 u U e → Abs G G>0 Z m → e * m ≤ k * G → Near G G>0 (Z ⊗ u) (Z ⊗ U) k
  near_mulʳ {Z} {u} {U} {e} {m} {k} h i l = near_weaken {e = 0 + (k + 0)} (omega arith) (near_trans (near_same (product_turned Z u)) (near_trans (near_mulˡ h i l) (near_same (product_turned U Z))))

  -- a bound with a number for its error, turned into units
  pub within_near : {a b r : Q} {e : ℕ} → Within a b r → Abs G G>0 r e → Near G G>0 a b e
  within_near {a} {b} {r} h k = record {
    le = le_of_mul-le-mul_right (omega (arith, mul-le-mul_right G h.le, mul-le-mul_right (a.den * b.den) k.le)) r.ok;
    ge = le_of_mul-le-mul_right (omega (arith, mul-le-mul_right G h.ge, mul-le-mul_right (a.den * b.den) k.le)) r.ok;
  }

  pub abs_mag : {a : Q} {m : ℕ} → Abs G G>0 a m → Abs G G>0 (mag a) m
  abs_mag {a} {m} h = go (dec_le a.dn a.up)
    where
      go : Dec (a.dn ≤ a.up) → Abs G G>0 (mag a) m
      go (yes l) = record { le = diff a.up a.dn G (m * a.den) l h.le; ge = omega arith }
      go (no l) = record { le = subst (λ (x : ℕ). x * G ≤ 0 * G + m * a.den) (native.Mathlib.Nat.add_comm (a.dn - a.up) (a.up - a.dn)) (diff a.dn a.up G (m * a.den) (omega arith) h.ge); ge = omega arith }
