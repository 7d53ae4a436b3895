-- From nearness at a scale to a relative bound, and a product with 2 ^ -k. Assumes nothing.
use Rattle.std.proofs.Common.{◌≡◌, ℕ, zero, ◌+◌, ◌-◌, ◌*◌, ◌^◌, ◌<◌, ◌≤◌, mul-le-mul_right, mul-le-mul_left, mul-pos, arith, pow_pos}
use Rattle.bounds.specs.Num.{Q, ◌⊗◌, mag, whole, tiny, Same, Within}
use Rattle.bounds.proofs.Near as N
use Rattle.bounds.proofs.Computed as Comp
use Rattle.bounds.proofs.Scale.{Least, near_within}

size₁ : (bu bn : ℕ) → bu ≤ bn + ((bu - bn) + (bn - bu))
size₁ bu bn = omega arith

part₀ : (qu qn qd bd G e m M : ℕ) → qn ≡ 0 → e * qd * bd ≤ qu * m * bd → qu * (m * bd) ≤ qu * (M * G) → (qu * 0 + qn * M) * G + e * (qd * bd) ≤ (qu * M + qn * 0) * G
part₀ qu qn qd bd G e m M z h i = rw z (omega (arith, h, i))

module _ {G : ℕ} where
  -- b at least m: q |b| is at least e, for e ≤ q m
  part_least : (q : Q) → q.dn ≡ 0 → {b : Q} {e m : ℕ} → Least G b m → e * q.den ≤ q.up * m → Least G (q ⊗ mag b) e
  part_least q z {b} {e} {m} i l = record { le = part₀ q.up q.dn q.den b.den G e m M z (mul-le-mul_right b.den l) (mul-le-mul_left q.up (omega (arith, mul-le-mul_right G (size₁ b.up b.dn), i.le))) }
    where
      M : ℕ
      M = (b.up - b.dn) + (b.dn - b.up)

  -- at the scale G 2^k
  pub least_scale : (k : ℕ) {a : Q} {m : ℕ} → Least G a m → Least (G * 2 ^ k) (tiny k ⊗ a) m
  least_scale k {a} {m} h = record { le = omega (arith, mul-le-mul_right (2 ^ k) h.le) }

module _ {G : ℕ} {G>0 : zero < G} where
  -- a within e of b, and b at least m: the relative bound q, for e ≤ q m
  pub relative : (q : Q) → q.dn ≡ 0 → {a b : Q} {e m : ℕ} → N.Near G G>0 a b e → Least G b m → e * q.den ≤ q.up * m → Within a b (q ⊗ mag b)
  relative q z h i l = near_within h (part_least q z i l)

  -- |a| ≤ e and b at least m: |a| is within q |b|
  pub relative_to : (q : Q) → q.dn ≡ 0 → {a b : Q} {e m : ℕ} → N.Abs G G>0 a e → Least G b m → e * q.den ≤ q.up * m → Within a (whole 0) (q ⊗ mag b)
  relative_to q z h i l = near_within (Comp.abs_zero h) (part_least q z i l)

  -- the product with an equal number
  pub equal_product' : (c : Q) {a b : Q} → N.Near G G>0 a b 0 → N.Near G G>0 (c ⊗ a) (c ⊗ b) 0
  equal_product' c h = N.near_mulʳ {e = 0} {m = Comp.above G G>0 c} {k = 0} h (Comp.size_of c) (omega arith)

  pub equal_product : (c : Q) {a b : Q} → Same a b → N.Near G G>0 (c ⊗ a) (c ⊗ b) 0
  equal_product c h = equal_product' c (N.near_same h)

  pub equal_factor : (c : Q) {a b : Q} → Same a b → N.Near G G>0 (a ⊗ c) (b ⊗ c) 0
  equal_factor c h = N.near_mulˡ {e = 0} {m = Comp.above G G>0 c} {k = 0} (N.near_same h) (Comp.size_of c) (omega arith)

  -- at the scale G 2^k
  pub abs_scale : (k : ℕ) {a : Q} {m : ℕ} → N.Abs G G>0 a m → N.Abs (G * 2 ^ k) (mul-pos G>0 (pow_pos k)) (tiny k ⊗ a) m
  abs_scale k {a} {m} h = record { le = omega (arith, mul-le-mul_right (2 ^ k) h.le); ge = omega (arith, mul-le-mul_right (2 ^ k) h.ge) }
