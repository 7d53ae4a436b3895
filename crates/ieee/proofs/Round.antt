-- `rnd n d`: how far it is from n / d, and how large its unit is. Assumes nothing.
use Rattle.std.proofs.Common.{◌≡◌, ℕ, zero, suc, ◌+◌, ◌-◌, ◌*◌, ◌/◌, ◌%◌, ◌^◌, ◌<◌, ◌≤◌, ◌⊎◌, refl, ap, ◌∙◌, inl, inr, mul-le-mul_right, mod-lt, div-lt_iff_lt-mul, eq-zero-or-pos, mul-pos, div-add-mod', le-div_iff_mul-le, arith, pow_pos, pow_mono, pow-add}
use Prim.Native.Nat.{compare, Ordering}
use native.Mathlib.Omega.{compare-lt, compare-eq, compare-gt}
use lib.Ieee.{size, nearest}
use lib.Ieee.Digits.{size-lt, size_reaches}
use lib.Ieee.Nearest.{closest, closest_same, div_same}
use lib.Ieee.Order.{drop, kept}
use Rattle.ieee.specs.Val.{rnd}

near : (q r u : ℕ) (o : Ordering) → compare (r * 2) u ≡ o → r < u → (nearest q o * u * 2 ≤ (q * u + r) * 2 + u) × ((q * u + r) * 2 ≤ nearest q o * u * 2 + u)
near q r u Ordering.lt e h = let l = compare-lt (r * 2) u e in omega arith
near q r u Ordering.eq e h = let l = compare-eq (r * 2) u e in tie (q % 2) (omega arith) l
  where
    tie : (t : ℕ) → t < 2 → r * 2 ≡ u → ((q + t) * u * 2 ≤ (q * u + r) * 2 + u) × ((q * u + r) * 2 ≤ (q + t) * u * 2 + u)
    tie zero T l = omega arith
    tie (suc zero) T l = omega arith
    tie (suc (suc t)) T l = absurd (omega arith)
near q r u Ordering.gt e h = let l = compare-gt (r * 2) u e in omega arith

pub closest_near : (n u : ℕ) → 0 < u → (closest n u * u * 2 ≤ n * 2 + u) × (n * 2 ≤ closest n u * u * 2 + u)
closest_near n u U =
    let h = near (n / u) (n % u) u (compare (n % u * 2) u) refl (mod-lt n U) in
    let e : n / u * u + n % u ≡ n = div-add-mod' n u in
    omega arith

-- what is said of s = rnd n d: it is c * 2 ^ k, half of 2 ^ k at most away from n / d, and 2 ^ k is the unit of n / d
pub record UnitOf (n d s : ℕ) : Type 0 where
  pub k : ℕ
  pub place : k ≡ drop 53 n d
  pub c : ℕ
  pub is : s ≡ c * 2 ^ k
  pub above : s * d * 2 ≤ n * 2 + d * 2 ^ k
  pub below : n * 2 ≤ s * d * 2 + d * 2 ^ k
  pub hi : n < 2 ^ 53 * (d * 2 ^ k)
  pub lo : (k ≡ 0) ⊎ (2 ^ 52 * (d * 2 ^ k) ≤ n)

pub unit_of : (n d : ℕ) → 0 < d → UnitOf n d (rnd n d)
unfolding rnd
unit_of n d D =
    let z = size (n / d) in
    let k = z - 53 in
    let c = kept 53 n d in
    let w = closest_near n (d * 2 ^ k) (mul-pos D (pow_pos k)) in
    let a : n < 2 ^ z * d = (div-lt_iff_lt-mul D).0 (size-lt (n / d)) in
    let b : 2 ^ z ≤ 2 ^ (53 + k) = pow_mono {i = z} {j = 53 + k} (omega arith) in
    record {
      k = k;
      place = refl;
      c = c;
      is = refl;
      above = omega arith;
      below = omega arith;
      hi = omega (arith, mul-le-mul_right d b, ap (λ (x : ℕ). x * d) (pow-add 2 53 k));
      lo = elim (eq-zero-or-pos k) [
        | inl e ↦ inl e
        | inr p ↦ inr (let r : 2 ^ (52 + k) * d ≤ n = (le-div_iff_mul-le D).0 (size_reaches (n / d) (52 + k) (omega arith)) in omega (arith, ap (λ (x : ℕ). x * d) (pow-add 2 52 k)))
      ];
    }

-- the error: half a unit of the smallest value, or 2 ^ -53 of n / d
pub error : (n d : ℕ) → 0 < d → (2 ^ 53 * (rnd n d * d) ≤ 2 ^ 53 * n + (n + 2 ^ 52 * d)) × (2 ^ 53 * n ≤ 2 ^ 53 * (rnd n d * d) + (n + 2 ^ 52 * d))
error n d D = go (rnd n d) (unit_of n d D)
  where
    go : (s : ℕ) → UnitOf n d s → (2 ^ 53 * (s * d) ≤ 2 ^ 53 * n + (n + 2 ^ 52 * d)) × (2 ^ 53 * n ≤ 2 ^ 53 * (s * d) + (n + 2 ^ 52 * d))
    go s u = elim u.lo [
      | inl e ↦ let p : d * 2 ^ u.k ≡ d = ap (λ (j : ℕ). d * 2 ^ j) e ∙ native.Mathlib.Nat.mul-one d in (omega (arith, u.above), omega (arith, u.below))
      | inr l ↦ (omega (arith, u.above), omega (arith, u.below))
    ]

-- equal fractions round alike
pub rnd_same : (a b c d : ℕ) → 0 < b → 0 < d → a * d ≡ c * b → rnd a b ≡ rnd c d
unfolding rnd
rnd_same a b c d B D e =
    let k : drop 53 a b ≡ drop 53 c d = ap (λ (z : ℕ). size z - 53) (div_same a b c d B D e) in
    let j = drop 53 c d in
    ap (λ (z : ℕ). closest a (b * 2 ^ z) * 2 ^ z) k
    ∙ ap (λ (z : ℕ). z * 2 ^ j) (closest_same a (b * 2 ^ j) c (d * 2 ^ j) (mul-pos B (pow_pos j)) (mul-pos D (pow_pos j)) (omega (arith, ap (λ (z : ℕ). z * 2 ^ j) e)))
