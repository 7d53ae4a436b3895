-- A whole number rounded to 53 digits, and the result rounded to a whole number of 2 ^ N: how far that is from the first. Assumes nothing.
use Rattle.std.proofs.Common.{◌≡◌, ℕ, suc, ◌+◌, ◌-◌, ◌*◌, ◌^◌, ◌<◌, ◌≤◌, ◌⊎◌, ℤ, pos, ◌+ℤ◌, ◌-ℤ◌, ◌*ℤ◌, nat_abs, sym, refl, ap, ◌∙◌, subst, inl, inr, lt_of_le_of_lt, le_of_lt, mul-le-mul_right, mul_assoc, mul-lt-mul_of_pos_right, mul-one, arith, pow_pos, pow_mono, pow-add}
use native.Mathlib.Nat.{pow-succ'}
use lib.Ieee.Order.{drop}
use Rattle.ieee.specs.Val.{rnd, rz}
use Rattle.ieee.proofs.Ints.{zs, abs_mul, lt_abs, cancel_lt, dist}
use Rattle.ieee.proofs.Round.{UnitOf, unit_of, rnd_same}
use Rattle.ieee.proofs.Whole.{order, rounds, places}
use Rattle.ieee.proofs.Sums.{rounds_repr}
use Rattle.ieee.proofs.Scaled.{exact_nat}
use Rattle.ieee.proofs.Fractions.{rounds_error}
use Rattle.ieee.proofs.Thresholds.{rnd_at_most, rnd_at_least}
use Rattle.ieee.proofs.Ties.{placed_one}

-- ---- the first rounding: a quarter of 2 ^ t where the result is below 2 ^ (52 + t)
power_below : (a t k : ℕ) → 0 < t → rnd a 1 < 2 ^ (52 + t) → (k ≡ 0) ⊎ (2 ^ 52 * (1 * 2 ^ k) ≤ a) → 2 * 2 ^ k ≤ 2 ^ t
power_below a t k T h (inl e) = subst (λ (z : ℕ). 2 * 2 ^ z ≤ 2 ^ t) (sym e) (pow_mono T)
power_below a t k T h (inr l) = elim (order t k) [
  | inl g ↦
      let e : 2 ^ (52 + k) ≡ 2 ^ 52 * 2 ^ k = pow-add 2 52 k in
      let m : 2 ^ (52 + t) ≤ 2 ^ (52 + k) = pow_mono {i = 52 + t} {j = 52 + k} (omega arith) in
      let r = rnd_at_least a 1 (52 + k) (omega arith) (omega (arith, e, l)) in
      absurd (omega (arith, h, m, r))
  | inr g ↦ subst (λ (z : ℕ). z ≤ 2 ^ t) (pow-succ' 2 k) (pow_mono {i = suc k} {j = t} g)
]

pub first_near : (a t : ℕ) → 0 < t → rnd a 1 < 2 ^ (52 + t) → (rnd a 1 * 4 ≤ a * 4 + 2 ^ t) × (a * 4 ≤ rnd a 1 * 4 + 2 ^ t)
first_near a t T h =
    let u = unit_of a 1 (omega arith) in
    let p = power_below a t u.k T h u.lo in
    (omega (arith, p, u.above), omega (arith, p, u.below))

-- ---- the second
module _ (n : ℕ) where
  abbrev P : ℕ
  P = 2 ^ suc n

  P>0 : 0 < P
  P>0 = pow_pos (suc n)

  -- half of 2 ^ N where the result is a subnormal number
  pub second_near : (r : ℕ) → r < 2 ^ 52 * P → (rnd r P * P * 2 ≤ r * 2 + P) × (r * 2 ≤ rnd r P * P * 2 + P)
  second_near r h =
      let u = unit_of r P P>0 in
      let p : P * 2 ^ u.k ≡ P = ap (λ (z : ℕ). P * 2 ^ z) (none u) ∙ mul-one P in
      (omega (arith, p, u.above), omega (arith, p, u.below))
    where
      none : (u : UnitOf r P (rnd r P)) → u.k ≡ 0
      none u = elim u.lo [ inl e ↦ e | inr l ↦ absurd (omega (arith, pow_pos u.k, l, h, mul-le-mul_right P (pow_pos u.k))) ]

  -- nothing where it is normal: a number of 53 digits ends in enough zeros
  pub second_exact : (r q j : ℕ) → q < 2 ^ 53 → r ≡ q * 2 ^ j → 2 ^ 52 * P ≤ r → rnd r P * P ≡ r
  second_exact r q j small e h =
      let g : suc n ≤ j = places (suc n) j (lt_of_le_of_lt (subst (λ (z : ℕ). 2 ^ 52 * P ≤ z) e h) (mul-lt-mul_of_pos_right small (pow_pos j))) in
      let w = q * 2 ^ (j - suc n) in
      let f : r ≡ w * P = e ∙ ap (λ (z : ℕ). q * z) (ap (λ (z : ℕ). 2 ^ z) {x = j} {y = j - suc n + suc n} (omega arith) ∙ pow-add 2 (j - suc n) (suc n)) ∙ sym (mul_assoc q (2 ^ (j - suc n)) P) in
      let s : rnd r P ≡ w = rnd_same r P w 1 P>0 (omega arith) (mul-one r ∙ f) ∙ exact_nat q (j - suc n) small in
      ap (λ (z : ℕ). z * P) s ∙ sym f

-- ---- w units of 2 ^ N against a
pub record Close (a : ℕ) (w : ℤ) (n : ℕ) : Type 0 where
  pub j : ℕ
  pub unit : ((nat_abs w < 2 ^ 52) × (j ≡ 0)) ⊎ ((2 ^ (52 + j) ≤ nat_abs w) × (nat_abs w < 2 ^ (53 + j)))
  -- three quarters of a unit at 2 ^ 52, and hardly more than half a unit elsewhere
  pub near : ((w ≡ pos (2 ^ 52)) × (4 * nat_abs (w *ℤ pos (2 ^ suc n) -ℤ pos a) ≤ 3 * (2 ^ j * 2 ^ suc n))) ⊎ (2 ^ 37 * nat_abs (w *ℤ pos (2 ^ suc n) -ℤ pos a) ≤ (2 ^ 36 + 1) * (2 ^ j * 2 ^ suc n))

-- the second rounding is exact
exactly_scaled : (a r s n : ℕ) → r ≡ rnd a 1 → 2 ^ 52 ≤ s → s * 2 ^ suc n ≡ r → Close a (pos s) n
exactly_scaled a r s n e h f =
    let p = placed_one s in
    let j = drop 53 s 1 in
    let t = suc (j + suc n) in
    let g : 2 ^ (52 + t) ≡ 2 ^ 53 * 2 ^ j * 2 ^ suc n = ap (λ (z : ℕ). 2 ^ z) {x = 52 + t} {y = 53 + j + suc n} (omega arith) ∙ pow-add 2 (53 + j) (suc n) ∙ ap (λ (z : ℕ). z * 2 ^ suc n) (pow-add 2 53 j) in
    let b : rnd a 1 < 2 ^ (52 + t) = rw (g, sym e, sym f) (mul-lt-mul_of_pos_right p.0 (pow_pos (suc n))) in
    let w = first_near a t (omega arith) b in
    let v : 2 ^ t ≡ 2 * (2 ^ j * 2 ^ suc n) = pow-succ' 2 (j + suc n) ∙ ap (λ (z : ℕ). 2 * z) (pow-add 2 j (suc n)) in
    record {
      j = j;
      unit = inr (
        elim p.1 [
          | inl z ↦ subst (λ (k : ℕ). 2 ^ (52 + k) ≤ s) (sym z) h
          | inr l ↦ subst (λ (k : ℕ). k ≤ s) (sym (pow-add 2 52 j)) l
        ],
        subst (λ (k : ℕ). s < k) (sym (pow-add 2 53 j)) p.0,
      );
      near = inr (half a (s * 2 ^ suc n) (2 ^ j * 2 ^ suc n) (2 ^ t) v (subst (λ (z : ℕ). (z * 4 ≤ a * 4 + 2 ^ t) × (a * 4 ≤ z * 4 + 2 ^ t)) (sym e ∙ sym f) w));
    }
  where
    half : (a b u v : ℕ) → v ≡ 2 * u → (b * 4 ≤ a * 4 + v) × (a * 4 ≤ b * 4 + v) → 2 ^ 37 * nat_abs (pos b -ℤ pos a) ≤ (2 ^ 36 + 1) * u
    half a b u v e h = omega (zs, e, h.0, h.1)

-- a result of 2 ^ 52 from below: both roundings count
at_corner : (a n : ℕ) → rnd (rnd a 1) (2 ^ suc n) ≡ 2 ^ 52 → rnd a 1 < 2 ^ 52 * 2 ^ suc n → Close a (pos (2 ^ 52)) n
at_corner a n e h = record {
  j = 0;
  unit = inr (omega arith, omega arith);
  near = inl (
    refl,
    both a (rnd a 1) (2 ^ 52 * 2 ^ suc n) (2 ^ suc n)
        (first_near a (suc n) (omega arith) (subst (λ (z : ℕ). rnd a 1 < z) (sym (pow-add 2 52 (suc n))) h))
        (subst (λ (s : ℕ). (s * 2 ^ suc n * 2 ≤ rnd a 1 * 2 + 2 ^ suc n) × (rnd a 1 * 2 ≤ s * 2 ^ suc n * 2 + 2 ^ suc n)) e (second_near n (rnd a 1) h)),
  );
}
  where
    both : (a r b p : ℕ) → (r * 4 ≤ a * 4 + p) × (a * 4 ≤ r * 4 + p) → (b * 2 ≤ r * 2 + p) × (r * 2 ≤ b * 2 + p) → 4 * nat_abs (pos b -ℤ pos a) ≤ 3 * (1 * p)
    both a r b p h k = omega (zs, h.0, h.1, k.0, k.1)

-- a normal result
pub normal_close : (a n : ℕ) → 2 ^ 52 ≤ rnd (rnd a 1) (2 ^ suc n) → Close a (pos (rnd (rnd a 1) (2 ^ suc n))) n
normal_close a n h = elim (order (2 ^ 52 * 2 ^ suc n) (rnd a 1)) [
  | inl g ↦
      let w = (rounds_repr (pos a) (rz (pos a)) (rounds (pos a))).0 in
      let q = nat_abs w.q in
      let e : rnd a 1 ≡ q * 2 ^ w.j = ap nat_abs w.is ∙ abs_mul w.q (pos (2 ^ w.j)) in
      exactly_scaled a (rnd a 1) (rnd (rnd a 1) (2 ^ suc n)) n refl h (second_exact n (rnd a 1) q w.j (lt_abs w.q (2 ^ 53) w.small) e g)
  | inr g ↦
      let l = rnd_at_most (rnd a 1) (2 ^ suc n) 52 (pow_pos (suc n)) (le_of_lt g) in
      let e : rnd (rnd a 1) (2 ^ suc n) ≡ 2 ^ 52 = omega (arith, h, l) in
      subst (λ (s : ℕ). Close a (pos s) n) (sym e) (at_corner a n e g)
]

-- ---- a subnormal result, and what it lost: s units, d = h - s 2 ^ N rounded, e = d + l rounded
pub record Lost (a s : ℕ) (e : ℤ) (n : ℕ) : Type 0 where
  pub size : nat_abs e ≤ 2 ^ suc n
  pub near : 2 ^ 38 * nat_abs (e -ℤ (pos a -ℤ pos (s * 2 ^ suc n))) ≤ 2 ^ suc n

below_normal : (r n : ℕ) → rnd r (2 ^ suc n) < 2 ^ 52 → r < 2 ^ 52 * 2 ^ suc n
below_normal r n h = elim (order (2 ^ 52 * 2 ^ suc n) r) [ inl g ↦ absurd (let l = rnd_at_least r (2 ^ suc n) 52 (pow_pos (suc n)) g in omega (arith, h, l)) | inr g ↦ g ]

lost₀ : (a r b p : ℕ) (h l d e : ℤ) → (r * 4 ≤ a * 4 + p) × (a * 4 ≤ r * 4 + p) → (b * 2 ≤ r * 2 + p) × (r * 2 ≤ b * 2 + p) → r < 2 ^ 52 * p → h +ℤ l ≡ pos a → 2 ^ 40 * nat_abs l ≤ a
    → 2 ^ 53 * nat_abs (d -ℤ (h -ℤ pos b)) ≤ nat_abs (h -ℤ pos b) → 2 ^ 53 * nat_abs (e -ℤ (d +ℤ l)) ≤ nat_abs (d +ℤ l) → (nat_abs e ≤ p) × (2 ^ 38 * nat_abs (e -ℤ (pos a -ℤ pos b)) ≤ p)
lost₀ a r b p h l d e i j k f m u v =
    let m₁ : nat_abs l ≤ 2 ^ 13 * p = omega (arith, i.1, k, m) in
    let x : nat_abs (h -ℤ pos b) ≤ 2 ^ 14 * p = omega (zs, i.0, i.1, j.0, j.1, f, m₁) in
    let y : 2 ^ 39 * nat_abs (d -ℤ (h -ℤ pos b)) ≤ p = omega (arith, u, x) in
    let z : nat_abs (d +ℤ l) ≤ p = omega (zs, i.0, i.1, j.0, j.1, f, y) in
    let t : 2 ^ 53 * nat_abs (e -ℤ (d +ℤ l)) ≤ p = omega (arith, v, z) in
    (omega (zs, i.0, i.1, j.0, j.1, f, y, t), omega (zs, f, y, t))

pub lost : (a n : ℕ) (h l : ℤ) → h +ℤ l ≡ pos a → 2 ^ 40 * nat_abs l ≤ a → rnd (rnd a 1) (2 ^ suc n) < 2 ^ 52
    → Lost a (rnd (rnd a 1) (2 ^ suc n)) (rz (rz (h -ℤ pos (rnd (rnd a 1) (2 ^ suc n) * 2 ^ suc n)) +ℤ l)) n
lost a n h l f m b =
    let r = rnd a 1 in
    let s = rnd r (2 ^ suc n) in
    let g = below_normal r n b in
    let x = h -ℤ pos (s * 2 ^ suc n) in
    let w = lost₀ a r (s * 2 ^ suc n) (2 ^ suc n) h l (rz x) (rz (rz x +ℤ l)) (first_near a (suc n) (omega arith) (subst (λ (z : ℕ). r < z) (sym (pow-add 2 52 (suc n))) g)) (second_near n r g) g f m
    (rounds_error x (rz x) (rounds x)) (rounds_error (rz x +ℤ l) (rz (rz x +ℤ l)) (rounds (rz x +ℤ l))) in
    record { size = w.0; near = w.1 }

-- with a correction of c units, within half a unit and 2 ^ -50 of e
pub corrected : (a s n : ℕ) (e c : ℤ) → Lost a s e n → s < 2 ^ 52 → 2 ^ 50 * (2 * nat_abs (c *ℤ pos (2 ^ suc n) -ℤ e)) ≤ (2 ^ 50 + 2) * 2 ^ suc n → (nat_abs (pos s +ℤ c) ≤ 2 ^ 52) × Close a (pos s +ℤ c) n
corrected a s n e c w b k =
    let p = 2 ^ suc n in
    let l : nat_abs c < 2 = cancel_lt p (nat_abs c) 2 (subst (λ (z : ℕ). z < 2 * p) (abs_mul c (pos p)) (omega (zs, pow_pos (suc n), w.size, k))) in
    let m : nat_abs (pos s +ℤ c) ≤ 2 ^ 52 = omega (zs, b, l) in
    (m, record { j = 0; unit = placed (pos s +ℤ c) 0 refl m; near = inr (omega (zs, w.near, k, dist (pos s) c (pos p))) })
  where
    placed : (w : ℤ) (j : ℕ) → j ≡ 0 → nat_abs w ≤ 2 ^ 52 → ((nat_abs w < 2 ^ 52) × (j ≡ 0)) ⊎ ((2 ^ (52 + j) ≤ nat_abs w) × (nat_abs w < 2 ^ (53 + j)))
    placed w j e h = elim (order (2 ^ 52) (nat_abs w)) [
      | inl g ↦ inr (subst (λ (k : ℕ). 2 ^ (52 + k) ≤ nat_abs w) (sym e) g, subst (λ (k : ℕ). nat_abs w < 2 ^ (53 + k)) (sym e) (omega (arith, h)))
      | inr g ↦ inl (g, e)
    ]
