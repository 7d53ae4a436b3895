-- Rounding whole numbers: what `rz` gives is exact where it can be, is a multiple of what its argument is, and no number of 53 digits is nearer. Assumes nothing.
use Rattle.std.proofs.Common.{◌≡◌, ℕ, suc, ◌+◌, ◌-◌, ◌*◌, ◌^◌, ◌<◌, ◌≤◌, ◌⊎◌, ℤ, pos, negsuc, ◌+ℤ◌, ◌*ℤ◌, neg_ℤ, nat_abs, sym, refl, ap, ◌∙◌, subst, inl, inr, arith, pow_pos, pow_mono, pow-add}
use lib.Ieee.Order.{drop}
use borrow.Author.Differences.{up, down, neg_is, same_out}
use Rattle.ieee.specs.Val.{rnd, rz, Mult}
use Rattle.ieee.proofs.Ints.{zs, Lt, Near, massoc, dist, neg_mul, same_multiple}
use Rattle.ieee.proofs.Round.{UnitOf, unit_of}

pub order : (a b : ℕ) → (a ≤ b) ⊎ (b < a)
order a b = elim (native.Mathlib.Nat.eq-zero-or-pos (a - b)) [ inl z ↦ inl (omega arith) | inr p ↦ inr (omega arith) ]

pub record Rounds (x s : ℤ) : Type 0 where
  pub k : ℕ
  pub q : ℤ
  pub is : s ≡ q *ℤ pos (2 ^ k)
  pub above : up s * 2 + down x * 2 ≤ up x * 2 + down s * 2 + 2 ^ k
  pub below : up x * 2 + down s * 2 ≤ up s * 2 + down x * 2 + 2 ^ k
  pub hi : Lt x (2 ^ 53 * 2 ^ k)
  pub lo : (k ≡ 0) ⊎ ((2 ^ 52 * 2 ^ k + down x ≤ up x) ⊎ (2 ^ 52 * 2 ^ k + up x ≤ down x))

-- `rz` rounds so, and its unit is that of the last of 53 digits
pub placed : (x : ℤ) → (r : Rounds x (rz x)) × (r.k ≡ drop 53 (nat_abs x) 1)
placed (pos n) = go (rnd n 1) (unit_of n 1 (omega arith))
  where
    go : (s : ℕ) → UnitOf n 1 s → (r : Rounds (pos n) (pos s)) × (r.k ≡ drop 53 n 1)
    go s u = (
      record {
        k = u.k;
        q = pos u.c;
        is = ap pos u.is;
        above = omega (arith, u.above);
        below = omega (arith, u.below);
        hi = omega (arith, u.hi);
        lo = elim u.lo [ inl e ↦ inl e | inr l ↦ inr (inl (omega arith)) ];
      },
      u.place,
    )
placed (negsuc n) = go (rnd (suc n) 1) (unit_of (suc n) 1 (omega arith))
  where
    go : (s : ℕ) → UnitOf (suc n) 1 s → (r : Rounds (negsuc n) (neg_ℤ (pos s))) × (r.k ≡ drop 53 (suc n) 1)
    go s u = (
      record {
        k = u.k;
        q = neg_ℤ (pos u.c);
        is = ap (λ (z : ℕ). neg_ℤ (pos z)) u.is ∙ sym (neg_mul (pos u.c) (pos (2 ^ u.k)));
        above = let e = u.above in omega zs;
        below = let e = u.below in omega zs;
        hi = omega (arith, u.hi);
        lo = elim u.lo [ inl e ↦ inl e | inr l ↦ inr (inr (omega arith)) ];
      },
      u.place,
    )

pub rounds : (x : ℤ) → Rounds x (rz x)
rounds x = (placed x).0

-- ---- multiples of powers of two
pub mult_down : (i j : ℕ) (x : ℤ) → i ≤ j → Mult j x → Mult i x
mult_down i j x h m =
    let p : 2 ^ (j - i) * 2 ^ i ≡ 2 ^ j = sym (pow-add 2 (j - i) i) ∙ ap (λ (k : ℕ). 2 ^ k) {x = j - i + i} {y = j} (omega arith) in
    (m.0 *ℤ pos (2 ^ (j - i)), m.1 ∙ ap (λ (z : ℕ). m.0 *ℤ pos z) (sym p) ∙ sym (massoc m.0 (pos (2 ^ (j - i))) (pos (2 ^ i))))

pub mult_add : (j : ℕ) (x y : ℤ) → Mult j x → Mult j y → Mult j (x +ℤ y)
mult_add j x y (a, p) (b, q) = (a +ℤ b, (λ i. p i +ℤ q i) ∙ sym (dist a b (pos (2 ^ j))))

pub mult_neg : (j : ℕ) (x : ℤ) → Mult j x → Mult j (neg_ℤ x)
mult_neg j x (a, p) = (neg_ℤ a, ap neg_ℤ p ∙ sym (neg_mul a (pos (2 ^ j))))

-- a number of 53 digits
pub record Repr (x : ℤ) : Type 0 where
  pub q : ℤ
  pub j : ℕ
  pub small : Lt q (2 ^ 53)
  pub is : x ≡ q *ℤ pos (2 ^ j)

pub exact_at : (x s : ℤ) (j : ℕ) (r : Rounds x s) → Mult j x → r.k ≤ j → s ≡ x
exact_at x s j r m h =
    let n = mult_down r.k j x h m in
    let p = 2 ^ r.k in
    let P : 0 < p = pow_pos r.k in
    let a = r.above in
    let b = r.below in
    let e = same_out s (r.q *ℤ pos p) r.is in
    let f = same_out x (n.0 *ℤ pos p) n.1 in
    r.is ∙ ap (λ (z : ℤ). z *ℤ pos p) (same_multiple r.q n.0 p (omega arith, omega arith) P) ∙ sym n.1

pub places : (k j : ℕ) → 2 ^ 52 * 2 ^ k < 2 ^ 53 * 2 ^ j → k ≤ j
places k j h = elim (order k j) [ inl l ↦ l | inr g ↦ absurd (let m : 2 ^ suc j ≤ 2 ^ k = pow_mono g in omega arith) ]

-- the size of a number of 53 digits
pub repr_lt : (x : ℤ) (r : Repr x) → Lt x (2 ^ 53 * 2 ^ r.j)
repr_lt x r =
    let p = 2 ^ r.j in
    let e = same_out x (r.q *ℤ pos p) r.is in
    let a = native.Mathlib.Nat.mul-lt-mul_of_pos_right r.small.0 (pow_pos r.j) in
    let b = native.Mathlib.Nat.mul-lt-mul_of_pos_right r.small.1 (pow_pos r.j) in
    (omega (zs, e), omega (zs, e))

pub exact : (x s : ℤ) → Rounds x s → Repr x → s ≡ x
exact x s r w =
    let l = repr_lt x w in
    elim r.lo [
      | inl e ↦ exact_at x s w.j r (w.q, w.is) (omega arith)
      | inr (inl g) ↦ exact_at x s w.j r (w.q, w.is) (places r.k w.j (omega arith))
      | inr (inr g) ↦ exact_at x s w.j r (w.q, w.is) (places r.k w.j (omega arith))
    ]

-- multiples stay
pub mult_kept : (x s : ℤ) (j : ℕ) → Rounds x s → Mult j x → Mult j s
mult_kept x s j r m = elim (order j r.k) [ inl l ↦ mult_down j r.k s l (r.q, r.is) | inr g ↦ subst (Mult j) (sym (exact_at x s j r m (omega arith))) m ]

-- ---- no number of 53 digits is nearer
-- a multiple of the unit
no_nearer_multiple : (x s y : ℤ) (r : Rounds x s) → Mult r.k y → (b : ℕ) → Near y x b → Near s x b
no_nearer_multiple x s y r m b h =
    let p = 2 ^ r.k in
    let above = r.above in
    let below = r.below in
    let e = same_out s (r.q *ℤ pos p) r.is in
    let f = same_out y (m.0 *ℤ pos p) m.1 in
    let q = r.q in
    let t = m.0 in
    elim (order (up q + down t) (up t + down q)) [
      | inl l ↦ elim (order (up t + down q) (up q + down t)) [
        | inl l' ↦ let w : q ≡ t = omega zs in let w' : s ≡ y = r.is ∙ ap (λ (z : ℤ). z *ℤ pos p) w ∙ sym m.1 in subst (λ (z : ℤ). Near z x b) (sym w') h
        | inr g ↦ let w = native.Mathlib.Nat.mul-le-mul_right p g in (omega zs, omega zs)
      ]
      | inr g ↦ let w = native.Mathlib.Nat.mul-le-mul_right p g in (omega zs, omega zs)
    ]

pub nearest : (x s y : ℤ) → Rounds x s → Repr y → (b : ℕ) → Near y x b → Near s x b
nearest x s y r w b h =
    let p = 2 ^ r.k in
    let m : Mult w.j y = (w.q, w.is) in
    let l = repr_lt y w in
    elim (order r.k w.j) [
      | inl g ↦ no_nearer_multiple x s y r (mult_down r.k w.j y g m) b h
      | inr g ↦
          let g' : 2 ^ suc w.j ≤ p = pow_mono g in
          elim r.lo [
            | inl e ↦ absurd (omega arith)
            | inr (inl v) ↦ no_nearer_multiple x s (pos (2 ^ 52 * p)) r (pos (2 ^ 52), refl) b (omega arith)
            | inr (inr v) ↦ no_nearer_multiple x s (neg_ℤ (pos (2 ^ 52 * p))) r (neg_ℤ (pos (2 ^ 52)), sym (neg_mul (pos (2 ^ 52)) (pos p))) b (omega (zs, neg_is (pos (2 ^ 52 * p))))
          ]
    ]
