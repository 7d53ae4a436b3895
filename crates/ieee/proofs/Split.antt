-- Veltkamp's split of a number of 53 digits into two of 26. Assumes nothing.
use Rattle.std.proofs.Common.{◌≡◌, ℕ, suc, ◌+◌, ◌-◌, ◌*◌, ◌^◌, ◌<◌, ◌≤◌, ◌⊎◌, ℤ, pos, ◌+ℤ◌, ◌-ℤ◌, ◌*ℤ◌, neg_ℤ, sym, ap, ◌∙◌, subst, inl, inr, mul-le-mul_right, arith, pow_pos, pow_mono, pow-add}
use borrow.Author.Differences.{up, down, neg_is, same_out}
use Rattle.ieee.specs.Val.{Mult}
use Rattle.ieee.proofs.Ints.{zs, Le, Lt, Near, massoc, neg_mul, cancel_lt}
use Rattle.ieee.proofs.Whole.{order, Rounds, Repr, mult_down, mult_add, mult_neg, exact_at, exact, nearest}
use Rattle.ieee.proofs.Sums.{repr_of}

-- a is m units of 2 ^ j, with 2 ^ 52 ≤ |m| < 2 ^ 53
pub record Normal (a : ℤ) (j : ℕ) : Type 0 where
  pub m : ℤ
  pub is : a ≡ m *ℤ pos (2 ^ j)
  pub hi : Lt m (2 ^ 53)
  pub lo : (2 ^ 52 + down m ≤ up m) ⊎ (2 ^ 52 + up m ≤ down m)

pub record Halves (a : ℤ) (j : ℕ) (h l : ℤ) : Type 0 where
  pub both : h +ℤ l ≡ a
  pub h_mult : Mult (27 + j) h
  pub h_le : Le h (2 ^ 53 * 2 ^ j)
  pub l_mult : Mult j l
  pub l_le : Le l (2 ^ 26 * 2 ^ j)

-- powers
at_least : (k j : ℕ) → 2 ^ 26 * 2 ^ j < 2 ^ k → 27 + j ≤ k
at_least k j h = elim (order (27 + j) k) [ inl l ↦ l | inr g ↦ absurd (let m : 2 ^ suc k ≤ 2 ^ (27 + j) = pow_mono g in omega (arith, pow-add 2 27 j)) ]

at_most : (k j : ℕ) → 2 ^ k < 2 ^ 29 * 2 ^ j → k ≤ 28 + j
at_most k j h = elim (order k (28 + j)) [
  | inl l ↦ l
  | inr g ↦ absurd (let m : 2 ^ (29 + j) ≤ 2 ^ k = pow_mono {i = 29 + j} {j = k} (omega arith) in omega (arith, pow-add 2 29 j))
]

up_to : (k i j : ℕ) → k ≤ i + j → 2 ^ k ≤ 2 ^ i * 2 ^ j
up_to k i j h = let m : 2 ^ k ≤ 2 ^ (i + j) = pow_mono h in omega (arith, pow-add 2 i j)

down_to : (k i j : ℕ) → i + j ≤ k → 2 ^ i * 2 ^ j ≤ 2 ^ k
down_to k i j h = let m : 2 ^ (i + j) ≤ 2 ^ k = pow_mono h in omega (arith, pow-add 2 i j)

pub mult_scale : (j : ℕ) (y x : ℤ) → Mult j x → Mult j (y *ℤ x)
mult_scale j y x (q, e) = (y *ℤ q, ap (λ (z : ℤ). y *ℤ z) e ∙ sym (massoc y q (pos (2 ^ j))))

mult_pow : (i j : ℕ) → Mult (i + j) (pos (2 ^ i * 2 ^ j))
mult_pow i j = (pos 1, ap pos (omega (arith, pow-add 2 i j)))

repr_pow : (i j : ℕ) → Repr (pos (2 ^ i * 2 ^ j))
repr_pow i j = record { q = pos 1; j = i + j; small = omega arith; is = ap pos (omega (arith, pow-add 2 i j)) }

module _ (a t1 : ℤ) (j : ℕ) (n : Normal a j) (r1 : Rounds (pos (2 ^ 27 + 1) *ℤ a) t1) where
  -- the size of a
  abbrev Sized : Type 0
  Sized = Le a ((2 ^ 53 - 1) * 2 ^ j) × ((2 ^ 52 * 2 ^ j + down a ≤ up a) ⊎ (2 ^ 52 * 2 ^ j + up a ≤ down a))

  sized : Sized
  sized =
      let p = 2 ^ j in
      let e = same_out a (n.m *ℤ pos p) n.is in
      let x = mul-le-mul_right p n.hi.0 in
      let y = mul-le-mul_right p n.hi.1 in
      ((omega zs, omega zs), elim n.lo [ inl l ↦ inl (let z = mul-le-mul_right p l in omega zs) | inr l ↦ inr (let z = mul-le-mul_right p l in omega zs) ])

  abbrev First : Type 0
  First = (27 + j ≤ r1.k) × (r1.k ≤ 28 + j) × Near t1 (pos (2 ^ 27 + 1) *ℤ a) (2 ^ 27 * 2 ^ j)

  first : Sized → First
  first s =
      let p = 2 ^ j in
      let hi = r1.hi in
      let above = r1.above in
      let below = r1.below in
      let k_ge : 27 + j ≤ r1.k = at_least r1.k j (elim s.1 [ inl l ↦ omega (zs, hi) | inr l ↦ omega (zs, hi) ]) in
      let k_le : r1.k ≤ 28 + j = at_most r1.k j (elim r1.lo [ inl l ↦ absurd (omega arith) | inr (inl l) ↦ omega (zs, s.0) | inr (inr l) ↦ omega (zs, s.0) ]) in
      let k_le' : 2 ^ r1.k ≤ 2 ^ 28 * p = up_to r1.k 28 j k_le in
      (k_ge, k_le, (omega arith, omega arith))

  -- a - t1 is 2 ^ 27 a, within the bounds that 2 ^ 27 a has
  abbrev Second : Type 0
  Second = Le (a -ℤ t1) (2 ^ 80 * 2 ^ j) × ((2 ^ 79 * 2 ^ j + down (a -ℤ t1) ≤ up (a -ℤ t1)) ⊎ (2 ^ 79 * 2 ^ j + up (a -ℤ t1) ≤ down (a -ℤ t1)))

  edge : First → Mult (52 + j) a → t1 ≡ pos (2 ^ 27 + 1) *ℤ a
  edge f m = exact_at (pos (2 ^ 27 + 1) *ℤ a) t1 (52 + j) r1 (mult_scale (52 + j) (pos (2 ^ 27 + 1)) a m) (omega (arith, f.1))

  second : Sized → First → Second
  second s f =
      let p = 2 ^ j in
      let near = f.2 in
      let e = same_out a (n.m *ℤ pos p) n.is in
      let m = n.m in (
        (omega (zs, s.0), omega (zs, s.0)),
        elim n.lo [
          | inl l ↦ inr (elim (order (2 ^ 52 + 1 + down m) (up m)) [
            | inl g ↦ let z = mul-le-mul_right p g in omega zs
            | inr g ↦
                let w : m ≡ pos (2 ^ 52) = omega zs in
                let b : a ≡ pos (2 ^ 52 * p) = n.is ∙ ap (λ (z : ℤ). z *ℤ pos p) w in
                let t = edge f (subst (Mult (52 + j)) (sym b) (mult_pow 52 j)) in
                omega zs
          ])
          | inr l ↦ inl (elim (order (2 ^ 52 + 1 + up m) (down m)) [
            | inl g ↦ let z = mul-le-mul_right p g in omega zs
            | inr g ↦
                let w : m ≡ neg_ℤ (pos (2 ^ 52)) = omega zs in
                let b : a ≡ neg_ℤ (pos (2 ^ 52 * p)) = n.is ∙ ap (λ (z : ℤ). z *ℤ pos p) w ∙ neg_mul (pos (2 ^ 52)) (pos p) in
                let t = edge f (subst (Mult (52 + j)) (sym b) (mult_neg (52 + j) (pos (2 ^ 52 * p)) (mult_pow 52 j))) in
                omega zs
          ])
        ],
      )

  module _ (t2 : ℤ) (r2 : Rounds (a -ℤ t1) t2) where
    third : Second → (27 + j ≤ r2.k) × Near t2 (a -ℤ t1) (2 ^ 26 * 2 ^ j)
    third s =
        let p = 2 ^ j in
        let x = a -ℤ t1 in
        let hi = r2.hi in
        let above = r2.above in
        let below = r2.below in
        let k_ge : 27 + j ≤ r2.k = at_least r2.k j (elim s.1 [ inl l ↦ omega (arith, hi) | inr l ↦ omega (arith, hi) ]) in (
          k_ge,
          elim (order r2.k (27 + j)) [
            | inl l ↦ let z = up_to r2.k 27 j l in (omega arith, omega arith)
            | inr g ↦
                let z = down_to r2.k 28 j (omega arith) in
                elim r2.lo [
                  | inl l ↦ absurd (omega arith)
                  | inr (inl l) ↦ let w = nearest x t2 (pos (2 ^ 80 * p)) r2 (repr_pow 80 j) 0 (omega (arith, s.0), omega (arith, s.0)) in (omega arith, omega arith)
                  | inr (inr l) ↦ let w = nearest x t2 (neg_ℤ (pos (2 ^ 80 * p))) r2 (Rattle.ieee.proofs.Sums.repr_neg (pos (2 ^ 80 * p)) (repr_pow 80 j)) 0 (omega (zs, s.0, neg_is (pos (2 ^ 80 * p))), omega (zs, s.0, neg_is (pos (2 ^ 80 * p)))) in (omega arith, omega arith)
                ]
          ],
        )

-- what is left once h = t1 + t2 and l = a - h are exact
near_a : (a t1 t2 : ℤ) (b : ℕ) → Near t2 (a -ℤ t1) b → Near (t1 +ℤ t2) a b
near_a a t1 t2 b h = (omega zs, omega zs)

-- a multiple of 2 ^ 27 units within 2 ^ 26 of a number below 2 ^ 53 units is 2 ^ 53 units at most
high_small : (j : ℕ) (x a : ℤ) → Mult (27 + j) x → Near x a (2 ^ 26 * 2 ^ j) → Le a ((2 ^ 53 - 1) * 2 ^ j) → Le x (2 ^ 53 * 2 ^ j)
high_small j x a (q, e) n s =
    let p = 2 ^ (27 + j) in
    let P = pow-add 2 27 j in
    let f = same_out x (q *ℤ pos p) e in
    let J = pow_pos j in
    let u : up q < down q + (2 ^ 26 + 1) = cancel_lt p (up q) (down q + (2 ^ 26 + 1)) (omega zs) in
    let v : down q < up q + (2 ^ 26 + 1) = cancel_lt p (down q) (up q + (2 ^ 26 + 1)) (omega zs) in
    let u' = mul-le-mul_right p u in
    let v' = mul-le-mul_right p v in
    (omega zs, omega zs)

id_low : (a h l : ℤ) → l ≡ a -ℤ h → h +ℤ l ≡ a
id_low a h l e = omega zs

low_near : (a h : ℤ) (b : ℕ) → Near h a b → Le (a -ℤ h) b
low_near a h b n = (omega zs, omega zs)

pub split : (a t1 t2 h l : ℤ) (j : ℕ) → Normal a j → Rounds (pos (2 ^ 27 + 1) *ℤ a) t1 → Rounds (a -ℤ t1) t2 → Rounds (t1 +ℤ t2) h → Rounds (a -ℤ h) l → Halves a j h l
split a t1 t2 h l j n r1 r2 r3 r4 =
    let p = 2 ^ j in
    let s = sized a t1 j n r1 in
    let f = first a t1 j n r1 s in
    let d = third a t1 j n r1 t2 r2 (second a t1 j n r1 s f) in
    let x = t1 +ℤ t2 in
    let m : Mult (27 + j) x = mult_add (27 + j) t1 t2 (mult_down (27 + j) r1.k t1 f.0 (r1.q, r1.is)) (mult_down (27 + j) r2.k t2 d.0 (r2.q, r2.is)) in
    let c = near_a a t1 t2 (2 ^ 26 * p) d.1 in
    let b = high_small j x a m c s.0 in
    let e : h ≡ x = exact x h r3 (repr_of (27 + j) x m (wide j x b)) in
    let m' : Mult (27 + j) h = subst (Mult (27 + j)) (sym e) m in
    let c' : Near h a (2 ^ 26 * p) = subst (λ (z : ℤ). Near z a (2 ^ 26 * p)) (sym e) c in
    let y = a -ℤ h in
    let my : Mult j y = mult_add j a (neg_ℤ h) (n.m, n.is) (mult_neg j h (mult_down j (27 + j) h (omega arith) m')) in
    let by = low_near a h (2 ^ 26 * p) c' in
    let g : l ≡ y = exact y l r4 (repr_of j y my (wider j y by)) in
    record { both = id_low a h l g; h_mult = m'; h_le = subst (λ (z : ℤ). Le z (2 ^ 53 * p)) (sym e) b; l_mult = subst (Mult j) (sym g) my; l_le = subst (λ (z : ℤ). Le z (2 ^ 26 * p)) (sym g) by }
  where
    wide : (j : ℕ) (x : ℤ) → Le x (2 ^ 53 * 2 ^ j) → Le x (2 ^ 53 * 2 ^ (27 + j))
    wide j x b = (omega (arith, pow-add 2 27 j), omega (arith, pow-add 2 27 j))

    wider : (j : ℕ) (x : ℤ) → Le x (2 ^ 26 * 2 ^ j) → Le x (2 ^ 53 * 2 ^ j)
    wider j x b = (omega arith, omega arith)
