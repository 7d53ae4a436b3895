-- No number of 53 digits is nearer than what `rnd` gives, and where another is as near, what `rnd` gives ends in an even digit. Assumes nothing.
use Rattle.std.proofs.Common.{◌≡◌, ℕ, suc, ◌+◌, ◌-◌, ◌*◌, ◌/◌, ◌%◌, ◌^◌, ◌<◌, ◌≤◌, Bool, true, false, ◌⊎◌, ℤ, pos, negsuc, ◌-ℤ◌, ◌*ℤ◌, neg_ℤ, nat_abs, sym, ap, ◌∙◌, subst, inl, inr, mul-le-mul_right, mul-lt-mul_of_pos_right, mul-pos, one-mul, arith, pow_pos, pow_mono, pow-add}
use native.Mathlib.Nat.{eq_of_mul-eq-mul_right}
use lib.IntN.{neg_ℤ-neg_ℤ}
use lib.Ieee.Nearest.{closest}
use lib.Ieee.Order.{drop}
use Rattle.ieee.specs.Val.{signed, rnd, Mult}
use Rattle.ieee.proofs.Ints.{zs, cancel_lt, abs_mul, lt_abs, neg_mul}
use Rattle.ieee.proofs.Round.{UnitOf, unit_of}
use Rattle.ieee.proofs.Whole.{order, Repr, mult_down, mult_neg}
use Rattle.ieee.proofs.Sums.{repr_neg}
use Rattle.ieee.proofs.Bridge.{reflect}
use Rattle.ieee.proofs.Closest.{Closest, closest_so}

-- the distance of two whole numbers
abbrev pub far : ℕ → ℕ → ℕ
far a b = (a - b) + (b - a)

-- no multiple of u is nearer to n than c * u, and where another is as near, n is halfway between the two
among : (n u c t : ℕ) → 0 < u → Closest n u c → (far (c * u) n ≤ far (t * u) n) × (far (c * u) n ≡ far (t * u) n → (t ≡ c) ⊎ (c % 2 ≡ 0))
among n u c t U w =
    let a = w.above in
    let b = w.below in
    elim (order t c) [
      | inl g ↦ elim (order c t) [
        | inl h ↦ let e : t ≡ c = omega arith in let f = ap (λ (x : ℕ). x * u) e in (omega arith, λ m. inl e)
        | inr h ↦ let f : suc t * u ≤ c * u = mul-le-mul_right u h in (omega arith, λ m. inr (w.even (inl (omega arith))))
      ]
      | inr h ↦ let f : suc c * u ≤ t * u = mul-le-mul_right u h in (omega arith, λ m. inr (w.even (inr (omega arith))))
    ]

-- ---- a number of 53 digits, q * 2 ^ j, against c * 2 ^ k

-- with a last place of 2 ^ k or more it is a multiple of 2 ^ k
multiple : (q d j k : ℕ) → k ≤ j → q * 2 ^ (j - k) * (d * 2 ^ k) ≡ q * 2 ^ j * d
multiple q d j k h =
    let p : 2 ^ (j - k) * 2 ^ k ≡ 2 ^ j = sym (pow-add 2 (j - k) k) ∙ ap (λ (i : ℕ). 2 ^ i) {x = j - k + k} {y = j} (omega arith) in
    omega (arith, ap (λ (x : ℕ). q * d * x) p)

-- with a smaller last place it is below 2 ^ 52 * 2 ^ k
below : (q d j k : ℕ) → 0 < d → j < k → q < 2 ^ 53 → q * 2 ^ j * d < 2 ^ 52 * (d * 2 ^ k)
below q d j k D h l =
    let p : 2 ^ suc j ≤ 2 ^ k = pow_mono h in
    let p' : 2 * 2 ^ j ≤ 2 ^ k = omega arith in
    let a : q * (2 ^ j * d) < 2 ^ 53 * (2 ^ j * d) = mul-lt-mul_of_pos_right l (mul-pos (pow_pos j) D) in
    omega (arith, mul-le-mul_right d p')

-- 2 ^ k is the last place of n / d, and c * 2 ^ k is nearest
module _ (n d k c : ℕ) (D : 0 < d) (w : Closest n (d * 2 ^ k) c) (lo : (k ≡ 0) ⊎ (2 ^ 52 * (d * 2 ^ k) ≤ n)) where
  abbrev Holds : ℕ → Type 0
  Holds m = (far (c * 2 ^ k * d) n ≤ far (m * d) n) × (far (c * 2 ^ k * d) n ≡ far (m * d) n → (m ≡ c * 2 ^ k) ⊎ (c % 2 ≡ 0))

  -- c * 2 ^ k times d
  own : c * (d * 2 ^ k) ≡ c * 2 ^ k * d
  own = omega arith

  U : 0 < d * 2 ^ k
  U = mul-pos D (pow_pos k)

  same_place : (q j : ℕ) → k ≤ j → Holds (q * 2 ^ j)
  same_place q j h =
      let t = q * 2 ^ (j - k) in
      let r = among n (d * 2 ^ k) c t U w in
      let m = multiple q d j k h in
      let f = λ (x : ℕ) (y : ℕ). (far x n ≤ far y n) × (far x n ≡ far y n → (t ≡ c) ⊎ (c % 2 ≡ 0)) in
      let r' : f (c * 2 ^ k * d) (q * 2 ^ j * d) = subst (λ (x : ℕ). f x (q * 2 ^ j * d)) own (subst (λ (y : ℕ). f (c * (d * 2 ^ k)) y) m r) in (
        r'.0,
        λ e. elim (r'.1 e) [
          | inl i ↦ inl (eq_of_mul-eq-mul_right d D (q * 2 ^ j) (c * 2 ^ k) (sym m ∙ ap (λ (x : ℕ). x * (d * 2 ^ k)) i ∙ own))
          | inr i ↦ inr i
        ],
      )

  -- 2 ^ 52 * 2 ^ k lies between it and n / d
  finer_place : (q j : ℕ) → j < k → q < 2 ^ 53 → Holds (q * 2 ^ j)
  finer_place q j h l = elim lo [
    | inl e ↦ absurd (omega arith)
    | inr g ↦
        let r = (among n (d * 2 ^ k) c (2 ^ 52) U w).0 in
        let b = below q d j k D h l in
        let o = own in
        let s : far (c * 2 ^ k * d) n < far (q * 2 ^ j * d) n = omega arith in
        (omega arith, λ e. absurd (omega arith))
  ]

  any_place : (q j : ℕ) → q < 2 ^ 53 → Holds (q * 2 ^ j)
  any_place q j l = elim (order k j) [ inl h ↦ same_place q j h | inr h ↦ finer_place q j h l ]

-- ---- the place of the last digit

-- the last place of n / d, by the size of n / d
pub placed_at : (n d : ℕ) → 0 < d → (n < 2 ^ 53 * (d * 2 ^ drop 53 n d)) × ((drop 53 n d ≡ 0) ⊎ (2 ^ 52 * (d * 2 ^ drop 53 n d) ≤ n))
placed_at n d D = go (unit_of n d D)
  where
    go : {s : ℕ} → UnitOf n d s → (n < 2 ^ 53 * (d * 2 ^ drop 53 n d)) × ((drop 53 n d ≡ 0) ⊎ (2 ^ 52 * (d * 2 ^ drop 53 n d) ≤ n))
    go u = subst (λ (k : ℕ). (n < 2 ^ 53 * (d * 2 ^ k)) × ((k ≡ 0) ⊎ (2 ^ 52 * (d * 2 ^ k) ≤ n))) u.place (u.hi, u.lo)

-- of a whole number
pub placed_one : (n : ℕ) → (n < 2 ^ 53 * 2 ^ drop 53 n 1) × ((drop 53 n 1 ≡ 0) ⊎ (2 ^ 52 * 2 ^ drop 53 n 1 ≤ n))
placed_one n = subst (λ (u : ℕ). (n < 2 ^ 53 * u) × ((drop 53 n 1 ≡ 0) ⊎ (2 ^ 52 * u ≤ n))) (one-mul (2 ^ drop 53 n 1)) (placed_at n 1 (pow_pos 0))

-- an even c makes c * 2 ^ k a multiple of 2 ^ (k + 1)
twice : (c k : ℕ) → c % 2 ≡ 0 → Mult (suc k) (pos (c * 2 ^ k))
twice c k e =
    let f : c ≡ c / 2 * 2 = omega arith in
    let g : 2 ^ suc k ≡ 2 * 2 ^ k = omega arith in
    (pos (c / 2), ap pos (omega (arith, ap (λ (x : ℕ). x * 2 ^ k) f, ap (λ (x : ℕ). c / 2 * x) g)))

-- where the last place of c * 2 ^ k is above k, c is 2 ^ 53 and the place is k + 1
topped : (c k l : ℕ) → c ≤ 2 ^ 53 → k < l → 2 ^ 52 * 2 ^ l ≤ c * 2 ^ k → (c * 2 ^ k ≡ 2 ^ 51 * 2 ^ suc (suc k)) × (l ≤ suc k)
topped c k l h g b =
    let p : 2 ^ suc k ≤ 2 ^ l = pow_mono g in
    let a : c * 2 ^ k ≤ 2 ^ 53 * 2 ^ k = mul-le-mul_right (2 ^ k) h in
    (omega arith, reflect l (suc k) (omega arith))

-- so with an even c, c * 2 ^ k ends in an even digit
pub even_end : (c k : ℕ) → c ≤ 2 ^ 53 → c % 2 ≡ 0 → Mult (suc (drop 53 (c * 2 ^ k) 1)) (pos (c * 2 ^ k))
even_end c k h e = go (drop 53 (c * 2 ^ k) 1) (placed_one (c * 2 ^ k)).1
  where
    go : (l : ℕ) → (l ≡ 0) ⊎ (2 ^ 52 * 2 ^ l ≤ c * 2 ^ k) → Mult (suc l) (pos (c * 2 ^ k))
    go l lo = elim (order l k) [
      | inl g ↦ mult_down (suc l) (suc k) (pos (c * 2 ^ k)) (omega arith) (twice c k e)
      | inr g ↦ elim lo [
        | inl z ↦ absurd (omega arith)
        | inr b ↦
            let t = topped c k l h g b in
            mult_down (suc l) (suc (suc k)) (pos (c * 2 ^ k)) (omega arith) (pos (2 ^ 51), ap pos t.0)
      ]
    ]

-- what is kept has 53 digits, or is 2 ^ 53
kept_most : (n u c : ℕ) → Closest n u c → n < 2 ^ 53 * u → c ≤ 2 ^ 53
kept_most n u c w h =
    let a = w.above in
    let l : c < suc (2 ^ 53) = cancel_lt (u * 2) c (suc (2 ^ 53)) (omega arith) in
    omega arith

-- ---- `rnd`, against the numbers of 53 digits that are not negative

-- the last of the 53 digits of n is even
abbrev pub Even : ℕ → Type 0
Even n = Mult (suc (drop 53 n 1)) (pos n)

pub rnd_best : (n d q j : ℕ) → 0 < d → q < 2 ^ 53 → (far (rnd n d * d) n ≤ far (q * 2 ^ j * d) n) × (far (rnd n d * d) n ≡ far (q * 2 ^ j * d) n → (q * 2 ^ j ≡ rnd n d) ⊎ Even (rnd n d))
unfolding rnd
rnd_best n d q j D l =
    let k = drop 53 n d in
    let w = closest_so n (d * 2 ^ k) (mul-pos D (pow_pos k)) in
    let p = placed_at n d D in
    let r = any_place n d k (closest n (d * 2 ^ k)) D w p.1 q j l in
    (r.0, λ e. elim (r.1 e) [ inl i ↦ inl i | inr i ↦ inr (even_end (closest n (d * 2 ^ k)) k (kept_most n (d * 2 ^ k) (closest n (d * 2 ^ k)) w p.0) i) ])

-- ---- and against all of them

-- the size of such a number
natural : (y : ℤ) (w : Repr y) → (nat_abs w.q < 2 ^ 53) × (nat_abs w.q * 2 ^ w.j ≡ nat_abs y)
natural y w = (lt_abs w.q (2 ^ 53) w.small, sym (ap nat_abs w.is ∙ abs_mul w.q (pos (2 ^ w.j))))

off : (a b : ℕ) → nat_abs (pos a -ℤ pos b) ≡ far a b
off a b = omega zs

-- a negative number is farther from n than zero
off_below : (m d n : ℕ) → 0 < d → n < nat_abs (negsuc m *ℤ pos d -ℤ pos n)
off_below m d n D = let e : nat_abs (negsuc m *ℤ pos d -ℤ pos n) ≡ suc m * d + n = omega zs in omega arith

-- R is no farther from z / d than y, and if it is as far, y is R or E holds
abbrev pub Best : ℤ → ℕ → ℤ → Type 0 → ℤ → Type 0
Best z d R E y = (nat_abs (R *ℤ pos d -ℤ z) ≤ nat_abs (y *ℤ pos d -ℤ z)) × (nat_abs (R *ℤ pos d -ℤ z) ≡ nat_abs (y *ℤ pos d -ℤ z) → (y ≡ R) ⊎ E)

best_above : (n d m : ℕ) → 0 < d → Repr (pos m) → Best (pos n) d (pos (rnd n d)) (Even (rnd n d)) (pos m)
best_above n d m D w =
    let a = natural (pos m) w in
    let r = subst (λ (x : ℕ). (far (rnd n d * d) n ≤ far (x * d) n) × (far (rnd n d * d) n ≡ far (x * d) n → (x ≡ rnd n d) ⊎ Even (rnd n d))) a.1 (rnd_best n d (nat_abs w.q) w.j D a.0) in
    let e = off (rnd n d * d) n in
    let f = off (m * d) n in
    (put e f r.0, λ i. elim (r.1 (sym e ∙ i ∙ f)) [ inl j ↦ inl (ap pos j) | inr j ↦ inr j ])
  where
    put : {a b c d : ℕ} → a ≡ b → c ≡ d → b ≤ d → a ≤ c
    put p q h = omega arith

best_below : (n d m : ℕ) → 0 < d → Best (pos n) d (pos (rnd n d)) (Even (rnd n d)) (negsuc m)
best_below n d m D =
    let r = (rnd_best n d 0 0 D (omega arith)).0 in
    let e = off (rnd n d * d) n in
    let f = off_below m d n D in
    let l : nat_abs (pos (rnd n d * d) -ℤ pos n) < nat_abs (negsuc m *ℤ pos d -ℤ pos n) = omega arith in
    (omega arith, λ i. absurd (omega arith))

best_pos : (n d : ℕ) (y : ℤ) → 0 < d → Repr y → Best (pos n) d (pos (rnd n d)) (Even (rnd n d)) y
best_pos n d (pos m) D w = best_above n d m D w
best_pos n d (negsuc m) D w = best_below n d m D

-- ---- with a sign

-- changing the signs of y and n changes no distance
turn : (y : ℤ) (n d : ℕ) → nat_abs (neg_ℤ y *ℤ pos d -ℤ pos n) ≡ nat_abs (y *ℤ pos d -ℤ neg_ℤ (pos n))
turn y n d = ap (λ (z : ℤ). nat_abs (z -ℤ pos n)) (neg_mul y (pos d)) ∙ opposite (y *ℤ pos d) (pos n)
  where
    opposite : (a b : ℤ) → nat_abs (neg_ℤ a -ℤ b) ≡ nat_abs (a -ℤ neg_ℤ b)
    opposite a b = omega zs

-- the same of n with the sign s
abbrev pub EvenAt : Bool → ℕ → Type 0
EvenAt s n = Mult (suc (drop 53 n 1)) (signed s n)

pub best : (s : Bool) (n d : ℕ) (y : ℤ) → 0 < d → Repr y → Best (signed s n) d (signed s (rnd n d)) (EvenAt s (rnd n d)) y
best false n d y D w = best_pos n d y D w
best true n d y D w =
    let R = rnd n d in
    let r = best_pos n d (neg_ℤ y) D (repr_neg y w) in
    let e = turn y n d in
    let f = turn (neg_ℤ (pos R)) n d in
    let g = ap (λ (z : ℤ). nat_abs (z *ℤ pos d -ℤ pos n)) (neg_ℤ-neg_ℤ (pos R)) in
    let l = r.0 in (
      omega arith,
      λ i. elim (r.1 (sym g ∙ f ∙ i ∙ sym e)) [
        | inl j ↦ inl (sym (neg_ℤ-neg_ℤ y) ∙ ap neg_ℤ j)
        | inr j ↦ inr (mult_neg (suc (drop 53 R 1)) (pos R) j)
      ],
    )
