-- A fraction that is a power of two at most, or at least, is so rounded. Assumes nothing.
use Rattle.std.proofs.Common.{◌≡◌, ℕ, suc, ◌+◌, ◌-◌, ◌*◌, ◌^◌, ◌<◌, ◌≤◌, ◌⊎◌, ℤ, pos, negsuc, nat_abs, refl, ap, ◌∙◌, inl, inr, mul-le-mul_right, mul-pos, arith, pow_pos, pow_mono, pow-add}
use Rattle.ieee.specs.Val.{rnd, rq}
use Rattle.ieee.proofs.Ints.{cancel_le, cancel_lt}
use Rattle.ieee.proofs.Round.{UnitOf, unit_of}
use Rattle.ieee.proofs.Whole.{order}
use Rattle.ieee.proofs.Bridge.{reflect}
use Rattle.ieee.proofs.Tools.{abs_neg}

pub rq_abs : (z : ℤ) (d : ℕ) → nat_abs (rq z d) ≡ rnd (nat_abs z) d
rq_abs (pos n) d = refl
rq_abs (negsuc n) d = abs_neg (pos (rnd (suc n) d))

pub pow_split : (i k : ℕ) → k ≤ i → 2 ^ i ≡ 2 ^ (i - k) * 2 ^ k
pow_split i k h = ap (λ (z : ℕ). 2 ^ z) {x = i} {y = i - k + k} (omega arith) ∙ pow-add 2 (i - k) k

pub rnd_at_most : (n d i : ℕ) → 0 < d → n ≤ 2 ^ i * d → rnd n d ≤ 2 ^ i
rnd_at_most n d i D h = go (rnd n d) (unit_of n d D)
  where
    unit_le : (k : ℕ) → (k ≡ 0) ⊎ (2 ^ 52 * (d * 2 ^ k) ≤ n) → k ≤ i
    unit_le k (inl e) = omega arith
    unit_le k (inr l) = let m : 2 ^ 52 * 2 ^ k ≤ 2 ^ i = cancel_le d (2 ^ 52 * 2 ^ k) (2 ^ i) D (omega (arith, h)) in reflect k i (omega arith)

    -- a multiple of the unit above 2 ^ i is one unit above it
    go : (s : ℕ) → UnitOf n d s → s ≤ 2 ^ i
    go s u = elim (order s (2 ^ i)) [
      | inl l ↦ l
      | inr g ↦
          let K = 2 ^ u.k in
          let x = 2 ^ (i - u.k) in
          let e : 2 ^ i ≡ x * K = pow_split i u.k (unit_le u.k u.lo) in
          let f = u.is in
          let m : x < u.c = cancel_lt K x u.c (omega arith) in
          let w : 2 ^ i + K ≤ s = omega (arith, mul-le-mul_right K m) in
          let a = u.above in
          absurd (omega (arith, mul-le-mul_right d w, mul-pos (pow_pos u.k) D))
    ]

pub rnd_at_least : (n d i : ℕ) → 0 < d → 2 ^ i * d ≤ n → 2 ^ i ≤ rnd n d
rnd_at_least n d i D h = go (rnd n d) (unit_of n d D)
  where
    go : (s : ℕ) → UnitOf n d s → 2 ^ i ≤ s
    go s u = elim (order (2 ^ i) s) [
      | inl l ↦ l
      | inr g ↦
          let K = 2 ^ u.k in
          let b = u.below in
          elim (order u.k i) [
            | inl l ↦
                let x = 2 ^ (i - u.k) in
                let e : 2 ^ i ≡ x * K = pow_split i u.k l in
                let f = u.is in
                let m : u.c < x = cancel_lt K u.c x (omega arith) in
                let w : s + K ≤ 2 ^ i = omega (arith, mul-le-mul_right K m) in
                absurd (omega (arith, mul-le-mul_right d w, mul-pos (pow_pos u.k) D))
            | inr l ↦
                let m : 2 ^ i ≤ K = pow_mono (omega arith) in
                let w : s ≤ K = omega arith in
                absurd (elim u.lo [ inl z ↦ omega arith | inr y ↦ omega (arith, mul-le-mul_right d w, mul-pos (pow_pos u.k) D) ])
          ]
    ]
