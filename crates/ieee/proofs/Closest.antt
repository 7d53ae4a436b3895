-- `closest` by what it is: no more than half away, and even at a tie. So it goes through an even whole number that is added, and through a difference from one. Assumes nothing.
use Rattle.std.proofs.Common.{◌≡◌, ℕ, suc, ◌+◌, ◌-◌, ◌*◌, ◌/◌, ◌%◌, ◌^◌, ◌<◌, ◌≤◌, ◌⊎◌, sym, refl, ap, ◌∙◌, subst, inl, inr, lt_of_lt_of_le, mod-lt, le_antisymm, one-mul, lt_of_not-le, div-add-mod', not-le_of_lt, div-one, arith, pow_mono, pow-add}
use Prim.Native.Nat.{compare, Ordering}
use native.Mathlib.Omega.{compare-lt, compare-gt}
use lib.Ieee.{size, nearest}
use lib.Ieee.Digits.{size-lt, size-le}
use lib.Ieee.Nearest.{closest}
use lib.Ieee.Order.{drop}
use Rattle.ieee.specs.Val.{rnd}
use Rattle.ieee.proofs.Ints.{cancel_le, cancel_lt}
use Rattle.ieee.proofs.Round.{closest_near}
use Rattle.ieee.proofs.Whole.{order}

-- w * u is half of u away from a
abbrev pub Tie : ℕ → ℕ → ℕ → Type 0
Tie a u w = (w * u * 2 ≡ a * 2 + u) ⊎ (a * 2 ≡ w * u * 2 + u)

-- w is nearest to a / u, and even at a tie
pub record Closest (a u w : ℕ) : Type 0 where
  pub above : w * u * 2 ≤ a * 2 + u
  pub below : a * 2 ≤ w * u * 2 + u
  pub even : Tie a u w → w % 2 ≡ 0

tie_even : (q r u : ℕ) (o : Ordering) → compare (r * 2) u ≡ o → r < u → Tie (q * u + r) u (nearest q o) → nearest q o % 2 ≡ 0
tie_even q r u Ordering.lt e h (inl t) = let l = compare-lt (r * 2) u e in absurd (omega arith)
tie_even q r u Ordering.lt e h (inr t) = let l = compare-lt (r * 2) u e in absurd (omega arith)
tie_even q r u Ordering.eq e h t = omega arith
tie_even q r u Ordering.gt e h (inl t) = let l = compare-gt (r * 2) u e in absurd (omega arith)
tie_even q r u Ordering.gt e h (inr t) = let l = compare-gt (r * 2) u e in absurd (omega arith)

pub closest_so : (a u : ℕ) → 0 < u → Closest a u (closest a u)
closest_so a u U =
    let n = closest_near a u U in
    record {
      above = n.0;
      below = n.1;
      even = λ t. tie_even (a / u) (a % u) u (compare (a % u * 2) u) refl (mod-lt a U) (subst (λ (z : ℕ). Tie z u (closest a u)) (sym (div-add-mod' a u)) t);
    }

-- two that are nearest are less than two apart, and if they are one apart both are at a tie, so both are even
apart : (a u v w : ℕ) → 0 < u → Closest a u v → Closest a u w → v ≤ w
apart a u v w U c d =
    let l : v ≤ suc w = cancel_le (u * 2) v (suc w) (omega arith) (omega arith) in
    elim (order v w) [
      | inl h ↦ h
      | inr h ↦
          let e : v ≡ suc w = omega arith in
          let f = ap (λ (z : ℕ). z * u) e in
          let p = c.even (inl (omega arith)) in
          let q = d.even (inr (omega arith)) in
          absurd (omega arith)
    ]

pub closest_is : (a u w : ℕ) → 0 < u → Closest a u w → closest a u ≡ w
closest_is a u w U c = le_antisymm (apart a u (closest a u) w U (closest_so a u U) c) (apart a u w (closest a u) U c (closest_so a u U))

-- ---- with an even c
more : (a u w c : ℕ) → c % 2 ≡ 0 → Closest a u w → Closest (c * u + a) u (c + w)
more a u w c E d = record {
  above = omega (arith, d.above);
  below = omega (arith, d.below);
  even = λ t. elim t [
    | inl e ↦ let p = d.even (inl (omega arith)) in omega arith
    | inr e ↦ let p = d.even (inr (omega arith)) in omega arith
  ];
}

pub closest_add : (a u c : ℕ) → 0 < u → c % 2 ≡ 0 → closest (c * u + a) u ≡ c + closest a u
closest_add a u c U E = closest_is (c * u + a) u (c + closest a u) U (more a u (closest a u) c E (closest_so a u U))

-- a number up to c is nearest to one up to c
pub closest_at_most : (a u c : ℕ) → 0 < u → a ≤ c * u → closest a u ≤ c
closest_at_most a u c U h = go (closest a u) (closest_so a u U)
  where
    go : (w : ℕ) → Closest a u w → w ≤ c
    go w d = let l : w < suc c = cancel_lt (u * 2) w (suc c) (omega (arith, d.above)) in omega arith

less : (a b u w y : ℕ) → (y + w) % 2 ≡ 0 → a + b ≡ (y + w) * u → Closest a u w → Closest b u y
less a b u w y E s d = record {
  above = omega (arith, d.below);
  below = omega (arith, d.above);
  even = λ t. elim t [
    | inl e ↦ let p = d.even (inr (omega arith)) in omega arith
    | inr e ↦ let p = d.even (inl (omega arith)) in omega arith
  ];
}

pub closest_sub : (a u c : ℕ) → 0 < u → c % 2 ≡ 0 → a ≤ c * u → closest (c * u - a) u ≡ c - closest a u
closest_sub a u c U E h = go (closest a u) (closest_so a u U) (closest_at_most a u c U h)
  where
    go : (w : ℕ) → Closest a u w → w ≤ c → closest (c * u - a) u ≡ c - w
    go w d l =
        let s : c - w + w ≡ c = omega arith in
        closest_is (c * u - a) u (c - w) U (less a (c * u - a) u w (c - w) (ap (λ (z : ℕ). z % 2) s ∙ E) (omega (arith, ap (λ (z : ℕ). z * u) s)) d)

-- ---- a number of 53 + l digits: l are dropped
size_is : (n j : ℕ) → 2 ^ j ≤ n → n < 2 ^ suc j → size n ≡ suc j
size_is n j a b = le_antisymm (size-le n (suc j) b) (lt_of_not-le (λ (g : size n ≤ j). not-le_of_lt (lt_of_lt_of_le (size-lt n) (pow_mono g)) a))

drop_is : (n l : ℕ) → 2 ^ 52 * 2 ^ l ≤ n → n < 2 ^ 53 * 2 ^ l → drop 53 n 1 ≡ l
drop_is n l a b =
    let p = pow-add 2 52 l in
    let z : size n ≡ suc (52 + l) = size_is n (52 + l) (omega arith) (omega arith) in
    ap (λ (k : ℕ). size k - 53) (div-one n) ∙ ap (λ (k : ℕ). k - 53) z ∙ omega arith

pub rnd_closest : (n l : ℕ) → 2 ^ 52 * 2 ^ l ≤ n → n < 2 ^ 53 * 2 ^ l → rnd n 1 ≡ closest n (2 ^ l) * 2 ^ l
unfolding rnd
rnd_closest n l a b = ap (λ (k : ℕ). closest n (1 * 2 ^ k) * 2 ^ k) (drop_is n l a b) ∙ ap (λ (u : ℕ). closest n u * 2 ^ l) (one-mul (2 ^ l))
