-- The toolchain's rounding is 'nearest, ties to even' in plain words. Assumes nothing.
use Rattle.std.proofs.Common.{◌≡◌, ℕ, suc, ◌+◌, ◌*◌, ◌^◌, ◌<◌, Bool, true, false, T, ℤ, nat_abs, sym, ap, ◌∙◌, subst, inl, inr, le_antisymm, arith}
use lib.Ieee.{Float, nan, inf, fin, binary64, neg, round}
use lib.Ieee.Fits.{round-fits}
use lib.Ieee.Order.{drop}
use lib.Ieee.Scale.{finite, round_under}
use borrow.Author.Differences.{up, down}
use Rattle.std.specs.Float.{round_ties_even}
use Rattle.ieee.specs.Val.{val, signed, rnd, Mult}
use Rattle.ieee.specs.Meaning.{Number}
use Rattle.ieee.specs.Nearest.{apart, Nearest, NearestWhole, EvenEnd}
use Rattle.ieee.proofs.Ints.{zs}
use Rattle.ieee.proofs.Whole.{order}
use Rattle.ieee.proofs.Between.{neg_round}
use Rattle.ieee.proofs.Bridge.{val_repr, round_frac, abs_signed}
use Rattle.ieee.proofs.Ties.{Best, best}
use Rattle.ieee.proofs.Middle.{between}
use Rattle.ieee.proofs.Wholes.{whole_near}

-- a finite result is below the overflow, with either sign
plain : (x : Float) → T (finite (neg x)) → T (finite x)
unfolding neg
plain nan f = f
plain (inf s) f = f
plain (fin s m e) f = f

rnd_under : (s : Bool) (num den : ℕ) → T (finite (round binary64 s num den)) → rnd (num * 2 ^ 1074) den < 2 ^ 2098
unfolding rnd
rnd_under false num den f = round_under binary64 num den f
rnd_under true num den f = round_under binary64 num den (plain (round binary64 false num den) (subst (λ (x : Float). T (finite x)) (sym (neg_round binary64 num den)) f))

-- from `best`, for an r whose value is the rounded fraction
best_at : (s : Bool) (n d : ℕ) (r y : Float) → 0 < d → Number y → val r ≡ signed s (rnd n d) → Best (signed s n) d (val r) (EvenEnd r) (val y)
best_at s n d r y h m e =
    let k : drop 53 (rnd n d) 1 ≡ drop 53 (nat_abs (val r)) 1 = ap (λ (x : ℕ). drop 53 x 1) (sym (ap nat_abs e ∙ abs_signed s (rnd n d))) in
    let b = best s n d (val y) h (val_repr y m.holds) in
    subst (λ (v : ℤ). Best (signed s n) d v (EvenEnd r) (val y)) (sym e)
    (b.0, λ i. elim (b.1 i) [ inl j ↦ inl j | inr j ↦ inr (subst (λ (l : ℕ). Mult (suc l) (val r)) k (subst (Mult (suc (drop 53 (rnd n d) 1))) (sym e) j)) ])

-- what `round` gives is nearest, wherever it is finite
pub round_nearest : (s : Bool) (num den : ℕ) → 0 < den → T (finite (round binary64 s num den)) → Nearest (signed s (num * 2 ^ 1074)) den (round binary64 s num den)
round_nearest s num den h f =
    let r = round binary64 s num den in
    let n = num * 2 ^ 1074 in
    let e : val r ≡ signed s (rnd n den) = (round_frac s num den (rnd_under s num den f)).1 in
    record {
      number = record { holds = round-fits binary64 s num den; number = f };
      nearest = λ y m. (best_at s n den r y h m e).0;
      even = λ y m. (best_at s n den r y h m e).1;
    }

-- and only one number is nearest
pub nearest_one : (z : ℤ) (d : ℕ) (r t : Float) → 0 < d → Nearest z d r → Nearest z d t → val r ≡ val t
nearest_one z d r t h p q =
    let e : apart z d r ≡ apart z d t = le_antisymm (p.nearest t q.number) (q.nearest r p.number) in
    elim (p.even t q.number e) [
      | inl i ↦ sym i
      | inr m ↦ elim (q.even r p.number (sym e)) [
        | inl i ↦ i
        | inr n ↦ elim (order (up (val t) + down (val r)) (up (val r) + down (val t))) [
          | inl g ↦ elim (order (up (val r) + down (val t)) (up (val t) + down (val r))) [
            | inl k ↦ omega zs
            | inr k ↦ let y = between t r z d h q.number p.number k n m (sym e) in let l = q.nearest y.0 y.1.0 in absurd (omega arith)
          ]
          | inr k ↦ let y = between r t z d h p.number q.number k m n e in let l = p.nearest y.0 y.1.0 in absurd (omega arith)
        ]
      ]
    ]

-- rounding to a whole number, for negative numbers too
pub whole_nearest : (x : Float) → Number x → NearestWhole x (round_ties_even binary64 x)
whole_nearest nan n = absurd n.number
whole_nearest (inf s) n = absurd n.number
whole_nearest (fin s m e) n = whole_near s m e n.holds
