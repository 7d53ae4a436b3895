-- The digits of a number, one by one. Assumes nothing.
use Rattle.std.proofs.Common.{◌≡◌, ℕ, ◌+◌, ◌*◌, ◌^◌, ◌<◌, ◌≤◌, List, length, get_or, drop, Some, None, Option, ap, ◌∙◌, arith, pow_mono, pow-add}
use Rattle.std.proofs.lemmas.List.{at_drop_more}
use Rattle.replay.specs.Lines.{digit_of, hex_from}

-- i digits are below 16 ^ i
pub next_below : (v d i : ℕ) → v < 2 ^ (4 * i) → d < 16 → v * 16 + d < 2 ^ (4 * (i + 1))
next_below v d i h k = let e : 2 ^ (4 * (i + 1)) ≡ 2 ^ (4 * i) * 16 = ap (λ (n : ℕ). 2 ^ n) (omega arith) ∙ pow-add 2 (4 * i) 4 in omega (arith, e)

pub below_60 : (v i : ℕ) → v < 2 ^ (4 * i) → i < 16 → v < 2 ^ 60
below_60 v i h k = let p : 2 ^ (4 * i) ≤ 2 ^ 60 = pow_mono {i = 4 * i} {j = 60} (omega arith) in omega (arith, p)

-- the digit at place i goes on
pub digit_more : (bs : List ℕ) (v i d : ℕ) → i < length bs → digit_of (get_or bs i 0) ≡ Some d → hex_from v (drop i bs) ≡ hex_from (v * 16 + d) (drop (i + 1) bs)
digit_more bs v i d h e =
    at_drop_more (hex_from v) bs i 0 h ∙ ap (λ o. elim o as (λ _. Option ℕ) [ Some x ↦ hex_from (v * 16 + x) (drop (i + 1) bs) | None ↦ None ]) e
