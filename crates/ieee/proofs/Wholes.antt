-- The whole number nearest to an f64, ties to even, is an f64. Assumes nothing.
use Rattle.std.proofs.Common.{◌≡◌, ℕ, suc, ◌*◌, ◌/◌, ◌%◌, ◌^◌, ◌<◌, ◌≤◌, Bool, true, false, T, ℤ, pos, negsuc, ◌-ℤ◌, ◌*ℤ◌, nat_abs, sym, refl, ap, ◌∙◌, subst, inl, inr, lt_of_le_of_lt, le_of_lt, mul-le-mul_right, mul-le-mul_left, mul-one, arith, lit<, pow_pos}
use lib.Ieee.{fin, binary64, fits, up, down, round}
use lib.Ieee.Fits.{down_pos}
use lib.Ieee.Nearest.{closest, closest_same}
use Rattle.std.specs.Float.{round_ties_even, round_with}
use Rattle.ieee.specs.Val.{signed, val, rz, Under}
use Rattle.ieee.specs.Nearest.{NearestWhole}
use Rattle.ieee.proofs.Ints.{zs, neg_mul}
use Rattle.ieee.proofs.Whole.{order, Repr, rounds, exact}
use Rattle.ieee.proofs.Sums.{repr_neg}
use Rattle.ieee.proofs.Bridge.{mag, mag_is, Is, abs_signed, fits_parts, round_int}
use Rattle.ieee.proofs.Closest.{Tie, Closest, closest_so, closest_is, closest_at_most}
use Rattle.ieee.proofs.Ties.{far}
use Rattle.ieee.proofs.Middle.{val_under}

-- the whole number nearest to the size of an f64
abbrev pub K : ℕ → ℤ → ℕ
K m e = closest (m * up e) (down e)

even_is : (s : Bool) (m : ℕ) (e : ℤ) → round_ties_even binary64 (fin s m e) ≡ round binary64 s (K m e) 1
unfolding round_with
even_is true m e = refl
even_is false m e = refl

-- ---- it is an f64

-- without a fraction it is the number itself
closest_one : (a : ℕ) → closest a 1 ≡ a
closest_one a = closest_is a 1 a (pow_pos 0) (record { above = omega arith; below = omega arith; even = λ t. elim t [ inl e ↦ absurd (omega arith) | inr e ↦ absurd (omega arith) ] })

-- with one it is at most the significand
at_most : (m k : ℕ) → closest (m * 1) (2 ^ k) ≤ m
at_most m k = closest_at_most (m * 1) (2 ^ k) m (pow_pos k) (let p = pow_pos k in omega (arith, mul-le-mul_left m p))

-- n has 53 digits and is below the overflow, in units
record Small (n : ℕ) : Type 0 where
  holds : Repr (pos n)
  most : n < 2 ^ 2098

few : (w l : ℕ) → w < 2 ^ 53 → Repr (pos (w * 2 ^ l))
few w l h = record { q = pos w; j = l; small = omega arith; is = refl }

small : (s : Bool) (m : ℕ) (e : ℤ) → T (fits binary64 (fin s m e)) → Small (K m e * 2 ^ 1074)
small s m (pos k) f =
    let l = (fits_parts s m (pos k) f).0 in
    let i = mag_is s m (pos k) f in
    let a : K m (pos k) * 2 ^ 1074 ≡ mag m (pos k) = ap (λ (w : ℕ). w * 2 ^ 1074) (closest_one (m * 2 ^ k)) ∙ sym i.3 ∙ mul-one (mag m (pos k)) in
    record {
      holds = subst (λ (n : ℕ). Repr (pos n)) (sym (a ∙ i.2)) (few m i.0 l);
      most = subst (λ (n : ℕ). n < 2 ^ 2098) (sym a) (subst (λ (n : ℕ). n < 2 ^ 2098) (abs_signed s (mag m (pos k))) (val_under (fin s m (pos k)) f));
    }
small s m (negsuc k) f =
    let l = (fits_parts s m (negsuc k) f).0 in
    let a : K m (negsuc k) < 2 ^ 53 = lt_of_le_of_lt (at_most m (suc k)) l in
    record { holds = few (K m (negsuc k)) 1074 a; most = lt_of_le_of_lt (mul-le-mul_right (2 ^ 1074) (le_of_lt a)) (lit< tt) }

signed_repr : (s : Bool) (n : ℕ) → Repr (pos n) → Repr (signed s n)
signed_repr false n w = w
signed_repr true n w = repr_neg (pos n) w

-- so rounding leaves it as it is
kept_whole : (s : Bool) (w : ℕ) → Small (w * 2 ^ 1074) → Is (round binary64 s w 1) (signed s (w * 2 ^ 1074))
kept_whole s w h =
    let z = signed s (w * 2 ^ 1074) in
    let e : rz z ≡ z = exact z (rz z) (rounds z) (signed_repr s (w * 2 ^ 1074) h.holds) in
    subst (Is (round binary64 s w 1)) e
    (round_int s w 1 (w * 2 ^ 1074) (pow_pos 0) (sym (mul-one (w * 2 ^ 1074))) (subst Under (sym e) (subst (λ (n : ℕ). n < 2 ^ 2098) (sym (abs_signed s (w * 2 ^ 1074))) h.most)))

-- ---- how near it is, with l units in a whole
signed_mul : (s : Bool) (a b : ℕ) → signed s (a * b) ≡ signed s a *ℤ pos b
signed_mul false a b = refl
signed_mul true a b = sym (neg_mul (pos a) (pos b))

signed_off : (s : Bool) (a b : ℕ) → nat_abs (signed s a -ℤ signed s b) ≡ far a b
signed_off false a b = omega zs
signed_off true a b = omega zs

-- v is half of l away from w * l
tie : (v l w : ℕ) → 2 * far v (w * l) ≡ l → Tie v l w
tie v l w e = elim (order v (w * l)) [ inl h ↦ inl (omega arith) | inr h ↦ inr (omega arith) ]

-- an even number is twice another
half : (s : Bool) (w : ℕ) → w % 2 ≡ 0 → (h : ℤ) × (signed s w ≡ h *ℤ pos 2)
half s w e = (signed s (w / 2), ap (signed s) {x = w} {y = w / 2 * 2} (omega arith) ∙ signed_mul s (w / 2) 2)

-- w with the sign s is nearest to v / l with that sign
record Near (s : Bool) (v l w : ℕ) : Type 0 where
  close : 2 * nat_abs (signed s v -ℤ signed s w *ℤ pos l) ≤ l
  even : 2 * nat_abs (signed s v -ℤ signed s w *ℤ pos l) ≡ l → (h : ℤ) × (signed s w ≡ h *ℤ pos 2)

near : (s : Bool) (v l w : ℕ) → Closest v l w → Near s v l w
near s v l w c =
    let a = c.above in
    let b = c.below in
    let e : nat_abs (signed s v -ℤ signed s w *ℤ pos l) ≡ far v (w * l) = ap (λ (z : ℤ). nat_abs (signed s v -ℤ z)) (sym (signed_mul s w l)) ∙ signed_off s v (w * l) in
    record { close = omega arith; even = λ i. half s w (c.even (tie v l w (omega arith))) }

pub whole_near : (s : Bool) (m : ℕ) (e : ℤ) → T (fits binary64 (fin s m e)) → NearestWhole (fin s m e) (round_ties_even binary64 (fin s m e))
whole_near s m e f =
    let k : closest (mag m e) (2 ^ 1074) ≡ K m e = closest_same (mag m e) (2 ^ 1074) (m * up e) (down e) (pow_pos 1074) (down_pos e) (mag_is s m e f).3 in
    let c : Closest (mag m e) (2 ^ 1074) (K m e) = subst (Closest (mag m e) (2 ^ 1074)) k (closest_so (mag m e) (2 ^ 1074) (pow_pos 1074)) in
    let g = near s (mag m e) (2 ^ 1074) (K m e) c in
    record {
      n = signed s (K m e);
      is = ap val (even_is s m e) ∙ (kept_whole s (K m e) (small s m e f)).1 ∙ signed_mul s (K m e) (2 ^ 1074);
      near = g.close;
      even = g.even;
    }
