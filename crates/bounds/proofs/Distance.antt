-- From the error of the accurate step's pair to the distance of the answer: less than one unit. Assumes nothing.
use Rattle.std.proofs.Common.{◌≡◌, ℕ, suc, ◌+◌, ◌-◌, ◌*◌, ◌^◌, ◌<◌, ◌≤◌, ◌⊎◌, ℤ, pos, negsuc, ◌+ℤ◌, ◌-ℤ◌, ◌*ℤ◌, nat_abs, sym, refl, ap, ◌∙◌, subst, inl, inr, le_trans, le_of_eq, lt_of_lt_of_le, le_of_lt, mul-le-mul_right, mul-le-mul_left, mul-pos, one-mul, le_of_mul-le-mul_right, arith, lit≤, pow_pos, pow-add}
use Rattle.std.proofs.Math.IntN.{+ℤ_idr}
use Rattle.ieee.specs.Val.{val}
use Rattle.ieee.specs.Pairs.{Good}
use Rattle.ieee.proofs.Ints.{zs, abs_mul, massoc}
use Rattle.double_double.specs.declared.double_double.DoubleDouble.{DoubleDouble}
use Rattle.erfc.specs.Asymptotics.{scaled_value}
use Rattle.bounds.specs.Num.{Q, ◌⊗◌, tiny}
use Rattle.bounds.specs.Floats.{units, exactly}
use Rattle.bounds.specs.Formulas.{power_of}
use Rattle.bounds.specs.AccurateFormulas.{LessThanUnit}
use Rattle.bounds.proofs.AtScale.{Relative}
use Rattle.bounds.proofs.Over.{Over, over_units, over_tiny, over_zero, over_minus, over_add, over_mul, over_mag, over_scale, over_above, tiny_out, scaled_abs, below, positive_near}
use Rattle.bounds.proofs.Answer as W

-- ---- a whole number near a positive one
twice : (x f : ℕ) → 2 ^ 85 * nat_abs (pos x -ℤ pos f) ≤ f → (f ≤ 2 * x) × (x ≤ 2 * f)
twice x f h = (omega (zs, h), omega (zs, h))

module _ (v : DoubleDouble) (n : ℕ) (A : Q) (r : Relative v A (tiny 85) (tiny 42)) (least : A.dn * 256 + A.den ≤ A.up * 256) (most : A.up ≤ A.dn + A.den) (N : n ≤ 1069) where
  -- A in units of 2 ^ -1074 over its denominator
  abbrev d : ℕ
  d = A.den

  abbrev f : ℕ
  f = (A.up - A.dn) * 2 ^ 1074

  abbrev s : ℤ
  s = val v.hi +ℤ val v.lo

  f_over : Over A (pos f) (2 ^ 1074 * d)
  f_over = over_above A (omega (arith, least))

  f_least : 2 ^ 1066 * d ≤ f
  f_least = le_trans (mul-le-mul_left (2 ^ 1066) (omega (arith, least))) (le_of_eq (regroup (A.up - A.dn) (2 ^ 1066) (2 ^ 1074) refl))
    where
      regroup : (x l m : ℕ) → m ≡ l * 256 → l * (x * 256) ≡ x * m
      regroup x l m e = omega (arith, ap (λ (z : ℕ). x * z) e)

  f_most : f ≤ d * 2 ^ 1074
  f_most = mul-le-mul_right (2 ^ 1074) (omega (arith, most))

  near_is : 2 ^ 85 * nat_abs (s *ℤ pos d -ℤ pos f) ≤ f
  near_is = tiny_out 85 (over_scale d refl (over_add (over_units (val v.hi)) (over_units (val v.lo)))) f_over f_over r.near

  low_is : 2 ^ 42 * (nat_abs (val v.lo) * d) ≤ f
  low_is = subst (λ (z : ℕ). 2 ^ 42 * z ≤ f) (ap nat_abs (+ℤ_idr (val v.lo *ℤ pos d)) ∙ abs_mul (val v.lo) (pos d)) (tiny_out 42 (over_scale d refl (over_units (val v.lo))) (over_zero (2 ^ 1074 * d)) f_over r.low_small)

  f>0 : 0 < f
  f>0 = lt_of_lt_of_le (mul-pos (pow_pos 1066) A.ok) f_least

  abbrev a : ℕ
  a = nat_abs s

  s_is : s ≡ pos a
  s_is = positive_near s d f f>0 (omega (arith, near_is))

  a_near : 2 ^ 85 * nat_abs (pos (a * d) -ℤ pos f) ≤ f
  a_near = subst (λ (z : ℤ). 2 ^ 85 * nat_abs (z *ℤ pos d -ℤ pos f) ≤ f) s_is near_is

  a_least : 2 ^ 1065 ≤ a
  a_least = le_of_mul-le-mul_right (share (2 ^ 1065) (2 ^ 1066) a d f refl f_least (twice (a * d) f a_near).0) A.ok
    where
      share : (k l a d f : ℕ) → l ≡ 2 * k → l * d ≤ f → f ≤ 2 * (a * d) → k * d ≤ a * d
      share k l a d f e h i = omega (arith, ap (λ (z : ℕ). z * d) e, h, i)

  a_most : a ≤ 2 ^ 1075
  a_most = le_of_mul-le-mul_right (double (2 ^ 1074) (2 ^ 1075) a d f refl f_most (twice (a * d) f a_near).1) A.ok
    where
      double : (k l a d f : ℕ) → l ≡ 2 * k → f ≤ d * k → a * d ≤ 2 * f → a * d ≤ l * d
      double k l a d f e h i = omega (arith, ap (λ (z : ℕ). z * d) e, h, i)

  lo_small : 2 ^ 40 * nat_abs (val v.lo) ≤ a
  lo_small = le_of_mul-le-mul_right (omega (arith, low_is, (twice (a * d) f a_near).0)) A.ok

  lo_good : Good v.lo 1076
  lo_good = record { holds = r.operands.lo.holds; number = r.operands.lo.number; small = go (nat_abs (val v.lo)) a (2 ^ 1075) (2 ^ 1076) refl a_most lo_small }
    where
      go : (l a m k : ℕ) → k ≡ 2 * m → a ≤ m → 2 ^ 40 * l ≤ a → l ≤ k
      go l a m k e h i = omega (arith, e, h, i)

  hi_good : Good v.hi 1076
  hi_good = record { holds = r.operands.hi.holds; number = r.operands.hi.number; small = go (val v.hi) (val v.lo) a (2 ^ 1075) (2 ^ 1076) refl s_is a_most lo_small }
    where
      go : (h l : ℤ) (a m k : ℕ) → k ≡ 2 * m → h +ℤ l ≡ pos a → a ≤ m → 2 ^ 40 * nat_abs l ≤ a → nat_abs h ≤ k
      go h l a m k e g i j = omega (zs, e, g, i, j)

  result : W.Result v n a lo_good hi_good s_is (le_trans (lit≤ tt) a_least) a_most lo_small N (scaled_value v (negsuc n))
  result = W.answer_close v n a lo_good hi_good s_is (le_trans (lit≤ tt) a_least) a_most lo_small N

  abbrev w : ℤ
  w = result.w

  abbrev j : ℕ
  j = result.close.j

  abbrev P : ℕ
  P = 2 ^ suc n

  -- three quarters of a unit from the pair's sum, in either case
  quarters : 4 * nat_abs (w *ℤ pos P -ℤ pos a) ≤ 3 * (2 ^ j * P)
  quarters = elim result.close.near [ inl h ↦ h.1 | inr h ↦ omega (arith, h) ]

  -- so the sum has less than 2 ^ 54 units
  w_below : nat_abs w ≤ 2 ^ 53 * 2 ^ j
  w_below = elim result.close.unit [ inl h ↦ omega (arith, h.0, pow_pos j) | inr h ↦ subst (λ (z : ℕ). nat_abs w ≤ z) (pow-add 2 53 j) (le_of_lt h.1) ]

  a_below : a ≤ 2 ^ 54 * (2 ^ j * P)
  a_below = omega (zs, abs_mul w (pos P), mul-le-mul_right P w_below, quarters)

  -- all over 2 ^ 1074 2 ^ N d
  apart₀ : (x : ℤ) (y f u : ℕ) → 4 * nat_abs (x -ℤ pos y) ≤ 3 * u → y ≤ 2 ^ 54 * u → 2 ^ 85 * nat_abs (pos y -ℤ pos f) ≤ f → f ≤ 2 * y → 0 < u → nat_abs (x -ℤ pos f) < u
  apart₀ x y f u h k l m p = omega (zs, h, k, l, m, p)

  apart : nat_abs (w *ℤ pos P *ℤ pos d -ℤ pos f) < 2 ^ j * P * d
  apart = apart₀ (w *ℤ pos P *ℤ pos d) (a * d) f (2 ^ j * P * d)
      (subst (λ (z : ℕ). 4 * z ≤ 3 * (2 ^ j * P * d)) (sym (scaled_abs (w *ℤ pos P) (pos a) d)) (omega (arith, quarters, mul-le-mul_right d quarters)))
      (omega (arith, a_below, mul-le-mul_right d a_below)) a_near (twice (a * d) f a_near).0 (mul-pos (mul-pos (pow_pos j) (pow_pos (suc n))) A.ok)

  pub less_than_unit : LessThanUnit (scaled_value v (negsuc n)) (power_of (negsuc n) ⊗ A)
  less_than_unit = record {
    number = result.is.number;
    j = j;
    unit = subst (λ (z : ℤ). ((nat_abs z < 2 ^ 52) × (j ≡ 0)) ⊎ ((2 ^ (52 + j) ≤ nat_abs z) × (nat_abs z < 2 ^ (53 + j)))) (sym result.is.is) result.close.unit;
    near = below (over_mag (over_add x_over (over_minus g_over))) unit_over (plain (nat_abs (w *ℤ pos (P * d) -ℤ pos (1 * f))) (2 ^ j) P d (subst (λ (z : ℕ). z < 2 ^ j * P * d) same apart));
  }
    where
      plain : (e u p d : ℕ) → e < u * p * d → e + 0 < u * (p * d) + 0
      plain e u p d h = omega (arith, h)

      same : nat_abs (w *ℤ pos P *ℤ pos d -ℤ pos f) ≡ nat_abs (w *ℤ pos (P * d) -ℤ pos (1 * f))
      same = ap (λ (z : ℤ). nat_abs (z -ℤ pos f)) (massoc w (pos P) (pos d)) ∙ ap (λ (z : ℕ). nat_abs (w *ℤ pos (P * d) -ℤ pos z)) (sym (one-mul f))

      -- over 2 ^ N (2 ^ 1074 d)
      x_over : Over (exactly (scaled_value v (negsuc n))) (w *ℤ pos (P * d)) (P * (2 ^ 1074 * d))
      x_over = over_scale (P * d) (omega arith) (subst (λ (z : ℤ). Over (units (val (scaled_value v (negsuc n)))) z (2 ^ 1074)) result.is.is (over_units (val (scaled_value v (negsuc n)))))

      g_over : Over (tiny (suc n) ⊗ A) (pos 1 *ℤ pos f) (P * (2 ^ 1074 * d))
      g_over = over_mul (over_tiny (suc n)) f_over

      unit_over : Over (units (pos (2 ^ j))) (pos (2 ^ j) *ℤ pos (P * d)) (P * (2 ^ 1074 * d))
      unit_over = over_scale (P * d) (omega arith) (over_units (pos (2 ^ j)))
