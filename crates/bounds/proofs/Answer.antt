-- The scaled answer: what `scaled_value` gives of a pair of f64, in units. Assumes nothing.
use Rattle.std.proofs.Common.{◌≡◌, ℕ, suc, ◌*◌, ◌^◌, ◌<◌, ◌≤◌, Bool, true, false, cond, T, ℤ, pos, negsuc, ◌+ℤ◌, ◌-ℤ◌, ◌*ℤ◌, nat_abs, sym, refl, ap, ◌∙◌, subst, inl, inr, true≢false, le_trans, lt_of_le_of_lt, le_of_lt, mul-le-mul, mul-one, arith, lit<, lit≤, pow_pos, pow_mono}
use Rattle.std.proofs.Math.IntN.{+ℤ_comm}
use lib.Ieee.{Float, binary64, of_bits, add, sub, lt}
use lib.Ieee.Bits.{of_bits-fits}
use Rattle.ieee.specs.Val.{val, rnd, rz, rq, Under, Mult}
use Rattle.ieee.specs.Pairs.{Good}
use Rattle.ieee.proofs.Ints.{zs, abs_le}
use Rattle.ieee.proofs.Whole.{order, rounds, exact}
use Rattle.ieee.proofs.Floats.{good_add, good_sub, good_up}
use Rattle.ieee.proofs.Tiny.{repr_small}
use Rattle.ieee.proofs.Compare.{Below, lt_out, lt_in}
use Rattle.ieee.proofs.Thresholds.{rnd_at_least, rnd_at_most}
use Rattle.double_double.specs.declared.double_double.DoubleDouble.{DoubleDouble}
use Rattle.double_double.specs.Pairs.{rounded_sum}
use Rattle.erfc.specs.Scaling.{ldexp_of}
use Rattle.erfc.specs.Asymptotics.{min_normal, scaled_value}
use Rattle.bounds.proofs.Multiples.{multiple_from}
use Rattle.bounds.proofs.Units.{Close, Lost, normal_close, lost, corrected}
use Rattle.bounds.proofs.Ldexp.{IsNumber, grown, scaled_is, Halved, halved}
use Rattle.bounds.proofs.Sizes.{good_number}

-- the sum of the pair is a, from 2 ^ -20 to 2 in size; the low part is at most 2 ^ -40 of it
module _ (v : DoubleDouble) (n a : ℕ) (lo : Good v.lo 1076) (hi : Good v.hi 1076) (sum : val v.hi +ℤ val v.lo ≡ pos a) (least : 2 ^ 1054 ≤ a) (most : a ≤ 2 ^ 1075) (low : 2 ^ 40 * nat_abs (val v.lo) ≤ a) (N : n ≤ 1069) where
  abbrev P : ℕ
  P = 2 ^ suc n

  abbrev first : Float
  first = rounded_sum v

  first_is : IsNumber first (pos (rnd a 1))
  first_is =
      let g = good_add v.lo v.hi 1076 lo hi (lit< tt) in
      record { number = good_number g.0; is = g.1 ∙ ap rz (+ℤ_comm (val v.lo) (val v.hi) ∙ sum) }

  first_large : 2 ^ 1054 ≤ rnd a 1
  first_large = rnd_at_least a 1 1054 (omega arith) (subst (λ (z : ℕ). z ≤ a) (sym (mul-one (2 ^ 1054))) least)

  first_small : rnd a 1 ≤ 2 ^ 1075
  first_small = rnd_at_most a 1 1075 (omega arith) (subst (λ (z : ℕ). a ≤ z) (sym (mul-one (2 ^ 1075))) most)

  -- 53 digits from 2 ^ 1054 on: the last is far above 2 ^ 970
  first_multiple : Mult 970 (val first)
  first_multiple = multiple_from 970 first first_is.number.holds (subst (λ (z : ℤ). 2 ^ 52 * 2 ^ 970 ≤ nat_abs z) (sym first_is.is) (le_trans (lit≤ tt) first_large))

  -- ---- divided by 2 ^ N
  abbrev units : ℕ
  units = rnd (rnd a 1) P

  abbrev scaled : Float
  scaled = ldexp_of first (negsuc n)

  units_small : units ≤ 2 ^ 1075
  units_small = rnd_at_most (rnd a 1) P 1075 (pow_pos (suc n)) (grown (rnd a 1) (2 ^ 1075) P first_small (pow_pos (suc n)))

  scaled_units : IsNumber scaled (pos units)
  scaled_units =
      let e : rq (val first *ℤ pos 1) P ≡ pos units = ap (λ (z : ℤ). rq (z *ℤ pos 1) P) first_is.is ∙ ap (λ (z : ℕ). pos (rnd z P)) (mul-one (rnd a 1)) in
      subst (IsNumber scaled) e (scaled_is first (negsuc n) first_is.number (λ t. first_multiple) (subst Under (sym e) (lt_of_le_of_lt units_small (lit< tt))))

  -- ---- a normal result
  min_is : IsNumber min_normal (pos (2 ^ 52))
  unfolding of_bits
  min_is = record { number = record { holds = of_bits-fits binary64 0x0010000000000000; number = tt }; is = refl }

  pub record Result (x : Float) : Type 0 where
    pub w : ℤ
    pub is : IsNumber x w
    pub close : Close a w n

  large : lt scaled min_normal ≡ false → 2 ^ 52 ≤ units
  large e = elim (order (2 ^ 52) units) [
    | inl g ↦ g
    | inr g ↦ absurd (subst T e (lt_in scaled min_normal scaled_units.number.holds min_is.number.holds scaled_units.number.number min_is.number.number (omega (zs, scaled_units.is, min_is.is, g))))
  ]

  few : lt scaled min_normal ≡ true → units < 2 ^ 52
  few e = under_it (val scaled) (val min_normal) units scaled_units.is min_is.is (lt_out scaled min_normal scaled_units.number.holds min_is.number.holds scaled_units.number.number min_is.number.number (subst T (sym e) tt))
    where
      under_it : (x y : ℤ) (u : ℕ) → x ≡ pos u → y ≡ pos (2 ^ 52) → Below x y → u < 2 ^ 52
      under_it x y u e f g = omega (zs, e, f, g)

  -- ---- a subnormal result and its correction
  module _ (few : units < 2 ^ 52) where
    abbrev back : Float
    back = ldexp_of scaled (pos (suc n))

    back_small : units * P ≤ 2 ^ 1122
    back_small = le_trans (mul-le-mul (le_of_lt few) (pow_mono {i = suc n} {j = 1070} (omega arith))) (lit≤ tt)

    back_whole : rz (pos (units * P)) ≡ pos (units * P)
    back_whole = exact (pos (units * P)) (rz (pos (units * P))) (rounds (pos (units * P))) (record { q = pos units; j = suc n; small = (omega (arith, few), omega arith); is = refl })

    back_is : IsNumber back (pos (units * P))
    back_is =
        let e : rq (val scaled *ℤ pos P) 1 ≡ pos (units * P) = ap (λ (z : ℤ). rq (z *ℤ pos P) 1) scaled_units.is ∙ back_whole in
        subst (IsNumber back) e (scaled_is scaled (pos (suc n)) scaled_units.number (λ t. absurd (true≢false (sym t))) (subst Under (sym e) (lt_of_le_of_lt back_small (lit< tt))))

    abbrev gap : Float
    gap = sub binary64 v.hi back

    gap_is : Good gap 1123 × (val gap ≡ rz (val v.hi -ℤ pos (units * P)))
    gap_is =
        let g = good_sub v.hi back 1122 (good_up v.hi 1076 1122 (lit≤ tt) hi) (record { holds = back_is.number.holds; number = back_is.number.number; small = subst (λ (z : ℤ). nat_abs z ≤ 2 ^ 1122) (sym back_is.is) back_small }) (lit< tt) in
        (g.0, g.1 ∙ ap (λ (z : ℤ). rz (val v.hi -ℤ z)) back_is.is)

    abbrev rest : Float
    rest = add binary64 gap v.lo

    rest_is : IsNumber rest (rz (rz (val v.hi -ℤ pos (units * P)) +ℤ val v.lo))
    rest_is =
        let g = good_add gap v.lo 1123 gap_is.0 (good_up v.lo 1076 1123 (lit≤ tt) lo) (lit< tt) in
        record { number = good_number g.0; is = g.1 ∙ ap (λ (z : ℤ). rz (z +ℤ val v.lo)) gap_is.1 }

    rest_lost : Lost a units (val rest) n
    rest_lost = subst (λ (z : ℤ). Lost a units z n) (sym rest_is.is) (lost a n (val v.hi) (val v.lo) sum low few)

    correction : Halved rest n
    correction = halved rest n rest_is.number (omega arith) rest_lost.size

    abbrev c : ℤ
    c = correction.c

    sum_close : (nat_abs (pos units +ℤ c) ≤ 2 ^ 52) × Close a (pos units +ℤ c) n
    sum_close = corrected a units n (val rest) c rest_lost few correction.near

    subnormal : Result (add binary64 scaled (ldexp_of rest (negsuc n)))
    subnormal =
        let d = ldexp_of rest (negsuc n) in
        let D = correction.is in
        let g = good_add scaled d 1076 (record { holds = scaled_units.number.holds; number = scaled_units.number.number; small = subst (λ (z : ℤ). nat_abs z ≤ 2 ^ 1076) (sym scaled_units.is) (le_trans units_small (lit≤ tt)) })
        (record { holds = D.number.holds; number = D.number.number; small = subst (λ (z : ℤ). nat_abs z ≤ 2 ^ 1076) (sym D.is) (le_trans (part units c few sum_close.0) (lit≤ tt)) }) (lit< tt) in
        record {
          w = pos units +ℤ c;
          is = record {
            number = good_number g.0;
            is = g.1 ∙ ap rz (λ i. scaled_units.is i +ℤ D.is i) ∙ exact (pos units +ℤ c) (rz (pos units +ℤ c)) (rounds (pos units +ℤ c)) (repr_small (pos units +ℤ c) (abs_le (pos units +ℤ c) (2 ^ 53) (le_trans sum_close.0 (lit≤ tt))));
          };
          close = sum_close.1;
        }
      where
        part : (u : ℕ) (c : ℤ) → u < 2 ^ 52 → nat_abs (pos u +ℤ c) ≤ 2 ^ 52 → nat_abs c ≤ 2 ^ 53
        part u c h k = omega (zs, h, k)

  -- ---- the answer
  pub answer_close : Result (scaled_value v (negsuc n))
  unfolding scaled_value
  answer_close = go (lt scaled min_normal) refl
    where
      go : (b : Bool) → lt scaled min_normal ≡ b → Result (cond b (add binary64 scaled (ldexp_of (add binary64 (sub binary64 v.hi (ldexp_of scaled (pos (suc n)))) v.lo) (negsuc n))) scaled)
      go true e = subnormal (few e)
      go false e = record { w = pos units; is = scaled_units; close = normal_close a n (large e) }
