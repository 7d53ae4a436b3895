-- The square of the pair for 1/x in every arithmetic with the meaning, from the bounds of that pair over whole numbers. Assumes nothing.
use Rattle.std.proofs.Common.{◌≡◌, ℕ, ◌+◌, ◌*◌, ◌^◌, ◌<◌, ◌≤◌, ℤ, pos, ◌+ℤ◌, ◌-ℤ◌, ◌*ℤ◌, nat_abs, sym, refl, ap, ◌∙◌, subst, le_trans, le_of_eq, lt_of_le_of_lt, mul-le-mul_right, mul-le-mul, arith, lit<, lit≤, pow_pos}
use lib.Ieee.{Float, binary64, fits, of_bits, mul}
use lib.Ieee.Fits.{mul-fits}
use Rattle.ieee.specs.Val.{val, rz, Under}
use Rattle.ieee.specs.Meaning.{Number, Operand}
use Rattle.ieee.proofs.Ints.{zs, abs_mul, massoc, mcomm, dist, cancel_le}
use Rattle.ieee.proofs.Whole.{rounds, exact}
use Rattle.ieee.proofs.Bridge.{val_repr}
use Rattle.ieee.proofs.Scaled.{repr_scale}
use Rattle.ieee.proofs.Fractions.{mul_whole, rq_error}
use Rattle.ieee.proofs.Tools.{abs_sub, lin}
use Rattle.double_double.specs.declared.double_double.DoubleDouble.{DoubleDouble}
use Rattle.double_double.specs.Ops.{Ops, Meaning}
use Rattle.erfc.specs.Asymptotics.{two, squared}
use Rattle.bounds.specs.Num.{◌⊕◌, ◌⊗◌, whole, tiny}
use Rattle.bounds.specs.Floats.{exactly}
use Rattle.bounds.specs.Reciprocals.{Square}
use Rattle.bounds.proofs.Over.{Over, over_units, over_tiny, over_add, over_mul}
use Rattle.bounds.proofs.WholeBounds.{within_one, within_zero}
use Rattle.bounds.proofs.WholeReciprocal.{Inverse}
use Rattle.bounds.proofs.WholeSquare.{square_high_near, square_low_small, square_pair_near}

-- ---- the operands are small
-- z is at most c where x z is, since x is at least 1
size : (X l c : ℕ) (z : ℤ) → 0 < l → l ≤ X → nat_abs (pos X *ℤ z) ≤ c * (l * l) → nat_abs z ≤ c * l
size X l c z L h k = go (nat_abs z) (subst (λ (n : ℕ). n ≤ c * (l * l)) (abs_mul (pos X) z) k)
  where
    go : (n : ℕ) → X * n ≤ c * (l * l) → n ≤ c * l
    go n k = cancel_le l n (c * l) L (omega (arith, mul-le-mul_right n h))

-- the low part of the product y y, of g + g'
rest_most : (g g' y : ℤ) (l : ℕ) → 2 ^ 10 ≤ l → 0 < l → nat_abs y ≤ 2 * l → 2 ^ 53 * nat_abs (g *ℤ pos l -ℤ y *ℤ y) ≤ nat_abs (y *ℤ y) + 2 ^ 52 * l → 2 ^ 104 * nat_abs ((g +ℤ g') *ℤ pos l -ℤ y *ℤ y) ≤ nat_abs (y *ℤ y) + 2 ^ 108 * l → nat_abs g' ≤ 9 * l
rest_most g g' y l i L h a b =
    let e : g' *ℤ pos l ≡ ((g +ℤ g') *ℤ pos l -ℤ y *ℤ y) -ℤ (g *ℤ pos l -ℤ y *ℤ y) = omega lin ∙ ap (λ (z : ℤ). (z -ℤ y *ℤ y) -ℤ (g *ℤ pos l -ℤ y *ℤ y)) (sym (dist g g' (pos l))) in
    go (nat_abs g') (nat_abs (g' *ℤ pos l)) (nat_abs ((g +ℤ g') *ℤ pos l -ℤ y *ℤ y)) (nat_abs (g *ℤ pos l -ℤ y *ℤ y)) (nat_abs y) (nat_abs (y *ℤ y)) (abs_mul g' (pos l))
    (le_trans (le_of_eq (ap nat_abs e)) (abs_sub ((g +ℤ g') *ℤ pos l -ℤ y *ℤ y) (g *ℤ pos l -ℤ y *ℤ y))) (abs_mul y y) h a b
  where
    go : (g G d e y p : ℕ) → G ≡ g * l → G ≤ d + e → p ≡ y * y → y ≤ 2 * l → 2 ^ 53 * e ≤ p + 2 ^ 52 * l → 2 ^ 104 * d ≤ p + 2 ^ 108 * l → g ≤ 9 * l
    go g G d e y p a b c h j k = let q : y * y ≤ 2 * l * (2 * l) = mul-le-mul h h in cancel_le l g (9 * l) L (omega (arith, mul-le-mul_right l i))

-- ---- 2 y is exact
two_is : val two ≡ pos (2 * 2 ^ 1074)
unfolding of_bits
two_is = refl

two_number : Number two
unfolding of_bits fits
two_number = record { holds = tt; number = tt }

twice : (y : Float) → Number y → nat_abs (val y) ≤ 2 * 2 ^ 1074 → Operand (mul binary64 two y) × (val (mul binary64 two y) ≡ val y +ℤ val y)
twice y n h =
    let p = val y *ℤ pos (2 ^ 1) in
    let e : rz p ≡ p = exact p (rz p) (rounds p) (repr_scale (val y) 1 (val_repr y n.holds)) in
    let b : nat_abs p ≤ 2 ^ 1076 = le_trans (le_of_eq (abs_mul (val y) (pos (2 ^ 1)))) (mul-le-mul_right (2 ^ 1) h) in
    let f : val two *ℤ val y ≡ p *ℤ pos (2 ^ 1074) = ap (λ (z : ℤ). z *ℤ val y) two_is ∙ mcomm (pos (2 * 2 ^ 1074)) (val y) ∙ sym (massoc (val y) (pos (2 ^ 1)) (pos (2 ^ 1074))) in
    let w = mul_whole two y p two_number.holds n.holds two_number.number n.number f (subst Under (sym e) (lt_of_le_of_lt b (lit< tt))) in
    (record { holds = mul-fits binary64 two y; number = w.0; small = le_trans (le_of_eq (ap nat_abs (w.1 ∙ e))) (le_trans b (lit≤ tt)) }, w.1 ∙ e ∙ omega zs)

module _ {S : Type 0} (o : Ops S) (m : Meaning o) where
  pub square_of : (s : S) (x : Float) (y : DoubleDouble) → Inverse x y.lo y.hi → Square x (squared o s y).1
  unfolding squared
  square_of s x y v =
      let L = pow_pos 1074 in
      let Y = val y.hi in
      let Y' = val y.lo in
      let yh = size v.X (2 ^ 1074) 2 Y L v.least (omega (zs, v.high_near)) in
      let yl = size v.X (2 ^ 1074) 1 Y' L v.least (omega (arith, v.low_small)) in
      let H : Operand y.hi = record { holds = v.high.holds; number = v.high.number; small = le_trans yh (lit≤ tt) } in
      let H' : Operand y.lo = record { holds = v.low.holds; number = v.low.number; small = le_trans yl (lit≤ tt) } in
      let u = o.product s y.hi y.hi in
      let p = m.product s y.hi y.hi H H in
      let G = val u.1.hi in
      let G' = val u.1.lo in
      let e₁ : 2 ^ 53 * nat_abs (G *ℤ pos (2 ^ 1074) -ℤ Y *ℤ Y) ≤ nat_abs (Y *ℤ Y) + 2 ^ 52 * 2 ^ 1074
      = subst (λ (z : ℤ). 2 ^ 53 * nat_abs (z *ℤ pos (2 ^ 1074) -ℤ Y *ℤ Y) ≤ nat_abs (Y *ℤ Y) + 2 ^ 52 * 2 ^ 1074) (sym p.nearest) (rq_error (Y *ℤ Y) (2 ^ 1074) L) in
      let g = rest_most G G' Y (2 ^ 1074) (lit≤ tt) L yh e₁ p.within in
      let t = twice y.hi v.high yh in
      let c = m.multiply_add u.0 (mul binary64 two y.hi) y.lo u.1.lo t.0 H' (record { holds = p.low.holds; number = p.low.number; small = le_trans g (lit≤ tt) }) in
      let I = val (o.multiply_add u.0 (mul binary64 two y.hi) y.lo u.1.lo).1 in
      let e₃ = subst (λ (z : ℤ). 2 ^ 103 * nat_abs (I *ℤ pos (2 ^ 1074) -ℤ (z *ℤ Y' +ℤ G' *ℤ pos (2 ^ 1074))) ≤ 2 ^ 50 * nat_abs (z *ℤ Y' +ℤ G' *ℤ pos (2 ^ 1074)) + (nat_abs (z *ℤ Y') + nat_abs (G' *ℤ pos (2 ^ 1074))) + 2 ^ 107 * 2 ^ 1074) t.1 c.within in
      let X : Over (exactly x) (pos v.X) (2 ^ 1074) = subst (λ (z : ℤ). Over (exactly x) z (2 ^ 1074)) v.is (over_units (val x)) in
      let n = 2 ^ 1074 * 2 ^ 1074 * 2 ^ 1074 in
      record {
        low = c.answer;
        high = p.high;
        near = within_one (exactly x ⊗ exactly x ⊗ (exactly u.1.hi ⊕ exactly (o.multiply_add u.0 (mul binary64 two y.hi) y.lo u.1.lo).1)) (tiny 98) (pos v.X *ℤ pos v.X *ℤ (G +ℤ I)) n 1 98 (pow_pos 3222)
            (over_mul (over_mul X X) (over_add (over_units G) (over_units I))) (over_tiny 98) (square_pair_near v.X (2 ^ 1074) Y Y' G G' I e₁ p.within e₃ v.near v.high_near v.low_small v.greatest (lit≤ tt) L);
        high_near = within_one (exactly x ⊗ exactly x ⊗ exactly u.1.hi) (whole 4 ⊗ tiny 53) (pos v.X *ℤ pos v.X *ℤ G) n 4 53 (pow_pos 3222)
            (over_mul (over_mul X X) (over_units G)) (record { is = refl }) (square_high_near v.X (2 ^ 1074) Y Y' G G' I e₁ p.within e₃ v.near v.high_near v.low_small v.greatest (lit≤ tt) L);
        low_small = within_zero (exactly x ⊗ exactly x ⊗ exactly (o.multiply_add u.0 (mul binary64 two y.hi) y.lo u.1.lo).1) (tiny 51) (pos v.X *ℤ pos v.X *ℤ I) n 1 51 (pow_pos 3222)
            (over_mul (over_mul X X) (over_units I)) (over_tiny 51) (square_low_small v.X (2 ^ 1074) Y Y' G G' I e₁ p.within e₃ v.near v.high_near v.low_small v.greatest (lit≤ tt) L);
      }
