-- A fast answer is the f64 nearest to F(x): the two ends of the rounding test round to one f64, and F(x) lies between them. Assumes nothing.
use Rattle.std.proofs.Common.{◌≡◌, ℕ, suc, ◌+◌, ◌*◌, ◌^◌, ◌<◌, ◌≤◌, Bool, true, false, T, ◌⊎◌, ℤ, pos, negsuc, ◌+ℤ◌, ◌-ℤ◌, ◌*ℤ◌, nat_abs, sym, refl, ap, ◌∙◌, subst, inl, inr, mul-le-mul_right, mul-pos, le_of_mul-le-mul_right, arith, lit<, lit≤}
use native.Mathlib.Nat.{eq_of_mul-eq-mul_right}
use borrow.Author.Differences.{up, down}
use lib.Ieee.{Float, binary64, add, sub, eq}
use lib.Ieee.Order.{drop}
use Rattle.ieee.specs.Val.{val, rz, rnd, signed, Mult}
use Rattle.ieee.specs.Pairs.{Good}
use Rattle.ieee.specs.Meaning.{Number}
use Rattle.ieee.specs.Nearest.{apart, EvenEnd, Nearest}
use Rattle.ieee.proofs.Ints.{zs}
use Rattle.ieee.proofs.Whole.{order}
use Rattle.ieee.proofs.Bridge.{val_repr, abs_signed}
use Rattle.ieee.proofs.Ties.{Best, best}
use Rattle.ieee.proofs.Compare.{Upto, eq_out}
use Rattle.ieee.proofs.Floats.{good_up, good_add, good_sub}
use Rattle.ieee.proofs.Highs.{good_operand}
use Rattle.double_double.specs.Ops.{Ops, Meaning}
use Rattle.erfc.specs.Rows.{Argument, fast_end}
use Rattle.erfc.specs.Asymptotics.{fast_step}
use Rattle.erfc.specs.Ends.{left_end, right_end}
use Rattle.bounds.specs.Num.{Q, ◌⊕◌}
use Rattle.bounds.specs.Floats.{above, exactly}
use Rattle.bounds.specs.Formulas.{formula, AtLeast}
use Rattle.bounds.specs.Nearests.{NearestTo}
use Rattle.bounds.proofs.Over.{Over, over_units, over_add, over_scale, scaled_abs, over_own}
use Rattle.bounds.proofs.Bracket as B
use Rattle.bounds.proofs.FastAll.{err_is, fast_result, fast_bracketed}
use Rattle.bounds.proofs.Sizes.{good_number}

-- ---- a distance, times the denominator
scaled : (y z : ℤ) (d : ℕ) → nat_abs (y *ℤ pos d -ℤ z *ℤ pos d) ≡ nat_abs (y *ℤ pos 1 -ℤ z) * d
scaled y z d = scaled_abs y z d ∙ ap (λ (t : ℤ). nat_abs (t -ℤ z) * d) (sym (omega zs))

scaled_le : (v y z : ℤ) (d : ℕ) → nat_abs (v *ℤ pos 1 -ℤ z) ≤ nat_abs (y *ℤ pos 1 -ℤ z) → nat_abs (v *ℤ pos d -ℤ z *ℤ pos d) ≤ nat_abs (y *ℤ pos d -ℤ z *ℤ pos d)
scaled_le v y z d h = rw (scaled v z d, scaled y z d) (mul-le-mul_right d h)

unscaled : (v y z : ℤ) (d : ℕ) → 0 < d → nat_abs (v *ℤ pos d -ℤ z *ℤ pos d) ≡ nat_abs (y *ℤ pos d -ℤ z *ℤ pos d) → nat_abs (v *ℤ pos 1 -ℤ z) ≡ nat_abs (y *ℤ pos 1 -ℤ z)
unscaled v y z d p e = eq_of_mul-eq-mul_right d p _ _ (sym (scaled v z d) ∙ e ∙ scaled y z d)

-- nearest to both ends, so nearest to what lies between them
pub nearest_between : (l r a : ℤ) (d : ℕ) (v : Float) → 0 < d → Upto (l *ℤ pos d) a → Upto a (r *ℤ pos d) → Nearest l 1 v → Nearest r 1 v → Nearest a d v
nearest_between l r a d v p h i L R = record {
  number = L.number;
  nearest = λ y n. omega (zs, h, i, scaled_le (val v) (val y) l d (L.nearest y n), scaled_le (val v) (val y) r d (R.nearest y n));
  even = λ y n e. tie y n e (order (up (val v *ℤ pos d) + down (val y *ℤ pos d)) (up (val y *ℤ pos d) + down (val v *ℤ pos d)));
}
  where
    weaken : (x y : ℤ) → up y + down x < up x + down y → Upto y x
    weaken x y h = omega arith

    -- where y is as near, it is as near to l or to r too
    tie : (y : Float) → Number y → apart a d v ≡ apart a d y → Upto (val v *ℤ pos d) (val y *ℤ pos d) ⊎ (up (val y *ℤ pos d) + down (val v *ℤ pos d) < up (val v *ℤ pos d) + down (val y *ℤ pos d)) → (val y ≡ val v) ⊎ EvenEnd v
    tie y n e (inl o) = R.even y n (unscaled (val v) (val y) r d p (omega (zs, i, o, scaled_le (val v) (val y) r d (R.nearest y n), e)))
    tie y n e (inr o) = L.even y n (unscaled (val v) (val y) l d p (omega (zs, h, weaken (val v *ℤ pos d) (val y *ℤ pos d) o, scaled_le (val v) (val y) l d (L.nearest y n), e)))

-- ---- what rounds a whole number of units is nearest to it
best_at : (s : Bool) (n : ℕ) (v y : Float) → Number y → val v ≡ signed s (rnd n 1) → Best (signed s n) 1 (val v) (EvenEnd v) (val y)
best_at s n v y m e =
    let k : drop 53 (rnd n 1) 1 ≡ drop 53 (nat_abs (val v)) 1 = ap (λ (x : ℕ). drop 53 x 1) (sym (ap nat_abs e ∙ abs_signed s (rnd n 1))) in
    let b = best s n 1 (val y) (lit< tt) (val_repr y m.holds) in
    subst (λ (t : ℤ). Best (signed s n) 1 t (EvenEnd v) (val y)) (sym e)
    (b.0, λ i. elim (b.1 i) [ inl j ↦ inl j | inr j ↦ inr (subst (λ (l : ℕ). Mult (suc l) (val v)) k (subst (Mult (suc (drop 53 (rnd n 1) 1))) (sym e) j)) ])

pub rounded_nearest : (z : ℤ) (v : Float) → Number v → val v ≡ rz z → Nearest z 1 v
rounded_nearest (pos n) v m e = record { number = m; nearest = λ y k. (best_at false n v y k e).0; even = λ y k. (best_at false n v y k e).1 }
rounded_nearest (negsuc n) v m e = record { number = m; nearest = λ y k. (best_at true (suc n) v y k e).0; even = λ y k. (best_at true (suc n) v y k e).1 }

-- ---- from numbers to integers: x / k is at most y / k
at_most : {a b : Q} {x y : ℤ} {k : ℕ} → Over a x k → Over b y k → AtLeast b a → Upto x y
at_most {a} {b} {x} {y} {k} h i l = le_of_mul-le-mul_right (omega (arith, h.is, i.is, l.le, ap (λ (z : ℕ). z * b.den) h.is, ap (λ (z : ℕ). z * a.den) i.is, mul-le-mul_right k l.le)) (mul-pos a.ok b.ok)

-- hi and an end, over the same denominator
over_end : (F : Q) (hi e : Float) → Over (exactly hi ⊕ exactly e) ((val hi +ℤ val e) *ℤ pos F.den) (2 ^ 1074 * F.den)
over_end F hi e = over_scale F.den refl (over_add (over_units (val hi)) (over_units (val e)))

-- ---- the ends of the rounding test
-- F lies between hi + a and hi + b, and these round to one f64
ends_nearest : (F : Q) (hi a b : Float) (j : ℕ) → Good hi j → Good a j → Good b j → suc j < 2098 → AtLeast F (exactly hi ⊕ exactly a) → AtLeast (exactly hi ⊕ exactly b) F
    → eq (add binary64 hi a) (add binary64 hi b) ≡ true → NearestTo F (add binary64 hi a)
ends_nearest F hi a b j gh ga gb h l r e =
    let A = good_add hi a j gh ga h in
    let B = good_add hi b j gh gb h in
    let n : Number (add binary64 hi a) = good_number A.0 in
    let s = eq_out (add binary64 hi a) (add binary64 hi b) A.0.holds B.0.holds A.0.number B.0.number (subst T (sym e) tt) in
    nearest_between (val hi +ℤ val a) (val hi +ℤ val b) ((pos F.up -ℤ pos F.dn) *ℤ pos (2 ^ 1074)) F.den (add binary64 hi a) F.ok
    (at_most (over_end F hi a) (over_own F) l) (at_most (over_own F) (over_end F hi b) r)
    (rounded_nearest (val hi +ℤ val a) (add binary64 hi a) n A.1) (rounded_nearest (val hi +ℤ val b) (add binary64 hi a) n (s ∙ B.1))

module _ {S : Type 0} (o : Ops S) (m : Meaning o) where
  -- err is no larger than an operand
  err_good : (s : S) (x : Float) (p : 0 < above (val x)) → Argument x fast_end → Good (fast_step o s x).1.erf.err 1474
  err_good s x p a =
      let f = (fast_step o s x).1 in
      let r = fast_result o m s x p a in
      subst (λ (e : Float). Good e 1474) (sym (err_is o m s x)) (B.err f.erf.result (formula x p f.row f.k) r.positive r.pair).good

  pub fast_nearest : (s : S) (x : Float) (p : 0 < above (val x)) → Argument x fast_end
      → eq (left_end (fast_step o s x).1.erf) (right_end (fast_step o s x).1.erf) ≡ true
      → NearestTo (formula x p (fast_step o s x).1.row (fast_step o s x).1.k) (left_end (fast_step o s x).1.erf)
  fast_nearest s x p a e =
      let f = (fast_step o s x).1 in
      let lo = f.erf.result.lo in
      let hi = f.erf.result.hi in
      let r = fast_result o m s x p a in
      let b = fast_bracketed o m s x p a in
      let l = good_operand lo r.pair.operands.lo in
      let g = err_good s x p a in
      ends_nearest (formula x p f.row f.k) hi (sub binary64 lo f.erf.err) (add binary64 lo f.erf.err) 1475 (good_up hi 1474 1475 (lit≤ tt) (good_operand hi r.pair.operands.hi))
      (good_sub lo f.erf.err 1474 l g (lit< tt)).0 (good_add lo f.erf.err 1474 l g (lit< tt)).0 (lit< tt) b.left b.right e
