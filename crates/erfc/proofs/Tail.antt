-- A tail argument in every arithmetic with the meaning: its multiples of log 2 and its rows. Assumes nothing.
use Rattle.std.proofs.Common.{◌≡◌, ℕ, suc, List, length, get_or, arith, ◌<◌, ◌≤◌, T, sym, ap, ◌∙◌, subst, lt_of_lt_of_le, lt_of_le_of_lt, lit<, lit≤}
use lib.Ieee.{Float, binary64, of_bits, mul, div, neg, le, lt}
use lib.Ieee.Positive.{positive}
use Rattle.ieee.specs.Whole.{Whole}
use Rattle.ieee.specs.Meaning.{Operand}
use Rattle.ieee.proofs.Highs.{product_high}
use Rattle.double_double.specs.declared.double_double.DoubleDouble.{DoubleDouble}
use Rattle.double_double.specs.Ops.{Ops, Meaning}
use Rattle.double_double.specs.Pairs.{negated}
use Rattle.erfc.specs.Exponentials.{multiple, accurate_multiple}
use Rattle.erfc.specs.Rows.{Argument, tail_first, first_not_below, fast_thresholds, accurate_thresholds, fast_row, accurate_row, fast_end, tail_end}
use Rattle.erfc.specs.Asymptotics.{one, reciprocal}
use Rattle.erfc.proofs.Ranges.{tail_operand, square_positive, fast_multiple, accurate_multiple_lem, first, not_passed}
use Rattle.erfc.proofs.Search.{row_within}

module _ (x : Float) (end : ℕ) (a : Argument x end) (q : end ≤ tail_end) where
  under : a.bits < tail_end
  under = lt_of_lt_of_le a.below q

  pub operand : Operand x
  operand = subst Operand (sym a.is) (tail_operand a.bits a.first under)

  -- no tail argument passes threshold i, where the first one does not
  row_at : (ts : List ℕ) (i : ℕ) → i < length ts → T (positive (of_bits binary64 (get_or ts i 0))) → T (le (div binary64 one first) (of_bits binary64 (get_or ts i 0))) →
      (y : Float) (r : ℕ) → y ≡ div binary64 one x → r ≡ first_not_below ts y → r < suc i
  row_at ts i h u v y r e f =
      let t = ap (λ (z : Float). lt (of_bits binary64 (get_or ts i 0)) z) (e ∙ ap (div binary64 one) a.is) ∙ not_passed (of_bits binary64 (get_or ts i 0)) u v a.bits a.first under in
      subst (λ (n : ℕ). n < suc i) (sym f) (lt_of_le_of_lt (row_within ts y i h t) (omega arith))

  pub fast_row_within : (y : Float) (r : ℕ) → y ≡ div binary64 one x → r ≡ fast_row y → r < 6
  unfolding of_bits div le
  fast_row_within = row_at fast_thresholds 5 (lit< tt) tt tt

  pub accurate_row_within : (y : Float) (r : ℕ) → y ≡ div binary64 one x → r ≡ accurate_row y → r < 7
  unfolding of_bits div le
  accurate_row_within = row_at accurate_thresholds 6 (lit< tt) tt tt

module _ {S : Type 0} (o : Ops S) (m : Meaning o) where
  -- the negated square that the exponentials are given: hi is the rounded square itself, since that is not zero
  pub square_is : (s s' : S) (u v : DoubleDouble) (x : Float) (end : ℕ) → Argument x end → end ≤ tail_end → (s', u) ≡ o.product s x x → v ≡ negated u → v.hi ≡ neg (mul binary64 x x)
  square_is s s' u v x end a q p e =
      let h = operand x end a q in
      let w = m.product s x x h h in
      ap (λ (d : DoubleDouble). d.hi) e ∙ ap neg (ap (λ d. d.1.hi) p ∙ product_high x x _ h h w.high w.nearest (subst (λ (z : Float). T (positive (mul binary64 z z))) (sym a.is) (square_positive a.bits a.first (lt_of_lt_of_le a.below q))))

  pub fast_whole : (s s' : S) (u v : DoubleDouble) (x : Float) → Argument x fast_end → (s', u) ≡ o.product s x x → v ≡ negated u → Whole (multiple v.hi) 49000 4000000
  fast_whole s s' u v x a p e =
      subst (λ (z : Float). Whole (multiple z) 49000 4000000)
      (sym (square_is s s' u v x fast_end a (lit≤ tt) p e ∙ ap (λ (z : Float). neg (mul binary64 z z)) a.is))
      (fast_multiple a.bits a.first a.below)

  pub accurate_whole : (s s' : S) (u v : DoubleDouble) (x : Float) → Argument x tail_end → (s', u) ≡ o.product s x x → v ≡ negated u → Whole (accurate_multiple v.hi) 12 1070
  accurate_whole s s' u v x a p e =
      subst (λ (z : Float). Whole (accurate_multiple z) 12 1070)
      (sym (square_is s s' u v x tail_end a (lit≤ tt) p e ∙ ap (λ (z : Float). neg (mul binary64 z z)) a.is))
      (accurate_multiple_lem a.bits a.first a.below)

module _ {S : Type 0} (o : Ops S) (s s' : S) (y : DoubleDouble) (x : Float) (r : ℕ) where
  pub fast_row_of : Argument x fast_end → (s', y) ≡ reciprocal o s x → r ≡ fast_row y.hi → r < 6
  unfolding reciprocal
  fast_row_of a p = fast_row_within x fast_end a (lit≤ tt) y.hi r (ap (λ w. w.1.hi) p)

  pub accurate_row_of : Argument x tail_end → (s', y) ≡ reciprocal o s x → r ≡ accurate_row y.hi → r < 7
  unfolding reciprocal
  accurate_row_of a p = accurate_row_within x tail_end a (lit≤ tt) y.hi r (ap (λ w. w.1.hi) p)

pub argument : (bits : ℕ) {end : ℕ} {x : Float} → tail_first ≤ bits → bits < end → x ≡ of_bits binary64 bits → Argument x end
argument bits p q e = record { bits = bits; is = e; first = p; below = q }
