-- Row and multiple of both steps are those of x alone. Assumes nothing.
use Rattle.std.proofs.Common.{◌≡◌, ℕ, suc, ◌≤◌, negsuc, sym, refl, ap, subst, lit≤}
use lib.Ieee.{Float, binary64, mul, neg}
use Rattle.ieee.specs.Whole.{Whole}
use Rattle.double_double.specs.Ops.{Ops, Meaning}
use Rattle.erfc.specs.Exponentials.{multiple, multiple_int, accurate_multiple, accurate_multiple_int}
use Rattle.erfc.specs.Rows.{Argument, fast_end, tail_end}
use Rattle.erfc.specs.Asymptotics.{reciprocal, fast_step, accurate_step}
use Rattle.erfc.proofs.Casts.{cast_is, cast_within}
use Rattle.erfc.proofs.Ranges.{fast_multiple, accurate_multiple_lem}
use Rattle.erfc.proofs.Tail.{square_is, fast_row_within, accurate_row_within}
use Rattle.bounds.specs.Promises.{OfXAlone, RowsAndMultiplesWithin}

big_whole : (x : Float) → Argument x tail_end → Whole (accurate_multiple (neg (mul binary64 x x))) 12 1070
big_whole x a = subst (λ (z : Float). Whole (accurate_multiple (neg (mul binary64 z z))) 12 1070) (sym a.is) (accurate_multiple_lem a.bits a.first a.below)

-- K is -(n + 1), from -1,070 to -12
pub big_multiple : (x : Float) → Argument x tail_end → (n : ℕ) × ((accurate_multiple_int (neg (mul binary64 x x)) ≡ negsuc n) × ((12 ≤ suc n) × (suc n ≤ 1070)))
big_multiple x a =
    let w = big_whole x a in
    (w.n, (cast_is (accurate_multiple (neg (mul binary64 x x))) 11 1069 31 w (lit≤ tt) (lit≤ tt), (w.least, w.most)))

pub of_x_alone : {S : Type 0} (o : Ops S) → Meaning o → OfXAlone o
unfolding reciprocal fast_step accurate_step
of_x_alone o m = record {
  row = λ s x a. refl;
  k = λ s x a. ap multiple_int (square_is o m s (o.product s x x).0 (o.product s x x).1 _ x fast_end a (lit≤ tt) refl refl);
  accurate_row = λ s x a. refl;
  big_k = λ s x a. ap accurate_multiple_int (square_is o m s (o.product s x x).0 (o.product s x x).1 _ x tail_end a (lit≤ tt) refl refl);
}

pub within_bounds : RowsAndMultiplesWithin
within_bounds = record {
  row_within = λ x a. fast_row_within x fast_end a (lit≤ tt) _ _ refl refl;
  k_within = λ x a. cast_within (multiple (neg (mul binary64 x x))) 48999 3999999 63 (subst (λ (z : Float). Whole (multiple (neg (mul binary64 z z))) 49000 4000000) (sym a.is) (fast_multiple a.bits a.first a.below)) (lit≤ tt) (lit≤ tt) _ refl;
  accurate_row_within = λ x a. accurate_row_within x tail_end a (lit≤ tt) _ _ refl refl;
  big_k_within = λ x a. cast_within (accurate_multiple (neg (mul binary64 x x))) 11 1069 31 (big_whole x a) (lit≤ tt) (lit≤ tt) _ refl;
}
