-- A negative whole float within bounds is cast to an integer without loss. Assumes nothing.
use Rattle.std.proofs.Common.{◌≡◌, ℕ, suc, ◌^◌, ◌≤◌, T, ℤ, negsuc, ◌≤ℤ◌, sym, ap, ◌∙◌, subst, le_trans, arith, le→leb, lt→ltb, w32, w64, to_z, of_z}
use Rattle.std.proofs.lemmas.Int.{to_z-of_z}
use lib.Ieee.{Float, binary64, of_int, in_float, in_signed, to_signed}
use lib.Ieee.Back.{negative_back}
use lib.Ieee.Casts.{to_signed_in}
use Rattle.ieee.specs.Whole.{Whole}

in_float_lem : (n : ℕ) → suc n ≤ 2 ^ 53 → T (in_float binary64 (negsuc n))
unfolding in_float
in_float_lem n h = lt→ltb n (2 ^ 53) h

pub within : (k : ℤ) (n low high : ℕ) → k ≡ negsuc n → suc low ≤ suc n → suc n ≤ suc high → (negsuc high ≤ℤ k) × (k ≤ℤ negsuc low)
within k n low high e p q =
    let inside : ℤ → Type 0 = λ z. (negsuc high ≤ℤ z) × (z ≤ℤ negsuc low) in
    subst inside (sym e) (record { le = le→leb n high (omega arith) }, record { le = le→leb low n (omega arith) })

module _ (x : Float) (low high h : ℕ) (w : Whole x (suc low) (suc high)) (p : suc high ≤ 2 ^ 53) (q : suc high ≤ 2 ^ h) where
  there : T (in_signed binary64 h (of_int binary64 (negsuc w.n))) × (to_signed h (of_int binary64 (negsuc w.n)) ≡ negsuc w.n)
  there = negative_back binary64 h w.n (in_float_lem w.n (le_trans w.most p)) (le_trans w.most q)

  pub castable : T (in_signed binary64 h x)
  castable = subst (λ (z : Float). T (in_signed binary64 h z)) (sym w.is) there.0

  pub cast_is : to_signed h x ≡ negsuc w.n
  cast_is = ap (to_signed h) w.is ∙ there.1

  -- the integer z that the cast gives lies in the same bounds
  pub cast_within : (z : ℤ) → z ≡ to_signed h x → (negsuc high ≤ℤ z) × (z ≤ℤ negsuc low)
  cast_within z e = within z w.n low high (e ∙ cast_is) w.least w.most

-- a cast to i64, and one to i32
pub back_64 : (x : Float) → to_z w64 (of_z w64 (to_signed 63 x)) ≡ to_signed 63 x
back_64 x = to_z-of_z w64 (to_signed 63 x) (record { sfits = to_signed_in 63 x })

pub back_32 : (x : Float) → to_z w32 (of_z w32 (to_signed 31 x)) ≡ to_signed 31 x
back_32 x = to_z-of_z w32 (to_signed 31 x) (record { sfits = to_signed_in 31 x })
