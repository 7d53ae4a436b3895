-- The high part of a product of operands is the rounded product, where that is above zero. Assumes nothing.
use Rattle.std.proofs.Common.{◌≡◌, ℕ, ◌*◌, ◌^◌, ◌<◌, true, false, T, nat_abs, sym, refl, ap, ◌∙◌, inl, inr, eq-zero-or-pos, mul-pos, arith, lit<, ltb→lt, pow_pos}
use lib.Ieee.{Float, nan, inf, fin, binary64, fits, mul, up, down}
use lib.Ieee.Fits.{mul-fits, up_pos}
use lib.Ieee.Positive.{positive}
use Rattle.ieee.specs.Val.{val}
use Rattle.ieee.specs.Pairs.{Good}
use Rattle.ieee.specs.Meaning.{Number, Operand, NearestProduct}
use Rattle.ieee.proofs.Bridge.{mag, mag_is}
use Rattle.ieee.proofs.Products.{good_times}
use Rattle.ieee.proofs.Unique.{unique}

pub good_operand : (x : Float) → Operand x → Good x 1474
good_operand x p = record { holds = p.holds; number = p.number; small = p.small }

-- a number above zero is some units
above : (n k d : ℕ) → n * d ≡ k → 0 < k → 0 < n
above n k d e h = elim (eq-zero-or-pos n) [ inl z ↦ absurd (omega (arith, ap (λ (t : ℕ). t * d) z)) | inr p ↦ p ]

pub positive_val : (x : Float) → T (fits binary64 x) → T (positive x) → 0 < nat_abs (val x)
positive_val nan f p = absurd p
positive_val (inf s) f p = absurd p
positive_val (fin true m e) f p = absurd p
positive_val (fin false m e) f p = above (mag m e) (m * up e * 2 ^ 1074) (down e) (mag_is false m e f).3 (mul-pos (mul-pos (ltb→lt 0 m p) (up_pos e)) (pow_pos 1074))

pub product_high : (a b h : Float) → Operand a → Operand b → Number h → NearestProduct a b h → T (positive (mul binary64 a b)) → h ≡ mul binary64 a b
product_high a b h p q n e t =
    let g = good_times a b 1474 1474 1874 (good_operand a p) (good_operand b q) refl (lit< tt) in
    sym (unique (mul binary64 a b) h (record { holds = mul-fits binary64 a b; number = g.0.number }) n (g.1 ∙ sym e) (positive_val (mul binary64 a b) (mul-fits binary64 a b) t))
