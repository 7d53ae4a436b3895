-- Fused arithmetic has the meaning; its multiply-add is IEEE 754's fusedMultiplyAdd in its domain, and its product pair is exact for products that are zero
-- or at least 2 ^ -900 in size. Assumes nothing.
use Rattle.std.specs.Prelude.{◌≡◌, ◌^◌, ◌≤◌, ◌||◌, true, T, ◌⊎◌, ℤ, pos, ◌+ℤ◌, ◌*ℤ◌, unsigned_abs, Float}
use Rattle.std.proofs.Common.{ap, ◌∙◌, inl, inr, lit<, lit≤}
use Rattle.std.proofs.Math.IntN.{zero-*ℤ}
use Rattle.std.specs.Float.{binary64}
use Rattle.std.specs.Float.Ieee.{fits, eq, le}
use Rattle.std.specs.Float.Ieee.Bits.{is_true}
use Rattle.ieee.specs.Val.{val}
use Rattle.ieee.specs.Meaning.{Operand, Settled, fine}
use Rattle.ieee.proofs.Ints.{mcomm}
use Rattle.ieee.proofs.Floats.{good_up}
use Rattle.ieee.proofs.Compare.{either, or_l, or_r}
use Rattle.ieee.proofs.Highs.{good_operand}
use Rattle.ieee.proofs.PlainMadd.{madd_means}
use Rattle.ieee.proofs.FusedPairs.{paired_means}
use Rattle.double_double.specs.Ops.{Meaning}
use Rattle.double_double.specs.Domain.{Domain}
use Rattle.double_double.specs.Fused.{size, zero, least, bounded, reaches, fused_domain, fused_multiply_add, fused_product, fused_ops}
use Rattle.double_double.specs.FusedDomain.{parts_out, parts_in, bounded_out, bounded_in, zero_out, zero_in, least_out, least_in, reaches_out, reaches_in, zero_factor}
use Rattle.double_double.specs.FusedSteps.{fused_madd, fused_paired, fused_pairs, fused_number}

-- the test of the code is the domain
pub in_domain : (a b c : Float) → Domain a b c → T (fused_domain a b c)
unfolding fused_domain
in_domain a b c d = parts_in (bounded a) (bounded b) (bounded c) _ _ (bounded_in a d.first) (bounded_in b d.second) (bounded_in c d.third) (product d.product) (addend d.addend)
  where
    product : (val a *ℤ val b ≡ pos 0) ⊎ (2 ^ 1188 ≤ unsigned_abs (val a *ℤ val b)) → T (eq a zero || eq b zero || reaches a b)
    product (inl e) = elim (zero_factor (val a) (val b) e) [
      | inl z ↦ or_l (eq a zero || eq b zero) (reaches a b) (or_l (eq a zero) (eq b zero) (zero_in a d.first z))
      | inr z ↦ or_l (eq a zero || eq b zero) (reaches a b) (or_r (eq a zero) (eq b zero) (zero_in b d.second z))
    ]
    product (inr h) = or_r (eq a zero || eq b zero) (reaches a b) (reaches_in a b d.first d.second h)

    addend : (val c ≡ pos 0) ⊎ (2 ^ 114 ≤ unsigned_abs (val c)) → T (eq c zero || le least (size c))
    addend (inl e) = or_l (eq c zero) (le least (size c)) (zero_in c d.third e)
    addend (inr h) = or_r (eq c zero) (le least (size c)) (least_in c d.third h)

pub domain_true : (a b c : Float) → Domain a b c → fused_domain a b c ≡ true
domain_true a b c d = is_true _ (in_domain a b c d)

pub domain_in : (a b c : Float) → T (fits binary64 a) → T (fits binary64 b) → T (fits binary64 c) → T (fused_domain a b c) → Domain a b c
unfolding fused_domain
domain_in a b c p q r t =
    let w = parts_out (bounded a) (bounded b) (bounded c) (eq a zero || eq b zero || reaches a b) (eq c zero || le least (size c)) t in
    let A = bounded_out a p w.0 in
    let B = bounded_out b q w.1 in
    let C = bounded_out c r w.2 in
    record {
      first = A;
      second = B;
      third = C;
      product = elim (either (eq a zero || eq b zero) (reaches a b) w.3) [
        | inl z ↦ elim (either (eq a zero) (eq b zero) z) [
          | inl e ↦ inl (ap (λ (x : ℤ). x *ℤ val b) (zero_out a A e) ∙ zero-*ℤ (val b))
          | inr e ↦ inl (mcomm (val a) (val b) ∙ ap (λ (x : ℤ). x *ℤ val a) (zero_out b B e) ∙ zero-*ℤ (val a))
        ]
        | inr h ↦ inr (reaches_out a b A B h)
      ];
      addend = elim (either (eq c zero) (le least (size c)) w.4) [ inl e ↦ inl (zero_out c C e) | inr h ↦ inr (least_out c C h) ];
    }

pub fused_exact : (a b : Float) → Operand a → Operand b → Settled a b → fine (val (fused_product a b).hi +ℤ val (fused_product a b).lo) ≡ val a *ℤ val b
fused_exact a b p q s = (fused_paired a b (good_operand a p) (good_operand b q)).exact s

pub fused_meaning : Meaning fused_ops
fused_meaning = record {
  product = λ s a b p q. paired_means a b (fused_product a b).lo (fused_product a b).hi (fused_paired a b (good_operand a p) (good_operand b q));
  pair_times_pair = λ s a b al ah bl bh. fused_pairs a.lo a.hi b.lo b.hi (good_operand a.lo al) (good_operand a.hi ah) (good_operand b.lo bl) (good_operand b.hi bh);
  pair_times_number = λ s a b al ah q. fused_number a.lo a.hi b (good_operand a.lo al) (good_operand a.hi ah) (good_operand b q);
  multiply_add = λ s a b c p q r. madd_means a b c (fused_multiply_add a b c) 1876 (fused_madd a b c 1876 (good_operand a p) (good_operand b q) (good_up c 1474 1876 (lit≤ tt) (good_operand c r)) (lit≤ tt) (lit< tt));
}
