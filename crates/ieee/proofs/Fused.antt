-- The fused multiply and add, x y + z rounded once, on `val`. Assumes nothing.
use Rattle.std.proofs.Common.{◌≡◌, ℕ, ◌+◌, ◌-◌, ◌*◌, ◌^◌, ◌<◌, Bool, true, false, T, ℤ, pos, ◌+ℤ◌, ◌*ℤ◌, sym, refl, ap, ◌∙◌, subst, inl, inr, mul_assoc, mul-pos, zero-mul, arith, pow_pos}
use mathlib.Core.Bool.{beq}
use lib.Ieee.{Float, nan, inf, fin, binary64, up, down, fits, sum, round, unlike}
use lib.Ieee.Fits.{down_pos}
use lib.Ieee.Scale.{finite}
use Rattle.std.specs.Float.{float_mul_add}
use Rattle.ieee.specs.Val.{signed, val, rq, Under}
use Rattle.ieee.proofs.Whole.{order}
use Rattle.ieee.proofs.Bridge.{mag, mag_is, Is, sum_like, sum_less, sum_more, sum_level, like_is, less_is, more_is, level_is, lt_scaled, eq_scaled, add_scaled, sub_scaled}
use Rattle.ieee.proofs.Fractions.{round_rq, product}

-- ---- sums of fractions: a / c and b / c are A / d and B / d units, l being 2 ^ 1074 * d
module _ (a b c A B d : ℕ) (C : 0 < c) (D : 0 < d) (p : a * (2 ^ 1074 * d) ≡ A * c) (q : b * (2 ^ 1074 * d) ≡ B * c) where
  abbrev SumIs : Bool → Bool → Type 0
  SumIs s t = Under (rq (signed s A +ℤ signed t B) d) → Is (sum binary64 s a t b c) (rq (signed s A +ℤ signed t B) d)

  from : (s t u : Bool) (n N : ℕ) → sum binary64 s a t b c ≡ round binary64 u n c → signed s A +ℤ signed t B ≡ signed u N → n * (2 ^ 1074 * d) ≡ N * c → SumIs s t
  from s t u n N e f g h =
      subst (λ (x : Float). Is x (rq (signed s A +ℤ signed t B) d)) (sym e)
      (subst (λ (z : ℤ). Is (round binary64 u n c) (rq z d)) (sym f) (round_rq u n c N d C D (mul_assoc n (2 ^ 1074) d ∙ g) (subst (λ (z : ℤ). Under (rq z d)) f h)))

  sum_alike : (s : Bool) → SumIs s s
  sum_alike s = from s s s (a + b) (A + B) (sum_like binary64 s a b c) (like_is s A B) (add_scaled a b c A B (2 ^ 1074 * d) p q)

  sum_apart : (s t : Bool) → beq s t ≡ false → SumIs s t
  sum_apart s t u =
      elim (order A B) [
        | inl h ↦ elim (order B A) [
          | inl k ↦
              let E : A ≡ B = omega (arith, h, k) in
              from s t false 0 0 (sum_level binary64 s t a b c u (eq_scaled a b c A B (2 ^ 1074 * d) (mul-pos (pow_pos 1074) D) p q E)) (level_is s t A B u E) (zero-mul (2 ^ 1074 * d) ∙ sym (zero-mul c))
          | inr k ↦
              let l : a < b = lt_scaled a b c A B (2 ^ 1074 * d) C p q k in
              from s t t (b - a) (B - A) (sum_less binary64 s t a b c u l) (less_is s t A B u k) (sub_scaled a b c A B (2 ^ 1074 * d) p q l k)
        ]
        | inr k ↦
            let l : b < a = lt_scaled b a c B A (2 ^ 1074 * d) C q p k in
            from s t s (a - b) (A - B) (sum_more binary64 s t a b c u l) (more_is s t A B u k) (sub_scaled b a c B A (2 ^ 1074 * d) q p l k)
      ]

  pub sum_to : (s t : Bool) → SumIs s t
  sum_to true true = sum_alike true
  sum_to false false = sum_alike false
  sum_to true false = sum_apart true false refl
  sum_to false true = sum_apart false true refl

-- ---- the two terms
first_term : (u v A B de dd dg l : ℕ) → A * de ≡ u * l → B * dd ≡ v * l → u * v * dg * (l * l) ≡ A * B * (de * dd * dg)
first_term u v A B de dd dg l p q = omega (arith, ap (λ (z : ℕ). z * (v * l * dg)) p, ap (λ (z : ℕ). z * (A * de * dg)) q)

second_term : (w G de dd dg l : ℕ) → G * dg ≡ w * l → w * (de * dd) * (l * l) ≡ G * l * (de * dd * dg)
second_term w G de dd dg l p = omega (arith, ap (λ (z : ℕ). z * (l * de * dd)) p)

signed_times : (u : Bool) (n l : ℕ) → signed u (n * l) ≡ signed u n *ℤ pos l
signed_times true n l = sym (Rattle.ieee.proofs.Ints.neg_mul (pos n) (pos l))
signed_times false n l = refl

pub fused_is : (x y z : Float) → T (fits binary64 x) → T (fits binary64 y) → T (fits binary64 z) → T (finite x) → T (finite y) → T (finite z)
    → Under (rq (val x *ℤ val y +ℤ val z *ℤ pos (2 ^ 1074)) (2 ^ 1074)) → Is (float_mul_add binary64 x y z) (rq (val x *ℤ val y +ℤ val z *ℤ pos (2 ^ 1074)) (2 ^ 1074))
unfolding float_mul_add
fused_is nan y z fx fy fz nx ny nz h = absurd nx
fused_is (inf s) y z fx fy fz nx ny nz h = absurd nx
fused_is (fin s m e) nan z fx fy fz nx ny nz h = absurd ny
fused_is (fin s m e) (inf t) z fx fy fz nx ny nz h = absurd ny
fused_is (fin s m e) (fin t n d) nan fx fy fz nx ny nz h = absurd nz
fused_is (fin s m e) (fin t n d) (inf u) fx fy fz nx ny nz h = absurd nz
fused_is (fin s m e) (fin t n d) (fin u k g) fx fy fz nx ny nz h =
    let w : val (fin s m e) *ℤ val (fin t n d) +ℤ val (fin u k g) *ℤ pos (2 ^ 1074) ≡ signed (unlike s t) (mag m e * mag n d) +ℤ signed u (mag k g * 2 ^ 1074) =
    (λ i. product s t (mag m e) (mag n d) i +ℤ sym (signed_times u (mag k g) (2 ^ 1074)) i) in
    subst (λ (v : ℤ). Is (sum binary64 (unlike s t) (m * up e * (n * up d) * down g) u (k * up g * (down e * down d)) (down e * down d * down g)) (rq v (2 ^ 1074))) (sym w)
    (sum_to (m * up e * (n * up d) * down g) (k * up g * (down e * down d)) (down e * down d * down g) (mag m e * mag n d) (mag k g * 2 ^ 1074) (2 ^ 1074) (mul-pos (mul-pos (down_pos e) (down_pos d)) (down_pos g)) (pow_pos 1074)
    (first_term (m * up e) (n * up d) (mag m e) (mag n d) (down e) (down d) (down g) (2 ^ 1074) (mag_is s m e fx).3 (mag_is t n d fy).3)
    (second_term (k * up g) (mag k g) (down e) (down d) (down g) (2 ^ 1074) (mag_is u k g fz).3)
    (unlike s t) u (subst (λ (v : ℤ). Under (rq v (2 ^ 1074))) w h))
