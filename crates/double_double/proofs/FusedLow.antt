-- Where a b rounds to 2 ^ -899 at least, plain's low part plus 0 is fused arithmetic's low part: both are a b - hi, and the sum makes a zero positive. Assumes nothing.
use Rattle.std.proofs.Common.{◌≡◌, ℕ, suc, ◌+◌, ◌*◌, ◌^◌, ◌<◌, ◌≤◌, Bool, true, false, cond, ◌&&◌, T, ℤ, pos, ◌+ℤ◌, ◌*ℤ◌, nat_abs, sym, refl, ap, ◌∙◌, inl, inr, le_trans, le_of_eq, lt_of_lt_of_le, eq-zero-or-pos, mul-pos, zero-mul, arith, lit<, lit≤, pow_pos, pow_mono}
use mathlib.Core.Bool.{beq}
use native.Mathlib.Nat.{eq_of_mul-eq-mul_right}
use lib.IntN.{+ℤ_idr, zero-*ℤ}
use lib.Ieee.{Float, nan, inf, fin, binary64, fits, up, down, unlike, round, sum, add, mul, neg, le, of_bits}
use lib.Ieee.Bits.{of_bits-fits}
use lib.Ieee.Fits.{and_l, and_r, down_pos, add-fits, mul-fits}
use lib.Ieee.Scale.{finite, round_same}
use Rattle.std.specs.Float.{float_mul_add}
use Rattle.ieee.specs.Val.{val, signed, rnd, rz}
use Rattle.ieee.specs.Pairs.{Good}
use Rattle.ieee.specs.Meaning.{Number, Operand, fine}
use Rattle.ieee.proofs.Ints.{zs, neg_mul}
use Rattle.ieee.proofs.Whole.{rounds, exact}
use Rattle.ieee.proofs.Bridge.{mag, mag_is, sum_like, sum_level, abs_signed, val_neg, val_repr}
use Rattle.ieee.proofs.Fractions.{product}
use Rattle.ieee.proofs.Product.{cancel}
use Rattle.ieee.proofs.Tools.{abs_neg}
use Rattle.ieee.proofs.Floats.{good_add}
use Rattle.ieee.proofs.Products.{good_times}
use Rattle.ieee.proofs.Highs.{good_operand}
use Rattle.ieee.proofs.Compare.{le_out, size_val, size_fits, size_finite}
use Rattle.ieee.proofs.Thresholds.{rq_abs, rnd_at_most}
use Rattle.ieee.proofs.FusedPairs.{left_is, good_neg}
use Rattle.ieee.proofs.Unique.{unique}
use Rattle.double_double.specs.Domain.{Domain}
use Rattle.double_double.specs.Plain.{plain_product, plain_multiply_add}
use Rattle.double_double.specs.Fused.{size, zero, ample, bounded, low_is_exact, fused_multiply_add}
use Rattle.double_double.specs.PlainMeaning.{plain_times, plain_exact}
use Rattle.double_double.specs.FusedDomain.{bounded_out, upto_out, past, none}
use Rattle.double_double.specs.FusedMeaning.{domain_true, fused_exact}
use Rattle.double_double.specs.FusedSteps.{fused_paired}

-- ---- sums that are zero
round_none : (c : ℕ) → 0 < c → round binary64 false 0 c ≡ zero
unfolding round of_bits
round_none c C = round_same binary64 false 0 c 0 1 C (pow_pos 0) (sym (zero-mul c))

zeros : (s : Bool) (a b c : ℕ) → 0 < c → a ≡ 0 → b ≡ 0 → sum binary64 s a false b c ≡ zero
zeros true a b c C p q = sum_level binary64 true false a b c refl (p ∙ sym q) ∙ round_none c C
zeros false a b c C p q = sum_like binary64 false a b c ∙ ap (λ (n : ℕ). round binary64 false n c) {x = a + b} {y = 0} (omega arith) ∙ round_none c C

-- no units are the number zero: u / d is k / l units
no_units : (u k d l : ℕ) → 0 < l → k * d ≡ u * l → k ≡ 0 → u ≡ 0
no_units u k d l L e z = eq_of_mul-eq-mul_right l L u 0 (sym e ∙ ap (λ (n : ℕ). n * d) z ∙ zero-mul d ∙ sym (zero-mul l))

-- a zero plus 0 is positive
add_none : (x : Float) → Number x → val x ≡ pos 0 → add binary64 x zero ≡ zero
unfolding add of_bits
add_none nan n z = absurd n.number
add_none (inf s) n z = absurd n.number
add_none (fin s m e) n z =
    let k : mag m e ≡ 0 = sym (abs_signed s (mag m e)) ∙ ap nat_abs z in
    let u : m * up e ≡ 0 = no_units (m * up e) (mag m e) (down e) (2 ^ 1074) (pow_pos 1074) (mag_is s m e n.holds).3 k in
    zeros s (m * up e * 1) (0 * down e) (down e * 1) (mul-pos (down_pos e) (pow_pos 0)) (ap (λ (n : ℕ). n * 1) u) (zero-mul (down e))

-- two terms that cancel have unlike signs and one size
apart : (s t : Bool) (m n : ℕ) → signed s m +ℤ signed t n ≡ pos 0 → 0 < m → (beq s t ≡ false) × (m ≡ n)
apart true true m n e h = absurd (omega zs)
apart true false m n e h = (refl, omega zs)
apart false true m n e h = (refl, omega zs)
apart false false m n e h = absurd (omega zs)

-- terms of one size in units are one fraction: u / de, v / dd and w / dg are A / l, B / l and G / l
level : (u v w A B G de dd dg l : ℕ) → 0 < l → A * de ≡ u * l → B * dd ≡ v * l → G * dg ≡ w * l → A * B ≡ G * l → u * v * dg ≡ w * (de * dd)
level u v w A B G de dd dg l L p q r s =
    eq_of_mul-eq-mul_right (l * l) (mul-pos L L) (u * v * dg) (w * (de * dd))
    (omega (arith, ap (λ (z : ℕ). z * (v * l * dg)) p, ap (λ (z : ℕ). z * (A * de * dg)) q, ap (λ (z : ℕ). z * (l * de * dd)) r, ap (λ (z : ℕ). z * (de * dd * dg)) s))

signed_times : (u : Bool) (n l : ℕ) → signed u n *ℤ pos l ≡ signed u (n * l)
signed_times true n l = neg_mul (pos n) (pos l)
signed_times false n l = refl

-- a b + c is a positive zero where the terms cancel
fused_none : (a b c : Float) → Number a → Number b → Number c → val a *ℤ val b +ℤ fine (val c) ≡ pos 0 → 0 < nat_abs (val a *ℤ val b) → float_mul_add binary64 a b c ≡ zero
unfolding float_mul_add
fused_none nan b c p q r z h = absurd p.number
fused_none (inf s) b c p q r z h = absurd p.number
fused_none (fin s m e) nan c p q r z h = absurd q.number
fused_none (fin s m e) (inf t) c p q r z h = absurd q.number
fused_none (fin s m e) (fin t n d) nan p q r z h = absurd r.number
fused_none (fin s m e) (fin t n d) (inf u) p q r z h = absurd r.number
fused_none (fin s m e) (fin t n d) (fin u k g) p q r z h =
    let x = product s t (mag m e) (mag n d) in
    let w = apart (unlike s t) u (mag m e * mag n d) (mag k g * 2 ^ 1074) ((λ i. sym x i +ℤ sym (signed_times u (mag k g) (2 ^ 1074)) i) ∙ z)
    (lt_of_lt_of_le h (le_of_eq (ap nat_abs x ∙ abs_signed (unlike s t) (mag m e * mag n d)))) in
    sum_level binary64 (unlike s t) u (m * up e * (n * up d) * down g) (k * up g * (down e * down d)) (down e * down d * down g) w.0
    (level (m * up e) (n * up d) (k * up g) (mag m e) (mag n d) (mag k g) (down e) (down d) (down g) (2 ^ 1074) (pow_pos 1074) (mag_is s m e p.holds).3 (mag_is t n d q.holds).3 (mag_is u k g r.holds).3 w.1)
    ∙ round_none (down e * down d * down g) (mul-pos (mul-pos (down_pos e) (down_pos d)) (down_pos g))

-- ---- the two low parts
same_rest : (h x y : ℤ) → h +ℤ x ≡ h +ℤ y → x ≡ y
same_rest h x y e = omega zs

good_number : (x : Float) (j : ℕ) → Good x j → Number x
good_number x j g = record { holds = g.holds; number = g.number }

-- a sum with 0 is exact
add_zero : (x : Float) (j : ℕ) → Good x j → suc j < 2098 → Good (add binary64 x zero) (suc j) × (val (add binary64 x zero) ≡ val x)
unfolding of_bits
add_zero x j g h =
    let w = good_add x zero j g (record { holds = of_bits-fits binary64 0; number = tt; small = omega arith }) h in
    (w.0, w.1 ∙ ap rz (+ℤ_idr (val x)) ∙ exact (val x) (rz (val x)) (rounds (val x)) (val_repr x g.holds))

module _ (a b : Float) (p : Operand a) (q : Operand b) (r : Operand (mul binary64 a b)) (h : 2 ^ 175 ≤ nat_abs (val (mul binary64 a b))) where
  abbrev hi : Float
  hi = mul binary64 a b

  abbrev steps : Float
  steps = (plain_product a b).lo

  abbrev once : Float
  once = fused_multiply_add a b (neg hi)

  -- a b is 2 ^ -900 at least
  large : 2 ^ 1248 ≤ nat_abs (val a *ℤ val b)
  large =
      let e : nat_abs (val hi) ≡ rnd (nat_abs (val a *ℤ val b)) (2 ^ 1074) = ap nat_abs (good_times a b 1474 1474 1874 (good_operand a p) (good_operand b q) refl (lit< tt)).1 ∙ rq_abs (val a *ℤ val b) (2 ^ 1074) in
      past (nat_abs (val a *ℤ val b)) (2 ^ 1074) (2 ^ 174) (rnd_at_most (nat_abs (val a *ℤ val b)) (2 ^ 1074) 174 (pow_pos 1074)) (lt_of_lt_of_le (lit< tt) (le_trans h (le_of_eq e)))

  negated : Good (neg hi) 1474
  negated = good_neg hi 1474 (good_operand hi r)

  domain : Domain a b (neg hi)
  domain = record {
    first = p;
    second = q;
    third = record { holds = negated.holds; number = negated.number; small = negated.small };
    product = inr (le_trans (pow_mono {i = 1188} {j = 1248} (lit≤ tt)) large);
    addend = inr (le_trans (pow_mono {i = 114} {j = 175} (lit≤ tt)) (le_trans h (le_of_eq (sym (ap nat_abs (val_neg hi) ∙ abs_neg (val hi))))));
  }

  once_good : Good once 1880
  once_good = (fused_paired a b (good_operand a p) (good_operand b q)).low

  once_exact : fine (val hi +ℤ val once) ≡ val a *ℤ val b
  once_exact = fused_exact a b p q (inr large)

  same : val steps ≡ val once
  same = same_rest (val hi) (val steps) (val once) (cancel (val hi +ℤ val steps) (val hi +ℤ val once) (2 ^ 1074) (pow_pos 1074) (plain_exact a b p q (inr large) ∙ sym once_exact))

  steps_good : Good steps 1880
  steps_good = record {
    holds = add-fits binary64 _ _;
    number = (plain_times a b (good_operand a p) (good_operand b q)).lo_number;
    small = le_trans (le_of_eq (ap nat_abs same)) once_good.small;
  }

  -- in the domain it rounds once
  once_none : val once ≡ pos 0 → once ≡ zero
  once_none z =
      ap (λ (t : Bool). cond t (float_mul_add binary64 a b (neg hi)) (plain_multiply_add a b (neg hi))) (domain_true a b (neg hi) domain)
      ∙ fused_none a b (neg hi) (good_number a 1474 (good_operand a p)) (good_number b 1474 (good_operand b q)) (good_number (neg hi) 1474 negated)
      (sym (left_is (val a *ℤ val b) (val hi) (val (neg hi)) (val once) (2 ^ 1074) (val_neg hi) once_exact) ∙ ap fine z ∙ zero-*ℤ (pos (2 ^ 1074)))
      (lt_of_lt_of_le (pow_pos 1248) large)

  pub low_same : add binary64 (plain_product a b).lo zero ≡ fused_multiply_add a b (neg (mul binary64 a b))
  low_same = elim (eq-zero-or-pos (nat_abs (val once))) [
    | inl z ↦ let e = none (val once) z in add_none steps (good_number steps 1880 steps_good) (same ∙ e) ∙ sym (once_none e)
    | inr g ↦
        let w = add_zero steps 1880 steps_good (lit< tt) in
        let e : val (add binary64 steps zero) ≡ val once = w.1 ∙ same in
        unique (add binary64 steps zero) once (good_number (add binary64 steps zero) 1881 w.0) (good_number once 1880 once_good) e (lt_of_lt_of_le g (le_of_eq (ap nat_abs (sym e))))
  ]

-- ---- by the test of the code
ample_is : T (finite ample) × (val ample ≡ pos (2 ^ 175))
unfolding of_bits
ample_is = (tt, refl)

pub low_by_test : (a b : Float) → T (fits binary64 a) → T (fits binary64 b) → T (low_is_exact a b (mul binary64 a b)) → add binary64 (plain_product a b).lo zero ≡ fused_multiply_add a b (neg (mul binary64 a b))
low_by_test a b f g t =
    let h = mul binary64 a b in
    let u = and_l (bounded a && bounded b && bounded h) (le ample (size h)) t in
    let v = and_l (bounded a && bounded b) (bounded h) u in
    let r = bounded_out h (mul-fits binary64 a b) (and_r (bounded a && bounded b) (bounded h) u) in
    low_same a b (bounded_out a f (and_l (bounded a) (bounded b) v)) (bounded_out b g (and_r (bounded a) (bounded b) v)) r
    (upto_out (val ample) (val (size h)) (2 ^ 175) (nat_abs (val h)) ample_is.1 (size_val h)
    (le_out ample (size h) (of_bits-fits binary64 _) (size_fits h r.holds) ample_is.0 (size_finite h r.number) (and_r (bounded a && bounded b && bounded h) (le ample (size h)) t)))
