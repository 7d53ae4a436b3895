-- Positive values between two bounds: their products, the whole numbers nearest to them, and 1 over them. Assumes nothing.
use Rattle.std.proofs.Common.{◌≡◌, ℕ, zero, suc, ◌+◌, ◌*◌, ◌^◌, ◌<◌, ◌≤◌, Bool, true, false, cond, T, eqb, ltb, sym, refl, ap, ◌∙◌, subst, le_trans, le_refl, mul-le-mul_right, mul-pos, arith, ltb→lt, le-ltb, ne_eqb}
use lib.Ieee.{Float, nan, inf, fin, Format, binary64, prec, emax, low, up, down, odd, units, round, neg, mul, div, lt, le, of_int}
use lib.Ieee.Order.{round_mono}
use lib.Ieee.Nearest.{closest, closest_mono}
use lib.Ieee.Positive.{positive, num, den, den_pos, own_value, value_pos, le→cross, cross→le, le_trans_positive, mul_mono, between}
use Rattle.std.specs.Float.{round_ties_even, round_with}
use Rattle.ieee.specs.Whole.{Whole}

-- ---- the sign of what is rounded
neg_odd : (d : ℕ) (q k l : ℕ) → neg (odd d false q k l) ≡ odd d true q k l
unfolding neg odd
neg_odd d zero k l = refl
neg_odd d (suc q) k l = refl

neg_units : (f : Format) (q k : ℕ) → neg (units f false q k) ≡ units f true q k
unfolding units neg
neg_units f q k = go (ltb (q * 2 ^ k) (2 ^ (low f + suc (emax f))))
  where
    go : (c : Bool) → neg (cond c (odd (suc (prec f)) false q k (low f)) (inf false)) ≡ cond c (odd (suc (prec f)) true q k (low f)) (inf true)
    go true = neg_odd (suc (prec f)) q k (low f)
    go false = refl

pub neg_round : (f : Format) (a b : ℕ) → neg (round f false a b) ≡ round f true a b
unfolding round
neg_round f a b = neg_units f _ _

pub neg_mul : (f : Format) (x y : Float) → T (positive x) → T (positive y) → mul f (neg x) y ≡ neg (mul f x y)
unfolding mul neg
neg_mul f nan y p q = absurd p
neg_mul f (inf s) y p q = absurd p
neg_mul f (fin true m e) y p q = absurd p
neg_mul f (fin false m e) nan p q = absurd q
neg_mul f (fin false m e) (inf t) p q = absurd q
neg_mul f (fin false m e) (fin true n d) p q = absurd q
neg_mul f (fin false m e) (fin false n d) p q = sym (neg_round f (m * up e * (n * up d)) (down e * down d))

-- ---- the whole number nearest to a negative value
neg_whole : (x : Float) → T (positive x) → round_ties_even binary64 (neg x) ≡ round binary64 true (closest (num x) (den x)) 1
unfolding round_with neg
neg_whole nan p = absurd p
neg_whole (inf s) p = absurd p
neg_whole (fin true m e) p = absurd p
neg_whole (fin false m e) p = refl

whole_of : (k low high : ℕ) → 0 < k → low ≤ k → k ≤ high → Whole (round binary64 true k 1) low high
unfolding of_int
whole_of zero low high p l h = absurd (omega arith)
whole_of (suc n) low high p l h = record { n = n; is = refl; least = l; most = h }

pub whole_between : (a x b : Float) (low high : ℕ) → T (positive a) → T (positive b) → T (le a x) → T (le x b)
    → 0 < low → low ≤ closest (num a) (den a) → closest (num b) (den b) ≤ high → Whole (round_ties_even binary64 (neg x)) low high
whole_between a x b low high p q l h o m n =
    let r : T (positive x) = between a x b p q l h in
    let lo : closest (num a) (den a) ≤ closest (num x) (den x) = closest_mono (num a) (den a) (num x) (den x) (den_pos a) (den_pos x) (le→cross a x p r l) in
    let hi : closest (num x) (den x) ≤ closest (num b) (den b) = closest_mono (num x) (den x) (num b) (den b) (den_pos x) (den_pos b) (le→cross x b r q h) in
    subst (λ (z : Float). Whole z low high) (sym (neg_whole x r))
    (whole_of (closest (num x) (den x)) low high (le_trans o (le_trans m lo)) (le_trans m lo) (le_trans hi n))

-- - x * x * c, for an x between a and b
pub square_between : (a x b c : Float) (low high : ℕ) → T (positive a) → T (positive x) → T (positive b) → T (positive c) → T (le a x) → T (le x b)
    → T (positive (mul binary64 a a)) → T (positive (mul binary64 b b)) → T (positive (mul binary64 (mul binary64 a a) c)) → T (positive (mul binary64 (mul binary64 b b) c))
    → 0 < low → low ≤ closest (num (mul binary64 (mul binary64 a a) c)) (den (mul binary64 (mul binary64 a a) c))
    → closest (num (mul binary64 (mul binary64 b b) c)) (den (mul binary64 (mul binary64 b b) c)) ≤ high
    → Whole (round_ties_even binary64 (mul binary64 (neg (mul binary64 x x)) c)) low high
square_between a x b c low high p q r s l h p2 r2 p3 r3 o m n =
    let l2 = mul_mono binary64 a x a x p q p q l l in
    let h2 = mul_mono binary64 x b x b q r q r h h in
    let q2 = between (mul binary64 a a) (mul binary64 x x) (mul binary64 b b) p2 r2 l2 h2 in
    let c2 = cross→le c c s s (le_refl (num c * den c)) in
    subst (λ (z : Float). Whole (round_ties_even binary64 z) low high) (sym (neg_mul binary64 (mul binary64 x x) c q2 s))
    (whole_between (mul binary64 (mul binary64 a a) c) (mul binary64 (mul binary64 x x) c) (mul binary64 (mul binary64 b b) c) low high p3 r3
    (mul_mono binary64 (mul binary64 a a) (mul binary64 x x) c c p2 q2 s s l2 c2) (mul_mono binary64 (mul binary64 x x) (mul binary64 b b) c c q2 r2 s s h2 c2) o m n)

-- ---- the quotient
not_zero : (n : ℕ) → 0 < n → n ≡ 0 → ⊥
not_zero n h e = omega arith

div_is : (f : Format) (x y : Float) → T (positive x) → T (positive y) → div f x y ≡ round f false (num x * den y) (num y * den x)
unfolding div
div_is f nan y p q = absurd p
div_is f (inf s) y p q = absurd p
div_is f (fin true m e) y p q = absurd p
div_is f (fin false m e) nan p q = absurd q
div_is f (fin false m e) (inf t) p q = absurd q
div_is f (fin false m e) (fin true n d) p q = absurd q
div_is f (fin false m e) (fin false n d) p q =
    ap (λ (c : Bool). cond c (cond (eqb m 0) nan (inf false)) (round f false (m * up e * down d) (n * up d * down e))) (ne_eqb n 0 (not_zero n (ltb→lt 0 n q)))

num_pos : (x : Float) → T (positive x) → 0 < num x
num_pos x p = value_pos x (num x) (den x) p (den_pos x) (own_value x p)

-- x / d ≤ x / c for c ≤ d
pub div_anti : (f : Format) (x c d : Float) → T (positive x) → T (positive c) → T (positive d) → T (le c d) → T (le (div f x d) (div f x c))
div_anti f x c d p q r h =
    subst (λ (z : Float). T (le z (div f x c))) (sym (div_is f x d p r))
    (subst (λ (z : Float). T (le (round f false (num x * den d) (num d * den x)) z)) (sym (div_is f x c p q))
    (round_mono f (num x * den d) (num d * den x) (num x * den c) (num c * den x) (mul-pos (num_pos d r) (den_pos x)) (mul-pos (num_pos c q) (den_pos x))
    (over (num x) (den x) (num c) (den c) (num d) (den d) (le→cross c d q r h))))
  where
    over : (x x' c c' d d' : ℕ) → c * d' ≤ d * c' → x * d' * (c * x') ≤ x * c' * (d * x')
    over x x' c c' d d' h = omega (arith, mul-le-mul_right (x * x') h)

-- ---- the order, as a test that fails
below_is : (x y : Float) → T (positive x) → T (positive y) → lt x y ≡ ltb (num x * den y) (num y * den x)
unfolding lt
below_is nan y p q = absurd p
below_is (inf s) y p q = absurd p
below_is (fin true m e) y p q = absurd p
below_is (fin false m e) nan p q = absurd q
below_is (fin false m e) (inf t) p q = absurd q
below_is (fin false m e) (fin true n d) p q = absurd q
below_is (fin false m e) (fin false n d) p q = refl

pub not_below : (x y : Float) → T (positive x) → T (positive y) → T (le x y) → lt y x ≡ false
not_below x y p q h = below_is y x q p ∙ le-ltb (num y * den x) (num x * den y) (le→cross x y p q h)

-- x / c does not pass t, for a c between a and b, if x / a does not
pub quotient_within : (f : Format) (x a c b t : Float) → T (positive x) → T (positive a) → T (positive c) → T (positive b) → T (positive t) → T (le a c) → T (le c b)
    → T (positive (div f x a)) → T (positive (div f x b)) → T (le (div f x a) t) → lt t (div f x c) ≡ false
quotient_within f x a c b t p q r s u l h q2 s2 m =
    let l2 = div_anti f x a c p q r l in
    let h2 = div_anti f x c b p r s h in
    let r2 = between (div f x b) (div f x c) (div f x a) s2 q2 h2 l2 in
    not_below (div f x c) t r2 u (le_trans_positive (div f x c) (div f x a) t r2 q2 u l2 m)
