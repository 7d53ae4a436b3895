-- d times 2 ^ i as a rounded integer, where the first product does not round; and how far it is off where that product may round. Assumes nothing.
use Rattle.std.proofs.Common.{◌≡◌, ℕ, suc, ◌+◌, ◌-◌, ◌*◌, ◌^◌, ◌<◌, ◌≤◌, Bool, true, false, cond, T, ℤ, pos, negsuc, ◌+ℤ◌, ◌-ℤ◌, ◌*ℤ◌, neg_ℤ, nat_abs, sym, refl, ap, ◌∙◌, subst, inl, inr, lt_of_le_of_lt, mul-le-mul_right, mul-le-mul_left, mul-pos, one-mul, arith, pow_pos, pow_mono, pow-add, le-ltb, lt-ltb}
use lib.Signed.{lt_z}
use lib.Pow.{pow-lt}
use lib.Ieee.{Float, nan, inf, fin, binary64, fits, up, down, mul}
use lib.Ieee.Fits.{round-fits, mul-fits, down_pos}
use lib.Ieee.Bits.{of_bits-fits}
use lib.Ieee.Exact.{HasValue}
use Rattle.ieee.specs.Val.{val, signed, rq, Under}
use Rattle.ieee.specs.Meaning.{Number}
use Rattle.ieee.proofs.Ints.{zs, massoc, abs_mul, dist, neg_mul}
use Rattle.ieee.proofs.Bridge.{mag, mag_is, of_value}
use Rattle.ieee.proofs.Fractions.{round_rq, product, mul_is, rq_error}
use Rattle.ieee.proofs.Bounded.{rq_same}
use Rattle.ieee.proofs.Thresholds.{rq_abs, pow_split, rnd_at_most}
use Rattle.ieee.proofs.Whole.{order}
use Rattle.erfc.specs.Scaling.{power, step_down, scaled_down, ldexp_of, times_power, FirstExact}
use Rattle.erfc.proofs.Powers.{power_down, step_down_lem}
use Rattle.erfc.proofs.Rounded.{rescaled}
use Rattle.erfc.proofs.Once as Once
use Rattle.erfc.proofs.Downs.{more}
use Rattle.erfc.proofs.Scales.{once}

-- a finite f64 that is z units
pub record IsNumber (x : Float) (z : ℤ) : Type 0 where
  pub number : Number x
  pub is : val x ≡ z

-- ---- one rounding
times_power_lem : (s : Bool) (m : ℕ) (e i : ℤ) → T (fits binary64 (fin s m e)) → Under (rq (val (fin s m e) *ℤ pos (up i)) (down i)) → IsNumber (times_power (fin s m e) i) (rq (val (fin s m e) *ℤ pos (up i)) (down i))
times_power_lem s m e i f h =
    let w : val (fin s m e) *ℤ pos (up i) ≡ signed s (mag m e * up i) = product s false (mag m e) (up i) ∙ ap (λ (t : Bool). signed t (mag m e * up i)) (like s) in
    let r = round_rq s (m * up e * up i) (down e * down i) (mag m e * up i) (down i) (mul-pos (down_pos e) (down_pos i)) (down_pos i)
    (Once.product (m * up e) (down e) (2 ^ 1074) (mag m e) (up i) (down i) (mag_is s m e f).3) (subst (λ (z : ℤ). Under (rq z (down i))) w h) in
    record { number = record { holds = round-fits binary64 s (m * up e * up i) (down e * down i); number = r.0 }; is = r.1 ∙ ap (λ (z : ℤ). rq z (down i)) (sym w) }
  where
    like : (s : Bool) → lib.Ieee.unlike s false ≡ s
    like true = refl
    like false = refl

pub scaled_is : (d : Float) (i : ℤ) → Number d → FirstExact d i → Under (rq (val d *ℤ pos (up i)) (down i)) → IsNumber (ldexp_of d i) (rq (val d *ℤ pos (up i)) (down i))
scaled_is nan i n g h = absurd n.number
scaled_is (inf s) i n g h = absurd n.number
scaled_is (fin s m e) i n g h = subst (λ (x : Float). IsNumber x (rq (val (fin s m e) *ℤ pos (up i)) (down i))) (sym (once (fin s m e) i n g)) (times_power_lem s m e i n.holds h)

-- ---- a product with 2 ^ -N
pub grown : (a p q : ℕ) → a ≤ p → 0 < q → a ≤ p * q
grown a p q h Q = omega (arith, mul-le-mul_left p Q)

pub times_down : (x y : Float) (n i : ℕ) → Number x → T (fits binary64 y) → HasValue y false 1 (2 ^ n) → n ≤ 1074 → i < 2098 → nat_abs (val x) ≤ 2 ^ i → IsNumber (mul binary64 x y) (rq (val x) (2 ^ n))
times_down x y n i X f v h I b =
    let w = of_value y false (2 ^ (1074 - n)) (rescaled y false 1 (2 ^ n) (2 ^ (1074 - n)) (2 ^ 1074) (pow_pos n) v (joined ∙ sym (one-mul (2 ^ 1074)))) in
    let e : val x *ℤ val y *ℤ pos (2 ^ n) ≡ val x *ℤ pos (2 ^ 1074) = ap (λ (z : ℤ). val x *ℤ z *ℤ pos (2 ^ n)) w.1 ∙ massoc (val x) (pos (2 ^ (1074 - n))) (pos (2 ^ n)) ∙ ap (λ (z : ℕ). val x *ℤ pos z) joined in
    let g : rq (val x *ℤ val y) (2 ^ 1074) ≡ rq (val x) (2 ^ n) = rq_same (val x *ℤ val y) (val x) (2 ^ 1074) (2 ^ n) (pow_pos 1074) (pow_pos n) e in
    let u : Under (rq (val x *ℤ val y) (2 ^ 1074)) = subst Under (sym g) (lt_of_le_of_lt (small (val x) b) (pow-lt I)) in
    let r = mul_is x y X.holds f X.number w.0 u in
    record { number = record { holds = mul-fits binary64 x y; number = r.0 }; is = r.1 ∙ g }
  where
    joined : 2 ^ (1074 - n) * 2 ^ n ≡ 2 ^ 1074
    joined = sym (pow_split 1074 n h)

    small : (z : ℤ) → nat_abs z ≤ 2 ^ i → nat_abs (rq z (2 ^ n)) ≤ 2 ^ i
    small z l = subst (λ (k : ℕ). k ≤ 2 ^ i) (sym (rq_abs z (2 ^ n))) (rnd_at_most (nat_abs z) (2 ^ n) i (pow_pos n) (grown (nat_abs z) (2 ^ i) (2 ^ n) l (pow_pos n)))

-- ---- a number of at most one unit, times 2 ^ -N: half a unit and a little
pub record Halved (d : Float) (n : ℕ) : Type 0 where
  pub c : ℤ
  pub is : IsNumber (ldexp_of d (negsuc n)) c
  pub near : 2 ^ 50 * (2 * nat_abs (c *ℤ pos (2 ^ suc n) -ℤ val d)) ≤ (2 ^ 50 + 2) * 2 ^ suc n

-- one product
one_is : (d : Float) (n : ℕ) → n ≤ 1021 → ldexp_of d (negsuc n) ≡ mul binary64 d (power (negsuc n))
unfolding ldexp_of
one_is d n g = ap (λ (t : Bool). cond t (scaled_down d (negsuc n)) (mul binary64 d (power (negsuc n)))) (le-ltb 1021 n g)

one_product : (d : Float) (n : ℕ) → Number d → n ≤ 1021 → nat_abs (val d) ≤ 2 ^ suc n → Halved d n
one_product d n N g h = record {
  c = rq (val d) (2 ^ suc n);
  is = subst (λ (x : Float). IsNumber x (rq (val d) (2 ^ suc n))) (sym (one_is d n g)) (times_down d (power (negsuc n)) (suc n) (suc n) N (of_bits-fits binary64 _) (power_down n g) (omega arith) (omega arith) h);
  near = omega (arith, h, rq_error (val d) (2 ^ suc n) (pow_pos (suc n)));
}

-- a step down and one product
twice_near : (p q u : ℕ) (c x z : ℤ) → p ≡ u * q → 2 ^ 53 * q ≤ p → nat_abs z ≤ p → nat_abs x ≤ u → 2 ^ 53 * nat_abs (x *ℤ pos q -ℤ z) ≤ nat_abs z + 2 ^ 52 * q → 2 ^ 53 * nat_abs (c *ℤ pos u -ℤ x) ≤ nat_abs x + 2 ^ 52 * u
    → 2 ^ 50 * (2 * nat_abs (c *ℤ pos p -ℤ z)) ≤ (2 ^ 50 + 2) * p
twice_near p q u c x z e s h k i j =
    let j₁ : 2 ^ 53 * nat_abs (c *ℤ pos u -ℤ x) ≤ (2 ^ 52 + 1) * u = omega (arith, k, j) in
    let j₂ : 2 ^ 53 * (nat_abs (c *ℤ pos u -ℤ x) * q) ≤ (2 ^ 52 + 1) * p = omega (arith, mul-le-mul_right q j₁, e) in
    let f : nat_abs (c *ℤ pos u -ℤ x) * q ≡ nat_abs (c *ℤ pos p -ℤ x *ℤ pos q) = sym (abs_mul (c *ℤ pos u -ℤ x) (pos q)) ∙ ap nat_abs (spread c x u q ∙ ap (λ (t : ℕ). c *ℤ pos t -ℤ x *ℤ pos q) (sym e)) in
    let j₃ : 2 ^ 53 * nat_abs (c *ℤ pos p -ℤ x *ℤ pos q) ≤ (2 ^ 52 + 1) * p = subst (λ (t : ℕ). 2 ^ 53 * t ≤ (2 ^ 52 + 1) * p) f j₂ in
    let i₁ : 2 ^ 53 * nat_abs (x *ℤ pos q -ℤ z) ≤ 2 * p = omega (arith, i, h, s) in
    omega (zs, j₃, i₁)
  where
    spread : (c x : ℤ) (u q : ℕ) → (c *ℤ pos u -ℤ x) *ℤ pos q ≡ c *ℤ pos (u * q) -ℤ x *ℤ pos q
    spread c x u q = dist (c *ℤ pos u) (neg_ℤ x) (pos q) ∙ ap (λ (t : ℤ). t +ℤ neg_ℤ x *ℤ pos q) (massoc c (pos u) (pos q)) ∙ ap (λ (t : ℤ). c *ℤ pos (u * q) +ℤ t) (neg_mul x (pos q))

module _ (d : Float) (k : ℕ) (N : Number d) (high : 52 ≤ k) (low : k ≤ 1021) (h : nat_abs (val d) ≤ 2 ^ suc (k + 970)) where
  abbrev x : Float
  x = mul binary64 d step_down

  x_is : IsNumber x (rq (val d) (2 ^ 970))
  x_is = times_down d step_down 970 (suc (k + 970)) N (mul-fits binary64 _ _) step_down_lem (omega arith) (omega arith) h

  pow_is : 2 ^ suc (k + 970) ≡ 2 ^ suc k * 2 ^ 970
  pow_is = ap (λ (z : ℕ). 2 ^ z) {x = suc (k + 970)} {y = suc k + 970} (omega arith) ∙ pow-add 2 (suc k) 970

  x_small : nat_abs (val x) ≤ 2 ^ suc k
  x_small = subst (λ (z : ℤ). nat_abs z ≤ 2 ^ suc k) (sym x_is.is) (subst (λ (n : ℕ). n ≤ 2 ^ suc k) (sym (rq_abs (val d) (2 ^ 970))) (rnd_at_most (nat_abs (val d)) (2 ^ 970) (suc k) (pow_pos 970) (subst (λ (z : ℕ). nat_abs (val d) ≤ z) pow_is h)))

  two_is : ldexp_of d (negsuc (k + 970)) ≡ mul binary64 x (power (negsuc k))
  unfolding ldexp_of
  two_is =
      let y = mul binary64 x step_down in
      let last = λ (m : ℤ). cond (lt_z m (negsuc 1021)) (mul binary64 y (power (negsuc 1021))) (mul binary64 y (power m)) in
      let pick = λ (n : ℤ). cond (lt_z n (negsuc 1021)) (last (n +ℤ pos 970)) (mul binary64 x (power n)) in
      ap (λ (t : Bool). cond t (scaled_down d (negsuc (k + 970))) (mul binary64 d (power (negsuc (k + 970))))) (lt-ltb 1021 (k + 970) (omega arith))
      ∙ ap pick (more k)
      ∙ ap (λ (t : Bool). cond t (last (negsuc k +ℤ pos 970)) (mul binary64 x (power (negsuc k)))) (le-ltb 1021 k low)

  c_is : IsNumber (ldexp_of d (negsuc (k + 970))) (rq (val x) (2 ^ suc k))
  c_is = subst (λ (y : Float). IsNumber y (rq (val x) (2 ^ suc k))) (sym two_is) (times_down x (power (negsuc k)) (suc k) (suc k) x_is.number (of_bits-fits binary64 _) (power_down k low) (omega arith) (omega arith) x_small)

  two_products : Halved d (k + 970)
  two_products = record {
    c = rq (val x) (2 ^ suc k);
    is = c_is;
    near = twice_near (2 ^ suc (k + 970)) (2 ^ 970) (2 ^ suc k) (rq (val x) (2 ^ suc k)) (val x) (val d) pow_is
        (subst (λ (z : ℕ). 2 ^ 53 * 2 ^ 970 ≤ z) (sym pow_is) (mul-le-mul_right (2 ^ 970) (pow_mono {i = 53} {j = suc k} (omega arith)))) h x_small
        (subst (λ (z : ℤ). 2 ^ 53 * nat_abs (z *ℤ pos (2 ^ 970) -ℤ val d) ≤ nat_abs (val d) + 2 ^ 52 * 2 ^ 970) (sym x_is.is) (rq_error (val d) (2 ^ 970) (pow_pos 970)))
        (rq_error (val x) (2 ^ suc k) (pow_pos (suc k)));
  }

pub halved : (d : Float) (n : ℕ) → Number d → n ≤ 1991 → nat_abs (val d) ≤ 2 ^ suc n → Halved d n
halved d n N g h = elim (order n 1021) [
  | inl l ↦ one_product d n N l h
  | inr l ↦
      let e : n - 970 + 970 ≡ n = omega arith in
      subst (Halved d) e (two_products d (n - 970) N (omega arith) (omega arith) (subst (λ (k : ℕ). nat_abs (val d) ≤ 2 ^ suc k) (sym e) h))
]
