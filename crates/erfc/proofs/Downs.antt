-- d times 2 ^ i for i below -1022, where the first step down is exact. The second is exact, or the rounded product is a zero whatever it gives. Assumes nothing.
use Rattle.std.proofs.Common.{◌≡◌, ℕ, suc, ◌+◌, ◌-◌, ◌*◌, ◌^◌, ◌<◌, ◌≤◌, Bool, cond, ◌⊎◌, ℤ, pos, negsuc, ◌+ℤ◌, sym, refl, ap, ◌∙◌, subst, inl, inr, lt_of_le_of_lt, le_of_lt, mul-le-mul_right, mul_assoc, mul-le-mul_left, mul-lt-mul_of_pos_right, mul-one, arith, lit≤, pow_pos, pow_mono, pow-add, le-ltb, lt-ltb}
use lib.Signed.{lt_z}
use lib.Ieee.{Float, fin, binary64, mul}
use lib.Ieee.Exact.{HasValue}
use Rattle.ieee.specs.Val.{rnd}
use Rattle.ieee.proofs.Ints.{zs, cancel_lt}
use Rattle.ieee.proofs.Whole.{order, places}
use Rattle.ieee.proofs.Thresholds.{rnd_at_most}
use Rattle.erfc.specs.Scaling.{power, step_down, scaled_down}
use Rattle.erfc.proofs.Rounded.{rounded, rounded_same, rounded_exact, rounded_value, rounded_zero, times}
use Rattle.erfc.proofs.Powers.{power_down, step_down_lem}

pub more : (a : ℕ) → negsuc (a + 970) +ℤ pos 970 ≡ negsuc a
more a = omega zs

pow_more : (a t : ℕ) → 2 ^ suc (a + t) ≡ 2 ^ suc a * 2 ^ t
pow_more a t = ap (λ (z : ℕ). 2 ^ z) {x = suc (a + t)} {y = suc a + t} (omega arith) ∙ pow-add 2 (suc a) t

-- ---- facts of numbers; p is 2 ^ 970
smaller : (a p l : ℕ) → a * p < l → 0 < p → a < l
smaller a p l h P = omega (arith, mul-le-mul_left a P)

scale : (n p u w : ℕ) → w ≡ u * p → n * 1 * w ≡ n * p * u
scale n p u w e = omega (arith, ap (λ (z : ℕ). n * z) e)

scale_twice : (n w p u v : ℕ) → w * p ≡ n → v ≡ u * p * p → w * 1 * v ≡ n * p * u
scale_twice n w p u v e f = omega (arith, ap (λ (z : ℕ). w * z) f, ap (λ (z : ℕ). z * (p * u)) e)

-- q 2 ^ k is 2 ^ 1022 at least and q has 53 digits: so it ends in 970 zeros
long : (q k : ℕ) → q < 2 ^ 53 → 2 ^ 52 * 2 ^ 970 ≤ q * 2 ^ k → 970 ≤ k
long q k small h = places 970 k (lt_of_le_of_lt h (mul-lt-mul_of_pos_right small (pow_pos k)))

-- w p p is below l, which is r p p
few : (w p l r : ℕ) → w * p * p < l → l ≡ r * (p * p) → w < r
few w p l r h e = cancel_lt (p * p) w r (omega (arith, h, e))

module _ (d : Float) (s : Bool) (q k : ℕ) (small : q < 2 ^ 53) (fine : q * 2 ^ k * 2 ^ 970 < 2 ^ 2098) (v : HasValue d s (q * 2 ^ k * 2 ^ 970) (2 ^ 1074)) where
  abbrev n : ℕ
  n = q * 2 ^ k

  abbrev x : Float
  x = mul binary64 d step_down

  abbrev y : Float
  y = mul binary64 x step_down

  x_value : HasValue x s n (2 ^ 1074)
  x_value =
      subst (λ (z : Float). HasValue z s n (2 ^ 1074)) (sym (times d step_down s (n * 2 ^ 970) 1 (2 ^ 970) (pow_pos 970) v step_down_lem))
      (rounded_exact s (n * 2 ^ 970 * 1) (2 ^ 970) q k (pow_pos 970) small (smaller n (2 ^ 970) (2 ^ 2098) fine (pow_pos 970)) (mul-one (n * 2 ^ 970)))

  one : (a : ℕ) → a ≤ 1021 → mul binary64 x (power (negsuc a)) ≡ rounded s (n * 2 ^ 970) (2 ^ suc (a + 970))
  one a h =
      times x (power (negsuc a)) s n 1 (2 ^ suc a) (pow_pos (suc a)) x_value (power_down a h)
      ∙ rounded_same s (n * 1) (2 ^ suc a) (n * 2 ^ 970) (2 ^ suc (a + 970)) (pow_pos (suc a)) (pow_pos (suc (a + 970))) (scale n (2 ^ 970) (2 ^ suc a) (2 ^ suc (a + 970)) (pow_more a 970))

  -- ---- the second step down
  record Second : Type 0 where
    w : ℕ
    value : HasValue y s w (2 ^ 1074)
    so : (w * 2 ^ 970 ≡ n) ⊎ ((w ≤ 2 ^ 52) × (n < 2 ^ 52 * 2 ^ 970))

  y_is : y ≡ rounded s (n * 1) (2 ^ 970)
  y_is = times x step_down s n 1 (2 ^ 970) (pow_pos 970) x_value step_down_lem

  normal : 970 ≤ k → Second
  normal g =
      let w = q * 2 ^ (k - 970) in
      let e : w * 2 ^ 970 ≡ n = mul_assoc q (2 ^ (k - 970)) (2 ^ 970) ∙ ap (λ (z : ℕ). q * z) (sym (pow-add 2 (k - 970) 970) ∙ ap (λ (z : ℕ). 2 ^ z) {x = k - 970 + 970} {y = k} (omega arith)) in
      let f : w < 2 ^ 2098 = smaller w (2 ^ 970) (2 ^ 2098) (subst (λ (z : ℕ). z < 2 ^ 2098) (sym e) (smaller n (2 ^ 970) (2 ^ 2098) fine (pow_pos 970))) (pow_pos 970) in
      record { w = w; value = subst (λ (z : Float). HasValue z s w (2 ^ 1074)) (sym y_is) (rounded_exact s (n * 1) (2 ^ 970) q (k - 970) (pow_pos 970) small f (mul-one n ∙ sym e)); so = inl e }

  subnormal : n < 2 ^ 52 * 2 ^ 970 → Second
  subnormal g =
      let w = rnd (n * 1) (2 ^ 970) in
      let l : w ≤ 2 ^ 52 = rnd_at_most (n * 1) (2 ^ 970) 52 (pow_pos 970) (subst (λ (z : ℕ). z ≤ 2 ^ 52 * 2 ^ 970) (sym (mul-one n)) (le_of_lt g)) in
      record { w = w; value = subst (λ (z : Float). HasValue z s w (2 ^ 1074)) (sym y_is) (rounded_value s (n * 1) (2 ^ 970) (pow_pos 970) (lt_of_le_of_lt l (lit≤ tt))); so = inr (l, g) }

  second : Second
  second = elim (order (2 ^ 52 * 2 ^ 970) n) [ inl h ↦ normal (long q k small h) | inr h ↦ subnormal h ]

  -- ---- the last product: i is -(b + 970 + 970 + 1)
  abbrev goal : ℕ → Float
  goal b = rounded s (n * 2 ^ 970) (2 ^ suc (b + 970 + 970))

  pow_twice : (b : ℕ) → 2 ^ suc (b + 970 + 970) ≡ 2 ^ suc b * 2 ^ 970 * 2 ^ 970
  pow_twice b = pow_more (b + 970) 970 ∙ ap (λ (z : ℕ). z * 2 ^ 970) (pow_more b 970)

  -- the exact product is half a unit at most where i is cut, and where x after the second step is subnormal
  goal_cut : (b : ℕ) → 1021 < b → goal b ≡ fin s 0 (pos 0)
  goal_cut b h = rounded_zero s (n * 2 ^ 970) (2 ^ suc (b + 970 + 970)) (pow_pos (suc (b + 970 + 970))) (tiny (n * 2 ^ 970) (2 ^ 2098) (2 ^ 2099) (2 ^ suc (b + 970 + 970)) fine refl (pow_mono {i = 2099} {j = suc (b + 970 + 970)} (omega arith)))
    where
      tiny : (a l r u : ℕ) → a < l → r ≡ l * 2 → r ≤ u → a * 2 ≤ u
      tiny a l r u f e g = omega arith

  goal_none : (b : ℕ) → 51 < b → n < 2 ^ 52 * 2 ^ 970 → goal b ≡ fin s 0 (pos 0)
  goal_none b h g = rounded_zero s (n * 2 ^ 970) (2 ^ suc (b + 970 + 970)) (pow_pos (suc (b + 970 + 970))) (tiny n (2 ^ 970) (2 ^ suc b) (2 ^ suc (b + 970 + 970)) g (pow_mono {i = 53} {j = suc b} (omega arith)) (pow_twice b))
    where
      tiny : (a p u v : ℕ) → a < 2 ^ 52 * p → 2 ^ 53 ≤ u → v ≡ u * p * p → a * p * 2 ≤ v
      tiny a p u v f g e = omega (arith, mul-le-mul_right (p * 2) (le_of_lt f), mul-le-mul_right (p * p) g)

  last_step : (c : Second) (b : ℕ) → b ≤ 1021 → mul binary64 y (power (negsuc b)) ≡ rounded s (c.w * 1) (2 ^ suc b)
  last_step c b h = times y (power (negsuc b)) s c.w 1 (2 ^ suc b) (pow_pos (suc b)) c.value (power_down b h)

  two : (b : ℕ) → 51 < b → b ≤ 1021 → mul binary64 y (power (negsuc b)) ≡ goal b
  two b g h = go second
    where
      go : Second → mul binary64 y (power (negsuc b)) ≡ goal b
      go c = last_step c b h ∙ elim c.so [
        | inl e ↦ rounded_same s (c.w * 1) (2 ^ suc b) (n * 2 ^ 970) (2 ^ suc (b + 970 + 970)) (pow_pos (suc b)) (pow_pos (suc (b + 970 + 970))) (scale_twice n c.w (2 ^ 970) (2 ^ suc b) (2 ^ suc (b + 970 + 970)) e (pow_twice b))
        | inr l ↦
            let p : 2 ^ 53 ≤ 2 ^ suc b = pow_mono {i = 53} {j = suc b} (omega arith) in
            rounded_zero s (c.w * 1) (2 ^ suc b) (pow_pos (suc b)) (tiny c.w (2 ^ suc b) l.0 p) ∙ sym (goal_none b g l.1)
      ]
        where
          tiny : (w u : ℕ) → w ≤ 2 ^ 52 → 2 ^ 53 ≤ u → w * 1 * 2 ≤ u
          tiny w u a p = omega arith

  least : (b : ℕ) → 1021 < b → mul binary64 y (power (negsuc 1021)) ≡ goal b
  least b h = go second
    where
      tiny : (w u : ℕ) → w < 2 ^ 158 → 2 ^ 159 ≤ u → w * 1 * 2 ≤ u
      tiny w u a p = omega arith

      within : (c : Second) → c.w < 2 ^ 158
      within c = elim c.so [
        | inl e ↦ few c.w (2 ^ 970) (2 ^ 2098) (2 ^ 158) (subst (λ (z : ℕ). z * 2 ^ 970 < 2 ^ 2098) (sym e) fine) refl
        | inr l ↦ lt_of_le_of_lt l.0 (lit≤ tt)
      ]

      go : Second → mul binary64 y (power (negsuc 1021)) ≡ goal b
      go c = last_step c 1021 (omega arith) ∙ rounded_zero s (c.w * 1) (2 ^ 1022) (pow_pos 1022) (tiny c.w (2 ^ 1022) (within c) (lit≤ tt)) ∙ sym (goal_cut b h)

  -- ---- what scaled_down makes of i + 970, and of i + 970 + 970 after a second step
  abbrev last : ℤ → Float
  last m = cond (lt_z m (negsuc 1021)) (mul binary64 y (power (negsuc 1021))) (mul binary64 y (power m))

  abbrev pick : ℤ → Float
  pick i = cond (lt_z i (negsuc 1021)) (last (i +ℤ pos 970)) (mul binary64 x (power i))

  last_is : (b : ℕ) → 51 < b → last (negsuc b) ≡ goal b
  last_is b g = elim (order b 1021) [
    | inl h ↦ ap (λ (t : Bool). cond t (mul binary64 y (power (negsuc 1021))) (mul binary64 y (power (negsuc b)))) (le-ltb 1021 b h) ∙ two b g h
    | inr h ↦ ap (λ (t : Bool). cond t (mul binary64 y (power (negsuc 1021))) (mul binary64 y (power (negsuc b)))) (lt-ltb 1021 b h) ∙ least b h
  ]

  pick_is : (a : ℕ) → pick (negsuc a) ≡ rounded s (n * 2 ^ 970) (2 ^ suc (a + 970))
  pick_is a = elim (order a 1021) [
    | inl h ↦ ap (λ (t : Bool). cond t (last (negsuc a +ℤ pos 970)) (mul binary64 x (power (negsuc a)))) (le-ltb 1021 a h) ∙ one a h
    | inr h ↦
        let e : a - 970 + 970 ≡ a = omega arith in
        ap (λ (t : Bool). cond t (last (negsuc a +ℤ pos 970)) (mul binary64 x (power (negsuc a)))) (lt-ltb 1021 a h)
        ∙ ap (λ (z : ℕ). last (negsuc z +ℤ pos 970)) (sym e)
        ∙ ap last (more (a - 970))
        ∙ last_is (a - 970) (omega arith)
        ∙ ap (λ (z : ℕ). rounded s (n * 2 ^ 970) (2 ^ suc (z + 970))) e
  ]

  pub scaled_down_lem : (i : ℕ) → 1021 < i → scaled_down d (negsuc i) ≡ rounded s (n * 2 ^ 970) (2 ^ suc i)
  scaled_down_lem i h =
      let e : i - 970 + 970 ≡ i = omega arith in
      ap (λ (z : ℕ). pick (negsuc z +ℤ pos 970)) (sym e) ∙ ap pick (more (i - 970)) ∙ pick_is (i - 970) ∙ ap (λ (z : ℕ). rounded s (n * 2 ^ 970) (2 ^ suc z)) e
