-- The square of the pair for 1/x over whole numbers. Assumes nothing.
use Rattle.std.proofs.Common.{◌≡◌, ℕ, ◌+◌, ◌*◌, ◌^◌, ◌<◌, ◌≤◌, ℤ, pos, ◌+ℤ◌, ◌-ℤ◌, ◌*ℤ◌, nat_abs, ap, ◌∙◌, subst, le_trans, le_of_eq, mul-le-mul_right, mul-le-mul, mul-le-mul_left, arith}
use Rattle.ieee.proofs.Ints.{zs, abs_mul, cancel_le}
use Rattle.ieee.proofs.Product.{dist_left}
use Rattle.ieee.proofs.Tools.{poly, lin, triangle, abs_add}
use Rattle.bounds.proofs.Over.{scaled_abs}

-- ---- squares near n n
-- |a a - n n| by d = |a - n|
square_off : (a : ℤ) (n : ℕ) → nat_abs (a *ℤ a -ℤ pos (n * n)) ≤ nat_abs (a -ℤ pos n) * (nat_abs (a -ℤ pos n) + 2 * n)
square_off a n = go (a -ℤ pos n) (identity a (pos n))
  where
    identity : (a n : ℤ) → a *ℤ a -ℤ n *ℤ n ≡ (a -ℤ n) *ℤ ((a -ℤ n) +ℤ (n +ℤ n))
    identity a n = simp poly (omega lin)

    go : (d : ℤ) → a *ℤ a -ℤ pos (n * n) ≡ d *ℤ (d +ℤ (pos n +ℤ pos n)) → nat_abs (a *ℤ a -ℤ pos (n * n)) ≤ nat_abs d * (nat_abs d + 2 * n)
    go d e = le_trans (le_of_eq (ap nat_abs e ∙ abs_mul d (d +ℤ (pos n +ℤ pos n)))) (mul-le-mul_left (nat_abs d) (omega triangle))

high_square : (s d n : ℕ) → s ≤ d * (d + 2 * n) → 2 ^ 53 * d ≤ n → 2 ^ 106 * s ≤ (2 ^ 54 + 1) * (n * n)
high_square s d n h k =
    let p : 2 ^ 53 * d * (2 ^ 53 * d) ≤ n * n = mul-le-mul k k in
    omega (arith, mul-le-mul_right n k)

pair_square : (s d n : ℕ) → s ≤ d * (d + 2 * n) → 2 ^ 104 * d ≤ n → 2 ^ 104 * s ≤ 3 * (n * n)
pair_square s d n h k =
    let w : d ≤ n = omega arith in
    let p : 2 ^ 104 * d * d ≤ n * n = mul-le-mul k w in
    omega (arith, mul-le-mul_right n k)

-- a = x yh and b = x yl, where 1 is n
module _ (a b : ℤ) (n : ℕ) (h : 2 ^ 53 * nat_abs (a -ℤ pos n) ≤ n) (k : 2 ^ 55 * nat_abs b ≤ 5 * n) where
  cross_small : 2 ^ 108 * nat_abs (a *ℤ b +ℤ a *ℤ b) ≤ 10 * ((2 ^ 53 + 1) * (n * n))
  cross_small = go (nat_abs (a *ℤ b +ℤ a *ℤ b)) (nat_abs (a *ℤ b)) (nat_abs a) (nat_abs b) (abs_add (a *ℤ b) (a *ℤ b)) (abs_mul a b) (omega (zs, h)) k
    where
      go : (q r a b : ℕ) → q ≤ r + r → r ≡ a * b → 2 ^ 53 * a ≤ (2 ^ 53 + 1) * n → 2 ^ 55 * b ≤ 5 * n → 2 ^ 108 * q ≤ 10 * ((2 ^ 53 + 1) * (n * n))
      go q r a b h e i k = let p : 2 ^ 53 * a * (2 ^ 55 * b) ≤ (2 ^ 53 + 1) * n * (5 * n) = mul-le-mul i k in omega arith

  low_square : 2 ^ 110 * nat_abs (b *ℤ b) ≤ 25 * (n * n)
  low_square = go (nat_abs (b *ℤ b)) (nat_abs b) (abs_mul b b) k
    where
      go : (r b : ℕ) → r ≡ b * b → 2 ^ 55 * b ≤ 5 * n → 2 ^ 110 * r ≤ 25 * (n * n)
      go r b e k = let p : 2 ^ 55 * b * (2 ^ 55 * b) ≤ 5 * n * (5 * n) = mul-le-mul k k in omega arith

  square_high : 2 ^ 106 * nat_abs (a *ℤ a -ℤ pos (n * n)) ≤ (2 ^ 54 + 1) * (n * n)
  square_high = high_square (nat_abs (a *ℤ a -ℤ pos (n * n))) (nat_abs (a -ℤ pos n)) n (square_off a n) h

  square_pair : 2 ^ 104 * nat_abs ((a +ℤ b) -ℤ pos n) ≤ n → 2 ^ 104 * nat_abs (a *ℤ a +ℤ (a *ℤ b +ℤ a *ℤ b) +ℤ b *ℤ b -ℤ pos (n * n)) ≤ 3 * (n * n)
  square_pair g = subst (λ (z : ℤ). 2 ^ 104 * nat_abs (z -ℤ pos (n * n)) ≤ 3 * (n * n)) (identity a b) (pair_square (nat_abs ((a +ℤ b) *ℤ (a +ℤ b) -ℤ pos (n * n))) (nat_abs ((a +ℤ b) -ℤ pos n)) n (square_off (a +ℤ b) n) g)
    where
      identity : (a b : ℤ) → (a +ℤ b) *ℤ (a +ℤ b) ≡ a *ℤ a +ℤ (a *ℤ b +ℤ a *ℤ b) +ℤ b *ℤ b
      identity a b = simp poly (omega lin)

-- ---- the errors together
step_1 : (a b : ℤ) → a ≡ (a -ℤ b) +ℤ b
step_1 a b = omega lin

step_2 : (u v p : ℤ) → v ≡ (u +ℤ v -ℤ p) -ℤ (u -ℤ p)
step_2 u v p = omega lin

step_3 : (u p n : ℤ) → u -ℤ n ≡ (u -ℤ p) +ℤ (p -ℤ n)
step_3 u p n = omega lin

step_4 : (u v w p q b n : ℤ) → u +ℤ w -ℤ n ≡ (w -ℤ (q +ℤ v)) +ℤ (u +ℤ v -ℤ p) +ℤ ((p +ℤ q +ℤ b -ℤ n) -ℤ b)
step_4 u v w p q b n = omega lin

-- all times x²: u, v, w are the high part, its rest and the low part; p, q, b are yh², 2 yh yl, yl²; 1 is N, and f is 2 ^ -1074 x²
module _ (u v w p q b : ℤ) (N f : ℕ)
    (h₁ : 2 ^ 53 * nat_abs (u -ℤ p) ≤ nat_abs p + 2 ^ 52 * f) (h₂ : 2 ^ 104 * nat_abs (u +ℤ v -ℤ p) ≤ nat_abs p + 2 ^ 108 * f)
    (h₃ : 2 ^ 103 * nat_abs (w -ℤ (q +ℤ v)) ≤ 2 ^ 50 * nat_abs (q +ℤ v) + (nat_abs q + nat_abs v) + 2 ^ 107 * f)
    (k₁ : 2 ^ 106 * nat_abs (p -ℤ pos N) ≤ (2 ^ 54 + 1) * N) (k₂ : 2 ^ 108 * nat_abs q ≤ 10 * ((2 ^ 53 + 1) * N)) (k₃ : 2 ^ 104 * nat_abs (p +ℤ q +ℤ b -ℤ pos N) ≤ 3 * N) (k₄ : 2 ^ 110 * nat_abs b ≤ 25 * N)
    (k₅ : 2 ^ 200 * f ≤ N) where
  p_most : 2 ^ 53 * nat_abs p ≤ (2 ^ 53 + 3) * N
  p_most = go p N k₁ (step_1 p (pos N))
    where
      go : (p : ℤ) (N : ℕ) → 2 ^ 106 * nat_abs (p -ℤ pos N) ≤ (2 ^ 54 + 1) * N → p ≡ (p -ℤ pos N) +ℤ pos N → 2 ^ 53 * nat_abs p ≤ (2 ^ 53 + 3) * N
      go p N h e = let e₁ = ap nat_abs e in omega triangle

  u_near : 2 ^ 60 * nat_abs (u -ℤ p) ≤ (2 ^ 7 + 1) * N
  u_near = omega (arith, h₁, p_most, k₅)

  pair_near : 2 ^ 103 * nat_abs (u +ℤ v -ℤ p) ≤ N
  pair_near = omega (arith, h₂, p_most, k₅)

  v_small : 2 ^ 60 * nat_abs v ≤ (2 ^ 7 + 2) * N
  v_small = go u v p u_near pair_near (step_2 u v p)
    where
      go : (u v p : ℤ) → 2 ^ 60 * nat_abs (u -ℤ p) ≤ (2 ^ 7 + 1) * N → 2 ^ 103 * nat_abs (u +ℤ v -ℤ p) ≤ N → v ≡ (u +ℤ v -ℤ p) -ℤ (u -ℤ p) → 2 ^ 60 * nat_abs v ≤ (2 ^ 7 + 2) * N
      go u v p a b e = let e₁ = ap nat_abs e in omega triangle

  -- 2 * 5 * 2 ^ -55 and 2 ^ -53, and a little more
  low_sum : 2 ^ 56 * nat_abs (q +ℤ v) ≤ 29 * N
  low_sum = omega (triangle, k₂, v_small)

  madd_near : 2 ^ 103 * nat_abs (w -ℤ (q +ℤ v)) ≤ N
  madd_near = omega (arith, h₃, low_sum, k₂, v_small)

  pub total_high : 2 ^ 53 * nat_abs (u -ℤ pos N) ≤ 4 * N
  total_high = omega (arith, ap nat_abs (step_3 u p (pos N)), u_near, k₁, abs_add (u -ℤ p) (p -ℤ pos N))

  pub total_low : 2 ^ 51 * nat_abs w ≤ 1 * N
  total_low = omega (arith, ap nat_abs (step_1 w (q +ℤ v)), madd_near, low_sum, abs_add (w -ℤ (q +ℤ v)) (q +ℤ v))

  pub total_near : 2 ^ 98 * nat_abs (u +ℤ w -ℤ pos N) ≤ 1 * N
  total_near = omega (triangle, ap nat_abs (step_4 u v w p q b (pos N)), madd_near, pair_near, k₃, k₄)

  -- all three
  pub totals : (2 ^ 53 * nat_abs (u -ℤ pos N) ≤ 4 * N) × ((2 ^ 51 * nat_abs w ≤ 1 * N) × (2 ^ 98 * nat_abs (u +ℤ w -ℤ pos N) ≤ 1 * N))
  totals = (total_high, (total_low, total_near))

-- ---- x² times the steps
module _ (x y y' g g' i l : ℤ) where
  id_p : x *ℤ y *ℤ (x *ℤ y) ≡ x *ℤ x *ℤ (y *ℤ y)
  id_p = simp poly (omega lin)

  id_u : x *ℤ x *ℤ g *ℤ l -ℤ x *ℤ y *ℤ (x *ℤ y) ≡ x *ℤ x *ℤ (g *ℤ l -ℤ y *ℤ y)
  id_u = simp poly (omega lin)

  id_uv : x *ℤ x *ℤ g *ℤ l +ℤ x *ℤ x *ℤ g' *ℤ l -ℤ x *ℤ y *ℤ (x *ℤ y) ≡ x *ℤ x *ℤ ((g +ℤ g') *ℤ l -ℤ y *ℤ y)
  id_uv = simp poly (omega lin)

  id_v : x *ℤ x *ℤ g' *ℤ l ≡ x *ℤ x *ℤ (g' *ℤ l)
  id_v = simp poly (omega lin)

  id_q : x *ℤ y *ℤ (x *ℤ y') +ℤ x *ℤ y *ℤ (x *ℤ y') ≡ x *ℤ x *ℤ ((y +ℤ y) *ℤ y')
  id_q = simp poly (omega lin)

  id_s : x *ℤ y *ℤ (x *ℤ y') +ℤ x *ℤ y *ℤ (x *ℤ y') +ℤ x *ℤ x *ℤ g' *ℤ l ≡ x *ℤ x *ℤ ((y +ℤ y) *ℤ y' +ℤ g' *ℤ l)
  id_s = simp poly (omega lin)

  id_w : x *ℤ x *ℤ i *ℤ l -ℤ (x *ℤ y *ℤ (x *ℤ y') +ℤ x *ℤ y *ℤ (x *ℤ y') +ℤ x *ℤ x *ℤ g' *ℤ l) ≡ x *ℤ x *ℤ (i *ℤ l -ℤ ((y +ℤ y) *ℤ y' +ℤ g' *ℤ l))
  id_w = simp poly (omega lin)

  id_t : x *ℤ x *ℤ (g +ℤ i) *ℤ l ≡ x *ℤ x *ℤ g *ℤ l +ℤ x *ℤ x *ℤ i *ℤ l
  id_t = simp poly (omega lin)

times : (X : ℕ) (z : ℤ) {w : ℤ} → w ≡ pos X *ℤ pos X *ℤ z → nat_abs w ≡ X * X * nat_abs z
times X z e = ap nat_abs e ∙ abs_mul (pos X *ℤ pos X) z

times_error : (t u k d p l d' p' : ℕ) → d' ≡ k * d → p' ≡ k * p → t * d ≤ p + u * l → t * d' ≤ p' + u * (k * l)
times_error t u k d p l d' p' a b h = rw (a, b) (omega (arith, mul-le-mul_left k h))

times_3 : (k d s q v l d' s' q' v' : ℕ) → d' ≡ k * d → s' ≡ k * s → q' ≡ k * q → v' ≡ k * v → 2 ^ 103 * d ≤ 2 ^ 50 * s + (q + v) + 2 ^ 107 * l → 2 ^ 103 * d' ≤ 2 ^ 50 * s' + (q' + v') + 2 ^ 107 * (k * l)
times_3 k d s q v l d' s' q' v' a b c e h = omega (arith, mul-le-mul_left k h)

-- one factor l less
less : (t c l D d : ℕ) → 0 < l → D ≡ d * l → t * D ≤ c * (l * l * (l * l)) → t * d ≤ c * (l * l * l)
less t c l D d L e h = cancel_le l (t * d) (c * (l * l * l)) L (omega (arith, h, ap (λ (n : ℕ). t * n) e))

less_one : (z : ℤ) (t c l : ℕ) → 0 < l → t * nat_abs (z *ℤ pos l -ℤ pos (l * l * (l * l))) ≤ c * (l * l * (l * l)) → t * nat_abs (z -ℤ pos (l * l * l)) ≤ c * (l * l * l)
less_one z t c l L h = less t c l (nat_abs (z *ℤ pos l -ℤ pos (l * l * (l * l)))) (nat_abs (z -ℤ pos (l * l * l))) L (ap (λ (n : ℕ). nat_abs (z *ℤ pos l -ℤ pos n)) (omega arith) ∙ scaled_abs z (pos (l * l * l)) l) h

-- X is at most 2 ^ 5, so x² units are little
unit_small : (X l : ℕ) → X ≤ 2 ^ 5 * l → 2 ^ 210 ≤ l → 2 ^ 200 * (X * X * l) ≤ l * l * (l * l)
unit_small X l h k =
    let p : X * X ≤ 2 ^ 5 * l * (2 ^ 5 * l) = mul-le-mul h h in
    omega (arith, mul-le-mul_right l p, mul-le-mul_left (l * l * l) k)

-- ---- the same from the steps: y + y' is the pair for 1/x, g + g' the product of y with itself, and i the low part; x is X, and 1 is l
module _ (X l : ℕ) (y y' g g' i : ℤ)
    (e₁ : 2 ^ 53 * nat_abs (g *ℤ pos l -ℤ y *ℤ y) ≤ nat_abs (y *ℤ y) + 2 ^ 52 * l) (e₂ : 2 ^ 104 * nat_abs ((g +ℤ g') *ℤ pos l -ℤ y *ℤ y) ≤ nat_abs (y *ℤ y) + 2 ^ 108 * l)
    (e₃ : 2 ^ 103 * nat_abs (i *ℤ pos l -ℤ ((y +ℤ y) *ℤ y' +ℤ g' *ℤ pos l)) ≤ 2 ^ 50 * nat_abs ((y +ℤ y) *ℤ y' +ℤ g' *ℤ pos l) + (nat_abs ((y +ℤ y) *ℤ y') + nat_abs (g' *ℤ pos l)) + 2 ^ 107 * l)
    (near : 2 ^ 104 * nat_abs (pos X *ℤ (y +ℤ y') -ℤ pos l *ℤ pos l) ≤ l * l) (high_near : 2 ^ 53 * nat_abs (pos X *ℤ y -ℤ pos l *ℤ pos l) ≤ l * l) (low_small : 2 ^ 55 * nat_abs (pos X *ℤ y') ≤ 5 * (l * l))
    (greatest : X ≤ 2 ^ 5 * l) (large : 2 ^ 210 ≤ l) where
  h₁ : 2 ^ 53 * nat_abs (pos X *ℤ pos X *ℤ g *ℤ pos l -ℤ pos X *ℤ y *ℤ (pos X *ℤ y)) ≤ nat_abs (pos X *ℤ y *ℤ (pos X *ℤ y)) + 2 ^ 52 * (X * X * l)
  h₁ = times_error (2 ^ 53) (2 ^ 52) (X * X) (nat_abs (g *ℤ pos l -ℤ y *ℤ y)) (nat_abs (y *ℤ y)) l _ _ (times X (g *ℤ pos l -ℤ y *ℤ y) (id_u (pos X) y y' g g' i (pos l))) (times X (y *ℤ y) (id_p (pos X) y y' g g' i (pos l))) e₁

  h₂ : 2 ^ 104 * nat_abs (pos X *ℤ pos X *ℤ g *ℤ pos l +ℤ pos X *ℤ pos X *ℤ g' *ℤ pos l -ℤ pos X *ℤ y *ℤ (pos X *ℤ y)) ≤ nat_abs (pos X *ℤ y *ℤ (pos X *ℤ y)) + 2 ^ 108 * (X * X * l)
  h₂ = times_error (2 ^ 104) (2 ^ 108) (X * X) (nat_abs ((g +ℤ g') *ℤ pos l -ℤ y *ℤ y)) (nat_abs (y *ℤ y)) l _ _ (times X ((g +ℤ g') *ℤ pos l -ℤ y *ℤ y) (id_uv (pos X) y y' g g' i (pos l))) (times X (y *ℤ y) (id_p (pos X) y y' g g' i (pos l))) e₂

  -- 2 x² yh yl
  abbrev cross : ℤ
  cross = pos X *ℤ y *ℤ (pos X *ℤ y') +ℤ pos X *ℤ y *ℤ (pos X *ℤ y')

  h₃ : 2 ^ 103 * nat_abs (pos X *ℤ pos X *ℤ i *ℤ pos l -ℤ (cross +ℤ pos X *ℤ pos X *ℤ g' *ℤ pos l)) ≤ 2 ^ 50 * nat_abs (cross +ℤ pos X *ℤ pos X *ℤ g' *ℤ pos l) + (nat_abs cross + nat_abs (pos X *ℤ pos X *ℤ g' *ℤ pos l)) + 2 ^ 107 * (X * X * l)
  h₃ =
      times_3 (X * X) (nat_abs (i *ℤ pos l -ℤ ((y +ℤ y) *ℤ y' +ℤ g' *ℤ pos l))) (nat_abs ((y +ℤ y) *ℤ y' +ℤ g' *ℤ pos l)) (nat_abs ((y +ℤ y) *ℤ y')) (nat_abs (g' *ℤ pos l)) l _ _ _ _
      (times X (i *ℤ pos l -ℤ ((y +ℤ y) *ℤ y' +ℤ g' *ℤ pos l)) (id_w (pos X) y y' g g' i (pos l))) (times X ((y +ℤ y) *ℤ y' +ℤ g' *ℤ pos l) (id_s (pos X) y y' g g' i (pos l))) (times X ((y +ℤ y) *ℤ y') (id_q (pos X) y y' g g' i (pos l))) (times X (g' *ℤ pos l) (id_v (pos X) y y' g g' i (pos l))) e₃

  k₁ : 2 ^ 106 * nat_abs (pos X *ℤ y *ℤ (pos X *ℤ y) -ℤ pos (l * l * (l * l))) ≤ (2 ^ 54 + 1) * (l * l * (l * l))
  k₁ = square_high (pos X *ℤ y) (pos X *ℤ y') (l * l) high_near low_small

  k₂ : 2 ^ 108 * nat_abs cross ≤ 10 * ((2 ^ 53 + 1) * (l * l * (l * l)))
  k₂ = cross_small (pos X *ℤ y) (pos X *ℤ y') (l * l) high_near low_small

  k₃ : 2 ^ 104 * nat_abs (pos X *ℤ y *ℤ (pos X *ℤ y) +ℤ cross +ℤ pos X *ℤ y' *ℤ (pos X *ℤ y') -ℤ pos (l * l * (l * l))) ≤ 3 * (l * l * (l * l))
  k₃ = square_pair (pos X *ℤ y) (pos X *ℤ y') (l * l) high_near low_small (subst (λ (z : ℤ). 2 ^ 104 * nat_abs (z -ℤ pos (l * l)) ≤ l * l) (dist_left (pos X) y y') near)

  k₄ : 2 ^ 110 * nat_abs (pos X *ℤ y' *ℤ (pos X *ℤ y')) ≤ 25 * (l * l * (l * l))
  k₄ = low_square (pos X *ℤ y) (pos X *ℤ y') (l * l) high_near low_small

  bounds : (2 ^ 53 * nat_abs (pos X *ℤ pos X *ℤ g *ℤ pos l -ℤ pos (l * l * (l * l))) ≤ 4 * (l * l * (l * l))) × ((2 ^ 51 * nat_abs (pos X *ℤ pos X *ℤ i *ℤ pos l) ≤ 1 * (l * l * (l * l))) × (2 ^ 98 * nat_abs (pos X *ℤ pos X *ℤ g *ℤ pos l +ℤ pos X *ℤ pos X *ℤ i *ℤ pos l -ℤ pos (l * l * (l * l))) ≤ 1 * (l * l * (l * l))))
  bounds = totals (pos X *ℤ pos X *ℤ g *ℤ pos l) (pos X *ℤ pos X *ℤ g' *ℤ pos l) (pos X *ℤ pos X *ℤ i *ℤ pos l) (pos X *ℤ y *ℤ (pos X *ℤ y)) cross (pos X *ℤ y' *ℤ (pos X *ℤ y')) (l * l * (l * l)) (X * X * l) h₁ h₂ h₃ k₁ k₂ k₃ k₄ (unit_small X l greatest large)

  module _ (L : 0 < l) where
    pub square_high_near : 2 ^ 53 * nat_abs (pos X *ℤ pos X *ℤ g -ℤ pos (l * l * l)) ≤ 4 * (l * l * l)
    square_high_near = less_one (pos X *ℤ pos X *ℤ g) (2 ^ 53) 4 l L bounds.0

    pub square_low_small : 2 ^ 51 * nat_abs (pos X *ℤ pos X *ℤ i) ≤ 1 * (l * l * l)
    square_low_small = less (2 ^ 51) 1 l (nat_abs (pos X *ℤ pos X *ℤ i *ℤ pos l)) (nat_abs (pos X *ℤ pos X *ℤ i)) L (abs_mul (pos X *ℤ pos X *ℤ i) (pos l)) bounds.1.0

    pub square_pair_near : 2 ^ 98 * nat_abs (pos X *ℤ pos X *ℤ (g +ℤ i) -ℤ pos (l * l * l)) ≤ 1 * (l * l * l)
    square_pair_near = less_one (pos X *ℤ pos X *ℤ (g +ℤ i)) (2 ^ 98) 1 l L (le_trans (le_of_eq (ap (λ (z : ℤ). 2 ^ 98 * nat_abs (z -ℤ pos (l * l * (l * l)))) (id_t (pos X) y y' g g' i (pos l)))) bounds.1.1)
