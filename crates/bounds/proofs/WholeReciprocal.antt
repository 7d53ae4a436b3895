-- The pair for 1/x over whole numbers: x is X units of 2 ^ -1074, and 1 is L = 2 ^ 1074 units. Assumes nothing.
use Rattle.std.proofs.Common.{◌≡◌, ℕ, ◌+◌, ◌-◌, ◌*◌, ◌%◌, ◌^◌, ◌<◌, ◌≤◌, false, ℤ, pos, ◌+ℤ◌, ◌-ℤ◌, ◌*ℤ◌, neg_ℤ, nat_abs, sym, refl, ap, ◌∙◌, subst, inl, inr, le_trans, le_of_eq, lt_of_lt_of_le, lt_of_le_of_lt, mul-le-mul_right, mul-le-mul, mul-le-mul_left, mul-pos, arith, lit<, lit≤, pow_pos, pow_mono, pow-add}
use Rattle.std.proofs.lemmas.Nat.{mod_below}
use lib.Pow.{pow-lt}
use lib.Ieee.{Float, binary64, fits, of_bits, mul, div, neg}
use lib.Ieee.Fits.{div-fits, neg-fits}
use Rattle.ieee.specs.Val.{val, rnd, rq, Under}
use Rattle.ieee.specs.Pairs.{Good}
use Rattle.ieee.specs.Meaning.{Number, Operand}
use Rattle.ieee.proofs.Ints.{zs, Lt, abs_mul, massoc, neg_mul, cancel_le}
use Rattle.ieee.proofs.Tools.{abs_neg, abs_back, recip_off}
use Rattle.ieee.proofs.Round.{UnitOf, unit_of}
use Rattle.ieee.proofs.Whole.{order, Repr}
use Rattle.ieee.proofs.Scaled.{sub_scaled}
use Rattle.ieee.proofs.Bridge.{of_value, val_neg, finite_neg}
use Rattle.ieee.proofs.Bounded.{rq_le}
use Rattle.ieee.proofs.Fractions.{div_is, rq_error}
use Rattle.ieee.proofs.Middle.{to_f64}
use Rattle.ieee.proofs.Patterns.{sized, normal, normal_value}
use Rattle.ieee.proofs.Products.{good_times}
use Rattle.double_double.specs.Ops.{Ops, Meaning}
use Rattle.erfc.specs.Rows.{Argument, fast_end, tail_end}
use Rattle.erfc.specs.Asymptotics.{one, reciprocal}
use Rattle.erfc.proofs.Tail.{operand}
use Rattle.bounds.specs.Floats.{above}
use Rattle.bounds.proofs.Sizes.{good_number}

pub to_tail : {x : Float} → Argument x fast_end → Argument x tail_end
to_tail a = record { bits = a.bits; is = a.is; first = a.first; below = lt_of_lt_of_le a.below (lit≤ tt) }

-- ---- the value of a tail argument: 53 digits, of units between 2 ^ 1023 and 2 ^ 1026
pub record TailValue (x : Float) : Type 0 where
  pub M : ℕ
  pub e : ℕ
  pub is : val x ≡ pos (M * 2 ^ e)
  pub low : 2 ^ 52 ≤ M
  pub high : M < 2 ^ 53
  pub first : 1023 ≤ e
  pub last : e ≤ 1026

pub tail_value : (x : Float) → Argument x tail_end → TailValue x
tail_value x a = subst TailValue (sym a.is) (go a.bits a.first a.below)
  where
    go : (b : ℕ) → 0x400713786d9c7c0a ≤ b → b < 0x403b39dc41e48bfd → TailValue (of_bits binary64 b)
    go b p q =
        let n = normal b (omega arith) (omega arith) in
        let f = n.field in
        let t : b % 2 ^ 52 < 2 ^ 52 = mod_below b (2 ^ 52) (lit< tt) in
        record {
          M = 2 ^ 52 + b % 2 ^ 52;
          e = n.x;
          is = (of_value (of_bits binary64 b) false (sized n.x (b % 2 ^ 52)) (normal_value b n)).1;
          low = omega arith;
          high = omega arith;
          first = omega arith;
          last = omega arith;
        }

-- ---- what is left of 1 - x y is of 53 digits, for y the rounded 1 / x
-- the unit of y, from the size of y: 2 ^ h is L L
lowest : (h M e k : ℕ) → 2 ^ h < 2 ^ 53 * (M * 2 ^ e * 2 ^ k) → M < 2 ^ 53 → h < 106 + (e + k)
lowest h M e k p m = elim (order (106 + (e + k)) h) [
  | inl l ↦ absurd (let a : 2 ^ (106 + (e + k)) ≤ 2 ^ h = pow_mono l in let b : M ≤ 2 ^ 53 = omega arith in omega (arith, pow-add 2 106 (e + k), pow-add 2 e k, mul-le-mul_right (2 ^ e * 2 ^ k) b))
  | inr g ↦ g
]

highest : (h M e k : ℕ) → 2 ^ 52 * (M * 2 ^ e * 2 ^ k) ≤ 2 ^ h → 2 ^ 52 ≤ M → 104 + (e + k) ≤ h
highest h M e k p m = elim (order (104 + (e + k)) h) [
  | inl l ↦ l
  | inr g ↦ absurd (let a : 2 ^ h < 2 ^ (104 + (e + k)) = pow-lt g in omega (arith, pow-add 2 104 (e + k), pow-add 2 e k, mul-le-mul_right (2 ^ e * 2 ^ k) m))
]

-- z is the rest, 1 - x y, of X = x and Y = y
pub record Rest (X Y l : ℕ) (z : ℤ) : Type 0 where
  pub holds : Repr z
  pub is : z *ℤ pos l ≡ neg_ℤ (pos X) *ℤ pos Y +ℤ pos l *ℤ pos l
  pub small : 2 ^ 53 * nat_abs z ≤ l

-- all is a multiple of G = P Q, where x = M P and y = c Q; l l is R G, and G is t l
module _ (M c P Q R t l : ℕ) (e : R * (P * Q) ≡ l * l) (f : t * l ≡ P * Q) where
  rest_is : (pos R -ℤ pos (M * c)) *ℤ pos t *ℤ pos l ≡ neg_ℤ (pos (M * P)) *ℤ pos (c * Q) +ℤ pos l *ℤ pos l
  rest_is =
      massoc (pos R -ℤ pos (M * c)) (pos t) (pos l) ∙ ap (λ (g : ℕ). (pos R -ℤ pos (M * c)) *ℤ pos g) f ∙ sym (sub_scaled (pos R) (pos (M * c)) (pos (P * Q)))
      ∙ ap (λ (g : ℕ). pos g -ℤ pos (M * c * (P * Q))) e ∙ ap (λ (g : ℕ). pos (l * l) -ℤ pos g) (omega arith) ∙ turned (pos (l * l)) (pos (M * P * (c * Q))) ∙ ap (λ (g : ℤ). g +ℤ pos (l * l)) (sym (neg_mul (pos (M * P)) (pos (c * Q))))
    where
      turned : (a b : ℤ) → a -ℤ b ≡ neg_ℤ b +ℤ a
      turned a b = omega zs

  -- half of the last digit of y
  half : 0 < P * Q → c * Q * (M * P) * 2 ≤ l * l * 2 + M * P * Q → l * l * 2 ≤ c * Q * (M * P) * 2 + M * P * Q → (M * c * 2 ≤ R * 2 + M) × (R * 2 ≤ M * c * 2 + M)
  half p g h = (cancel_le (P * Q) (M * c * 2) (R * 2 + M) p (omega arith), cancel_le (P * Q) (R * 2) (M * c * 2 + M) p (omega arith))

few : (R m M : ℕ) → (m * 2 ≤ R * 2 + M) × (R * 2 ≤ m * 2 + M) → M < 2 ^ 53 → Lt (pos R -ℤ pos m) (2 ^ 53) × (2 * nat_abs (pos R -ℤ pos m) ≤ M)
few R m M h k = ((omega zs, omega zs), omega zs)

-- twice the rest is at most X times the unit of y, and that is at most 2 ^ -52
small₀ : (d M t l P Q : ℕ) → 0 < l → 2 * d ≤ M → t * l ≡ P * Q → 2 ^ 52 * (M * P * Q) ≤ l * l → 2 ^ 53 * (d * t) ≤ l
small₀ d M t l P Q p h f g = cancel_le l (2 ^ 53 * (d * t)) l p (omega (arith, mul-le-mul_right (P * Q) h, ap (λ (y : ℕ). d * y) f))

-- L is 2 ^ a; s is the rounded quotient of L L by X = M 2 ^ e
rest₀ : (a M e : ℕ) → a ≡ 1074 → 2 ^ 52 ≤ M → M < 2 ^ 53 → 1023 ≤ e → e ≤ 1026 → (s : ℕ) → UnitOf (2 ^ a * 2 ^ a) (M * 2 ^ e) s → (z : ℤ) × Rest (M * 2 ^ e) s (2 ^ a) z
rest₀ a M e i m n p q s u =
    let k = u.k in
    let w = e + k in
    let P = 2 ^ e in
    let Q = 2 ^ k in
    let l = 2 ^ a in
    let g : a + a < 106 + w = lowest (a + a) M e k (subst (λ (y : ℕ). y < 2 ^ 53 * (M * P * Q)) (sym (pow-add 2 a a)) u.hi) n in
    let b : 2 ^ 52 * (M * P * Q) ≤ l * l = elim u.lo [ inl y ↦ absurd (omega arith) | inr y ↦ y ] in
    let h : 104 + w ≤ a + a = highest (a + a) M e k (subst (λ (y : ℕ). 2 ^ 52 * (M * P * Q) ≤ y) (sym (pow-add 2 a a)) b) m in
    let R = 2 ^ (a + a - w) in
    let t = 2 ^ (w - a) in
    let e₁ : a + a - w + w ≡ a + a = omega arith in
    let e₂ : w - a + a ≡ w = omega arith in
    let E : R * (P * Q) ≡ l * l = ap (λ (y : ℕ). R * y) (sym (pow-add 2 e k)) ∙ sym (pow-add 2 (a + a - w) w) ∙ ap (λ (y : ℕ). 2 ^ y) e₁ ∙ pow-add 2 a a in
    let F : t * l ≡ P * Q = sym (pow-add 2 (w - a) a) ∙ ap (λ (y : ℕ). 2 ^ y) e₂ ∙ pow-add 2 e k in
    let c = u.c in
    let H = half M c P Q R t l E F (mul-pos (pow_pos e) (pow_pos k)) (subst (λ (y : ℕ). y * (M * P) * 2 ≤ l * l * 2 + M * P * Q) u.is u.above) (subst (λ (y : ℕ). l * l * 2 ≤ y * (M * P) * 2 + M * P * Q) u.is u.below) in
    let D = few R (M * c) M H n in
    let d = pos R -ℤ pos (M * c) in (
      d *ℤ pos t,
      record {
        holds = record { q = d; j = w - a; small = D.0; is = refl };
        is = rest_is M c P Q R t l E F ∙ ap (λ (y : ℕ). neg_ℤ (pos (M * P)) *ℤ pos y +ℤ pos l *ℤ pos l) (sym u.is);
        small = subst (λ (y : ℕ). 2 ^ 53 * y ≤ l) (sym (abs_mul d (pos t))) (small₀ (nat_abs d) M t l P Q (pow_pos a) D.1 F b);
      },
    )

-- ---- the bounds over whole numbers
-- the product is 1 but for the rest
product_near : (X Y l : ℕ) (z : ℤ) → z *ℤ pos l ≡ neg_ℤ (pos X) *ℤ pos Y +ℤ pos l *ℤ pos l → nat_abs (pos X *ℤ pos Y -ℤ pos l *ℤ pos l) ≡ nat_abs z * l
product_near X Y l z e = omega (zs, e ∙ ap (λ (y : ℤ). y +ℤ pos l *ℤ pos l) (neg_mul (pos X) (pos Y))) ∙ abs_mul z (pos l)

none : (X Y l : ℕ) (z : ℤ) → z *ℤ pos l ≡ neg_ℤ (pos X) *ℤ pos Y +ℤ pos l *ℤ pos l → nat_abs (z *ℤ pos l -ℤ (pos l *ℤ pos l -ℤ pos X *ℤ pos Y)) ≡ 0
none X Y l z e = omega (zs, e ∙ ap (λ (y : ℤ). y +ℤ pos l *ℤ pos l) (neg_mul (pos X) (pos Y)))

-- x y is at most 1 + 2 ^ -53
most : (X Y l : ℕ) (c : ℕ) → nat_abs (pos (X * Y) -ℤ pos (l * l)) ≡ c * l → 2 ^ 53 * c ≤ l → 2 ^ 53 * (X * Y) ≤ (2 ^ 53 + 1) * (l * l)
most X Y l c e h = let w : X * Y ≤ l * l + c * l = omega (zs, e) in omega (arith, mul-le-mul_right l h)

-- x times the error of the last product, f; X is at most 2 ^ 5, and 2 ^ 110 units of 2 ^ -1074 are little
error₀ : (X Y l c f : ℕ) → 2 ^ 53 * (X * Y) ≤ (2 ^ 53 + 1) * (l * l) → 2 ^ 53 * c ≤ l → 2 ^ 53 * f ≤ Y * c + 2 ^ 52 * l → X ≤ 2 ^ 5 * l → 2 ^ 120 ≤ l → 2 ^ 106 * (X * f) ≤ 3 * (l * l * l)
error₀ X Y l c f a b g h i =
    let p : 2 ^ 106 * (X * f) ≤ 2 ^ 53 * (X * (Y * c)) + 2 ^ 105 * (X * l) = omega (arith, mul-le-mul_left X g) in
    let q : 2 ^ 53 * (X * (Y * c)) ≤ 2 * (l * l * (2 ^ 53 * c)) = omega (arith, mul-le-mul_right c a) in
    let r : l * l * (2 ^ 53 * c) ≤ l * l * l = mul-le-mul_left (l * l) b in
    omega (arith, mul-le-mul_right l h, mul-le-mul_right (l * l) i)

near₀ : (B d c X f l : ℕ) → 0 < l → B * l ≤ l * 0 + d * c + X * f → d ≡ c * l → 2 ^ 53 * c ≤ l → 2 ^ 106 * (X * f) ≤ 3 * (l * l * l) → 2 ^ 104 * B ≤ l * l
near₀ B d c X f l L h e b g =
    let p : 2 ^ 53 * c * (2 ^ 53 * c) ≤ l * l = mul-le-mul b b in
    cancel_le l (2 ^ 104 * B) (l * l) L (omega (arith, mul-le-mul_right l p, ap (λ (y : ℕ). y * c) e))

low₀ : (B c X Y f l : ℕ) → 0 < l → B * l ≤ X * f + X * Y * c → 2 ^ 53 * (X * Y) ≤ (2 ^ 53 + 1) * (l * l) → 2 ^ 53 * c ≤ l → 2 ^ 106 * (X * f) ≤ 3 * (l * l * l) → 2 ^ 55 * B ≤ 5 * (l * l)
low₀ B c X Y f l L h a b g =
    let p : 2 ^ 53 * (X * Y * c) ≤ (2 ^ 53 + 1) * (l * l * c) = omega (arith, mul-le-mul_right c a) in
    let q : l * l * (2 ^ 53 * c) ≤ l * l * l = mul-le-mul_left (l * l) b in
    cancel_le l (2 ^ 55 * B) (5 * (l * l)) L (omega arith)

-- x y' = x f + x y z where f is the error of y' for y z
split₀ : (X Y l : ℕ) (w z : ℤ) → nat_abs (pos X *ℤ w) * l ≤ X * nat_abs (w *ℤ pos l -ℤ pos Y *ℤ z) + X * Y * nat_abs z
split₀ X Y l w z =
    let e = ap (λ (y : ℕ). y * l) (abs_mul (pos X) w) in
    let f = abs_mul w (pos l) in
    let g = abs_mul (pos Y) z in
    let h : nat_abs (w *ℤ pos l) ≤ nat_abs (w *ℤ pos l -ℤ pos Y *ℤ z) + nat_abs (pos Y *ℤ z) = abs_back (w *ℤ pos l) (pos Y *ℤ z) in
    omega (arith, e, f, g, h, mul-le-mul_left X h, ap (λ (y : ℕ). X * y) f, ap (λ (y : ℕ). X * y) g)

-- what is used of the steps: z is the rest 1 - x y, and w rounds y z
module _ (X Y l : ℕ) (z w : ℤ) (L : 0 < l) (r : Rest X Y l z) (e : 2 ^ 53 * nat_abs (w *ℤ pos l -ℤ pos Y *ℤ z) ≤ nat_abs (pos Y *ℤ z) + 2 ^ 52 * l) (h : X ≤ 2 ^ 5 * l) (i : 2 ^ 120 ≤ l) where
  whole_most : 2 ^ 53 * (X * Y) ≤ (2 ^ 53 + 1) * (l * l)
  whole_most = most X Y l (nat_abs z) (product_near X Y l z r.is) r.small

  whole_error : 2 ^ 106 * (X * nat_abs (w *ℤ pos l -ℤ pos Y *ℤ z)) ≤ 3 * (l * l * l)
  whole_error = error₀ X Y l (nat_abs z) (nat_abs (w *ℤ pos l -ℤ pos Y *ℤ z)) whole_most r.small (subst (λ (y : ℕ). 2 ^ 53 * nat_abs (w *ℤ pos l -ℤ pos Y *ℤ z) ≤ y + 2 ^ 52 * l) (abs_mul (pos Y) z) e) h i

  whole_high : 2 ^ 53 * nat_abs (pos X *ℤ pos Y -ℤ pos l *ℤ pos l) ≤ l * l
  whole_high = le_trans (le_of_eq (ap (λ (y : ℕ). 2 ^ 53 * y) (product_near X Y l z r.is))) (omega (arith, r.small, mul-le-mul_right l r.small))

  whole_near : 2 ^ 104 * nat_abs (pos X *ℤ (pos Y +ℤ w) -ℤ pos l *ℤ pos l) ≤ l * l
  whole_near =
      near₀ (nat_abs (pos X *ℤ (pos Y +ℤ w) -ℤ pos l *ℤ pos l)) (nat_abs (pos l *ℤ pos l -ℤ pos X *ℤ pos Y)) (nat_abs z) X (nat_abs (w *ℤ pos l -ℤ pos Y *ℤ z)) l L
      (subst (λ (y : ℕ). nat_abs (pos X *ℤ (pos Y +ℤ w) -ℤ pos l *ℤ pos l) * l ≤ l * y + nat_abs (pos l *ℤ pos l -ℤ pos X *ℤ pos Y) * nat_abs z + X * nat_abs (w *ℤ pos l -ℤ pos Y *ℤ z)) (none X Y l z r.is) (recip_off (pos X) (pos Y) w z (pos l)))
      (omega zs ∙ product_near X Y l z r.is) r.small whole_error

  whole_low : 2 ^ 55 * nat_abs (pos X *ℤ w) ≤ 5 * (l * l)
  whole_low = low₀ (nat_abs (pos X *ℤ w)) (nat_abs z) X Y (nat_abs (w *ℤ pos l -ℤ pos Y *ℤ z)) l L (split₀ X Y l w z) whole_most r.small whole_error

-- ---- the pair
-- as Reciprocal, over whole numbers and with sharper bounds: the square needs them
pub record Inverse (x lo hi : Float) : Type 0 where
  pub X : ℕ
  pub is : val x ≡ pos X
  pub least : 2 ^ 1074 ≤ X
  pub greatest : X ≤ 2 ^ 5 * 2 ^ 1074
  pub low : Number lo
  pub high : Number hi
  pub near : 2 ^ 104 * nat_abs (pos X *ℤ (val hi +ℤ val lo) -ℤ pos (2 ^ 1074) *ℤ pos (2 ^ 1074)) ≤ 2 ^ 1074 * 2 ^ 1074
  pub high_near : 2 ^ 53 * nat_abs (pos X *ℤ val hi -ℤ pos (2 ^ 1074) *ℤ pos (2 ^ 1074)) ≤ 2 ^ 1074 * 2 ^ 1074
  pub low_small : 2 ^ 55 * nat_abs (pos X *ℤ val lo) ≤ 5 * (2 ^ 1074 * 2 ^ 1074)

pub one_is : val one ≡ pos (2 ^ 1074)
unfolding of_bits
one_is = refl

one_operand : Operand one
unfolding of_bits fits
one_operand = record { holds = tt; number = tt; small = lit≤ tt }

-- X lies between 1 and 2 ^ 5
tail_least : (M e t : ℕ) → 2 ^ 52 ≤ M → t ≤ e → 2 ^ (52 + t) ≤ M * 2 ^ e
tail_least M e t h k = omega (arith, pow-add 2 52 t, mul-le-mul h (pow_mono k))

tail_greatest : (M e t : ℕ) → M < 2 ^ 53 → e ≤ t → M * 2 ^ e ≤ 2 ^ (53 + t)
tail_greatest M e t h k = let m : M ≤ 2 ^ 53 = omega arith in omega (arith, pow-add 2 53 t, mul-le-mul m (pow_mono k))

pub tail_bounds : (x : Float) → Argument x tail_end → (2 ^ 1074 ≤ above (val x)) × (above (val x) ≤ 2 ^ 5 * 2 ^ 1074)
tail_bounds x a =
    let v = tail_value x a in
    subst (λ (z : ℤ). (2 ^ 1074 ≤ above z) × (above z ≤ 2 ^ 5 * 2 ^ 1074)) (sym v.is) (le_trans (lit≤ tt) (tail_least v.M v.e 1023 v.low v.first), tail_greatest v.M v.e 1026 v.high v.last)

pub tail_positive : (x : Float) → Argument x tail_end → 0 < above (val x)
tail_positive x a = lt_of_lt_of_le (pow_pos 1074) (tail_bounds x a).0

-- the quotient
quotient : (x : Float) (X : ℕ) → Operand x → val x ≡ pos X → 2 ^ 1074 ≤ X → Good (div binary64 one x) 1075 × (val (div binary64 one x) ≡ pos (rnd (2 ^ 1074 * 2 ^ 1074) X))
quotient x X p v h =
    let b : rnd (2 ^ 1074 * 2 ^ 1074) X ≤ 2 ^ 1075 = rq_le (pos (2 ^ 1074 * 2 ^ 1074)) X 1074 (lt_of_lt_of_le (pow_pos 1074) h) (mul-le-mul_left (2 ^ 1074) h) in
    let e : rq (val one *ℤ pos (2 ^ 1074)) X ≡ pos (rnd (2 ^ 1074 * 2 ^ 1074) X) = ap (λ (z : ℤ). rq (z *ℤ pos (2 ^ 1074)) X) one_is in
    let d = div_is one x X one_operand.holds p.holds one_operand.number p.number v (lt_of_lt_of_le (pow_pos 1074) h) (subst Under (sym e) (lt_of_le_of_lt b (lit< tt))) in
    let f = d.1 ∙ e in
    (record { holds = div-fits binary64 one x; number = d.0; small = subst (λ (z : ℤ). nat_abs z ≤ 2 ^ 1075) (sym f) b }, f)

-- x y is not near zero
settled : (X Y n b : ℕ) → 2 ^ 53 * nat_abs (pos X *ℤ pos Y -ℤ pos n) ≤ n → 2 * b ≤ n → b ≤ nat_abs (neg_ℤ (pos X) *ℤ pos Y)
settled X Y n b h k = le_trans (omega (zs, h, k)) (le_of_eq (sym (abs_mul (neg_ℤ (pos X)) (pos Y) ∙ ap (λ (z : ℕ). z * Y) (abs_neg (pos X)))))

module _ {S : Type 0} (o : Ops S) (m : Meaning o) where
  pub inverse : (s : S) (x : Float) → Argument x tail_end → Inverse x (reciprocal o s x).1.lo (reciprocal o s x).1.hi
  unfolding reciprocal
  inverse s x a =
      let v = tail_value x a in
      let X = v.M * 2 ^ v.e in
      let g : 2 ^ 1074 ≤ X = le_trans (lit≤ tt) (tail_least v.M v.e 1023 v.low v.first) in
      let h : X ≤ 2 ^ 5 * 2 ^ 1074 = tail_greatest v.M v.e 1026 v.high v.last in
      let p = operand x tail_end a (lit≤ tt) in
      let y = div binary64 one x in
      let q = quotient x X p v.is g in
      let Y = rnd (2 ^ 1074 * 2 ^ 1074) X in
      let z = rest₀ 1074 v.M v.e refl v.low v.high v.first v.last Y (unit_of (2 ^ 1074 * 2 ^ 1074) X (lt_of_lt_of_le (pow_pos 1074) g)) in
      let n = val_neg x ∙ ap neg_ℤ v.is in
      let pn : Operand (neg x) = record { holds = neg-fits binary64 x p.holds; number = finite_neg x p.number; small = subst (λ (k : ℕ). k ≤ 2 ^ 1474) (sym (ap nat_abs (val_neg x) ∙ abs_neg (val x))) p.small } in
      let py : Operand y = record { holds = q.0.holds; number = q.0.number; small = le_trans q.0.small (lit≤ tt) } in
      let c = m.multiply_add s (neg x) y one pn py one_operand in
      let H = settled X Y (2 ^ 1074 * 2 ^ 1074) (2 ^ 1248) (le_trans (le_of_eq (ap (λ (k : ℕ). 2 ^ 53 * k) (product_near X Y (2 ^ 1074) z.0 z.1.is))) (omega (arith, z.1.small, mul-le-mul_right (2 ^ 1074) z.1.small))) (lit≤ tt) in
      let zl : nat_abs z.0 ≤ 2 ^ 1074 = le_trans (omega arith) z.1.small in
      let r : val (o.multiply_add s (neg x) y one).1 ≡ z.0 = c.exact (inr (subst (λ (k : ℤ). 2 ^ 1248 ≤ nat_abs k) (sym (λ i. n i *ℤ q.1 i)) H)) z.0 (to_f64 z.0 z.1.holds (lt_of_le_of_lt zl (lit< tt))) (z.1.is ∙ sym (λ i. n i *ℤ q.1 i +ℤ one_is i *ℤ pos (2 ^ 1074))) in
      let P : Number (o.multiply_add s (neg x) y one).1 = c.answer in
      let w = good_times y (o.multiply_add s (neg x) y one).1 1075 1074 1075 q.0 (record { holds = P.holds; number = P.number; small = subst (λ (k : ℤ). nat_abs k ≤ 2 ^ 1074) (sym r) zl }) refl (lit< tt) in
      let W = val (mul binary64 y (o.multiply_add s (neg x) y one).1) in
      let f : W ≡ rq (pos Y *ℤ z.0) (2 ^ 1074) = w.1 ∙ (λ i. rq (q.1 i *ℤ r i) (2 ^ 1074)) in
      let E = subst (λ (k : ℤ). 2 ^ 53 * nat_abs (k *ℤ pos (2 ^ 1074) -ℤ pos Y *ℤ z.0) ≤ nat_abs (pos Y *ℤ z.0) + 2 ^ 52 * 2 ^ 1074) (sym f) (rq_error (pos Y *ℤ z.0) (2 ^ 1074) (pow_pos 1074)) in
      record {
        X = X;
        is = v.is;
        least = g;
        greatest = h;
        low = good_number w.0;
        high = good_number q.0;
        near = subst (λ (k : ℤ). 2 ^ 104 * nat_abs (pos X *ℤ (k +ℤ W) -ℤ pos (2 ^ 1074) *ℤ pos (2 ^ 1074)) ≤ 2 ^ 1074 * 2 ^ 1074) (sym q.1) (whole_near X Y (2 ^ 1074) z.0 W (pow_pos 1074) z.1 E h (lit≤ tt));
        high_near = subst (λ (k : ℤ). 2 ^ 53 * nat_abs (pos X *ℤ k -ℤ pos (2 ^ 1074) *ℤ pos (2 ^ 1074)) ≤ 2 ^ 1074 * 2 ^ 1074) (sym q.1) (whole_high X Y (2 ^ 1074) z.0 W (pow_pos 1074) z.1 E h (lit≤ tt));
        low_small = whole_low X Y (2 ^ 1074) z.0 W (pow_pos 1074) z.1 E h (lit≤ tt);
      }
