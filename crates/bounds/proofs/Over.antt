-- A number as an integer over a whole number, and bounds between numbers by bounds between integers. Assumes nothing.
use Rattle.std.proofs.Common.{◌≡◌, ℕ, zero, suc, ◌+◌, ◌-◌, ◌*◌, ◌^◌, ◌<◌, ◌≤◌, ℤ, pos, negsuc, ◌+ℤ◌, ◌-ℤ◌, ◌*ℤ◌, neg_ℤ, nat_abs, sym, refl, ap, ◌∙◌, subst, mul-le-mul_right, mul_comm, lt_of_mul-lt-mul_right, mul-lt-mul_of_pos_right, mul-pos, one-mul, le_of_mul-le-mul_right, arith}
use native.Mathlib.Nat.{eq_of_mul-eq-mul_right}
use native.Mathlib.Decide.{dec_le}
use borrow.Author.Differences.{up, down, sum_is_lem, neg_is, product_is}
use Rattle.ieee.proofs.Ints.{zs, abs_mul}
use Rattle.ieee.proofs.Scaled.{sub_scaled}
use Rattle.bounds.specs.Num.{Q, ◌⊕◌, ◌⊗◌, mag, whole, tiny, Same, Within}
use Rattle.bounds.specs.Floats.{units, minus}
use Rattle.bounds.specs.Formulas.{AtLeast}
use Rattle.bounds.specs.AccurateFormulas.{Below}

-- a is x / k
pub record Over (a : Q) (x : ℤ) (k : ℕ) : Type 0 where
  pub is : a.up * k + down x * a.den ≡ up x * a.den + a.dn * k

-- |a|, of a = au - an, where a k = n d
mag₀ : (au an d k n : ℕ) → au * k ≡ n * d + an * k → ((au - an) + (an - au)) * k ≡ n * d
mag₀ au an d k n h = go (dec_le an au)
  where
    go : Dec (an ≤ au) → ((au - an) + (an - au)) * k ≡ n * d
    go (yes l) = let e : (au - an) + (an - au) ≡ au - an = omega arith in let f : au ≡ an + (au - an) = omega arith in
        ap (λ (x : ℕ). x * k) e ∙ omega (arith, ap (λ (x : ℕ). x * k) (sym f) ∙ h)
    go (no l) = let e : (au - an) + (an - au) ≡ an - au = omega arith in let f : an ≡ au + (an - au) = omega arith in
        ap (λ (x : ℕ). x * k) e ∙ omega (arith, h ∙ ap (λ (x : ℕ). n * d + x * k) f)

mag₁ : (au an d k : ℕ) (x : ℤ) → au * k + down x * d ≡ up x * d + an * k → ((au - an) + (an - au)) * k + 0 * d ≡ nat_abs x * d + 0 * k
mag₁ au an d k (pos n) h = omega (arith, mag₀ au an d k n (omega arith))
mag₁ au an d k (negsuc n) h = omega (arith, mag₀ an au d k (suc n) (omega arith))

-- ---- numbers as integers over k
pub over_units : (z : ℤ) → Over (units z) z (2 ^ 1074)
over_units (pos n) = record { is = refl }
over_units (negsuc n) = record { is = refl }

pub over_tiny : (k : ℕ) → Over (tiny k) (pos 1) (2 ^ k)
over_tiny k = record { is = refl }

pub over_zero : (k : ℕ) → Over (whole 0) (pos 0) k
over_zero k = record { is = omega arith }

pub over_minus : {a : Q} {x : ℤ} {k : ℕ} → Over a x k → Over (minus a) (neg_ℤ x) k
over_minus {a} {x} {k} h = record { is = rw ((neg_is x).0, (neg_is x).1) (omega (arith, h.is)) }

pub over_add : {a b : Q} {x y : ℤ} {k : ℕ} → Over a x k → Over b y k → Over (a ⊕ b) (x +ℤ y) k
over_add {a} {b} {x} {y} {k} h i = record {
  is = omega (arith, ap (λ (z : ℕ). z * b.den) h.is, ap (λ (z : ℕ). z * a.den) i.is, ap (λ (z : ℕ). z * (a.den * b.den)) (sum_is_lem x y));
}

pub over_mul : {a b : Q} {x y : ℤ} {k l : ℕ} → Over a x k → Over b y l → Over (a ⊗ b) (x *ℤ y) (k * l)
over_mul {a} {b} {x} {y} {k} {l} h i = record { is = rw ((product_is x y).0, (product_is x y).1) (omega (arith, ap (λ (z : ℕ). z * (b.up * l)) h.is, ap (λ (z : ℕ). z * (b.dn * l)) h.is, ap (λ (z : ℕ). z * (up x * a.den)) i.is, ap (λ (z : ℕ). z * (down x * a.den)) i.is)) }

pub over_mag : {a : Q} {x : ℤ} {k : ℕ} → Over a x k → Over (mag a) (pos (nat_abs x)) k
over_mag {a} {x} {k} h = record { is = mag₁ a.up a.dn a.den k x h.is }

-- the same number over a multiple
pub over_scale : {a : Q} {x : ℤ} {k : ℕ} (m : ℕ) {l : ℕ} → k * m ≡ l → Over a x k → Over a (x *ℤ pos m) l
over_scale {a} {x} {k} m {l} e h =
    subst (Over a (x *ℤ pos m)) e (record { is = rw ((product_is x (pos m)).0, (product_is x (pos m)).1) (omega (arith, ap (λ (z : ℕ). z * m) h.is)) })

-- ---- bounds between numbers over one k
pub within_over : {a b r : Q} {x y : ℤ} {e k : ℕ} → zero < k → Over a x k → Over b y k → Over r (pos e) k → nat_abs (x -ℤ y) ≤ e → Within a b r
within_over {a} {b} {r} {x} {y} {e} {k} K h i j l = record {
  le = le_of_mul-le-mul_right (omega (arith, ap (λ (z : ℕ). z * (b.den * r.den)) h.is, ap (λ (z : ℕ). z * (a.den * r.den)) i.is, ap (λ (z : ℕ). z * (a.den * b.den)) j.is, mul-le-mul_right (a.den * b.den * r.den) (near x y e l).0)) K;
  ge = le_of_mul-le-mul_right (omega (arith, ap (λ (z : ℕ). z * (b.den * r.den)) h.is, ap (λ (z : ℕ). z * (a.den * r.den)) i.is, ap (λ (z : ℕ). z * (a.den * b.den)) j.is, mul-le-mul_right (a.den * b.den * r.den) (near x y e l).1)) K;
}
  where
    near : (x y : ℤ) (e : ℕ) → nat_abs (x -ℤ y) ≤ e → (up x + down y ≤ up y + down x + e) × (down x + up y ≤ down y + up x + e)
    near x y e h = omega zs

pub same_over : {a b : Q} {x : ℤ} {k : ℕ} → zero < k → Over a x k → Over b x k → Same a b
same_over {a} {b} {x} {k} K h i = record {
  same = eq_of_mul-eq-mul_right k K (a.up * b.den + b.dn * a.den) (b.up * a.den + a.dn * b.den)
      (omega (arith, ap (λ (z : ℕ). z * b.den) h.is, ap (λ (z : ℕ). z * a.den) i.is));
}

-- ---- and back
pub within_out : {a b r : Q} {x y : ℤ} {e k : ℕ} → Over a x k → Over b y k → Over r (pos e) k → Within a b r → nat_abs (x -ℤ y) ≤ e
within_out {a} {b} {r} {x} {y} {e} {k} h i j w =
    let p = mul-pos (mul-pos a.ok b.ok) r.ok in
    both x y e
    (le_of_mul-le-mul_right (omega (arith, ap (λ (z : ℕ). z * (b.den * r.den)) h.is, ap (λ (z : ℕ). z * (a.den * r.den)) i.is, ap (λ (z : ℕ). z * (a.den * b.den)) j.is, mul-le-mul_right k w.le)) p)
    (le_of_mul-le-mul_right (omega (arith, ap (λ (z : ℕ). z * (b.den * r.den)) h.is, ap (λ (z : ℕ). z * (a.den * r.den)) i.is, ap (λ (z : ℕ). z * (a.den * b.den)) j.is, mul-le-mul_right k w.ge)) p)
  where
    both : (x y : ℤ) (e : ℕ) → up x + down y ≤ up y + down x + e → down x + up y ≤ down y + up x + e → nat_abs (x -ℤ y) ≤ e
    both x y e h i = omega zs

-- ---- a bound that is a part of |c|
pub scaled_abs : (x y : ℤ) (m : ℕ) → nat_abs (x *ℤ pos m -ℤ y *ℤ pos m) ≡ nat_abs (x -ℤ y) * m
scaled_abs x y m = ap nat_abs (sub_scaled x y (pos m)) ∙ abs_mul (x -ℤ y) (pos m)

pub relative_out : {a b c r : Q} {x y : ℤ} {f e k m : ℕ} → Over a x k → Over b y k → Over c (pos f) k → Over r (pos e) m → Within a b (r ⊗ mag c) → m * nat_abs (x -ℤ y) ≤ e * f
relative_out {x = x} {y = y} {f = f} {e = e} {k = k} {m = m} h i j l w =
    let n : nat_abs (x *ℤ pos m -ℤ y *ℤ pos m) ≤ e * f = within_out (over_scale m (mul_comm k m) h) (over_scale m (mul_comm k m) i) (over_mul l (over_mag j)) w in
    subst (λ (z : ℕ). z ≤ e * f) (scaled_abs x y m ∙ mul_comm (nat_abs (x -ℤ y)) m) n

pub tiny_out : {a b c : Q} {x y : ℤ} {f k : ℕ} (m : ℕ) → Over a x k → Over b y k → Over c (pos f) k → Within a b (tiny m ⊗ mag c) → 2 ^ m * nat_abs (x -ℤ y) ≤ f
tiny_out {x = x} {y = y} {f = f} m h i j w = subst (λ (z : ℕ). 2 ^ m * nat_abs (x -ℤ y) ≤ z) (one-mul f) (relative_out h i j (over_tiny m) w)

-- ---- a number in units of 2 ^ -1074 over its denominator
own₀ : (u n d : ℕ) → u * d + down (pos u -ℤ pos n) * d ≡ up (pos u -ℤ pos n) * d + n * d
own₀ u n d = omega (arith, ap (λ (z : ℕ). z * d) (go u n))
  where
    go : (u n : ℕ) → up (pos u -ℤ pos n) + n ≡ u + down (pos u -ℤ pos n)
    go u n = omega zs

pub over_own : (a : Q) → Over a ((pos a.up -ℤ pos a.dn) *ℤ pos (2 ^ 1074)) (2 ^ 1074 * a.den)
over_own a = over_scale (2 ^ 1074) (mul_comm a.den (2 ^ 1074)) (record { is = own₀ a.up a.dn a.den })

-- where it is not below zero
pub over_above : (a : Q) → a.dn ≤ a.up → Over a (pos ((a.up - a.dn) * 2 ^ 1074)) (2 ^ 1074 * a.den)
over_above a h = subst (λ (z : ℤ). Over a (z *ℤ pos (2 ^ 1074)) (2 ^ 1074 * a.den)) (go a.up a.dn h) (over_own a)
  where
    go : (u n : ℕ) → n ≤ u → pos u -ℤ pos n ≡ pos (u - n)
    go u n h = omega (zs, h)

-- ---- x / k is at most y / k, or below it
pub at_least : {a b : Q} {x y : ℤ} {k : ℕ} → 0 < k → Over a x k → Over b y k → up x + down y ≤ up y + down x → AtLeast b a
at_least {a} {b} {x} {y} {k} p h i l = record { le = le_of_mul-le-mul_right (omega (arith, h.is, i.is, l, ap (λ (z : ℕ). z * b.den) h.is, ap (λ (z : ℕ). z * a.den) i.is, mul-le-mul_right (a.den * b.den) l)) p }

pub below : {a b : Q} {x y : ℤ} {k : ℕ} → Over a x k → Over b y k → up x + down y < up y + down x → Below a b
below {a} {b} {x} {y} {k} h i l = record { less = lt_of_mul-lt-mul_right k (omega (arith, h.is, i.is, mul-lt-mul_of_pos_right l (mul-pos a.ok b.ok), ap (λ (z : ℕ). z * b.den) h.is, ap (λ (z : ℕ). z * a.den) i.is)) }

-- ---- from an integer that is near a positive one
pub far : (a b e : ℕ) → nat_abs (pos a -ℤ pos b) ≤ e → b ≤ a + e
far a b e h = omega zs

pub positive_near : (z : ℤ) (d n : ℕ) → 0 < n → 2 * nat_abs (z *ℤ pos d -ℤ pos n) ≤ n → z ≡ pos (nat_abs z)
positive_near (pos a) d n p h = refl
positive_near (negsuc a) d n p h = absurd (none (nat_abs (negsuc a *ℤ pos d -ℤ pos n)) n (omega zs) p h)
  where
    none : (e n : ℕ) → n ≤ e → 0 < n → 2 * e ≤ n → ⊥
    none e n h p k = omega (arith, h, p, k)
