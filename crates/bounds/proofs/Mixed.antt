-- Products of numbers measured at two scales: the product is measured at the product of the scales, with nothing lost. Assumes nothing.
use Rattle.std.proofs.Common.{ℕ, zero, ◌+◌, ◌*◌, ◌/◌, ◌^◌, ◌<◌, ◌≤◌, le_trans, mul-le-mul_right, mul-le-mul, mul-le-mul_left, mul-pos, arith, lit≤}
use Rattle.bounds.specs.Num.{Q, ◌⊗◌, tiny}
use Rattle.bounds.specs.Steps.{Pair, val, PairMul}
use Rattle.bounds.proofs.Near as N
use Rattle.bounds.proofs.Computed as Comp
use Rattle.bounds.proofs.Scale.{Least, split_least, tiny_size}

pub least : {A B : ℕ} {a b : Q} {m n : ℕ} → zero < A → zero < B → Least A a m → Least B b n → Least (A * B) (a ⊗ b) (m * n)
least {A} {B} {a} {b} {m} {n} A>0 B>0 h i =
    let (k, (p, u)) = split_least A>0 h in
    let (l, (q, v)) = split_least B>0 i in
    record { le = rw (p, q) (omega (arith, mul-le-mul u v)) }

-- at the product of the scales
liftˡ : {A B : ℕ} {A>0 : zero < A} (B>0 : zero < B) {a : Q} {m : ℕ} → N.Abs A A>0 a m → N.Abs (A * B) (mul-pos A>0 B>0) a (m * B)
liftˡ {A} {B} B>0 {a} {m} h = record { le = omega (arith, mul-le-mul_right B h.le); ge = omega (arith, mul-le-mul_right B h.ge) }

liftʳ : {A B : ℕ} {B>0 : zero < B} (A>0 : zero < A) {a : Q} {m : ℕ} → N.Abs B B>0 a m → N.Abs (A * B) (mul-pos A>0 B>0) a (m * A)
liftʳ {A} {B} A>0 {a} {m} h = record { le = omega (arith, mul-le-mul_right A h.le); ge = omega (arith, mul-le-mul_right A h.ge) }

near_liftˡ : {A B : ℕ} {A>0 : zero < A} (B>0 : zero < B) {a b : Q} {e : ℕ} → N.Near A A>0 a b e → N.Near (A * B) (mul-pos A>0 B>0) a b (e * B)
near_liftˡ {A} {B} B>0 {a} {b} {e} h = record { le = omega (arith, mul-le-mul_right B h.le); ge = omega (arith, mul-le-mul_right B h.ge) }

near_liftʳ : {A B : ℕ} {B>0 : zero < B} (A>0 : zero < A) {a b : Q} {e : ℕ} → N.Near B B>0 a b e → N.Near (A * B) (mul-pos A>0 B>0) a b (e * A)
near_liftʳ {A} {B} A>0 {a} {b} {e} h = record { le = omega (arith, mul-le-mul_right A h.le); ge = omega (arith, mul-le-mul_right A h.ge) }

module _ {A B : ℕ} {A>0 : zero < A} {B>0 : zero < B} where
  pub size : {a b : Q} {m n : ℕ} → N.Abs A A>0 a m → N.Abs B B>0 b n → N.Abs (A * B) (mul-pos A>0 B>0) (a ⊗ b) (m * n)
  size {m = m} {n = n} h k = N.abs_mul (liftˡ B>0 h) (liftʳ A>0 k) (omega arith)

  -- a b near a' b': the error of a times |b|, and that of b times |a'|
  pub product : {a a' b b' : Q} {e f m n : ℕ} → N.Near A A>0 a a' e → N.Abs B B>0 b m → N.Near B B>0 b b' f → N.Abs A A>0 a' n → N.Near (A * B) (mul-pos A>0 B>0) (a ⊗ b) (a' ⊗ b') (e * m + f * n)
  product {e = e} {f = f} {m = m} {n = n} h i k l =
      N.near_trans (N.near_mulˡ (near_liftˡ B>0 h) (liftʳ A>0 i) (omega arith)) (N.near_mulʳ (near_liftʳ A>0 k) (liftˡ B>0 l) (omega arith))

  -- ---- a pair's product, with at most t units for 2 ^ -1070
  module _ {a b v : Pair} {h l i k : ℕ} (t : ℕ) (ah : N.Abs A A>0 a.hi h) (al : N.Abs A A>0 a.lo l) (bh : N.Abs B B>0 b.hi i) (bl : N.Abs B B>0 b.lo k) (small : A * B ≤ t * 2 ^ 1070) (p : PairMul a b v) where
    units : N.Abs (A * B) (mul-pos A>0 B>0) (tiny 1070) t
    units = tiny_size 1070 t small

    units' : N.Abs (A * B) (mul-pos A>0 B>0) (tiny 1075) t
    units' = tiny_size 1075 t (le_trans small (mul-le-mul_left t (lit≤ tt)))

    abbrev pub pair_e : ℕ
    pair_e = l * k + ((h * k + l * i) / 2 ^ 50 + 1) + (h * i / 2 ^ 104 + 1) + t

    abbrev pub high_e : ℕ
    high_e = h * i / 2 ^ 53 + 1 + t

    pub pair_near : N.Near (A * B) (mul-pos A>0 B>0) (val v) (val a ⊗ val b) pair_e
    pair_near = N.within_near p.near (N.abs_add (N.abs_add (N.abs_add (N.abs_mag (size al bl))
        (Comp.shr_ok 50 (N.abs_add (N.abs_mag (size ah bl)) (N.abs_mag (size al bh))))) (Comp.shr_ok 104 (N.abs_mag (size ah bh)))) units)

    pub high_near : N.Near (A * B) (mul-pos A>0 B>0) v.hi (a.hi ⊗ b.hi) high_e
    high_near = N.within_near p.hi (N.abs_add (Comp.shr_ok 53 (N.abs_mag (size ah bh))) units')

    pub high_size : N.Abs (A * B) (mul-pos A>0 B>0) v.hi (h * i + high_e)
    high_size = N.abs_near (size ah bh) (N.near_sym high_near)

    pub low_size : N.Abs (A * B) (mul-pos A>0 B>0) v.lo (pair_e + (l * (i + k) + k * h) + high_e)
    low_size = Comp.near_drop (N.near_trans (N.near_trans pair_near
        (product (Comp.kept a.hi al) (N.abs_add bh bl) (Comp.kept b.hi bl) ah)) (N.near_sym high_near))
