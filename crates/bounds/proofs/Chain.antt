-- The steps of an arithmetic at the scale 2 ^ 256: each bound is computed from the sizes and tested against the one that is stated. Assumes nothing.
use Rattle.std.proofs.Common.{ℕ, zero, ◌+◌, ◌*◌, ◌^◌, ◌<◌, T, leb, mul-le-mul_right, le_of_mul-le-mul_right, arith, lit≤, leb→le, pow_pos}
use Rattle.bounds.specs.Num.{Q, ◌⊕◌, ◌⊗◌, mag, whole, tiny, Within}
use Rattle.bounds.specs.Steps.{Pair, val, PairMul, ExactAdd, Fma, Rounded}
use Rattle.bounds.proofs.Sames as Law
use Rattle.bounds.proofs.Near as N
use Rattle.bounds.proofs.Scale.{Least, least_weaken, tiny_size}
use Rattle.bounds.proofs.Mixed as M
use Rattle.bounds.proofs.Computed as Comp

abbrev pub G : ℕ
G = 2 ^ 256

pub G>0 : zero < G
G>0 = pow_pos 256

-- |a - b| ≤ e / G, and |a| ≤ m / G
abbrev pub Near : Q → Q → ℕ → Type 0
Near a b e = N.Near G G>0 a b e

abbrev pub Abs : Q → ℕ → Type 0
Abs a m = N.Abs G G>0 a m

abbrev pub mul_g : ℕ → ℕ → ℕ
mul_g m n = Comp.mul_g G G>0 m n

abbrev pub shr : ℕ → ℕ → ℕ
shr m k = Comp.shr G G>0 m k

-- ---- weaker bounds, tested
pub near_to : {a b : Q} {e : ℕ} (f : ℕ) → Near a b e → T (leb e f) → Near a b f
near_to {e = e} f h t = N.near_weaken (leb→le e f t) h

pub abs_to : {a : Q} {m : ℕ} (n : ℕ) → Abs a m → T (leb m n) → Abs a n
abs_to {m = m} n h t = Comp.abs_weaken (leb→le m n t) h

pub least_to : {a : Q} {m : ℕ} (n : ℕ) → Least G a m → T (leb n m) → Least G a n
least_to {m = m} n h t = least_weaken (leb→le n m t) h

-- a product from below
pub least_product : {a b : Q} {m n : ℕ} (c : ℕ) → Least G a m → Least G b n → T (leb (c * G) (m * n)) → Least G (a ⊗ b) c
least_product {a} {b} {m} {n} c h i t =
    record { le = le_of_mul-le-mul_right (omega (arith, (M.least G>0 G>0 h i).le, mul-le-mul_right (a.den * b.den) (leb→le (c * G) (m * n) t))) G>0 }

-- ---- the rules of Near at this scale
infixr 50 ◌then◌
pub ◌then◌ : {a b c : Q} {e f : ℕ} → Near a b e → Near b c f → Near a c (e + f)
h then k = N.near_trans h k

pub one_plus : (c : Q) {a b : Q} {e : ℕ} → Near a b e → Near (c ⊕ a) (c ⊕ b) e
one_plus c {e = e} h = N.near_weaken {e = 0 + e} (omega arith) (N.near_add (N.near_refl c) h)

-- a b near A B: the error of a times |b|, and that of b times |A|
pub product_near : {a A b B : Q} {e f m n : ℕ} → Near a A e → Abs b m → Near b B f → Abs A n → Near (a ⊗ b) (A ⊗ B) (mul_g e m + mul_g f n)
product_near {e = e} {f = f} {m = m} {n = n} h i k l = N.near_trans (N.near_mulˡ h i (Comp.mul_g_ok G G>0 e m)) (N.near_mulʳ k l (Comp.mul_g_ok G G>0 f n))

pub turned : (a b : Q) → Near (a ⊕ b) (b ⊕ a) 0
turned a b = N.near_same (Law.sum_turned a b)

pub turned_product : (a b : Q) → Near (a ⊗ b) (b ⊗ a) 0
turned_product a b = N.near_same (Law.product_turned a b)

-- zero, of size zero
pub no_size : Abs (whole 0) 0
no_size = record { le = omega arith; ge = omega arith }

pub nothing : (w : Q) {m : ℕ} → Abs w m → Abs (whole 0 ⊗ w) 0
nothing w {m} h = N.abs_mul {m = 0} {n = m} {k = 0} no_size h (omega arith)

pub grouped : (a b c : Q) → Near (a ⊕ b ⊕ c) (a ⊕ (b ⊕ c)) 0
grouped a b c = N.near_same (Law.sum_grouped a b c)

-- a + (b + c) = (a + c) + b
pub regroup : (a b c : Q) → Near (a ⊕ (b ⊕ c)) (a ⊕ c ⊕ b) 0
regroup a b c = one_plus a (turned b c) then N.near_sym (grouped a c b)

-- (a + b) + (c + d) = (a + d) + (b + c)
pub swap : (a b c d : Q) → Near (a ⊕ b ⊕ (c ⊕ d)) (a ⊕ d ⊕ (b ⊕ c)) 0
swap a b c d = grouped a b (c ⊕ d) then one_plus a (N.near_sym (grouped b c d) then turned (b ⊕ c) d) then N.near_sym (grouped a d (b ⊕ c))

pub product_grouped : (a b c : Q) → Near (a ⊗ b ⊗ c) (a ⊗ (b ⊗ c)) 0
product_grouped a b c = N.near_same (Law.product_grouped a b c)

pub spread : (c a b : Q) → Near (c ⊗ a ⊕ c ⊗ b) (c ⊗ (a ⊕ b)) 0
spread c a b = N.near_same (Law.spread c a b)

pub by_one : (a : Q) → Near (a ⊗ whole 1) a 0
by_one a = N.near_same (Law.by_one a)

-- ---- the steps
pub rounded_near : {a b : Q} {m : ℕ} → Rounded a b → Abs b m → Near a b (shr m 53)
rounded_near r h = N.within_near r.near (Comp.shr_ok 53 (N.abs_mag h))

-- a product rounded: half of the least unit beside it
pub times_near : {a b : Q} {m : ℕ} → Within a b (tiny 53 ⊗ mag b ⊕ tiny 1075) → Abs b m → Near a b (shr m 53 + 1)
times_near r h = N.within_near r (N.abs_add (Comp.shr_ok 53 (N.abs_mag h)) (tiny_size 1075 1 (lit≤ tt)))

pub fma_near : {a b c r : Q} {l m n : ℕ} → Abs a l → Abs b m → Abs c n → Fma a b c r → Near r (c ⊕ a ⊗ b) (shr (n + mul_g l m) 53 + shr (mul_g l m + n) 103 + 1)
fma_near A B C f = N.within_near f.near (N.abs_add (N.abs_add (Comp.shr_ok 53 (N.abs_mag (N.abs_add C (Comp.product_size A B))))
    (Comp.shr_ok 103 (N.abs_add (N.abs_mag (Comp.product_size A B)) (N.abs_mag C)))) (tiny_size 1070 1 (lit≤ tt)))

pub exact_near : {c v : Q} {s : Pair} → ExactAdd c v s → Near (val s) (c ⊕ v) 0
exact_near e = N.near_same e.sum

pub exact_low : {c v : Q} {s : Pair} {m : ℕ} → ExactAdd c v s → Abs (c ⊕ v) m → Abs s.lo (shr m 53)
exact_low e h = Comp.zero_abs (N.within_near e.lo (Comp.shr_ok 53 (N.abs_mag h)))

pub exact_high : {c v : Q} {s : Pair} {m : ℕ} → ExactAdd c v s → Abs (c ⊕ v) m → Abs s.hi (m + 0 + shr m 53)
exact_high {s = s} e h = N.abs_near (N.abs_near h (N.near_sym (exact_near e))) (Comp.kept s.hi (exact_low e h))

-- the sizes of a pair's parts
pub record Parts (p : Pair) (h l : ℕ) : Type 0 where
  pub hi : Abs p.hi h
  pub lo : Abs p.lo l

pub value_size : {p : Pair} {h l : ℕ} → Parts p h l → Abs (val p) (h + l)
value_size s = N.abs_add s.hi s.lo

-- a pair's product: its error, that of its high part, and the low part's size
abbrev pub pair_e : ℕ → ℕ → ℕ → ℕ → ℕ
pair_e h l i k = mul_g l k + shr (mul_g h k + mul_g l i) 50 + shr (mul_g h i) 104 + 1

abbrev pub high_e : ℕ → ℕ → ℕ
high_e h i = shr (mul_g h i) 53 + 1

pub pair_near : {a b v : Pair} {h l i k : ℕ} → Parts a h l → Parts b i k → PairMul a b v → Near (val v) (val a ⊗ val b) (pair_e h l i k)
pair_near A B p = N.within_near p.near (N.abs_add (N.abs_add (N.abs_add (N.abs_mag (Comp.product_size A.lo B.lo))
    (Comp.shr_ok 50 (N.abs_add (N.abs_mag (Comp.product_size A.hi B.lo)) (N.abs_mag (Comp.product_size A.lo B.hi))))) (Comp.shr_ok 104 (N.abs_mag (Comp.product_size A.hi B.hi)))) (tiny_size 1070 1 (lit≤ tt)))

pub pair_high_near : {a b v : Pair} {h l i k : ℕ} → Parts a h l → Parts b i k → PairMul a b v → Near v.hi (a.hi ⊗ b.hi) (high_e h i)
pair_high_near A B p = times_near p.hi (Comp.product_size A.hi B.hi)

pub pair_parts : {a b v : Pair} {h l i k : ℕ} → Parts a h l → Parts b i k → PairMul a b v
    → Parts v (mul_g h i + high_e h i) (pair_e h l i k + (mul_g l (i + k) + mul_g k h) + high_e h i)
pair_parts {a} {b} {v} A B p = record {
  hi = N.abs_near (Comp.product_size A.hi B.hi) (N.near_sym (pair_high_near A B p));
  lo = Comp.near_drop ((pair_near A B p then product_near (Comp.kept a.hi A.lo) (value_size B) (Comp.kept b.hi B.lo) A.hi) then N.near_sym (pair_high_near A B p));
}
