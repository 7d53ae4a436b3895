-- The tests that say where fused arithmetic's multiply-add rounds once, each by the numbers that it compares. Assumes nothing.
use Rattle.std.specs.Prelude.{◌≡◌, ℕ, ◌*◌, ◌^◌, ◌<◌, ◌≤◌, Bool, true, false, cond, ◌&&◌, T, ◌⊎◌, ℤ, pos, ◌*ℤ◌, unsigned_abs, refl, Float}
use Rattle.std.proofs.Common.{sym, ap, ◌∙◌, subst, inl, inr, eq-zero-or-pos, mul-pos, le_trans, le_of_eq, le_antisymm, arith, lit<, pow_pos}
use Rattle.std.specs.Float.{binary64}
use Rattle.std.specs.Float.Ieee.{fits, mul, lt, eq, le, of_bits}
use Rattle.std.specs.Float.Ieee.Bits.{of_bits-fits}
use Rattle.std.specs.Float.Ieee.Fits.{and_l, and_r, add-fits, mul-fits}
use Rattle.std.specs.Float.Ieee.Scale.{finite}
use borrow.Author.Differences.{abs_is}
use Rattle.ieee.specs.Val.{val, rnd, rq}
use Rattle.ieee.specs.Pairs.{Good}
use Rattle.ieee.specs.Meaning.{Operand}
use Rattle.ieee.proofs.Ints.{zs, abs_mul}
use Rattle.ieee.proofs.Whole.{order}
use Rattle.ieee.proofs.Products.{rest, good_times}
use Rattle.ieee.proofs.Highs.{good_operand}
use Rattle.ieee.proofs.Compare.{both, Below, Upto, lt_out, lt_in, eq_out, eq_in, le_out, le_in, size_val, size_fits, size_finite, bounded_finite}
use Rattle.ieee.proofs.Thresholds.{rq_abs, rnd_at_most, rnd_at_least}
use Rattle.ieee.proofs.Lost.{Lost, lost_sign}
use Rattle.double_double.specs.Plain.{plain_product}
use Rattle.double_double.specs.Fused.{size, zero, most, least, lift, bounded, reaches}

-- ---- the parts of the whole test
pub parts_out : (a b c d e : Bool) → T (a && b && c && d && e) → T a × T b × T c × T d × T e
parts_out a b c d e h =
    let w = and_l (a && b && c && d) e h in
    let x = and_l (a && b && c) d w in
    let y = and_l (a && b) c x in
    (and_l a b y, and_r a b y, and_r (a && b) c x, and_r (a && b && c) d w, and_r (a && b && c && d) e h)

pub parts_in : (a b c d e : Bool) → T a → T b → T c → T d → T e → T (a && b && c && d && e)
parts_in a b c d e p q r s t = both (a && b && c && d) e (both (a && b && c) d (both (a && b) c (both a b p q) r) s) t

-- ---- the four numbers of the tests
zero_is : T (finite zero) × (val zero ≡ pos 0)
unfolding of_bits
zero_is = (tt, refl)

most_is : T (finite most) × (val most ≡ pos (2 ^ 1474))
unfolding of_bits
most_is = (tt, refl)

least_is : T (finite least) × (val least ≡ pos (2 ^ 114))
unfolding of_bits
least_is = (tt, refl)

lift_is : T (finite lift) × (val lift ≡ pos (2 ^ 1554))
unfolding of_bits
lift_is = (tt, refl)

-- ---- sizes in order
pub upto_out : (x y : ℤ) (a b : ℕ) → x ≡ pos a → y ≡ pos b → Upto x y → a ≤ b
upto_out x y a b e f h = omega zs

upto_in : (x y : ℤ) (a b : ℕ) → x ≡ pos a → y ≡ pos b → a ≤ b → Upto x y
upto_in x y a b e f h = omega zs

below_out : (x y : ℤ) (a b : ℕ) → x ≡ pos a → y ≡ pos b → Below x y → a < b
below_out x y a b e f h = omega zs

below_in : (x y : ℤ) (a b : ℕ) → x ≡ pos a → y ≡ pos b → a < b → Below x y
below_in x y a b e f h = omega zs

-- ---- at most 2 ^ 400
pub bounded_out : (x : Float) → T (fits binary64 x) → T (bounded x) → Operand x
bounded_out x f t =
    let n = bounded_finite x most most_is.0 t in
    record {
      holds = f;
      number = n;
      small = upto_out (val (size x)) (val most) (unsigned_abs (val x)) (2 ^ 1474) (size_val x) most_is.1 (le_out (size x) most (size_fits x f) (of_bits-fits binary64 _) (size_finite x n) most_is.0 t);
    }

pub bounded_in : (x : Float) → Operand x → T (bounded x)
bounded_in x p = le_in (size x) most (size_fits x p.holds) (of_bits-fits binary64 _) (size_finite x p.number) most_is.0 (upto_in (val (size x)) (val most) (unsigned_abs (val x)) (2 ^ 1474) (size_val x) most_is.1 p.small)

-- ---- zero
pub zero_out : (x : Float) → Operand x → T (eq x zero) → val x ≡ pos 0
zero_out x p t = eq_out x zero p.holds (of_bits-fits binary64 0) p.number zero_is.0 t ∙ zero_is.1

pub zero_in : (x : Float) → Operand x → val x ≡ pos 0 → T (eq x zero)
zero_in x p e = eq_in x zero p.holds (of_bits-fits binary64 0) p.number zero_is.0 (e ∙ sym zero_is.1)

-- ---- at least 2 ^ -960
pub least_out : (x : Float) → Operand x → T (le least (size x)) → 2 ^ 114 ≤ unsigned_abs (val x)
least_out x p t = upto_out (val least) (val (size x)) (2 ^ 114) (unsigned_abs (val x)) least_is.1 (size_val x) (le_out least (size x) (of_bits-fits binary64 _) (size_fits x p.holds) least_is.0 (size_finite x p.number) t)

pub least_in : (x : Float) → Operand x → 2 ^ 114 ≤ unsigned_abs (val x) → T (le least (size x))
least_in x p h = le_in least (size x) (of_bits-fits binary64 _) (size_fits x p.holds) least_is.0 (size_finite x p.number) (upto_in (val least) (val (size x)) (2 ^ 114) (unsigned_abs (val x)) least_is.1 (size_val x) h)

-- ---- the product
chosen : (t u v : Bool) → T (cond t t (cond u v u)) → T t ⊎ (T u × T v)
chosen true u v h = inl tt
chosen false true v h = inr (tt, h)
chosen false false v h = absurd h

choose_first : (t u v : Bool) → T t → T (cond t t (cond u v u))
choose_first true u v h = tt
choose_first false u v h = absurd h

choose_second : (t u v : Bool) → T u → T v → T (cond t t (cond u v u))
choose_second true u v g h = tt
choose_second false true v g h = h
choose_second false false v g h = g

-- plain's splitter is written by its bits
plain_rest : (x y : Float) → (plain_product x y).lo ≡ rest x y
unfolding of_bits
plain_rest x y = refl

pub past : (n d v : ℕ) → (n ≤ v * d → rnd n d ≤ v) → v < rnd n d → v * d ≤ n
past n d v at h = elim (order (v * d) n) [ inl l ↦ l | inr g ↦ absurd (let m = at (omega arith) in omega arith) ]

module _ (a b : Float) (p : Operand a) (q : Operand b) where
  abbrev s : Float
  s = size (mul binary64 a b)

  abbrev lost : Float
  lost = (plain_product (mul binary64 (size a) lift) (mul binary64 (size b) lift)).lo

  abbrev n : ℕ
  n = unsigned_abs (val a) * unsigned_abs (val b)

  high : Good (mul binary64 a b) 1875 × (val (mul binary64 a b) ≡ rq (val a *ℤ val b) (2 ^ 1074))
  high = good_times a b 1474 1474 1874 (good_operand a p) (good_operand b q) refl (lit< tt)

  s_fits : T (fits binary64 s)
  s_fits = size_fits (mul binary64 a b) (mul-fits binary64 a b)

  s_finite : T (finite s)
  s_finite = size_finite (mul binary64 a b) high.0.number

  s_is : val s ≡ pos (rnd n (2 ^ 1074))
  s_is = size_val (mul binary64 a b) ∙ ap pos (ap unsigned_abs high.1 ∙ rq_abs (val a *ℤ val b) (2 ^ 1074) ∙ ap (λ (k : ℕ). rnd k (2 ^ 1074)) (abs_mul (val a) (val b)))

  sized : (x : Float) → Operand x → Good (size x) 1474
  sized x o = record { holds = size_fits x o.holds; number = size_finite x o.number; small = le_trans (le_of_eq (ap unsigned_abs (size_val x))) o.small }

  what_is_lost : rnd n (2 ^ 1074) ≡ 2 ^ 114 → Lost (size a) (size b) lift (unsigned_abs (val a)) (unsigned_abs (val b))
  what_is_lost e = lost_sign (size a) (size b) lift (unsigned_abs (val a)) (unsigned_abs (val b)) (sized a p) (sized b q)
      (record { holds = of_bits-fits binary64 _; number = lift_is.0; small = le_of_eq (ap unsigned_abs lift_is.1) }) lift_is.1 (size_val a) (size_val b) e

  lost_finite : rnd n (2 ^ 1074) ≡ 2 ^ 114 → T (finite lost)
  lost_finite e = subst (λ (x : Float). T (finite x)) (sym (plain_rest (mul binary64 (size a) lift) (mul binary64 (size b) lift))) (what_is_lost e).number

  lost_is : Upto (val zero) (val lost) ≡ Upto (pos 0) (val (rest (mul binary64 (size a) lift) (mul binary64 (size b) lift)))
  lost_is = (λ i. Upto (zero_is.1 i) (val (plain_rest (mul binary64 (size a) lift) (mul binary64 (size b) lift) i)))

  pub reaches_out : T (reaches a b) → 2 ^ 1188 ≤ unsigned_abs (val a *ℤ val b)
  reaches_out t = le_trans reached (le_of_eq (sym (abs_mul (val a) (val b))))
    where
      reached : 2 ^ 1188 ≤ n
      reached = elim (chosen (lt least s) (eq least s) (le zero lost) t) [
        | inl l ↦ past n (2 ^ 1074) (2 ^ 114) (rnd_at_most n (2 ^ 1074) 114 (pow_pos 1074)) (below_out (val least) (val s) (2 ^ 114) (rnd n (2 ^ 1074)) least_is.1 s_is (lt_out least s (of_bits-fits binary64 _) s_fits least_is.0 s_finite l))
        | inr (u, v) ↦
            let e : rnd n (2 ^ 1074) ≡ 2 ^ 114 = ap unsigned_abs (sym s_is ∙ sym (eq_out least s (of_bits-fits binary64 _) s_fits least_is.0 s_finite u) ∙ least_is.1) in
            (what_is_lost e).out (subst (λ (A : Type 0). A) lost_is (le_out zero lost (of_bits-fits binary64 0) (add-fits binary64 _ _) zero_is.0 (lost_finite e) v))
      ]

  pub reaches_in : 2 ^ 1188 ≤ unsigned_abs (val a *ℤ val b) → T (reaches a b)
  reaches_in h =
      let g : 2 ^ 1188 ≤ n = le_trans h (le_of_eq (abs_mul (val a) (val b))) in
      let k : 2 ^ 114 ≤ rnd n (2 ^ 1074) = rnd_at_least n (2 ^ 1074) 114 (pow_pos 1074) g in
      elim (order (rnd n (2 ^ 1074)) (2 ^ 114)) [
        | inl l ↦
            let e : rnd n (2 ^ 1074) ≡ 2 ^ 114 = le_antisymm l k in
            choose_second (lt least s) (eq least s) (le zero lost) (eq_in least s (of_bits-fits binary64 _) s_fits least_is.0 s_finite (least_is.1 ∙ ap pos (sym e) ∙ sym s_is))
            (le_in zero lost (of_bits-fits binary64 0) (add-fits binary64 _ _) zero_is.0 (lost_finite e) (subst (λ (A : Type 0). A) (sym lost_is) ((what_is_lost e).back g)))
        | inr l ↦ choose_first (lt least s) (eq least s) (le zero lost) (lt_in least s (of_bits-fits binary64 _) s_fits least_is.0 s_finite (below_in (val least) (val s) (2 ^ 114) (rnd n (2 ^ 1074)) least_is.1 s_is l))
      ]

-- ---- a product is zero where a factor is
pub none : (z : ℤ) → unsigned_abs z ≡ 0 → z ≡ pos 0
none z e = omega (zs, abs_is z)

pub zero_factor : (x y : ℤ) → x *ℤ y ≡ pos 0 → (x ≡ pos 0) ⊎ (y ≡ pos 0)
zero_factor x y e = elim (eq-zero-or-pos (unsigned_abs x)) [
  | inl z ↦ inl (none x z)
  | inr p ↦ elim (eq-zero-or-pos (unsigned_abs y)) [ inl z ↦ inr (none y z) | inr q ↦ absurd (no (unsigned_abs x * unsigned_abs y) (sym (abs_mul x y) ∙ ap unsigned_abs e) (mul-pos p q)) ]
]
  where
    no : (k : ℕ) → k ≡ 0 → 0 < k → ⊥
    no k e h = omega arith
