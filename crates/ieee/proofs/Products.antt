-- The exact product of f64. Assumes nothing.
use Rattle.std.proofs.Common.{◌≡◌, ℕ, suc, ◌+◌, ◌*◌, ◌^◌, ◌<◌, ◌≤◌, T, ◌⊎◌, ℤ, pos, ◌+ℤ◌, ◌-ℤ◌, ◌*ℤ◌, nat_abs, sym, refl, ap, ◌∙◌, subst, inl, inr, le_trans, le_of_eq, lt_of_lt_of_le, lt_irrefl, mul-le-mul_right, eq-zero-or-pos, mul-zero, zero-mul, arith, lit<, lit≤, pow_pos, pow-add}
use lib.Ieee.{Float, binary64, fits, add, sub, mul}
use lib.Ieee.Fits.{mul-fits}
use Rattle.ieee.specs.Val.{val, rq, rz}
use Rattle.ieee.specs.Pairs.{Good, Times, ProductOf, Large, splitter, s1, s2, high, low}
use Rattle.ieee.proofs.Ints.{zs, massoc, mcomm, abs_mul}
use Rattle.ieee.proofs.Bridge.{val_repr}
use Rattle.ieee.proofs.Fractions.{mul_whole, rq_whole}
use Rattle.ieee.proofs.Floats.{kept_small, good_up, good_add, good_sub}
use Rattle.ieee.proofs.Split.{Normal}
use Rattle.ieee.proofs.Product.{prod_le}
use Rattle.ieee.proofs.Scaled.{lift, Steps, normal, halves, whole_product, exponents, exact_product}
use Rattle.ieee.proofs.Whole.{mult_down}

one_one : (k : ℕ) → 1 * 1 * 2 ^ k ≡ 2 ^ k
one_one k = omega arith

one_pow : (k : ℕ) → 2 ^ k ≤ 1 * 2 ^ k
one_pow k = omega arith

pub good_mul : (x y : Float) (i j k : ℕ) (p : ℤ) → Good x i → Good y j → p *ℤ pos (2 ^ 1074) ≡ val x *ℤ val y → k + 1074 ≡ i + j → k < 2098 → Good (mul binary64 x y) k × (val (mul binary64 x y) ≡ rz p)
good_mul x y i j k p gx gy e s h =
    let b : nat_abs p ≤ 2 ^ k = le_trans (prod_le (val x) (val y) p 1 1 i j k 1074 (le_trans gx.small (one_pow i)) (le_trans gy.small (one_pow j)) e s) (le_of_eq (one_one k)) in
    let m = kept_small p k h b in
    let w = mul_whole x y p gx.holds gy.holds gx.number gy.number (sym e) m.1 in
    (record { holds = mul-fits binary64 x y; number = w.0; small = subst (λ (z : ℤ). nat_abs z ≤ 2 ^ k) (sym w.1) m.0 }, w.1)

-- ---- the split
pub good_splitter : Good splitter 1102
good_splitter = record { holds = unfold fits in tt; number = tt; small = lit≤ tt }

pub splitter_times : (a : ℤ) → pos (2 ^ 27 + 1) *ℤ a *ℤ pos (2 ^ 1074) ≡ val splitter *ℤ a
splitter_times a = massoc (pos (2 ^ 27 + 1)) a (pos (2 ^ 1074)) ∙ ap (λ (z : ℤ). pos (2 ^ 27 + 1) *ℤ z) (mcomm a (pos (2 ^ 1074))) ∙ sym (massoc (pos (2 ^ 27 + 1)) (pos (2 ^ 1074)) a)

pub record SplitOf (a : Float) : Type 0 where
  pub steps : Steps (val a) (val (s1 a)) (val (s2 a)) (val (high a)) (val (low a))
  pub good_high : Good (high a) 1505
  pub good_low : Good (low a) 1505

pub split_of : (a : Float) → Good a 1474 → SplitOf a
split_of a g =
    let A = good_mul splitter a 1102 1474 1502 (pos (2 ^ 27 + 1) *ℤ val a) good_splitter g (splitter_times (val a)) refl (lit< tt) in
    let B = good_sub a (s1 a) 1502 (good_up a 1474 1502 (lit≤ tt) g) A.0 (lit< tt) in
    let H = good_add (s1 a) (s2 a) 1503 (good_up (s1 a) 1502 1503 (lit≤ tt) A.0) B.0 (lit< tt) in
    let L = good_sub a (high a) 1504 (good_up a 1474 1504 (lit≤ tt) g) H.0 (lit< tt) in
    record { steps = record { s1 = A.1; s2 = B.1; s3 = H.1; s4 = L.1 }; good_high = good_up (high a) 1504 1505 (lit≤ tt) H.0; good_low = L.0 }

-- ---- the product
module _ (a b : Float) where
  abbrev pub r : Float
  r = mul binary64 a b

  abbrev pub y1 : Float
  y1 = mul binary64 (high a) (high b)

  abbrev pub y2 : Float
  y2 = mul binary64 (high a) (low b)

  abbrev pub y3 : Float
  y3 = mul binary64 (low a) (high b)

  abbrev pub y4 : Float
  y4 = mul binary64 (low a) (low b)

  abbrev pub d1 : Float
  d1 = sub binary64 y1 r

  abbrev pub d2 : Float
  d2 = add binary64 y2 d1

  abbrev pub d3 : Float
  d3 = add binary64 y3 d2

  abbrev pub rest : Float
  rest = add binary64 y4 d3

pub positive_factors : (m n : ℕ) → 0 < m * n → (0 < m) × (0 < n)
positive_factors m n h = (
  native.Mathlib.Nat.lt_of_not-le (λ (g : m ≤ 0). lt_irrefl 0 (lt_of_lt_of_le h (le_trans (mul-le-mul_right n g) (le_of_eq (zero-mul n))))),
  native.Mathlib.Nat.lt_of_not-le (λ (g : n ≤ 0). lt_irrefl 0 (lt_of_lt_of_le h (le_trans (native.Mathlib.Nat.mul-le-mul_left m g) (le_of_eq (mul-zero m))))),
)

-- with the last places of the parts no lower than the smallest value
exact_from : (a b : Float) → Good a 1474 → Good b 1474 → (na : (i : ℕ) × Normal (lift (val a)) i) (nb : (j : ℕ) × Normal (lift (val b)) j) → 1178 ≤ na.0 + nb.0 → ProductOf a b (rest a b) (r a b)
exact_from a b ga gb na nb e' =
    let A = val a in
    let B = val b in
    let i = na.0 in
    let j = nb.0 in
    let sa = split_of a ga in
    let sb = split_of b gb in
    let ha = halves A (val (s1 a)) (val (s2 a)) (val (high a)) (val (low a)) i na.1 sa.steps in
    let hb = halves B (val (s1 b)) (val (s2 b)) (val (high b)) (val (low b)) j nb.1 sb.steps in
    let mah = mult_down i (27 + i) _ (omega arith) ha.h_mult in
    let mbh = mult_down j (27 + j) _ (omega arith) hb.h_mult in
    let p = whole_product A B i j (na.1.m, na.1.is) (nb.1.m, nb.1.is) e' in
    let hh = whole_product (val (high a)) (val (high b)) i j mah mbh e' in
    let hl = whole_product (val (high a)) (val (low b)) i j mah hb.l_mult e' in
    let lh = whole_product (val (low a)) (val (high b)) i j ha.l_mult mbh e' in
    let ll = whole_product (val (low a)) (val (low b)) i j ha.l_mult hb.l_mult e' in
    let R = good_mul a b 1474 1474 1874 p.0 ga gb p.1 refl (lit< tt) in
    let Y1 = good_mul (high a) (high b) 1505 1505 1936 hh.0 sa.good_high sb.good_high hh.1 refl (lit< tt) in
    let Y2 = good_mul (high a) (low b) 1505 1505 1936 hl.0 sa.good_high sb.good_low hl.1 refl (lit< tt) in
    let Y3 = good_mul (low a) (high b) 1505 1505 1936 lh.0 sa.good_low sb.good_high lh.1 refl (lit< tt) in
    let Y4 = good_mul (low a) (low b) 1505 1505 1936 ll.0 sa.good_low sb.good_low ll.1 refl (lit< tt) in
    let D1 = good_sub (y1 a b) (r a b) 1936 Y1.0 (good_up (r a b) 1874 1936 (lit≤ tt) R.0) (lit< tt) in
    let D2 = good_add (y2 a b) (d1 a b) 1937 (good_up (y2 a b) 1936 1937 (lit≤ tt) Y2.0) D1.0 (lit< tt) in
    let D3 = good_add (y3 a b) (d2 a b) 1938 (good_up (y3 a b) 1936 1938 (lit≤ tt) Y3.0) D2.0 (lit< tt) in
    let L = good_add (y4 a b) (d3 a b) 1939 (good_up (y4 a b) 1936 1939 (lit≤ tt) Y4.0) D3.0 (lit< tt) in
    let x : val (r a b) +ℤ val (rest a b) ≡ p.0 = exact_product A (val (s1 a)) (val (s2 a)) (val (high a)) (val (low a)) B (val (s1 b)) (val (s2 b)) (val (high b)) (val (low b)) i j na.1 sa.steps nb.1 sb.steps e'
    p.0 (val (r a b)) hh.0 hl.0 lh.0 ll.0 (val (y1 a b)) (val (y2 a b)) (val (y3 a b)) (val (y4 a b)) (val (d1 a b)) (val (d2 a b)) (val (d3 a b)) (val (rest a b))
    p.1 hh.1 hl.1 lh.1 ll.1 R.1 Y1.1 Y2.1 Y3.1 Y4.1 D1.1 D2.1 D3.1 L.1 in
    record {
      lo_number = L.0.number;
      hi_number = R.0.number;
      nearest = R.1 ∙ sym (rq_whole (A *ℤ B) p.0 (2 ^ 1074) (pow_pos 1074) (sym p.1));
      exact = ap (λ (z : ℤ). z *ℤ pos (2 ^ 1074)) x ∙ p.1;
    }

pub exact_mult : (a b : Float) → Good a 1474 → Good b 1474 → Large a b → ProductOf a b (rest a b) (r a b)
exact_mult a b ga gb large =
    let A = val a in
    let B = val b in
    let nz = positive_factors (nat_abs A) (nat_abs B) (lt_of_lt_of_le (pow_pos 1248) large) in
    let na = normal A (val_repr a ga.holds) nz.0 in
    let nb = normal B (val_repr b gb.holds) nz.1 in
    let e : 1246 ≤ na.0 + nb.0 = exponents A B na.0 nb.0 na.1 nb.1 large in
    exact_from a b ga gb na nb (le_trans (lit≤ tt) e)

-- ---- at any two factors
pub good_times : (x y : Float) (i j k : ℕ) → Good x i → Good y j → k + 1074 ≡ i + j → suc k < 2098 → Good (mul binary64 x y) (suc k) × (val (mul binary64 x y) ≡ rq (val x *ℤ val y) (2 ^ 1074))
good_times x y i j k gx gy s h =
    let z = val x *ℤ val y in
    let b : nat_abs z ≤ 2 ^ k * 2 ^ 1074 = le_trans (le_of_eq (abs_mul (val x) (val y))) (le_trans (native.Mathlib.Nat.mul-le-mul gx.small gy.small) (le_of_eq (sym (pow-add 2 i j) ∙ ap (λ (t : ℕ). 2 ^ t) (sym s) ∙ pow-add 2 k 1074))) in
    let m = Rattle.ieee.proofs.Bounded.rq_le z (2 ^ 1074) k (pow_pos 1074) b in
    let w = Rattle.ieee.proofs.Fractions.mul_is x y gx.holds gy.holds gx.number gy.number (native.Mathlib.Nat.lt_of_le_of_lt m (lib.Pow.pow-lt h)) in
    (record { holds = mul-fits binary64 x y; number = w.0; small = subst (λ (t : ℤ). nat_abs t ≤ 2 ^ suc k) (sym w.1) m }, w.1)

near_abs : (x y : ℤ) (b : ℕ) → Rattle.ieee.proofs.Ints.Near x y b → nat_abs (x -ℤ y) ≤ b
near_abs x y b n = Rattle.ieee.proofs.Ints.le_abs (x -ℤ y) b (omega zs, omega zs)

same_near : (x y : ℤ) (b : ℕ) → x ≡ y → nat_abs (x -ℤ y) ≤ b
same_near x y b e = near_abs x y b (let f = borrow.Author.Differences.same_out x y e in (omega arith, omega arith))

none : (z : ℤ) → nat_abs z ≡ 0 → z ≡ pos 0
none z e = omega (zs, borrow.Author.Differences.abs_is z)

not_large : (a b : ℤ) → a *ℤ b ≡ pos 0 → 0 < nat_abs a → 0 < nat_abs b → ⊥
not_large a b e p q = lt_irrefl 0 (lt_of_lt_of_le (native.Mathlib.Nat.mul-pos p q) (le_of_eq (sym (abs_mul a b) ∙ ap nat_abs e)))

pub any_mult : (a b : Float) → Good a 1474 → Good b 1474 → Times a b (rest a b) (r a b)
any_mult a b ga gb =
    let A = val a in
    let B = val b in
    let sa = split_of a ga in
    let sb = split_of b gb in
    let R = good_times a b 1474 1474 1874 ga gb refl (lit< tt) in
    let Y1 = good_times (high a) (high b) 1505 1505 1936 sa.good_high sb.good_high refl (lit< tt) in
    let Y2 = good_times (high a) (low b) 1505 1505 1936 sa.good_high sb.good_low refl (lit< tt) in
    let Y3 = good_times (low a) (high b) 1505 1505 1936 sa.good_low sb.good_high refl (lit< tt) in
    let Y4 = good_times (low a) (low b) 1505 1505 1936 sa.good_low sb.good_low refl (lit< tt) in
    let D1 = good_sub (y1 a b) (r a b) 1937 Y1.0 (good_up (r a b) 1875 1937 (lit≤ tt) R.0) (lit< tt) in
    let D2 = good_add (y2 a b) (d1 a b) 1938 (good_up (y2 a b) 1937 1938 (lit≤ tt) Y2.0) D1.0 (lit< tt) in
    let D3 = good_add (y3 a b) (d2 a b) 1939 (good_up (y3 a b) 1937 1939 (lit≤ tt) Y3.0) D2.0 (lit< tt) in
    let L = good_add (y4 a b) (d3 a b) 1940 (good_up (y4 a b) 1937 1940 (lit≤ tt) Y4.0) D3.0 (lit< tt) in
    let S = val (r a b) +ℤ val (rest a b) in
    let zeros = λ (w : ((A ≡ pos 0) × (val (high a) ≡ pos 0) × (val (low a) ≡ pos 0)) ⊎ ((B ≡ pos 0) × (val (high b) ≡ pos 0) × (val (low b) ≡ pos 0))).
    Rattle.ieee.proofs.Bounded.zero_product A (val (high a)) (val (low a)) B (val (high b)) (val (low b)) (val (r a b)) (val (y1 a b)) (val (y2 a b)) (val (y3 a b)) (val (y4 a b)) (val (d1 a b)) (val (d2 a b)) (val (d3 a b)) (val (rest a b)) w R.1 Y1.1 Y2.1 Y3.1 Y4.1 D1.1 D2.1 D3.1 L.1 in
    let made = λ (within : nat_abs (S *ℤ pos (2 ^ 1074) -ℤ A *ℤ B) ≤ 2 * 2 ^ 1074) (exact : (A *ℤ B ≡ pos 0) ⊎ Large a b → S *ℤ pos (2 ^ 1074) ≡ A *ℤ B).
    finish L.0.number R.0.number R.1 within exact in
    let whole = λ (w : S *ℤ pos (2 ^ 1074) ≡ A *ℤ B). made (same_near (S *ℤ pos (2 ^ 1074)) (A *ℤ B) (2 * 2 ^ 1074) w) (λ _. w) in
    elim (eq-zero-or-pos (nat_abs A)) [
      | inl z ↦
          let e = none A z in
          let w = zeros (inl (e, (Rattle.ieee.proofs.Bounded.zero_steps A (val (s1 a)) (val (s2 a)) (val (high a)) (val (low a)) sa.steps e).0, (Rattle.ieee.proofs.Bounded.zero_steps A (val (s1 a)) (val (s2 a)) (val (high a)) (val (low a)) sa.steps e).1)) in
          whole (ap (λ (t : ℤ). t *ℤ pos (2 ^ 1074)) w.0 ∙ sym w.1)
      | inr pa ↦ elim (eq-zero-or-pos (nat_abs B)) [
        | inl z ↦
            let e = none B z in
            let w = zeros (inr (e, (Rattle.ieee.proofs.Bounded.zero_steps B (val (s1 b)) (val (s2 b)) (val (high b)) (val (low b)) sb.steps e).0, (Rattle.ieee.proofs.Bounded.zero_steps B (val (s1 b)) (val (s2 b)) (val (high b)) (val (low b)) sb.steps e).1)) in
            whole (ap (λ (t : ℤ). t *ℤ pos (2 ^ 1074)) w.0 ∙ sym w.1)
        | inr pb ↦
            let na = normal A (val_repr a ga.holds) pa in
            let nb = normal B (val_repr b gb.holds) pb in
            elim (Rattle.ieee.proofs.Whole.order 1178 (na.0 + nb.0)) [
              | inl h ↦ whole (exact_from a b ga gb na nb h).exact
              | inr h ↦
                  made (near_abs (S *ℤ pos (2 ^ 1074)) (A *ℤ B) (2 * 2 ^ 1074)
                  (Rattle.ieee.proofs.Bounded.near_product A (val (s1 a)) (val (s2 a)) (val (high a)) (val (low a)) B (val (s1 b)) (val (s2 b)) (val (high b)) (val (low b)) na.0 nb.0 na.1 sa.steps nb.1 sb.steps h
                  (val (r a b)) (val (y1 a b)) (val (y2 a b)) (val (y3 a b)) (val (y4 a b)) (val (d1 a b)) (val (d2 a b)) (val (d3 a b)) (val (rest a b)) R.1 Y1.1 Y2.1 Y3.1 Y4.1 D1.1 D2.1 D3.1 L.1))
                  (elim [ inl z ↦ absurd (not_large A B z pa pb) | inr g ↦ (exact_mult a b ga gb g).exact ])
            ]
      ]
    ]
  where
    finish : T (lib.Ieee.Scale.finite (rest a b)) → T (lib.Ieee.Scale.finite (r a b)) → val (r a b) ≡ rq (val a *ℤ val b) (2 ^ 1074) → nat_abs ((val (r a b) +ℤ val (rest a b)) *ℤ pos (2 ^ 1074) -ℤ val a *ℤ val b) ≤ 2 * 2 ^ 1074
        → ((val a *ℤ val b ≡ pos 0) ⊎ Large a b → (val (r a b) +ℤ val (rest a b)) *ℤ pos (2 ^ 1074) ≡ val a *ℤ val b) → Times a b (rest a b) (r a b)
    finish l h n w e = record { lo_number = l; hi_number = h; nearest = n; within = w; exact = e }
