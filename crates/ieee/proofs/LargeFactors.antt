-- Dekker's product of f64 that may be larger than 2 ^ 400, as long as their product is not: exact, from the places of their last digits. Assumes nothing.
use Rattle.std.proofs.Common.{◌≡◌, ℕ, suc, ◌+◌, ◌-◌, ◌*◌, ◌^◌, ◌<◌, ◌≤◌, T, ℤ, pos, ◌+ℤ◌, ◌*ℤ◌, nat_abs, sym, ap, ◌∙◌, le_trans, le_of_eq, lt_of_lt_of_le, lt_of_le_of_lt, mul-le-mul, arith, lit<, pow_pos, pow-add}
use lib.Ieee.{Float, binary64, fits, mul}
use lib.Ieee.Scale.{finite}
use Rattle.ieee.specs.Val.{val, rz}
use Rattle.ieee.specs.Pairs.{Good, ProductOf, splitter, s1, s2, high, low}
use Rattle.ieee.proofs.Ints.{abs_mul, massoc, cancel_le}
use Rattle.ieee.proofs.Whole.{rounds, exact, mult_down}
use Rattle.ieee.proofs.Bridge.{val_repr, reflect}
use Rattle.ieee.proofs.Fractions.{rq_whole}
use Rattle.ieee.proofs.Floats.{good_up, good_add, good_sub}
use Rattle.ieee.proofs.Split.{Normal}
use Rattle.ieee.proofs.Product.{normal_le}
use Rattle.ieee.proofs.Scaled.{lift, Steps, normal, halves, whole_product, exact_product, repr_scale}
use Rattle.ieee.proofs.Products.{good_mul, good_splitter, splitter_times, positive_factors, r, y1, y2, y3, y4, d1, d2, d3, rest}

-- ---- a number by the place of its last digit: from 2 ^ i to 2 ^ (i + 1)
pub normal_size : (a : ℤ) (i : ℕ) → Normal (lift a) i → (2 ^ i ≤ nat_abs a) × (nat_abs a ≤ 2 ^ suc i)
normal_size a i n =
    let b = normal_le (lift a) i n in
    let e = abs_mul a (pos (2 ^ 52)) in
    (cancel_le (2 ^ 52) (2 ^ i) (nat_abs a) (pow_pos 52) (omega arith), cancel_le (2 ^ 52) (nat_abs a) (2 ^ suc i) (pow_pos 52) (omega arith))

-- the places add up to the size of the product
pub places_most : (a b : ℤ) (i j n : ℕ) → Normal (lift a) i → Normal (lift b) j → nat_abs a * nat_abs b ≤ 2 ^ n → i + j ≤ n
places_most a b i j n p q h = reflect (i + j) n (le_trans (le_of_eq (pow-add 2 i j)) (le_trans (mul-le-mul (normal_size a i p).0 (normal_size b j q).0) h))

pub places_least : (a b : ℤ) (i j n : ℕ) → Normal (lift a) i → Normal (lift b) j → 2 ^ n ≤ nat_abs a * nat_abs b → n ≤ suc i + suc j
places_least a b i j n p q h = reflect n (suc i + suc j) (le_trans h (le_trans (mul-le-mul (normal_size a i p).1 (normal_size b j q).1) (le_of_eq (sym (pow-add 2 (suc i) (suc j))))))

-- ---- a number times a power of two
pub scale_up : (x y : Float) (i t : ℕ) → Good x i → Good y (t + 1074) → val y ≡ pos (2 ^ (t + 1074)) → i + t < 2098 → Good (mul binary64 x y) (i + t) × (val (mul binary64 x y) ≡ val x *ℤ pos (2 ^ t))
scale_up x y i t gx gy e h =
    let p = val x *ℤ pos (2 ^ t) in
    let f : p *ℤ pos (2 ^ 1074) ≡ val x *ℤ val y = massoc (val x) (pos (2 ^ t)) (pos (2 ^ 1074)) ∙ ap (λ (z : ℕ). val x *ℤ pos z) (sym (pow-add 2 t 1074)) ∙ ap (λ (z : ℤ). val x *ℤ z) (sym e) in
    let w = good_mul x y i (t + 1074) (i + t) p gx gy f (omega arith) h in
    (w.0, w.1 ∙ exact p (rz p) (rounds p) (repr_scale (val x) t (val_repr x gx.holds)))

-- ---- the split, by the size of the number
pub record SplitAt (a : Float) (i : ℕ) : Type 0 where
  pub steps : Steps (val a) (val (s1 a)) (val (s2 a)) (val (high a)) (val (low a))
  pub good_high : Good (high a) (i + 31)
  pub good_low : Good (low a) (i + 31)

pub split_at : (a : Float) (i : ℕ) → Good a i → i + 31 < 2098 → SplitAt a i
split_at a i g h =
    let k = i + 28 in
    let A = good_mul splitter a 1102 i k (pos (2 ^ 27 + 1) *ℤ val a) good_splitter g (splitter_times (val a)) (omega arith) (omega arith) in
    let B = good_sub a (s1 a) k (good_up a i k (omega arith) g) A.0 (omega arith) in
    let H = good_add (s1 a) (s2 a) (suc k) (good_up (s1 a) k (suc k) (omega arith) A.0) B.0 (omega arith) in
    let L = good_sub a (high a) (suc (suc k)) (good_up a i (suc (suc k)) (omega arith) g) H.0 (omega arith) in
    record {
      steps = record { s1 = A.1; s2 = B.1; s3 = H.1; s4 = L.1 };
      good_high = good_up (high a) (suc (suc k)) (i + 31) (omega arith) H.0;
      good_low = good_up (low a) (suc (suc (suc k))) (i + 31) (omega arith) L.0;
    }

-- ---- the product
pub exact_at_places : (a b : Float) (i j : ℕ) → T (fits binary64 a) → T (fits binary64 b) → T (finite a) → T (finite b) → Normal (lift (val a)) i → Normal (lift (val b)) j → 1178 ≤ i + j → i + j < 3000 → i < 2060 → j < 2060
    → ProductOf a b (rest a b) (r a b)
exact_at_places a b i j fa fb na nb ma mb least most ia jb =
    let A = val a in
    let B = val b in
    let I = suc i + 31 in
    let J = suc j + 31 in
    let k = I + J - 1074 in
    let K : k + 1074 ≡ I + J = omega arith in
    let k' : k < 2093 = omega arith in
    let ga : Good a (suc i) = record { holds = fa; number = na; small = (normal_size A i ma).1 } in
    let gb : Good b (suc j) = record { holds = fb; number = nb; small = (normal_size B j mb).1 } in
    let sa = split_at a (suc i) ga (omega arith) in
    let sb = split_at b (suc j) gb (omega arith) in
    let ha = halves A (val (s1 a)) (val (s2 a)) (val (high a)) (val (low a)) i ma sa.steps in
    let hb = halves B (val (s1 b)) (val (s2 b)) (val (high b)) (val (low b)) j mb sb.steps in
    let mah = mult_down i (27 + i) _ (omega arith) ha.h_mult in
    let mbh = mult_down j (27 + j) _ (omega arith) hb.h_mult in
    let p = whole_product A B i j (ma.m, ma.is) (mb.m, mb.is) least in
    let hh = whole_product (val (high a)) (val (high b)) i j mah mbh least in
    let hl = whole_product (val (high a)) (val (low b)) i j mah hb.l_mult least in
    let lh = whole_product (val (low a)) (val (high b)) i j ha.l_mult mbh least in
    let ll = whole_product (val (low a)) (val (low b)) i j ha.l_mult hb.l_mult least in
    let R = good_mul a b I J k p.0 (good_up a (suc i) I (omega arith) ga) (good_up b (suc j) J (omega arith) gb) p.1 K (omega arith) in
    let Y1 = good_mul (high a) (high b) I J k hh.0 sa.good_high sb.good_high hh.1 K (omega arith) in
    let Y2 = good_mul (high a) (low b) I J k hl.0 sa.good_high sb.good_low hl.1 K (omega arith) in
    let Y3 = good_mul (low a) (high b) I J k lh.0 sa.good_low sb.good_high lh.1 K (omega arith) in
    let Y4 = good_mul (low a) (low b) I J k ll.0 sa.good_low sb.good_low ll.1 K (omega arith) in
    let D1 = good_sub (y1 a b) (r a b) k Y1.0 R.0 (omega arith) in
    let D2 = good_add (y2 a b) (d1 a b) (suc k) (good_up (y2 a b) k (suc k) (omega arith) Y2.0) D1.0 (omega arith) in
    let D3 = good_add (y3 a b) (d2 a b) (suc (suc k)) (good_up (y3 a b) k (suc (suc k)) (omega arith) Y3.0) D2.0 (omega arith) in
    let L = good_add (y4 a b) (d3 a b) (suc (suc (suc k))) (good_up (y4 a b) k (suc (suc (suc k))) (omega arith) Y4.0) D3.0 (omega arith) in
    let x : val (r a b) +ℤ val (rest a b) ≡ p.0 = exact_product A (val (s1 a)) (val (s2 a)) (val (high a)) (val (low a)) B (val (s1 b)) (val (s2 b)) (val (high b)) (val (low b)) i j ma sa.steps mb sb.steps least
    p.0 (val (r a b)) hh.0 hl.0 lh.0 ll.0 (val (y1 a b)) (val (y2 a b)) (val (y3 a b)) (val (y4 a b)) (val (d1 a b)) (val (d2 a b)) (val (d3 a b)) (val (rest a b))
    p.1 hh.1 hl.1 lh.1 ll.1 R.1 Y1.1 Y2.1 Y3.1 Y4.1 D1.1 D2.1 D3.1 L.1 in
    record {
      lo_number = L.0.number;
      hi_number = R.0.number;
      nearest = R.1 ∙ sym (rq_whole (A *ℤ B) p.0 (2 ^ 1074) (pow_pos 1074) (sym p.1));
      exact = ap (λ (z : ℤ). z *ℤ pos (2 ^ 1074)) x ∙ p.1;
    }

-- ---- by the sizes: from 2 ^ 1180 on, the product is a whole number of units
two_less : (i j : ℕ) → 1180 ≤ suc i + suc j → 1178 ≤ i + j
two_less i j h = omega arith

abbrev Places : Float → Type 0
Places a = (i : ℕ) × Normal (lift (val a)) i

factors : (a b : Float) → T (fits binary64 a) → T (fits binary64 b) → 2 ^ 1180 ≤ nat_abs (val a) * nat_abs (val b) → Places a × Places b
factors a b fa fb h =
    let nz = positive_factors (nat_abs (val a)) (nat_abs (val b)) (lt_of_lt_of_le (pow_pos 1180) h) in
    (normal (val a) (val_repr a fa) nz.0, normal (val b) (val_repr b fb) nz.1)

pub whole_large : (a b : Float) → T (fits binary64 a) → T (fits binary64 b) → 2 ^ 1180 ≤ nat_abs (val a) * nat_abs (val b) → (p : ℤ) × (p *ℤ pos (2 ^ 1074) ≡ val a *ℤ val b)
whole_large a b fa fb h = go (factors a b fa fb h)
  where
    go : Places a × Places b → (p : ℤ) × (p *ℤ pos (2 ^ 1074) ≡ val a *ℤ val b)
    go ((i, m), (j, n)) = whole_product (val a) (val b) i j (m.m, m.is) (n.m, n.is) (two_less i j (places_least (val a) (val b) i j 1180 m n h))

pub exact_large : (a b : Float) → Good a 2050 → Good b 2050 → 2 ^ 1180 ≤ nat_abs (val a) * nat_abs (val b) → nat_abs (val a) * nat_abs (val b) ≤ 2 ^ 2990 → ProductOf a b (rest a b) (r a b)
exact_large a b ga gb h k = go (factors a b ga.holds gb.holds h)
  where
    go : Places a × Places b → ProductOf a b (rest a b) (r a b)
    go ((i, m), (j, n)) =
        exact_at_places a b i j ga.holds gb.holds ga.number gb.number m n (two_less i j (places_least (val a) (val b) i j 1180 m n h)) (lt_of_le_of_lt (places_most (val a) (val b) i j 2990 m n k) (lit< tt))
        (lt_of_le_of_lt (reflect i 2050 (le_trans (normal_size (val a) i m).0 ga.small)) (lit< tt)) (lt_of_le_of_lt (reflect j 2050 (le_trans (normal_size (val b) j n).0 gb.small)) (lit< tt))
