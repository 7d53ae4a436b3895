-- The sums of f64 that are exact. Assumes nothing.
use Rattle.std.proofs.Common.{◌≡◌, ℕ, suc, ◌+◌, ◌^◌, ◌<◌, ◌≤◌, T, ℤ, pos, ◌+ℤ◌, ◌-ℤ◌, nat_abs, sym, ap, subst, inl, inr, le_trans, lt_of_le_of_lt, arith, pow_mono}
use lib.Pow.{pow-lt}
use lib.Ieee.{Float, binary64, fits, add, sub}
use lib.Ieee.Fits.{add-fits, sub-fits}
use Rattle.ieee.specs.Val.{val, rz, Mult, Under}
use Rattle.ieee.specs.Pairs.{Small, Good, SumOf, Leads, last}
use Rattle.ieee.proofs.Ints.{zs, abs_le, le_abs}
use Rattle.ieee.proofs.Whole.{Repr, Rounds, rounds, placed, exact}
use Rattle.ieee.proofs.Sums.{Ordered, ordered_zero, ordered_abs, ordered_multiple, fast_two_sum, two_sum}
use Rattle.ieee.proofs.Bridge.{val_repr, add_is, sub_is}
use Rattle.ieee.proofs.Fractions.{bounded}

repr_pow : (j : ℕ) → Repr (pos (2 ^ j))
repr_pow j = record { q = pos 1; j = j; small = omega arith; is = ap pos (omega arith) }

-- a sum or a difference of numbers up to 2 ^ j units is below the overflow
pub kept_small : (z : ℤ) (j : ℕ) → j < 2098 → nat_abs z ≤ 2 ^ j → (nat_abs (rz z) ≤ 2 ^ j) × Under (rz z)
kept_small z j h l =
    let b = bounded z (rz z) (2 ^ j) (rounds z) (repr_pow j) (abs_le z (2 ^ j) l) in
    let m : nat_abs (rz z) ≤ 2 ^ j = le_abs (rz z) (2 ^ j) b in
    (m, lt_of_le_of_lt m (pow-lt h))

double_add : (x y : ℤ) (j : ℕ) → nat_abs x ≤ 2 ^ j → nat_abs y ≤ 2 ^ j → nat_abs (x +ℤ y) ≤ 2 ^ suc j
double_add x y j h k = omega zs

double_sub : (x y : ℤ) (j : ℕ) → nat_abs x ≤ 2 ^ j → nat_abs y ≤ 2 ^ j → nat_abs (x -ℤ y) ≤ 2 ^ suc j
double_sub x y j h k = omega zs

pub good : (x : Float) (j : ℕ) → T (fits binary64 x) → Small x j → Good x j
good x j f s = record { holds = f; number = s.number; small = s.small }

pub good_up : (x : Float) (i j : ℕ) → i ≤ j → Good x i → Good x j
good_up x i j h g = record { holds = g.holds; number = g.number; small = le_trans g.small (pow_mono h) }

pub good_add : (x y : Float) (j : ℕ) → Good x j → Good y j → suc j < 2098 → Good (add binary64 x y) (suc j) × (val (add binary64 x y) ≡ rz (val x +ℤ val y))
good_add x y j gx gy h =
    let k = kept_small (val x +ℤ val y) (suc j) h (double_add (val x) (val y) j gx.small gy.small) in
    let i = add_is x y gx.holds gy.holds gx.number gy.number k.1 in
    (record { holds = add-fits binary64 x y; number = i.0; small = subst (λ (z : ℤ). nat_abs z ≤ 2 ^ suc j) (sym i.1) k.0 }, i.1)

pub good_sub : (x y : Float) (j : ℕ) → Good x j → Good y j → suc j < 2098 → Good (sub binary64 x y) (suc j) × (val (sub binary64 x y) ≡ rz (val x -ℤ val y))
good_sub x y j gx gy h =
    let k = kept_small (val x -ℤ val y) (suc j) h (double_sub (val x) (val y) j gx.small gy.small) in
    let i = sub_is x y gx.holds gy.holds gx.number gy.number k.1 in
    (record { holds = sub-fits binary64 x y; number = i.0; small = subst (λ (z : ℤ). nat_abs z ≤ 2 ^ suc j) (sym i.1) k.0 }, i.1)

-- a result and what it rounds
pub rounding : (s : ℤ) (z : ℤ) → s ≡ rz z → Rounds z s
rounding s z e = subst (Rounds z) (sym e) (rounds z)

-- ---- from_full_exact_add
pub full_add : (a b : Float) (j : ℕ) → Good a j → Good b j → j + 5 < 2098
    → SumOf a b (add binary64 (sub binary64 b (sub binary64 (add binary64 a b) a)) (sub binary64 a (sub binary64 (add binary64 a b) (sub binary64 (add binary64 a b) a)))) (add binary64 a b)
full_add a b j ga gb h =
    let s = add binary64 a b in
    let t1 = sub binary64 s a in
    let t2 = sub binary64 s t1 in
    let t3 = sub binary64 b t1 in
    let t4 = sub binary64 a t2 in
    let S = good_add a b j ga gb (omega arith) in
    let T1 = good_sub s a (suc j) S.0 (good_up a j (suc j) (omega arith) ga) (omega arith) in
    let T2 = good_sub s t1 (suc (suc j)) (good_up s (suc j) (suc (suc j)) (omega arith) S.0) T1.0 (omega arith) in
    let T3 = good_sub b t1 (suc (suc j)) (good_up b j (suc (suc j)) (omega arith) gb) T1.0 (omega arith) in
    let T4 = good_sub a t2 (suc (suc (suc j))) (good_up a j (suc (suc (suc j))) (omega arith) ga) T2.0 (omega arith) in
    let L = good_add t3 t4 (suc (suc (suc (suc j)))) (good_up t3 (suc (suc (suc j))) (suc (suc (suc (suc j)))) (omega arith) T3.0) T4.0 (omega arith) in
    record {
      lo_number = L.0.number;
      hi_number = S.0.number;
      nearest = S.1;
      exact = two_sum (val a) (val b) (val s) (val t1) (val t2) (val t3) (val t4) (val (add binary64 t3 t4)) (val_repr a ga.holds) (val_repr b gb.holds) (rounding (val s) (val a +ℤ val b) S.1) (rounding (val t1) (val s -ℤ val a) T1.1) (rounding (val t2) (val s -ℤ val t1) T2.1) (rounding (val t3) (val b -ℤ val t1) T3.1) (rounding (val t4) (val a -ℤ val t2) T4.1) (rounding (val (add binary64 t3 t4)) (val t3 +ℤ val t4) L.1);
    }

-- ---- from_exact_add
last_of : (x : Float) (r : Repr (val x)) → (w : Rounds (val x) (val x)) × (w.k ≡ last x)
last_of x r = subst (λ (s : ℤ). (w : Rounds (val x) s) × (w.k ≡ last x)) (exact (val x) (rz (val x)) (rounds (val x)) r) (placed (val x))

ordered : (a b : Float) → Repr (val a) → Repr (val b) → Leads a b → Ordered (val a) (val b)
ordered a b ra rb (inl e) = subst (λ (z : ℤ). Ordered z (val b)) (sym e) (ordered_zero (val b) rb)
ordered a b ra rb (inr (inl h)) = ordered_abs (val a) (val b) ra rb h
ordered a b ra rb (inr (inr m)) = let w = last_of b rb in ordered_multiple (val a) (val b) ra rb w.0 (subst (λ (k : ℕ). Mult k (val a)) (sym w.1) m)

pub quick_add : (a b : Float) (j : ℕ) → Good a j → Good b j → Leads a b → j + 3 < 2098 → SumOf a b (sub binary64 b (sub binary64 (add binary64 a b) a)) (add binary64 a b)
quick_add a b j ga gb o h =
    let s = add binary64 a b in
    let t = sub binary64 s a in
    let S = good_add a b j ga gb (omega (arith, h)) in
    let T = good_sub s a (suc j) S.0 (good_up a j (suc j) (omega arith) ga) (omega (arith, h)) in
    let L = good_sub b t (suc (suc j)) (good_up b j (suc (suc j)) (omega arith) gb) T.0 (omega (arith, h)) in
    let w = ordered a b (val_repr a ga.holds) (val_repr b gb.holds) o in
    record {
      lo_number = L.0.number;
      hi_number = S.0.number;
      nearest = S.1;
      exact = fast_two_sum (val a) (val b) (val s) (val t) (val (sub binary64 b t)) w.0 w.1 w.2 (rounding (val s) (val a +ℤ val b) S.1) (rounding (val t) (val s -ℤ val a) T.1) (rounding (val (sub binary64 b t)) (val b -ℤ val t) L.1);
    }
