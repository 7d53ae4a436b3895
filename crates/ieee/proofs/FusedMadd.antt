-- The multiply-add that rounds once keeps the bound of the one in steps. Assumes nothing.
use Rattle.std.proofs.Common.{◌≡◌, ℕ, suc, ◌+◌, ◌-◌, ◌*◌, ◌^◌, ◌<◌, ◌≤◌, Bool, cond, ◌&&◌, T, ltb, ℤ, pos, ◌+ℤ◌, ◌-ℤ◌, ◌*ℤ◌, nat_abs, sym, ap, ◌∙◌, subst, le_trans, le_of_eq, lt_of_le_of_lt, mul-le-mul_right, mul-le-mul, arith, pow_pos, pow_mono}
use mathlib.Core.Bool.{beq}
use native.Mathlib.Nat.{pow-succ'}
use lib.Pow.{pow-lt}
use lib.Ieee.{Float, Format, nan, inf, fin, binary64, fits, up, down, unlike, round, sum, mul}
use lib.Ieee.Fits.{nan-fits, inf-fits, cond-fits, round-fits, add-fits}
use Rattle.std.specs.Float.{float_mul_add}
use Rattle.ieee.specs.Val.{val, rq, rz}
use Rattle.ieee.specs.Pairs.{Good}
use Rattle.ieee.specs.Meaning.{fine}
use Rattle.ieee.proofs.Ints.{abs_mul}
use Rattle.ieee.proofs.Whole.{Repr, rounds, exact}
use Rattle.ieee.proofs.Bridge.{val_repr}
use Rattle.ieee.proofs.Fractions.{rq_whole}
use Rattle.ieee.proofs.Bounded.{rq_le}
use Rattle.ieee.proofs.Tools.{abs_add}
use Rattle.ieee.proofs.Floats.{good_up}
use Rattle.ieee.proofs.Fused.{fused_is}
use Rattle.ieee.proofs.PlainNumber.{frac_error}
use Rattle.ieee.proofs.PlainMadd.{Madd}

-- ---- what is rounded fits
sum_fits : (f : Format) (s : Bool) (a : ℕ) (t : Bool) (b c : ℕ) → T (fits f (sum f s a t b c))
unfolding sum
sum_fits f s a t b c =
    cond-fits f (beq s t) (round f s (a + b) c) (cond (ltb a b) (round f t (b - a) c) (round f (s && ltb b a) (a - b) c)) (round-fits f s (a + b) c)
    (cond-fits f (ltb a b) (round f t (b - a) c) (round f (s && ltb b a) (a - b) c) (round-fits f t (b - a) c) (round-fits f (s && ltb b a) (a - b) c))

pub fused_fits : (f : Format) (x y z : Float) → T (fits f (float_mul_add f x y z))
unfolding float_mul_add
fused_fits f nan y z = nan-fits f
fused_fits f (inf s) y z = add-fits f (mul f (inf s) y) z
fused_fits f (fin s m e) nan z = nan-fits f
fused_fits f (fin s m e) (inf t) z = add-fits f (mul f (fin s m e) (inf t)) z
fused_fits f (fin s m e) (fin t n d) nan = nan-fits f
fused_fits f (fin s m e) (fin t n d) (inf u) = inf-fits f u
fused_fits f (fin s m e) (fin t n d) (fin u k g) = sum_fits f (unlike s t) (m * up e * (n * up d) * down g) u (k * up g * (down e * down d)) (down e * down d * down g)

-- ---- the size of a b + c, with k the size of a b in units
sum_le : (p c : ℤ) (k j l : ℕ) → nat_abs p ≤ k * l → k ≤ 2 ^ j → nat_abs c ≤ 2 ^ j → nat_abs (p +ℤ c *ℤ pos l) ≤ 2 ^ suc j * l
sum_le p c k j l a b d =
    let e = abs_add p (c *ℤ pos l) in
    let f = abs_mul c (pos l) in
    omega (arith, mul-le-mul_right l b, mul-le-mul_right l d, ap (λ (z : ℕ). z * l) (pow-succ' 2 j))

-- half a unit, and 2 ^ -53 of the sum
once_bound : (e x y l : ℕ) → 2 ^ 53 * e ≤ x + 2 ^ 52 * l → 2 ^ 103 * e ≤ 2 ^ 50 * x + y + 3 * 2 ^ 103 * l
once_bound e x y l h = omega arith

-- a number of 53 digits is its own rounding
pub rq_exact : (z x : ℤ) (l : ℕ) → 0 < l → Repr z → z *ℤ pos l ≡ x → rq x l ≡ z
rq_exact z x l L r e = rq_whole x z l L (sym e) ∙ exact z (rz z) (rounds z) r

-- ---- on floats
pub fused_good : (a b c : Float) (j : ℕ) → Good a 1474 → Good b 1474 → Good c j → 1874 ≤ j → suc (suc j) < 2098
    → Good (float_mul_add binary64 a b c) (suc (suc j)) × (val (float_mul_add binary64 a b c) ≡ rq (val a *ℤ val b +ℤ fine (val c)) (2 ^ 1074))
fused_good a b c j ga gb gc least most =
    let x = val a *ℤ val b +ℤ fine (val c) in
    let p : nat_abs (val a *ℤ val b) ≤ 2 ^ 1874 * 2 ^ 1074 = le_trans (le_of_eq (abs_mul (val a) (val b))) (mul-le-mul ga.small gb.small) in
    let m : nat_abs (rq x (2 ^ 1074)) ≤ 2 ^ suc (suc j) = rq_le x (2 ^ 1074) (suc j) (pow_pos 1074) (sum_le (val a *ℤ val b) (val c) (2 ^ 1874) j (2 ^ 1074) p (pow_mono {i = 1874} {j = j} least) gc.small) in
    let w = fused_is a b c ga.holds gb.holds gc.holds ga.number gb.number gc.number (lt_of_le_of_lt m (pow-lt most)) in
    (record { holds = fused_fits binary64 a b c; number = w.0; small = subst (λ (z : ℤ). nat_abs z ≤ 2 ^ suc (suc j)) (sym w.1) m }, w.1)

pub fused_sharp : (a b c : Float) (j : ℕ) → Good a 1474 → Good b 1474 → Good c j → 1876 ≤ j → j + 5 < 2098 → Madd a b c (float_mul_add binary64 a b c) j
fused_sharp a b c j ga gb gc least most =
    let x = val a *ℤ val b +ℤ fine (val c) in
    let r = float_mul_add binary64 a b c in
    let w = fused_good a b c j ga gb gc (omega arith) (omega arith) in
    record {
      answer = good_up r (suc (suc j)) (suc (suc (suc (suc j)))) (omega arith) w.0;
      within = once_bound (nat_abs (fine (val r) -ℤ x)) (nat_abs x) (nat_abs (val a *ℤ val b) + nat_abs (fine (val c))) (2 ^ 1074) (frac_error (val r) x (2 ^ 1074) (pow_pos 1074) w.1);
      exact = λ s z y e. w.1 ∙ rq_exact z x (2 ^ 1074) (pow_pos 1074) (subst Repr y.1.1 (val_repr y.0 y.1.0.holds)) e;
    }
