-- Fused arithmetic's functions, by a multiply-add that is either way within the bound of `Madd`. Assumes nothing.
use Rattle.std.specs.Prelude.{ℕ, ◌+◌, ◌*◌, ◌^◌, ◌<◌, ◌≤◌, Bool, true, false, cond, ◌+ℤ◌, ◌-ℤ◌, ◌*ℤ◌, unsigned_abs, refl, Float}
use Rattle.std.proofs.Common.{lit<, lit≤}
use Rattle.std.specs.Float.Ieee.{mul, neg, of_bits}
use Rattle.std.specs.Float.{float_mul_add, binary64}
use Rattle.ieee.specs.Val.{val}
use Rattle.ieee.specs.Pairs.{Good}
use Rattle.ieee.specs.Meaning.{fine, PairsMean, NumberMeans}
use Rattle.ieee.proofs.Floats.{good_up}
use Rattle.ieee.proofs.Products.{good_times}
use Rattle.ieee.proofs.PlainMadd.{Madd}
use Rattle.ieee.proofs.FusedMadd.{fused_sharp}
use Rattle.ieee.proofs.FusedPairs.{Paired, paired, paired_pairs, paired_number, good_neg, once_near, steps_near}
use Rattle.double_double.specs.Plain.{plain_multiply_add}
use Rattle.double_double.specs.Fused.{fused_domain, fused_multiply_add, fused_product, fused_pair_times_pair, fused_pair_times_number}
use Rattle.double_double.specs.PlainMeaning.{plain_madd}

either_way : (P : Float → Type 0) (t : Bool) (x y : Float) → P x → P y → P (cond t x y)
either_way P true x y p q = p
either_way P false x y p q = q

pub fused_madd : (a b c : Float) (j : ℕ) → Good a 1474 → Good b 1474 → Good c j → 1876 ≤ j → j + 5 < 2098 → Madd a b c (fused_multiply_add a b c) j
fused_madd a b c j p q r least most =
    either_way (λ x. Madd a b c x j) (fused_domain a b c) (float_mul_add binary64 a b c) (plain_multiply_add a b c) (fused_sharp a b c j p q r least most) (plain_madd a b c j p q r least most)

-- plain's splitter is written by its bits
plain_near : (a b : Float) → Good a 1474 → Good b 1474
    → 2 ^ 106 * unsigned_abs (fine (val (mul binary64 a b) +ℤ val (plain_multiply_add a b (neg (mul binary64 a b)))) -ℤ val a *ℤ val b) ≤ unsigned_abs (val a *ℤ val b) + 2 ^ 107 * 2 ^ 1074
unfolding of_bits
plain_near a b p q = steps_near a b p q

pub fused_paired : (a b : Float) → Good a 1474 → Good b 1474 → Paired a b (fused_product a b).lo (fused_product a b).hi
fused_paired a b p q =
    let h = mul binary64 a b in
    let c = good_up (neg h) 1875 1876 (lit≤ tt) (good_neg h 1875 (good_times a b 1474 1474 1874 p q refl (lit< tt)).0) in
    paired a b (fused_multiply_add a b (neg h)) p q (fused_madd a b (neg h) 1876 p q c (lit≤ tt) (lit< tt))
    (either_way (λ x. 2 ^ 106 * unsigned_abs (fine (val h +ℤ val x) -ℤ val a *ℤ val b) ≤ unsigned_abs (val a *ℤ val b) + 2 ^ 107 * 2 ^ 1074) (fused_domain a b (neg h)) (float_mul_add binary64 a b (neg h)) (plain_multiply_add a b (neg h))
    (once_near a b p q) (plain_near a b p q))

pub fused_pairs : (al ah bl bh : Float) → Good al 1474 → Good ah 1474 → Good bl 1474 → Good bh 1474
    → PairsMean al ah bl bh (fused_pair_times_pair (record { lo = al; hi = ah }) (record { lo = bl; hi = bh })).lo (fused_pair_times_pair (record { lo = al; hi = ah }) (record { lo = bl; hi = bh })).hi
fused_pairs al ah bl bh gal gah gbl gbh =
    let w = fused_paired ah bh gah gbh in
    let l = (fused_product ah bh).lo in
    let t = fused_multiply_add ah bl l in
    let x = fused_madd ah bl l 1880 gah gbl w.low (lit≤ tt) (lit< tt) in
    paired_pairs al ah bl bh l (mul binary64 ah bh) t (fused_multiply_add al bh t) w x (fused_madd al bh t 1884 gal gbh x.answer (lit≤ tt) (lit< tt))

pub fused_number : (al ah b : Float) → Good al 1474 → Good ah 1474 → Good b 1474 → NumberMeans al ah b (fused_pair_times_number (record { lo = al; hi = ah }) b).lo (fused_pair_times_number (record { lo = al; hi = ah }) b).hi
fused_number al ah b gal gah gb =
    let w = fused_paired b ah gb gah in
    let l = (fused_product b ah).lo in
    paired_number al ah b l (mul binary64 b ah) (fused_multiply_add b al l) w (fused_madd b al l 1880 gb gal w.low (lit≤ tt) (lit< tt))
