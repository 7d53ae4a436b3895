-- Plain arithmetic has the meaning, and its product pair is exact for products that are zero or at least 2 ^ -900 in size. Assumes nothing.
use Rattle.std.specs.Prelude.{◌≡◌, ℕ, ◌+◌, ◌*◌, ◌^◌, ◌<◌, ◌≤◌, T, ◌+ℤ◌, ◌-ℤ◌, ◌*ℤ◌, unsigned_abs, Float}
use Rattle.std.proofs.Common.{arith, lit<, lit≤}
use Rattle.std.specs.Float.{binary64}
use Rattle.std.specs.Float.Ieee.{fits, of_bits}
use Rattle.std.specs.Float.Ieee.Fits.{add-fits, mul-fits}
use Rattle.ieee.specs.Val.{val}
use Rattle.ieee.specs.Pairs.{Good, Times}
use Rattle.ieee.specs.Meaning.{Operand, Settled, fine, ProductMeans, PairsMean, NumberMeans}
use Rattle.ieee.proofs.Floats.{good_up}
use Rattle.ieee.proofs.Products.{any_mult}
use Rattle.ieee.proofs.PairTimes.{pair_times}
use Rattle.ieee.proofs.PlainNumber.{number_times}
use Rattle.ieee.proofs.PlainMadd.{Madd, settled, madd_sharp, madd_means}
use Rattle.double_double.specs.Ops.{Meaning}
use Rattle.double_double.specs.Plain.{plain_product, plain_pair_times_pair, plain_pair_times_number, plain_multiply_add, plain_ops}

pub operand_good : (x : Float) → Operand x → Good x 1474
operand_good x o = record { holds = o.holds; number = o.number; small = o.small }

-- the product pair: its splitter is written by its bits here, and as 2 ^ 27 + 1 in the lemma
pub plain_times : (a b : Float) → Good a 1474 → Good b 1474 → Times a b (plain_product a b).lo (plain_product a b).hi
unfolding of_bits
plain_times a b p q = any_mult a b p q

low_fits : (a b : Float) → T (fits binary64 (plain_product a b).lo)
low_fits a b = add-fits binary64 _ _

-- two units are within the bound
two_units : (e p l : ℕ) → e ≤ 2 * l → 2 ^ 104 * e ≤ p + 2 ^ 108 * l
two_units e p l h = omega arith

plain_product_lem : (a b : Float) → Good a 1474 → Good b 1474 → ProductMeans a b (plain_product a b).lo (plain_product a b).hi
plain_product_lem a b p q =
    let w = plain_times a b p q in
    record {
      low = record { holds = low_fits a b; number = w.lo_number };
      high = record { holds = mul-fits binary64 a b; number = w.hi_number };
      nearest = w.nearest;
      within = two_units (unsigned_abs (fine (val (plain_product a b).hi +ℤ val (plain_product a b).lo) -ℤ val a *ℤ val b)) (unsigned_abs (val a *ℤ val b)) (2 ^ 1074) w.within;
    }

plain_pairs : (al ah bl bh : Float) → Good al 1474 → Good ah 1474 → Good bl 1474 → Good bh 1474
    → PairsMean al ah bl bh (plain_pair_times_pair (record { lo = al; hi = ah }) (record { lo = bl; hi = bh })).lo (plain_pair_times_pair (record { lo = al; hi = ah }) (record { lo = bl; hi = bh })).hi
plain_pairs al ah bl bh p q r s =
    let w = pair_times al ah bl bh (plain_product ah bh).lo (plain_product ah bh).hi p q r s (low_fits ah bh) (mul-fits binary64 ah bh) (plain_times ah bh q s) in
    record {
      low = record { holds = add-fits binary64 _ _; number = w.lo_number };
      high = record { holds = mul-fits binary64 ah bh; number = w.hi_number };
      nearest = w.nearest;
      within = w.within;
    }

plain_number : (al ah b : Float) → Good al 1474 → Good ah 1474 → Good b 1474 → NumberMeans al ah b (plain_pair_times_number (record { lo = al; hi = ah }) b).lo (plain_pair_times_number (record { lo = al; hi = ah }) b).hi
plain_number al ah b p q r = number_times al ah b (plain_product ah b).lo (plain_product ah b).hi p q r (low_fits ah b) (mul-fits binary64 ah b) (plain_times ah b q r)

-- for c of any size that does not overflow
pub plain_madd : (a b c : Float) (j : ℕ) → Good a 1474 → Good b 1474 → Good c j → 1876 ≤ j → j + 5 < 2098 → Madd a b c (plain_multiply_add a b c) j
plain_madd a b c j p q r least most = madd_sharp a b c (plain_product a b).lo (plain_product a b).hi j p q r (low_fits a b) (mul-fits binary64 a b) (plain_times a b p q) least most

pub plain_meaning : Meaning plain_ops
plain_meaning = record {
  product = λ s a b p q. plain_product_lem a b (operand_good a p) (operand_good b q);
  pair_times_pair = λ s a b p q r t. plain_pairs a.lo a.hi b.lo b.hi (operand_good a.lo p) (operand_good a.hi q) (operand_good b.lo r) (operand_good b.hi t);
  pair_times_number = λ s a b p q r. plain_number a.lo a.hi b (operand_good a.lo p) (operand_good a.hi q) (operand_good b r);
  multiply_add = λ s a b c p q r.
      madd_means a b c (plain_multiply_add a b c) 1876
      (plain_madd a b c 1876 (operand_good a p) (operand_good b q) (good_up c 1474 1876 (lit≤ tt) (operand_good c r)) (lit≤ tt) (lit< tt));
}

pub plain_exact : (a b : Float) → Operand a → Operand b → Settled a b → fine (val (plain_product a b).hi +ℤ val (plain_product a b).lo) ≡ val a *ℤ val b
plain_exact a b p q s = (plain_times a b (operand_good a p) (operand_good b q)).exact (settled (val a) (val b) s)
