-- What an arithmetic means, and what IEEE 754 operations give, as relations between exact numbers. Assumes nothing.
use Rattle.std.proofs.Common.{◌≡◌, ℕ, zero, suc, ◌+◌, ◌*◌, ◌^◌, ◌<◌, ◌≤◌, ℤ, pos, ◌+ℤ◌, ◌-ℤ◌, ◌*ℤ◌, nat_abs, sym, refl, ap, ◌∙◌, subst, mul_comm, mul-pos, arith, lit<, pow_pos}
use Rattle.std.proofs.Math.IntN.{+ℤ_idr, +ℤ_comm}
use lib.Ieee.{Float, binary64, add, sub, mul}
use Rattle.ieee.specs.Val.{val, rq}
use Rattle.ieee.specs.Pairs.{Good, SumOf}
use Rattle.ieee.specs.Meaning.{Operand, ProductMeans, PairsMean, NumberMeans, MaddMeans, fine}
use Rattle.ieee.proofs.Ints.{zs, abs_mul, massoc}
use Rattle.ieee.proofs.Fractions.{rq_error}
use Rattle.ieee.proofs.Floats.{good_add, good_sub}
use Rattle.ieee.proofs.Products.{good_times}
use Rattle.ieee.proofs.Highs.{good_operand}
use Rattle.ieee.proofs.PairTimes.{rz_error}
use Rattle.bounds.specs.Num.{Q, ◌⊕◌, ◌⊗◌, mag, tiny, Within}
use Rattle.bounds.specs.Steps.{Pair, PairMul, ExactAdd, Fma, Rounded}
use Rattle.bounds.specs.Floats.{pair_of, single, exactly, minus, units}
use Rattle.bounds.proofs.Over.{Over, over_units, over_tiny, over_zero, over_minus, over_add, over_mul, over_mag, over_scale, within_over, same_over, scaled_abs}

-- ---- the bounds between integers, brought to one unit; l is 2 ^ 1074, kept a variable since omega refuses large numerals
-- |x l m - y m| = m |x l - y|
scaled : (x y : ℤ) (l m : ℕ) → nat_abs (x *ℤ pos (l * m) -ℤ y *ℤ pos m) ≡ m * nat_abs (x *ℤ pos l -ℤ y)
scaled x y l m = ap (λ (z : ℤ). nat_abs (z -ℤ y *ℤ pos m)) (sym (massoc x (pos l) (pos m))) ∙ scaled_abs (x *ℤ pos l) y m ∙ mul_comm (nat_abs (x *ℤ pos l -ℤ y)) m

half₀ : (s z : ℤ) (l : ℕ) → 2 ^ 53 * nat_abs (s *ℤ pos l -ℤ z) ≤ nat_abs z + 2 ^ 52 * l → nat_abs (s *ℤ pos (l * 2 ^ 53) -ℤ z *ℤ pos (2 ^ 53)) ≤ 1 * nat_abs z + 1 * (2 ^ 52 * l)
half₀ s z l h = rw (scaled s z l (2 ^ 53)) (omega (arith, h))

-- s is z / 2 ^ 1074 rounded: the error is 2 ^ -53 of it and half a unit, 2 ^ -1075
pub nearest_within : (s z : ℤ) (a b : Q) → Over a s (2 ^ 1074) → Over b z (2 ^ 1074 * 2 ^ 1074) → s ≡ rq z (2 ^ 1074) → Within a b (tiny 53 ⊗ mag b ⊕ tiny 1075)
nearest_within s z a b A B e =
    within_over {x = s *ℤ pos (2 ^ 1074 * 2 ^ 53)} {y = z *ℤ pos (2 ^ 53)} {e = 1 * nat_abs z + 1 * (2 ^ 52 * 2 ^ 1074)} {k = 2 ^ 2201} (pow_pos 2201)
    (over_scale (2 ^ 1074 * 2 ^ 53) refl A) (over_scale (2 ^ 53) refl B) (over_add (over_mul (over_tiny 53) (over_mag B)) (over_scale (2 ^ 52 * 2 ^ 1074) refl (over_tiny 1075)))
    (half₀ s z (2 ^ 1074) (subst (λ (t : ℤ). 2 ^ 53 * nat_abs (t *ℤ pos (2 ^ 1074) -ℤ z) ≤ nat_abs z + 2 ^ 52 * 2 ^ 1074) (sym e) (rq_error z (2 ^ 1074) (pow_pos 1074))))

-- s and z over one k, and s within 2 ^ -53 of z: no half unit
pub rounded_within : (s z : ℤ) (a b : Q) (k : ℕ) → zero < k → Over a s k → Over b z k → 2 ^ 53 * nat_abs (s -ℤ z) ≤ nat_abs z → Within a b (tiny 53 ⊗ mag b)
rounded_within s z a b k K A B h =
    within_over {x = s *ℤ pos (2 ^ 53)} {y = z *ℤ pos (2 ^ 53)} {e = 1 * nat_abs z} {k = 2 ^ 53 * k} (mul-pos (pow_pos 53) K)
    (over_scale (2 ^ 53) (mul_comm k (2 ^ 53)) A) (over_scale (2 ^ 53) (mul_comm k (2 ^ 53)) B) (over_mul (over_tiny 53) (over_mag B))
    (rw (scaled_abs s z (2 ^ 53)) (omega (arith, h)))

pairs₀ : (x y : ℤ) (l p q r s : ℕ) → 2 ^ 104 * nat_abs (x *ℤ pos l -ℤ y) ≤ 2 ^ 104 * p + 2 ^ 54 * (q + r) + s + 2 ^ 108 * l
    → nat_abs (x *ℤ pos (l * 2 ^ 104) -ℤ y *ℤ pos (2 ^ 104)) ≤ p * 2 ^ 104 + 1 * (q + r) * 2 ^ 54 + 1 * s + 1 * (2 ^ 108 * l)
pairs₀ x y l p q r s h = rw (scaled x y l (2 ^ 104)) (omega (arith, h))

-- pair times pair, where each part is an integer over 2 ^ 1074; a zero part too, so it serves for numbers
pub pair_mul : (al ah bl bh lo hi : ℤ) (a b : Pair) → Over a.lo al (2 ^ 1074) → Over a.hi ah (2 ^ 1074) → Over b.lo bl (2 ^ 1074) → Over b.hi bh (2 ^ 1074) → hi ≡ rq (ah *ℤ bh) (2 ^ 1074)
    → 2 ^ 104 * nat_abs (fine (hi +ℤ lo) -ℤ (ah +ℤ al) *ℤ (bh +ℤ bl)) ≤ 2 ^ 104 * nat_abs (al *ℤ bl) + 2 ^ 54 * (nat_abs (ah *ℤ bl) + nat_abs (al *ℤ bh)) + nat_abs (ah *ℤ bh) + 2 ^ 108 * 2 ^ 1074
    → PairMul a b (record { hi = units hi; lo = units lo })
pair_mul al ah bl bh lo hi a b A A' B B' e h = record {
  hi = nearest_within hi (ah *ℤ bh) (units hi) (a.hi ⊗ b.hi) (over_units hi) (over_mul A' B') e;
  near = within_over {x = (hi +ℤ lo) *ℤ pos (2 ^ 1074 * 2 ^ 104)} {y = (ah +ℤ al) *ℤ (bh +ℤ bl) *ℤ pos (2 ^ 104)}
      {e = nat_abs (al *ℤ bl) * 2 ^ 104 + 1 * (nat_abs (ah *ℤ bl) + nat_abs (al *ℤ bh)) * 2 ^ 54 + 1 * nat_abs (ah *ℤ bh) + 1 * (2 ^ 108 * 2 ^ 1074)} {k = 2 ^ 2252} (pow_pos 2252)
      (over_scale (2 ^ 1074 * 2 ^ 104) refl (over_add (over_units hi) (over_units lo)))
      (over_scale (2 ^ 104) refl (over_mul (over_add A' A) (over_add B' B)))
      (over_add (over_add (over_add (over_scale (2 ^ 104) refl (over_mag (over_mul A B)))
      (over_scale (2 ^ 54) refl (over_mul (over_tiny 50) (over_add (over_mag (over_mul A' B)) (over_mag (over_mul A B'))))))
      (over_mul (over_tiny 104) (over_mag (over_mul A' B')))) (over_scale (2 ^ 108 * 2 ^ 1074) refl (over_tiny 1070)))
      (pairs₀ (hi +ℤ lo) ((ah +ℤ al) *ℤ (bh +ℤ bl)) (2 ^ 1074) (nat_abs (al *ℤ bl)) (nat_abs (ah *ℤ bl)) (nat_abs (al *ℤ bh)) (nat_abs (ah *ℤ bh)) h);
}

-- a number is a pair with a zero
number₀ : (al ah b x : ℤ) (l : ℕ) → 2 ^ 104 * nat_abs (x -ℤ (ah +ℤ al) *ℤ b) ≤ 2 ^ 54 * nat_abs (al *ℤ b) + nat_abs (ah *ℤ b) + 2 ^ 108 * l
    → 2 ^ 104 * nat_abs (x -ℤ (ah +ℤ al) *ℤ (b +ℤ pos 0)) ≤ 2 ^ 104 * nat_abs (al *ℤ pos 0) + 2 ^ 54 * (nat_abs (ah *ℤ pos 0) + nat_abs (al *ℤ b)) + nat_abs (ah *ℤ b) + 2 ^ 108 * l
number₀ al ah b x l h = rw (+ℤ_idr b) (omega (arith, h))

product₀ : (a b x : ℤ) (l : ℕ) → 2 ^ 104 * nat_abs (x -ℤ a *ℤ b) ≤ nat_abs (a *ℤ b) + 2 ^ 108 * l → 2 ^ 104 * nat_abs (x -ℤ (a +ℤ pos 0) *ℤ b) ≤ 2 ^ 54 * nat_abs (pos 0 *ℤ b) + nat_abs (a *ℤ b) + 2 ^ 108 * l
product₀ a b x l h = rw (+ℤ_idr a) (omega (arith, h))

-- multiply-add: p is a b, and c is in its units
madd₀ : (r p c : ℤ) (l : ℕ) → 2 ^ 103 * nat_abs (r *ℤ pos l -ℤ (p +ℤ c)) ≤ 2 ^ 50 * nat_abs (p +ℤ c) + (nat_abs p + nat_abs c) + 2 ^ 107 * l
    → nat_abs (r *ℤ pos (l * 2 ^ 103) -ℤ (c +ℤ p) *ℤ pos (2 ^ 103)) ≤ 1 * nat_abs (c +ℤ p) * 2 ^ 50 + 1 * (nat_abs p + nat_abs c) + 1 * (2 ^ 107 * l)
madd₀ r p c l h = rw (+ℤ_comm c p, scaled r (p +ℤ c) l (2 ^ 103)) (omega (arith, h))

-- the low part of an exact sum is the rounding's error
low₀ : (hi lo z : ℤ) → hi +ℤ lo ≡ z → 2 ^ 53 * nat_abs (hi -ℤ z) ≤ nat_abs z → nat_abs (lo *ℤ pos (2 ^ 53) -ℤ pos 0) ≤ 1 * nat_abs z
low₀ hi lo z e h = rw (+ℤ_idr (lo *ℤ pos (2 ^ 53)), abs_mul lo (pos (2 ^ 53))) (go (nat_abs lo) (nat_abs (hi -ℤ z)) (nat_abs z) (omega (zs, e)) h)
  where
    go : (n d m : ℕ) → n ≡ d → 2 ^ 53 * d ≤ m → n * 2 ^ 53 ≤ 1 * m
    go n d m e h = omega arith

pub pairs_mean : (al ah bl bh lo hi : Float) → PairsMean al ah bl bh lo hi → PairMul (pair_of al ah) (pair_of bl bh) (pair_of lo hi)
pairs_mean al ah bl bh lo hi m =
    pair_mul (val al) (val ah) (val bl) (val bh) (val lo) (val hi) (pair_of al ah) (pair_of bl bh) (over_units (val al)) (over_units (val ah)) (over_units (val bl)) (over_units (val bh)) m.nearest m.within

pub number_means : (al ah b lo hi : Float) → NumberMeans al ah b lo hi → PairMul (pair_of al ah) (single b) (pair_of lo hi)
number_means al ah b lo hi m =
    pair_mul (val al) (val ah) (pos 0) (val b) (val lo) (val hi) (pair_of al ah) (single b) (over_units (val al)) (over_units (val ah)) (over_zero (2 ^ 1074)) (over_units (val b)) m.nearest
    (number₀ (val al) (val ah) (val b) (fine (val hi +ℤ val lo)) (2 ^ 1074) m.within)

pub product_means : (a b lo hi : Float) → ProductMeans a b lo hi → PairMul (single a) (single b) (pair_of lo hi)
product_means a b lo hi m =
    pair_mul (pos 0) (val a) (pos 0) (val b) (val lo) (val hi) (single a) (single b) (over_zero (2 ^ 1074)) (over_units (val a)) (over_zero (2 ^ 1074)) (over_units (val b)) m.nearest
    (number₀ (pos 0) (val a) (val b) (fine (val hi +ℤ val lo)) (2 ^ 1074) (product₀ (val a) (val b) (fine (val hi +ℤ val lo)) (2 ^ 1074) m.within))

pub madd_means : (a b c r : Float) → MaddMeans a b c r → Fma (exactly a) (exactly b) (exactly c) (exactly r)
madd_means a b c r m =
    let A = over_units (val a) in
    let B = over_units (val b) in
    let C = over_scale (2 ^ 1074) {l = 2 ^ 1074 * 2 ^ 1074} refl (over_units (val c)) in
    let S = over_add C (over_mul A B) in
    record {
      near = within_over {x = val r *ℤ pos (2 ^ 1074 * 2 ^ 103)} {y = (fine (val c) +ℤ val a *ℤ val b) *ℤ pos (2 ^ 103)}
          {e = 1 * nat_abs (fine (val c) +ℤ val a *ℤ val b) * 2 ^ 50 + 1 * (nat_abs (val a *ℤ val b) + nat_abs (fine (val c))) + 1 * (2 ^ 107 * 2 ^ 1074)} {k = 2 ^ 2251} (pow_pos 2251)
          (over_scale (2 ^ 1074 * 2 ^ 103) refl (over_units (val r))) (over_scale (2 ^ 103) refl S)
          (over_add (over_add (over_scale (2 ^ 50) refl (over_mul (over_tiny 53) (over_mag S))) (over_mul (over_tiny 103) (over_add (over_mag (over_mul A B)) (over_mag C)))) (over_scale (2 ^ 107 * 2 ^ 1074) refl (over_tiny 1070)))
          (madd₀ (val r) (val a *ℤ val b) (fine (val c)) (2 ^ 1074) m.within);
    }

pub sum_means : (x y : Float) (j : ℕ) → Good x j → Good y j → suc j < 2098 → Rounded (exactly (add binary64 x y)) (exactly x ⊕ exactly y)
sum_means x y j p q h = record {
  near = rounded_within (val (add binary64 x y)) (val x +ℤ val y) (exactly (add binary64 x y)) (exactly x ⊕ exactly y) (2 ^ 1074) (pow_pos 1074)
      (over_units (val (add binary64 x y))) (over_add (over_units (val x)) (over_units (val y))) (rz_error (val (add binary64 x y)) (val x +ℤ val y) (good_add x y j p q h).1);
}

-- x - y, for a negated y as an exact number
pub difference_means : (x y : Float) (j : ℕ) → Good x j → Good y j → suc j < 2098 → Rounded (exactly (sub binary64 x y)) (exactly x ⊕ minus (exactly y))
difference_means x y j p q h = record {
  near = rounded_within (val (sub binary64 x y)) (val x -ℤ val y) (exactly (sub binary64 x y)) (exactly x ⊕ minus (exactly y)) (2 ^ 1074) (pow_pos 1074)
      (over_units (val (sub binary64 x y))) (over_add (over_units (val x)) (over_minus (over_units (val y)))) (rz_error (val (sub binary64 x y)) (val x -ℤ val y) (good_sub x y j p q h).1);
}

pub product_rounds : (x y : Float) → Operand x → Operand y → Within (exactly (mul binary64 x y)) (exactly x ⊗ exactly y) (tiny 53 ⊗ mag (exactly x ⊗ exactly y) ⊕ tiny 1075)
product_rounds x y p q =
    nearest_within (val (mul binary64 x y)) (val x *ℤ val y) (exactly (mul binary64 x y)) (exactly x ⊗ exactly y) (over_units (val (mul binary64 x y))) (over_mul (over_units (val x)) (over_units (val y)))
    (good_times x y 1474 1474 1874 (good_operand x p) (good_operand y q) refl (lit< tt)).1

pub exact_sum : (a b lo hi : Float) → SumOf a b lo hi → ExactAdd (exactly a) (exactly b) (pair_of lo hi)
exact_sum a b lo hi s =
    let S = over_add (over_units (val a)) (over_units (val b)) in
    record {
      sum = same_over {x = val a +ℤ val b} (pow_pos 1074) (subst (λ (z : ℤ). Over (exactly hi ⊕ exactly lo) z (2 ^ 1074)) s.exact (over_add (over_units (val hi)) (over_units (val lo)))) S;
      lo = within_over {x = val lo *ℤ pos (2 ^ 53)} {y = pos 0} {e = 1 * nat_abs (val a +ℤ val b)} {k = 2 ^ 53 * 2 ^ 1074} (pow_pos 1127)
          (over_scale (2 ^ 53) refl (over_units (val lo))) (over_zero (2 ^ 53 * 2 ^ 1074)) (over_mul (over_tiny 53) (over_mag S))
          (low₀ (val hi) (val lo) (val a +ℤ val b) s.exact (rz_error (val hi) (val a +ℤ val b) s.nearest));
    }
