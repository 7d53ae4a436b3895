-- The fast exponential of -x², over every arithmetic with the meaning. Assumes nothing.
use Rattle.std.proofs.Common.{◌≡◌, ℕ, suc, ◌-◌, ◌*◌, ◌/◌, ◌%◌, ◌^◌, ◌<◌, ◌≤◌, ℤ, negsuc, sym, refl, subst, arith, lit≤}
use lib.Ieee.{Float, binary64, of_bits, of_int, mul, neg, to_signed}
use Rattle.ieee.specs.Whole.{Whole}
use Rattle.ieee.specs.Meaning.{Operand, ProductMeans}
use Rattle.double_double.specs.declared.double_double.DoubleDouble.{DoubleDouble}
use Rattle.double_double.specs.Ops.{Ops, Meaning}
use Rattle.double_double.specs.Pairs.{negated}
use Rattle.tables.specs.Exp.{reduce0, reduce1}
use Rattle.erfc.specs.Rows.{Argument, fast_end}
use Rattle.erfc.specs.Scaling.{power}
use Rattle.erfc.specs.Exponentials.{log2_pair, multiple, multiple_int, reduced_indices, reduced_argument, q1, exp1}
use Rattle.erfc.proofs.Tail.{operand, square_is, fast_whole}
use Rattle.erfc.proofs.Casts.{cast_is}
use Rattle.bounds.specs.Num.{Q, ◌⊗◌, Same}
use Rattle.bounds.specs.Floats.{exactly, minus, pair_of}
use Rattle.bounds.specs.Formulas.{integer, sum_of, residue, exponential}
use Rattle.bounds.specs.FastExps.{FastExp}
use Rattle.bounds.proofs.Scale.{Least, whole_size, whole_least}
use Rattle.bounds.proofs.Chain.{G, Abs}
use Rattle.bounds.proofs.Sizes.{known, sized_operand}
use Rattle.bounds.proofs.FromMeaning.{number_means}
use Rattle.bounds.proofs.ExpWhole.{neg_number, abs_minus}
use Rattle.bounds.proofs.Multiples.{whole_same, whole_operand}
use Rattle.bounds.proofs.WholeReciprocal.{to_tail}
use Rattle.bounds.proofs.ExpArg.{argument_size, argument_near, high_near, d_low, d_high, d_size, d_near, negated_near, negated_high, negated_low, step_parts}
use Rattle.bounds.proofs.Loop.{Holds}
use Rattle.bounds.proofs.ExpPoly.{reduced_bounds, q1_near}
use Rattle.bounds.proofs.ExpTables.{entry_0, entry_1}
use Rattle.bounds.proofs.ExpProduct.{product_near_exact}
use Rattle.bounds.proofs.ExpScale.{Between, scaled}

-- ---- the constants as operands
low_operand : Operand log2_pair.lo
unfolding of_bits
low_operand = sized_operand log2_pair.lo (known 0x3bbabc9e3b39803f tt) step_parts.lo tt

high_operand : Operand log2_pair.hi
unfolding of_bits
high_operand = sized_operand log2_pair.hi (known 0x3f262e42fefa39ef tt) step_parts.hi tt

-- ---- the multiple k = -(n + 1)
module _ (n : ℕ) (low : 49000 ≤ suc n) (high : suc n ≤ 4000000) where
  abbrev k : Q
  k = integer (negsuc n)

  k_size : Abs k (4000000 * 2 ^ 256)
  k_size = abs_minus (whole_size (suc n) 4000000 high)

  k_least : Least G (minus k) (49000 * 2 ^ 256)
  k_least = whole_least (suc n) 49000 low

  k_same : Same (exactly (of_int binary64 (negsuc n))) k
  k_same = whole_same (negsuc n) (omega arith)

  k_operand : Operand (of_int binary64 (negsuc n))
  k_operand = whole_operand (negsuc n) (omega arith)

  exponent : n / 4096 ≤ 976
  exponent = omega arith

  index_0 : 64 - 1 - n / 64 % 64 < 64
  index_0 = omega arith

  index_1 : 64 - 1 - n % 64 < 64
  index_1 = omega arith

-- the pair is near E(x), and E(x) is neither too small nor too large
pub record SizedExp (x : Float) (k : ℤ) (e : DoubleDouble) : Type 0 where
  pub fast : FastExp x k e
  pub between : Between (exponential x k)

module _ {S : Type 0} (o : Ops S) (m : Meaning o) where
  -- exp1 with the multiple f as a float and j as an integer
  abbrev steps : S → Float → ℤ → DoubleDouble → DoubleDouble
  steps t f j x =
      let r = reduced_indices j in
      let y = reduced_argument o t f x in
      let w = o.pair_times_pair y.0 (reduce1 r.2) (reduce0 r.1) in
      let q = q1 o w.0 y.1 in
      let v = o.pair_times_pair q.0 w.1 q.1 in
      record { lo = mul binary64 v.1.lo (power r.0); hi = mul binary64 v.1.hi (power r.0) }

  module _ (t : S) (x : Float) (xs : Abs (exactly x) (2 ^ 261)) (l h : Float) (U : ProductMeans x x l h) (n : ℕ) (low : 49000 ≤ suc n) (high : suc n ≤ 4000000) (e : multiple (neg h) ≡ of_int binary64 (negsuc n)) where
    abbrev f : Float
    f = of_int binary64 (negsuc n)

    abbrev d : DoubleDouble
    d = (o.pair_times_number t log2_pair f).1

    reduced : Holds reduced_bounds (reduced_argument o t f (record { lo = neg l; hi = neg h })).1 (residue x (negsuc n))
    reduced =
        let D = m.pair_times_number t log2_pair f low_operand high_operand (k_operand n low high) in
        let M = number_means log2_pair.lo log2_pair.hi f d.lo d.hi D in
        let ks = k_size n low high in
        let K = k_same n low high in
        let hs = negated_high x xs l h U in
        argument_near (neg h) (neg l) d.hi d.lo (neg_number U.high) (neg_number U.low) D.high D.low hs (negated_low x xs l h U) (k n low high) (k_least n low high)
        (high_near (neg h) (sized_operand (neg h) (neg_number U.high) hs tt) hs (k n low high) (subst (λ (z : Float). Same (exactly z) (k n low high)) (sym e) K))
        (d_high f (k n low high) ks K (pair_of d.lo d.hi) M) (d_size f (k n low high) ks K (pair_of d.lo d.hi) M) (d_low f (k n low high) ks K (pair_of d.lo d.hi) M)
        (minus (exactly x ⊗ exactly x)) (integer (negsuc n) ⊗ sum_of log2_pair) (negated_near x xs l h U) (d_near f (k n low high) ks K (pair_of d.lo d.hi) M)

    near_steps : SizedExp x (negsuc n) (steps t f (negsuc n) (record { lo = neg l; hi = neg h }))
    near_steps =
        let a = reduced_argument o t f (record { lo = neg l; hi = neg h }) in
        let y = a.1 in
        let w = residue x (negsuc n) in
        let i = index_1 n low high in
        let j = index_0 n low high in
        let T1 = reduce1 (64 - 1 - n % 64) in
        let T0 = reduce0 (64 - 1 - n / 64 % 64) in
        let p = o.pair_times_pair a.0 T1 T0 in
        let q = q1 o p.0 y in
        let Q = q1_near o m p.0 y w reduced in
        let P = product_near_exact o m a.0 q.0 T1 T0 q.1 w (entry_1 (64 - 1 - n % 64) i) (entry_0 (64 - 1 - n / 64 % 64) j) Q in
        let Z = scaled (n / 4096) (exponent n low high) (o.pair_times_pair q.0 p.1 q.1).1 (sum_of T0) (sum_of T1) _ P in
        record { fast = record { low = Z.low; high = Z.high; near = Z.near; low_small = Z.low_small }; between = Z.between }

  -- the same with the multiple as exp1 computes it; t is any state
  pub exponential_sized : (s t : S) (x : Float) → Argument x fast_end → SizedExp x (multiple_int (neg (mul binary64 x x))) (exp1 o t (negated (o.product s x x).1)).1
  unfolding exp1
  exponential_sized s t x a =
      let u = (o.product s x x).1 in
      let X = operand x fast_end a (lit≤ tt) in
      let f = multiple (neg u.hi) in
      let r : neg u.hi ≡ neg (mul binary64 x x) = square_is o m s (o.product s x x).0 u (negated u) x fast_end a (lit≤ tt) refl refl in
      let w : Whole f 49000 4000000 = fast_whole o m s (o.product s x x).0 u (negated u) x a refl refl in
      let c : to_signed 63 f ≡ negsuc w.n = cast_is f 48999 3999999 63 w (lit≤ tt) (lit≤ tt) in
      subst (λ (z : Float). SizedExp x (multiple_int z) (exp1 o t (negated u)).1) {x = neg u.hi} {y = neg (mul binary64 x x)} r
      (subst (λ (j : ℤ). SizedExp x j (steps t f j (negated u))) {x = negsuc w.n} {y = to_signed 63 f} (sym c)
      (subst (λ (z : Float). SizedExp x (negsuc w.n) (steps t z (negsuc w.n) (negated u))) {x = of_int binary64 (negsuc w.n)} {y = f} (sym w.is)
      (near_steps t x (argument_size x (to_tail a)) u.lo u.hi (m.product s x x X X) w.n w.least w.most w.is)))
