-- q_1, the polynomial of the fast exponential: the pair that it computes for y is within 2 ^ -73 of the exact polynomial at w, for y within 2 ^ -85 of w. Assumes nothing.
use Rattle.std.proofs.Common.{◌+◌, ◌-◌, ◌^◌, Bool, false, T, List, [], ◌∷◌, lit<}
use lib.Ieee.{Float, binary64, of_bits, mul}
use lib.Ieee.Scale.{finite}
use Rattle.ieee.specs.Meaning.{Number}
use Rattle.ieee.proofs.Floats.{good_add}
use Rattle.double_double.specs.declared.double_double.DoubleDouble.{DoubleDouble}
use Rattle.double_double.specs.Ops.{Ops, Meaning}
use Rattle.double_double.specs.Pairs.{fast_two_sum, rounded_sum}
use Rattle.erfc.specs.Exponentials.{q1}
use Rattle.bounds.specs.Num.{Q, ◌⊕◌, ◌⊗◌}
use Rattle.bounds.specs.Floats.{exactly}
use Rattle.bounds.specs.Formulas.{polynomial, exp_coefficients}
use Rattle.bounds.proofs.Near.{abs_add, abs_near, near_sym}
use Rattle.bounds.proofs.Computed.{product_size, size_of}
use Rattle.bounds.proofs.Computed as Comp
use Rattle.bounds.proofs.Chain.{G, G>0, mul_g, shr, ◌then◌, one_plus, product_near, turned, rounded_near, times_near, exact_near}
use Rattle.bounds.proofs.Sizes.{known, one, product_good, good_number}
use Rattle.bounds.proofs.FromMeaning.{sum_means, product_rounds}
use Rattle.bounds.proofs.Loop.{State, Holds, One, above, modest, ready, good, operand, times, rest, added, safe, passed, summed, number_added, turned_holds, leading, leading_one, head, head_one, fma_state, madd_one, times_ready}
use Rattle.bounds.proofs.Rules.{conj, pick}
use Rattle.bounds.proofs.FromBelow.{fine, bounds_hold}
use Rattle.bounds.proofs.AtScale.{At}

-- the coefficients of degree 2 to 4
abbrev f2 : Float
f2 = of_bits binary64 0x3fe0000000000000

abbrev f3 : Float
f3 = of_bits binary64 0x3fc5555555995d37

abbrev f4 : Float
f4 = of_bits binary64 0x3fa55555558489dc

-- what is known of y, at the scale 2 ^ 256
abbrev pub reduced_bounds : State
reduced_bounds = record { high = 2 ^ 243; low = 2 ^ 213; error = 2 ^ 171; size = 2 ^ 244 }

-- what is shown of the polynomial
abbrev q1_bounds : State
q1_bounds = record { high = 2 ^ 256 + 2 ^ 245; low = 2 ^ 214; error = 2 ^ 183; size = 2 ^ 256 + 2 ^ 245 }

-- it is near 1
abbrev pub Q1Near : DoubleDouble → Q → Type 0
Q1Near r w = At G G>0 r (polynomial w exp_coefficients) q1_bounds.high q1_bounds.low q1_bounds.error q1_bounds.size (2 ^ 256 - 2 ^ 245)

-- ---- the parts of a pair added and rounded
abbrev sum_state : State → State
sum_state A = record { high = A.low + A.high + shr (A.low + A.high) 53; low = 0; error = shr (A.low + A.high) 53 + (0 + A.error); size = A.size }

sum_one : {A : State} (y : DoubleDouble) {W : Q} → Holds A y W → T (ready A) → One (sum_state A) (rounded_sum y) W
sum_one {A} y k t =
    let gl = good y.lo k.lo_number k.parts.lo (Comp.and_r (modest A.high) (modest A.low) t) in
    let gh = good y.hi k.hi_number k.parts.hi (Comp.and_l (modest A.high) (modest A.low) t) in
    let g = (good_add y.lo y.hi 1474 gl gh (lit< tt)).0 in
    let s = abs_add k.parts.lo k.parts.hi in
    let r = rounded_near (sum_means y.lo y.hi 1474 gl gh (lit< tt)) s in
    record { number = good_number g; high = abs_near s (near_sym r); near = r then turned (exactly y.lo) (exactly y.hi) then k.near; size = k.size }

-- ---- a product of two numbers, rounded
abbrev product_state : State → State → State
product_state S A = record {
  high = mul_g S.high A.high + (shr (mul_g S.high A.high) 53 + 1);
  low = 0;
  error = shr (mul_g S.high A.high) 53 + 1 + (mul_g S.error A.high + mul_g A.error S.size);
  size = mul_g S.size A.size;
}

product_one : {S A : State} (q x : Float) {Z W : Q} → One S q Z → T (modest S.high) → One A x W → T (modest A.high) → One (product_state S A) (mul binary64 q x) (Z ⊗ W)
product_one q x h t k u =
    let oq = operand q h.number h.high t in
    let ox = operand x k.number k.high u in
    let s = product_size h.high k.high in
    let r = times_near (product_rounds q x oq ox) s in
    record { number = product_good q x oq ox; high = abs_near s (near_sym r); near = r then product_near h.near k.high k.near h.size; size = product_size h.size k.size }

-- ---- c + g, exactly, as a pair
abbrev pair_state : State → Float → State
pair_state V c = record { high = above c + V.high + 0 + rest V c; low = rest V c; error = 0 + V.error; size = above c + V.size }

pair_holds : (V : State) (c g : Float) {X : Q} → Number c → One V g X → T (safe false V c) → Holds (pair_state V c) (fast_two_sum c g) (exactly c ⊕ X)
pair_holds V c g n h t =
    let s = summed false V c g n h.number h.high (passed false V c t) in
    record {
      lo_number = good_number s.lo_good;
      hi_number = s.hi_number;
      parts = record { hi = s.hi_size; lo = s.lo_size };
      near = exact_near s.exact then one_plus (exactly c) h.near;
      size = abs_add (size_of (exactly c)) h.size;
    }

-- ---- the bounds of the steps, and all that is computed
abbrev whole_sum : State
whole_sum = sum_state reduced_bounds

abbrev degree3 : State
degree3 = fma_state (leading f4) (head reduced_bounds) f3

abbrev degree2 : State
degree2 = fma_state degree3 whole_sum f2

abbrev tail : State
tail = product_state degree2 whole_sum

abbrev degree1 : State
degree1 = pair_state tail one

abbrev last : State
last = times reduced_bounds degree1

abbrev step_tests : List Bool
step_tests =
    ready reduced_bounds ∷ finite f4 ∷ modest (above f4) ∷ finite f3 ∷ modest (above f3) ∷ finite f2 ∷ modest (above f2) ∷ finite one ∷
    modest whole_sum.high ∷ modest degree3.high ∷ modest degree2.high ∷ safe false tail one ∷ ready degree1 ∷ safe false last one ∷ []

steps_pass : T (conj step_tests)
unfolding of_bits
steps_pass = tt

q1_fine : T (fine q1_bounds (2 ^ 256 - 2 ^ 245) (added last one) reduced_bounds.size exp_coefficients)
unfolding of_bits
q1_fine = tt

module _ {S : Type 0} (o : Ops S) (m : Meaning o) where
  pub q1_near : (s : S) (y : DoubleDouble) (w : Q) → Holds reduced_bounds y w → Q1Near (q1 o s y).1 w
  unfolding q1
  q1_near s y w k =
      let t = steps_pass in
      let ts = step_tests in
      let r = pick 0 ts t in
      let x = rounded_sum y in
      let z = sum_one y k r in
      let h₄ = leading_one f4 w (known _ (pick 1 ts t)) k in
      let p = o.multiply_add s f4 y.hi f3 in
      let h₃ = madd_one o m s f3 f4 y.hi h₄ (pick 2 ts t) (head_one y k) (Comp.and_l (modest reduced_bounds.high) (modest reduced_bounds.low) r) (known _ (pick 3 ts t)) (pick 4 ts t) in
      let q = o.multiply_add p.0 p.1 x f2 in
      let h₂ = madd_one o m p.0 f2 p.1 x h₃ (pick 9 ts t) z (pick 8 ts t) (known _ (pick 5 ts t)) (pick 6 ts t) in
      let g = product_one q.1 x h₂ (pick 10 ts t) z (pick 8 ts t) in
      let n = known _ (pick 7 ts t) in
      let b = fast_two_sum one (mul binary64 q.1 x) in
      let h₁ = pair_holds tail one (mul binary64 q.1 x) n g (pick 11 ts t) in
      let v = o.pair_times_pair q.0 y b in
      let h = turned_holds w _ (times_ready o m q.0 y b k h₁ r (pick 12 ts t)) in
      bounds_hold q1_bounds (2 ^ 256 - 2 ^ 245) (added last one) reduced_bounds.size exp_coefficients (q1 o s y).1 w (number_added last one v.1 _ n h (pick 13 ts t)) k.size q1_fine
