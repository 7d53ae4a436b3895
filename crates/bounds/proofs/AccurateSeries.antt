-- The accurate exponential's polynomial at a pair near w: how far it is from the exact series S(w), and its size. Assumes nothing.
use Rattle.std.proofs.Common.{ℕ, ◌+◌, ◌*◌, ◌^◌, Bool, false, T, List, [], ◌∷◌, arith}
use lib.Ieee.{Float, of_bits}
use lib.Ieee.Scale.{finite}
use Rattle.ieee.specs.Meaning.{Number}
use Rattle.double_double.specs.declared.double_double.DoubleDouble.{DoubleDouble}
use Rattle.double_double.specs.Ops.{Ops, Meaning}
use Rattle.tables.specs.Erfc.{exp_numbers, exp_number}
use Rattle.erfc.specs.Horner.{horner}
use Rattle.erfc.specs.Exponentials.{upper_term, lower_term, leading_degrees}
use Rattle.bounds.specs.Num.{Q, ◌⊗◌}
use Rattle.bounds.specs.Steps.{PairMul, Fma}
use Rattle.bounds.specs.Floats.{single, exactly}
use Rattle.bounds.specs.Formulas.{sum_of, polynomial}
use Rattle.bounds.specs.Polynomials.{singles_of}
use Rattle.bounds.specs.AccurateFormulas.{series_coefficients}
use Rattle.bounds.proofs.Near.{abs_add, abs_near, near_add, near_refl, near_sym}
use Rattle.bounds.proofs.Computed.{kept, product_size}
use Rattle.bounds.proofs.Near as N
use Rattle.bounds.proofs.Computed as Comp
use Rattle.bounds.proofs.Chain as C
use Rattle.bounds.proofs.Chain.{G, G>0, Near, Parts, mul_g, shr, ◌then◌, one_plus, product_near, no_size, spread, grouped, value_size, pair_near, pair_parts, pair_e, high_e}
use Rattle.bounds.proofs.FromMeaning.{madd_means, product_means}
use Rattle.bounds.proofs.Loop.{State, pair, Holds, One, Rule, above, modest, operand, added, safe, added_holds, head, head_one, fma_state, madd_one, ready, bounds_of, tests, loop_holds, leading, leading_one}
use Rattle.bounds.proofs.Sizes.{known}
use Rattle.bounds.proofs.Rules.{conj, pick, adds_one, adds_both}
use Rattle.bounds.proofs.FromBelow.{fine, bounds_hold}
use Rattle.bounds.proofs.AtScale.{At}

-- at the scale 2 ^ 256, what is known of the reduced argument: |hi| and |w| at most 0.3477, |lo| at most 2 ^ -53, the pair within 2 ^ -93 of w
abbrev pub argument_bounds : State
argument_bounds = record { high = 89 * 2 ^ 248; low = 2 ^ 203; error = 2 ^ 163; size = 89 * 2 ^ 248 }

-- what is shown of the series: hi and S(w) below 1.5, lo at most 2 ^ -46, the pair within 2 ^ -90 of S(w)
abbrev pub series_bounds : State
series_bounds = record { high = 3 * 2 ^ 255; low = 2 ^ 210; error = 2 ^ 166; size = 3 * 2 ^ 255 }

-- and S(w) at least 1/2
abbrev pub SeriesNear : DoubleDouble → Q → Type 0
SeriesNear e X = At G G>0 e X series_bounds.high series_bounds.low series_bounds.error series_bounds.size (2 ^ 255)

-- ---- a number times a pair, in two steps: the product t with the high part, then the low part added to the low part of t
-- the pair t is off by as much
abbrev product_lost : State → State → ℕ
product_lost S A = pair_e S.high 0 A.high 0 + (mul_g 0 (A.high + 0) + mul_g 0 S.high)

-- its low part
abbrev product_low : State → State → ℕ
product_low S A = product_lost S A + high_e S.high A.high

-- the rounding of the second step
abbrev low_lost : State → State → ℕ
low_lost S A = shr (product_low S A + mul_g S.high A.low) 53 + shr (mul_g S.high A.low + product_low S A) 103 + 1

abbrev two_steps : State → State → State
two_steps S A = record {
  high = mul_g S.high A.high + high_e S.high A.high;
  low = product_low S A + mul_g S.high A.low + low_lost S A;
  error = low_lost S A + (product_lost S A + (mul_g S.error (A.high + A.low) + mul_g A.error S.size));
  size = mul_g S.size A.size;
}

-- the parts of t
product_parts : {S A : State} {c : Float} {y : DoubleDouble} (t : DoubleDouble) {Z W : Q} → One S c Z → Holds A y W → PairMul (single c) (single y.hi) (pair t) → Parts (pair t) (mul_g S.high A.high + high_e S.high A.high) (product_low S A)
product_parts t h k m = pair_parts (record { hi = h.high; lo = no_size }) (record { hi = k.parts.hi; lo = no_size }) m

-- t near_refl
exact_product : {S A : State} {c : Float} {y : DoubleDouble} (t : DoubleDouble) {Z W : Q} → One S c Z → Holds A y W → PairMul (single c) (single y.hi) (pair t) → Near (sum_of t) (exactly c ⊗ exactly y.hi) (product_lost S A)
exact_product {S} {A} {c} {y} t h k m =
    let P : Parts (single c) S.high 0 = record { hi = h.high; lo = no_size } in
    let R : Parts (single y.hi) A.high 0 = record { hi = k.parts.hi; lo = no_size } in
    pair_near P R m then product_near (kept (exactly c) no_size) (value_size R) (kept (exactly y.hi) no_size) h.high

two_steps_hold : {S A : State} (c : Float) (y t : DoubleDouble) (l : Float) {Z W : Q} → One S c Z → Holds A y W
    → PairMul (single c) (single y.hi) (pair t) → Fma (exactly c) (exactly y.lo) (exactly t.lo) (exactly l) → Number l → Number t.hi
    → Holds (two_steps S A) (record { lo = l; hi = t.hi }) (Z ⊗ W)
two_steps_hold {S} {A} c y t l h k m f nl nh =
    let p = product_parts t h k m in
    let r = C.fma_near h.high k.parts.lo p.lo f in
    let cl = exactly c ⊗ exactly y.lo in
    record {
      lo_number = nl;
      hi_number = nh;
      parts = record { hi = p.hi; lo = abs_near (abs_add p.lo (product_size h.high k.parts.lo)) (near_sym r) };
      near = N.near_weaken (omega arith)
          (one_plus (exactly t.hi) r then near_sym (grouped (exactly t.hi) (exactly t.lo) cl)
          then near_add (exact_product t h k m) (near_refl cl) then spread (exactly c) (exactly y.hi) (exactly y.lo)
          then product_near h.near (value_size k.parts) k.near h.size);
      size = product_size h.size k.size;
    }

-- ---- the rules of the two loops
abbrev upper_rule : Rule upper_term
upper_rule = adds_one false exp_numbers 16

abbrev lower_rule : Rule lower_term
lower_rule = adds_both false exp_numbers

-- ---- the bounds, for y with the bounds A
abbrev degree18 : State → State
degree18 A = fma_state (leading (exp_number 27)) (head A) (exp_number 26)

abbrev degree17 : State → State
degree17 A = fma_state (degree18 A) (head A) (exp_number 25)

abbrev degree16 : State → State
degree16 A = fma_state (degree17 A) (head A) (exp_number 24)

abbrev degree15 : State → State
degree15 A = added (two_steps (degree16 A) A) (exp_number 23)

abbrev degree8 : State → State
degree8 A = bounds_of upper_rule A 7 (degree15 A)

abbrev degree0 : State → State
degree0 A = bounds_of lower_rule A 8 (degree8 A)

abbrev leading_tests : State → List Bool
leading_tests A =
    ready A ∷ finite (exp_number 27) ∷ modest (above (exp_number 27)) ∷ finite (exp_number 26) ∷ modest (above (exp_number 26)) ∷ finite (exp_number 25) ∷ modest (above (exp_number 25)) ∷ finite (exp_number 24) ∷ modest (above (exp_number 24)) ∷
    modest (degree18 A).high ∷ modest (degree17 A).high ∷ modest (degree16 A).high ∷ modest (product_low (degree16 A) A) ∷ finite (exp_number 23) ∷ safe false (two_steps (degree16 A) A) (exp_number 23) ∷ []

abbrev loop_tests : State → List Bool
loop_tests A = ready A ∷ conj (leading_tests A) ∷ tests upper_rule A 7 (degree15 A) ∷ tests lower_rule A 8 (degree8 A) ∷ []

-- ---- all that is computed
loop_passes : T (conj (loop_tests argument_bounds))
unfolding of_bits
loop_passes = tt

series_fine : T (fine series_bounds (2 ^ 255) (degree0 argument_bounds) argument_bounds.size series_coefficients)
unfolding of_bits
series_fine = tt

module _ {S : Type 0} (o : Ops S) (m : Meaning o) where
  leading_holds : (s : S) (A : State) (y : DoubleDouble) (W : Q) → Holds A y W → T (conj (leading_tests A)) → Holds (degree15 A) (leading_degrees o s y).1 (polynomial W (singles_of exp_number 23 5))
  unfolding leading_degrees
  leading_holds s A y W k t =
      let ts = leading_tests A in
      let r = pick 0 ts t in
      let r' = Comp.and_l (modest A.high) (modest A.low) r in
      let h = head_one y k in
      let yh = operand y.hi k.hi_number k.parts.hi r' in
      let yl = operand y.lo k.lo_number k.parts.lo (Comp.and_r (modest A.high) (modest A.low) r) in
      let h₁₉ = leading_one (exp_number 27) W (known _ (pick 1 ts t)) k in
      let a = o.multiply_add s (exp_number 27) y.hi (exp_number 26) in
      let h₁₈ = madd_one o m s (exp_number 26) (exp_number 27) y.hi h₁₉ (pick 2 ts t) h r' (known _ (pick 3 ts t)) (pick 4 ts t) in
      let b = o.multiply_add a.0 a.1 y.hi (exp_number 25) in
      let h₁₇ = madd_one o m a.0 (exp_number 25) a.1 y.hi h₁₈ (pick 9 ts t) h r' (known _ (pick 5 ts t)) (pick 6 ts t) in
      let c = o.multiply_add b.0 b.1 y.hi (exp_number 24) in
      let h₁₆ = madd_one o m b.0 (exp_number 24) b.1 y.hi h₁₇ (pick 10 ts t) h r' (known _ (pick 7 ts t)) (pick 8 ts t) in
      let oc = operand c.1 h₁₆.number h₁₆.high (pick 11 ts t) in
      let p = o.product c.0 c.1 y.hi in
      let wp = m.product c.0 c.1 y.hi oc yh in
      let pm = product_means _ _ _ _ wp in
      let l = o.multiply_add p.0 c.1 y.lo p.1.lo in
      let wl = m.multiply_add p.0 c.1 y.lo p.1.lo oc yl (operand p.1.lo wp.low (product_parts p.1 h₁₆ k pm).lo (pick 12 ts t)) in
      let v : DoubleDouble = record { lo = l.1; hi = p.1.hi } in
      let h₁₅ = two_steps_hold c.1 y p.1 l.1 h₁₆ k pm (madd_means _ _ _ _ wl) wl.answer wp.high in
      added_holds false (two_steps (degree16 A) A) (exp_number 23) v _ (known _ (pick 13 ts t)) h₁₅ (pick 14 ts t)

  abbrev pub series_steps : S → DoubleDouble → S × DoubleDouble
  series_steps s y =
      let v = leading_degrees o s y in
      let w = horner o upper_term y 7 v.0 v.1 in
      horner o lower_term y 8 w.0 w.1

  steps_hold : (s : S) (A : State) (y : DoubleDouble) (W : Q) → Holds A y W → T (conj (loop_tests A)) → Holds (degree0 A) (series_steps s y).1 (polynomial W series_coefficients)
  steps_hold s A y W k t =
      let ts = loop_tests A in
      let v = leading_degrees o s y in
      let w = horner o upper_term y 7 v.0 v.1 in
      let h₁₅ = leading_holds s A y W k (pick 1 ts t) in
      let h₈ = loop_holds o m upper_rule A y W k (pick 0 ts t) 7 v.0 (degree15 A) v.1 (polynomial W (singles_of exp_number 23 5)) h₁₅ (pick 2 ts t) in
      loop_holds o m lower_rule A y W k (pick 0 ts t) 8 w.0 (degree8 A) w.1 (polynomial W (singles_of exp_number 16 12)) h₈ (pick 3 ts t)

  pub series_near : (s : S) (y : DoubleDouble) (w : Q) → Holds argument_bounds y w → SeriesNear (series_steps s y).1 (polynomial w series_coefficients)
  series_near s y w k = bounds_hold series_bounds (2 ^ 255) (degree0 argument_bounds) argument_bounds.size series_coefficients (series_steps s y).1 w (steps_hold s argument_bounds y w k loop_passes) k.size series_fine
