-- The fast polynomial of a row at a pair near U: how far it is from the exact polynomial at U. Assumes nothing.
use Rattle.std.proofs.Common.{ℕ, Bool, false, T, List, [], ◌∷◌, get_or}
use lib.Ieee.Scale.{finite}
use Rattle.double_double.specs.declared.double_double.DoubleDouble.{DoubleDouble}
use Rattle.double_double.specs.Ops.{Ops, Meaning}
use Rattle.double_double.specs.Pairs.{fast_two_sum}
use Rattle.tables.specs.Erfc.{fast_rows, fast_number}
use Rattle.erfc.specs.Horner.{plus, horner}
use Rattle.erfc.specs.Asymptotics.{fast_term, fast_polynomial}
use Rattle.bounds.specs.Num.{Q}
use Rattle.bounds.specs.Formulas.{polynomial, row_coefficients}
use Rattle.bounds.proofs.Computed as Comp
use Rattle.bounds.proofs.FromMeaning.{number_means}
use Rattle.bounds.proofs.Sizes.{known}
use Rattle.bounds.proofs.Rules.{conj, pick, adds_one}
use Rattle.bounds.proofs.Loop.{State, Holds, Rule, above, modest, times, added, safe, added_holds, added_both, safe_both, both_holds, head, head_one, fma_state, madd_one, times_one, one_holds, ready, operand, times_ready, bounds_of, tests, loop_holds, leading, leading_one}

-- ---- the loop's rule
abbrev fast_rule : (row : ℕ) → Rule (fast_term row)
fast_rule row = adds_one false (get_or fast_rows row []) 2

-- ---- the bounds of a row, for u with the bounds A
abbrev second : ℕ → State → State
second row A = fma_state (leading (fast_number row 12)) (head A) (fast_number row 11)

abbrev third : ℕ → State → State
third row A = fma_state (second row A) (head A) (fast_number row 10)

abbrev fourth : ℕ → State → State
fourth row A = added (times_one (third row A) A) (fast_number row 9)

abbrev eleventh : ℕ → State → State
eleventh row A = bounds_of (fast_rule row) A 7 (fourth row A)

abbrev pub fast_bounds : ℕ → State → State
fast_bounds row A = added_both (times (eleventh row A) A) (fast_number row 0) (fast_number row 1)

abbrev pub fast_tests : ℕ → State → List Bool
fast_tests row A =
    ready A ∷ finite (fast_number row 12) ∷ modest (above (fast_number row 12)) ∷ finite (fast_number row 11) ∷ modest (above (fast_number row 11)) ∷ finite (fast_number row 10) ∷ modest (above (fast_number row 10)) ∷
    modest (second row A).high ∷ modest (third row A).high ∷ finite (fast_number row 9) ∷ safe false (times_one (third row A) A) (fast_number row 9) ∷ tests (fast_rule row) A 7 (fourth row A) ∷ ready (eleventh row A) ∷
    finite (fast_number row 0) ∷ finite (fast_number row 1) ∷ safe_both false (times (eleventh row A) A) (fast_number row 0) (fast_number row 1) ∷ []

module _ {S : Type 0} (o : Ops S) (m : Meaning o) where
  pub fast_holds : (s : S) (row : ℕ) (A : State) (u : DoubleDouble) (U : Q) → Holds A u U → T (conj (fast_tests row A)) → Holds (fast_bounds row A) (fast_polynomial o s row u).1 (polynomial U (row_coefficients row))
  unfolding fast_polynomial
  fast_holds s row A u U k t =
      let tests = fast_tests row A in
      let a = pick 0 tests t in
      let b = Comp.and_l (modest A.high) (modest A.low) a in
      let uh = operand u.hi k.hi_number k.parts.hi b in
      let ul = operand u.lo k.lo_number k.parts.lo (Comp.and_r (modest A.high) (modest A.low) a) in
      let h₁ = leading_one (fast_number row 12) U (known _ (pick 1 tests t)) k in
      let r₁ = o.multiply_add s (fast_number row 12) u.hi (fast_number row 11) in
      let h₂ = madd_one o m s (fast_number row 11) (fast_number row 12) u.hi h₁ (pick 2 tests t) (head_one u k) b (known _ (pick 3 tests t)) (pick 4 tests t) in
      let r₂ = o.multiply_add r₁.0 r₁.1 u.hi (fast_number row 10) in
      let h₃ = madd_one o m r₁.0 (fast_number row 10) r₁.1 u.hi h₂ (pick 7 tests t) (head_one u k) b (known _ (pick 5 tests t)) (pick 6 tests t) in
      let v = o.pair_times_number r₂.0 u r₂.1 in
      let w₃ = m.pair_times_number r₂.0 u r₂.1 ul uh (operand r₂.1 h₃.number h₃.high (pick 8 tests t)) in
      let h₄ = one_holds r₂.1 u v.1 h₃ k (number_means _ _ _ _ _ w₃) w₃.low w₃.high in
      let h₅ = added_holds false (times_one (third row A) A) (fast_number row 9) v.1 _ (known _ (pick 9 tests t)) h₄ (pick 10 tests t) in
      let z = plus fast_two_sum (fast_number row 9) v.1 in
      let l = horner o (fast_term row) u 7 v.0 z in
      let h₆ = loop_holds o m (fast_rule row) A u U k a 7 v.0 (fourth row A) z _ h₅ (pick 11 tests t) in
      let h₇ = times_ready o m l.0 l.1 u h₆ k (pick 12 tests t) a in
      both_holds false (times (eleventh row A) A) (fast_number row 0) (fast_number row 1) (o.pair_times_pair l.0 l.1 u).1 _ (known _ (pick 13 tests t)) (known _ (pick 14 tests t)) h₇ (pick 15 tests t)
