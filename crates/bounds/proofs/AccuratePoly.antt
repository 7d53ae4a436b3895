-- The accurate polynomial of a row at a pair near U: how far it is from the exact polynomial at U. Assumes nothing.
use Rattle.std.proofs.Common.{◌≡◌, ℕ, zero, suc, ◌+◌, Bool, true, T, List, [], ◌∷◌, get_or, refl, subst, subst₂, arith}
use lib.Ieee.{binary64, of_bits}
use lib.Ieee.Scale.{finite}
use Rattle.double_double.specs.declared.double_double.DoubleDouble.{DoubleDouble}
use Rattle.double_double.specs.Ops.{Ops, Meaning}
use Rattle.tables.specs.Erfc.{accurate_rows, accurate_number}
use Rattle.erfc.specs.Horner.{horner}
use Rattle.erfc.specs.Asymptotics.{accurate_upper_term, accurate_lower_term, accurate_polynomial}
use Rattle.bounds.specs.Num.{Q, ◌⊕◌, ◌⊗◌}
use Rattle.bounds.specs.Floats.{exactly}
use Rattle.bounds.specs.Formulas.{polynomial}
use Rattle.bounds.specs.Polynomials.{singles_of, accurate_coefficients}
use Rattle.bounds.proofs.Near.{abs_near, near_sym}
use Rattle.bounds.proofs.Computed.{kept, size_of}
use Rattle.bounds.proofs.Chain.{nothing, ◌then◌}
use Rattle.bounds.proofs.Loop.{State, Holds, Rule, above, ready, bounds_of, exact_of, tests, loop_holds}
use Rattle.bounds.proofs.Sizes.{known}
use Rattle.bounds.proofs.Rules.{conj, pick, adds_one, adds_both}

-- ---- the rules of the two loops
abbrev upper_rule : (row : ℕ) → Rule (accurate_upper_term row)
upper_rule row = adds_one true (get_or accurate_rows row []) 12

abbrev lower_rule : (row : ℕ) → Rule (accurate_lower_term row)
lower_rule row = adds_both true (get_or accurate_rows row [])

-- ---- the exact value of the upper loop
upper_exact : (row : ℕ) (A : State) (U : Q) (n i c k : ℕ) → i ≡ n + 12 → c + n ≡ k → exact_of (upper_rule row) A U n (polynomial U (singles_of (accurate_number row) i c)) ≡ polynomial U (singles_of (accurate_number row) 12 k)
upper_exact row A U zero i c k e f =
    let e₁ : i ≡ 12 = omega (arith, e) in
    let f₁ : c ≡ k = omega (arith, f) in
    subst₂ (λ (j l : ℕ). polynomial U (singles_of (accurate_number row) i c) ≡ polynomial U (singles_of (accurate_number row) j l)) e₁ f₁ refl
upper_exact row A U (suc n) i c k e f =
    let e₁ : suc (n + 12) ≡ i = omega (arith, e) in
    let f₁ : suc c + n ≡ k = omega (arith, f) in
    subst (λ (j : ℕ). exact_of (upper_rule row) A U n (exactly (accurate_number row (n + 12)) ⊕ polynomial U (singles_of (accurate_number row) j c) ⊗ U) ≡ polynomial U (singles_of (accurate_number row) 12 k)) e₁ (upper_exact row A U n (n + 12) (suc c) k refl f₁)

-- ---- the bounds of a row, for u with the bounds A
abbrev start : ℕ → State
start row = record { high = above (accurate_number row (row + 20)); low = above (of_bits binary64 0); error = above (of_bits binary64 0) + 0; size = above (accurate_number row (row + 20)) + 0 }

abbrev upper : ℕ → State → State
upper row A = bounds_of (upper_rule row) A (row + 8) (start row)

abbrev pub accurate_bounds : ℕ → State → State
accurate_bounds row A = bounds_of (lower_rule row) A 6 (upper row A)

abbrev pub accurate_tests : ℕ → State → List Bool
accurate_tests row A = ready A ∷ finite (of_bits binary64 0) ∷ finite (accurate_number row (row + 20)) ∷ tests (upper_rule row) A (row + 8) (start row) ∷ tests (lower_rule row) A 6 (upper row A) ∷ []

start_holds : (row : ℕ) {A : State} {u : DoubleDouble} (U : Q) → Holds A u U → T (finite (of_bits binary64 0)) → T (finite (accurate_number row (row + 20))) → Holds (start row) (record { lo = of_bits binary64 0; hi = accurate_number row (row + 20) }) (polynomial U (singles_of (accurate_number row) (row + 20) 1))
start_holds row U k z t =
    let c = accurate_number row (row + 20) in
    let from = near_sym (kept (exactly c) (nothing U k.size)) in
    record {
      lo_number = known 0 z;
      hi_number = known _ t;
      parts = record { hi = size_of (exactly c); lo = size_of (exactly (of_bits binary64 0)) };
      near = kept (exactly c) (size_of (exactly (of_bits binary64 0))) then from;
      size = abs_near (size_of (exactly c)) from;
    }

module _ {S : Type 0} (o : Ops S) (m : Meaning o) where
  pub accurate_holds : (s : S) (row : ℕ) (A : State) (u : DoubleDouble) (U : Q) → Holds A u U → T (conj (accurate_tests row A)) → Holds (accurate_bounds row A) (accurate_polynomial o s row u).1 (polynomial U (accurate_coefficients row))
  unfolding accurate_polynomial
  accurate_holds s row A u U k t =
      let ts = accurate_tests row A in
      let a = pick 0 ts t in
      let z : DoubleDouble = record { lo = of_bits binary64 0; hi = accurate_number row (row + 20) } in
      let h₀ = start_holds row U k (pick 1 ts t) (pick 2 ts t) in
      let w = horner o (accurate_upper_term row) u (row + 8) s z in
      let h₁ = loop_holds o m (upper_rule row) A u U k a (row + 8) s (start row) z (polynomial U (singles_of (accurate_number row) (row + 20) 1)) h₀ (pick 3 ts t) in
      let h₂ = subst (λ (X : Q). Holds (upper row A) w.1 X) (upper_exact row A U (row + 8) (row + 20) 1 (9 + row) (omega arith) (omega arith)) h₁ in
      loop_holds o m (lower_rule row) A u U k a 6 w.0 (upper row A) w.1 (polynomial U (singles_of (accurate_number row) 12 (9 + row))) h₂ (pick 4 ts t)
