-- One turn of a Horner loop whose counter runs down. Assumes nothing.
use Rattle.std.proofs.Common.{◌≡◌, ℕ, zero, suc, ◌-◌, ◌<◌, ap, not-suc-le-zero, arith}
use Rattle.double_double.specs.declared.double_double.DoubleDouble.{DoubleDouble}
use Rattle.double_double.specs.Ops.{Ops}
use Rattle.erfc.specs.Horner.{horner}

module _ {S : Type 0} (o : Ops S) (term : ℕ → DoubleDouble → DoubleDouble) (u : DoubleDouble) where
  at_suc : (n m : ℕ) (s s' : S) (z t z' : DoubleDouble) → m ≡ n → (s', t) ≡ o.pair_times_pair s z u → z' ≡ term m t → horner o term u m s' z' ≡ horner o term u (suc n) s z
  unfolding horner
  at_suc n m s s' z t z' e p q = simp (e, q) (ap (λ v. horner o term u n v.0 (term n v.1)) p)

  pub done : (n : ℕ) (s : S) (z : DoubleDouble) → n ≡ 0 → horner o term u n s z ≡ (s, z)
  unfolding horner
  done n s z e = ap (λ (k : ℕ). horner o term u k s z) e

  pub turn : (n : ℕ) (s s' : S) (z t z' : DoubleDouble) → 0 < n → (s', t) ≡ o.pair_times_pair s z u → z' ≡ term (n - 1) t → horner o term u (n - 1) s' z' ≡ horner o term u n s z
  turn zero s s' z t z' h p q = absurd (not-suc-le-zero h)
  turn (suc n) s s' z t z' h p q = at_suc n (suc n - 1) s s' z t z' (omega arith) p q
