-- The alternating arithmetic has the meaning, since plain and fused have it. Assumes nothing.
use Rattle.std.specs.Prelude.{Bool, true, false, cond, Float}
use Rattle.ieee.specs.Meaning.{ProductMeans, PairsMean, NumberMeans, MaddMeans}
use Rattle.double_double.specs.declared.double_double.DoubleDouble.{DoubleDouble}
use Rattle.double_double.specs.declared.fused.Fused.{Fused}
use Rattle.double_double.specs.declared.plain.Plain.{Plain}
use Rattle.double_double.specs.Ops.{Meaning}
use Rattle.double_double.specs.Meanings.{plain_meaning, fused_meaning}
use Rattle.checks.specs.Alternating.{alternating_ops}

-- what holds of both holds of whichever answers
either : {A : Type 0} (P : A → Type 0) (b : Bool) (x y : A) → P x → P y → P (cond b x y)
either P true x y p q = p
either P false x y p q = q

plain : Plain
plain = record {}

fused : Fused
fused = record {}

pub alternating_meaning : Meaning alternating_ops
alternating_meaning = record {
  product = λ s a b p q. either (λ (r : DoubleDouble). ProductMeans a b r.lo r.hi) s.fused _ _ (fused_meaning.product fused a b p q) (plain_meaning.product plain a b p q);
  pair_times_pair = λ s a b p q u v. either (λ (r : DoubleDouble). PairsMean a.lo a.hi b.lo b.hi r.lo r.hi) s.fused _ _ (fused_meaning.pair_times_pair fused a b p q u v) (plain_meaning.pair_times_pair plain a b p q u v);
  pair_times_number = λ s a b p q u. either (λ (r : DoubleDouble). NumberMeans a.lo a.hi b r.lo r.hi) s.fused _ _ (fused_meaning.pair_times_number fused a b p q u) (plain_meaning.pair_times_number plain a b p q u);
  multiply_add = λ s a b c p q u. either (λ (r : Float). MaddMeans a b c r) s.fused _ _ (fused_meaning.multiply_add fused a b c p q u) (plain_meaning.multiply_add plain a b c p q u);
}
