-- One argument, evaluated and compared with an expected answer. Definitions only.
use Rattle.std.specs.Prelude.{ℕ, ◌+◌, ◌-◌, ◌%◌, ◌^◌, min, Bool, true, cond, Ok, Err, Result, ◌==◌, is_nan, nat_lt, to_bits, Float}
use Rattle.std.specs.Float.{binary64}
use Rattle.double_double.specs.Ops.{Ops}
use Rattle.erfc.specs.declared.answer.Answer.{Answer}
use Rattle.erfc.specs.declared.answer.Refusal.{Refusal}
use Rattle.erfc.specs.declared.answer.Code.{Code}
use Rattle.erfc.specs.declared.answer.Code.TheVariants.{Nan, Flat, One, Fast, Retried, Accurate, Listed}
use Rattle.erfc.specs.Answers.{evaluation}
use Rattle.replay.specs.declared.compare.Comparison.{Comparison}
use Rattle.replay.specs.declared.compare.Comparison.TheVariants.{Equal, Differs, Skipped}
use Rattle.replay.specs.declared.compare.Counts.{Counts}

-- NaN and flat ends always, tail arguments below the end
abbrev pub is_compared : Code → ℕ → ℕ → Bool
is_compared Nan b end = true
is_compared Flat b end = true
is_compared One b end = true
is_compared Fast b end = nat_lt b end
is_compared Retried b end = nat_lt b end
is_compared Accurate b end = nat_lt b end
is_compared Listed b end = nat_lt b end

-- a NaN agrees with the bits of any NaN
abbrev pub agrees_with : Float → ℕ → Bool
agrees_with v e = cond (is_nan v) (nat_lt 0x7ff0000000000000 (e % 0x8000000000000000)) (to_bits binary64 v == e)

abbrev pub judged : Answer → ℕ → ℕ → ℕ → Comparison
judged a b end e = cond (is_compared a.code b end) (cond (agrees_with a.value e) Equal (Differs (to_bits binary64 a.value))) Skipped

abbrev pub outcome_judged : Result Answer Refusal → ℕ → ℕ → ℕ → Result Comparison Refusal
outcome_judged (Ok a) b end e = Ok (judged a b end e)
outcome_judged (Err r) b end e = Err r

-- the argument b against the bits e
abbrev pub replayed : {S : Type 0} → Ops S → ℕ → S → ℕ → ℕ → S × Result Comparison Refusal
replayed o end s b e = let r = evaluation o s b in (r.0, outcome_judged r.1 b end e)

-- one more, up to the largest u64
abbrev pub more : ℕ → ℕ
more n = min (n + 1) (2 ^ 64 - 1)

abbrev pub counted_in : Counts → Comparison → Counts
counted_in c Equal = record { compared = more c.compared; equal = more c.equal }
counted_in c (Differs b) = record { compared = more c.compared; equal = c.equal }
counted_in c Skipped = c
