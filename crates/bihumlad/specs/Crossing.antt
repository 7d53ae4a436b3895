-- An outcome as two numbers. Definitions only.
use Rattle.std.specs.Prelude.{◌+◌, Ok, Err, Result, from_bits}
use Rattle.std.specs.Float.{binary64}
use Rattle.erfc.specs.declared.answer.Answer.{Answer}
use Rattle.erfc.specs.declared.answer.Refusal.{Refusal}
use Rattle.erfc.specs.Answers.{code_number, refusal_number}
use Rattle.bihumlad.specs.declared.Evaluated.{Evaluated}

-- value and code; NaN and code 7 or 8 for refusal 1 or 2
abbrev pub crossing : Result Answer Refusal → Evaluated
crossing (Ok a) = record { value = a.value; code = code_number a.code }
crossing (Err r) = record { value = from_bits binary64 0x7ff8000000000000; code = 6 + refusal_number r }

-- beside the state that is left
abbrev pub crossed : {S : Type 0} → S × Result Answer Refusal → S × Evaluated
crossed r = (r.0, crossing r.1)
