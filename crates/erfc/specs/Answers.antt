-- What an argument answers: the record or the refusal, for every 64 bits. Definitions only.
use Rattle.std.specs.Prelude.{ℕ, ◌<◌, cond, negsuc, ◌≤ℤ◌, Some, None, Ok, Err, Option, Result, from_bits, Float}
use Rattle.std.specs.Float.{binary64}
use Rattle.std.specs.Float.Ieee.{eq}
use Rattle.double_double.specs.Ops.{Ops}
use Rattle.erfc.specs.declared.answer.Answer.{Answer}
use Rattle.erfc.specs.declared.answer.FastPart.{FastPart}
use Rattle.erfc.specs.declared.answer.AccuratePart.{AccuratePart}
use Rattle.erfc.specs.declared.answer.Code.{Code}
use Rattle.erfc.specs.declared.answer.Code.TheVariants as code
use Rattle.erfc.specs.declared.answer.Refusal.{Refusal}
use Rattle.erfc.specs.declared.answer.Refusal.TheVariants.{Positive, Negative}
use Rattle.erfc.specs.declared.classes.Class.{Class}
use Rattle.erfc.specs.declared.classes.Class.TheVariants.{Nan, Zero, Two, One, FastTail, FarTail, Listed}
use Rattle.erfc.specs.Classes.{class_of}
use Rattle.erfc.specs.Ends.{left_end, right_end}
use Rattle.erfc.specs.Asymptotics.{fast_step, accurate_step, scaled_value}

abbrev pub code_number : Code → ℕ
code_number code.Nan = 0
code_number code.Flat = 1
code_number code.One = 2
code_number code.Fast = 3
code_number code.Retried = 4
code_number code.Accurate = 5
code_number code.Listed = 6

abbrev pub refusal_number : Refusal → ℕ
refusal_number Positive = 1
refusal_number Negative = 2

-- the ends of the rounding test that a record shows
abbrev pub ends_of : Answer → Option (Float × Float)
ends_of a = elim a.fast [ Some f ↦ Some (left_end f.erf, right_end f.erf) | None ↦ None ]

-- an answer without a step
abbrev pub plain_answer : Float → Code → Answer
plain_answer v c = record { value = v; code = c; fast = None; accurate = None }

-- the answer of a fast step that decided
abbrev pub decided : FastPart → Answer
decided f = record { value = left_end f.erf; code = code.Fast; fast = Some f; accurate = None }

-- the answer of the accurate step, after a fast step or without one
abbrev pub accurate_answer : Code → Option FastPart → AccuratePart → Answer
accurate_answer c f a = record { value = scaled_value a.pair a.k; code = c; fast = f; accurate = Some a }

module _ {S : Type 0} (o : Ops S) where
  -- the fast step, and the accurate one where the rounded ends differ
  abbrev pub with_fast_step : S → Float → S × Answer
  with_fast_step s x =
      let f = fast_step o s x in
      let a = accurate_step o f.0 x in
      cond (eq (left_end f.1.erf) (right_end f.1.erf)) (f.0, decided f.1) (a.0, accurate_answer code.Retried (Some f.1) a.1)

  abbrev pub without_fast_step : S → Float → S × Answer
  without_fast_step s x = let a = accurate_step o s x in (a.0, accurate_answer code.Accurate None a.1)

  -- an argument of this class
  abbrev pub answer_of : Class → S → Float → S × Answer
  answer_of Nan s x = (s, plain_answer (from_bits binary64 0x7ff8000000000000) code.Nan)
  answer_of Zero s x = (s, plain_answer (from_bits binary64 0) code.Flat)
  answer_of Two s x = (s, plain_answer (from_bits binary64 0x4000000000000000) code.Flat)
  answer_of One s x = (s, plain_answer (from_bits binary64 0x3ff0000000000000) code.One)
  answer_of FastTail s x = with_fast_step s x
  answer_of FarTail s x = without_fast_step s x
  answer_of Listed s x = (s, plain_answer (from_bits binary64 0x000667bd620fd95b) code.Listed)

  -- a refused argument leaves the state
  abbrev pub outcome_of : Result Class Refusal → S → Float → S × Result Answer Refusal
  outcome_of (Ok c) s x = let a = answer_of c s x in (a.0, Ok a.1)
  outcome_of (Err r) s x = (s, Err r)

  -- f_erfc of the number with these bits
  unfoldable pub evaluation : S → ℕ → S × Result Answer Refusal
  evaluation s b = outcome_of (class_of b) s (from_bits binary64 b)

-- ---- the bounds of rows and multiples

abbrev pub FastWithin : Option FastPart → Type 0
FastWithin (Some f) = (f.row < 6) × (negsuc 3999999 ≤ℤ f.k) × (f.k ≤ℤ negsuc 48999)
FastWithin None = Unit {0}

abbrev pub AccurateWithin : Option AccuratePart → Type 0
AccurateWithin (Some a) = (a.row < 7) × (negsuc 1069 ≤ℤ a.k) × (a.k ≤ℤ negsuc 11)
AccurateWithin None = Unit {0}

-- k from -4,000,000 to -49,000, K from -1,070 to -12, and a row in each table
pub record Within (a : Answer) : Type 0 where
  pub fast : FastWithin a.fast
  pub accurate : AccurateWithin a.accurate

abbrev pub OutcomeWithin : Result Answer Refusal → Type 0
OutcomeWithin (Ok a) = Within a
OutcomeWithin (Err r) = Unit {0}
