-- What f_erfc answers in the tail, against the exact formulas. Assumes nothing.
use Rattle.std.proofs.Common.{◌≡◌, ℕ, ◌<◌, ◌≤◌, Bool, true, false, cond, Some, None, Ok, sym, refl, ap, ◌∙◌, inl, inr, le_trans, lt_of_lt_of_le, lit<, lit≤, le-ltb, lt-ltb, ne_eqb}
use borrow.Author.Tests.{lt-leb}
use lib.Ieee.{Float, binary64, of_bits, eq}
use Rattle.ieee.specs.Val.{val}
use Rattle.ieee.proofs.Whole.{order}
use Rattle.double_double.specs.Ops.{Ops, Meaning}
use Rattle.erfc.specs.declared.answer.Answer.{Answer}
use Rattle.erfc.specs.declared.answer.Code.TheVariants as code
use Rattle.erfc.specs.declared.classes.Class.{Class}
use Rattle.erfc.specs.declared.classes.Class.TheVariants.{FastTail, FarTail}
use Rattle.erfc.specs.Classes.{class_of}
use Rattle.erfc.specs.Ends.{left_end, right_end}
use Rattle.erfc.specs.Asymptotics.{fast_step, accurate_step}
use Rattle.erfc.specs.Answers.{plain_answer, decided, accurate_answer, with_fast_step, answer_of, outcome_of, evaluation}
use Rattle.erfc.specs.Rows.{Argument, tail_first, fast_end, tail_end}
use Rattle.bounds.specs.Floats.{above}
use Rattle.bounds.specs.Promises.{Stands, fast, retried, accurate, listed_bits}
use Rattle.bounds.proofs.FastAll.{fast_bracketed}
use Rattle.bounds.proofs.Nearest.{fast_nearest}
use Rattle.bounds.proofs.AccurateAnswers.{accurate_measured}

module _ {S : Type 0} (o : Ops S) where
  pub listed_is : (s : S) → evaluation o s listed_bits ≡ (s, Ok (plain_answer (of_bits binary64 0x000667bd620fd95b) code.Listed))
  unfolding evaluation
  listed_is s = refl

-- ---- the classes of the tail
class_fast : (b : ℕ) → tail_first ≤ b → b < fast_end → class_of b ≡ Ok FastTail
class_fast b l h = rw (lt-leb b 0x3c8c5bf891b4ef6a (lt_of_lt_of_le (lit< tt) l), le-ltb b tail_first l, lt-ltb b fast_end h) refl

class_far : (b : ℕ) → fast_end ≤ b → b < tail_end → (b ≡ listed_bits → ⊥) → class_of b ≡ Ok FarTail
class_far b l h n = rw (lt-leb b 0x3c8c5bf891b4ef6a (lt_of_lt_of_le (lit< tt) l), le-ltb b tail_first (le_trans (lit≤ tt) l), le-ltb b fast_end l, ne_eqb b listed_bits n, lt-ltb b tail_end h) refl

module _ {S : Type 0} (o : Ops S) (m : Meaning o) where
  -- with a fast step
  with_fast : (s : S) (x : Float) (p : 0 < above (val x)) → Argument x fast_end → Argument x tail_end → Stands x p (with_fast_step o s x).1
  with_fast s x p a t =
      let f = fast_step o s x in
      go (eq (left_end f.1.erf) (right_end f.1.erf)) refl
    where
      go : (b : Bool) → eq (left_end (fast_step o s x).1.erf) (right_end (fast_step o s x).1.erf) ≡ b
          → Stands x p (cond {A = S × Answer} b ((fast_step o s x).0, decided (fast_step o s x).1) ((accurate_step o (fast_step o s x).0 x).0, accurate_answer code.Retried (Some (fast_step o s x).1) (accurate_step o (fast_step o s x).0 x).1)).1
      go true e = fast (fast_step o s x).1 (fast_bracketed o m s x p a) (fast_nearest o m s x p a e)
      go false e = retried (fast_step o s x).1 (accurate_step o (fast_step o s x).0 x).1 (fast_bracketed o m s x p a) (accurate_measured o m (fast_step o s x).0 x p t)

  -- at the class of x
  of_class : (s : S) (x : Float) (b : ℕ) (c : Class) → x ≡ of_bits binary64 b → class_of b ≡ Ok c → (evaluation o s b).1 ≡ Ok (answer_of o c s x).1
  unfolding evaluation
  of_class s x b c e f = ap (λ (z : Float). (outcome_of o (class_of b) s z).1) (sym e) ∙ ap (λ d. (outcome_of o d s x).1) f

  pub tail_stands : (s : S) (x : Float) (p : 0 < above (val x)) (a : Argument x tail_end) → (a.bits ≡ listed_bits → ⊥) → (r : Answer) × (((evaluation o s a.bits).1 ≡ Ok r) × Stands x p r)
  tail_stands s x p a n = elim (order fast_end a.bits) [
    | inl h ↦ (accurate_answer code.Accurate None (accurate_step o s x).1, (of_class s x a.bits FarTail a.is (class_far a.bits h a.below n), accurate (accurate_step o s x).1 (accurate_measured o m s x p a)))
    | inr h ↦ ((with_fast_step o s x).1, (of_class s x a.bits FastTail a.is (class_fast a.bits a.first h), with_fast s x p (record { bits = a.bits; is = a.is; first = a.first; below = h }) a))
  ]
