-- What is promised of the steps over every arithmetic with the meaning, at every state. Definitions only.
use Rattle.std.specs.Prelude.{◌≡◌, ℕ, ◌<◌, true, negsuc, ◌≤ℤ◌, Some, None, Ok, ◌≢◌, from_bits, Float}
use Rattle.std.specs.Float.{binary64}
use Rattle.std.specs.Float.Ieee.{div, mul, neg, eq}
use Rattle.double_double.specs.declared.double_double.DoubleDouble.{DoubleDouble}
use Rattle.double_double.specs.Ops.{Ops}
use Rattle.double_double.specs.Pairs.{negated}
use Rattle.erfc.specs.Exponentials.{multiple_int, accurate_multiple_int, exp1, exp_accurate}
use Rattle.erfc.specs.Rows.{Argument, fast_thresholds, accurate_thresholds, fast_end, tail_end, fast_row, accurate_row}
use Rattle.erfc.specs.declared.answer.Answer.{Answer}
use Rattle.erfc.specs.declared.answer.FastPart.{FastPart}
use Rattle.erfc.specs.declared.answer.AccuratePart.{AccuratePart}
use Rattle.erfc.specs.declared.answer.Code.TheVariants as code
use Rattle.erfc.specs.Answers.{decided, accurate_answer, plain_answer, evaluation}
use Rattle.erfc.specs.Ends.{left_end, right_end}
use Rattle.erfc.specs.Asymptotics.{one, reciprocal, squared, fast_polynomial, accurate_polynomial, fast_step, accurate_step}
use Rattle.ieee.specs.Val.{val}
use Rattle.bounds.specs.Num.{Q, ◌⊗◌, Within}
use Rattle.bounds.specs.Floats.{above}
use Rattle.bounds.specs.Formulas.{sum_of, inverse, polynomial, row_coefficients, formula, Bracketed}
use Rattle.bounds.specs.Nearests.{NearestTo}
use Rattle.bounds.specs.AccurateFormulas.{AccurateExp, Measured}
use Rattle.bounds.specs.Reciprocals.{Reciprocal, Square}
use Rattle.bounds.specs.FastExps.{FastExp}
use Rattle.bounds.specs.FastSteps.{NearFormula}
use Rattle.bounds.specs.Polynomials.{NearSquare, fast_limit, accurate_limit, accurate_coefficients}

-- the argument with an answer of its own
abbrev pub listed_bits : ℕ
listed_bits = 0x403a8f7bfbd15495

-- row and k of the fast step, row and K of the accurate one, are functions of x alone
pub record OfXAlone {S : Type 0} (o : Ops S) : Type 0 where
  pub row : (s : S) (x : Float) → Argument x fast_end → (fast_step o s x).1.row ≡ fast_row (div binary64 one x)
  pub k : (s : S) (x : Float) → Argument x fast_end → (fast_step o s x).1.k ≡ multiple_int (neg (mul binary64 x x))
  pub accurate_row : (s : S) (x : Float) → Argument x tail_end → (accurate_step o s x).1.row ≡ accurate_row (div binary64 one x)
  pub big_k : (s : S) (x : Float) → Argument x tail_end → (accurate_step o s x).1.k ≡ accurate_multiple_int (neg (mul binary64 x x))

-- what values row, k and K have
pub record RowsAndMultiplesWithin : Type 0 where
  pub row_within : (x : Float) → Argument x fast_end → fast_row (div binary64 one x) < 6
  pub k_within : (x : Float) → Argument x fast_end → (negsuc 3999999 ≤ℤ multiple_int (neg (mul binary64 x x))) × (multiple_int (neg (mul binary64 x x)) ≤ℤ negsuc 48999)
  pub accurate_row_within : (x : Float) → Argument x tail_end → accurate_row (div binary64 one x) < 7
  pub big_k_within : (x : Float) → Argument x tail_end → (negsuc 1069 ≤ℤ accurate_multiple_int (neg (mul binary64 x x))) × (accurate_multiple_int (neg (mul binary64 x x)) ≤ℤ negsuc 11)

-- x is above zero
pub record PositiveArguments : Type 0 where
  pub positive : (x : Float) → Argument x tail_end → 0 < above (val x)

-- the pair for 1 / x and its square are near 1 / x and 1 / x², whatever was called between, and 1 / x² is in the bounds of its rows
pub record NearReciprocals {S : Type 0} (o : Ops S) : Type 0 where
  pub reciprocals : (s : S) (x : Float) → Argument x tail_end → Reciprocal x (reciprocal o s x).1
  pub squares : (s t : S) (x : Float) → Argument x tail_end → Square x (squared o t (reciprocal o s x).1).1
  pub fast : (s t : S) (x : Float) (p : 0 < above (val x)) → Argument x fast_end → NearSquare fast_thresholds (fast_row (div binary64 one x)) (squared o t (reciprocal o s x).1).1 (inverse x p ⊗ inverse x p)
  pub accurate : (s t : S) (x : Float) (p : 0 < above (val x)) → Argument x tail_end → NearSquare accurate_thresholds (accurate_row (div binary64 one x)) (squared o t (reciprocal o s x).1).1 (inverse x p ⊗ inverse x p)

-- the fast exponential's pair is near E(x)
pub record NearExponentials {S : Type 0} (o : Ops S) : Type 0 where
  pub fast : (s t : S) (x : Float) → Argument x fast_end → FastExp x (multiple_int (neg (mul binary64 x x))) (exp1 o t (negated (o.product s x x).1)).1

-- the accurate exponential's pair is near S(w)
pub record NearAccurateExponentials {S : Type 0} (o : Ops S) : Type 0 where
  pub accurate : (s t : S) (x : Float) → Argument x tail_end → AccurateExp x (accurate_multiple_int (neg (mul binary64 x x))) (exp_accurate o t (negated (o.product s x x).1)).1

-- the polynomial of each row, at a pair for U, is near the exact one at U
pub record NearPolynomials {S : Type 0} (o : Ops S) : Type 0 where
  pub fast : (s : S) (row : ℕ) (u : DoubleDouble) (U : Q) → row < 6 → NearSquare fast_thresholds row u U → Within (sum_of (fast_polynomial o s row u).1) (polynomial U (row_coefficients row)) fast_limit
  pub accurate : (s : S) (row : ℕ) (u : DoubleDouble) (U : Q) → row < 10 → NearSquare accurate_thresholds row u U → Within (sum_of (accurate_polynomial o s row u).1) (polynomial U (accurate_coefficients row)) accurate_limit

-- the fast step's pair is near F(x), and F(x) lies between the ends of the rounding test
pub record Brackets {S : Type 0} (o : Ops S) : Type 0 where
  pub near : (s : S) (x : Float) (p : 0 < above (val x)) → Argument x fast_end → NearFormula x p (fast_step o s x).1
  pub bracketed : (s : S) (x : Float) (p : 0 < above (val x)) → Argument x fast_end → Bracketed x p (fast_step o s x).1

-- a fast answer, one whose rounded ends agree, is the f64 nearest to F(x), ties to even
pub record NearestAnswers {S : Type 0} (o : Ops S) : Type 0 where
  pub fast : (s : S) (x : Float) (p : 0 < above (val x)) → Argument x fast_end → eq (left_end (fast_step o s x).1.erf) (right_end (fast_step o s x).1.erf) ≡ true
      → NearestTo (formula x p (fast_step o s x).1.row (fast_step o s x).1.k) (left_end (fast_step o s x).1.erf)

-- the accurate step, on the whole tail
pub record AccurateAnswers {S : Type 0} (o : Ops S) : Type 0 where
  pub measured : (s : S) (x : Float) (p : 0 < above (val x)) → Argument x tail_end → Measured x p (accurate_step o s x).1

-- how an answer of the tail stands to the exact formulas
pub data Stands (x : Float) (p : 0 < above (val x)) : Answer → Type 0 where
  fast : (f : FastPart) → Bracketed x p f → NearestTo (formula x p f.row f.k) (left_end f.erf) → Stands x p (decided f)
  retried : (f : FastPart) (a : AccuratePart) → Bracketed x p f → Measured x p a → Stands x p (accurate_answer code.Retried (Some f) a)
  accurate : (a : AccuratePart) → Measured x p a → Stands x p (accurate_answer code.Accurate None a)

-- every tail argument but the listed one has an answer that stands so, and the listed one its own
pub record TailAnswers {S : Type 0} (o : Ops S) : Type 0 where
  pub stands : (s : S) (x : Float) (p : 0 < above (val x)) (a : Argument x tail_end) → (a.bits ≢ listed_bits) → (r : Answer) × (((evaluation o s a.bits).1 ≡ Ok r) × Stands x p r)
  pub listed : (s : S) → evaluation o s listed_bits ≡ (s, Ok (plain_answer (from_bits binary64 0x000667bd620fd95b) code.Listed))
