-- The exact formulas of the fast step: E(x) and F(x), as numbers. Definitions only.
use Rattle.std.specs.Prelude.{◌≡◌, ℕ, suc, ◌+◌, ◌*◌, ◌^◌, ◌<◌, ◌≤◌, List, [], ◌∷◌, ℤ, pos, negsuc, from_bits, Float}
use Rattle.std.proofs.Common.{zero-lt-suc}
use Rattle.std.specs.Float.{binary64}
use Rattle.std.specs.Float.Ieee.{mul, div, neg, add, sub}
use Rattle.double_double.specs.declared.double_double.DoubleDouble.{DoubleDouble}
use Rattle.tables.specs.Erfc.{fast_number}
use Rattle.tables.specs.Exp.{reduce0, reduce1}
use Rattle.erfc.specs.declared.answer.FastPart.{FastPart}
use Rattle.erfc.specs.Exponentials.{log2_pair, multiple_int, reduced_indices}
use Rattle.erfc.specs.Rows.{fast_row}
use Rattle.erfc.specs.Asymptotics.{one}
use Rattle.ieee.specs.Val.{val}
use Rattle.bounds.specs.Num.{Q, ◌⊕◌, ◌⊗◌, whole, tiny}
use Rattle.bounds.specs.Floats.{above, below, exactly, minus}

-- a whole number
abbrev pub integer : ℤ → Q
integer z = record { up = above z; dn = below z; den = 1; ok = zero-lt-suc 0 }

-- 2 ^ m
abbrev pub power_of : ℤ → Q
power_of (pos n) = whole (2 ^ n)
power_of (negsuc n) = tiny (suc n)

-- the number that a pair stands for
abbrev pub sum_of : DoubleDouble → Q
sum_of p = exactly p.hi ⊕ exactly p.lo

-- a₀ + u (a₁ + u (a₂ + …))
abbrev pub polynomial : Q → List Q → Q
polynomial u [] = whole 0
polynomial u (a ∷ rest) = a ⊕ polynomial u rest ⊗ u

-- w = -x² - k log 2 / 4096, with the pair for log 2 / 4096
abbrev pub residue : Float → ℤ → Q
residue x k = minus (exactly x ⊗ exactly x) ⊕ minus (integer k ⊗ sum_of log2_pair)

-- the coefficients of q_1, from the constant one up
abbrev pub exp_coefficients : List Q
exp_coefficients =
    exactly (from_bits binary64 0x3ff0000000000000) ∷ exactly (from_bits binary64 0x3ff0000000000000) ∷ exactly (from_bits binary64 0x3fe0000000000000) ∷
    exactly (from_bits binary64 0x3fc5555555995d37) ∷ exactly (from_bits binary64 0x3fa55555558489dc) ∷ []

-- E(x) = 2 ^ m T0[i2] T1[i1] Q(w)
abbrev pub exponential : Float → ℤ → Q
exponential x k =
    let r = reduced_indices k in
    power_of r.0 ⊗ sum_of (reduce0 r.1) ⊗ sum_of (reduce1 r.2) ⊗ polynomial (residue x k) exp_coefficients

-- 1 / x, for an x above zero
abbrev pub inverse : (x : Float) → 0 < above (val x) → Q
inverse x p = record { up = 2 ^ 1074; dn = 0; den = above (val x); ok = p }

-- p0 + p1, p2, …, p12 of a row
abbrev pub row_coefficients : ℕ → List Q
row_coefficients row =
    (exactly (fast_number row 0) ⊕ exactly (fast_number row 1)) ∷ exactly (fast_number row 2) ∷ exactly (fast_number row 3) ∷ exactly (fast_number row 4) ∷
    exactly (fast_number row 5) ∷ exactly (fast_number row 6) ∷ exactly (fast_number row 7) ∷ exactly (fast_number row 8) ∷ exactly (fast_number row 9) ∷
    exactly (fast_number row 10) ∷ exactly (fast_number row 11) ∷ exactly (fast_number row 12) ∷ []

-- F(x) = E(x) (1/x) (p0 + p1 + p2 / x² + …)
abbrev pub formula : (x : Float) → 0 < above (val x) → ℕ → ℤ → Q
formula x p row k = exponential x k ⊗ inverse x p ⊗ polynomial (inverse x p ⊗ inverse x p) (row_coefficients row)

-- a ≤ b
pub record AtLeast (b a : Q) : Type 0 where
  pub le : a.up * b.den + b.dn * a.den ≤ b.up * a.den + a.dn * b.den

-- row and k are those of x alone, and F(x) lies between the ends of the rounding test: the bracket is rounded, the outer sum exact
pub record Bracketed (x : Float) (p : 0 < above (val x)) (f : FastPart) : Type 0 where
  pub row : f.row ≡ fast_row (div binary64 one x)
  pub k : f.k ≡ multiple_int (neg (mul binary64 x x))
  pub left : AtLeast (formula x p f.row f.k) (exactly f.erf.result.hi ⊕ exactly (sub binary64 f.erf.result.lo f.erf.err))
  pub right : AtLeast (exactly f.erf.result.hi ⊕ exactly (add binary64 f.erf.result.lo f.erf.err)) (formula x p f.row f.k)
