-- The accurate step measured: its pair against G(x) / 2 ^ K, and its scaled answer against G(x). Assumes nothing.
use Rattle.std.proofs.Common.{◌≡◌, ℕ, ◌<◌, ◌≤◌, ℤ, negsuc, sym, ◌∙◌, subst, arith}
use lib.Ieee.{Float}
use Rattle.ieee.specs.Val.{val}
use Rattle.double_double.specs.declared.double_double.DoubleDouble.{DoubleDouble}
use Rattle.double_double.specs.Ops.{Ops, Meaning}
use Rattle.erfc.specs.Rows.{Argument, tail_end}
use Rattle.erfc.specs.Asymptotics.{scaled_value, accurate_step}
use Rattle.bounds.specs.Floats.{above}
use Rattle.bounds.specs.AccurateFormulas.{unscaled_formula, accurate_formula, LessThanUnit, Measured}
use Rattle.bounds.proofs.RowAndK.{big_multiple, of_x_alone}
use Rattle.bounds.proofs.AtScale.{number_of}
use Rattle.bounds.proofs.AccurateAll.{AccurateResult, accurate_result}
use Rattle.bounds.proofs.Distance.{less_than_unit}

-- with K in sight
at_multiple : (x : Float) (p : 0 < above (val x)) (row : ℕ) (k : ℤ) (v : DoubleDouble) (n : ℕ) → k ≡ negsuc n → n ≤ 1069 → AccurateResult x p row k v → LessThanUnit (scaled_value v k) (accurate_formula x p row k)
at_multiple x p row k v n e h = subst (λ (z : ℤ). AccurateResult x p row z v → LessThanUnit (scaled_value v z) (accurate_formula x p row z)) (sym e)
    (λ r. less_than_unit v n (unscaled_formula x p row (negsuc n)) r.pair r.least r.most h)

module _ {S : Type 0} (o : Ops S) (m : Meaning o) where
  pub accurate_measured : (s : S) (x : Float) (p : 0 < above (val x)) → Argument x tail_end → Measured x p (accurate_step o s x).1
  accurate_measured s x p a =
      let f = (accurate_step o s x).1 in
      let r = accurate_result o m s x p a in
      let w = of_x_alone o m in
      let n = big_multiple x a in
      record {
        row = w.accurate_row s x a;
        k = w.big_k s x a;
        pair = record { low = number_of r.pair.operands.lo; high = number_of r.pair.operands.hi; near = r.pair.near; low_small = r.pair.low_small };
        answer = at_multiple x p f.row f.k f.pair n.0 (w.big_k s x a ∙ n.1.0) (omega (arith, n.1.1.1)) r;
      }
