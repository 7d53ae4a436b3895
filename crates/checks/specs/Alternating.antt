-- An arithmetic that answers as plain and as fused in turn. Definitions only.
use Rattle.std.specs.Prelude.{◌+◌, ◌%◌, ◌^◌, cond, not}
use Rattle.double_double.specs.Ops.{Ops}
use Rattle.double_double.specs.Plain.{plain_product, plain_pair_times_pair, plain_pair_times_number, plain_multiply_add}
use Rattle.double_double.specs.Fused.{fused_product, fused_pair_times_pair, fused_pair_times_number, fused_multiply_add}
use Rattle.checks.specs.declared.alternating.Alternating.{Alternating}

abbrev pub passed : Alternating → Alternating
passed s = record { fused = not s.fused; calls = (s.calls + 1) % 2 ^ 64 }

abbrev pub alternating_ops : Ops Alternating
alternating_ops = record {
  product = λ s a b. (passed s, cond s.fused (fused_product a b) (plain_product a b));
  pair_times_pair = λ s a b. (passed s, cond s.fused (fused_pair_times_pair a b) (plain_pair_times_pair a b));
  pair_times_number = λ s a b. (passed s, cond s.fused (fused_pair_times_number a b) (plain_pair_times_number a b));
  multiply_add = λ s a b c. (passed s, cond s.fused (fused_multiply_add a b c) (plain_multiply_add a b c));
}
