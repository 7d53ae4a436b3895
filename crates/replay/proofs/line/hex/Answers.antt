use Rattle.std.proofs.Common.{sym, ◌∙◌, arith}
use Rattle.replay.proofs.Digits.{next_below, below_60, digit_more}
use Rattle.replay.proofs.line.hex.Goals as goal

pub overflow_mul-value : goal.overflow_mul-value
overflow_mul-value c = let h = below_60 c.loop-b.value c.loop-b.b-index c.loop-b.invariant.0 (omega arith) in omega arith

pub overflow_add-value : goal.overflow_add-value
overflow_add-value c = let h = below_60 c.loop-b.value c.loop-b.b-index c.loop-b.invariant.0 (omega arith) in omega (arith, c.in_ok-value.ensures.bound)

pub loop-b-preserved : goal.loop-b-preserved
loop-b-preserved c = (
  next_below c.loop-b.value c.in_ok-value.field-0 c.loop-b.b-index c.loop-b.invariant.0 c.in_ok-value.ensures.bound,
  sym (digit_more c.args.digits.now c.loop-b.value c.loop-b.b-index c.in_ok-value.field-0 c.loop-b-test.true (sym c.in_ok-value.ensures.value)) ∙ c.loop-b.invariant.1,
)
