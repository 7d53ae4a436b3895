use Rattle.std.proofs.Common.{lit≤, w32, to_z, of_z, rules}
use Rattle.std.specs.Float.Ieee.{to_signed}
use Rattle.erfc.proofs.Casts.{castable, cast_within, back_32}
use Rattle.erfc.proofs.err.erfc.exp_accurate.Goals as goal

pub float_to_int-k : goal.float_to_int-k
float_to_int-k g c =
    let h = castable _ 11 1069 31 c.requires (lit≤ tt) (lit≤ tt) in
    search rules

pub overflow_sub-k : goal.overflow_sub-k
overflow_sub-k g c =
    let back = back_32 c.round_ties_even-k.result in
    let b = cast_within _ 11 1069 31 c.requires (lit≤ tt) (lit≤ tt) (to_z w32 (of_z w32 (to_signed 31 c.round_ties_even-k.result))) (search rules) in
    let low = b.0 in
    let high = b.1 in
    search rules

pub invariant_of-result : goal.invariant_of-result
invariant_of-result g c =
    let back = back_32 c.round_ties_even-k.result in
    let b = cast_within _ 11 1069 31 c.requires (lit≤ tt) (lit≤ tt) _ (search rules) in
    record { e_low = b.0; e_high = b.1 }
