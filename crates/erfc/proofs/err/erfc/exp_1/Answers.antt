use Rattle.std.proofs.Common.{◌≡◌, ℤ, pos, negsuc, ◌≤ℤ◌, sym, ◌∙◌, subst, lit≤, w64, SFits, rules}
use Rattle.std.proofs.lemmas.Int.{to_z-of_z}
use Rattle.std.specs.Float.Ieee.{to_signed}
use Rattle.erfc.specs.Exponentials.{exp1, floor_div}
use Rattle.erfc.proofs.Casts.{castable, cast_is, cast_within, back_64}
use Rattle.erfc.proofs.Indices.{exponent_low, exponent_high}
use Rattle.erfc.proofs.err.erfc.exp_1.Goals as goal

pub float_to_int-ki : goal.float_to_int-ki
float_to_int-ki g c =
    let h = castable _ 48999 3999999 63 c.requires (lit≤ tt) (lit≤ tt) in
    search rules

pub power_of_two-scale-requires : goal.power_of_two-scale-requires
power_of_two-scale-requires g c =
    let back = back_64 c.round_ties_even-k.result in
    let f : SFits w64 c.reduced_indices-m.result.0 = search rules in
    let h = cast_is _ 48999 3999999 63 c.requires (lit≤ tt) (lit≤ tt) in
    let k : to_signed 63 c.round_ties_even-k.result ≡ negsuc c.requires.n = search rules in
    let m : c.reduced_indices-m.result.0 ≡ floor_div (to_signed 63 c.round_ties_even-k.result) 4096 = search rules in
    let e = to_z-of_z w64 c.reduced_indices-m.result.0 f ∙ m in
    let between : ℤ → Type 0 = λ z. (negsuc 1021 ≤ℤ z) × (z ≤ℤ pos 1023) in
    let b = subst between (sym e) (exponent_low _ c.requires.n k c.requires.most, exponent_high _ c.requires.n k) in
    record { n_low = b.0; n_high = b.1 }

pub invariant_of-result : goal.invariant_of-result
invariant_of-result g c =
    let back = back_64 c.round_ties_even-k.result in
    let b = cast_within _ 48999 3999999 63 c.requires (lit≤ tt) (lit≤ tt) _ (search rules) in
    record { k_low = b.0; k_high = b.1 }

pub returns : goal.returns
unfolding exp1
returns g c =
    let back = back_64 c.round_ties_even-k.result in
    record { k = search rules; result = search rules }
