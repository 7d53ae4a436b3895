use Rattle.std.proofs.Common.{◌≡◌, Bool, true, false, T, sym, ap, ◌∙◌, subst, rules}
use lib.Ieee.{Float, binary64, fits, of_bits, neg, lt, eq}
use Rattle.std.specs.Float.{round_ties_even}
use Rattle.ieee.specs.Meaning.{Number}
use Rattle.ieee.specs.Nearest.{NearestWhole}
use Rattle.ieee.proofs.PlainWords.{whole_nearest}
use Rattle.ieee.specs.Shifted.{shifted}
use Rattle.ieee.proofs.Shift.{shift_round, shift_zero}
use Rattle.erfc.proofs.rounding.round_ties_even.round_ties_even.Goals as goal

holds : (b : Bool) → b ≡ true → T b
holds b e = subst T (sym e) tt

-- -2 ^ 51, by its bits
low_side : (x : Float) → lt (neg (of_bits binary64 0x4320000000000000)) x ≡ true → T (lt (of_bits binary64 0xc320000000000000) x)
unfolding of_bits neg
low_side x h = holds _ h

test_of : (r x : Float) (b : Bool) → r ≡ shifted x → eq r (of_bits binary64 0) ≡ b → eq (shifted x) (of_bits binary64 0) ≡ b
test_of r x b e h = ap (λ (z : Float). eq z (of_bits binary64 0)) (sym e) ∙ h

-- a value of the definition is the nearest whole number
both : (x r : Float) → r ≡ round_ties_even binary64 x → (Number x → NearestWhole x r)
both x r e n = subst (NearestWhole x) (sym e) (whole_nearest x n)

pub returns-then-r : goal.returns-then-r
returns-then-r c =
    let f : T (fits binary64 c.args.x) = search rules in
    let e = shift_zero c.args.x f (low_side c.args.x c.if-x.true) (holds _ c.if-x-2.true) (test_of _ c.args.x true c.shift_round-r.ensures c.if-r.true) in
    record { value = e; nearest = both c.args.x _ e }

pub returns-else-r : goal.returns-else-r
returns-else-r c =
    let f : T (fits binary64 c.args.x) = search rules in
    let e = c.shift_round-r.ensures ∙ shift_round c.args.x f (low_side c.args.x c.if-x.true) (holds _ c.if-x-2.true) (test_of _ c.args.x false c.shift_round-r.ensures c.if-r.false) in
    record { value = e; nearest = both c.args.x _ e }

pub returns-else-x : goal.returns-else-x
returns-else-x c = record { value = c.round_ties_even.ensures; nearest = both c.args.x _ c.round_ties_even.ensures }
