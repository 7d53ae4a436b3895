-- The entries of the two exponential tables: a high part of at least 1, a low part of at most 2 ^ -53. Assumes nothing.
use Rattle.std.proofs.Common.{◌≡◌, ℕ, ◌+◌, ◌-◌, ◌*◌, ◌^◌, ◌<◌, Bool, true, ◌&&◌, T, refl, sym, subst, leb, get_or, leb→le}
use lib.Ieee.{binary64, of_bits}
use lib.Ieee.Scale.{finite}
use Rattle.double_double.specs.declared.double_double.DoubleDouble.{DoubleDouble}
use Rattle.double_double.specs.Pairs.{bit_pair}
use Rattle.tables.specs.Exp.{reduce_table0, reduce_table1, reduce0, reduce1}
use Rattle.std.specs.List.{list_all}
use Rattle.tables.proofs.Finite.{passes_at}
use Rattle.bounds.specs.Num.{Q, ◌⊕◌}
use Rattle.bounds.specs.Floats.{exactly}
use Rattle.bounds.specs.Formulas.{sum_of}
use Rattle.bounds.proofs.Near.{abs_add, near_refl}
use Rattle.bounds.proofs.Computed.{size_of}
use Rattle.bounds.proofs.Computed as Comp
use Rattle.bounds.proofs.Scale.{Least, sum_least}
use Rattle.bounds.proofs.Sizes.{known}
use Rattle.bounds.proofs.Chain.{G, G>0, abs_to, least_to}
use Rattle.bounds.proofs.AtScale.{At}

-- an entry, as a number: a high part from 1 to h / G and a low part of at most 2 ^ -53
abbrev pub Entry : DoubleDouble → ℕ → Type 0
Entry p h = At G G>0 p (sum_of p) h (2 ^ 203 + 1) 0 (h + (2 ^ 203 + 1)) (2 ^ 256 - 2 ^ 204)

-- the test of one entry
abbrev least? : Q → Bool
least? a = leb (a.dn * G + 2 ^ 256 * a.den) (a.up * G)

abbrev sized? : ℕ → ℕ × ℕ → Bool
sized? h p = leb (Comp.above G G>0 (exactly (of_bits binary64 p.0))) (2 ^ 203 + 1) && leb (Comp.above G G>0 (exactly (of_bits binary64 p.1))) h && least? (exactly (of_bits binary64 p.1))

abbrev finite? : ℕ × ℕ → Bool
finite? p = finite (of_bits binary64 p.0) && finite (of_bits binary64 p.1)

abbrev entry? : ℕ → ℕ × ℕ → Bool
entry? h p = finite? p && sized? h p

entry : (h : ℕ) (p : ℕ × ℕ) → T (entry? h p) → Entry (bit_pair p) h
entry h p t =
    let lo = exactly (of_bits binary64 p.0) in
    let hi = exactly (of_bits binary64 p.1) in
    let f = Comp.and_l (finite? p) (sized? h p) t in
    let s = Comp.and_r (finite? p) (sized? h p) t in
    let l = leb (Comp.above G G>0 lo) (2 ^ 203 + 1) in
    let u = leb (Comp.above G G>0 hi) h in
    let hs = abs_to h (size_of hi) (Comp.and_r l u (Comp.and_l (l && u) (least? hi) s)) in
    let ls = abs_to (2 ^ 203 + 1) (size_of lo) (Comp.and_l l u (Comp.and_l (l && u) (least? hi) s)) in
    let from : Least G hi (2 ^ 256) = record { le = leb→le (hi.dn * G + 2 ^ 256 * hi.den) (hi.up * G) (Comp.and_r (l && u) (least? hi) s) } in
    record {
      lo_number = known p.0 (Comp.and_l (finite (of_bits binary64 p.0)) (finite (of_bits binary64 p.1)) f);
      hi_number = known p.1 (Comp.and_r (finite (of_bits binary64 p.0)) (finite (of_bits binary64 p.1)) f);
      hi = hs;
      lo = ls;
      near = near_refl (hi ⊕ lo);
      size = abs_add hs ls;
      least = sum_least {k = 2 ^ 256 - 2 ^ 204} {n = 2 ^ 203 + 1} (least_to (2 ^ 256 - 2 ^ 204 + (2 ^ 203 + 1)) from tt) ls;
    }

table_0 : list_all (entry? (2 ^ 257)) reduce_table0 ≡ true
unfolding of_bits
table_0 = refl

table_1 : list_all (entry? (2 ^ 256 + 2 ^ 250)) reduce_table1 ≡ true
unfolding of_bits
table_1 = refl

pub entry_0 : (i : ℕ) → i < 64 → Entry (reduce0 i) (2 ^ 257)
entry_0 i h = entry (2 ^ 257) (get_or reduce_table0 i (0, 0)) (subst T (sym (passes_at (entry? (2 ^ 257)) reduce_table0 i (0, 0) h table_0)) tt)

pub entry_1 : (i : ℕ) → i < 64 → Entry (reduce1 i) (2 ^ 256 + 2 ^ 250)
entry_1 i h = entry (2 ^ 256 + 2 ^ 250) (get_or reduce_table1 i (0, 0)) (subst T (sym (passes_at (entry? (2 ^ 256 + 2 ^ 250)) reduce_table1 i (0, 0) h table_1)) tt)
