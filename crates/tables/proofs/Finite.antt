-- Finite numbers are no NaN, at each place of a table. Assumes nothing.
use Rattle.std.proofs.Common.{◌≡◌, ℕ, ◌%◌, ◌/◌, ◌^◌, ◌<◌, Bool, true, false, not, ◌&&◌, T, List, length, get_or, map, sym, subst, ◌∙◌, arith, rules}
use Rattle.std.specs.Float.{binary64}
use Rattle.std.specs.Float.Ieee.{nan_bits}
use Rattle.std.specs.List.{list_all}
use Rattle.std.proofs.Math.Facts.{ltb_yes}
use Rattle.std.proofs.lemmas.Bool.{ne_eqb}
use Rattle.std.proofs.lemmas.List.Folds.{list_all-map}
use Rattle.std.proofs.lemmas.List.Sums.{AllPass-from_list_all}
use Rattle.std.proofs.lemmas.List.Elements.{All-get_or}
use Rattle.tables.specs.Finite.{is_finite, are_finite}

neither : (e f : Bool) → e ≡ false → T (not (e && f))
neither e f h = subst (λ b. T (not (b && f))) (sym h) tt

no_nan : (b : ℕ) → is_finite b ≡ true → T (not (nan_bits binary64 b))
unfolding nan_bits
no_nan b h =
    let l : b % 2 ^ 63 / 2 ^ 52 < 2047 = ltb_yes (subst T (sym h) tt) in
    neither _ _ (ne_eqb (b % 2 ^ 63 / 2 ^ 52) 2047 (λ e. omega (arith, l, e)))

pub passes_at : {X : Type 0} (p : X → Bool) (xs : List X) (i : ℕ) (d : X) → i < length xs → list_all p xs ≡ true → p (get_or xs i d) ≡ true
passes_at p xs i d h e = All-get_or (λ x. p x ≡ true) xs i d h (AllPass-from_list_all p xs e)

pub no_nan_at : (bs : List ℕ) (i : ℕ) → i < length bs → list_all is_finite bs ≡ true → T (not (nan_bits binary64 (get_or bs i 0)))
no_nan_at bs i h e = no_nan (get_or bs i 0) (passes_at is_finite bs i 0 h e)

pub no_nan_low : (ps : List (ℕ × ℕ)) (i : ℕ) → i < length ps → list_all are_finite ps ≡ true → T (not (nan_bits binary64 (get_or ps i (0, 0)).0))
no_nan_low ps i h e = let f = passes_at are_finite ps i (0, 0) h e in no_nan _ (search rules)

pub no_nan_high : (ps : List (ℕ × ℕ)) (i : ℕ) → i < length ps → list_all are_finite ps ≡ true → T (not (nan_bits binary64 (get_or ps i (0, 0)).1))
no_nan_high ps i h e = let f = passes_at are_finite ps i (0, 0) h e in no_nan _ (search rules)

pub row_finite : {R : Type 0} (p : R → List ℕ) (rows : List R) (row : ℕ) (d : R) → row < length rows → list_all (list_all is_finite) (map p rows) ≡ true → list_all is_finite (p (get_or rows row d)) ≡ true
row_finite p rows row d h e = passes_at (λ r. list_all is_finite (p r)) rows row d h (sym (list_all-map (list_all is_finite) p rows) ∙ e)
