-- Several tests; and the rules of the loops: each turn adds one number of a table, or two. Assumes nothing.
use Rattle.std.proofs.Common.{ℕ, zero, suc, ◌+◌, ◌*◌, Bool, true, ◌&&◌, T, List, [], ◌∷◌, get_or}
use lib.Ieee.{Float, binary64, of_bits}
use lib.Ieee.Scale.{finite}
use Rattle.erfc.specs.Horner.{plus, plus_both}
use Rattle.bounds.specs.Num.{◌⊕◌}
use Rattle.bounds.specs.Floats.{exactly}
use Rattle.bounds.proofs.Computed as Comp
use Rattle.bounds.proofs.Sizes.{known}
use Rattle.bounds.proofs.Loop.{State, Rule, sum_by, added, safe, added_holds, added_both, safe_both, both_holds}

abbrev pub conj : List Bool → Bool
conj [] = true
conj (b ∷ bs) = b && conj bs

pub pick : (n : ℕ) (bs : List Bool) → T (conj bs) → T (get_or bs n true)
pick zero [] t = tt
pick zero (b ∷ bs) t = Comp.and_l b (conj bs) t
pick (suc n) [] t = tt
pick (suc n) (b ∷ bs) t = pick n bs (Comp.and_r b (conj bs) t)

-- how two numbers are added, and the bits of the table
module _ (b : Bool) (bits : List ℕ) where
  abbrev number : ℕ → Float
  number n = of_bits binary64 (get_or bits n 0)

  -- turn n adds number n + first
  abbrev pub adds_one : (first : ℕ) → Rule (λ n v. plus (sum_by b) (number (n + first)) v)
  adds_one first = record {
    next = λ n V. added V (number (n + first));
    exact = λ n X. exactly (number (n + first)) ⊕ X;
    test = λ n V. finite (number (n + first)) && safe b V (number (n + first));
    sound = λ n V v X h t.
        let c = number (n + first) in
        added_holds b V c v X (known (get_or bits (n + first) 0) (Comp.and_l (finite c) (safe b V c) t)) h (Comp.and_r (finite c) (safe b V c) t);
  }

  abbrev both_test : ℕ → State → Bool
  both_test n V = finite (number (2 * n + 1)) && safe_both b V (number (2 * n)) (number (2 * n + 1))

  -- turn n adds numbers 2 n and 2 n + 1
  abbrev pub adds_both : Rule (λ n v. plus_both (sum_by b) (number (2 * n)) (number (2 * n + 1)) v)
  adds_both = record {
    next = λ n V. added_both V (number (2 * n)) (number (2 * n + 1));
    exact = λ n X. exactly (number (2 * n)) ⊕ exactly (number (2 * n + 1)) ⊕ X;
    test = λ n V. finite (number (2 * n)) && both_test n V;
    sound = λ n V v X h t.
        let c = number (2 * n) in
        let d = number (2 * n + 1) in
        let r = Comp.and_r (finite c) (both_test n V) t in
        both_holds b V c d v X (known (get_or bits (2 * n) 0) (Comp.and_l (finite c) (both_test n V) t)) (known (get_or bits (2 * n + 1) 0) (Comp.and_l (finite d) (safe_both b V c d) r)) h (Comp.and_r (finite d) (safe_both b V c d) r);
  }
