-- A shift that copies the sign, and a mask of the bits of a negative number, as quotient and remainder. Assumes nothing.
use Rattle.std.proofs.Common.{◌≡◌, ℕ, ◌/◌, ◌<◌, ℤ, pos, negsuc, ◌≤ℤ◌, sym, subst, arith, le→leb}
use Rattle.std.proofs.lemmas.Nat.{div_below}
use Rattle.erfc.specs.Exponentials.{floor_div}

-- the exponent of a multiple in the fast range
pub exponent_low : (k : ℤ) (n : ℕ) → k ≡ negsuc n → n < 4000000 → negsuc 1021 ≤ℤ floor_div k 4096
exponent_low k n e h =
    let d : n / 4096 < 977 = div_below n 4096 977 (omega arith) (omega arith) in
    subst (λ (z : ℤ). negsuc 1021 ≤ℤ floor_div z 4096) (sym e) (record { le = le→leb (n / 4096) 1021 (omega arith) })

pub exponent_high : (k : ℤ) (n : ℕ) → k ≡ negsuc n → floor_div k 4096 ≤ℤ pos 1023
exponent_high k n e = subst (λ (z : ℤ). floor_div z 4096 ≤ℤ pos 1023) (sym e) (record { le = tt })
