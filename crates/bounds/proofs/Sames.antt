-- The laws of sums and products of numbers. Assumes nothing.
use Rattle.std.proofs.Common.{arith}
use Rattle.bounds.specs.Num.{Q, ◌⊕◌, ◌⊗◌, whole, Same}

pub sum_turned : (a b : Q) → Same (a ⊕ b) (b ⊕ a)
sum_turned a b = record { same = omega arith }

pub sum_grouped : (a b c : Q) → Same (a ⊕ b ⊕ c) (a ⊕ (b ⊕ c))
sum_grouped a b c = record { same = omega arith }

pub product_turned : (a b : Q) → Same (a ⊗ b) (b ⊗ a)
product_turned a b = record { same = omega arith }

pub product_grouped : (a b c : Q) → Same (a ⊗ b ⊗ c) (a ⊗ (b ⊗ c))
product_grouped a b c = record { same = omega arith }

-- c a + c b = c (a + b)
pub spread : (c a b : Q) → Same (c ⊗ a ⊕ c ⊗ b) (c ⊗ (a ⊕ b))
spread c a b = record { same = omega arith }

pub by_one : (a : Q) → Same (a ⊗ whole 1) a
by_one a = record { same = omega arith }
