-- The product of two table entries and the polynomial's pair: within 2 ^ -71.9 of the exact product, which is near 1 or above. Assumes nothing.
use Rattle.std.proofs.Common.{ℕ, ◌+◌, ◌-◌, ◌^◌}
use Rattle.double_double.specs.declared.double_double.DoubleDouble.{DoubleDouble}
use Rattle.double_double.specs.Ops.{Ops, Meaning}
use Rattle.bounds.specs.Num.{Q, ◌⊗◌}
use Rattle.bounds.specs.Formulas.{sum_of, polynomial, exp_coefficients}
use Rattle.bounds.proofs.Chain.{G, G>0, near_to, abs_to, least_product}
use Rattle.bounds.proofs.AtScale.{At}
use Rattle.bounds.proofs.Loop.{Holds, turned_holds, times_ready}
use Rattle.bounds.proofs.ExpPoly.{Q1Near}
use Rattle.bounds.proofs.ExpTables.{Entry}

abbrev pub ProductNear : DoubleDouble → Q → Type 0
ProductNear v e = At G G>0 v e (2 ^ 258) (2 ^ 215 + 2 ^ 211) (2 ^ 184 + 2 ^ 180) (2 ^ 259) (2 ^ 256 - 2 ^ 246)

holds_of : {p : DoubleDouble} {A : Q} {h l e s f : ℕ} → At G G>0 p A h l e s f → Holds (record { high = h; low = l; error = e; size = s }) p A
holds_of a = record { lo_number = a.lo_number; hi_number = a.hi_number; parts = record { hi = a.hi; lo = a.lo }; near = a.near; size = a.size }

module _ {S : Type 0} (o : Ops S) (m : Meaning o) where
  -- a and b are entries, q is the polynomial's pair
  pub product_near_exact : (s s' : S) (a b q : DoubleDouble) (w : Q) → Entry a (2 ^ 256 + 2 ^ 250) → Entry b (2 ^ 257) → Q1Near q w
      → ProductNear (o.pair_times_pair s' (o.pair_times_pair s a b).1 q).1 (sum_of b ⊗ sum_of a ⊗ polynomial w exp_coefficients)
  product_near_exact s s' a b q w A B C =
      let t = (o.pair_times_pair s a b).1 in
      let T = turned_holds (sum_of a) (sum_of b) (times_ready o m s a b (holds_of A) (holds_of B) tt tt) in
      let V = times_ready o m s' t q T (holds_of C) tt tt in
      record {
        lo_number = V.lo_number;
        hi_number = V.hi_number;
        hi = abs_to (2 ^ 258) V.parts.hi tt;
        lo = abs_to (2 ^ 215 + 2 ^ 211) V.parts.lo tt;
        near = near_to (2 ^ 184 + 2 ^ 180) V.near tt;
        size = abs_to (2 ^ 259) V.size tt;
        least = least_product (2 ^ 256 - 2 ^ 246) (least_product {a = sum_of b} {b = sum_of a} (2 ^ 256 - 2 ^ 206) B.least A.least tt) C.least tt;
      }
