-- Pairs near a number, measured at any scale: their sizes, their products, and what the steps ask of an f64. Assumes nothing.
use Rattle.std.proofs.Common.{◌≡◌, ℕ, zero, ◌+◌, ◌*◌, ◌/◌, ◌^◌, ◌<◌, ◌≤◌, nat_abs, inl, inr, le_trans, mul-le-mul_left, mul-pos, le_of_mul-le-mul_right, arith, lit<}
use lib.Ieee.{Float, binary64}
use lib.Ieee.Fits.{add-fits, sub-fits}
use Rattle.ieee.specs.Val.{val}
use Rattle.ieee.specs.Meaning.{Number, Operand}
use Rattle.ieee.proofs.Floats.{quick_add}
use Rattle.ieee.proofs.Highs.{good_operand}
use Rattle.double_double.specs.declared.double_double.DoubleDouble.{DoubleDouble}
use Rattle.double_double.specs.Ops.{Ops, Meaning}
use Rattle.double_double.specs.Pairs.{fast_two_sum}
use Rattle.bounds.specs.Num.{Q, ◌⊗◌, mag, whole, tiny, Same, Within}
use Rattle.bounds.specs.Floats.{exactly}
use Rattle.bounds.specs.Formulas.{sum_of}
use Rattle.bounds.proofs.Near as N
use Rattle.bounds.proofs.Computed as Comp
use Rattle.bounds.proofs.Relative as Rel
use Rattle.bounds.proofs.Scale.{Least, near_least, least_weaken, in_units, least_units}
use Rattle.bounds.proofs.Mixed as M
use Rattle.bounds.proofs.FromMeaning.{pairs_mean, exact_sum}

-- the pair p of f64 numbers near A: |hi| ≤ h / K, |lo| ≤ l / K, off by e / K at most, and A between f / K and s / K
pub record At (K : ℕ) (K>0 : zero < K) (p : DoubleDouble) (A : Q) (h l e s f : ℕ) : Type 0 where
  pub lo_number : Number p.lo
  pub hi_number : Number p.hi
  pub hi : N.Abs K K>0 (exactly p.hi) h
  pub lo : N.Abs K K>0 (exactly p.lo) l
  pub near : N.Near K K>0 (sum_of p) A e
  pub size : N.Abs K K>0 A s
  pub least : Least K A f

-- a pair within 2 ^ -i |A| of A, with a low part of at most 2 ^ -j |A|, where |A| ≤ s / K
module _ {K : ℕ} {K>0 : zero < K} (p : DoubleDouble) {A : Q} {s : ℕ} (i j : ℕ) (near : Within (sum_of p) A (tiny i ⊗ mag A)) (low : Within (exactly p.lo) (whole 0) (tiny j ⊗ mag A)) (size : N.Abs K K>0 A s) where
  pub sum_near : N.Near K K>0 (sum_of p) A (Comp.shr K K>0 s i)
  sum_near = N.within_near near (Comp.shr_ok i (N.abs_mag size))

  pub low_size : N.Abs K K>0 (exactly p.lo) (Comp.shr K K>0 s j)
  low_size = Comp.zero_abs (N.within_near low (Comp.shr_ok j (N.abs_mag size)))

  pub high_size : N.Abs K K>0 (exactly p.hi) (s + (Comp.shr K K>0 s j + Comp.shr K K>0 s i))
  high_size = N.abs_near size (N.near_sym (N.near_trans (N.near_sym (Comp.kept (exactly p.hi) low_size)) sum_near))

-- weaker bounds of the pair
pub weaken_at : {K : ℕ} {K>0 : zero < K} {p : DoubleDouble} {A : Q} {h l e s f h' l' e' : ℕ} → h ≤ h' → l ≤ l' → e ≤ e' → At K K>0 p A h l e s f → At K K>0 p A h' l' e' s f
weaken_at i j k a = record { lo_number = a.lo_number; hi_number = a.hi_number; hi = Comp.abs_weaken i a.hi; lo = Comp.abs_weaken j a.lo; near = N.near_weaken k a.near; size = a.size; least = a.least }

-- an equal number
pub same_at : {K : ℕ} {K>0 : zero < K} {p : DoubleDouble} {A B : Q} {h l e s f : ℕ} → Same A B → At K K>0 p A h l e s f → At K K>0 p B h l e s f
same_at {e = e} {f = f} i a =
    let n = N.near_same i in
    record {
      lo_number = a.lo_number;
      hi_number = a.hi_number;
      hi = a.hi;
      lo = a.lo;
      near = N.near_weaken (omega arith) (N.near_trans a.near n);
      size = Comp.abs_weaken (omega arith) (N.abs_near a.size n);
      least = near_least {e = 0} {k = f} (least_weaken (omega arith) a.least) n;
    }

-- the high part from below
pub high_least : {K : ℕ} {K>0 : zero < K} (p : DoubleDouble) {A : Q} {h l e s f : ℕ} (k : ℕ) → At K K>0 p A h l e s f → k + (e + l) ≤ f → Least K (exactly p.hi) k
high_least p {l = l} {e = e} k a i = near_least {e = e + l} {k = k} (least_weaken i a.least) (N.near_trans (N.near_sym a.near) (Comp.kept (exactly p.hi) a.lo))

-- ---- operands
pub number_of : {x : Float} → Operand x → Number x
number_of o = record { holds = o.holds; number = o.number }

pub record Operands (p : DoubleDouble) : Type 0 where
  pub lo : Operand p.lo
  pub hi : Operand p.hi

-- at a scale of at least c
pub operands : {K : ℕ} {K>0 : zero < K} {p : DoubleDouble} {A : Q} {h l e s f : ℕ} (c : ℕ) → c ≤ K → At K K>0 p A h l e s f → h * 2 ^ 1074 ≤ 2 ^ 1474 * c → l * 2 ^ 1074 ≤ 2 ^ 1474 * c → Operands p
operands {K} {K>0} {p} c g a i j = record { lo = one p.lo a.lo_number a.lo j; hi = one p.hi a.hi_number a.hi i }
  where
    one : (x : Float) {m : ℕ} → Number x → N.Abs K K>0 (exactly x) m → m * 2 ^ 1074 ≤ 2 ^ 1474 * c → Operand x
    one x n h l = record { holds = n.holds; number = n.number; small = le_of_mul-le-mul_right (le_trans (in_units (val x) h) (le_trans l (mul-le-mul_left (2 ^ 1474) g))) K>0 }

-- ---- the product of two pairs, with at most t units for 2 ^ -1070
abbrev pub product_high : ℕ → ℕ → ℕ → ℕ
product_high h i t = h * i + (h * i / 2 ^ 53 + 1 + t)

-- the error of the product itself
abbrev own_error : ℕ → ℕ → ℕ → ℕ → ℕ → ℕ
own_error h l i k t = l * k + ((h * k + l * i) / 2 ^ 50 + 1) + (h * i / 2 ^ 104 + 1) + t

abbrev pub product_low : ℕ → ℕ → ℕ → ℕ → ℕ → ℕ
product_low h l i k t = own_error h l i k t + (l * (i + k) + k * h) + (h * i / 2 ^ 53 + 1 + t)

-- with the errors e and f of its factors, where the first is near a number of at most r
abbrev pub product_error : ℕ → ℕ → ℕ → ℕ → ℕ → ℕ → ℕ → ℕ → ℕ
product_error h l e r i k f t = own_error h l i k t + (e * (i + k) + f * r)

module _ {S : Type 0} (o : Ops S) (m : Meaning o) where
  pub product_at : (s : S) {A B : ℕ} {A>0 : zero < A} {B>0 : zero < B} {a b : DoubleDouble} {X Y : Q} {h l e r f i k e' r' f' : ℕ} (t : ℕ) → A * B ≤ t * 2 ^ 1070
      → At A A>0 a X h l e r f → Operands a → At B B>0 b Y i k e' r' f' → Operands b
      → At (A * B) (mul-pos A>0 B>0) (o.pair_times_pair s a b).1 (X ⊗ Y) (product_high h i t) (product_low h l i k t) (product_error h l e r i k e' t) (r * r') (f * f')
  product_at s {A>0 = A>0} {B>0 = B>0} {a} {b} t small x ox y oy =
      let v = (o.pair_times_pair s a b).1 in
      let w = m.pair_times_pair s a b ox.lo ox.hi oy.lo oy.hi in
      let p = pairs_mean a.lo a.hi b.lo b.hi v.lo v.hi w in
      record {
        lo_number = w.low;
        hi_number = w.high;
        hi = M.high_size t x.hi x.lo y.hi y.lo small p;
        lo = M.low_size t x.hi x.lo y.hi y.lo small p;
        near = N.near_trans (M.pair_near t x.hi x.lo y.hi y.lo small p) (M.product x.near (N.abs_add y.hi y.lo) y.near x.size);
        size = M.size x.size y.size;
        least = M.least A>0 B>0 x.least y.least;
      }

-- (P I) E = E I P
pub turn : (p i e : Q) → Same (p ⊗ i ⊗ e) (e ⊗ i ⊗ p)
turn p i e = record { same = omega arith }

-- ---- the two parts of a pair added exactly: the larger one leads
pub leads_at : {K : ℕ} {K>0 : zero < K} (p : DoubleDouble) {A : Q} {h l e s f : ℕ} → At K K>0 p A h l e s f → l + (e + l) ≤ f → nat_abs (val p.lo) ≤ nat_abs (val p.hi)
leads_at {K>0 = K>0} p {l = l} a i = le_of_mul-le-mul_right (le_trans (in_units (val p.lo) a.lo) (least_units (val p.hi) (high_least p l a i))) K>0

-- that sum: a pair near the same number, with a low part of half a last digit
pub sum_at : {K : ℕ} {K>0 : zero < K} (p : DoubleDouble) {A : Q} {h l e s f : ℕ} → Operands p → At K K>0 p A h l e s f → l + (e + l) ≤ f
    → At K K>0 (fast_two_sum p.hi p.lo) A (h + l + 0 + ((h + l) / 2 ^ 53 + 1)) ((h + l) / 2 ^ 53 + 1) (0 + e) s f
sum_at p o a i =
    let lo = (fast_two_sum p.hi p.lo).lo in
    let hi = (fast_two_sum p.hi p.lo).hi in
    let w = quick_add p.hi p.lo 1474 (good_operand p.hi o.hi) (good_operand p.lo o.lo) (inr (inl (leads_at p a i))) (lit< tt) in
    let x = exact_sum p.hi p.lo lo hi w in
    let t = N.abs_add a.hi a.lo in
    let n = N.near_same x.sum in
    let l = Comp.zero_abs (N.within_near x.lo (Comp.shr_ok 53 (N.abs_mag t))) in
    record {
      lo_number = record { holds = sub-fits binary64 _ _; number = w.lo_number };
      hi_number = record { holds = add-fits binary64 p.hi p.lo; number = w.hi_number };
      hi = N.abs_near (N.abs_near t (N.near_sym n)) (Comp.kept (exactly hi) l);
      lo = l;
      near = N.near_trans n a.near;
      size = a.size;
      least = a.least;
    }

-- ---- relative bounds: the pair is within q |A| of A, and its low part at most t |A|
pub record Relative (p : DoubleDouble) (A q t : Q) : Type 0 where
  pub operands : Operands p
  pub near : Within (sum_of p) A (q ⊗ mag A)
  pub low_small : Within (exactly p.lo) (whole 0) (t ⊗ mag A)

pub relative_at : {K : ℕ} {K>0 : zero < K} {p : DoubleDouble} {A : Q} {h l e s f : ℕ} (q t : Q) → q.dn ≡ 0 → t.dn ≡ 0 → Operands p → At K K>0 p A h l e s f → e * q.den ≤ q.up * f → l * t.den ≤ t.up * f → Relative p A q t
relative_at q t y z o a i j = record { operands = o; near = Rel.relative q y a.near a.least i; low_small = Rel.relative_to t z a.lo a.least j }
