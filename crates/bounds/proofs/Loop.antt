-- The steps of a Horner loop over pairs of f64: from bounds on the operands, bounds on the result, all computed at the scale 2 ^ 256. Assumes nothing.
use Rattle.std.proofs.Common.{◌≡◌, ℕ, zero, suc, ◌+◌, ◌*◌, ◌^◌, ◌≤◌, Bool, true, false, ◌&&◌, T, leb, ℤ, pos, negsuc, nat_abs, subst₂, inl, inr, le_of_mul-le-mul_right, arith, lit<, leb→le, pow_pos}
use lib.Ieee.{Float, binary64, add}
use lib.Ieee.Fits.{add-fits, sub-fits}
use Rattle.ieee.specs.Val.{val}
use Rattle.ieee.specs.Pairs.{Good, SumOf}
use Rattle.ieee.specs.Meaning.{Number, Operand}
use Rattle.ieee.proofs.Floats.{quick_add, full_add, good_add}
use Rattle.double_double.specs.declared.double_double.DoubleDouble.{DoubleDouble}
use Rattle.double_double.specs.Pairs.{fast_two_sum, two_sum, number_plus_pair}
use Rattle.double_double.specs.Ops.{Ops, Meaning}
use Rattle.erfc.specs.Horner.{plus, plus_both, horner}
use Rattle.bounds.specs.Num.{Q, ◌⊕◌, ◌⊗◌, mag, whole}
use Rattle.bounds.specs.Steps.{Pair, AtMost, PairMul, ExactAdd}
use Rattle.bounds.specs.Floats.{pair_of, exactly, units}
use Rattle.bounds.specs.Formulas.{sum_of}
use Rattle.bounds.proofs.Near.{abs_add, abs_near, near_add, near_refl, near_sym}
use Rattle.bounds.proofs.Computed.{kept, product_size, size_of}
use Rattle.bounds.proofs.Near as N
use Rattle.bounds.proofs.Computed as Comp
use Rattle.bounds.proofs.Chain as C
use Rattle.bounds.proofs.Chain.{G, G>0, Near, Abs, Parts, mul_g, shr, abs_to, ◌then◌, one_plus, product_near, turned, turned_product, nothing, no_size, grouped, swap, rounded_near, exact_near, exact_low, exact_high, value_size, pair_near, pair_parts, pair_e, high_e}
use Rattle.bounds.proofs.Sizes.{sized_good, sized_operand, good_number}
use Rattle.bounds.proofs.FromMeaning.{madd_means, sum_means, exact_sum, pairs_mean}

-- |hi| ≤ high / G, |lo| ≤ low / G, the pair within error / G of a number of at most size / G
pub record State : Type 0 where
  pub high : ℕ
  pub low : ℕ
  pub error : ℕ
  pub size : ℕ

abbrev pub pair : DoubleDouble → Pair
pair p = pair_of p.lo p.hi

pub record Holds (S : State) (p : DoubleDouble) (X : Q) : Type 0 where
  pub lo_number : Number p.lo
  pub hi_number : Number p.hi
  pub parts : Parts (pair p) S.high S.low
  pub near : Near (sum_of p) X S.error
  pub size : Abs X S.size

-- ---- what is computed
abbrev pub above : Float → ℕ
above c = Comp.above G G>0 (exactly c)

-- at most 2 ^ 344, so that no step leaves the range of the meaning
abbrev pub modest : ℕ → Bool
modest m = leb m (2 ^ 600)

abbrev pub times : State → State → State
times S A = record {
  high = mul_g S.high A.high + high_e S.high A.high;
  low = pair_e S.high S.low A.high A.low + (mul_g S.low (A.high + A.low) + mul_g A.low S.high) + high_e S.high A.high;
  error = pair_e S.high S.low A.high A.low + (mul_g S.error (A.high + A.low) + mul_g A.error S.size);
  size = mul_g S.size A.size;
}

-- the low part of the exact sum with c, and the rounding of what is added to it
abbrev pub rest : State → Float → ℕ
rest V c = shr (above c + V.high) 53

abbrev pub lost : State → Float → ℕ
lost V c = shr (rest V c + V.low) 53

abbrev pub added : State → Float → State
added V c = record {
  high = above c + V.high + 0 + rest V c;
  low = rest V c + V.low + lost V c;
  error = lost V c + V.error;
  size = above c + V.size;
}

-- from_exact_add asks that c be the larger one
abbrev pub leads : Bool → State → Float → Bool
leads true V c = true
leads false V c = leb V.high (Comp.below G G>0 (exactly c))

abbrev pub safe : Bool → State → Float → Bool
safe b V c = leads b V c && (modest (above c) && (modest V.high && (modest V.low && modest (rest V c))))

-- ---- what it means
pub good : (x : Float) {m : ℕ} → Number x → Abs (exactly x) m → T (modest m) → Good x 1474
good x n h t = sized_good x n (abs_to (2 ^ 600) h t) 1474 tt

pub operand : (x : Float) {m : ℕ} → Number x → Abs (exactly x) m → T (modest m) → Operand x
operand x n h t = sized_operand x n (abs_to (2 ^ 600) h t) tt

pub times_holds : {S A : State} {z u : DoubleDouble} (v : DoubleDouble) {Z U : Q} → Holds S z Z → Holds A u U → PairMul (pair z) (pair u) (pair v) → Number v.lo → Number v.hi → Holds (times S A) v (Z ⊗ U)
times_holds v h k m l n = record {
  lo_number = l;
  hi_number = n;
  parts = pair_parts h.parts k.parts m;
  near = pair_near h.parts k.parts m then product_near h.near (value_size k.parts) k.near h.size;
  size = product_size h.size k.size;
}

pub turned_holds : {S : State} {v : DoubleDouble} (Z U : Q) → Holds S v (Z ⊗ U) → Holds S v (U ⊗ Z)
turned_holds Z U h = record {
  lo_number = h.lo_number;
  hi_number = h.hi_number;
  parts = h.parts;
  near = N.near_weaken (omega arith) (h.near then turned_product Z U);
  size = Comp.abs_weaken (omega arith) (abs_near h.size (turned_product Z U));
}

-- |v| ≤ |c| between f64 numbers
size_is : (z : ℤ) → (mag (units z)).up ≡ nat_abs z
size_is (pos n) = omega arith
size_is (negsuc n) = omega arith

smaller : (v c : Float) → AtMost (exactly v) (exactly c) → nat_abs (val v) ≤ nat_abs (val c)
smaller v c h = le_of_mul-le-mul_right (subst₂ (λ (m n : ℕ). m * 2 ^ 1074 ≤ n * 2 ^ 1074) (size_is (val v)) (size_is (val c)) h.most) (pow_pos 1074)

-- c + v exactly
abbrev pub sum_by : Bool → Float → Float → DoubleDouble
sum_by true c v = two_sum c v
sum_by false c v = fast_two_sum c v

sum_of_lem : (b : Bool) (c v : Float) (V : State) → Good c 1474 → Good v 1474 → Abs (exactly v) V.high → T (leads b V c) → SumOf c v (sum_by b c v).lo (sum_by b c v).hi
sum_of_lem true c v V gc gv h t = full_add c v 1474 gc gv (lit< tt)
sum_of_lem false c v V gc gv h t = quick_add c v 1474 gc gv (inr (inl (smaller v c (Comp.below_ok h (leb→le V.high (Comp.below G G>0 (exactly c)) t))))) (lit< tt)

lo_fits : (b : Bool) (c v : Float) → SumOf c v (sum_by b c v).lo (sum_by b c v).hi → Number (sum_by b c v).lo
lo_fits true c v s = record { holds = add-fits binary64 _ _; number = s.lo_number }
lo_fits false c v s = record { holds = sub-fits binary64 _ _; number = s.lo_number }

hi_fits : (b : Bool) (c v : Float) → SumOf c v (sum_by b c v).lo (sum_by b c v).hi → Number (sum_by b c v).hi
hi_fits true c v s = record { holds = add-fits binary64 c v; number = s.hi_number }
hi_fits false c v s = record { holds = add-fits binary64 c v; number = s.hi_number }

-- the test of one addition
pub record Passed (b : Bool) (V : State) (c : Float) : Type 0 where
  pub leads_it : T (leads b V c)
  pub of_c : T (modest (above c))
  pub of_high : T (modest V.high)
  pub of_low : T (modest V.low)
  pub of_rest : T (modest (rest V c))

pub passed : (b : Bool) (V : State) (c : Float) → T (safe b V c) → Passed b V c
passed b V c t =
    let t₁ = Comp.and_r (leads b V c) (modest (above c) && (modest V.high && (modest V.low && modest (rest V c)))) t in
    let t₂ = Comp.and_r (modest (above c)) (modest V.high && (modest V.low && modest (rest V c))) t₁ in
    let t₃ = Comp.and_r (modest V.high) (modest V.low && modest (rest V c)) t₂ in
    record {
      leads_it = Comp.and_l (leads b V c) (modest (above c) && (modest V.high && (modest V.low && modest (rest V c)))) t;
      of_c = Comp.and_l (modest (above c)) (modest V.high && (modest V.low && modest (rest V c))) t₁;
      of_high = Comp.and_l (modest V.high) (modest V.low && modest (rest V c)) t₂;
      of_low = Comp.and_l (modest V.low) (modest (rest V c)) t₃;
      of_rest = Comp.and_r (modest V.low) (modest (rest V c)) t₃;
    }

-- the exact sum of c and a number x, of the size of V's high part
pub record Summed (b : Bool) (V : State) (c x : Float) : Type 0 where
  pub exact : ExactAdd (exactly c) (exactly x) (pair (sum_by b c x))
  pub lo_good : Good (sum_by b c x).lo 1474
  pub hi_number : Number (sum_by b c x).hi
  pub lo_size : Abs (exactly (sum_by b c x).lo) (rest V c)
  pub hi_size : Abs (exactly (sum_by b c x).hi) (above c + V.high + 0 + rest V c)

pub summed : (b : Bool) (V : State) (c x : Float) → Number c → Number x → Abs (exactly x) V.high → Passed b V c → Summed b V c x
summed b V c x n i h p =
    let s = sum_of_lem b c x V (good c n (size_of (exactly c)) p.of_c) (good x i h p.of_high) h p.leads_it in
    let e = exact_sum c x (sum_by b c x).lo (sum_by b c x).hi s in
    let t = abs_add (size_of (exactly c)) h in
    let l = exact_low e t in
    record {
      exact = e;
      lo_good = good (sum_by b c x).lo (lo_fits b c x s) l p.of_rest;
      hi_number = hi_fits b c x s;
      lo_size = l;
      hi_size = exact_high e t;
    }

-- c + v, where w is the rounded sum of the low parts
low_added : (b : Bool) (V : State) (c w : Float) (v : DoubleDouble) (X : Q) → Number w → Holds V v X → Summed b V c v.hi → Near (exactly w) (exactly (sum_by b c v.hi).lo ⊕ exactly v.lo) (lost V c)
    → Holds (added V c) (record { lo = w; hi = (sum_by b c v.hi).hi }) (exactly c ⊕ X)
low_added b V c w v X n h s r =
    let lo = (sum_by b c v.hi).lo in
    let hi = (sum_by b c v.hi).hi in
    record {
      lo_number = n;
      hi_number = s.hi_number;
      parts = record { hi = s.hi_size; lo = abs_near (abs_add s.lo_size h.parts.lo) (near_sym r) };
      near = N.near_weaken (omega arith) (one_plus (exactly hi) r then near_sym (grouped (exactly hi) (exactly lo) (exactly v.lo)) then near_add (exact_near s.exact) (near_refl (exactly v.lo)) then grouped (exactly c) (exactly v.hi) (exactly v.lo) then one_plus (exactly c) h.near);
      size = abs_add (size_of (exactly c)) h.size;
    }

pub added_holds : (b : Bool) (V : State) (c : Float) (v : DoubleDouble) (X : Q) → Number c → Holds V v X → T (safe b V c) → Holds (added V c) (plus (sum_by b) c v) (exactly c ⊕ X)
added_holds b V c v X n h t =
    let p = passed b V c t in
    let s = summed b V c v.hi n h.hi_number h.parts.hi p in
    let lo = (sum_by b c v.hi).lo in
    let gv = good v.lo h.lo_number h.parts.lo p.of_low in
    let g = (good_add lo v.lo 1474 s.lo_good gv (lit< tt)).0 in
    low_added b V c (add binary64 lo v.lo) v X (good_number g) h s (rounded_near (sum_means lo v.lo 1474 s.lo_good gv (lit< tt)) (abs_add s.lo_size h.parts.lo))

-- the same with the low parts added the other way round
pub number_added : (V : State) (c : Float) (v : DoubleDouble) (X : Q) → Number c → Holds V v X → T (safe false V c) → Holds (added V c) (number_plus_pair c v) (exactly c ⊕ X)
number_added V c v X n h t =
    let p = passed false V c t in
    let s = summed false V c v.hi n h.hi_number h.parts.hi p in
    let lo = (fast_two_sum c v.hi).lo in
    let gv = good v.lo h.lo_number h.parts.lo p.of_low in
    let g = (good_add v.lo lo 1474 gv s.lo_good (lit< tt)).0 in
    let z = Comp.abs_weaken {n = rest V c + V.low} (omega arith) (abs_add h.parts.lo s.lo_size) in
    low_added false V c (add binary64 v.lo lo) v X (good_number g) h s
    (N.near_weaken {f = lost V c} (omega arith) (rounded_near (sum_means v.lo lo 1474 gv s.lo_good (lit< tt)) z then turned (exactly v.lo) (exactly lo)))

-- c + d + v, where d is the small part of a coefficient
abbrev pub inner : State → Float → ℕ
inner V d = shr (V.low + above d) 53

abbrev pub outer : State → Float → Float → ℕ
outer V c d = shr (rest V c + (V.low + above d + inner V d)) 53

abbrev pub added_both : State → Float → Float → State
added_both V c d = record {
  high = above c + V.high + 0 + rest V c;
  low = rest V c + (V.low + above d + inner V d) + outer V c d;
  error = outer V c d + (inner V d + V.error);
  size = above c + above d + V.size;
}

abbrev pub safe_both : Bool → State → Float → Float → Bool
safe_both b V c d = safe b V c && (modest (above d) && modest (V.low + above d + inner V d))

pub both_holds : (b : Bool) (V : State) (c d : Float) (v : DoubleDouble) (X : Q) → Number c → Number d → Holds V v X → T (safe_both b V c d) → Holds (added_both V c d) (plus_both (sum_by b) c d v) (exactly c ⊕ exactly d ⊕ X)
both_holds b V c d v X n nd h t =
    let t₁ = Comp.and_r (safe b V c) (modest (above d) && modest (V.low + above d + inner V d)) t in
    let p = passed b V c (Comp.and_l (safe b V c) (modest (above d) && modest (V.low + above d + inner V d)) t) in
    let s = summed b V c v.hi n h.hi_number h.parts.hi p in
    let lo = (sum_by b c v.hi).lo in
    let hi = (sum_by b c v.hi).hi in
    let w = add binary64 v.lo d in
    let gv = good v.lo h.lo_number h.parts.lo p.of_low in
    let gd = good d nd (size_of (exactly d)) (Comp.and_l (modest (above d)) (modest (V.low + above d + inner V d)) t₁) in
    let gw₀ = (good_add v.lo d 1474 gv gd (lit< tt)).0 in
    let ws = abs_add h.parts.lo (size_of (exactly d)) in
    let wn = rounded_near (sum_means v.lo d 1474 gv gd (lit< tt)) ws in
    let wz = abs_near ws (near_sym wn) in
    let gw = good w (good_number gw₀) wz (Comp.and_r (modest (above d)) (modest (V.low + above d + inner V d)) t₁) in
    let r = sum_means lo w 1474 s.lo_good gw (lit< tt) in
    let g = (good_add lo w 1474 s.lo_good gw (lit< tt)).0 in
    let rs = abs_add s.lo_size wz in
    let rn = rounded_near r rs in
    record {
      lo_number = good_number g;
      hi_number = s.hi_number;
      parts = record { hi = s.hi_size; lo = abs_near rs (near_sym rn) };
      near = N.near_weaken (omega arith)
          (one_plus (exactly hi) rn then one_plus (exactly hi) (one_plus (exactly lo) wn)
          then near_sym (grouped (exactly hi) (exactly lo) (exactly v.lo ⊕ exactly d)) then near_add (exact_near s.exact) (near_refl (exactly v.lo ⊕ exactly d))
          then swap (exactly c) (exactly v.hi) (exactly v.lo) (exactly d) then one_plus (exactly c ⊕ exactly d) h.near);
      size = abs_add (abs_add (size_of (exactly c)) (size_of (exactly d))) h.size;
    }

-- ---- one number, near X
pub record One (S : State) (z : Float) (X : Q) : Type 0 where
  pub number : Number z
  pub high : Abs (exactly z) S.high
  pub near : Near (exactly z) X S.error
  pub size : Abs X S.size

-- the leading coefficient, before the first turn
abbrev pub leading : Float → State
leading c = record { high = above c; low = 0; error = 0; size = above c + 0 }

pub leading_one : {A : State} {u : DoubleDouble} (c : Float) (U : Q) → Number c → Holds A u U → One (leading c) c (exactly c ⊕ whole 0 ⊗ U)
leading_one c U n k =
    let from = near_sym (kept (exactly c) (nothing U k.size)) in
    record { number = n; high = size_of (exactly c); near = from; size = abs_near (size_of (exactly c)) from }

-- the high part of a pair alone is off by the low part too
abbrev pub head : State → State
head A = record { high = A.high; low = 0; error = A.low + A.error; size = A.size }

pub head_one : {A : State} (u : DoubleDouble) {U : Q} → Holds A u U → One (head A) u.hi U
head_one u k = record { number = k.hi_number; high = k.parts.hi; near = near_sym (kept (exactly u.hi) k.parts.lo) then k.near; size = k.size }

abbrev pub fma_lost : State → State → Float → ℕ
fma_lost S A c = shr (above c + mul_g S.high A.high) 53 + shr (mul_g S.high A.high + above c) 103 + 1

abbrev pub fma_state : State → State → Float → State
fma_state S A c = record {
  high = above c + mul_g S.high A.high + fma_lost S A c;
  low = 0;
  error = fma_lost S A c + (mul_g S.error A.high + mul_g A.error S.size);
  size = above c + mul_g S.size A.size;
}

-- u times a number
abbrev pub times_one : State → State → State
times_one S A = record {
  high = mul_g A.high S.high + high_e A.high S.high;
  low = pair_e A.high A.low S.high 0 + (mul_g A.low (S.high + 0) + mul_g 0 A.high) + high_e A.high S.high;
  error = pair_e A.high A.low S.high 0 + (mul_g A.error (S.high + 0) + mul_g (0 + S.error) A.size + 0);
  size = mul_g A.size S.size + 0;
}

pub one_holds : {S A : State} (z : Float) (u v : DoubleDouble) {Z U : Q} → One S z Z → Holds A u U → PairMul (pair u) (record { hi = exactly z; lo = whole 0 }) (pair v) → Number v.lo → Number v.hi → Holds (times_one S A) v (Z ⊗ U)
one_holds z u v {Z} {U} h k m l n =
    let P : Parts (record { hi = exactly z; lo = whole 0 }) _ 0 = record { hi = h.high; lo = no_size } in
    record {
      lo_number = l;
      hi_number = n;
      parts = pair_parts k.parts P m;
      near = pair_near k.parts P m then product_near k.near (value_size P) (kept (exactly z) no_size then h.near) k.size then turned_product U Z;
      size = abs_near (product_size k.size h.size) (turned_product U Z);
    }

-- ---- the loop over an arithmetic
abbrev pub ready : State → Bool
ready S = modest S.high && modest S.low

-- a rule for the terms: bounds, exact value and test of turn n
pub record Rule (term : ℕ → DoubleDouble → DoubleDouble) : Type 0 where
  pub next : ℕ → State → State
  pub exact : ℕ → Q → Q
  pub test : ℕ → State → Bool
  pub sound : (n : ℕ) (V : State) (v : DoubleDouble) (X : Q) → Holds V v X → T (test n V) → Holds (next n V) (term n v) (exact n X)

module _ {term : ℕ → DoubleDouble → DoubleDouble} (R : Rule term) (A : State) where
  -- after n turns
  abbrev pub bounds_of : ℕ → State → State
  bounds_of zero Y = Y
  bounds_of (suc n) Y = bounds_of n (R.next n (times Y A))

  abbrev pub exact_of : Q → ℕ → Q → Q
  exact_of U zero Z = Z
  exact_of U (suc n) Z = exact_of U n (R.exact n (Z ⊗ U))

  abbrev pub tests : ℕ → State → Bool
  tests zero Y = true
  tests (suc n) Y = (ready Y && R.test n (times Y A)) && tests n (R.next n (times Y A))

module _ {S : Type 0} (o : Ops S) (m : Meaning o) where
  pub times_ready : (s : S) {Y A : State} (z u : DoubleDouble) {Z U : Q} → Holds Y z Z → Holds A u U → T (ready Y) → T (ready A) → Holds (times Y A) (o.pair_times_pair s z u).1 (Z ⊗ U)
  times_ready s {Y} {A} z u h k t a =
      let w = m.pair_times_pair s z u (operand z.lo h.lo_number h.parts.lo (Comp.and_r (modest Y.high) (modest Y.low) t)) (operand z.hi h.hi_number h.parts.hi (Comp.and_l (modest Y.high) (modest Y.low) t))
      (operand u.lo k.lo_number k.parts.lo (Comp.and_r (modest A.high) (modest A.low) a)) (operand u.hi k.hi_number k.parts.hi (Comp.and_l (modest A.high) (modest A.low) a)) in
      times_holds (o.pair_times_pair s z u).1 h k (pairs_mean z.lo z.hi u.lo u.hi _ _ w) w.low w.high

  -- a multiply-add
  pub madd_one : (s : S) {Y A : State} (c z x : Float) {Z U : Q} → One Y z Z → T (modest Y.high) → One A x U → T (modest A.high) → Number c → T (modest (above c)) → One (fma_state Y A c) (o.multiply_add s z x c).1 (exactly c ⊕ Z ⊗ U)
  madd_one s c z x h t k a n i =
      let w = m.multiply_add s z x c (operand z h.number h.high t) (operand x k.number k.high a) (operand c n (size_of (exactly c)) i) in
      let d = C.fma_near h.high k.high (size_of (exactly c)) (madd_means z x c _ w) in
      record {
        number = w.answer;
        high = abs_near (abs_add (size_of (exactly c)) (product_size h.high k.high)) (near_sym d);
        near = d then one_plus (exactly c) (product_near h.near k.high k.near h.size);
        size = abs_add (size_of (exactly c)) (product_size h.size k.size);
      }

  pub loop_holds : {term : ℕ → DoubleDouble → DoubleDouble} (R : Rule term) (A : State) (u : DoubleDouble) (U : Q) → Holds A u U → T (ready A)
      → (n : ℕ) (s : S) (Y : State) (z : DoubleDouble) (Z : Q) → Holds Y z Z → T (tests R A n Y) → Holds (bounds_of R A n Y) (horner o term u n s z).1 (exact_of R A U n Z)
  unfolding horner
  loop_holds R A u U k a zero s Y z Z h t = h
  loop_holds {term} R A u U k a (suc n) s Y z Z h t =
      let now = Comp.and_l (ready Y && R.test n (times Y A)) (tests R A n (R.next n (times Y A))) t in
      let v = o.pair_times_pair s z u in
      loop_holds R A u U k a n v.0 (R.next n (times Y A)) (term n v.1) (R.exact n (Z ⊗ U))
      (R.sound n (times Y A) v.1 (Z ⊗ U) (times_ready s z u h k (Comp.and_l (ready Y) (R.test n (times Y A)) now) a) (Comp.and_r (ready Y) (R.test n (times Y A)) now))
      (Comp.and_r (ready Y && R.test n (times Y A)) (tests R A n (R.next n (times Y A))) t)
