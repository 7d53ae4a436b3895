-- Sums of two numbers of 53 digits: the error is such a number, and FastTwoSum and TwoSum find it. Assumes nothing.
use Rattle.std.proofs.Common.{◌≡◌, ℕ, suc, ◌+◌, ◌-◌, ◌*◌, ◌^◌, ◌<◌, ◌≤◌, ℤ, pos, ◌+ℤ◌, ◌-ℤ◌, ◌*ℤ◌, neg_ℤ, nat_abs, sym, refl, ap, ◌∙◌, subst, inl, inr, mul-le-mul_right, arith, pow_pos, pow_mono}
use borrow.Author.Differences.{up, down, same_out}
use Rattle.ieee.specs.Val.{Mult}
use Rattle.ieee.proofs.Ints.{zs, Le, Lt, neg_mul, cancel_le, cancel_lt}
use Rattle.ieee.proofs.Whole.{order, Rounds, Repr, mult_down, mult_add, mult_neg, mult_kept, exact_at, exact, nearest, repr_lt}

-- |q| ≤ 2 ^ 53 is enough, with one more zero at the end
pub repr_from : (j : ℕ) (x : ℤ) → Mult j x → Le x (2 ^ 53 * 2 ^ j) → (r : Repr x) × (j ≤ r.j)
repr_from j x (q, e) l =
    let p = 2 ^ j in
    let P = pow_pos j in
    let f = same_out x (q *ℤ pos p) e in
    let a : up q ≤ down q + 2 ^ 53 = cancel_le p (up q) (down q + 2 ^ 53) P (omega zs) in
    let b : down q ≤ up q + 2 ^ 53 = cancel_le p (down q) (up q + 2 ^ 53) P (omega zs) in
    elim (order (down q + 2 ^ 53) (up q)) [
      | inl g ↦
          let w : q ≡ pos (2 ^ 53) = omega zs in
          (record { q = pos (2 ^ 52); j = suc j; small = omega arith; is = e ∙ ap (λ (z : ℤ). z *ℤ pos p) w ∙ ap pos (omega arith) }, omega arith)
      | inr g ↦ elim (order (up q + 2 ^ 53) (down q)) [
        | inl g' ↦
            let w : q ≡ neg_ℤ (pos (2 ^ 53)) = omega zs in
            (record { q = neg_ℤ (pos (2 ^ 52)); j = suc j; small = omega arith; is = e ∙ ap (λ (z : ℤ). z *ℤ pos p) w ∙ neg_mul (pos (2 ^ 53)) (pos p) ∙ ap (λ (z : ℕ). neg_ℤ (pos z)) {x = 2 ^ 53 * p} {y = 2 ^ 52 * 2 ^ suc j} (omega arith) ∙ sym (neg_mul (pos (2 ^ 52)) (pos (2 ^ suc j))) }, omega arith)
        | inr g' ↦ (record { q = q; j = j; small = omega arith; is = e }, omega arith)
      ]
    ]

pub repr_of : (j : ℕ) (x : ℤ) → Mult j x → Le x (2 ^ 53 * 2 ^ j) → Repr x
repr_of j x m l = (repr_from j x m l).0

pub repr_neg : (x : ℤ) → Repr x → Repr (neg_ℤ x)
repr_neg x r = record { q = neg_ℤ r.q; j = r.j; small = let s = r.small in (omega zs, omega zs); is = ap neg_ℤ r.is ∙ sym (neg_mul r.q (pos (2 ^ r.j))) }

pub repr_zero : Repr (pos 0)
repr_zero = record { q = pos 0; j = 0; small = omega arith; is = refl }

pub repr_le : (x : ℤ) (r : Repr x) → (up x + 2 ^ r.j ≤ down x + 2 ^ 53 * 2 ^ r.j) × (down x + 2 ^ r.j ≤ up x + 2 ^ 53 * 2 ^ r.j)
repr_le x r =
    let p = 2 ^ r.j in
    let e = same_out x (r.q *ℤ pos p) r.is in
    let a = mul-le-mul_right p r.small.0 in
    let b = mul-le-mul_right p r.small.1 in
    (omega zs, omega zs)

-- what is rounded has 53 digits
pub rounds_repr : (x s : ℤ) (r : Rounds x s) → (w : Repr s) × (r.k ≤ w.j)
rounds_repr x s r =
    let p = 2 ^ r.k in
    let a = r.above in
    let b = r.below in
    let h = r.hi in
    let e = same_out s (r.q *ℤ pos p) r.is in
    let q = r.q in
    let u : up q < down q + 2 ^ 53 + 1 = cancel_lt (p * 2) (up q) (down q + 2 ^ 53 + 1) (omega zs) in
    let v : down q < up q + 2 ^ 53 + 1 = cancel_lt (p * 2) (down q) (up q + 2 ^ 53 + 1) (omega zs) in
    repr_from r.k s (q, r.is) (let u' = mul-le-mul_right p u in omega zs, let v' = mul-le-mul_right p v in omega zs)

-- ---- the error of a sum
swap : (x s a b : ℤ) → x ≡ a +ℤ b → x ≡ b +ℤ a
swap x s a b e = omega zs

err_small : (a b s x : ℤ) (ra : Repr a) (rb : Repr b) → Rounds x s → x ≡ a +ℤ b → rb.j ≤ ra.j → Repr (x -ℤ s)
err_small a b s x ra rb r e h =
    let j = rb.j in
    let m : Mult j x = subst (Mult j) (sym e) (mult_add j a b (mult_down j ra.j a h (ra.q, ra.is)) (rb.q, rb.is)) in
    let l = repr_lt b rb in
    let n = nearest x s a r ra (2 ^ 53 * 2 ^ j) (omega zs, omega zs) in
    repr_of j (x -ℤ s) (mult_add j x (neg_ℤ s) m (mult_neg j s (mult_kept x s j r m))) (omega zs, omega zs)

pub error_repr : (a b s x : ℤ) → Repr a → Repr b → Rounds x s → x ≡ a +ℤ b → Repr (x -ℤ s)
error_repr a b s x ra rb r e = elim (order rb.j ra.j) [ inl h ↦ err_small a b s x ra rb r e h | inr h ↦ err_small b a s x rb ra r (swap x s a b e) (omega arith) ]

-- ---- FastTwoSum: with b's unit no more than a's, s - a is exact
pub fast : (a b s x : ℤ) (ra : Repr a) (rb : Repr b) → Rounds x s → x ≡ a +ℤ b → rb.j ≤ ra.j → Repr (s -ℤ a)
fast a b s x ra rb r e h =
    let ja = ra.j in
    let jb = rb.j in
    let k = r.k in
    let ma : Mult ja a = (ra.q, ra.is) in
    let la = repr_le a ra in
    let lb = repr_le b rb in
    let above = r.above in
    let below = r.below in
    let hab : 2 ^ jb ≤ 2 ^ ja = pow_mono h in
    elim (order k jb) [
      | inl g ↦
          let m : Mult jb x = subst (Mult jb) (sym e) (mult_add jb a b (mult_down jb ja a h ma) (rb.q, rb.is)) in
          let f : s ≡ x = exact_at x s jb r m g in
          let f' : b ≡ s -ℤ a = omega zs in
          subst Repr f' rb
      | inr g ↦
          let g' : 2 ^ suc jb ≤ 2 ^ k = pow_mono g in
          elim (order k ja) [
            | inl i ↦ repr_of k (s -ℤ a) (mult_add k s (neg_ℤ a) (r.q, r.is) (mult_neg k a (mult_down k ja a i ma))) (omega zs, omega zs)
            | inr i ↦
                let c : k ≤ suc ja = elim (order k (suc ja)) [
                  | inl y ↦ y
                  | inr y ↦ absurd (let y' : 2 ^ suc (suc ja) ≤ 2 ^ k = pow_mono y in elim r.lo [ inl z ↦ omega arith | inr (inl z) ↦ omega zs | inr (inr z) ↦ omega zs ])
                ] in
                let c' : 2 ^ k ≤ 2 ^ suc ja = pow_mono c in
                repr_of ja (s -ℤ a) (mult_add ja s (neg_ℤ a) (mult_down ja k s (omega arith) (r.q, r.is)) (mult_neg ja a ma)) (omega zs, omega zs)
          ]
    ]

pub fast_two_sum : (a b s t l : ℤ) (ra : Repr a) (rb : Repr b) → rb.j ≤ ra.j → Rounds (a +ℤ b) s → Rounds (s -ℤ a) t → Rounds (b -ℤ t) l → s +ℤ l ≡ a +ℤ b
fast_two_sum a b s t l ra rb h r u v =
    let e : t ≡ s -ℤ a = exact (s -ℤ a) t u (fast a b s (a +ℤ b) ra rb r refl h) in
    let f : a +ℤ b -ℤ s ≡ b -ℤ t = omega zs in
    let g : l ≡ b -ℤ t = exact (b -ℤ t) l v (subst Repr f (error_repr a b s (a +ℤ b) ra rb r refl)) in
    omega zs

-- ---- what makes b's unit no more than a's
pub repr_at : (j : ℕ) (x : ℤ) → Mult j x → Lt x (2 ^ 53 * 2 ^ j) → (r : Repr x) × (r.j ≡ j)
repr_at j x (q, e) l =
    let p = 2 ^ j in
    let f = same_out x (q *ℤ pos p) e in
    let a : up q < down q + 2 ^ 53 = cancel_lt p (up q) (down q + 2 ^ 53) (omega zs) in
    let b : down q < up q + 2 ^ 53 = cancel_lt p (down q) (up q + 2 ^ 53) (omega zs) in
    (record { q = q; j = j; small = (a, b); is = e }, refl)

abbrev pub Ordered : ℤ → ℤ → Type 0
Ordered a b = (ra : Repr a) × (rb : Repr b) × (rb.j ≤ ra.j)

pub ordered_zero : (b : ℤ) → Repr b → Ordered (pos 0) b
ordered_zero b rb = (record { q = pos 0; j = rb.j; small = omega arith; is = ap pos (omega arith) }, rb, omega arith)

pub ordered_abs : (a b : ℤ) → Repr a → Repr b → nat_abs b ≤ nat_abs a → Ordered a b
ordered_abs a b ra rb h =
    elim (order rb.j ra.j) [
      | inl l ↦ (ra, rb, l)
      | inr g ↦
          let la = repr_lt a ra in
          let x : nat_abs a < 2 ^ 53 * 2 ^ ra.j = omega zs in
          let w = repr_at ra.j b (mult_down ra.j rb.j b (omega arith) (rb.q, rb.is)) (omega zs, omega zs) in
          (ra, w.0, omega (arith, w.1))
    ]

-- a is a multiple of the last place of b, 2 ^ k
pub ordered_multiple : (a b : ℤ) → Repr a → Repr b → (r : Rounds b b) → Mult r.k a → Ordered a b
ordered_multiple a b ra rb r m =
    let w = repr_at r.k b (r.q, r.is) r.hi in
    elim (order r.k ra.j) [
      | inl l ↦ (ra, w.0, omega (arith, w.1))
      | inr g ↦
          let g' : 2 ^ ra.j ≤ 2 ^ r.k = pow_mono (omega arith) in
          let la = repr_lt a ra in
          let v = repr_at r.k a m (omega arith, omega arith) in
          (v.0, w.0, omega (arith, w.1, v.1))
    ]

-- ---- Sterbenz
-- ---- identities, each on its own: with many facts in reach `omega` leaves some out
id_err : (a b s t : ℤ) → t ≡ s -ℤ a → a +ℤ b -ℤ s ≡ b -ℤ t
id_err a b s t e = omega zs

id_back : (a s t : ℤ) → t ≡ s -ℤ a → a ≡ s -ℤ t
id_back a s t e = omega zs

id_zero : (a s t u : ℤ) → t ≡ s -ℤ a → u ≡ s -ℤ t → pos 0 ≡ a -ℤ u
id_zero a s t u e f = omega zs

id_other : (a b s : ℤ) → s ≡ a +ℤ b → b ≡ s -ℤ a
id_other a b s e = omega zs

id_turn : (s t : ℤ) → neg_ℤ (t -ℤ s) ≡ s -ℤ t
id_turn s t = omega zs

id_turn_two : (a s t u : ℤ) → u ≡ s -ℤ t → neg_ℤ (s -ℤ a -ℤ t) ≡ a -ℤ u
id_turn_two a s t u e = omega zs

-- ---- TwoSum
-- with a's unit below b's, and s inexact
module _ (a b s t1 : ℤ) (ra : Repr a) (rb : Repr b) (r : Rounds (a +ℤ b) s) (r1 : Rounds (s -ℤ a) t1) (h : ra.j < rb.j) (g : ra.j < r.k) where
  rest_repr : Repr (b -ℤ t1)
  rest_repr =
      let x = a +ℤ b in
      let ja = ra.j in
      let err = error_repr a b s x ra rb r refl in
      let la = repr_lt a ra in
      let rs = (rounds_repr x s r).0 in
      let n = nearest x s b r rb (2 ^ 53 * 2 ^ ja - 1) (omega zs, omega zs) in
      let n1 = nearest (s -ℤ a) t1 s r1 rs (2 ^ 53 * 2 ^ ja - 1) (omega zs, omega zs) in
      let mb : Mult rb.j b = (rb.q, rb.is) in
      let m1 : Mult r1.k t1 = (r1.q, r1.is) in
      let ms : Mult ja (s -ℤ a) = mult_add ja s (neg_ℤ a) (mult_down ja r.k s (omega arith) (r.q, r.is)) (mult_neg ja a (ra.q, ra.is)) in
      elim (order r1.k ja) [
        | inl l ↦
            let e : t1 ≡ s -ℤ a = exact_at (s -ℤ a) t1 ja r1 ms l in
            let f : x -ℤ s ≡ b -ℤ t1 = omega zs in
            subst Repr f err
        | inr l ↦
            let p1 : 2 ^ suc ja ≤ 2 ^ r1.k = pow_mono l in
            let pb : 2 ^ suc ja ≤ 2 ^ rb.j = pow_mono h in
            elim (order r1.k rb.j) [
              | inl i ↦ repr_of r1.k (b -ℤ t1) (mult_add r1.k b (neg_ℤ t1) (mult_down r1.k rb.j b i mb) (mult_neg r1.k t1 m1)) (omega zs, omega zs)
              | inr i ↦ repr_of rb.j (b -ℤ t1) (mult_add rb.j b (neg_ℤ t1) mb (mult_neg rb.j t1 (mult_down rb.j r1.k t1 (omega arith) m1))) (omega zs, omega zs)
            ]
      ]

pub two_sum : (a b s t1 t2 t3 t4 l : ℤ) → Repr a → Repr b → Rounds (a +ℤ b) s → Rounds (s -ℤ a) t1 → Rounds (s -ℤ t1) t2 → Rounds (b -ℤ t1) t3 → Rounds (a -ℤ t2) t4 → Rounds (t3 +ℤ t4) l → s +ℤ l ≡ a +ℤ b
unfolding repr_neg
two_sum a b s t1 t2 t3 t4 l ra rb r r1 r2 r3 r4 r5 =
    let x = a +ℤ b in
    let err = error_repr a b s x ra rb r refl in
    elim (order rb.j ra.j) [
      | inl h ↦
          let e1 : t1 ≡ s -ℤ a = exact (s -ℤ a) t1 r1 (fast a b s x ra rb r refl h) in
          finish a b s t1 t2 t3 t4 l r2 r3 r4 r5 (subst Repr (id_back a s t1 e1) ra) (subst Repr (id_err a b s t1 e1) err) (λ e2. subst Repr (id_zero a s t1 t2 e1 e2) repr_zero) err
      | inr h ↦ elim (order r.k ra.j) [
        | inl g ↦
            let m : Mult ra.j x = mult_add ra.j a b (ra.q, ra.is) (mult_down ra.j rb.j b (omega arith) (rb.q, rb.is)) in
            let e : s ≡ x = exact_at x s ra.j r m g in
            let e1 : t1 ≡ s -ℤ a = exact (s -ℤ a) t1 r1 (subst Repr (id_other a b s e) rb) in
            finish a b s t1 t2 t3 t4 l r2 r3 r4 r5 (subst Repr (id_back a s t1 e1) ra) (subst Repr (id_err a b s t1 e1) err) (λ e2. subst Repr (id_zero a s t1 t2 e1 e2) repr_zero) err
        | inr g ↦
            let ws = rounds_repr x s r in
            let na = repr_neg a ra in
            let d = fast s (neg_ℤ a) t1 (s -ℤ a) ws.0 na r1 refl (omega (arith, ws.1)) in
            let c = error_repr s (neg_ℤ a) t1 (s -ℤ a) ws.0 na r1 refl in
            finish a b s t1 t2 t3 t4 l r2 r3 r4 r5
            (subst Repr (id_turn s t1) (repr_neg (t1 -ℤ s) d))
            (rest_repr a b s t1 ra rb r r1 h g)
            (λ e2. subst Repr (id_turn_two a s t1 t2 e2) (repr_neg (s -ℤ a -ℤ t1) c))
            err
      ]
    ]
  where
    finish : (a b s t1 t2 t3 t4 l : ℤ) → Rounds (s -ℤ t1) t2 → Rounds (b -ℤ t1) t3 → Rounds (a -ℤ t2) t4 → Rounds (t3 +ℤ t4) l → Repr (s -ℤ t1) → Repr (b -ℤ t1) → (t2 ≡ s -ℤ t1 → Repr (a -ℤ t2)) → Repr (a +ℤ b -ℤ s) → s +ℤ l ≡ a +ℤ b
    finish a b s t1 t2 t3 t4 l r2 r3 r4 r5 w2 w3 w4 err =
        let e2 : t2 ≡ s -ℤ t1 = exact (s -ℤ t1) t2 r2 w2 in
        let e3 : t3 ≡ b -ℤ t1 = exact (b -ℤ t1) t3 r3 w3 in
        let e4 : t4 ≡ a -ℤ t2 = exact (a -ℤ t2) t4 r4 (w4 e2) in
        let f : a +ℤ b -ℤ s ≡ t3 +ℤ t4 = omega zs in
        let e5 : l ≡ t3 +ℤ t4 = exact (t3 +ℤ t4) l r5 (subst Repr f err) in
        omega zs
