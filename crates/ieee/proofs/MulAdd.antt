-- The multiply-add by a product pair and a sum: where p + c has 53 digits, it is the answer. p ≡ hi + lo with hi nearest p, hi + c ≡ t + u with t nearest hi + c;
-- then l is lo + u rounded and the answer l + t rounded. Assumes nothing.
use Rattle.std.proofs.Common.{◌≡◌, ℕ, suc, ◌+◌, ◌-◌, ◌*◌, ◌^◌, ◌<◌, ◌≤◌, ◌⊎◌, ℤ, ◌+ℤ◌, ◌-ℤ◌, neg_ℤ, nat_abs, sym, refl, ap, ◌∙◌, subst, inl, inr, eq-zero-or-pos, arith, pow_pos, pow_mono}
use borrow.Author.Differences.{up, down}
use Rattle.ieee.specs.Val.{Mult}
use Rattle.ieee.proofs.Ints.{zs, Le, Lt}
use Rattle.ieee.proofs.Whole.{order, Rounds, Repr, mult_down, mult_add, mult_neg, exact_at, exact, repr_lt}
use Rattle.ieee.proofs.Sums.{repr_of}

-- a number of 53 digits that is large is a multiple
large_mult : (x : ℤ) (k : ℕ) → Repr x → 2 ^ 52 * 2 ^ k ≤ nat_abs x → Mult k x
large_mult x k r h = elim (order k r.j) [
  | inl g ↦ mult_down k r.j x g (r.q, r.is)
  | inr g ↦ absurd (let m : 2 ^ suc r.j ≤ 2 ^ k = pow_mono g in let l = repr_lt x r in omega zs)
]

half_pow : (k : ℕ) → 0 < k → 2 ^ k ≡ 2 * 2 ^ (k - 1)
half_pow k h = ap (λ (i : ℕ). 2 ^ i) {x = k} {y = suc (k - 1)} (omega arith) ∙ native.Mathlib.Nat.pow-succ' 2 (k - 1)

id_x : (p hi lo c t u : ℤ) → p ≡ hi +ℤ lo → hi +ℤ c ≡ t +ℤ u → p +ℤ c -ℤ t ≡ lo +ℤ u
id_x p hi lo c t u e f = omega zs

id_end : (p hi lo c t u l : ℤ) → p ≡ hi +ℤ lo → hi +ℤ c ≡ t +ℤ u → l ≡ lo +ℤ u → p +ℤ c ≡ l +ℤ t
id_end p hi lo c t u l e f g = omega zs

none_left : (x t u lo : ℤ) → x ≡ t +ℤ u → t ≡ x → lo ≡ lo +ℤ u
none_left x t u lo e f = omega zs

-- the sizes, with a = 2 ^ k / 2, b = 2 ^ kp
id_far : (p hi lo c s : ℤ) → p ≡ hi +ℤ lo → s ≡ hi +ℤ c → s -ℤ neg_ℤ lo ≡ p +ℤ c
id_far p hi lo c s e f = omega zs

far_x : (p hi lo c s : ℤ) (a : ℕ) → p ≡ hi +ℤ lo → s ≡ hi +ℤ c → Le lo (2 * a) → 2 ^ 52 * (2 * a) ≤ nat_abs s → 0 < a → 2 ^ 52 * a ≤ nat_abs (p +ℤ c)
far_x p hi lo c s a e f l g A =
    let m = Rattle.ieee.proofs.Tools.abs_back s (neg_ℤ lo) in
    let n : nat_abs (neg_ℤ lo) ≤ 2 * a = omega (arith, Rattle.ieee.proofs.Tools.abs_neg lo, Rattle.ieee.proofs.Ints.le_abs lo (2 * a) l) in
    let q : s -ℤ neg_ℤ lo ≡ p +ℤ c = id_far p hi lo c s e f in
    let o = ap nat_abs q in
    omega arith

small_e : (lo u : ℤ) (a : ℕ) → Le lo (2 * a) → Le u a → Le (lo +ℤ u) (2 ^ 53 * a)
small_e lo u a h k = (omega zs, omega zs)

off_u : (x t u : ℤ) (a k : ℕ) → x ≡ t +ℤ u → k ≡ 2 * a → up t * 2 + down x * 2 ≤ up x * 2 + down t * 2 + k → up x * 2 + down t * 2 ≤ up t * 2 + down x * 2 + k → Le u a
off_u x t u a k e f g h = (omega zs, omega zs)

module _ (p hi lo c t u : ℤ) (rp : Rounds p hi) (e : p ≡ hi +ℤ lo) (rlo : Repr lo) (rc : Repr c) (rt : Rounds (hi +ℤ c) t) (f : hi +ℤ c ≡ t +ℤ u) (rx : Repr (p +ℤ c)) where
  -- lo is 2 ^ k at most, if the sum is not exact
  lo_le : (rt.k ≤ rp.k → rc.j < rt.k) → 0 < rt.k → Le lo (2 ^ rt.k)
  lo_le g P =
      let K = 2 ^ rt.k in
      let kp = rp.k in
      let bound : 2 ^ kp ≤ 2 * K → Le lo K = λ h. low_by p hi lo (2 ^ kp) K e rp.above rp.below h in
      elim (order rt.k kp) [
        | inl l ↦
            let j : 2 * 2 ^ rc.j ≤ K = pow_up rc.j rt.k (g l) in
            bound (elim (order kp (suc rt.k)) [
              | inl y ↦ pow_mono_suc kp rt.k y
              | inr y ↦ absurd (let y' : 4 * K ≤ 2 ^ kp = pow_up_two rt.k kp y in
                  too_far p hi c (2 ^ kp) K rp.above rp.below (size rp.lo l P) rt.hi (half_lt c (2 ^ rc.j) K (repr_lt c rc) j) y')
            ])
        | inr l ↦ bound (let m : 2 ^ kp ≤ K = pow_mono (omega arith) in omega arith)
      ]
    where
      pow_up : (i j : ℕ) → i < j → 2 * 2 ^ i ≤ 2 ^ j
      pow_up i j h = let m : 2 ^ suc i ≤ 2 ^ j = pow_mono h in omega arith

      pow_up_two : (i j : ℕ) → suc i < j → 4 * 2 ^ i ≤ 2 ^ j
      pow_up_two i j h = let m : 2 ^ suc (suc i) ≤ 2 ^ j = pow_mono h in omega arith

      pow_mono_suc : (i j : ℕ) → i ≤ suc j → 2 ^ i ≤ 2 * 2 ^ j
      pow_mono_suc i j h = let m : 2 ^ i ≤ 2 ^ suc j = pow_mono h in omega arith

      low_by : (p hi lo : ℤ) (b K : ℕ) → p ≡ hi +ℤ lo → up hi * 2 + down p * 2 ≤ up p * 2 + down hi * 2 + b → up p * 2 + down hi * 2 ≤ up hi * 2 + down p * 2 + b → b ≤ 2 * K → Le lo K
      low_by p hi lo b K e g h i = (omega zs, omega zs)

      size : (rp.k ≡ 0) ⊎ ((2 ^ 52 * 2 ^ rp.k + down p ≤ up p) ⊎ (2 ^ 52 * 2 ^ rp.k + up p ≤ down p)) → rt.k ≤ rp.k → 0 < rt.k → 2 ^ 52 * 2 ^ rp.k ≤ nat_abs p
      size (inl z) l P = absurd (omega arith)
      size (inr (inl z)) l P = omega zs
      size (inr (inr z)) l P = omega zs

      half_lt : (c : ℤ) (a K : ℕ) → Lt c (2 ^ 53 * a) → 2 * a ≤ K → Le c (2 ^ 52 * K)
      half_lt c a K l h = (omega arith, omega arith)

      too_far : (p hi c : ℤ) (b K : ℕ) → up hi * 2 + down p * 2 ≤ up p * 2 + down hi * 2 + b → up p * 2 + down hi * 2 ≤ up hi * 2 + down p * 2 + b → 2 ^ 52 * b ≤ nat_abs p → Lt (hi +ℤ c) (2 ^ 53 * K) → Le c (2 ^ 52 * K) → 4 * K ≤ b → ⊥
      too_far p hi c b K g h i m n o = omega zs

  rest_repr : Repr (lo +ℤ u)
  rest_repr =
      elim (eq-zero-or-pos rt.k) [
        | inl z ↦ subst Repr (none_left (hi +ℤ c) t u lo f (exact_at (hi +ℤ c) t 0 rt (hi +ℤ c, omega zs) (omega arith))) rlo
        | inr P ↦ elim (order rt.k rp.k) [
          | inl l ↦ elim (order rt.k rc.j) [
            | inl m ↦ subst Repr (none_left (hi +ℤ c) t u lo f (exact_at (hi +ℤ c) t rt.k rt (mult_add rt.k hi c (mult_down rt.k rp.k hi l (rp.q, rp.is)) (mult_down rt.k rc.j c m (rc.q, rc.is))) (omega arith))) rlo
            | inr m ↦ go P (λ _. m)
          ]
          | inr l ↦ go P (λ h. absurd (omega arith))
        ]
      ]
    where
      go : 0 < rt.k → (rt.k ≤ rp.k → rc.j < rt.k) → Repr (lo +ℤ u)
      go P g =
          let k' = rt.k - 1 in
          let a = 2 ^ k' in
          let w : 2 ^ rt.k ≡ 2 * a = half_pow rt.k P in
          let l : Le lo (2 * a) = subst (Le lo) w (lo_le g P) in
          let v : Le u a = off_u (hi +ℤ c) t u a (2 ^ rt.k) f w rt.above rt.below in
          let s : 2 ^ 52 * (2 * a) ≤ nat_abs (hi +ℤ c) = subst (λ (z : ℕ). 2 ^ 52 * z ≤ nat_abs (hi +ℤ c)) w (big (hi +ℤ c) rt.k P rt.lo) in
          let m : Mult k' (p +ℤ c) = large_mult (p +ℤ c) k' rx (far_x p hi lo c (hi +ℤ c) a e refl l s (pow_pos k')) in
          let n : Mult k' t = mult_down k' rt.k t (omega arith) (rt.q, rt.is) in
          repr_of k' (lo +ℤ u) (subst (Mult k') (id_x p hi lo c t u e f) (mult_add k' (p +ℤ c) (neg_ℤ t) m (mult_neg k' t n))) (small_e lo u a l v)
        where
          big : (x : ℤ) (k : ℕ) → 0 < k → (k ≡ 0) ⊎ ((2 ^ 52 * 2 ^ k + down x ≤ up x) ⊎ (2 ^ 52 * 2 ^ k + up x ≤ down x)) → 2 ^ 52 * 2 ^ k ≤ nat_abs x
          big x k P (inl z) = absurd (omega arith)
          big x k P (inr (inl z)) = omega zs
          big x k P (inr (inr z)) = omega zs

  pub mul_add_exact : (l s : ℤ) → Rounds (lo +ℤ u) l → Rounds (l +ℤ t) s → s ≡ p +ℤ c
  mul_add_exact l s rl rs =
      let g : l ≡ lo +ℤ u = exact (lo +ℤ u) l rl rest_repr in
      let h = id_end p hi lo c t u l e f g in
      exact (l +ℤ t) s rs (subst Repr h rx) ∙ sym h
