-- What a product that rounds to 2 ^ -960 lost, by the product of the factors times 2 ^ 480: its sign says whether the product is 2 ^ -960 at least. Assumes nothing.
use Rattle.std.proofs.Common.{◌≡◌, ℕ, suc, ◌+◌, ◌*◌, ◌^◌, ◌<◌, ◌≤◌, T, ℤ, pos, ◌+ℤ◌, ◌*ℤ◌, nat_abs, sym, refl, ap, ◌∙◌, inl, inr, le_trans, le_of_eq, mul-le-mul_right, arith, lit<, lit≤, pow_pos, pow_mono}
use lib.Ieee.{Float, binary64, mul}
use lib.Ieee.Scale.{finite}
use borrow.Author.Differences.{up, down, same_out}
use Rattle.ieee.specs.Val.{val, rnd, rq, rz}
use Rattle.ieee.specs.Pairs.{Good, ProductOf}
use Rattle.ieee.proofs.Ints.{zs, massoc, mcomm, cancel_le}
use Rattle.ieee.proofs.Whole.{order}
use Rattle.ieee.proofs.Fractions.{rq_whole}
use Rattle.ieee.proofs.Product.{cancel, mul_mul}
use Rattle.ieee.proofs.Scaled.{rz_scale}
use Rattle.ieee.proofs.Floats.{good_up}
use Rattle.ieee.proofs.Products.{r, rest}
use Rattle.ieee.proofs.Compare.{Upto}
use Rattle.ieee.proofs.Thresholds.{rnd_at_most, rnd_at_least}
use Rattle.ieee.proofs.LargeFactors.{scale_up, whole_large, exact_large}

-- ---- the sign: n is p l, hi is v u, and hi + lo is p u
module _ (p hi lo : ℤ) (u v l n : ℕ) (U : 0 < u) (L : 0 < l) (a : p *ℤ pos l ≡ pos n) (b : hi ≡ pos (v * u)) (c : hi +ℤ lo ≡ p *ℤ pos u) where
  p_is : up p * l ≡ n + down p * l
  p_is = let e = same_out (p *ℤ pos l) (pos n) a in omega zs

  lo_is : up lo + down p * u + v * u ≡ up p * u + down lo
  lo_is = let e = same_out (hi +ℤ lo) (p *ℤ pos u) c in let f = same_out hi (pos (v * u)) b in omega zs

  pub sign_out : Upto (pos 0) lo → v * l ≤ n
  sign_out h =
      let e = lo_is in
      let f = p_is in
      let m : down p + v ≤ up p = cancel_le u (down p + v) (up p) U (omega arith) in
      omega (arith, mul-le-mul_right l m)

  pub sign_in : v * l ≤ n → Upto (pos 0) lo
  sign_in h =
      let e = lo_is in
      let f = p_is in
      let m : down p + v ≤ up p = cancel_le l (down p + v) (up p) L (omega arith) in
      omega (arith, mul-le-mul_right u m)

scaled_product : (x y p : ℤ) (s t l : ℕ) → p *ℤ pos l ≡ x *ℤ y → x *ℤ pos s *ℤ (y *ℤ pos t) ≡ p *ℤ pos (s * t) *ℤ pos l
scaled_product x y p s t l e =
    mul_mul x y s t ∙ ap (λ (z : ℤ). z *ℤ pos (s * t)) (sym e) ∙ massoc p (pos l) (pos (s * t)) ∙ ap (λ (z : ℤ). p *ℤ z) (mcomm (pos l) (pos (s * t))) ∙ sym (massoc p (pos (s * t)) (pos l))

above : (n d s i : ℕ) → rnd n d ≡ s → s ≡ 2 ^ suc i → 0 < d → 2 ^ i * d ≤ n
above n d s i e f D = elim (order (2 ^ i * d) n) [ inl h ↦ h | inr h ↦ absurd (let m = rnd_at_most n d i D (omega arith) in let P = pow_pos i in omega arith) ]

under : (n d s i : ℕ) → rnd n d ≡ s → s ≡ 2 ^ i → 0 < d → n ≤ 2 ^ suc i * d
under n d s i e f D = elim (order n (2 ^ suc i * d)) [ inl h ↦ h | inr h ↦ absurd (let m = rnd_at_least n d (suc i) D (omega arith) in let P = pow_pos i in omega arith) ]

times_scaled : (m n s : ℕ) → m * s * (n * s) ≡ m * n * (s * s)
times_scaled m n s = omega arith

-- ---- z is 2 ^ 480, and x and y are m and n units
pub record Lost (x y z : Float) (m n : ℕ) : Type 0 where
  pub number : T (finite (rest (mul binary64 x z) (mul binary64 y z)))
  pub out : Upto (pos 0) (val (rest (mul binary64 x z) (mul binary64 y z))) → 2 ^ 1188 ≤ m * n
  pub back : 2 ^ 1188 ≤ m * n → Upto (pos 0) (val (rest (mul binary64 x z) (mul binary64 y z)))

-- p is x y, and X and Y are x and y times 2 ^ 480
sign_of : (x y X Y : Float) (m n : ℕ) (p : ℤ) → val x ≡ pos m → val y ≡ pos n → p *ℤ pos (2 ^ 1074) ≡ val x *ℤ val y → rnd (m * n) (2 ^ 1074) ≡ 2 ^ 114
    → val X ≡ val x *ℤ pos (2 ^ 480) → val Y ≡ val y *ℤ pos (2 ^ 480) → ProductOf X Y (rest X Y) (r X Y)
    → (Upto (pos 0) (val (rest X Y)) → 2 ^ 1188 ≤ m * n) × (2 ^ 1188 ≤ m * n → Upto (pos 0) (val (rest X Y)))
sign_of x y X Y m n p ex ey ep e eX eY w =
    let l = 2 ^ 1074 in
    let hi = val (r X Y) in
    let lo = val (rest X Y) in
    let P = p *ℤ pos (2 ^ 960) in
    let xy : val x *ℤ val y ≡ pos (m * n) = (λ i. ex i *ℤ ey i) in
    let rp : rz p ≡ pos (2 ^ 114) = sym (rq_whole (val x *ℤ val y) p l (pow_pos 1074) (sym ep)) ∙ ap (λ (t : ℤ). rq t l) xy ∙ ap pos e in
    let XY : val X *ℤ val Y ≡ P *ℤ pos l = (λ i. eX i *ℤ eY i) ∙ scaled_product (val x) (val y) p (2 ^ 480) (2 ^ 480) l ep in
    let h : hi ≡ pos (2 ^ 114 * 2 ^ 960) = w.nearest ∙ rq_whole (val X *ℤ val Y) P l (pow_pos 1074) XY ∙ rz_scale p 960 ∙ ap (λ (t : ℤ). t *ℤ pos (2 ^ 960)) rp in
    let s : hi +ℤ lo ≡ P = cancel (hi +ℤ lo) P l (pow_pos 1074) (w.exact ∙ XY) in
    (sign_out p hi lo (2 ^ 960) (2 ^ 114) l (m * n) (pow_pos 960) (pow_pos 1074) (ep ∙ xy) h s, sign_in p hi lo (2 ^ 960) (2 ^ 114) l (m * n) (pow_pos 960) (pow_pos 1074) (ep ∙ xy) h s)

pub lost_sign : (x y z : Float) (m n : ℕ) → Good x 1474 → Good y 1474 → Good z 1554 → val z ≡ pos (2 ^ 1554) → val x ≡ pos m → val y ≡ pos n → rnd (m * n) (2 ^ 1074) ≡ 2 ^ 114 → Lost x y z m n
lost_sign x y z m n gx gy gz ez ex ey e =
    let X = mul binary64 x z in
    let Y = mul binary64 y z in
    let least : 2 ^ 1187 ≤ m * n = above (m * n) (2 ^ 1074) (2 ^ 114) 113 e refl (pow_pos 1074) in
    let most : m * n ≤ 2 ^ 1189 = under (m * n) (2 ^ 1074) (2 ^ 114) 114 e refl (pow_pos 1074) in
    let product : m * n ≡ nat_abs (val x) * nat_abs (val y) = (λ i. ap nat_abs (sym ex) i * ap nat_abs (sym ey) i) in
    let p = whole_large x y gx.holds gy.holds (le_trans (pow_mono {i = 1180} {j = 1187} (lit≤ tt)) (le_trans least (le_of_eq product))) in
    let sx = scale_up x z 1474 480 gx gz ez (lit< tt) in
    let sy = scale_up y z 1474 480 gy gz ez (lit< tt) in
    let aX : nat_abs (val X) ≡ m * 2 ^ 480 = ap nat_abs (sx.1 ∙ ap (λ (t : ℤ). t *ℤ pos (2 ^ 480)) ex) in
    let aY : nat_abs (val Y) ≡ n * 2 ^ 480 = ap nat_abs (sy.1 ∙ ap (λ (t : ℤ). t *ℤ pos (2 ^ 480)) ey) in
    let scaled : nat_abs (val X) * nat_abs (val Y) ≡ m * n * 2 ^ 960 = (λ i. aX i * aY i) ∙ times_scaled m n (2 ^ 480) in
    let w = exact_large X Y (good_up X 1954 2050 (lit≤ tt) sx.0) (good_up Y 1954 2050 (lit≤ tt) sy.0)
    (le_trans (pow_mono {i = 1180} {j = 2147} (lit≤ tt)) (le_trans (mul-le-mul_right (2 ^ 960) least) (le_of_eq (sym scaled))))
    (le_trans (le_of_eq scaled) (le_trans (mul-le-mul_right (2 ^ 960) most) (pow_mono {i = 2149} {j = 2990} (lit≤ tt)))) in
    let s = sign_of x y X Y m n p.0 ex ey p.1 e sx.1 sy.1 w in
    record { number = w.lo_number; out = s.0; back = s.1 }
