-- Between two different f64 that both end in an even digit lies another f64, so not both are nearest to a number. Assumes nothing.
use Rattle.std.proofs.Common.{◌≡◌, ℕ, zero, suc, ◌+◌, ◌*◌, ◌%◌, ◌^◌, ◌<◌, ◌≤◌, Bool, true, false, ◌&&◌, T, eqb, ltb, leb, ◌⊎◌, ℤ, pos, negsuc, ◌-ℤ◌, ◌*ℤ◌, neg_ℤ, nat_abs, sym, refl, ap, ◌∙◌, subst, inl, inr, mul-le-mul_right, mul-lt-mul_of_pos_right, mul-pos, zero-mul, arith, ltb→lt, pow_pos, pow_mono}
use lib.Ieee.{Float, nan, inf, fin, binary64, fits, round, up as over, down as under-by}
use lib.Ieee.Fits.{and_r, down_pos, round-fits}
use lib.Ieee.Order.{drop}
use borrow.Author.Differences.{up, down}
use Rattle.ieee.specs.Val.{signed, val, rz, Mult, Under}
use Rattle.ieee.specs.Meaning.{Number, IsF64}
use Rattle.ieee.proofs.Ints.{zs, cancel_lt, abs_mul}
use Rattle.ieee.proofs.Whole.{order, Repr, rounds, exact, mult_down, mult_neg}
use Rattle.ieee.proofs.Sums.{repr_of, repr_neg, repr_zero}
use Rattle.ieee.proofs.Bridge.{mag, mag_is, abs_signed, round_int}
use Rattle.ieee.proofs.Ties.{placed_one, Even}

-- ---- whole numbers

-- as a natural number times 2 ^ j
multiple_of : (j a : ℕ) → Mult j (pos a) → (h : ℕ) × (a ≡ h * 2 ^ j)
multiple_of j a (q, e) = (nat_abs q, ap nat_abs e ∙ abs_mul q (pos (2 ^ j)))

-- a larger number has no smaller last place
places : (a b : ℕ) → a < b → drop 53 a 1 ≤ drop 53 b 1
places a b h = go (drop 53 a 1) (drop 53 b 1) (placed_one a).1 (placed_one b).0
  where
    go : (l m : ℕ) → (l ≡ 0) ⊎ (2 ^ 52 * 2 ^ l ≤ a) → b < 2 ^ 53 * 2 ^ m → l ≤ m
    go l m (inl e) u = omega arith
    go l m (inr g) u = elim (order l m) [ inl k ↦ k | inr k ↦ absurd (let p : 2 ^ suc m ≤ 2 ^ l = pow_mono k in omega arith) ]

-- c is a number of 53 digits between a and b
record Step (a b c : ℕ) : Type 0 where
  past : a < c
  short : c < b
  holds : Repr (pos c)

-- a and one last place more has 53 digits
step_repr : (a h l : ℕ) → a ≡ h * 2 ^ l → a < 2 ^ 53 * 2 ^ l → Repr (pos (a + 2 ^ l))
step_repr a h l e b =
    let k : h < 2 ^ 53 = cancel_lt (2 ^ l) h (2 ^ 53) (omega arith) in
    let m : suc h * 2 ^ l ≤ 2 ^ 53 * 2 ^ l = mul-le-mul_right (2 ^ l) k in
    repr_of l (pos (a + 2 ^ l)) (pos (suc h), ap pos (omega arith)) (omega arith, omega arith)

-- it does not reach b, since a and b are multiples of twice that place
step : (a b l : ℕ) → a < b → a < 2 ^ 53 * 2 ^ l → Mult (suc l) (pos a) → Mult (suc l) (pos b) → Step a b (a + 2 ^ l)
step a b l g u m n =
    let x = multiple_of (suc l) a m in
    let y = multiple_of (suc l) b n in
    let z = multiple_of l a (mult_down l (suc l) (pos a) (omega arith) m) in
    let P = pow_pos l in
    let k : x.0 < y.0 = cancel_lt (2 ^ suc l) x.0 y.0 (omega arith) in
    let w : suc x.0 * 2 ^ suc l ≤ y.0 * 2 ^ suc l = mul-le-mul_right (2 ^ suc l) k in
    record { past = omega arith; short = omega arith; holds = step_repr a z.0 l z.1 u }

middle : (a b : ℕ) → a < b → Even a → Even b → (c : ℕ) × Step a b c
middle a b h m n =
    let l = drop 53 a 1 in
    (a + 2 ^ l, step a b l h (placed_one a).0 m (mult_down (suc l) (suc (drop 53 b 1)) (pos b) (let p = places a b h in omega arith) n))

-- ---- integers

-- a < b
abbrev pub Below : ℤ → ℤ → Type 0
Below a b = up a + down b < up b + down a

-- the last of the 53 digits of a is even
abbrev pub EvenZ : ℤ → Type 0
EvenZ a = Mult (suc (drop 53 (nat_abs a) 1)) a

-- c is a number of 53 digits between a and b
pub record Inside (a b c : ℤ) : Type 0 where
  pub past : Below a c
  pub short : Below c b
  pub holds : Repr c

-- with the signs changed
mirrored : (a b c : ℕ) → Step a b c → Inside (neg_ℤ (pos b)) (neg_ℤ (pos a)) (neg_ℤ (pos c))
mirrored a b c s = record { past = let h = s.short in omega zs; short = let h = s.past in omega zs; holds = repr_neg (pos c) s.holds }

zero_even : (j : ℕ) → Mult j (pos 0)
zero_even j = (pos 0, ap pos (sym (zero-mul (2 ^ j))))

-- where a < 0 < b it is zero
pub inside : (a b : ℤ) → Below a b → EvenZ a → EvenZ b → (c : ℤ) × Inside a b c
inside (pos a) (pos b) h m n =
    let w = middle a b (omega arith) m n in
    (pos w.0, record { past = let g = w.1.past in omega arith; short = let g = w.1.short in omega arith; holds = w.1.holds })
inside (pos a) (negsuc b) h m n = absurd (omega arith)
inside (negsuc a) (pos zero) h m n =
    let w = middle 0 (suc a) (omega arith) (zero_even (suc (drop 53 0 1))) (mult_neg (suc (drop 53 (suc a) 1)) (negsuc a) m) in
    (neg_ℤ (pos w.0), mirrored 0 (suc a) w.0 w.1)
inside (negsuc a) (pos (suc b)) h m n = (pos 0, record { past = omega arith; short = omega arith; holds = repr_zero })
inside (negsuc a) (negsuc b) h m n =
    let w = middle (suc b) (suc a) (omega arith) (mult_neg (suc (drop 53 (suc b) 1)) (negsuc b) n) (mult_neg (suc (drop 53 (suc a) 1)) (negsuc a) m) in
    (neg_ℤ (pos w.0), mirrored (suc b) (suc a) w.0 w.1)

-- ---- distances from z / d

-- what lies between two numbers that are equally far from z is nearer to z
nearer : (a b c z : ℤ) → Below a c → Below c b → nat_abs (a -ℤ z) ≡ nat_abs (b -ℤ z) → nat_abs (c -ℤ z) < nat_abs (a -ℤ z)
nearer a b c z h k e = omega zs

times : (a b : ℤ) (d : ℕ) → 0 < d → Below a b → Below (a *ℤ pos d) (b *ℤ pos d)
times a b d D h = let m : (up a + down b) * d < (up b + down a) * d = mul-lt-mul_of_pos_right h D in omega zs

pub inside_nearer : (a b c z : ℤ) (d : ℕ) → 0 < d → Inside a b c → nat_abs (a *ℤ pos d -ℤ z) ≡ nat_abs (b *ℤ pos d -ℤ z) → nat_abs (c *ℤ pos d -ℤ z) < nat_abs (a *ℤ pos d -ℤ z)
inside_nearer a b c z d D i e = nearer (a *ℤ pos d) (b *ℤ pos d) (c *ℤ pos d) z (times a c d D i.past) (times c b d D i.short) e

-- ---- as f64

-- nothing between two numbers below t in size reaches t
inside_under : (a b c : ℤ) (t : ℕ) → Inside a b c → nat_abs a < t → nat_abs b < t → nat_abs c < t
inside_under a b c t i h k = let p = i.past in let q = i.short in omega zs

scaled_lt : (m u d t l : ℕ) → 0 < l → m * d ≡ u * l → u < t * d → m < t * l
scaled_lt m u d t l L e h = cancel_lt d m (t * l) (omega (arith, mul-lt-mul_of_pos_right h L))

-- an f64 is below 2 ^ 1024
mag_under : (s : Bool) (m : ℕ) (e : ℤ) → T (fits binary64 (fin s m e)) → mag m e < 2 ^ 1024 * 2 ^ 1074
unfolding fits
mag_under s zero e f =
    scaled_lt (mag 0 e) (0 * over e) (under-by e) (2 ^ 1024) (2 ^ 1074) (pow_pos 1074) (mag_is s 0 e f).3 (subst (λ (n : ℕ). n < 2 ^ 1024 * under-by e) (sym (zero-mul (over e))) (mul-pos (pow_pos 1024) (down_pos e)))
mag_under s (suc m) e f =
    let a : Bool = eqb (suc m % 2) 1 in
    let b : Bool = ltb (suc m) (2 ^ 53) in
    let c : Bool = leb (under-by e) (2 ^ 1074) in
    let d : Bool = ltb (suc m * over e) (2 ^ 1024 * under-by e) in
    scaled_lt (mag (suc m) e) (suc m * over e) (under-by e) (2 ^ 1024) (2 ^ 1074) (pow_pos 1074) (mag_is s (suc m) e f).3 (ltb→lt (suc m * over e) (2 ^ 1024 * under-by e) (and_r (a && b && c) d f))

pub val_under : (x : Float) → T (fits binary64 x) → Under (val x)
val_under nan f = pow_pos 2098
val_under (inf s) f = pow_pos 2098
val_under (fin s m e) f = subst (λ (n : ℕ). n < 2 ^ 2098) (sym (abs_signed s (mag m e))) (mag_under s m e f)

-- a number of 53 digits below the overflow is an f64
pub to_f64 : (x : ℤ) → Repr x → Under x → IsF64 x
to_f64 x w h = go x (exact x (rz x) (rounds x) w) h
  where
    of : (s : Bool) (n : ℕ) → rz (signed s n) ≡ signed s n → Under (signed s n) → IsF64 (signed s n)
    of s n e h =
        let r = round binary64 s n (2 ^ 1074) in
        let i = round_int s n (2 ^ 1074) n (pow_pos 1074) refl (subst Under (sym e) h) in
        (r, (record { holds = round-fits binary64 s n (2 ^ 1074); number = i.0 }, i.1 ∙ e))

    go : (x : ℤ) → rz x ≡ x → Under x → IsF64 x
    go (pos n) e h = of false n e h
    go (negsuc n) e h = of true (suc n) e h

-- of two different f64 that end in an even digit and are equally far from z / d, neither is nearest
pub between : (r t : Float) (z : ℤ) (d : ℕ) → 0 < d → Number r → Number t → Below (val r) (val t) → EvenZ (val r) → EvenZ (val t) → nat_abs (val r *ℤ pos d -ℤ z) ≡ nat_abs (val t *ℤ pos d -ℤ z)
    → (y : Float) × (Number y × (nat_abs (val y *ℤ pos d -ℤ z) < nat_abs (val r *ℤ pos d -ℤ z)))
between r t z d D p q h m n e =
    let i = inside (val r) (val t) h m n in
    let y = to_f64 i.0 i.1.holds (inside_under (val r) (val t) i.0 (2 ^ 2098) i.1 (val_under r p.holds) (val_under t q.holds)) in
    (y.0, (y.1.0, subst (λ (c : ℤ). nat_abs (c *ℤ pos d -ℤ z) < nat_abs (val r *ℤ pos d -ℤ z)) (sym y.1.1) (inside_nearer (val r) (val t) i.0 z d D i.1 e)))
