-- The three steps of a later sample, each as a fraction that is rounded once, and the bound that keeps them from overshooting: an eighth of a
-- rounded difference, rounded, is at most the difference itself. For a power of two lies between the two: the largest one that the difference reaches.
use Prim.Native.Nat.{ℕ, zero, suc, ◌+◌, ◌-◌, ◌*◌, ◌/◌, ◌^◌, ◌≤◌, ◌<◌, zero-le}
use mathlib.Core.Bool.{Bool, true, false, cond}
use mathlib.Core.Logic.{inl, inr}
use mathlib.Core.Path.{◌≡◌, refl, sym, ap, ◌∙◌, subst}
use native.Mathlib.Nat.{le_refl, le_trans, le_of_eq, le_of_lt, lt_of_lt_of_le, lt_of_le_of_lt, not-le_of_lt, eq-zero-or-pos, lt_irrefl, pow-suc, zero-mul, one-mul, mul-one, mul_comm, mul_assoc, mul_right_comm, mul-le-mul, mul-lt-mul_of_pos_right, add_comm, sub-le, le-div_iff_mul-le, div-lt_iff_lt-mul, zero-lt-suc}
use native.Mathlib.Omega.{arith}
use borrow.Author.Tests.{lt-ltb}
use lib.IntN.{pos}
use lib.Dec.{T, ltb, ltb→lt}
use lib.Pow.{pow-add, pow_pos, pow-lt}
use lib.Ieee.{Float, nan, inf, fin, Format, binary64, prec, emax, low, up, down, size, round, neg, sum, add, sub, div, le, lt, fits}
use lib.Ieee.Digits.{size-lt, size-le, size_reaches}
use lib.Ieee.Fits.{two, two-le_pos}
use lib.Ieee.Exact.{HasValue, round_exact}
use lib.Ieee.Order.{round_mono}
use lib.Ieee.Positive.{num, den, den_pos, through, value→cross}
use Rattle.meter.specs.Invariant.{nonneg}
use Rattle.meter.proofs.Nonneg.{of_value, le→cross, lt→cross, lt→le, round-nonneg, round-le, round-neg, round-unsigned, unsigned, unsigned-under}

-- ---- the operations as fractions

pub add_is : (f : Format) (x y : Float) → T (nonneg x) → T (nonneg y) → add f x y ≡ round f false (num x * den y + num y * den x) (den x * den y)
unfolding add sum
add_is f nan y p q = absurd p
add_is f (inf s) y p q = absurd p
add_is f (fin true m e) y p q = absurd p
add_is f (fin false m e) nan p q = absurd q
add_is f (fin false m e) (inf t) p q = absurd q
add_is f (fin false m e) (fin true n d) p q = absurd q
add_is f (fin false m e) (fin false n d) p q = refl

-- a difference is a sum of two signs
apart : (f : Format) (x y : Float) → T (nonneg x) → T (nonneg y) → sub f x y ≡ sum f false (num x * den y) true (num y * den x) (den x * den y)
unfolding sub
apart f nan y p q = absurd p
apart f (inf s) y p q = absurd p
apart f (fin true m e) y p q = absurd p
apart f (fin false m e) nan p q = absurd q
apart f (fin false m e) (inf t) p q = absurd q
apart f (fin false m e) (fin true n d) p q = absurd q
apart f (fin false m e) (fin false n d) p q = refl

first_larger : (f : Format) (a b c : ℕ) → b ≤ a → sum f false a true b c ≡ round f false (a - b) c
unfolding sum
first_larger f a b c h = go (ltb a b) (ltb→lt a b)
  where
    go : (t : Bool) → (T t → a < b) → cond t (round f true (b - a) c) (round f false (a - b) c) ≡ round f false (a - b) c
    go true k = absurd (not-le_of_lt (k tt) h)
    go false k = refl

second_larger : (f : Format) (a b c : ℕ) → ltb a b ≡ true → sum f false a true b c ≡ round f true (b - a) c
unfolding sum
second_larger f a b c h = ap (λ (t : Bool). cond t (round f true (b - a) c) (round f false (a - b) c)) h

pub sub_is : (f : Format) (x y : Float) → T (nonneg x) → T (nonneg y) → T (le y x) → sub f x y ≡ round f false (num x * den y - num y * den x) (den x * den y)
sub_is f x y p q h = apart f x y p q ∙ first_larger f (num x * den y) (num y * den x) (den x * den y) (le→cross y x q p h)

-- the other way round it is the same but for the sign
pub sub-neg : (f : Format) (x y : Float) → T (nonneg x) → T (nonneg y) → lt x y ≡ true → sub f x y ≡ neg (sub f y x)
sub-neg f x y p q h =
    apart f x y p q
    ∙ second_larger f (num x * den y) (num y * den x) (den x * den y) (lt-ltb (num x * den y) (num y * den x) (lt→cross x y p q h))
    ∙ ap (λ (c : ℕ). round f true (num y * den x - num x * den y) c) (mul_comm (den x) (den y))
    ∙ round-neg f (num y * den x - num x * den y) (den y * den x)
    ∙ ap neg (sym (sub_is f y x q p (lt→le x y p q h)))

abbrev pub eight : Float
eight = fin false 1 (pos 3)

pub eighth_is : (f : Format) (x : Float) → T (nonneg x) → div f x eight ≡ round f false (num x * 1) (1 * 2 ^ 3 * den x)
unfolding div
eighth_is f nan p = absurd p
eighth_is f (inf s) p = absurd p
eighth_is f (fin true m e) p = absurd p
eighth_is f (fin false m e) p = refl

pub eighth_neg : (f : Format) (x : Float) → T (nonneg x) → div f (neg x) eight ≡ neg (div f x eight)
unfolding div neg
eighth_neg f nan p = absurd p
eighth_neg f (inf s) p = absurd p
eighth_neg f (fin true m e) p = absurd p
eighth_neg f (fin false m e) p = round-neg f (m * up e * 1) (1 * 2 ^ 3 * down e)

pub add-neg : (f : Format) (x y : Float) → add f x (neg y) ≡ sub f x y
unfolding sub
add-neg f x y = refl

-- ---- an eighth is at most the whole

eight-pos : (d : ℕ) → 0 < d → 0 < 1 * 2 ^ 3 * d
eight-pos d h = omega arith

some : (a d : ℕ) → a * 1 * d ≤ a * (1 * 2 ^ 3 * d)
some a d = le_trans (le_of_eq (ap (λ (x : ℕ). x * d) (mul-one a))) (mul-le-mul (le_refl a) (grows d))
  where
    grows : (x : ℕ) → x ≤ 1 * 2 ^ 3 * x
    grows x = omega arith

pub eighth_le : (f : Format) (x : Float) → T (nonneg x) → T (fits f x) → T (le (div f x eight) x)
eighth_le f x p u = subst (λ (z : Float). T (le z x)) (sym (eighth_is f x p)) (round-le f (num x * 1) (1 * 2 ^ 3 * den x) x (eight-pos (den x) (den_pos x)) p u (some (num x) (den x)))

pub eighth_nonneg : (f : Format) (x : Float) → T (nonneg x) → T (fits f x) → T (nonneg (div f x eight))
eighth_nonneg f x p u = subst (λ (z : Float). T (nonneg z)) (sym (eighth_is f x p)) (round-nonneg f (num x * 1) (1 * 2 ^ 3 * den x) x (eight-pos (den x) (den_pos x)) p u (some (num x) (den x)))

-- ---- a power of two is a float

power : (f : Format) (j : ℕ) → j ≤ low f + emax f → HasValue (round f false (2 ^ j) (2 ^ low f)) false (2 ^ j) (2 ^ low f)
power f j h =
    round_exact f false (2 ^ j) (2 ^ low f) 1 j (pow_pos (low f)) (one-lt (prec f) (two f))
    (subst (λ (x : ℕ). x < 2 ^ (low f + suc (emax f))) (sym (one-mul (2 ^ j))) (pow-lt (fits_in j (low f) (emax f) h)))
    (ap (λ (x : ℕ). x * 2 ^ low f) (sym (one-mul (2 ^ j))))
  where
    one-lt : (p : ℕ) → 2 ≤ p → 1 < 2 ^ p
    one-lt p g = pow-lt (two-le_pos p g)

    fits_in : (a b c : ℕ) → a ≤ b + c → a < b + suc c
    fits_in a b c g = omega arith

-- a fraction that is at most a power of two, in units of the smallest value, rounds to at most that
under_power : (f : Format) (a c j : ℕ) → 0 < c → j ≤ low f + emax f → a * 2 ^ low f ≤ 2 ^ j * c
    → T (nonneg (round f false a c)) × (num (round f false a c) * 2 ^ low f ≤ 2 ^ j * den (round f false a c))
under_power f a c j C h k =
    let y = round f false (2 ^ j) (2 ^ low f) in
    let v = power f j h in
    let p = of_value y (2 ^ j) (2 ^ low f) v in
    let x = round f false a c in
    let l : T (le x y) = round_mono f a c (2 ^ j) (2 ^ low f) C (pow_pos (low f)) k in
    let q = unsigned-under x y (round-unsigned f a c) p l in
    (q, through (num x) (num y) (2 ^ j) (den x) (den y) (2 ^ low f) (den_pos y) (le→cross x y q p l) (le_of_eq (value→cross y (2 ^ j) (2 ^ low f) v)))

-- ---- the bound
double : (z d : ℕ) → 0 < z → 2 ^ z * d ≤ 2 ^ (z - 1) * (1 * 2 ^ 3 * d)
double zero d h = absurd (lt_irrefl 0 h)
double (suc z) d h =
    let e : 2 ^ suc z * d ≡ 2 ^ z * d * 2 = ap (λ (x : ℕ). x * d) (pow-suc 2 z) ∙ mul_right_comm (2 ^ z) 2 d in
    let g : 2 ^ z * (1 * 2 ^ 3 * d) ≡ 2 ^ z * d * 8 = sym (mul_assoc (2 ^ z) 8 d) ∙ mul_right_comm (2 ^ z) 8 d in
    subst (λ (k : ℕ). 2 ^ suc z * d ≤ 2 ^ k * (1 * 2 ^ 3 * d)) (one_less z) (le_trans (le_of_eq e) (le_trans (more (2 ^ z * d)) (le_of_eq (sym g))))
  where
    one_less : (k : ℕ) → k ≡ suc k - 1
    one_less k = omega arith

    more : (x : ℕ) → x * 2 ≤ x * 8
    more x = omega arith

-- with a difference of at least the smallest value
at_least_one : (f : Format) (a c : ℕ) → 0 < c → a < 2 ^ emax f * c → 0 < a * 2 ^ low f / c
    → num (div f (round f false a c) eight) * c ≤ a * den (div f (round f false a c) eight)
at_least_one f a c C H N =
    let l = low f in
    let n = a * 2 ^ l / c in
    let z = size n in
    let top : n < 2 ^ (emax f + l) = (div-lt_iff_lt-mul C).1 (lt_of_lt_of_le (mul-lt-mul_of_pos_right H (pow_pos l)) (le_of_eq (mul_right_comm (2 ^ emax f) c (2 ^ l) ∙ ap (λ (x : ℕ). x * c) (sym (pow-add 2 (emax f) l))))) in
    let zl : z ≤ l + emax f = le_trans (size-le n (emax f + l) top) (le_of_eq (add_comm (emax f) l)) in
    let zp : 0 < z = size-pos n N in
    let x = round f false a c in
    let xs = under_power f a c z C zl (le_of_lt ((div-lt_iff_lt-mul C).0 (size-lt n))) in
    let q = div f x eight in
    let k : num x * 1 * 2 ^ l ≤ 2 ^ (z - 1) * (1 * 2 ^ 3 * den x) = le_trans (le_of_eq (ap (λ (y : ℕ). y * 2 ^ l) (mul-one (num x)))) (le_trans xs.1 (double z (den x) zp)) in
    let qs = under_power f (num x * 1) (1 * 2 ^ 3 * den x) (z - 1) (eight-pos (den x) (den_pos x)) (le_trans (sub-le z 1) zl) k in
    let ql : num q * 2 ^ l ≤ 2 ^ (z - 1) * den q = subst (λ (y : Float). num y * 2 ^ l ≤ 2 ^ (z - 1) * den y) (sym (eighth_is f x xs.0)) qs.1 in
    through (num q) (2 ^ (z - 1)) a (den q) (2 ^ l) c (pow_pos l) ql ((le-div_iff_mul-le C).0 (size_reaches n (z - 1) (pred_lt z zp)))
  where
    size-pos : (n : ℕ) → 0 < n → 0 < size n
    size-pos n h = go (size n) (size-lt n)
      where
        go : (z : ℕ) → n < 2 ^ z → 0 < z
        go zero k = absurd (not-le_of_lt k h)
        go (suc z) k = zero-lt-suc z

    pred_lt : (z : ℕ) → 0 < z → z - 1 < z
    pred_lt z h = omega arith

-- with a smaller one, whose eighth rounds to 0
under_one : (f : Format) → round f false 1 (1 * 2 ^ 3 * 2 ^ low f) ≡ fin false 0 (pos 0) → (a c : ℕ) → 0 < c → a * 2 ^ low f / c ≡ 0
    → num (div f (round f false a c) eight) * c ≤ a * den (div f (round f false a c) eight)
under_one f tiny a c C N =
    let l = low f in
    let x = round f false a c in
    let small : a * 2 ^ l < 1 * c = (div-lt_iff_lt-mul C).0 (lt_of_le_of_lt (le_of_eq N) (zero-lt-suc 0)) in
    let xs = under_power f a c 0 C zero-le (le_of_lt small) in
    let q = div f x eight in
    let k : num x * 1 * (1 * 2 ^ 3 * 2 ^ l) ≤ 1 * (1 * 2 ^ 3 * den x) = eight-times (num x) (2 ^ l) (den x) xs.1 in
    let ql : T (le q (fin false 0 (pos 0))) =
    subst (λ (y : Float). T (le y (fin false 0 (pos 0)))) (sym (eighth_is f x xs.0))
    (subst (λ (y : Float). T (le (round f false (num x * 1) (1 * 2 ^ 3 * den x)) y)) tiny
    (round_mono f (num x * 1) (1 * 2 ^ 3 * den x) 1 (1 * 2 ^ 3 * 2 ^ l) (eight-pos (den x) (den_pos x)) (eight-pos (2 ^ l) (pow_pos l)) k)) in
    let qn : T (nonneg q) =
    unsigned-under q (fin false 0 (pos 0)) (subst (λ (y : Float). T (unsigned y)) (sym (eighth_is f x xs.0)) (round-unsigned f (num x * 1) (1 * 2 ^ 3 * den x))) tt ql in
    let none : num q ≡ 0 = nothing (num q) (den q) (le→cross q (fin false 0 (pos 0)) qn tt ql) in
    le_trans (le_of_eq (ap (λ (y : ℕ). y * c) none ∙ zero-mul c)) zero-le
  where
    eight-times : (n l d : ℕ) → n * l ≤ 1 * d → n * 1 * (1 * 2 ^ 3 * l) ≤ 1 * (1 * 2 ^ 3 * d)
    eight-times n l d h =
        let e : n * 1 * (1 * 2 ^ 3 * l) ≡ n * l * 8 = ap (λ (x : ℕ). x * (8 * l)) (mul-one n) ∙ ap (λ (x : ℕ). n * x) (mul_comm 8 l) ∙ sym (mul_assoc n l 8) in
        omega arith

    nothing : (n d : ℕ) → n * 1 ≤ 0 * 1 * d → n ≡ 0
    nothing n d h = omega arith

-- at any size that twice does not overflow
pub eighth_under : (f : Format) → round f false 1 (1 * 2 ^ 3 * 2 ^ low f) ≡ fin false 0 (pos 0) → (a c : ℕ) → 0 < c → a < 2 ^ emax f * c
    → num (div f (round f false a c) eight) * c ≤ a * den (div f (round f false a c) eight)
eighth_under f tiny a c C H = elim (eq-zero-or-pos (a * 2 ^ low f / c)) [ inl e ↦ under_one f tiny a c C e | inr p ↦ at_least_one f a c C H p ]

pub tiny : round binary64 false 1 (1 * 2 ^ 3 * 2 ^ low binary64) ≡ fin false 0 (pos 0)
unfolding round
tiny = refl
