-- The floats that are finite and at least 0, +0 included and -0 not, each as the fraction `num` / `den`: their order is the fractions', two of
-- the same size are one float, and rounding one's own fraction changes nothing.
use Prim.Native.Nat.{ℕ, zero, suc, ◌+◌, ◌-◌, ◌*◌, ◌/◌, ◌%◌, ◌^◌, ◌≤◌, ◌<◌}
use mathlib.Core.Bool.{Bool, true, false, not, ◌&&◌, ◌||◌, cond, true≢false}
use mathlib.Core.Path.{◌≡◌, refl, sym, ap, ◌∙◌, subst}
use native.Mathlib.Nat.{le_refl, le_of_eq, le_of_lt, lt_of_lt_of_le, not-le_of_lt, zero-mul, one-mul, mul-one, le_of_suc-le-suc, lt_of_not-le, mul_assoc, mul_comm, mul_right_comm, mul-lt-mul_of_pos_right, lt_of_mul-lt-mul_right, sub-add_cancel}
use borrow.Author.Tests.{ltb-true, ltb-false, le-ltb}
use lib.IntN.{ℤ, pos, negsuc}
use lib.Dec.{T, leb, ltb, eqb, ltb→lt, leb→le, eqb→eq}
use lib.Pow.{pow-add, pow_pos, pow-lt}
use lib.Ieee.{Float, nan, inf, fin, Format, prec, emax, low, hid, top, up, down, size, odd, units, round, neg, lt, le, fits, to_bits, of_bits}
use lib.Ieee.Fits.{round_is, down_pos, and_l, and_r, round-fits}
use lib.Ieee.Bits.{of_bits-to_bits}
use lib.Ieee.Exact.{HasValue, odd_sign, round_exact}
use lib.Ieee.Nearest.{div_same}
use lib.Ieee.Order.{le_of_values, round_mono}
use lib.Ieee.Positive.{num, den, den_pos, through, value→cross}
use Rattle.meter.specs.Invariant.{nonneg}

-- ---- the order

pub own_value : (x : Float) → T (nonneg x) → HasValue x false (num x) (den x)
own_value nan p = absurd p
own_value (inf s) p = absurd p
own_value (fin true m e) p = absurd p
own_value (fin false m e) p = (refl, refl)

pub of_value : (x : Float) (a c : ℕ) → HasValue x false a c → T (nonneg x)
of_value nan a c h = absurd h
of_value (inf s) a c h = absurd h
of_value (fin true m e) a c h = absurd (true≢false h.0)
of_value (fin false m e) a c h = tt

pub cross→le : (x y : Float) → T (nonneg x) → T (nonneg y) → num x * den y ≤ num y * den x → T (le x y)
cross→le x y p q h = le_of_values x y (num x) (den x) (num y) (den y) (den_pos x) (den_pos y) (own_value x p) (own_value y q) h

lt_or_eq : (a b : ℕ) → T (ltb a b || (eqb a b && true)) → a ≤ b
lt_or_eq a b t = go (ltb a b) (eqb a b) (ltb→lt a b) (eqb→eq a b) t
  where
    go : (x y : Bool) → (T x → a < b) → (T y → a ≡ b) → T (x || (y && true)) → a ≤ b
    go true y h k t = le_of_lt (h tt)
    go false true h k t = le_of_eq (k tt)
    go false false h k t = absurd t

pub le→cross : (x y : Float) → T (nonneg x) → T (nonneg y) → T (le x y) → num x * den y ≤ num y * den x
unfolding le
le→cross nan y p q h = absurd p
le→cross (inf s) y p q h = absurd p
le→cross (fin true m e) y p q h = absurd p
le→cross (fin false m e) nan p q h = absurd q
le→cross (fin false m e) (inf t) p q h = absurd q
le→cross (fin false m e) (fin true n d) p q h = absurd q
le→cross (fin false m e) (fin false n d) p q h = lt_or_eq (m * up e * down d) (n * up d * down e) h

-- `<` compares the fractions
lt-is : (x y : Float) → T (nonneg x) → T (nonneg y) → lt x y ≡ ltb (num x * den y) (num y * den x)
unfolding lt
lt-is nan y p q = absurd p
lt-is (inf s) y p q = absurd p
lt-is (fin true m e) y p q = absurd p
lt-is (fin false m e) nan p q = absurd q
lt-is (fin false m e) (inf t) p q = absurd q
lt-is (fin false m e) (fin true n d) p q = absurd q
lt-is (fin false m e) (fin false n d) p q = refl

pub lt→cross : (x y : Float) → T (nonneg x) → T (nonneg y) → lt x y ≡ true → num x * den y < num y * den x
lt→cross x y p q h = ltb-true (num x * den y) (num y * den x) (sym (lt-is x y p q) ∙ h)

pub nlt→le : (x y : Float) → T (nonneg x) → T (nonneg y) → lt x y ≡ false → T (le y x)
nlt→le x y p q h = cross→le y x q p (ltb-false (num x * den y) (num y * den x) (sym (lt-is x y p q) ∙ h))

pub le→nlt : (x y : Float) → T (nonneg x) → T (nonneg y) → T (le y x) → lt x y ≡ false
le→nlt x y p q h = lt-is x y p q ∙ le-ltb (num x * den y) (num y * den x) (le→cross y x q p h)

pub lt→le : (x y : Float) → T (nonneg x) → T (nonneg y) → lt x y ≡ true → T (le x y)
lt→le x y p q h = cross→le x y p q (le_of_lt (lt→cross x y p q h))

pub le_self : (x : Float) → T (nonneg x) → T (le x x)
le_self x p = cross→le x x p p (le_refl (num x * den x))

pub trans : (x y z : Float) → T (nonneg x) → T (nonneg y) → T (nonneg z) → T (le x y) → T (le y z) → T (le x z)
trans x y z p q r h k = cross→le x z p r (through (num x) (num y) (num z) (den x) (den y) (den z) (den_pos y) (le→cross x y p q h) (le→cross y z q r k))

-- ---- two floats of one size

-- the bits go by the size in units of the smallest value
bits_are : (f : Format) (x : Float) → T (nonneg x) → to_bits f x ≡ cond false (top f) 0 + (size (num x * 2 ^ low f / den x) - prec f) * hid f + (num x * 2 ^ low f / den x) / 2 ^ (size (num x * 2 ^ low f / den x) - prec f)
unfolding to_bits
bits_are f nan p = absurd p
bits_are f (inf s) p = absurd p
bits_are f (fin true m e) p = absurd p
bits_are f (fin false m e) p = refl

pub same_size : (f : Format) (x y : Float) → T (nonneg x) → T (nonneg y) → T (fits f x) → T (fits f y) → num x * den y ≡ num y * den x → x ≡ y
same_size f x y p q u v e =
    let l = 2 ^ low f in
    let h : num x * l * den y ≡ num y * l * den x = mul_right_comm (num x) l (den y) ∙ ap (λ (z : ℕ). z * l) e ∙ mul_right_comm (num y) (den x) l in
    let n : num x * l / den x ≡ num y * l / den y = div_same (num x * l) (den x) (num y * l) (den y) (den_pos x) (den_pos y) h in
    let b : to_bits f x ≡ to_bits f y =
    bits_are f x p ∙ ap (λ (z : ℕ). cond false (top f) 0 + (size z - prec f) * hid f + z / 2 ^ (size z - prec f)) n ∙ sym (bits_are f y q) in
    sym (of_bits-to_bits f x u) ∙ ap (of_bits f) b ∙ of_bits-to_bits f y v

-- ---- rounding

-- 2 ^ e, in units of 2 ^ -l, is a power of two
place : (l : ℕ) (e : ℤ) → down e ≤ 2 ^ l → (j : ℕ) × (up e * 2 ^ l ≡ 2 ^ j * down e)
place l (pos k) h = (k + l, sym (pow-add 2 k l) ∙ sym (mul-one (2 ^ (k + l))))
place l (negsuc k) h =
    let g : suc k ≤ l = pow_le_back (suc k) l h in
    (l - suc k, one-mul (2 ^ l) ∙ ap (λ (x : ℕ). 2 ^ x) (sym (sub-add_cancel g)) ∙ pow-add 2 (l - suc k) (suc k))
  where
    pow_le_back : (a b : ℕ) → 2 ^ a ≤ 2 ^ b → a ≤ b
    pow_le_back a b h = le_of_suc-le-suc (lt_of_not-le (λ (g : suc b ≤ a). not-le_of_lt (pow-lt g) h))

-- at any other size than 0, of what a format holds
round-fin : (f : Format) (m : ℕ) (e : ℤ) → m < 2 ^ prec f → down e ≤ 2 ^ low f → m * up e < 2 ^ suc (emax f) * down e → HasValue (round f false (m * up e) (down e)) false (m * up e) (down e)
round-fin f m e a b c =
    let l = low f in
    let j = (place l e b).0 in
    let h : m * up e * 2 ^ l ≡ m * 2 ^ j * down e = mul_assoc m (up e) (2 ^ l) ∙ ap (λ (x : ℕ). m * x) (place l e b).1 ∙ sym (mul_assoc m (2 ^ j) (down e)) in
    let k : m * 2 ^ j * down e < 2 ^ (l + suc (emax f)) * down e =
    subst (λ (x : ℕ). x < 2 ^ (l + suc (emax f)) * down e) h
    (lt_of_lt_of_le (mul-lt-mul_of_pos_right c (pow_pos l))
    (le_of_eq (mul_right_comm (2 ^ suc (emax f)) (down e) (2 ^ l) ∙ ap (λ (x : ℕ). x * down e) (mul_comm (2 ^ suc (emax f)) (2 ^ l) ∙ sym (pow-add 2 l (suc (emax f))))))) in
    round_exact f false (m * up e) (down e) m j (down_pos e) a (lt_of_mul-lt-mul_right (down e) k) h

round-own : (f : Format) (x : Float) → T (nonneg x) → T (fits f x) → HasValue (round f false (num x) (den x)) false (num x) (den x)
unfolding fits
round-own f nan p u = absurd p
round-own f (inf s) p u = absurd p
round-own f (fin true m e) p u = absurd p
round-own f (fin false zero e) p u =
    round_exact f false (0 * up e) (down e) 0 0 (down_pos e) (pow_pos (prec f)) (pow_pos (low f + suc (emax f)))
    (ap (λ (x : ℕ). x * 2 ^ low f) (zero-mul (up e)) ∙ zero-mul (2 ^ low f) ∙ sym (zero-mul (down e)))
round-own f (fin false (suc m) e) p u =
    let o : Bool = eqb (suc m % 2) 1 in
    let a : Bool = ltb (suc m) (2 ^ prec f) in
    let b : Bool = leb (down e) (2 ^ low f) in
    let c : Bool = ltb (suc m * up e) (2 ^ suc (emax f) * down e) in
    round-fin f (suc m) e (ltb→lt (suc m) (2 ^ prec f) (and_r o a (and_l (o && a) b (and_l (o && a && b) c u))))
    (leb→le (down e) (2 ^ low f) (and_r (o && a) b (and_l (o && a && b) c u)))
    (ltb→lt (suc m * up e) (2 ^ suc (emax f) * down e) (and_r (o && a && b) c u))

-- what the format holds is not rounded
pub round_self : (f : Format) (x : Float) → T (nonneg x) → T (fits f x) → round f false (num x) (den x) ≡ x
round_self f x p u =
    let y = round f false (num x) (den x) in
    let v = round-own f x p u in
    same_size f y x (of_value y (num x) (den x) v) p (round-fits f false (num x) (den x)) u (value→cross y (num x) (den x) v)

-- no NaN and no sign
abbrev pub unsigned : Float → Bool
unsigned nan = false
unsigned (inf s) = not s
unsigned (fin s m e) = not s

value_unsigned : (x : Float) (a c : ℕ) → HasValue x false a c → T (unsigned x)
value_unsigned nan a c h = absurd h
value_unsigned (inf s) a c h = absurd h
value_unsigned (fin true m e) a c h = absurd (true≢false h.0)
value_unsigned (fin false m e) a c h = tt

units-unsigned : (f : Format) (q k : ℕ) → T (unsigned (units f false q k))
unfolding units
units-unsigned f q k = go (ltb (q * 2 ^ k) (2 ^ (low f + suc (emax f))))
  where
    go : (b : Bool) → T (unsigned (cond b (odd (suc (prec f)) false q k (low f)) (inf false)))
    go true = value_unsigned (odd (suc (prec f)) false q k (low f)) (q * 2 ^ k) (2 ^ low f) (odd_sign (suc (prec f)) false q k (low f))
    go false = tt

pub round-unsigned : (f : Format) (a c : ℕ) → T (unsigned (round f false a c))
round-unsigned f a c = subst (λ (z : Float). T (unsigned z)) (sym (round_is f false a c)) (units-unsigned f _ _)

pub unsigned-under : (z hi : Float) → T (unsigned z) → T (nonneg hi) → T (le z hi) → T (nonneg z)
unfolding le
unsigned-under nan hi a p h = absurd a
unsigned-under (inf true) hi a p h = absurd a
unsigned-under (inf false) nan a p h = absurd p
unsigned-under (inf false) (inf t) a p h = absurd p
unsigned-under (inf false) (fin t n d) a p h = absurd h
unsigned-under (fin true m e) hi a p h = absurd a
unsigned-under (fin false m e) hi a p h = tt

-- a fraction that is at most a float's rounds to at most that float, and so to a finite one
pub round-le : (f : Format) (a c : ℕ) (hi : Float) → 0 < c → T (nonneg hi) → T (fits f hi) → a * den hi ≤ num hi * c → T (le (round f false a c) hi)
round-le f a c hi C p u h = subst (λ (z : Float). T (le (round f false a c) z)) (round_self f hi p u) (round_mono f a c (num hi) (den hi) C (den_pos hi) h)

pub le-round : (f : Format) (a c : ℕ) (lo : Float) → 0 < c → T (nonneg lo) → T (fits f lo) → num lo * c ≤ a * den lo → T (le lo (round f false a c))
le-round f a c lo C p u h = subst (λ (z : Float). T (le z (round f false a c))) (round_self f lo p u) (round_mono f (num lo) (den lo) a c (den_pos lo) C h)

pub round-nonneg : (f : Format) (a c : ℕ) (hi : Float) → 0 < c → T (nonneg hi) → T (fits f hi) → a * den hi ≤ num hi * c → T (nonneg (round f false a c))
round-nonneg f a c hi C p u h = unsigned-under (round f false a c) hi (round-unsigned f a c) p (round-le f a c hi C p u h)

-- ---- the sign of what is rounded

odd-neg : (d q k l : ℕ) → odd d true q k l ≡ neg (odd d false q k l)
unfolding odd neg
odd-neg d zero k l = refl
odd-neg d (suc q) k l = refl

units-neg : (f : Format) (q k : ℕ) → units f true q k ≡ neg (units f false q k)
unfolding units neg
units-neg f q k = go (ltb (q * 2 ^ k) (2 ^ (low f + suc (emax f))))
  where
    go : (b : Bool) → cond b (odd (suc (prec f)) true q k (low f)) (inf true) ≡ neg (cond b (odd (suc (prec f)) false q k (low f)) (inf false))
    go true = odd-neg (suc (prec f)) q k (low f)
    go false = refl

pub round-neg : (f : Format) (a c : ℕ) → round f true a c ≡ neg (round f false a c)
round-neg f a c = round_is f true a c ∙ units-neg f _ _ ∙ ap neg (sym (round_is f false a c))
