-- The bits of a finite float of at least 0, as `level_at` and `level_bits` have them.
use Prim.Native.Nat.{ℕ, zero, suc, ◌+◌, ◌-◌, ◌*◌, ◌/◌, ◌%◌, ◌^◌, ◌<◌, ◌≤◌}
use mathlib.Core.Bool.{Bool, true, false, not, cond, true≢false}
use mathlib.Core.Path.{◌≡◌, refl, sym, ap, ◌∙◌, subst}
use native.Mathlib.Nat.{le_trans, le_of_lt, le_of_eq, le-suc, lt_of_lt_of_le, lt_of_le_of_lt, lt_of_not-le, not-le_of_lt, le_antisymm, le_of_suc-le-suc, zero-lt-suc, ne_of_lt, mod-le, mod-eq_of_lt, mul_comm, mul-le-mul_left, div-lt_iff_lt-mul, le-div_iff_mul-le}
use native.Mathlib.Numerals.{add-one}
use borrow.Author.Tests.{le-ltb, lt-ltb, lt-leb, leb-false, eq-eqb, ne_eqb}
use lib.Dec.{T, ltb, leb, eqb, ltb→lt, lit<, lit≤}
use lib.Pow.{pow_pos}
use lib.Ieee.{Float, nan, inf, fin, Format, binary64, prec, emax, low, hid, ones, top, odd, of_fields, of_bits, to_bits, nan_bits, is_nan, ne}
use lib.Ieee.Bits.{nan_bits_is, nan_bits_above, of_bits-fits, of_bits-to_bits, to_bits-of_bits}
use lib.Ieee.Compare.{differs_from_itself, nan_differs}
use lib.Ieee.Exact.{HasValue, odd_sign}
use Rattle.meter.specs.Gauge.{whole}
use Rattle.meter.specs.Words.{infinity_bits, level_at, level_bits}
use Rattle.meter.specs.Invariant.{nonneg, Amount}
use Rattle.meter.proofs.Nonneg.{of_value}
use Rattle.meter.proofs.Invariant.{whole_amount}

-- under infinity's bits no NaN has its own
pub no_nan_bits : (n : ℕ) → n < infinity_bits → T (not (nan_bits binary64 n))
no_nan_bits n h =
    subst (λ (b : Bool). T (not b)) (sym (nan_bits_above binary64 n ∙ le-ltb infinity_bits (n % top binary64) (le_trans (mod-le n (top binary64)) (le_of_lt h)))) tt

-- only a NaN differs from itself
differs : (x : Float) → ne x x ≡ is_nan x
unfolding is_nan
differs x = by x (ne x x) refl
  where
    by : (x : Float) (b : Bool) → ne x x ≡ b → ne x x ≡ is_nan x
    by nan b e = nan_differs
    by x true e = subst (λ (y : Float). ne y y ≡ is_nan y) (sym (differs_from_itself x (subst T (sym e) tt))) nan_differs
    by (inf s) false e = e
    by (fin s m k) false e = e

pub at_finite : (n : ℕ) → n < infinity_bits → of_bits binary64 n ≡ level_at n
unfolding level_at
at_finite n h = rw (lt-ltb n infinity_bits h)

pub at_other : (n : ℕ) (z : Float) → z ≡ whole 0 → infinity_bits ≤ n → z ≡ level_at n
unfolding level_at
at_other n z e h = rw (le-ltb n infinity_bits h) e

pub bits_nan : (x : Float) → is_nan x ≡ true → 0 ≡ level_bits x
unfolding level_bits
bits_nan x e = rw (differs x, e)

pub bits_finite : (x : Float) → is_nan x ≡ false → to_bits binary64 x < infinity_bits → to_bits binary64 x ≡ level_bits x
unfolding level_bits
bits_finite x e h = rw (differs x, e, lt-ltb (to_bits binary64 x) infinity_bits h)

pub bits_other : (x : Float) → is_nan x ≡ false → infinity_bits ≤ to_bits binary64 x → 0 ≡ level_bits x
unfolding level_bits
bits_other x e h = rw (differs x, e, le-ltb (to_bits binary64 x) infinity_bits h)

-- ---- which patterns are those of a finite float of at least 0

of_bits_is : (f : Format) (b : ℕ) → of_bits f b ≡ of_fields f (leb (top f) b) (b % top f / hid f) (b % hid f)
unfolding of_bits
of_bits_is f b = refl

odd-nonneg : (d q k l : ℕ) → T (nonneg (odd d false q k l))
odd-nonneg d q k l = of_value (odd d false q k l) (q * 2 ^ k) (2 ^ l) (odd_sign d false q k l)

value_negative : (x : Float) (a c : ℕ) → HasValue x true a c → T (nonneg x) → ⊥
value_negative nan a c h p = p
value_negative (inf s) a c h p = p
value_negative (fin true m e) a c h p = p
value_negative (fin false m e) a c h p = true≢false (sym h.0)

odd_negative : (d q k l : ℕ) → T (nonneg (odd d true q k l)) → ⊥
odd_negative d q k l = value_negative (odd d true q k l) (q * 2 ^ k) (2 ^ l) (odd_sign d true q k l)

no_number : (b s : Bool) → T (nonneg (cond b (inf s) nan)) → ⊥
no_number true s p = p
no_number false s p = p

fields_nonneg : (f : Format) (x t : ℕ) → x < ones f → T (nonneg (of_fields f false x t))
unfolding of_fields
fields_nonneg f zero t h = odd-nonneg (prec f) t 0 (low f)
fields_nonneg f (suc x) t h = subst (λ (b : Bool). T (nonneg (cond b (cond (eqb t 0) (inf false) nan) (odd (prec f) false (hid f + t) x (low f))))) (sym (ne_eqb (suc x) (ones f) (ne_of_lt h))) (odd-nonneg (prec f) (hid f + t) x (low f))

fields_signed : (f : Format) (x t : ℕ) → T (nonneg (of_fields f true x t)) → ⊥
unfolding of_fields
fields_signed f zero t p = odd_negative (prec f) t 0 (low f) p
fields_signed f (suc x) t p = go (eqb (suc x) (ones f)) p
  where
    go : (b : Bool) → T (nonneg (cond b (cond (eqb t 0) (inf true) nan) (odd (prec f) true (hid f + t) x (low f)))) → ⊥
    go true q = no_number (eqb t 0) true q
    go false q = odd_negative (prec f) (hid f + t) x (low f) q

fields_over : (f : Format) (x t : ℕ) → ones f ≤ x → x < suc (ones f) → T (nonneg (of_fields f false x t)) → ⊥
unfolding of_fields
fields_over f zero t h k p = not-le_of_lt (zero-lt-suc (2 * emax f)) (le_trans (le_of_eq (sym (add-one (2 * emax f)))) h)
fields_over f (suc x) t h k p = no_number (eqb t 0) false (subst (λ (b : Bool). T (nonneg (cond b (cond (eqb t 0) (inf false) nan) (odd (prec f) false (hid f + t) x (low f))))) (eq-eqb (suc x) (ones f) (le_antisymm (le_of_suc-le-suc k) h)) p)

-- under infinity's
under_infinity : (f : Format) (n : ℕ) → n < ones f * hid f → T (nonneg (of_bits f n))
under_infinity f n h =
    let H : 0 < hid f = pow_pos (prec f - 1) in
    let e : ones f * hid f ≤ top f = le_trans (le_of_eq (mul_comm (ones f) (hid f))) (mul-le-mul_left (hid f) (le-suc (ones f))) in
    let g : n < top f = lt_of_lt_of_le h e in
    subst (λ (z : Float). T (nonneg z)) (sym (of_bits_is f n ∙ ap (λ (b : Bool). of_fields f b (n % top f / hid f) (n % hid f)) (lt-leb (top f) n g)))
    (fields_nonneg f (n % top f / hid f) (n % hid f) (subst (λ (x : ℕ). x / hid f < ones f) (sym (mod-eq_of_lt g)) ((div-lt_iff_lt-mul H).1 h)))

-- and no others
only-under_infinity : (f : Format) (n : ℕ) → T (nonneg (of_bits f n)) → n < ones f * hid f
only-under_infinity f n p = lt_of_not-le (λ (h : ones f * hid f ≤ n). go h (leb (top f) n) refl)
  where
    go : ones f * hid f ≤ n → (b : Bool) → leb (top f) n ≡ b → ⊥
    go h true e = fields_signed f (n % top f / hid f) (n % hid f) (subst (λ (z : Float). T (nonneg z)) (of_bits_is f n ∙ ap (λ (b : Bool). of_fields f b (n % top f / hid f) (n % hid f)) e) p)
    go h false e =
        let H : 0 < hid f = pow_pos (prec f - 1) in
        let g : n < top f = leb-false (top f) n e in
        let x = n % top f / hid f in
        let d : x ≡ n / hid f = ap (λ (y : ℕ). y / hid f) (mod-eq_of_lt g) in
        fields_over f x (n % hid f) (le_trans ((le-div_iff_mul-le H).1 h) (le_of_eq (sym d)))
        (lt_of_le_of_lt (le_of_eq d) ((div-lt_iff_lt-mul H).1 (lt_of_lt_of_le g (le_of_eq (mul_comm (hid f) (suc (ones f)))))))
        (subst (λ (z : Float). T (nonneg z)) (of_bits_is f n ∙ ap (λ (b : Bool). of_fields f b (n % top f / hid f) (n % hid f)) e) p)

-- ---- there and back

pub level_amount : (n : ℕ) → Amount (level_at n)
unfolding level_at
level_amount n = go (ltb n infinity_bits) (ltb→lt n infinity_bits)
  where
    go : (b : Bool) → (T b → n < infinity_bits) → Amount (cond b (of_bits binary64 n) (whole 0))
    go true h = record { finite = under_infinity binary64 n (h tt); held = of_bits-fits binary64 n }
    go false h = whole_amount 0 (lit< tt)

self_equal : (x : Float) → T (nonneg x) → ne x x ≡ false
self_equal x p = go (ne x x) (differs_from_itself x)
  where
    go : (b : Bool) → (T b → x ≡ nan) → b ≡ false
    go true h = absurd (subst (λ (z : Float). T (nonneg z)) (h tt) p)
    go false h = refl

bits_under : (x : Float) → Amount x → to_bits binary64 x < infinity_bits
bits_under x a = only-under_infinity binary64 (to_bits binary64 x) (subst (λ (z : Float). T (nonneg z)) (sym (of_bits-to_bits binary64 x a.held)) a.finite)

-- the guard never acts on such a float: its bits are its own
pub level_bits_lem : (x : Float) → Amount x → level_bits x ≡ to_bits binary64 x
level_bits_lem x a = sym (bits_finite x (sym (differs x) ∙ self_equal x a.finite) (bits_under x a))

pub level_back : (x : Float) → Amount x → level_at (level_bits x) ≡ x
level_back x a = ap level_at (level_bits_lem x a) ∙ sym (at_finite (to_bits binary64 x) (bits_under x a)) ∙ of_bits-to_bits binary64 x a.held

pub bits_back : (n : ℕ) → n < infinity_bits → level_bits (level_at n) ≡ n
bits_back n h =
    level_bits_lem (level_at n) (level_amount n) ∙ ap (to_bits binary64) (sym (at_finite n h))
    ∙ to_bits-of_bits binary64 n (lt_of_lt_of_le h (lit≤ tt)) (subst (λ (b : Bool). T (not b)) (nan_bits_is binary64 n) (no_nan_bits n h))
