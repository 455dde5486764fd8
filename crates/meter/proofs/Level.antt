-- The level after a later sample lies between the level before and the sample, so it is finite and at least 0; and it stays where the sample is
-- the level. Over any float for the sample; Gauge.antt has it for a whole number.
use Prim.Native.Nat.{ℕ, ◌+◌, ◌-◌, ◌*◌, ◌^◌, ◌≤◌, ◌<◌}
use mathlib.Core.Bool.{true, false}
use mathlib.Core.Path.{◌≡◌, refl, sym, ap, ap₂, ◌∙◌, subst}
use native.Mathlib.Nat.{le_trans, le_of_eq, lt_of_lt_of_le, lt_of_le_of_lt, zero-mul, mul-one, add-zero, mul_comm, mul_assoc, mul_right_comm, mul-le-mul_right, mul-pos, mul-sub, add-mul, sub-le, le-add_right, zero-lt-suc, sub_self, mul-lt-mul_of_pos_right}
use native.Mathlib.Omega.{arith}
use lib.IntN.{pos}
use lib.Dec.{T}
use lib.Ieee.{Float, fin, Format, binary64, emax, low, round, add, sub, div, le, lt, fits}
use lib.Ieee.Fits.{sub-fits}
use lib.Ieee.Positive.{num, den, den_pos}
use lib.Ieee.Scale.{round_same}
use Rattle.meter.specs.Invariant.{nonneg}
use Rattle.meter.proofs.Nonneg.{le→cross, lt→le, trans, le_self, round-nonneg, round-le, le-round, round_self}
use Rattle.meter.proofs.Eighth.{eight, add_is, sub_is, sub-neg, eighth_neg, eighth_le, eighth_nonneg, eighth_under, add-neg}

-- ---- a difference

module _ (f : Format) (x y : Float) (p : T (nonneg x)) (q : T (nonneg y)) (u : T (fits f x)) (h : T (le y x)) where
  less_fraction : (num x * den y - num y * den x) * den x ≤ num x * (den x * den y)
  less_fraction = le_trans (mul-le-mul_right (den x) (sub-le (num x * den y) (num y * den x))) (le_of_eq (mul_assoc (num x) (den y) (den x) ∙ ap (λ (z : ℕ). num x * z) (mul_comm (den y) (den x))))

  pub sub-nonneg : T (nonneg (sub f x y))
  sub-nonneg = subst (λ (z : Float). T (nonneg z)) (sym (sub_is f x y p q h)) (round-nonneg f (num x * den y - num y * den x) (den x * den y) x (mul-pos (den_pos x) (den_pos y)) p u less_fraction)

  pub sub-le_first : T (le (sub f x y) x)
  sub-le_first = subst (λ (z : Float). T (le z x)) (sym (sub_is f x y p q h)) (round-le f (num x * den y - num y * den x) (den x * den y) x (mul-pos (den_pos x) (den_pos y)) p u less_fraction)

-- ---- an eighth of a difference

abbrev pub eighth_of : Format → Float → Float → Float
eighth_of f x y = div f (sub f x y) eight

module _ (f : Format) (x y : Float) (p : T (nonneg x)) (q : T (nonneg y)) (u : T (fits f x)) (h : T (le y x)) where
  pub eighth_of_nonneg : T (nonneg (eighth_of f x y))
  eighth_of_nonneg = eighth_nonneg f (sub f x y) (sub-nonneg f x y p q u h) (sub-fits f x y)

  pub eighth_of_le : T (le (eighth_of f x y) x)
  eighth_of_le =
      let d = sub-nonneg f x y p q u h in
      trans (eighth_of f x y) (sub f x y) x eighth_of_nonneg d p (eighth_le f (sub f x y) d (sub-fits f x y)) (sub-le_first f x y p q u h)

  -- it is at most the difference
  pub eighth_of_under : round f false 1 (1 * 2 ^ 3 * 2 ^ low f) ≡ fin false 0 (pos 0) → num x < 2 ^ emax f * den x
      → num (eighth_of f x y) * (den x * den y) ≤ (num x * den y - num y * den x) * den (eighth_of f x y)
  eighth_of_under t H =
      let a = num x * den y - num y * den x in
      let c = den x * den y in
      let A : a < 2 ^ emax f * c = lt_of_le_of_lt (sub-le (num x * den y) (num y * den x)) (lt_of_lt_of_le (mul-lt-mul_of_pos_right H (den_pos y)) (le_of_eq (mul_assoc (2 ^ emax f) (den x) (den y)))) in
      subst (λ (d : Float). num (div f d eight) * c ≤ a * den (div f d eight)) (sym (sub_is f x y p q h)) (eighth_under f t a c (mul-pos (den_pos x) (den_pos y)) A)

-- ---- up to a sample that is not under the level

-- l + e ≤ s, where e ≤ s - l
sum-under : (l k e d s c : ℕ) → l * c ≤ s * k → e * (c * k) ≤ (s * k - l * c) * d → (l * d + e * k) * c ≤ s * (k * d)
sum-under l k e d s c h g =
    let e₁ : (l * d + e * k) * c ≡ l * d * c + e * k * c = add-mul (l * d) (e * k) c in
    let e₂ : l * d * c ≡ l * c * d = mul_right_comm l d c in
    let e₃ : e * k * c ≡ e * (c * k) = mul_assoc e k c ∙ ap (λ (z : ℕ). e * z) (mul_comm k c) in
    let e₄ : s * (k * d) ≡ s * k * d = sym (mul_assoc s k d) in
    let e₅ : (s * k - l * c) * d ≡ s * k * d - l * c * d = mul_comm (s * k - l * c) d ∙ mul-sub d (s * k) (l * c) ∙ ap₂ (λ (a b : ℕ). a - b) (mul_comm d (s * k)) (mul_comm d (l * c)) in
    let g₁ : l * c * d ≤ s * k * d = mul-le-mul_right d h in
    rw (e₁, e₂, e₃, e₄) (put (l * c * d) (e * (c * k)) (s * k * d) g₁ (le_trans g (le_of_eq e₅)))
  where
    put : (a b z : ℕ) → a ≤ z → b ≤ z - a → a + b ≤ z
    put a b z m n = omega arith

sum_over : (l k e d : ℕ) → l * (k * d) ≤ (l * d + e * k) * k
sum_over l k e d =
    let e₁ : (l * d + e * k) * k ≡ l * d * k + e * k * k = add-mul (l * d) (e * k) k in
    let e₂ : l * (k * d) ≡ l * d * k = ap (λ (z : ℕ). l * z) (mul_comm k d) ∙ sym (mul_assoc l d k) in
    rw (e₁, e₂) (le-add_right (l * d * k) (e * k * k))

module _ (f : Format) (t : round f false 1 (1 * 2 ^ 3 * 2 ^ low f) ≡ fin false 0 (pos 0)) (s l : Float) (p : T (nonneg s)) (q : T (nonneg l)) (u : T (fits f s)) (v : T (fits f l)) (h : T (le l s)) (H : num s < 2 ^ emax f * den s) where
  up_fraction : (num l * den (eighth_of f s l) + num (eighth_of f s l) * den l) * den s ≤ num s * (den l * den (eighth_of f s l))
  up_fraction = sum-under (num l) (den l) (num (eighth_of f s l)) (den (eighth_of f s l)) (num s) (den s) (le→cross l s q p h) (eighth_of_under f s l p q u h t H)

  up_is : add f l (eighth_of f s l) ≡ round f false (num l * den (eighth_of f s l) + num (eighth_of f s l) * den l) (den l * den (eighth_of f s l))
  up_is = add_is f l (eighth_of f s l) q (eighth_of_nonneg f s l p q u h)

  pub up-nonneg : T (nonneg (add f l (eighth_of f s l)))
  up-nonneg = subst (λ (z : Float). T (nonneg z)) (sym up_is) (round-nonneg f _ (den l * den (eighth_of f s l)) s (mul-pos (den_pos l) (den_pos (eighth_of f s l))) p u up_fraction)

  pub up_to : T (le (add f l (eighth_of f s l)) s)
  up_to = subst (λ (z : Float). T (le z s)) (sym up_is) (round-le f _ (den l * den (eighth_of f s l)) s (mul-pos (den_pos l) (den_pos (eighth_of f s l))) p u up_fraction)

  pub up_from : T (le l (add f l (eighth_of f s l)))
  up_from = subst (λ (z : Float). T (le l z)) (sym up_is) (le-round f _ (den l * den (eighth_of f s l)) l (mul-pos (den_pos l) (den_pos (eighth_of f s l))) q v (sum_over (num l) (den l) (num (eighth_of f s l)) (den (eighth_of f s l))))

-- ---- down to a sample that is under the level

-- s ≤ l - e, where e ≤ l - s
less_over : (l k e d s c : ℕ) → s * k ≤ l * c → e * (k * c) ≤ (l * c - s * k) * d → s * (k * d) ≤ (l * d - e * k) * c
less_over l k e d s c h g =
    let e₁ : (l * d - e * k) * c ≡ l * d * c - e * k * c = mul_comm (l * d - e * k) c ∙ mul-sub c (l * d) (e * k) ∙ ap₂ (λ (a b : ℕ). a - b) (mul_comm c (l * d)) (mul_comm c (e * k)) in
    let e₂ : l * d * c ≡ l * c * d = mul_right_comm l d c in
    let e₃ : e * k * c ≡ e * (k * c) = mul_assoc e k c in
    let e₄ : s * (k * d) ≡ s * k * d = sym (mul_assoc s k d) in
    let e₅ : (l * c - s * k) * d ≡ l * c * d - s * k * d = mul_comm (l * c - s * k) d ∙ mul-sub d (l * c) (s * k) ∙ ap₂ (λ (a b : ℕ). a - b) (mul_comm d (l * c)) (mul_comm d (s * k)) in
    let g₁ : s * k * d ≤ l * c * d = mul-le-mul_right d h in
    rw (e₁, e₂, e₃, e₄) (put (s * k * d) (e * (k * c)) (l * c * d) g₁ (le_trans g (le_of_eq e₅)))
  where
    put : (a b z : ℕ) → a ≤ z → b ≤ z - a → a ≤ z - b
    put a b z m n = omega arith

-- the level less an eighth of the difference
pub down_is : (f : Format) (s l : Float) → T (nonneg s) → T (nonneg l) → T (fits f l) → lt s l ≡ true → add f l (eighth_of f s l) ≡ sub f l (eighth_of f l s)
down_is f s l p q v h =
    ap (λ (d : Float). add f l (div f d eight)) (sub-neg f s l p q h)
    ∙ ap (add f l) (eighth_neg f (sub f l s) (sub-nonneg f l s q p v (lt→le s l p q h)))
    ∙ add-neg f l (eighth_of f l s)

module _ (f : Format) (s l : Float) (p : T (nonneg s)) (q : T (nonneg l)) (v : T (fits f l)) (h : T (le s l)) where
  pub down-nonneg : T (nonneg (sub f l (eighth_of f l s)))
  down-nonneg = sub-nonneg f l (eighth_of f l s) q (eighth_of_nonneg f l s q p v h) v (eighth_of_le f l s q p v h)

  pub down-from : T (le (sub f l (eighth_of f l s)) l)
  down-from = sub-le_first f l (eighth_of f l s) q (eighth_of_nonneg f l s q p v h) v (eighth_of_le f l s q p v h)

  pub down_to : round f false 1 (1 * 2 ^ 3 * 2 ^ low f) ≡ fin false 0 (pos 0) → T (fits f s) → num l < 2 ^ emax f * den l → T (le s (sub f l (eighth_of f l s)))
  down_to t u H =
      let e = eighth_of f l s in
      subst (λ (z : Float). T (le s z)) (sym (sub_is f l e q (eighth_of_nonneg f l s q p v h) (eighth_of_le f l s q p v h)))
      (le-round f (num l * den e - num e * den l) (den l * den e) s (mul-pos (den_pos l) (den_pos e)) p u
      (less_over (num l) (den l) (num e) (den e) (num s) (den s) (le→cross s l p q h) (eighth_of_under f l s q p v h t H)))

-- ---- a sample that is the level

nothing : round binary64 false 0 1 ≡ fin false 0 (pos 0)
unfolding round
nothing = refl

eighth_of_nothing : div binary64 (fin false 0 (pos 0)) eight ≡ fin false 0 (pos 0)
unfolding div
eighth_of_nothing = refl

sub_same : (l : Float) → T (nonneg l) → sub binary64 l l ≡ fin false 0 (pos 0)
sub_same l q =
    sub_is binary64 l l q q (le_self l q)
    ∙ ap (λ (a : ℕ). round binary64 false a (den l * den l)) (sub_self (num l * den l))
    ∙ round_same binary64 false 0 (den l * den l) 0 1 (mul-pos (den_pos l) (den_pos l)) (zero-lt-suc 0) (zero-mul 1 ∙ sym (zero-mul (den l * den l)))
    ∙ nothing

pub same : (l : Float) → T (nonneg l) → T (fits binary64 l) → add binary64 l (eighth_of binary64 l l) ≡ l
same l q v =
    ap (λ (d : Float). add binary64 l (div binary64 d eight)) (sub_same l q)
    ∙ ap (add binary64 l) eighth_of_nothing
    ∙ add_is binary64 l (fin false 0 (pos 0)) q tt
    ∙ ap₂ (λ (a c : ℕ). round binary64 false a c) (ap₂ (λ (a b : ℕ). a + b) (mul-one (num l)) (zero-mul (den l)) ∙ add-zero (num l)) (mul-one (den l))
    ∙ round_self binary64 l q v
