-- What a sample keeps: a finite gauge stays finite, a well-formed one well-formed, and a sample equal to the level changes nothing.
use Prim.Native.Nat.{ℕ, ◌+◌, ◌*◌, ◌^◌, ◌≤◌, ◌<◌, zero-le}
use mathlib.Core.Bool.{Bool, true, false, cond}
use mathlib.Core.Path.{◌≡◌, refl, sym, ap, ◌∙◌, subst}
use native.Mathlib.Nat.{le_trans, le_of_eq, le_of_lt, lt_of_le_of_lt, mul-one, mul-le-mul_right, mul-lt-mul_of_pos_right, le_of_suc-le-suc, zero-lt-suc}
use lib.IntN.{pos}
use lib.Dec.{T, leb, leb→le, lit≤, lit<}
use lib.Ieee.{Float, binary64, emax, of_int, add, sub, div, le, lt}
use lib.Ieee.Fits.{add-fits, of_int-fits}
use lib.Ieee.Back.{round_whole}
use lib.Ieee.Exact.{HasValue}
use lib.Ieee.Order.{round_mono}
use lib.Ieee.Positive.{num, den, den_pos, through, value→cross}
use Rattle.meter.specs.declared.Meter.{Meter}
use Rattle.meter.specs.declared.gauge.Gauge.{Gauge}
use Rattle.meter.specs.Gauge.{whole, larger, level_after, sampled_gauge, counted_bytes, new_meter, ticked_meter}
use Rattle.meter.specs.Invariant.{nonneg, Amount, Finite, WellFormed, Encodable, MeterWellFormed}
use Rattle.meter.proofs.Nonneg.{of_value, le→cross, lt→le, nlt→le, le→nlt, le_self, trans}
use Rattle.meter.proofs.Eighth.{eight, tiny}
use Rattle.meter.proofs.Level.{eighth_of, up-nonneg, up_to, up_from, down_is, down-nonneg, down-from, down_to, same}

-- ---- a whole number as a float

-- no sample is rounded
whole_value : (n : ℕ) → n < 4294967296 → HasValue (whole n) false n 1
unfolding of_int
whole_value n h = round_whole binary64 false n (le_trans (le_of_lt h) (lit≤ tt))

pub whole_amount : (n : ℕ) → n < 4294967296 → Amount (whole n)
whole_amount n h = record { finite = of_value (whole n) n 1 (whole_value n h); held = of_int-fits binary64 (pos n) }

whole_le : (n k : ℕ) → n ≤ k → T (le (whole n) (whole k))
unfolding of_int
whole_le n k h = round_mono binary64 n 1 k 1 (zero-lt-suc 0) (zero-lt-suc 0) (mul-le-mul_right 1 h)

last_amount : Amount (whole 4294967295)
last_amount = whole_amount 4294967295 (lit< tt)

-- what is at most the last count is far from overflowing
room : (x : Float) → Amount x → T (le x (whole 4294967295)) → num x < 2 ^ emax binary64 * den x
room x a h =
    let m = whole 4294967295 in
    let k : num x * 1 ≤ 4294967295 * den x =
    through (num x) (num m) 4294967295 (den x) (den m) 1 (den_pos m) (le→cross x m a.finite last_amount.finite h) (le_of_eq (value→cross m 4294967295 1 (whole_value 4294967295 (lit< tt)))) in
    lt_of_le_of_lt (le_trans (le_of_eq (sym (mul-one (num x)))) k) (mul-lt-mul_of_pos_right (lit< tt) (den_pos x))

eight_is : whole 8 ≡ eight
unfolding of_int
eight_is = refl

after_is : (l : Float) (n : ℕ) → level_after l n ≡ add binary64 l (eighth_of binary64 (whole n) l)
after_is l n = ap (λ (d : Float). add binary64 l (div binary64 (sub binary64 (whole n) l) d)) eight_is

-- ---- a later sample

decide : {A : Type 0} (b : Bool) → (b ≡ true → A) → (b ≡ false → A) → A
decide true p q = p refl
decide false p q = q refl

module _ (l : Float) (n : ℕ) (a : Amount l) (h : n < 4294967296) where
  s_amount : Amount (whole n)
  s_amount = whole_amount n h

  s-room : num (whole n) < 2 ^ emax binary64 * den (whole n)
  s-room = room (whole n) s_amount (whole_le n 4294967295 (le_of_suc-le-suc h))

  -- the sample is not under the level
  module _ (g : T (le l (whole n))) where
    rise_nonneg : T (nonneg (level_after l n))
    rise_nonneg = subst (λ (z : Float). T (nonneg z)) (sym (after_is l n)) (up-nonneg binary64 tiny (whole n) l s_amount.finite a.finite s_amount.held a.held g s-room)

    rise_to : T (le (level_after l n) (whole n))
    rise_to = subst (λ (z : Float). T (le z (whole n))) (sym (after_is l n)) (up_to binary64 tiny (whole n) l s_amount.finite a.finite s_amount.held a.held g s-room)

    rise_from : T (le l (level_after l n))
    rise_from = subst (λ (z : Float). T (le l z)) (sym (after_is l n)) (up_from binary64 tiny (whole n) l s_amount.finite a.finite s_amount.held a.held g s-room)

  -- it is under the level
  module _ (g : lt (whole n) l ≡ true) where
    under : T (le (whole n) l)
    under = lt→le (whole n) l s_amount.finite a.finite g

    fall_is : level_after l n ≡ sub binary64 l (eighth_of binary64 l (whole n))
    fall_is = after_is l n ∙ down_is binary64 (whole n) l s_amount.finite a.finite a.held g

    fall_nonneg : T (nonneg (level_after l n))
    fall_nonneg = subst (λ (z : Float). T (nonneg z)) (sym fall_is) (down-nonneg binary64 (whole n) l s_amount.finite a.finite a.held under)

    fall_from : T (le (level_after l n) l)
    fall_from = subst (λ (z : Float). T (le z l)) (sym fall_is) (down-from binary64 (whole n) l s_amount.finite a.finite a.held under)

    fall_to : T (le l (whole 4294967295)) → T (le (whole n) (level_after l n))
    fall_to b = subst (λ (z : Float). T (le (whole n) z)) (sym fall_is) (down_to binary64 (whole n) l s_amount.finite a.finite a.held under tiny s_amount.held (room l a b))

  not-under : lt (whole n) l ≡ false → T (le l (whole n))
  not-under e = nlt→le (whole n) l s_amount.finite a.finite e

  pub after_amount : Amount (level_after l n)
  after_amount = record { finite = decide (lt (whole n) l) fall_nonneg (λ e. rise_nonneg (not-under e)); held = add-fits binary64 l _ }

  -- the level rises to at most the sample, or falls to at least the sample
  pub rises_between : T (le l (whole n)) → T (le l (level_after l n)) × T (le (level_after l n) (whole n))
  rises_between g = (rise_from g, rise_to g)

  pub falls-between : T (le (whole n) l) → T (le l (whole 4294967295)) → T (le (whole n) (level_after l n)) × T (le (level_after l n) l)
  falls-between g b =
      let z = level_after l n in
      let zs : T (nonneg z) = after_amount.finite in
      decide (lt (whole n) l) (λ e. (fall_to e b, fall_from e))
      (λ e. (trans (whole n) l z s_amount.finite a.finite zs g (rise_from (not-under e)), trans z (whole n) l zs s_amount.finite a.finite (rise_to (not-under e)) g))

  after-bounded : T (le l (whole 4294967295)) → T (le (level_after l n) (whole 4294967295))
  after-bounded b =
      let m = whole 4294967295 in
      decide (lt (whole n) l)
      (λ e. trans (level_after l n) l m after_amount.finite a.finite last_amount.finite (fall_from e) b)
      (λ e. trans (level_after l n) (whole n) m after_amount.finite s_amount.finite last_amount.finite (rise_to (not-under e)) (whole_le n 4294967295 (le_of_suc-le-suc h)))

-- ---- the larger of two

larger_amount : (x y : Float) → Amount x → Amount y → Amount (larger x y)
larger_amount x y a b = pick (lt x y)
  where
    pick : (t : Bool) → Amount (cond t y x)
    pick true = b
    pick false = a

larger-over : (x y : Float) → Amount x → Amount y → T (le y (larger x y))
larger-over x y a b = pick (lt x y) (nlt→le x y a.finite b.finite)
  where
    pick : (t : Bool) → (t ≡ false → T (le y x)) → T (le y (cond t y x))
    pick true h = le_self y b.finite
    pick false h = h refl

larger-under : (x y z : Float) → T (le x z) → T (le y z) → T (le (larger x y) z)
larger-under x y z p q = pick (lt x y)
  where
    pick : (t : Bool) → T (le (cond t y x) z)
    pick true = q
    pick false = p

larger_first : (x y : Float) → Amount x → Amount y → T (le y x) → larger x y ≡ x
larger_first x y a b h = ap (λ (t : Bool). cond t y x) (le→nlt x y a.finite b.finite h)

-- ---- a gauge

-- whatever words a device keeps, no sample makes a NaN, an infinity or a negative float of them
pub sampled_finite : (g : Gauge) (t : Bool) (n : ℕ) → n < 4294967296 → Finite g → Finite (sampled_gauge g t n)
unfolding sampled_gauge
sampled_finite g false n h w = record { level = whole_amount n h; peak = whole_amount n h }
sampled_finite g true n h w =
    let z = after_amount g.level n w.level h in
    record { level = z; peak = larger_amount g.peak (level_after g.level n) w.peak z }

-- the peak is never under the level
pub sampled_ordered : (g : Gauge) (t : Bool) (n : ℕ) → n < 4294967296 → Finite g → T (le (sampled_gauge g t n).level (sampled_gauge g t n).peak)
unfolding sampled_gauge
sampled_ordered g false n h w = le_self (whole n) (whole_amount n h).finite
sampled_ordered g true n h w = larger-over g.peak (level_after g.level n) w.peak (after_amount g.level n w.level h)

sampled_bounded : (g : Gauge) (t : Bool) (n : ℕ) → n < 4294967296 → WellFormed g → T (le (sampled_gauge g t n).peak (whole 4294967295))
unfolding sampled_gauge
sampled_bounded g false n h w = whole_le n 4294967295 (le_of_suc-le-suc h)
sampled_bounded g true n h w =
    let p = w.finite.level in
    let b = trans g.level g.peak (whole 4294967295) p.finite w.finite.peak.finite last_amount.finite w.ordered w.bounded in
    larger-under g.peak (level_after g.level n) (whole 4294967295) w.bounded (after-bounded g.level n p h b)

pub sampled_well_formed : (g : Gauge) (t : Bool) (n : ℕ) → n < 4294967296 → WellFormed g → WellFormed (sampled_gauge g t n)
sampled_well_formed g t n h w = record { finite = sampled_finite g t n h w.finite; ordered = sampled_ordered g t n h w.finite; bounded = sampled_bounded g t n h w }

-- "A later sample equal to the level leaves level and peak as they are"
pub same_sample : (g : Gauge) (n : ℕ) → n < 4294967296 → WellFormed g → whole n ≡ g.level → sampled_gauge g true n ≡ g
unfolding sampled_gauge
same_sample g n h w e =
    let l = g.level in
    let z : level_after l n ≡ l = after_is l n ∙ ap (λ (s : Float). add binary64 l (eighth_of binary64 s l)) e ∙ same l w.finite.level.finite w.finite.level.held in
    ap (λ (x : Float). gauge_at x (larger g.peak x)) z
    ∙ ap (gauge_at l) (larger_first g.peak l w.finite.peak w.finite.level w.ordered)
  where
    gauge_at : Float → Float → Gauge
    gauge_at x y = record { level = x; peak = y }

-- ---- a meter

pub new_well_formed : MeterWellFormed new_meter
new_well_formed =
    let z = whole_amount 0 (lit< tt) in
    record {
      counts = lit< tt;
      gauge = record { finite = record { level = z; peak = z }; ordered = le_self (whole 0) z.finite; bounded = whole_le 0 4294967295 zero-le };
    }

pub tick_well_formed : (m : Meter) → MeterWellFormed m → MeterWellFormed (ticked_meter m)
tick_well_formed m w = record { counts = lit< tt; gauge = sampled_well_formed m.gauge m.ticked m.count w.counts w.gauge }

pub tick_encodable : (m : Meter) → Encodable m → Encodable (ticked_meter m)
tick_encodable m w = record { counts = lit< tt; finite = sampled_finite m.gauge m.ticked m.count w.counts w.finite }

pub counted-fits : (count placed : ℕ) → counted_bytes count placed < 4294967296
counted-fits count placed = pick (leb (count + placed) 4294967295) (leb→le (count + placed) 4294967295)
  where
    pick : (t : Bool) → (T t → count + placed ≤ 4294967295) → cond t (count + placed) 4294967295 < 4294967296
    pick true h = lt_of_le_of_lt (h tt) (lit< tt)
    pick false h = lit< tt

pub well_formed_encodable : (m : Meter) → MeterWellFormed m → Encodable m
well_formed_encodable m w = record { counts = w.counts; finite = w.gauge.finite }
