-- The cases of the gauge's definitions, and its literals: a float that is written in the code is the one of its bits.
use Prim.Native.Nat.{ℕ}
use mathlib.Core.Bool.{Bool, true, false, cond}
use mathlib.Core.Path.{◌≡◌, refl, sym}
use lib.Ieee.{Float, binary64, add, sub, div, lt, of_int, of_bits}
use Rattle.meter.specs.declared.gauge.Gauge.{Gauge}
use Rattle.meter.specs.declared.gauge.Reading.TheVariants.{Quiet, Steady, Falling}
use Rattle.meter.specs.Gauge.{whole, sampled_gauge, is_falling, reading_of}

pub zero : of_bits binary64 0 ≡ whole 0
unfolding of_bits of_int
zero = refl

pub one : of_bits binary64 0x3FF0000000000000 ≡ whole 1
unfolding of_bits of_int
one = refl

pub two : of_bits binary64 0x4000000000000000 ≡ whole 2
unfolding of_bits of_int
two = refl

pub eight : of_bits binary64 0x4020000000000000 ≡ whole 8
unfolding of_bits of_int
eight = refl

-- ---- a sample

abbrev step_by : Float → Float → ℕ → Float
step_by d level n = add binary64 level (div binary64 (sub binary64 (whole n) level) d)

abbrev gauge_at : Float → Float → Gauge
gauge_at level peak = record { level = level; peak = peak }

pub first : (g : Gauge) (t : Bool) (n : ℕ) → t ≡ false → gauge_at (whole n) (whole n) ≡ sampled_gauge g t n
unfolding sampled_gauge
first g t n e = rw e

later : (g : Gauge) (t : Bool) (n : ℕ) (d : Float) (b : Bool) → t ≡ true → d ≡ whole 8 → lt g.peak (step_by d g.level n) ≡ b
    → gauge_at (step_by d g.level n) (cond b (step_by d g.level n) g.peak) ≡ sampled_gauge g t n
unfolding sampled_gauge
later g t n d b e p q = rw (sym q, e, p)

pub rises : (g : Gauge) (t : Bool) (n : ℕ) (d : Float) → t ≡ true → d ≡ whole 8 → lt g.peak (step_by d g.level n) ≡ true
    → gauge_at (step_by d g.level n) (step_by d g.level n) ≡ sampled_gauge g t n
rises g t n d e p q = later g t n d true e p q

pub stays : (g : Gauge) (t : Bool) (n : ℕ) (d : Float) → t ≡ true → d ≡ whole 8 → lt g.peak (step_by d g.level n) ≡ false
    → gauge_at (step_by d g.level n) g.peak ≡ sampled_gauge g t n
stays g t n d e p q = later g t n d false e p q

-- ---- the reading

pub before_first : (g : Gauge) (t : Bool) → t ≡ false → Quiet ≡ reading_of g t
unfolding reading_of
before_first g t e = rw e

pub reads_as : (g : Gauge) (t : Bool) (a b : Bool) → t ≡ true → lt g.level (whole 1) ≡ a → is_falling g ≡ b
    → cond a Quiet (cond b (Falling g.level g.peak) (Steady g.level)) ≡ reading_of g t
unfolding reading_of
reads_as g t a b e p q = rw (sym p, sym q, e)
