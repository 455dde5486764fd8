-- The gauge, as ordered float steps: each operation rounds once to an IEEE 754 binary64, in the order in which it stands.
use Rattle.std.specs.Prelude.{ℕ, ◌+◌, Bool, true, false, cond, leb, pos, Float}
use Rattle.std.specs.Float.{binary64}
use Rattle.std.specs.Float.Ieee.{add, sub, div, lt, of_int}
use Rattle.meter.specs.declared.Meter.{Meter}
use Rattle.meter.specs.declared.gauge.Gauge.{Gauge}
use Rattle.meter.specs.declared.gauge.Reading.{Reading}
use Rattle.meter.specs.declared.gauge.Reading.TheVariants.{Quiet, Steady, Falling}

-- a whole number as a float
abbrev pub whole : ℕ → Float
whole n = of_int binary64 (pos n)

abbrev pub larger : Float → Float → Float
larger x y = cond (lt x y) y x

-- ---- a sample

-- "later the level becomes level + (sample − level) / 8, each step rounded once in that order"
abbrev pub level_after : Float → ℕ → Float
level_after level sample = add binary64 level (div binary64 (sub binary64 (whole sample) level) (whole 8))

-- "the first sample sets both", later "the peak the larger of peak and level"
unfoldable pub sampled_gauge : Gauge → Bool → ℕ → Gauge
sampled_gauge g false sample = record { level = whole sample; peak = whole sample }
sampled_gauge g true sample = record { level = level_after g.level sample; peak = larger g.peak (level_after g.level sample) }

-- ---- the meter

-- "count bytes placed since the last tick, stopping at 2^32 − 1"
abbrev pub counted_bytes : ℕ → ℕ → ℕ
counted_bytes count placed = cond (leb (count + placed) 4294967295) (count + placed) 4294967295

abbrev pub counted_meter : Meter → ℕ → Meter
counted_meter m placed = record { count = counted_bytes m.count placed; ticked = m.ticked; gauge = m.gauge }

abbrev pub new_meter : Meter
new_meter = record { count = 0; ticked = false; gauge = record { level = whole 0; peak = whole 0 } }

-- "the tick makes that domain's count the sample and clears it"
abbrev pub ticked_meter : Meter → Meter
ticked_meter m = record { count = 0; ticked = true; gauge = sampled_gauge m.gauge m.ticked m.count }

-- ---- the reading

-- "falling when the level is under half the peak"
abbrev pub is_falling : Gauge → Bool
is_falling g = lt g.level (div binary64 g.peak (whole 2))

-- "quiet before the first sample or with a level under 1, which is judged first"
unfoldable pub reading_of : Gauge → Bool → Reading
reading_of g false = Quiet
reading_of g true = cond (lt g.level (whole 1)) Quiet (cond (is_falling g) (Falling g.level g.peak) (Steady g.level))
