-- A meter as three words, for a device that keeps it as numbers. A word that is not the bits of a finite float of at least 0 stands for 0.
use Rattle.std.specs.Prelude.{ℕ, ◌+◌, ◌-◌, ◌%◌, cond, List, [], ◌∷◌, get_or, leb, ltb, Float}
use Rattle.std.specs.Float.{binary64}
use Rattle.std.specs.Float.Ieee.{to_bits, of_bits, ne}
use Rattle.meter.specs.declared.Meter.{Meter}
use Rattle.meter.specs.Gauge.{whole, counted_bytes}

-- The bits of infinity. Under them are those of the finite floats of at least 0, in their order; -0 and what else is negative, the NaNs and the infinities are not.
abbrev pub infinity_bits : ℕ
infinity_bits = 0x7FF0000000000000

unfoldable pub level_at : ℕ → Float
level_at n = cond (ltb n infinity_bits) (of_bits binary64 n) (whole 0)

abbrev pub finite_bits : ℕ → ℕ
finite_bits n = cond (ltb n infinity_bits) n 0

-- only a NaN differs from itself
unfoldable pub level_bits : Float → ℕ
level_bits x = cond (ne x x) 0 (finite_bits (to_bits binary64 x))

-- the count, with 2^32 added once there was a tick; the level's bits; the peak's
unfoldable pub meter_words : Meter → List ℕ
meter_words m = (cond m.ticked (m.count + 4294967296) m.count) ∷ level_bits m.gauge.level ∷ level_bits m.gauge.peak ∷ []

unfoldable pub meter_at : ℕ → ℕ → ℕ → Meter
meter_at count level peak =
    record { count = count % 4294967296; ticked = leb 4294967296 count; gauge = record { level = level_at level; peak = level_at peak } }

-- the first word, once more bytes are placed
unfoldable pub counted_word : ℕ → ℕ → ℕ
counted_word word placed = word - word % 4294967296 + counted_bytes (word % 4294967296) placed

-- of a list of three
abbrev pub meter_of : List ℕ → Meter
meter_of ws = meter_at (get_or ws 0 0) (get_or ws 1 0) (get_or ws 2 0)
