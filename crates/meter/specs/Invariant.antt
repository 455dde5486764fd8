-- What holds of a gauge and of a meter after any run: no NaN, no infinity and nothing negative, and a peak that is not under the level.
use Rattle.std.specs.Prelude.{◌<◌, Bool, false, not, T, Float}
use Rattle.std.specs.Float.{nan, inf, fin, binary64}
use Rattle.std.specs.Float.Ieee.{fits, le}
use Rattle.meter.specs.declared.Meter.{Meter}
use Rattle.meter.specs.declared.gauge.Gauge.{Gauge}
use Rattle.meter.specs.Gauge.{whole}

-- finite and at least 0; -0 is not
abbrev pub nonneg : Float → Bool
nonneg nan = false
nonneg (inf s) = false
nonneg (fin s m e) = not s

-- such a binary64
pub record Amount (x : Float) : Type 0 where
  pub finite : T (nonneg x)
  pub held : T (fits binary64 x)

pub record Finite (g : Gauge) : Type 0 where
  pub level : Amount g.level
  pub peak : Amount g.peak

-- "the peak the larger of peak and level", and neither over the last count
pub record WellFormed (g : Gauge) : Type 0 where
  pub finite : Finite g
  pub ordered : T (le g.level g.peak)
  pub bounded : T (le g.peak (whole 4294967295))

-- a meter whose words say what it is
pub record Encodable (m : Meter) : Type 0 where
  pub counts : m.count < 4294967296
  pub finite : Finite m.gauge

pub record MeterWellFormed (m : Meter) : Type 0 where
  pub counts : m.count < 4294967296
  pub gauge : WellFormed m.gauge
