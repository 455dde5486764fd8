-- The meter is well-formed after every line, so the bits that are written are the floats' own.
use Prim.Native.Nat.{ℕ, ◌≤◌}
use mathlib.Core.Bool.{Bool, true, false, cond, ◌&&◌}
use mathlib.Core.List.{List, [], ◌∷◌}
use mathlib.Core.Path.{◌≡◌, ap}
use native.Mathlib.Omega.{arith}
use lib.Dec.{T, leb, leb→le}
use lib.Ieee.{Float, binary64, to_bits}
use lib.Ieee.Fits.{and_r}
use Rattle.wire.specs.Wire.{be64}
use Rattle.script.specs.Number.{is_digit, all, value_from}
use Rattle.script.specs.Hex.{hex_digits}
use Rattle.meter.specs.declared.Meter.{Meter}
use Rattle.meter.specs.Invariant.{Amount, MeterWellFormed}
use Rattle.meter.proofs.Bits.{level_bits_lem}
use Rattle.meter.proofs.Invariant.{tick_well_formed}
use Rattle.gauge.specs.declared.line.Line.TheVariants.{Value, Bad}
use Rattle.gauge.specs.Line.{last, line_of}
use Rattle.gauge.specs.Text.{level_text}
use Rattle.gauge.specs.Run.{after_line}

by_value : (m : Meter) (v : ℕ) (t : Bool) → (T t → v ≤ last) → MeterWellFormed m → MeterWellFormed (after_line m (cond t (Value v) Bad))
by_value m v true h w =
    let k : v ≤ last = h tt in
    tick_well_formed (record { count = v; ticked = m.ticked; gauge = m.gauge }) (record { counts = omega arith; gauge = w.gauge })
by_value m v false h w = w

pub line_well_formed : (m : Meter) (bytes : List ℕ) → MeterWellFormed m → MeterWellFormed (after_line m (line_of bytes))
unfolding line_of
line_well_formed m [] w = w
line_well_formed m (b ∷ bytes) w =
    let v = value_from 0 (b ∷ bytes) in
    by_value m v (all is_digit (b ∷ bytes) && leb v last) (λ t. leb→le v last (and_r (all is_digit (b ∷ bytes)) (leb v last) t)) w

pub own_bits : (x : Float) → Amount x → level_text x ≡ 32 ∷ hex_digits (be64 (to_bits binary64 x))
unfolding level_text
own_bits x a = ap (λ (n : ℕ). 32 ∷ hex_digits (be64 n)) (level_bits_lem x a)
