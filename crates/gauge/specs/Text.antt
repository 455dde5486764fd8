-- "prints the reading's name and, a space before each, its floats' bits in sixteen lower-case hex digits"
use Rattle.std.specs.Prelude.{ℕ, List, [], ◌∷◌, ◌++◌, ◌≡◌, Float}
use Rattle.wire.specs.Wire.{be64}
use Rattle.script.specs.Hex.{hex_digits}
use Rattle.meter.specs.Words.{level_bits}
use Rattle.meter.specs.declared.gauge.Reading.{Reading}
use Rattle.meter.specs.declared.gauge.Reading.TheVariants.{Quiet, Steady, Falling}

-- ` ` and the digits of the eight bytes of the bits, the most significant first
unfoldable pub level_text : Float → List ℕ
level_text x = 32 ∷ hex_digits (be64 (level_bits x))

-- `quiet`, `steady` with the level, `falling` with level and peak
unfoldable pub reading_text : Reading → List ℕ
reading_text Quiet = 113 ∷ 117 ∷ 105 ∷ 101 ∷ 116 ∷ []
reading_text (Steady level) = (115 ∷ 116 ∷ 101 ∷ 97 ∷ 100 ∷ 121 ∷ []) ++ level_text level
reading_text (Falling level peak) = ((102 ∷ 97 ∷ 108 ∷ 108 ∷ 105 ∷ 110 ∷ 103 ∷ []) ++ level_text level) ++ level_text peak

-- `bad`
abbrev pub bad_text : List ℕ
bad_text = 98 ∷ 97 ∷ 100 ∷ []

abbrev pub newline : List ℕ
newline = 10 ∷ []

-- after is the text before with these bytes behind it
abbrev pub Placed : List ℕ → List ℕ → List ℕ → Type 0
Placed bytes before after = after ≡ before ++ bytes
