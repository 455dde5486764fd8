-- "a whole number, in digits alone, from 0 to 2^32 − 1": what a line is as a sample, over its bytes, and byte by byte.
use Rattle.std.specs.Prelude.{ℕ, ◌+◌, ◌-◌, ◌*◌, cond, ◌&&◌, List, [], ◌∷◌, leb}
use Rattle.script.specs.Number.{is_digit, all, value_from}
use Rattle.gauge.specs.declared.line.Line.{Line}
use Rattle.gauge.specs.declared.line.Line.TheVariants.{Empty, Value, Bad}

-- the last sample
abbrev pub last : ℕ
last = 4294967295

-- the line of these bytes
unfoldable pub line_of : List ℕ → Line
line_of [] = Empty
line_of (b ∷ bytes) = cond (all is_digit (b ∷ bytes) && leb (value_from 0 (b ∷ bytes)) last) (Value (value_from 0 (b ∷ bytes))) Bad

-- a number with one more byte after it
unfoldable pub digit_after : ℕ → ℕ → Line
digit_after n b = cond (is_digit b && leb (n * 10 + (b - 48)) last) (Value (n * 10 + (b - 48))) Bad

-- a line with one more byte
abbrev pub with_byte : Line → ℕ → Line
with_byte Empty b = digit_after 0 b
with_byte (Value n) b = digit_after n b
with_byte Bad b = Bad
