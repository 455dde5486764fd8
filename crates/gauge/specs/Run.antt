-- What the program answers to its input, byte by byte.
use Rattle.std.specs.Prelude.{ℕ, cond, List, [], ◌∷◌, ◌++◌, ◌≡◌, eqb}
use Rattle.meter.specs.Gauge.{new_meter, ticked_meter, reading_of}
use Rattle.meter.specs.declared.Meter.{Meter}
use Rattle.gauge.specs.Line.{line_of, with_byte}
use Rattle.gauge.specs.Text.{reading_text, bad_text, newline, Placed}
use Rattle.gauge.specs.declared.line.Line.{Line}
use Rattle.gauge.specs.declared.line.Line.TheVariants.{Empty, Value, Bad}
use Rattle.gauge.specs.declared.run.State.{State}

-- the meter after a line: "a line that isn't a whole number .. changes nothing"
abbrev pub after_line : Meter → Line → Meter
after_line m (Value n) = ticked_meter (record { count = n; ticked = m.ticked; gauge = m.gauge })
after_line m Empty = m
after_line m Bad = m

-- the answer to a line, of the meter after it
abbrev pub answer_text : Meter → Line → List ℕ
answer_text m (Value n) = reading_text (reading_of m.gauge m.ticked) ++ newline
answer_text m Empty = bad_text ++ newline
answer_text m Bad = bad_text ++ newline

abbrev pub state_at : Line → Meter → State
state_at line meter = record { line = line; meter = meter }

abbrev pub start_state : State
start_state = state_at Empty new_meter

-- ---- one byte

unfoldable pub after_byte : State → ℕ → State
after_byte s b = cond (eqb b 10) (state_at Empty (after_line s.meter s.line)) (state_at (with_byte s.line b) s.meter)

unfoldable pub said_at : State → ℕ → List ℕ
said_at s b = cond (eqb b 10) (answer_text (after_line s.meter s.line) s.line) []

pub record Stepped (s : State) (b : ℕ) (before : List ℕ) (r : State) (after : List ℕ) : Type 0 where
  pub state : r ≡ after_byte s b
  pub said : Placed (said_at s b) before after

-- ---- the bytes of a chunk, and of the whole input

unfoldable pub after_bytes : State → List ℕ → State
after_bytes s [] = s
after_bytes s (b ∷ bytes) = after_bytes (after_byte s b) bytes

unfoldable pub said_bytes : State → List ℕ → List ℕ
said_bytes s [] = []
said_bytes s (b ∷ bytes) = said_at s b ++ said_bytes (after_byte s b) bytes

-- the text is the answers
pub record Ran (s : State) (bytes : List ℕ) (r : State) (after : List ℕ) : Type 0 where
  pub state : r ≡ after_bytes s bytes
  pub said : after ≡ said_bytes s bytes

-- "the last may lack its newline"; after the last newline there is no line
abbrev pub rest_of : Meter → Line → List ℕ
rest_of m Empty = []
rest_of m (Value n) = answer_text (after_line m (Value n)) (Value n)
rest_of m Bad = answer_text m Bad

abbrev pub rest_text : State → List ℕ
rest_text s = rest_of s.meter s.line

-- all that the program writes for an input
unfoldable pub printed : List ℕ → List ℕ
printed input = said_bytes start_state input ++ rest_text (after_bytes start_state input)

-- ---- line by line

-- a line has no newline in it
abbrev pub Plain : List ℕ → Type 0
Plain [] = Unit
Plain (b ∷ bytes) = (b ≡ 10 → ⊥) × Plain bytes

abbrev pub AllPlain : List (List ℕ) → Type 0
AllPlain [] = Unit
AllPlain (line ∷ lines) = Plain line × AllPlain lines

-- lines, each with its newline
unfoldable pub joined : List (List ℕ) → List ℕ
joined [] = []
joined (line ∷ lines) = line ++ (10 ∷ joined lines)

-- the answers to lines
unfoldable pub answers : Meter → List (List ℕ) → List ℕ
answers m [] = []
answers m (line ∷ lines) = answer_text (after_line m (line_of line)) (line_of line) ++ answers (after_line m (line_of line)) lines
