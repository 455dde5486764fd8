-- Answers are gathered in a text: bytes that fit stand behind those that are gathered, and bytes that do not stand alone, those being
-- written. Bytes that are longer than the text's room are written, too.
-- Assumes nothing.
use Rattle.std.specs.Prelude.{ℕ, ◌+◌, List, [], ◌∷◌, ◌++◌, length, leb}
use Rattle.wire.specs.Wire.{pick}
use Rattle.script.specs.Text.{appended}

-- what is gathered then
unfoldable pub gathered : ℕ → List ℕ → List ℕ → List ℕ
gathered room out more = pick (leb (length out + length more) room) (out ++ more) (pick (leb (length more) room) more [])

-- an answer as a line: with a newline, where the text has room for it
abbrev pub answer_line : ℕ → List ℕ → List ℕ
answer_line room text = appended room text (10 ∷ [])

-- `bad` as a line
abbrev pub bad_line : List ℕ
bad_line = 98 ∷ 97 ∷ 100 ∷ 10 ∷ []
