-- A text of so much room: bytes that fit into what is left of it stand behind the others, and of bytes that do not fit none is written.
-- Assumes nothing.
use Rattle.std.specs.Prelude.{ℕ, ◌+◌, cond, List, ◌++◌, length, leb}

-- the text with s behind it, where all of it fits into the room, and else as it was
unfoldable pub appended : ℕ → List ℕ → List ℕ → List ℕ
appended room text s = cond (leb (length text + length s) room) (text ++ s) text
