-- A line is gathered in a buffer: bytes that fit are kept, and a line that does not fit counts for one byte more than the buffer.
-- Assumes nothing.
use Rattle.std.specs.Prelude.{ℕ, ◌+◌, Bool, List, length, leb}
use Rattle.wire.specs.Wire.{pick, put}

-- whether a line of count bytes and some more fits into a buffer of size bytes
abbrev pub line_fits : ℕ → ℕ → ℕ → Bool
line_fits size count more = leb (count + more) size

-- how many bytes of the line there are then
unfoldable pub added_count : ℕ → ℕ → ℕ → ℕ
added_count size count more = pick (line_fits size count more) (count + more) (size + 1)

-- and the buffer then
unfoldable pub added_bytes : List ℕ → ℕ → List ℕ → List ℕ
added_bytes line count more = pick (line_fits (length line) count (length more)) (put line count more) line
