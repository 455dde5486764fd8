-- The commands `message` and `segment`: what a line asks, and what it makes of the message begun last. That is nine words, and its bytes in front of a buffer.
-- Assumes nothing.
use Rattle.std.specs.Prelude.{ℕ, min, Bool, true, List, [], ◌∷◌, Option, Some, None, Result, Ok, Err, length, eqb, leb}
use Rattle.wire.specs.Wire.{pick, same, put}
use Rattle.wire.specs.declared.refusal.LocalRefusal.{LocalRefusal}
use Rattle.script.specs.Number.{number_of}
use Rattle.script.specs.Hex.{pairs, decoded_of}
use Rattle.sender.specs.declared.Message.{Message}
use Rattle.sender.specs.Message.{write_begun, send_begun, next_of}
use Rattle.sender.specs.Words.{message_at, begun_words, words_next}
use Rattle.command.specs.Args.{◌>>=◌, line_words, word_of}
use Rattle.sending.specs.declared.Order.{Order}
use Rattle.sending.specs.declared.Ordered.{Ordered}

-- ---- the names of the commands

-- `message`
abbrev pub message_name : List ℕ
message_name = 109 ∷ 101 ∷ 115 ∷ 115 ∷ 97 ∷ 103 ∷ 101 ∷ []

-- `segment`
abbrev pub segment_name : List ℕ
segment_name = 115 ∷ 101 ∷ 103 ∷ 109 ∷ 101 ∷ 110 ∷ 116 ∷ []

-- `write`
abbrev pub write_name : List ℕ
write_name = 119 ∷ 114 ∷ 105 ∷ 116 ∷ 101 ∷ []

-- `send`
abbrev pub send_name : List ℕ
send_name = 115 ∷ 101 ∷ 110 ∷ 100 ∷ []

-- a word that is the name of one of the two commands
unfoldable pub is_order : List ℕ → Bool
is_order name = pick (same name message_name) true (same name segment_name)

-- ---- `message write LIMIT STAG TO HEX`, whose HEX is n bytes

unfoldable pub write_of : List ℕ → List ℕ → List ℕ → ℕ → Option Order
write_of limit stag to n = do
  l ← number_of limit
  s ← number_of stag
  t ← number_of to
  Some (Order.Begin (write_begun l s t n))

unfoldable pub ask_write : List (List ℕ) → ℕ → Option Order
ask_write ws n = pick (eqb (length ws) 6) (write_of (word_of ws 2) (word_of ws 3) (word_of ws 4) n) None

-- ---- `message send LIMIT OPCODE MSN STAG HEX`

unfoldable pub send_of : List ℕ → List ℕ → List ℕ → List ℕ → ℕ → Option Order
send_of limit opcode msn stag n = do
  l ← number_of limit
  o ← number_of opcode
  m ← number_of msn
  s ← number_of stag
  Some (Order.Begin (send_begun l o m s n))

unfoldable pub ask_send : List (List ℕ) → ℕ → Option Order
ask_send ws n = pick (eqb (length ws) 7) (send_of (word_of ws 2) (word_of ws 3) (word_of ws 4) (word_of ws 5) n) None

-- ---- either of them, with room for so many bytes of HEX

unfoldable pub ask_begin : List (List ℕ) → ℕ → Option Order
ask_begin ws n =
    pick (same (word_of ws 1) write_name) (ask_write ws n)
    (pick (same (word_of ws 1) send_name) (ask_send ws n)
    None)

-- the word that is HEX
unfoldable pub hex_word : List (List ℕ) → List ℕ
hex_word ws = pick (same (word_of ws 1) write_name) (word_of ws 5) (word_of ws 6)

abbrev pub ordered : Order → ℕ → Ordered
ordered order n = record { order = order; size = n }

abbrev pub message_for : List (List ℕ) → ℕ → Option Ordered
message_for ws room = do
  n ← decoded_of (hex_word ws) room
  order ← ask_begin ws n
  Some (ordered order n)

abbrev pub bytes_for : Option ℕ → List (List ℕ) → List ℕ
bytes_for (Some n) ws = pairs (hex_word ws)
bytes_for None ws = []

-- ---- `segment ROOM`

unfoldable pub ask_segment : List (List ℕ) → Option Order
ask_segment ws = pick (eqb (length ws) 2) (do
  room ← number_of (word_of ws 1)
  Some (Order.Segment room)) None

abbrev pub segment_for : List (List ℕ) → Option Ordered
segment_for ws = do
  order ← ask_segment ws
  Some (ordered order 0)

-- ---- a line, by its name

unfoldable pub order_of : List (List ℕ) → ℕ → Option Ordered
order_of ws room = pick (same (word_of ws 0) message_name) (message_for ws room) (segment_for ws)

-- the bytes of a message that it begins
unfoldable pub bytes_of : List (List ℕ) → ℕ → List ℕ
bytes_of ws room = pick (same (word_of ws 0) message_name) (bytes_for (decoded_of (hex_word ws) room) ws) []

-- ---- what it makes of the message

-- the words: "A refused `message` leaves the one before". A segment is cut of the message's bytes in front of a buffer of size bytes, into as
-- much room as is asked for and there
abbrev pub message_then : List ℕ → ℕ → ℕ → Order → List ℕ → List ℕ
message_then w size room (Order.Begin b) bytes = pick (leb (length bytes) size) (begun_words w b) w
message_then w size room (Order.Segment asked) bytes = words_next w (next_of (message_at w) (min (message_at w).len size) (min asked room))

-- and the buffer of its bytes, which a message that is begun stands in, if it fits
abbrev pub held_begun : List ℕ → Result Message LocalRefusal → List ℕ → List ℕ
held_begun held (Ok m) bytes = put held 0 bytes
held_begun held (Err refusal) bytes = held

abbrev pub held_then : List ℕ → Order → List ℕ → List ℕ
held_then held (Order.Begin b) bytes = pick (leb (length bytes) (length held)) (held_begun held b bytes) held
held_then held (Order.Segment asked) bytes = held

-- the same of what a line asks, if it asks anything
abbrev pub message_by : List ℕ → ℕ → ℕ → Option Ordered → List ℕ → List ℕ
message_by w size room (Some o) bytes = message_then w size room o.order bytes
message_by w size room None bytes = w

abbrev pub held_by : List ℕ → Option Ordered → List ℕ → List ℕ
held_by held (Some o) bytes = held_then held o.order bytes
held_by held None bytes = held

-- the same of a line, with buffers of so many bytes for HEX and for a segment
unfoldable pub message_after : List ℕ → ℕ → ℕ → ℕ → List ℕ → List ℕ
message_after w size hex room line = message_by w size room (order_of (line_words line) hex) (bytes_of (line_words line) hex)

unfoldable pub held_after : List ℕ → ℕ → List ℕ → List ℕ
held_after held hex line = held_by held (order_of (line_words line) hex) (bytes_of (line_words line) hex)

-- "`end` .. before any message": an empty one whose last segment is written
abbrev pub no_message : List ℕ
no_message = 0 ∷ 0 ∷ 0 ∷ 0 ∷ 0 ∷ 0 ∷ 0 ∷ 0 ∷ 1 ∷ []
