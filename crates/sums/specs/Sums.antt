-- The commands `crc` and `join`: what a line is answered, over the words of the line.
-- Assumes nothing.
use Rattle.std.specs.Prelude.{ℕ, ◌-◌, Bool, true, List, [], ◌∷◌, Option, Some, None, length, eqb, leb}
use Rattle.wire.specs.Wire.{pick, both, same, be32_at}
use Rattle.script.specs.Number.{all, number_of}
use Rattle.script.specs.Hex.{is_hex_digit, pairs, decoded_of}
use Rattle.crc32c.specs.Crc.{crc_run, crc_of, all_ones}
use Rattle.crc32c.specs.Shift.{joined}
use Rattle.command.specs.Args.{◌>>=◌, word_of}

-- ---- the names of the commands

-- `crc`
abbrev pub crc_name : List ℕ
crc_name = 99 ∷ 114 ∷ 99 ∷ []

-- `join`
abbrev pub join_name : List ℕ
join_name = 106 ∷ 111 ∷ 105 ∷ 110 ∷ []

-- a word that is one of them
unfoldable pub is_sum : List ℕ → Bool
is_sum name = pick (same name crc_name) true (same name join_name)

-- ---- CRCs

-- the CRC of bytes "carried on from the CRC of what came before": the running value is the CRC's inverse
unfoldable pub crc_on : ℕ → List ℕ → ℕ
crc_on crc bytes = all_ones - crc_run (all_ones - crc) bytes

-- "A CRC is eight hex digits of either case": the number's own, the high digit first
unfoldable pub crc_word : List ℕ → Option ℕ
crc_word w = pick (both (eqb (length w) 8) (all is_hex_digit w)) (Some (be32_at (pairs w) 0)) None

-- ---- `crc HEX`, where there is room for so many bytes of HEX

unfoldable pub whole_sum : List ℕ → ℕ → Option ℕ
whole_sum w room = do
  n ← decoded_of w room
  Some (crc_of (pairs w))

-- ---- `crc CRC HEX`

unfoldable pub carried_sum : List ℕ → List ℕ → ℕ → Option ℕ
carried_sum before w room = do
  crc ← crc_word before
  n ← decoded_of w room
  Some (crc_on crc (pairs w))

-- ---- `join CRC CRC LENGTH`: "of two pieces, and the second's length, over 2^32 − 1: `bad`"

unfoldable pub joined_sum : List ℕ → List ℕ → List ℕ → Option ℕ
joined_sum one other size = do
  a ← crc_word one
  b ← crc_word other
  n ← number_of size
  pick (leb n 0xFFFFFFFF) (Some (joined a b n)) None

-- ---- a line

unfoldable pub crc_answer : List (List ℕ) → ℕ → Option ℕ
crc_answer ws room =
    pick (eqb (length ws) 2) (whole_sum (word_of ws 1) room)
    (pick (eqb (length ws) 3) (carried_sum (word_of ws 1) (word_of ws 2) room)
    None)

unfoldable pub join_answer : List (List ℕ) → Option ℕ
join_answer ws = pick (eqb (length ws) 4) (joined_sum (word_of ws 1) (word_of ws 2) (word_of ws 3)) None

-- by its name
unfoldable pub sum_answer : List (List ℕ) → ℕ → Option ℕ
sum_answer ws room =
    pick (same (word_of ws 0) crc_name) (crc_answer ws room)
    (pick (same (word_of ws 0) join_name) (join_answer ws)
    None)
