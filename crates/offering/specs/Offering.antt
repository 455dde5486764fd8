-- The commands `offer` and `held`: what a line asks, as the script format's table of commands has it, over the words of the line.
-- Assumes nothing.
use Rattle.std.specs.Prelude.{ℕ, ◌≤◌, Bool, true, ◌≡◌, List, [], ◌∷◌, Option, Some, None, length, take, eqb, leb}
use Rattle.wire.specs.Wire.{pick, both, same}
use Rattle.script.specs.Number.{number_of}
use Rattle.script.specs.Hex.{pairs, decoded_of}
use Rattle.command.specs.Args.{line_words, word_of}
use Rattle.offering.specs.declared.Asked.{Asked}

-- what a line asks
pub data Offering : Type 0 where
  -- these bytes are offered to a stream, lent the first `lent` bytes of the store and the first `held` bytes of the second slice
  offer : (stream : ℕ) → (bytes : List ℕ) → (lent held : ℕ) → Offering
  -- how many bytes a stream holds
  holds : (stream : ℕ) → Offering
  -- nothing: it is no such command
  bad : Offering

-- ---- the names of the commands

-- `offer`
abbrev pub offer_name : List ℕ
offer_name = 111 ∷ 102 ∷ 102 ∷ 101 ∷ 114 ∷ []

-- `held`
abbrev pub held_name : List ℕ
held_name = 104 ∷ 101 ∷ 108 ∷ 100 ∷ []

-- a word that is the name of one of the two commands
unfoldable pub is_offering : List ℕ → Bool
is_offering name = pick (same name offer_name) true (same name held_name)

-- ---- `offer N HEX`, `offer N HEX LENT` and `offer N HEX LENT HELD`

-- "LENT and HELD are other counts of bytes lent of the store and of the second slice (over their sizes: `bad`)"
abbrev pub at_most : ℕ → Option ℕ → Option ℕ
at_most most (Some n) = pick (leb n most) (Some n) None
at_most most None = None

-- the count that word number i is, at most so many; a line that ends before it lends the usual count
unfoldable pub count_at : ℕ → ℕ → ℕ → List (List ℕ) → Option ℕ
count_at usual most i ws = pick (leb (length ws) i) (Some usual) (at_most most (number_of (word_of ws i)))

abbrev pub offer_for : List ℕ → Option ℕ → Option ℕ → Option ℕ → Option ℕ → Offering
offer_for hex (Some n) (Some lent) (Some held) (Some k) = offer n (pairs hex) lent held
offer_for hex (Some n) (Some lent) (Some held) None = bad
offer_for hex (Some n) (Some lent) None d = bad
offer_for hex (Some n) None h d = bad
offer_for hex None l h d = bad

-- three to five words. A line that does not say lends `kept` bytes of the store, whose size is `size`, and all of the second slice, whose size
-- is `rooms`; there is room for so many bytes of HEX
unfoldable pub ask_offer : ℕ → ℕ → ℕ → ℕ → List (List ℕ) → Offering
ask_offer kept size rooms room ws =
    pick (both (leb 3 (length ws)) (leb (length ws) 5))
    (offer_for (word_of ws 2) (number_of (word_of ws 1)) (count_at kept size 3 ws) (count_at rooms rooms 4 ws) (decoded_of (word_of ws 2) room))
    bad

-- ---- `held N`: "N over 15: `bad`"

abbrev pub held_for : Option ℕ → Offering
held_for (Some n) = pick (leb n 15) (holds n) bad
held_for None = bad

unfoldable pub ask_held : List (List ℕ) → Offering
ask_held ws = pick (eqb (length ws) 2) (held_for (number_of (word_of ws 1))) bad

-- ---- a line, by its name

unfoldable pub offering_of : ℕ → ℕ → ℕ → ℕ → List ℕ → Offering
offering_of kept size rooms room line =
    pick (same (word_of (line_words line) 0) offer_name) (ask_offer kept size rooms room (line_words line))
    (pick (same (word_of (line_words line) 0) held_name) (ask_held (line_words line))
    bad)

-- ---- what `ask` answers of it

abbrev pub asked_of : Offering → Option Asked
asked_of (offer n bytes lent held) = Some (Asked.Offer n (length bytes) lent held)
asked_of (holds n) = Some (Asked.Held n)
asked_of bad = None

-- the bytes that are offered, and how many
abbrev pub bytes_of : Offering → List ℕ
bytes_of (offer n bytes lent held) = bytes
bytes_of (holds n) = []
bytes_of bad = []

abbrev pub size_of : Option Asked → ℕ
size_of (Some (Asked.Offer n size lent held)) = size
size_of (Some (Asked.Held n)) = 0
size_of None = 0

-- r says what is asked; the bytes that are offered stand in front of the buffer
pub record Says (q : Offering) (r : Option Asked) (buffer : List ℕ) : Type 0 where
  pub asked : r ≡ asked_of q
  pub bytes : take (size_of r) buffer ≡ bytes_of q
  pub within : size_of r ≤ length buffer
