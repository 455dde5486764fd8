-- "HEX is an even count of hex digits of either case, `-` where there are no bytes; hex is written in lower case."
-- Assumes nothing.
use Rattle.std.specs.Prelude.{ℕ, ◌+◌, ◌-◌, ◌*◌, ◌/◌, ◌%◌, Bool, not, cond, ◌&&◌, List, [], ◌∷◌, ◌++◌, Option, Some, None, length, drop, eqb, ltb, leb}
use Rattle.std.specs.Char.{is_ascii_hexdigit}
use Rattle.script.specs.Number.{between, is_digit, all}
use Rattle.wire.specs.Wire.{same}

-- '-'
abbrev pub dash : List ℕ
dash = 45 ∷ []

-- the value of a digit '0' to '9', 'A' to 'F', 'a' to 'f', and 16 for any other byte
unfoldable pub nibble : ℕ → ℕ
nibble b = cond (is_digit b) (b - 48) (cond (between 65 70 b) (b - 55) (cond (between 97 102 b) (b - 87) 16))

-- a digit, and no other byte
abbrev pub is_hex_digit : ℕ → Bool
is_hex_digit b = is_ascii_hexdigit b

-- an even count of hex digits, and not none
unfoldable pub is_hex : List ℕ → Bool
is_hex w = not (eqb (length w) 0) && eqb (length w % 2) 0 && all is_hex_digit w

-- how many bytes a word stands for
unfoldable pub hex_length_of : List ℕ → Option ℕ
hex_length_of w = cond (same w dash) (Some 0) (cond (is_hex w) (Some (length w / 2)) None)

-- the bytes that pairs of digits stand for, the high digit first
unfoldable pub pairs : List ℕ → List ℕ
pairs [] = []
pairs (h ∷ []) = []
pairs (h ∷ l ∷ w) = (nibble h * 16 + nibble l) ∷ pairs w

-- n bytes where there is room for them
abbrev pub with_room : Option ℕ → ℕ → Option ℕ
with_room (Some n) room = cond (leb n room) (Some n) None
with_room None room = None

-- how many bytes are written for a word into `room` bytes
unfoldable pub decoded_of : List ℕ → ℕ → Option ℕ
decoded_of w room = with_room (hex_length_of w) room

-- the word's bytes and then the rest of out, or all of out
abbrev pub written : Option ℕ → List ℕ → List ℕ → List ℕ
written (Some n) w out = pairs w ++ drop n out
written None w out = out

-- out with the word's bytes at its start, or as it was
unfoldable pub decoded_in : List ℕ → List ℕ → List ℕ
decoded_in w out = written (decoded_of w (length out)) w out

-- the digit for a number below 16, where `a` is the letter for ten
abbrev pub digit : ℕ → ℕ → ℕ
digit a n = cond (ltb n 10) (48 + n) (a + (n - 10))

-- of lower case, from 'a', and of upper case, from 'A'
abbrev pub lower : ℕ → ℕ
lower n = digit 97 n

abbrev pub upper : ℕ → ℕ
upper n = digit 65 n

-- two digits for each byte
unfoldable pub hex_digits : List ℕ → List ℕ
hex_digits [] = []
hex_digits (b ∷ l) = lower (b / 16) ∷ lower (b % 16) ∷ hex_digits l

-- `-` for no bytes
unfoldable pub hex_text : List ℕ → List ℕ
hex_text [] = dash
hex_text (b ∷ l) = hex_digits (b ∷ l)

-- a byte as two digits of upper case
unfoldable pub upper_byte : ℕ → List ℕ
upper_byte v = upper (v / 16) ∷ upper (v % 16) ∷ []
