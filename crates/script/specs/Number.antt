-- "A number is decimal digits alone, 0 to 2^64 - 1": how a word is read as one, and the digits that are written for one.
-- Assumes nothing.
use Rattle.std.specs.Prelude.{ℕ, zero, suc, ◌+◌, ◌-◌, ◌*◌, ◌/◌, ◌%◌, ◌^◌, Bool, cond, ◌&&◌, List, [], ◌∷◌, ◌++◌, Option, Some, None, ltb, leb}
use Rattle.std.specs.List.{list_all}

-- whether b is one of the bytes from a to e
abbrev pub between : ℕ → ℕ → ℕ → Bool
between a e b = leb a b && leb b e

-- '0' to '9'
abbrev pub is_digit : ℕ → Bool
is_digit b = between 48 57 b

-- whether every byte of a list passes a test
abbrev pub all : (ℕ → Bool) → List ℕ → Bool
all p l = list_all p l

-- v, with the digits of a list after it
unfoldable pub value_from : ℕ → List ℕ → ℕ
value_from v [] = v
value_from v (b ∷ l) = value_from (v * 10 + (b - 48)) l

-- a number of 64 bits
abbrev pub bounded : ℕ → Option ℕ
bounded n = cond (ltb n (2 ^ 64)) (Some n) None

-- v with the digits of a word after it, if the word has digits alone
unfoldable pub number_from : ℕ → List ℕ → Option ℕ
number_from v w = cond (all is_digit w) (bounded (value_from v w)) None

-- one digit or more, and the number fits 64 bits
unfoldable pub number_of : List ℕ → Option ℕ
number_of [] = None
number_of (b ∷ w) = number_from 0 (b ∷ w)

-- the digits of v, at most k of them
unfoldable pub digits_of : ℕ → ℕ → List ℕ
digits_of zero v = []
digits_of (suc k) v = cond (ltb v 10) ((48 + v) ∷ []) (digits_of k (v / 10) ++ ((48 + v % 10) ∷ []))

-- the digits of a number of 64 bits, with no leading zero: twenty are enough
unfoldable pub decimal : ℕ → List ℕ
decimal v = digits_of 20 v
