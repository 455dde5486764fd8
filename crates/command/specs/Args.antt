-- The words of a line, and what the words of a command can be.
-- Assumes nothing.
use Rattle.std.specs.Prelude.{ℕ, zero, suc, ◌+◌, Bool, true, false, cond, List, [], ◌∷◌, ◌++◌, take, Option, Some, None, is_some, unwrap_or, option_and_then, length, map, get_or, eqb, ltb}
use Rattle.wire.specs.Wire.{pick, both, same}
use Rattle.script.specs.Word.{words_from}
use Rattle.script.specs.Number.{number_of}
use Rattle.command.specs.declared.args.Words.{Words}

-- f 0, f 1, .. : n elements
unfoldable pub listed : {A : Type 0} → ℕ → (ℕ → A) → List A
listed zero f = []
listed (suc n) f = listed n f ++ (f n ∷ [])

-- a step that may find nothing, and then the next
infixl 10 ◌>>=◌
abbrev pub ◌>>=◌ : {A B : Type 0} → Option A → (A → Option B) → Option B
o >>= f = option_and_then f o

-- ---- the words of a line

-- the first of them, one more than any command has
abbrev pub line_words : List ℕ → List (List ℕ)
line_words line = words_from 11 line 0

-- those that are kept of a line
unfoldable pub words_of : Words → List (List ℕ)
words_of w = map (λ r. r.now) (take w.count w.found)

-- word number i, of no bytes where there is none
abbrev pub word_of : List (List ℕ) → ℕ → List ℕ
word_of ws i = get_or ws i []

-- ---- what a word can be

-- a word that is one of two, false for the first and true for the second
abbrev pub flag_of : List ℕ → List ℕ → List ℕ → Option Bool
flag_of w off on = cond (same w on) (Some true) (cond (same w off) (Some false) None)

-- ---- words that are all numbers

-- word number i as a number, 0 where there is none
abbrev pub number_at : List (List ℕ) → ℕ → Option ℕ
number_at ws i = pick (ltb i (length ws)) (number_of (word_of ws i)) (Some 0)

-- whether f 0, f 1, .. are n numbers
unfoldable pub all_numbers : ℕ → (ℕ → Option ℕ) → Bool
all_numbers zero f = true
all_numbers (suc n) f = both (all_numbers n f) (is_some (f n))

-- the nine words after the first, where there are `count` words and these are numbers
unfoldable pub numbers_of : List (List ℕ) → ℕ → Option (List ℕ)
numbers_of ws count =
    pick (both (eqb (length ws) count) (all_numbers 9 (λ i. number_at ws (i + 1))))
    (Some (listed 9 (λ i. unwrap_or (number_at ws (i + 1)) 0)))
    None
