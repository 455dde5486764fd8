-- "Words are parted by one or more spaces": a word is a run of bytes that are no space (32).
-- Assumes nothing.
use Rattle.std.specs.Prelude.{ℕ, zero, suc, ◌+◌, ◌-◌, Bool, not, cond, List, [], ◌∷◌, Option, Some, None, drop, eqb, ltb}
use Rattle.std.specs.List.{prefix_len}
use Rattle.std.specs.declared.ops.Range.{Range}
use Rattle.wire.specs.Wire.{part}

-- the space byte, and every other
abbrev pub is_space : ℕ → Bool
is_space b = eqb b 32

abbrev pub not_space : ℕ → Bool
not_space b = not (eqb b 32)

-- every byte but the newline
abbrev pub not_newline : ℕ → Bool
not_newline b = not (eqb b 10)

-- the first place from i on whose byte does not pass the test; where there is none, the line's end, or i if that is past it
abbrev pub past : (ℕ → Bool) → List ℕ → ℕ → ℕ
past p line i = i + prefix_len p (drop i line)

-- the word that starts at s and ends before e
abbrev pub word_in : ℕ → ℕ → Option (Range ℕ)
word_in s e = cond (ltb s e) (Some (record { start = s; end = e })) None

-- spaces are skipped, and then the bytes up to the next space are the word, if there are any
unfoldable pub word_at : List ℕ → ℕ → Option (Range ℕ)
word_at line i = word_in (past is_space line i) (past not_space line (past is_space line i))

-- the bytes of a word that was found, before the words that are found from its end on
abbrev pub word_then : Option (Range ℕ) → List ℕ → (ℕ → List (List ℕ)) → List (List ℕ)
word_then None line later = []
word_then (Some r) line later = part line r.start (r.end - r.start) ∷ later r.end

-- the first n words of a line from i on
unfoldable pub words_from : ℕ → List ℕ → ℕ → List (List ℕ)
words_from zero line i = []
words_from (suc n) line i = word_then (word_at line i) line (words_from n line)
