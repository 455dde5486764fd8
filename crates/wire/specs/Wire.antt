-- Numbers as they stand on the wire, and elements put at a place of a list.
use Rattle.std.specs.Prelude.{ℕ, ◌+◌, ◌*◌, ◌/◌, ◌%◌, Bool, true, false, List, [], ◌∷◌, ◌++◌, length, get_or, take, drop, eqb}

-- if-then-else
abbrev pub pick : {A : Type 0} → Bool → A → A → A
pick true a b = a
pick false a b = b

-- and
abbrev pub both : Bool → Bool → Bool
both true b = b
both false b = false

-- two lists of bytes are the same
abbrev pub same : List ℕ → List ℕ → Bool
same [] [] = true
same [] (y ∷ ys) = false
same (x ∷ xs) [] = false
same (x ∷ xs) (y ∷ ys) = both (eqb x y) (same xs ys)

-- the len bytes from start
abbrev pub part : List ℕ → ℕ → ℕ → List ℕ
part l start len = take len (drop start l)

-- the list with the elements xs at a place
abbrev pub put : {A : Type 0} → List A → ℕ → List A → List A
put l at xs = take at l ++ (xs ++ drop (at + length xs) l)

-- "All numbers are big-endian": the number that stands at a place in 2, 4 or 8 bytes
abbrev pub be16_at : List ℕ → ℕ → ℕ
be16_at l i = get_or l i 0 * 256 + get_or l (i + 1) 0

abbrev pub be32_at : List ℕ → ℕ → ℕ
be32_at l i = be16_at l i * 65536 + be16_at l (i + 2)

abbrev pub be64_at : List ℕ → ℕ → ℕ
be64_at l i = be32_at l i * 4294967296 + be32_at l (i + 4)

-- the 2, 4 or 8 bytes in which a number stands
abbrev pub be16 : ℕ → List ℕ
be16 v = v / 256 % 256 ∷ v % 256 ∷ []

abbrev pub be32 : ℕ → List ℕ
be32 v = be16 (v / 65536) ++ be16 (v % 65536)

abbrev pub be64 : ℕ → List ℕ
be64 v = be32 (v / 4294967296) ++ be32 (v % 4294967296)

-- the 4 bytes of a number, the least significant first
abbrev pub le32 : ℕ → List ℕ
le32 v = v % 256 ∷ v / 256 % 256 ∷ v / 65536 % 256 ∷ v / 16777216 % 256 ∷ []

abbrev pub le32_at : List ℕ → ℕ → ℕ
le32_at l i = get_or l i 0 + get_or l (i + 1) 0 * 256 + get_or l (i + 2) 0 * 65536 + get_or l (i + 3) 0 * 16777216
