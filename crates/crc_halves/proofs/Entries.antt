-- The table's entries, by one test that antt computes over all of them.
use Rattle.std.proofs.Common.{◌≡◌, ℕ, zero, suc, ◌+◌, ◌*◌, ◌/◌, ◌%◌, ◌<◌, List, [], ◌∷◌, length, get_or, Bool, true, false, arith}
use lib.Dec.{T, eqb, eqb→eq}
use Rattle.crc_halves.specs.Tables.{after}

-- entry i of a table, and those after it
abbrev pub entry : ℕ → ℕ
entry i = after (4 * (i / 16 + 1)) (i % 16)

abbrev both : Bool → Bool → Bool
both true b = b
both false b = false

abbrev pub right : ℕ → List ℕ → Bool
right i [] = true
right i (x ∷ xs) = both (eqb x (entry i)) (right (suc i) xs)

both_left : (a b : Bool) → T (both a b) → T a
both_left true b t = tt
both_left false b t = absurd t

both_right : (a b : Bool) → T (both a b) → T b
both_right true b t = t
both_right false b t = absurd t

pub entry_at : (xs : List ℕ) (i j : ℕ) → T (right i xs) → j < length xs → get_or xs j 0 ≡ entry (i + j)
entry_at [] i j t h = absurd (omega arith)
entry_at (x ∷ xs) i zero t h =
    let e : i + 0 ≡ i = omega arith in
    rw e (eqb→eq x (entry i) (both_left (eqb x (entry i)) (right (suc i) xs) t))
entry_at (x ∷ xs) i (suc j) t h =
    let e : i + suc j ≡ suc i + j = omega arith in
    let l : j < length xs = omega arith in
    rw e (entry_at xs (suc i) j (both_right (eqb x (entry i)) (right (suc i) xs) t) l)
