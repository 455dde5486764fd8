-- The first place whose byte does not pass a test (`past`) lies within its line. So a word that is found is not empty and lies within
-- its line. Assumes nothing.
use Rattle.std.proofs.Common.{◌≡◌, ℕ, ◌+◌, ◌≤◌, ◌<◌, Bool, true, false, cond, List, Some, None, ltb, length, drop, length-drop, refl, arith, ap, take, max}
use Rattle.std.proofs.lemmas.List.Sums.{prefix_len-le-length}
use Rattle.std.proofs.lemmas.List.Folds.{length-prefix_len}
use Rattle.std.specs.List.{prefix_len}
use Rattle.std.specs.declared.ops.Range.{Range}
use borrow.Author.Tests.{ltb-true}
use Rattle.script.specs.Word.{is_space, not_space, past, word_at}

-- the place that is found lies within the list, and not before the one looked from
pub past-within : (p : ℕ → Bool) (l : List ℕ) (i : ℕ) → i ≤ length l → (i ≤ past p l i) × (past p l i ≤ length l)
past-within p l i h = let n = prefix_len-le-length p (drop i l) in (omega arith, omega (arith, length-drop i l))

-- nor does it lie past the list, where the one looked from does not
pub fits : (p : ℕ → Bool) (l : List ℕ) (i : ℕ) → i + prefix_len p (drop i l) ≤ max i (length l)
fits p l i = let m = prefix_len-le-length p (drop i l) in omega (arith, length-drop i l)

word-by : (line : List ℕ) (a : ℕ) (r : Range ℕ) (t : Bool) → ltb a (past not_space line a) ≡ t
    → cond t (Some (record { start = a; end = past not_space line a })) None ≡ Some r → (r.start < r.end) × (r.end ≤ length line)
word-by line a r true h q =
    let e : record { start = a; end = past not_space line a } ≡ r = cc in
    let p : a ≡ r.start = ap (λ (x : Range ℕ). x.start) e in
    let f : past not_space line a ≡ r.end = ap (λ (x : Range ℕ). x.end) e in
    let l = ltb-true a (past not_space line a) h in
    let n = prefix_len-le-length not_space (drop a line) in
    (omega arith, omega (arith, length-drop a line))
word-by line a r false h q = cc

-- a word is not empty, and ends within the line
pub word-within : (line : List ℕ) (i : ℕ) (r : Range ℕ) → word_at line i ≡ Some r → (r.start < r.end) × (r.end ≤ length line)
unfolding word_at
word-within line i r q = word-by line (past is_space line i) r (ltb (past is_space line i) (past not_space line (past is_space line i))) refl q

-- as many as pass the test are counted
pub counted : (p : ℕ → Bool) (l : List ℕ) → length (take (prefix_len p l) l) ≡ prefix_len p l
counted p l = length-prefix_len p l
