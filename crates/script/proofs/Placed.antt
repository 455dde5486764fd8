-- A turn of a loop that writes bytes into a slice. Assumes nothing.
use mathlib.Core.Path.{◌≡◌, sym, ap, ap₂, ◌∙◌}
use mathlib.Core.List.{List}
use Prim.Native.Nat.{ℕ, ◌+◌, ◌<◌}
use native.Mathlib.Nat.{zero-add}
use native.Mathlib.Numerals.{add-one}
use native.Mathlib.Omega.{arith}
use lib.ListN.{length, get_or, set}
use lib.Seq.{paste, paste-suc}

-- now is out with j bytes of s pasted in at `at`: a store of the next one makes it one more
pub turn : (out s now : List ℕ) (at j b : ℕ) → at + j < length out → j < length s → now ≡ paste out at s j → b ≡ get_or s j 0
    → set now (at + j) b ≡ paste out at s (j + 1)
turn out s now at j b h k p q =
    ap₂ (λ (l : List ℕ) (x : ℕ). set l (at + j) x) p q ∙ paste-suc out at s j 0 h k ∙ ap (paste out at s) (sym (add-one j))

-- the same at the front
pub turn_front : (out s now : List ℕ) (j b : ℕ) → j < length out → j < length s → now ≡ paste out 0 s j → b ≡ get_or s j 0
    → set now j b ≡ paste out 0 s (j + 1)
turn_front out s now j b h k p q = ap (λ (i : ℕ). set now i b) (sym (zero-add j)) ∙ turn out s now 0 j b (omega arith) k p q
