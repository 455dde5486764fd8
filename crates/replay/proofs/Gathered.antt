-- Bytes of answers that fit behind those that are gathered, that fit alone, and that do not; where a line ends.
-- Assumes nothing.
use Prim.Native.Nat.{ℕ, ◌+◌, ◌≤◌, ◌<◌}
use mathlib.Core.Path.{◌≡◌, sym, ap, ◌∙◌}
use mathlib.Core.List.{List, [], ◌++◌}
use native.Mathlib.Omega.{arith}
use lib.ListN.{length}
use borrow.Author.Tests.{le-leb, lt-leb}
use Rattle.script.specs.Text.{appended}
use Rattle.script.proofs.Appended.{appended_fit}
use Rattle.script.specs.Word.{not_newline, past}
use Rattle.running.proofs.Gathered.{end-within}
use Rattle.replay.specs.Output.{gathered}

module _ (room : ℕ) (out more after : List ℕ) where
  pub gathered-behind : length out + length more ≤ room → after ≡ appended room out more → after ≡ gathered room out more
  unfolding appended gathered
  gathered-behind h e = let f = le-leb (length out + length more) room h in rw f (rw f at e)

  pub gathered_alone : (cleared : List ℕ) → room < length out + length more → length more ≤ room → cleared ≡ [] → after ≡ appended room cleared more → after ≡ gathered room out more
  unfolding appended gathered
  gathered_alone cleared h k c e =
      let f = lt-leb (length out + length more) room h in
      let g = le-leb (length more) room k in
      let z : length cleared ≡ 0 = ap length c in
      rw (f, g) (e ∙ sym (appended_fit room cleared more (omega arith)) ∙ ap (λ (xs : List ℕ). xs ++ more) c)

  pub gathered_none : length out ≤ room → room < length more → after ≡ [] → after ≡ gathered room out more
  unfolding gathered
  gathered_none l k e =
      let f = lt-leb (length out + length more) room (omega arith) in
      let g = lt-leb (length more) room k in
      rw (f, g) e

-- a line that starts within a chunk ends within it
pub line_within : (chunk : List ℕ) (i e : ℕ) → i < length chunk → e ≡ past not_newline chunk i → e ≤ length chunk
line_within chunk i e h q = (end-within chunk i e h q).1
