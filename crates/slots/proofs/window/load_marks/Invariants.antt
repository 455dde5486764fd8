-- The marks so far are those of the last i windows.
use Prim.Native.Nat.{◌-◌}
use mathlib.Core.Path.{◌≡◌}
use lib.ListN.{drop}
use Rattle.memory.specs.Marks.{live_marks}
use Rattle.slots.proofs.Windows.{windows_of}
use Rattle.slots.proofs.window.load_marks.Given as goal

abbrev pub invariant-loop-i : goal.invariant-loop-i
invariant-loop-i l = l.marks ≡ live_marks (drop (16 - l.i) (windows_of l.words l.domain))
