-- What is known so far is that of the windows before i.
use mathlib.Core.Path.{◌≡◌}
use lib.ListN.{drop}
use Rattle.overlap.specs.Sharing.{either, windows_share}
use Rattle.slots.proofs.Windows.{windows_of}
use Rattle.slots.proofs.sharing.windows_share.Given as goal

abbrev pub invariant-loop-i : goal.invariant-loop-i
invariant-loop-i l = windows_share (windows_of l.words l.domain) l.place l.len ≡ either l.shared (windows_share (drop l.i (windows_of l.words l.domain)) l.place l.len)
