-- What is known so far is that of the streams before i.
use mathlib.Core.Path.{◌≡◌}
use lib.ListN.{drop}
use Rattle.overlap.specs.Sharing.{either, streams_share}
use Rattle.slots.proofs.Shared.{streams_of}
use Rattle.slots.proofs.sharing.streams_share.Given as goal

abbrev pub invariant-loop-i : goal.invariant-loop-i
invariant-loop-i l = streams_share (streams_of l.words l.domain) l.place l.len ≡ either l.shared (streams_share (drop l.i (streams_of l.words l.domain)) l.place l.len)
