-- Where each live window and each waiting buffer lies in the domain's part, as in every domain that a run of calls reaches, a
-- buffer or a window that takes a message does.
use Prim.Native.Nat.{ℕ, ◌<◌}
use mathlib.Core.Path.{◌≡◌}
use Rattle.memory.specs.Window.{slot_named, found_in}
use Rattle.memory.proofs.Inside.{WindowsIn, BuffersIn, found-live}
use Rattle.domain.specs.Domain.{stream_at}
use Rattle.domain.specs.declared.Domain.{Domain}
use Rattle.delivery.specs.Promise.{Within, buffer_of, window_of}
use Rattle.std.specs.Prelude.{Ok}

pub buffer-within :
    (d : Domain) (slot : ℕ) → BuffersIn d.part (stream_at d slot).sends.buffers → 0 < (stream_at d slot).sends.buffers.count →
    Within d.part (buffer_of d slot).start (buffer_of d slot).len
buffer-within d slot all waits = let b = all 0 waits in record { from = b.0; upto = b.1 }

pub window-within :
    (d : Domain) (number stag : ℕ) → WindowsIn d.part d.windows → found_in (window_of d stag) number stag ≡ Ok (slot_named stag) →
    Within d.part (window_of d stag).place (window_of d stag).len
window-within d number stag all found =
    let w = all (slot_named stag) (found-live (window_of d stag) number stag (slot_named stag) found) in
    record { from = w.0; upto = w.1 }
