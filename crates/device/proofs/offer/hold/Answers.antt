-- `hold` meets its contract: what is gathered is what `gather` gives, and the count that is stored is exchanged.
use Prim.Native.Nat.{ℕ}
use mathlib.Core.Path.{ap, ◌∙◌}
use Rattle.rdmap.specs.Framing.{framing_holding}
use Rattle.rdmap.specs.Stream.{with_framing}
use Rattle.block.proofs.Stored.{framing_changed}
use Rattle.block.specs.Exchange.{stream_of, with_stream_of}
use Rattle.block.specs.Device.{rnic_at}
use borrow.Author.Rules.{rules}
use Rattle.device.proofs.offer.hold.Goals as goal

pub returns : goal.returns
returns c =
    let a = c.args in
    let w = a.words.now in (
      c.gather-g.ensures.0,
      framing_changed w c.store_framing.new.words a.at.domain a.at.domain_in_range (search rules) a.at.slot a.at.slot_in_range (record { crc = a.framing.crc; held = c.held_now.result }) c.store_framing.ensures.0 c.store_framing.ensures.1
          ∙ ap (λ (m : ℕ). with_stream_of (rnic_at w) a.at.domain a.at.slot (with_framing (stream_of (rnic_at w) a.at.domain a.at.slot) (framing_holding a.framing m))) c.held_now.ensures,
      c.gather-g.ensures.1,
    )
