-- `slot_shares` meets its contract: the sends are the stream's, and where none waits nothing is shared.
use mathlib.Core.Path.{sym, ap, ◌∙◌}
use Rattle.overlap.specs.Sharing.{waiting, buffers_share}
use Rattle.block.specs.declared.sends.Head.{Head}
use Rattle.rdmap.specs.declared.sends.Sends.{Sends}
use Rattle.slots.proofs.Slots.{sends_of}
use Rattle.slots.proofs.Shared.{none-waiting}
use Rattle.slots.proofs.sharing.slot_shares.Goals as goal

pub returns-then-head-eq0 : goal.returns-then-head-eq0
returns-then-head-eq0 c =
    let a = c.args in
    let same = sends_of a.words.now a.at.domain a.at.slot a.at.domain_in_range a.at.slot_in_range in
    sym (none-waiting _ a.place a.len (ap (λ (x : Sends). x.buffers.count) same ∙ sym (ap (λ (x : Head). x.count) c.load_head-head.ensures) ∙ c.if-head-eq0.true))

pub returns : goal.returns
returns c =
    let a = c.args in
    let same = sends_of a.words.now a.at.domain a.at.slot a.at.domain_in_range a.at.slot_in_range in
    c.buffers_share.ensures ∙ ap (λ (x : Sends). buffers_share (waiting x.buffers) a.place a.len) (c.load_sends-sends.ensures ∙ sym same)
