-- `judge_untagged` meets its contract: what was loaded is the stream's and the window that the segment names.
use Rattle.slots.proofs.Slots.{sends_of}
use Rattle.block.proofs.Stored.{window_at_lem}
use Rattle.block.specs.Device.{loaded_window}
use Rattle.block.specs.Queue.{head_of}
use Rattle.rdmap.specs.Message.{stag_named, untagged_verdict}
use Rattle.ddp.specs.Untagged.{untagged_of}
use Rattle.memory.specs.Window.{slot_named}
use lib.ListN.{length}
use mathlib.Core.Path.{sym, ap, ◌∙◌}
use borrow.Author.Rules.{rules}
use Rattle.device.proofs.judge.judge_untagged.Goals as goal

pub queue_of-q-requires : goal.queue_of-q-requires
queue_of-q-requires c =
    let a = c.args in
    c.load_head-head.ensures ∙ ap head_of (sym (sends_of a.words.now a.at.domain a.at.slot a.at.domain_in_range a.at.slot_in_range))

pub returns : goal.returns
returns c =
    let a = c.args in
    let w = a.words.now in
    let payload = a.payload.now in
    let p = c.load_head-head.ensures ∙ ap head_of (sym (sends_of w a.at.domain a.at.slot a.at.domain_in_range a.at.slot_in_range)) in
    let n = c.slot_named.ensures ∙ ap slot_named c.stag_named.ensures in
    let window = c.load_window-w.ensures ∙ ap (loaded_window w a.at.domain) n ∙ sym (window_at_lem w a.at.domain a.at.domain_in_range (slot_named (stag_named a.h payload)) (search rules)) in
    c.judge_untagged_segment.ensures
    ∙ (λ i. untagged_verdict (window i) a.at.domain (p i).opcode (p i).buffer a.h payload (untagged_of (c.queue_of-q.ensures i) a.h.qn a.h.msn a.h.mo (length payload)))
