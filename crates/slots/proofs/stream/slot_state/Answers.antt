-- `slot_state` meets its contract: the answer is that of the stream's own phase and counts.
use mathlib.Core.Path.{sym, ap, ◌∙◌}
use Rattle.rdmap.specs.Stream.{state_of}
use Rattle.rdmap.specs.declared.read.Reads.{Reads}
use Rattle.rdmap.specs.declared.sends.Sends.{Sends}
use Rattle.block.specs.declared.reads.Tally.{Tally}
use Rattle.block.specs.declared.sends.Head.{Head}
use Rattle.slots.proofs.Slots.{phase_of_lem, sends_of, reads_of}
use Rattle.slots.proofs.stream.slot_state.Goals as goal

pub returns : goal.returns
returns c =
    let w = c.args.words.now in
    let at = c.args.at in
    let hd = at.domain_in_range in
    let hj = at.slot_in_range in
    let phase = c.load_phase-phase.ensures ∙ sym (phase_of_lem w at.domain at.slot hd hj) in
    let buffers = ap (λ (x : Head). x.count) c.load_head-sends.ensures ∙ sym (ap (λ (x : Sends). x.buffers.count) (sends_of w at.domain at.slot hd hj)) in
    let reads = ap (λ (x : Tally). x.count) c.load_tally-reads.ensures ∙ sym (ap (λ (x : Reads). x.count) (reads_of w at.domain at.slot hd hj)) in
    c.state_of.ensures ∙ (λ i. state_of (phase i) (buffers i) (reads i))
