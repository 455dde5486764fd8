-- `receive_first` meets its contract: each arm has what `segment_read` gives, whose payload lies in the bytes; the callees give the verdict, and what it makes of the bytes and of the stream.
use Rattle.ddp.specs.declared.header.TaggedHeader.{TaggedHeader}
use Rattle.wire.specs.Wire.{part}
use Rattle.device.specs.Lifted.{OfTagged}
use Rattle.device.proofs.Received.{first_told}
use Rattle.device.proofs.Applied.{told, refused, of_tagged, counted-then, ended_uncounted}
use Rattle.slots.proofs.Slots.{stream-kept}
use Rattle.block.proofs.Stored.{window_at_lem}
use Rattle.block.specs.Exchange.{stream_of}
use Rattle.block.specs.Device.{rnic_at, loaded_window}
use Rattle.rnic.specs.Rnic.{domain_at}
use Rattle.arrival.proofs.Inside.{lent, inside}
use Rattle.arrival.specs.Parts.{tagged_verdict, parts_applied, applied_bytes}
use Rattle.rdmap.specs.declared.message.Verdict.{Verdict}
use Rattle.rdmap.specs.Sends.{current_buffer}
use Rattle.rdmap.specs.Message.{stag_named, queue_of, untagged_verdict}
use Rattle.memory.specs.Window.{window_at, slot_named}
use Rattle.ddp.specs.declared.header.UntaggedHeader.{UntaggedHeader}
use Rattle.ddp.specs.Untagged.{untagged_of}
use Rattle.memory.specs.declared.window.Window.{Window}
use lib.ListN.{length}
use native.Mathlib.Omega.{arith}
use mathlib.Core.List.{List}
use mathlib.Core.Path.{◌≡◌, refl, sym, ap, subst, ◌∙◌}
use Prim.Native.Nat.{ℕ}
use Rattle.ddp.specs.declared.segment.SegmentRead.TheVariants.{Tagged as TaggedSegment, Untagged as UntaggedSegment}
use borrow.Author.Rules.{rules}
use Rattle.device.proofs.receive.receive_first.Goals as goal
use Rattle.std.specs.Prelude.{Err, Ok, Result}
use Rattle.ddp.specs.declared.refusal.Refusal.{Refusal}

-- what an untagged segment of this payload is judged to be
abbrev judged_by : List ℕ → ℕ → ℕ → UntaggedHeader → List ℕ → Result Verdict Refusal
judged_by w d j h payload =
    untagged_verdict (window_at (domain_at (rnic_at w) d).windows (slot_named (stag_named h payload))) d (stream_of (rnic_at w) d j).sends.opcode (current_buffer (stream_of (rnic_at w) d j).sends) h payload
    (untagged_of (queue_of (stream_of (rnic_at w) d j) h.qn) h.qn h.msn h.mo (length payload))

-- a tagged segment is judged by the window that it names
abbrev tagged_by : List ℕ → ℕ → TaggedHeader → ℕ → Result Verdict Refusal
tagged_by w d h len = tagged_verdict (window_at (domain_at (rnic_at w) d).windows (slot_named h.stag)) d h len

pub overflow_add-end : goal.overflow_add-end
overflow_add-end c = omega (arith, inside _ _ _ (sym (c.in-Ok-Tagged.is ∙ ap Ok c.in-Ok-Tagged.field-0-is) ∙ c.read_segment.ensures))

pub slice_bounds-payload-end : goal.slice_bounds-payload-end
slice_bounds-payload-end c = omega (arith, inside _ _ _ (sym (c.in-Ok-Tagged.is ∙ ap Ok c.in-Ok-Tagged.field-0-is) ∙ c.read_segment.ensures))

pub apply_tagged-done-requires : goal.apply_tagged-done-requires
apply_tagged-done-requires c = subst OfTagged (sym ((let it : c.judge_tagged_segment-verdict.result ≡ tagged_by c.args.words.now c.args.at.domain c.in-Ok-Tagged.header c.in-Ok-Tagged.len = let a = c.args in let window = c.load_window-w.ensures ∙ ap (loaded_window a.words.now a.at.domain) c.slot_named.ensures ∙ sym (window_at_lem a.words.now a.at.domain c.args.at.domain_in_range (slot_named c.in-Ok-Tagged.header.stag) (search rules)) in c.judge_tagged_segment-verdict.ensures ∙ ap (λ (x : Window). tagged_verdict x a.at.domain c.in-Ok-Tagged.header c.in-Ok-Tagged.len) window in it))) (of_tagged _ _ c.in-Ok-Tagged.header _)

pub overflow_add-end-in-Ok-Untagged : goal.overflow_add-end-in-Ok-Untagged
overflow_add-end-in-Ok-Untagged c = omega (arith, inside _ _ _ (sym (c.in-Ok-Untagged.is ∙ ap Ok c.in-Ok-Untagged.field-0-is) ∙ c.read_segment.ensures))

pub slice_bounds-payload-end-in-Ok-Untagged : goal.slice_bounds-payload-end-in-Ok-Untagged
slice_bounds-payload-end-in-Ok-Untagged c = omega (arith, inside _ _ _ (sym (c.in-Ok-Untagged.is ∙ ap Ok c.in-Ok-Untagged.field-0-is) ∙ c.read_segment.ensures))

pub returns-in-Ok-Wait : goal.returns-in-Ok-Wait
returns-in-Ok-Wait c =
    let a = c.args in
    first_told a.words.now a.at.domain a.at.slot a.part a.bytes.now a.store.now a.words.now
    (sym (c.in-Ok-Wait.is ∙ ap Ok c.in-Ok-Wait.field-0-is) ∙ c.read_segment.ensures)
    (refl, sym (stream-kept (rnic_at a.words.now) a.at.domain a.at.slot), refl)

pub returns-in-Err : goal.returns-in-Err
returns-in-Err c =
    let a = c.args in
    let done = refused a.words.now a.at.domain a.at.slot a.at.domain_in_range a.at.slot_in_range 0 a.part.start a.bytes.now a.store.now c.in-Err.refusal c.end.new.words c.end.ensures.1 in
    first_told a.words.now a.at.domain a.at.slot a.part a.bytes.now a.store.now c.end.new.words
    (sym c.in-Err.is ∙ c.read_segment.ensures)
    (c.end.ensures.0 ∙ done.0, done.1 ∙ ended_uncounted (rnic_at a.words.now) a.at.domain a.at.slot (parts_applied (stream_of (rnic_at a.words.now) a.at.domain a.at.slot) 0 (Err c.in-Err.refusal)) (Err c.in-Err.refusal) c.in-Err.refusal done.0, refl)

pub returns-in-Ok-Tagged : goal.returns-in-Ok-Tagged
returns-in-Ok-Tagged c =
    let a = c.args in
    let w = a.words.now in
    let e = (let it : c.judge_tagged_segment-verdict.result ≡ tagged_by c.args.words.now c.args.at.domain c.in-Ok-Tagged.header c.in-Ok-Tagged.len = let a = c.args in let window = c.load_window-w.ensures ∙ ap (loaded_window a.words.now a.at.domain) c.slot_named.ensures ∙ sym (window_at_lem a.words.now a.at.domain a.at.domain_in_range (slot_named c.in-Ok-Tagged.header.stag) (search rules)) in c.judge_tagged_segment-verdict.ensures ∙ ap (λ (x : Window). tagged_verdict x a.at.domain c.in-Ok-Tagged.header c.in-Ok-Tagged.len) window in it) in
    let l = lent a.bytes.now c.in-Ok-Tagged.start c.in-Ok-Tagged.len in
    let done = told w a.at.domain a.at.slot a.at.domain_in_range a.at.slot_in_range c.in-Ok-Tagged.total a.part.start _ a.store.now c.apply_tagged-done.new.words (sym e) c.apply_tagged-done.ensures in
    first_told a.words.now a.at.domain a.at.slot a.part a.bytes.now a.store.now c.count_taken.new.words
    (sym (c.in-Ok-Tagged.is ∙ ap Ok c.in-Ok-Tagged.field-0-is) ∙ c.read_segment.ensures)
    (done.0, counted-then w c.apply_tagged-done.new.words c.count_taken.new.words a.at.domain a.at.slot a.at.domain_in_range (parts_applied (stream_of (rnic_at a.words.now) a.at.domain a.at.slot) c.in-Ok-Tagged.total (tagged_by w a.at.domain c.in-Ok-Tagged.header c.in-Ok-Tagged.len)) (Ok (TaggedSegment c.in-Ok-Tagged.total c.in-Ok-Tagged.header c.in-Ok-Tagged.start c.in-Ok-Tagged.len)) done.1 c.apply_tagged-done.result done.0 c.in-Ok-Tagged.len refl c.count_taken.ensures, done.2 ∙ ap (λ (payload : List ℕ). applied_bytes a.part.start (tagged_by w a.at.domain c.in-Ok-Tagged.header c.in-Ok-Tagged.len) payload a.store.now) l)

pub returns-in-Ok-Untagged : goal.returns-in-Ok-Untagged
returns-in-Ok-Untagged c =
    let a = c.args in
    let w = a.words.now in
    let l = lent a.bytes.now c.in-Ok-Untagged.start c.in-Ok-Untagged.len in
    let e = c.judge_untagged-verdict.ensures ∙ ap (judged_by w a.at.domain a.at.slot c.in-Ok-Untagged.header) l in
    let done = told w a.at.domain a.at.slot a.at.domain_in_range a.at.slot_in_range c.in-Ok-Untagged.total a.part.start _ a.store.now c.apply-done.new.words (sym e) c.apply-done.ensures in
    first_told a.words.now a.at.domain a.at.slot a.part a.bytes.now a.store.now c.count_taken-in-Ok-Untagged.new.words
    (sym (c.in-Ok-Untagged.is ∙ ap Ok c.in-Ok-Untagged.field-0-is) ∙ c.read_segment.ensures)
    (done.0, counted-then w c.apply-done.new.words c.count_taken-in-Ok-Untagged.new.words a.at.domain a.at.slot a.at.domain_in_range (parts_applied (stream_of (rnic_at a.words.now) a.at.domain a.at.slot) c.in-Ok-Untagged.total (judged_by w a.at.domain a.at.slot c.in-Ok-Untagged.header (part a.bytes.now c.in-Ok-Untagged.start c.in-Ok-Untagged.len))) (Ok (UntaggedSegment c.in-Ok-Untagged.total c.in-Ok-Untagged.header c.in-Ok-Untagged.start c.in-Ok-Untagged.len)) done.1 c.apply-done.result done.0 c.placed_of.result c.placed_of.ensures c.count_taken-in-Ok-Untagged.ensures, done.2 ∙ ap (λ (payload : List ℕ). applied_bytes a.part.start (judged_by w a.at.domain a.at.slot c.in-Ok-Untagged.header (part a.bytes.now c.in-Ok-Untagged.start c.in-Ok-Untagged.len)) payload a.store.now) l)
