-- `apply` meets its contract: each arm places the payload and stores the groups that the verdict changes.
use Rattle.device.proofs.Applied.{told, refused, nothing, written, sent_more, sent-last, read_queued, terminated}
use Rattle.block.proofs.Stored.{phase_changed, sends_changed, reads_changed, terminates_changed}
use Rattle.block.specs.Exchange.{stream_of, with_stream_of, with_terminates}
use Rattle.block.specs.Device.{rnic_at}
use Rattle.arrival.specs.declared.Event.{Event}
use Rattle.arrival.specs.declared.Answer.TheVariants.{Taken}
use Rattle.rdmap.specs.declared.terminates.Terminates.{Terminates}
use Rattle.rdmap.specs.declared.sends.Sends.{Sends}
use Rattle.rdmap.specs.declared.read.Reads.{Reads}
use Rattle.rdmap.specs.declared.phase.Phase.{Phase}
use Rattle.rdmap.specs.Terminates.{risen_terminates}
use Rattle.rdmap.specs.Sends.{sending_sends, sent_sends}
use Rattle.rdmap.specs.Read.{queued_reads}
use Rattle.rdmap.specs.Stream.{in_phase, with_sends, with_reads}
use mathlib.Core.Path.{ap, ◌∙◌}
use borrow.Author.Rules.{rules}
use Rattle.device.proofs.apply.apply.Goals as goal
use Rattle.std.specs.Prelude.{Ok, Option}

pub kill-requires : goal.kill-requires
kill-requires c = c.args.stream.domain_in_range

pub returns-in-Err : goal.returns-in-Err
returns-in-Err c =
    let a = c.args in
    let w = a.words.now in
    let done = told w a.stream.domain a.stream.slot a.stream.domain_in_range a.stream.slot_in_range a.total a.from a.payload.now a.store.now c.end.new.words c.in-Err.is (refused w a.stream.domain a.stream.slot a.stream.domain_in_range a.stream.slot_in_range a.total a.from a.payload.now a.store.now c.in-Err.refusal c.end.new.words c.end.ensures.1) in
    (c.end.ensures.0 ∙ done.0, done.1, done.2)

pub returns-in-Ok-Nothing : goal.returns-in-Ok-Nothing
returns-in-Ok-Nothing c =
    let a = c.args in
    let w = a.words.now in
    let v = w in
    let done = told w a.stream.domain a.stream.slot a.stream.domain_in_range a.stream.slot_in_range a.total a.from a.payload.now a.store.now v (c.in-Ok-Nothing.is ∙ ap Ok (rw c.in-Ok-Nothing.is at c.in-Ok-Nothing.field-0-is)) (nothing w a.stream.domain a.stream.slot a.stream.domain_in_range a.stream.slot_in_range a.total a.from a.payload.now a.store.now) in
    (c.taken.ensures ∙ done.0, done.1, done.2)

pub returns-in-Ok-Write : goal.returns-in-Ok-Write
returns-in-Ok-Write c =
    let a = c.args in
    let w = a.words.now in
    let v = w in
    let done = told w a.stream.domain a.stream.slot a.stream.domain_in_range a.stream.slot_in_range a.total a.from a.payload.now a.store.now v (c.in-Ok-Write.is ∙ ap Ok (rw c.in-Ok-Write.is at c.in-Ok-Write.field-0-is)) (written w a.stream.domain a.stream.slot a.stream.domain_in_range a.stream.slot_in_range a.total a.from a.payload.now a.store.now c.in-Ok-Write.at) in
    (c.taken-in-Ok-Write.ensures ∙ done.0, done.1, c.place_from.ensures ∙ done.2)

pub returns-in-Ok-SendMore : goal.returns-in-Ok-SendMore
returns-in-Ok-SendMore c =
    let a = c.args in
    let w = a.words.now in
    let e = c.sending.ensures ∙ ap (λ (q : Sends). sending_sends q c.in-Ok-SendMore.opcode c.in-Ok-SendMore.count) c.load_sends-sends.ensures in
    let stored = sends_changed w c.store_sends.new.words a.stream.domain a.stream.domain_in_range (search rules) a.stream.slot a.stream.slot_in_range c.sending.result c.store_sends.ensures.0 c.store_sends.ensures.1 ∙ ap (λ (q : Sends). with_stream_of (rnic_at w) a.stream.domain a.stream.slot (with_sends (stream_of (rnic_at w) a.stream.domain a.stream.slot) q)) e in
    let done = told w a.stream.domain a.stream.slot a.stream.domain_in_range a.stream.slot_in_range a.total a.from a.payload.now a.store.now c.store_sends.new.words (c.in-Ok-SendMore.is ∙ ap Ok (rw c.in-Ok-SendMore.is at c.in-Ok-SendMore.field-0-is)) (sent_more w a.stream.domain a.stream.slot a.stream.domain_in_range a.stream.slot_in_range a.total a.from a.payload.now a.store.now c.in-Ok-SendMore.at c.in-Ok-SendMore.opcode c.in-Ok-SendMore.count c.store_sends.new.words stored) in
    (c.taken-in-Ok-SendMore.ensures ∙ done.0, done.1, c.place_from-in-Ok-SendMore.ensures ∙ done.2)

pub returns-in-Ok-SendLast : goal.returns-in-Ok-SendLast
returns-in-Ok-SendLast c =
    let a = c.args in
    let w = a.words.now in
    let e = c.sent.ensures ∙ ap sent_sends c.load_sends-sends-in-Ok-SendLast.ensures in
    let stored = sends_changed w c.store_sends-in-Ok-SendLast.new.words a.stream.domain a.stream.domain_in_range (search rules) a.stream.slot a.stream.slot_in_range c.sent.result c.store_sends-in-Ok-SendLast.ensures.0 c.store_sends-in-Ok-SendLast.ensures.1 ∙ ap (λ (q : Sends). with_stream_of (rnic_at w) a.stream.domain a.stream.slot (with_sends (stream_of (rnic_at w) a.stream.domain a.stream.slot) q)) e in
    let done = told w a.stream.domain a.stream.slot a.stream.domain_in_range a.stream.slot_in_range a.total a.from a.payload.now a.store.now c.kill.new.words (c.in-Ok-SendLast.is ∙ ap Ok (rw c.in-Ok-SendLast.is at c.in-Ok-SendLast.field-0-is)) (sent-last w a.stream.domain a.stream.slot a.stream.domain_in_range a.stream.slot_in_range a.total a.from a.payload.now a.store.now c.in-Ok-SendLast.at c.in-Ok-SendLast.opcode c.in-Ok-SendLast.start c.in-Ok-SendLast.len c.in-Ok-SendLast.which c.store_sends-in-Ok-SendLast.new.words c.kill.new.words stored c.kill.ensures) in
    (ap (λ (x : Option Event). Ok (Taken a.total x)) c.sent_event-event.ensures ∙ done.0, done.1, c.place_from-in-Ok-SendLast.ensures ∙ done.2)

pub returns-in-Ok-Read : goal.returns-in-Ok-Read
returns-in-Ok-Read c =
    let a = c.args in
    let w = a.words.now in
    let e = c.queued.ensures ∙ ap (λ (q : Reads). queued_reads q c.in-Ok-Read.read) c.load_reads-reads.ensures in
    let stored = reads_changed w c.store_reads.new.words a.stream.domain a.stream.domain_in_range (search rules) a.stream.slot a.stream.slot_in_range c.queued.result c.store_reads.ensures.0 c.store_reads.ensures.1 ∙ ap (λ (q : Reads). with_stream_of (rnic_at w) a.stream.domain a.stream.slot (with_reads (stream_of (rnic_at w) a.stream.domain a.stream.slot) q)) e in
    let done = told w a.stream.domain a.stream.slot a.stream.domain_in_range a.stream.slot_in_range a.total a.from a.payload.now a.store.now c.store_reads.new.words (c.in-Ok-Read.is ∙ ap Ok (rw c.in-Ok-Read.is at c.in-Ok-Read.field-0-is)) (read_queued w a.stream.domain a.stream.slot a.stream.domain_in_range a.stream.slot_in_range a.total a.from a.payload.now a.store.now c.in-Ok-Read.read c.store_reads.new.words stored) in
    (c.taken-in-Ok-Read.ensures ∙ done.0, done.1, done.2)

pub returns-in-Ok-Terminate : goal.returns-in-Ok-Terminate
returns-in-Ok-Terminate c =
    let a = c.args in
    let w = a.words.now in
    let phased = phase_changed w c.store_phase.new.words a.stream.domain a.stream.domain_in_range (search rules) a.stream.slot a.stream.slot_in_range c.phase_of.result c.store_phase.ensures.0 c.store_phase.ensures.1 ∙ ap (λ (p : Phase). with_stream_of (rnic_at w) a.stream.domain a.stream.slot (in_phase (stream_of (rnic_at w) a.stream.domain a.stream.slot) p)) c.phase_of.ensures in
    let e = c.risen.ensures ∙ ap risen_terminates c.load_terminates-terminates.ensures in
    let stored = terminates_changed c.store_phase.new.words c.store_terminates.new.words a.stream.domain a.stream.domain_in_range (search rules) a.stream.slot a.stream.slot_in_range c.risen.result c.store_terminates.ensures.0 c.store_terminates.ensures.1 ∙ ap (λ (q : Terminates). with_stream_of (rnic_at c.store_phase.new.words) a.stream.domain a.stream.slot (with_terminates (stream_of (rnic_at c.store_phase.new.words) a.stream.domain a.stream.slot) q)) e in
    let done = told w a.stream.domain a.stream.slot a.stream.domain_in_range a.stream.slot_in_range a.total a.from a.payload.now a.store.now c.store_terminates.new.words (c.in-Ok-Terminate.is ∙ ap Ok (rw c.in-Ok-Terminate.is at c.in-Ok-Terminate.field-0-is)) (terminated w a.stream.domain a.stream.slot a.stream.domain_in_range a.stream.slot_in_range a.total a.from a.payload.now a.store.now c.in-Ok-Terminate.layer c.in-Ok-Terminate.etype c.in-Ok-Terminate.code c.store_phase.new.words c.store_terminates.new.words phased stored) in
    (done.0, done.1, done.2)
