-- The words of an answer: word 0 says its kind, the next ones are its numbers, and those that are left are 0.
use Rattle.std.specs.Prelude.{ℕ, ◌-◌, List, [], ◌∷◌, set, get_or, leb, eqb}
use Rattle.wire.specs.Wire.{pick, both}
use Rattle.ddp.specs.declared.refusal.Refusal.{Refusal}
use Rattle.arrival.specs.declared.Event.{Event}
use Rattle.arrival.specs.declared.Event.TheVariants.{Sent, SentInvalidating, Terminated}
use Rattle.arrival.specs.declared.Answer.{Answer}
use Rattle.arrival.specs.declared.Answer.TheVariants.{Wait, Taken, Ended}
use Rattle.holding.specs.declared.OfferAnswer.{OfferAnswer}
use Rattle.holding.specs.declared.OfferAnswer.TheVariants.{Kept, Completed, Ended as OfferEnded}
use Rattle.meter.specs.Words.{level_bits}
use Rattle.meter.specs.declared.gauge.Reading.TheVariants.{Quiet, Steady, Falling}
use Rattle.std.specs.Prelude.{Err, None, Ok, Option, Result, Some, ⊤}
use Rattle.meter.specs.declared.gauge.Reading.{Reading}
use Rattle.rdmap.specs.declared.read.ReadRequest.{ReadRequest}
use Rattle.rdmap.specs.declared.stream.Left.{Left}
use Rattle.rdmap.specs.declared.stream.State.{State}
use Rattle.rdmap.specs.declared.stream.State.TheVariants.{Closed as StateClosed, Ended as StateEnded, Open as StateOpen, Terminated as StateTerminated}
use Rattle.wire.specs.declared.refusal.LocalRefusal.{LocalRefusal}
use Rattle.wire.specs.Refusal.{refusal_number}

abbrev pub words : ℕ → ℕ → ℕ → ℕ → ℕ → ℕ → List ℕ
words kind a b c d e = kind ∷ a ∷ b ∷ c ∷ d ∷ e ∷ 0 ∷ 0 ∷ []

-- 0: a local refusal, by its number
abbrev pub refused_words : LocalRefusal → List ℕ
refused_words refusal = words 0 (refusal_number refusal) 0 0 0 0

-- 1: done
abbrev pub outcome_words : Result ⊤ LocalRefusal → List ℕ
outcome_words (Ok tt) = words 1 0 0 0 0 0
outcome_words (Err refusal) = refused_words refusal

-- 2: closed, with the buffers that were not finished and the reads that were not taken
abbrev pub close_words : Result Left LocalRefusal → List ℕ
close_words (Ok left) = words 2 left.buffers left.reads 0 0 0
close_words (Err refusal) = refused_words refusal

-- 3: a read
abbrev pub take_words : Result ReadRequest LocalRefusal → List ℕ
take_words (Ok r) = words 3 r.sink_stag r.sink_to r.size r.source_stag r.source_to
take_words (Err refusal) = refused_words refusal

-- 4: a count
abbrev pub count_words : Result ℕ LocalRefusal → List ℕ
count_words (Ok n) = words 4 n 0 0 0 0
count_words (Err refusal) = refused_words refusal

-- a gauge reads as quiet (12), steady with the bits of its level (13), or falling with those of level and peak (14)
abbrev pub reading_words : Result Reading LocalRefusal → List ℕ
reading_words (Ok Quiet) = words 12 0 0 0 0 0
reading_words (Ok (Steady level)) = words 13 (level_bits level) 0 0 0 0
reading_words (Ok (Falling level peak)) = words 14 (level_bits level) (level_bits peak) 0 0 0
reading_words (Err refusal) = refused_words refusal

-- 15: a stream's state, 0 closed, 1 open, 2 ended by a refusal of the peer's bytes, 3 ended by the peer's Terminate; then the
-- buffers and the reads that wait on it; then of 2 the refusal's four numbers
abbrev pub state_words : Result State LocalRefusal → List ℕ
state_words (Ok StateClosed) = words 15 0 0 0 0 0
state_words (Ok (StateOpen buffers reads)) = words 15 1 buffers reads 0 0
state_words (Ok (StateEnded r buffers reads)) = 15 ∷ 2 ∷ buffers ∷ reads ∷ r.number ∷ r.layer ∷ r.etype ∷ r.code ∷ []
state_words (Ok (StateTerminated buffers reads)) = words 15 3 buffers reads 0 0
state_words (Err refusal) = refused_words refusal

-- an FPDU is taken: 6 with no event, 7 a Send, 8 a Send that invalidated an STag, 9 a Terminate
abbrev pub event_words : ℕ → Option Event → List ℕ
event_words total None = words 6 total 0 0 0 0
event_words total (Some (Sent start len opcode)) = words 7 total start len opcode 0
event_words total (Some (SentInvalidating start len opcode stag)) = words 8 total start len opcode stag
event_words total (Some (Terminated layer etype code)) = words 9 total layer etype code 0

-- 10: a refusal of the peer's bytes
abbrev pub ended_words : Refusal → List ℕ
ended_words r = words 10 r.number r.layer r.etype r.code 0

-- 5: how many bytes to wait for
abbrev pub answer_words : Result Answer LocalRefusal → List ℕ
answer_words (Ok (Wait n)) = words 5 n 0 0 0 0
answer_words (Ok (Taken total event)) = event_words total event
answer_words (Ok (Ended r)) = ended_words r
answer_words (Err refusal) = refused_words refusal

-- word 6: how many of an offer's bytes it took
abbrev pub took_words : List ℕ → ℕ → List ℕ
took_words ws n = set ws 6 n

-- 11: all of an offer's bytes are held; the other kinds are receive's
abbrev pub offer_words : Result OfferAnswer LocalRefusal → List ℕ
offer_words (Ok (Kept n)) = took_words (words 11 0 0 0 0 0) n
offer_words (Ok (Completed taken total event)) = took_words (event_words total event) taken
offer_words (Ok (OfferEnded r)) = ended_words r
offer_words (Err refusal) = refused_words refusal

-- and of receive's words for the pending bytes, of which so many were held before, the words of an offer of `count` bytes: `offered-words` in
-- proofs/Offered.antt
unfoldable pub offered_words : List ℕ → ℕ → ℕ → List ℕ
offered_words ws held count =
    pick (eqb (get_or ws 0 0) 5) (took_words (words 11 0 0 0 0 0) count)
    (pick (both (leb 6 (get_or ws 0 0)) (leb (get_or ws 0 0) 9)) (took_words ws (get_or ws 1 0 - held)) ws)
