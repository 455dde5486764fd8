-- A stream's record, in groups, and what the calls on it do. Each definition changes one group and names the others whole.
use Rattle.std.specs.Prelude.{ℕ, Bool, [], eqb, Err, Ok, Result, ⊤}
use Rattle.wire.specs.Wire.{pick}
use Rattle.memory.specs.declared.part.Part.{Part}
use Rattle.ddp.specs.declared.refusal.Refusal.{Refusal}
use Rattle.rdmap.specs.Phase.{phase_of, ended_phase, is_closed, readiness}
use Rattle.rdmap.specs.Framing.{no_framing, new_framing, framing_holding}
use Rattle.rdmap.specs.Sends.{empty_sends, posted_sends, sending_sends, sent_sends}
use Rattle.rdmap.specs.Read.{empty_reads, first_read, queued_reads, popped_reads}
use Rattle.rdmap.specs.Terminates.{empty_terminates, risen_terminates}
use Rattle.rdmap.specs.declared.framing.Framing.{Framing}
use Rattle.rdmap.specs.declared.phase.Phase.{Phase}
use Rattle.rdmap.specs.declared.read.ReadRequest.{ReadRequest}
use Rattle.rdmap.specs.declared.read.Reads.{Reads}
use Rattle.rdmap.specs.declared.sends.Sends.{Sends}
use Rattle.rdmap.specs.declared.stream.Stream.{Stream}
use Rattle.rdmap.specs.declared.stream.State.{State}
use Rattle.rdmap.specs.declared.stream.State.TheVariants.{Closed as StateClosed, Ended as StateEnded, Open as StateOpen, Terminated as StateTerminated}
use Rattle.wire.specs.declared.refusal.LocalRefusal.{LocalRefusal}
use Rattle.wire.specs.declared.refusal.LocalRefusal.TheVariants.{AlreadyOpen, NoReadWaits, NotOpen}
use Rattle.rdmap.specs.declared.stream.Left.{Left}

-- past the last stream, of which nothing is asked: as an array's default, its own arrays are empty
abbrev pub no_stream : Stream
no_stream = record {
  phase = phase_of 0;
  framing = no_framing;
  sends = record { msn = 0; opcode = 0; taken = 0; buffers = record { count = 0; entries = [] } };
  reads = record { msn = 0; count = 0; entries = [] };
  terminates = record { msn = 0 };
}

-- a closed stream is all zeros
abbrev pub closed_stream : Stream
closed_stream = record { phase = phase_of 0; framing = no_framing; sends = empty_sends 0; reads = empty_reads 0; terminates = empty_terminates 0 }

-- "Each queue's MSN starts at 1"; "a stream opened again starts afresh"
abbrev pub opened_stream : Bool → Stream
opened_stream crc = record { phase = phase_of 1; framing = new_framing crc; sends = empty_sends 1; reads = empty_reads 1; terminates = empty_terminates 1 }

-- ---- one group exchanged

abbrev pub in_phase : Stream → Phase → Stream
in_phase s phase = record { phase = phase; framing = s.framing; sends = s.sends; reads = s.reads; terminates = s.terminates }

abbrev pub with_sends : Stream → Sends → Stream
with_sends s sends = record { phase = s.phase; framing = s.framing; sends = sends; reads = s.reads; terminates = s.terminates }

abbrev pub with_reads : Stream → Reads → Stream
with_reads s reads = record { phase = s.phase; framing = s.framing; sends = s.sends; reads = reads; terminates = s.terminates }

abbrev pub with_framing : Stream → Framing → Stream
with_framing s framing = record { phase = s.phase; framing = framing; sends = s.sends; reads = s.reads; terminates = s.terminates }

-- the stream, holding n bytes of an FPDU that is not complete
abbrev pub holding : Stream → ℕ → Stream
holding s n = with_framing s (framing_holding s.framing n)

-- ---- calls

-- opening: 4 already open
unfoldable pub opened : Stream → Bool → (Result ⊤ LocalRefusal × Stream)
opened s crc =
    pick (is_closed s.phase) (Ok tt, opened_stream crc)
    (Err AlreadyOpen, s)

-- "Close gives the numbers of unfinished buffers and of untaken reads, and empties both"; 3 stream not open
unfoldable pub closed : Stream → (Result Left LocalRefusal × Stream)
closed s =
    pick (is_closed s.phase) (Err NotOpen, s)
    (Ok (record { buffers = s.sends.buffers.count; reads = s.reads.count }), closed_stream)

-- posting: 3, 5, and then 9 and 10
abbrev pub posted_with : Stream → (Result ⊤ LocalRefusal × Sends) → (Result ⊤ LocalRefusal × Stream)
posted_with s p = (p.0, with_sends s p.1)

abbrev pub posted_when : Stream → Part → ℕ → ℕ → Result ⊤ LocalRefusal → (Result ⊤ LocalRefusal × Stream)
posted_when s part start len (Ok tt) = posted_with s (posted_sends s.sends part start len)
posted_when s part start len (Err k) = (Err k, s)

unfoldable pub posted_on : Stream → Part → ℕ → ℕ → (Result ⊤ LocalRefusal × Stream)
posted_on s part start len = posted_when s part start len (readiness s.phase)

-- taking a read: 3, 5, 11 no read waits; "gives the oldest"
abbrev pub taken_when : Stream → Result ⊤ LocalRefusal → (Result ReadRequest LocalRefusal × Stream)
taken_when s (Ok tt) =
    pick (eqb s.reads.count 0) (Err NoReadWaits, s)
    (Ok (first_read s.reads), with_reads s (popped_reads s.reads))
taken_when s (Err k) = (Err k, s)

unfoldable pub taken_from : Stream → (Result ReadRequest LocalRefusal × Stream)
taken_from s = taken_when s (readiness s.phase)

-- ---- a question, which changes nothing

-- the state of a stream in a phase, with what waits on it: buffers that are not finished, the one in fill included, and reads that
-- are not taken, as close counts them. Nothing waits on a closed stream
unfoldable pub state_of : Phase → ℕ → ℕ → State
state_of p buffers reads =
    pick (eqb p.state 0) StateClosed
    (pick (eqb p.state 1) (StateOpen buffers reads)
    (pick (eqb p.state 2) (StateEnded p.refusal buffers reads)
    (StateTerminated buffers reads)))

abbrev pub state_in : Stream → State
state_in s = state_of s.phase s.sends.buffers.count s.reads.count

-- ---- what a segment that was judged makes of it

-- "this stream ends and keeps the code"
abbrev pub ended_by : Stream → Refusal → Stream
ended_by s r = in_phase s (ended_phase r)

-- "Terminate: the stream ends"
abbrev pub terminated_by : Stream → Stream
terminated_by s = record { phase = phase_of 3; framing = s.framing; sends = s.sends; reads = s.reads; terminates = risen_terminates s.terminates }

-- a Send goes on
abbrev pub sending_on : Stream → ℕ → ℕ → Stream
sending_on s opcode taken = with_sends s (sending_sends s.sends opcode taken)

-- a Send is complete
abbrev pub sent_on : Stream → Stream
sent_on s = with_sends s (sent_sends s.sends)

-- "Read Request: queued"
abbrev pub queued_on : Stream → ReadRequest → Stream
queued_on s read = with_reads s (queued_reads s.reads read)
