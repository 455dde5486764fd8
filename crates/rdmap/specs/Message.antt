-- Messages: what a segment that DDP let pass is judged to be, by rules 33 to 38 in their order.
use Rattle.std.specs.Prelude.{ℕ, ◌+◌, ◌/◌, ◌%◌, Bool, true, List, length, get_or, leb, eqb, Err, None, Ok, Option, Result, Some, ⊤}
use Rattle.wire.specs.Wire.{pick, both, be32_at}
use Rattle.memory.specs.Window.{found_in, spanned}
use Rattle.memory.specs.declared.buffer.Buffer.{Buffer}
use Rattle.ddp.specs.declared.header.UntaggedHeader.{UntaggedHeader}
use Rattle.ddp.specs.declared.untagged.Queue.{Queue}
use Rattle.memory.specs.declared.window.Window.{Window}
use Rattle.rdmap.specs.Sends.{send_queue}
use Rattle.rdmap.specs.Read.{request_at, read_queue}
use Rattle.rdmap.specs.Terminates.{terminate_queue}
use Rattle.rdmap.specs.Refusal.{rdmap_version, unexpected_opcode, no_write_right, invalidate_foreign, invalidate_missing, malformed, source_foreign, source_missing, source_wrap, source_bounds, no_read_right}
use Rattle.rdmap.specs.declared.message.Verdict.{Verdict}
use Rattle.rdmap.specs.declared.message.Verdict.TheVariants.{Nothing, Write, SendMore, SendLast, Read, Terminate}
use Rattle.rdmap.specs.declared.read.ReadRequest.{ReadRequest}
use Rattle.rdmap.specs.declared.stream.Stream.{Stream}
use Rattle.ddp.specs.declared.refusal.Refusal.{Refusal}
use Rattle.memory.specs.declared.window.SpanFault.{SpanFault}
use Rattle.memory.specs.declared.window.SpanFault.TheVariants.{Outside, Wrap}
use Rattle.memory.specs.declared.window.StagFault.{StagFault}
use Rattle.memory.specs.declared.window.StagFault.TheVariants.{Foreign, Missing}

-- "RDMAP control: version in the top two bits, which is 1; opcode in the low four"
abbrev pub opcode_of : ℕ → ℕ
opcode_of control = control % 16

-- 33 RDMAP version; 34 the opcode doesn't fit
abbrev pub controlled : ℕ → Bool → Result ⊤ Refusal
controlled control fits =
    pick (eqb (control / 64) 1) (pick fits (Ok tt) (Err unexpected_opcode)) (Err rdmap_version)

-- what is judged further where the control byte is valid
abbrev pub after : Result ⊤ Refusal → Result Verdict Refusal → Result Verdict Refusal
after (Ok tt) v = v
after (Err r) v = Err r

-- ---- tagged segments

-- "rights: 1 write, 2 read, 3 both"
abbrev pub may_write : Window → Bool
may_write w = eqb (w.rights % 2) 1

abbrev pub may_read : Window → Bool
may_read w = leb 2 w.rights

-- "0 Write (tagged)"; "2 Read Response isn't expected here yet"; 35 is asked of payloads from 1 byte
abbrev pub write_verdict : Window → ℕ → Result (Option ℕ) Refusal → Result Verdict Refusal
write_verdict w control (Err r) = Err r
write_verdict w control (Ok None) = after (controlled control (eqb (opcode_of control) 0)) (Ok Nothing)
write_verdict w control (Ok (Some place)) =
    after (controlled control (eqb (opcode_of control) 0)) (pick (may_write w) (Ok (Write place)) (Err no_write_right))

-- ---- untagged segments

-- the STag that an untagged segment names: a Read Request's source STag, else the header's. It is judged by the window w in the slot of it
abbrev pub stag_named : UntaggedHeader → List ℕ → ℕ
stag_named h payload = pick (both (eqb h.qn 1) (eqb (length payload) 28)) (be32_at payload 16) h.stag

-- "3 Send, 4 Send with Invalidate, 5 Send with SE, 6 Send with SE and Invalidate, queue 0", the same as in the message's earlier segments; "1 Read Request, queue 1"; "7 Terminate, queue 2"
abbrev pub is_send : ℕ → Bool
is_send opcode = both (leb 3 opcode) (leb opcode 6)

abbrev pub goes_on : ℕ → ℕ → Bool
goes_on under opcode = pick (eqb under 0) true (eqb under opcode)

abbrev pub fits_queue : ℕ → ℕ → ℕ → Bool
fits_queue qn under opcode =
    pick (eqb qn 0) (both (is_send opcode) (goes_on under opcode)) (pick (eqb qn 1) (eqb opcode 1) (eqb opcode 7))

-- "With L, event: buffer start, message length, opcode, and for 4 and 6 the STag"; "The STag is taken and checked only on the segment with L"
abbrev pub takes_stag : ℕ → Bool
takes_stag opcode = pick (eqb opcode 4) true (eqb opcode 6)

abbrev pub invalidated : Buffer → ℕ → ℕ → ℕ → ℕ → Result ℕ StagFault → Result Verdict Refusal
invalidated b opcode start end stag (Err Foreign) = Err invalidate_foreign
invalidated b opcode start end stag (Err Missing) = Err invalidate_missing
invalidated b opcode start end stag (Ok slot) = Ok (SendLast (b.start + start) opcode b.start end (Some (slot, stag)))

-- a Send into the buffer b, whose payload is the message's bytes from start up to end
unfoldable pub send_verdict : Window → ℕ → Buffer → UntaggedHeader → ℕ → ℕ → Result Verdict Refusal
send_verdict w domain b h start end =
    pick h.last
    (pick (takes_stag (opcode_of h.control))
    (invalidated b (opcode_of h.control) start end h.stag (found_in w domain h.stag))
    (Ok (SendLast (b.start + start) (opcode_of h.control) b.start end None)))
    (Ok (SendMore (b.start + start) (opcode_of h.control) end))

-- 38, of a read of at least one byte: "other domain, not live, wrap, bounds, no read right, asked in this order"
abbrev pub source_in : Window → ReadRequest → Result ℕ SpanFault → Result Verdict Refusal
source_in w r (Err Wrap) = Err source_wrap
source_in w r (Err Outside) = Err source_bounds
source_in w r (Ok place) = pick (may_read w) (Ok (Read r)) (Err no_read_right)

abbrev pub source_of : Window → ReadRequest → Result ℕ StagFault → Result Verdict Refusal
source_of w r (Err Foreign) = Err source_foreign
source_of w r (Err Missing) = Err source_missing
source_of w r (Ok slot) = source_in w r (spanned w r.source_to r.size)

-- 37 "Read Request not 28 bytes, or L clear". The source is asked "for non-zero length RDMA Read Request Messages" (RFC 5040, section 7.2): a read of
-- no bytes is queued without a look at its source STag or offset
unfoldable pub read_verdict : Window → ℕ → Bool → List ℕ → Result Verdict Refusal
read_verdict w domain last payload =
    pick (both last (eqb (length payload) 28))
    (pick (eqb (request_at payload).size 0) (Ok (Read (request_at payload)))
    (source_of w (request_at payload) (found_in w domain (request_at payload).source_stag)))
    (Err malformed)

-- 37 "Terminate under 4, or L clear"; "Terminate payload: layer 4 bits, type 4 bits, code 8 bits"
unfoldable pub terminate_verdict : Bool → List ℕ → Result Verdict Refusal
terminate_verdict last payload =
    pick (both last (leb 4 (length payload)))
    (Ok (Terminate (get_or payload 0 0 / 16) (get_or payload 0 0 % 16) (get_or payload 1 0)))
    (Err malformed)

-- by the queue; b is the buffer that is filled
unfoldable pub message_verdict : Window → ℕ → Buffer → UntaggedHeader → ℕ → ℕ → List ℕ → Result Verdict Refusal
message_verdict w domain b h start end payload =
    pick (eqb h.qn 0) (send_verdict w domain b h start end)
    (pick (eqb h.qn 1) (read_verdict w domain h.last payload) (terminate_verdict h.last payload))

-- what a queue of a stream expects
unfoldable pub queue_of : Stream → ℕ → Queue
queue_of s qn = pick (eqb qn 0) (send_queue s.sends) (pick (eqb qn 1) (read_queue s.reads) (terminate_queue s.terminates))

-- under is the opcode of the Send under way, 0 where there is none
abbrev pub untagged_verdict : Window → ℕ → ℕ → Buffer → UntaggedHeader → List ℕ → Result (ℕ × ℕ) Refusal → Result Verdict Refusal
untagged_verdict w domain under b h payload (Err r) = Err r
untagged_verdict w domain under b h payload (Ok (start, end)) =
    after (controlled h.control (fits_queue h.qn under (opcode_of h.control)))
    (message_verdict w domain b h start end payload)
