-- A writer for messages: Write and the four Sends. It is begun with what a message is, and asked for one segment (a ULPDU) after the other.
use Rattle.std.specs.Prelude.{ℕ, zero, suc, ◌+◌, ◌-◌, ◌%◌, Bool, true, false, not, List, [], ◌∷◌, ◌++◌, length, ◌==◌, nat_le}
use Rattle.wire.specs.Wire.{pick, both, part, put}
use Rattle.mpa.specs.Fpdu.{max_ulpdu}
use Rattle.memory.specs.Window.{wraps}
use Rattle.ddp.specs.Header.{tagged_bytes, untagged_bytes}
use Rattle.rdmap.specs.Message.{is_send, takes_stag}
use Rattle.sender.specs.Cut.{piece_of, ends_in}
use Rattle.sender.specs.declared.Message.{Message}
use Rattle.std.specs.Prelude.{Err, None, Ok, Option, Result, Some}
use Rattle.wire.specs.declared.refusal.LocalRefusal.{LocalRefusal}
use Rattle.wire.specs.declared.refusal.LocalRefusal.TheVariants.{NoRoom, OutOfRange, OverLimit}

abbrev pub max32 : ℕ
max32 = 4294967295

-- ---- beginning

-- 1 "A size below 19, a message over 2^32 − 1 bytes"
abbrev pub sized : ℕ → ℕ → Bool
sized limit len = both (nat_le 19 limit) (nat_le len max32)

-- 12 "a size above the limit", asked last
abbrev pub begun : ℕ → Message → Result Message LocalRefusal
begun limit m = pick (nat_le limit max_ulpdu) (Ok m) (Err OverLimit)

-- a Write: 1 also "a Write whose end passes 2^64", and an STag that its field cannot hold
unfoldable pub write_begun : ℕ → ℕ → ℕ → ℕ → Result Message LocalRefusal
write_begun limit stag to len =
    pick (both (sized limit len) (both (nat_le stag max32) (not (wraps to len))))
    (begun limit (record { tagged = true; opcode = 0; stag = stag; to = to; msn = 0; limit = limit; len = len; at = 0; done = false }))
    (Err OutOfRange)

-- a Send: 1 also an opcode that is no Send's, and an MSN or an STag to invalidate that its field cannot hold. The STag of one without Invalidate is not looked at, and written 0
abbrev pub stag_held : ℕ → ℕ → ℕ
stag_held opcode stag = pick (takes_stag opcode) stag 0

unfoldable pub send_begun : ℕ → ℕ → ℕ → ℕ → ℕ → Result Message LocalRefusal
send_begun limit opcode msn stag len =
    pick (both (sized limit len) (both (is_send opcode) (both (nat_le msn max32) (nat_le (stag_held opcode stag) max32))))
    (begun limit (record { tagged = false; opcode = opcode; stag = stag_held opcode stag; to = 0; msn = msn; limit = limit; len = len; at = 0; done = false }))
    (Err OutOfRange)

-- ---- one segment

-- the header's size, the room for a payload, and what is left of the message
abbrev pub header_size : Message → ℕ
header_size m = pick m.tagged 14 18

abbrev pub room_of : Message → ℕ
room_of m = m.limit - header_size m

abbrev pub left_of : Message → ℕ
left_of m = m.len - m.at

-- the payload's length, and whether it is the last
abbrev pub payload_size : Message → ℕ
payload_size m = piece_of (room_of m) (left_of m)

abbrev pub is_last : Message → Bool
is_last m = ends_in (room_of m) (left_of m)

-- "RDMAP control: version in the top two bits, which is 1; opcode in the low four"
abbrev pub control_byte : Message → ℕ
control_byte m = (64 + m.opcode) % 256

-- "MO counts on a Send, TO rises on a Write"; an STag to invalidate stands in every segment
unfoldable pub header_bytes : Message → List ℕ
header_bytes m =
    pick m.tagged
    (tagged_bytes (record { last = is_last m; control = control_byte m; stag = m.stag; to = (m.to + m.at) % 18446744073709551616 }))
    (untagged_bytes (record { last = is_last m; control = control_byte m; stag = m.stag; qn = 0; msn = m.msn; mo = m.at }))

-- the segment: its header, and the message's bytes from where the last one ended
unfoldable pub segment_bytes : Message → List ℕ → List ℕ
segment_bytes m message = header_bytes m ++ part message m.at (payload_size m)

abbrev pub segment_size : Message → ℕ
segment_size m = header_size m + payload_size m

-- the message after it: the next segment starts where this one ended
unfoldable pub advanced : Message → Message
advanced m = record {
  tagged = m.tagged;
  opcode = m.opcode;
  stag = m.stag;
  to = m.to;
  msn = m.msn;
  limit = m.limit;
  len = m.len;
  at = m.at + payload_size m;
  done = is_last m;
}

-- the message lent is as long as the one begun; that no more of it is written than there is holds of each that was begun
abbrev pub lent_as : Message → ℕ → Bool
lent_as m size = both (size == m.len) (nat_le m.at m.len)

-- asking for the next segment, lent a message of size bytes and room bytes for the output: 1 another length than the one begun; done after the last; 13 the slice is too small
unfoldable pub next_answer : Message → ℕ → ℕ → Result (Option ℕ) LocalRefusal
next_answer m size room =
    pick (lent_as m size)
    (pick m.done (Ok None) (pick (nat_le (segment_size m) room) (Ok (Some (segment_size m))) (Err NoRoom)))
    (Err OutOfRange)

-- what an answer makes of the message, and of the slice: "it keeps its bytes, and the segment stays next"
abbrev pub message_after : Message → Result (Option ℕ) LocalRefusal → Message
message_after m (Ok (Some n)) = advanced m
message_after m (Ok None) = m
message_after m (Err n) = m

abbrev pub out_after : Message → List ℕ → List ℕ → Result (Option ℕ) LocalRefusal → List ℕ
out_after m message out (Ok (Some n)) = put out 0 (segment_bytes m message)
out_after m message out (Ok None) = out
out_after m message out (Err n) = out

unfoldable pub next_of : Message → ℕ → ℕ → (Result (Option ℕ) LocalRefusal × Message)
next_of m size room = (next_answer m size room, message_after m (next_answer m size room))

unfoldable pub next_out : Message → List ℕ → List ℕ → List ℕ
next_out m message out = out_after m message out (next_answer m (length message) (length out))

-- ---- all of its segments, at most so many
unfoldable pub segments_of : ℕ → Message → List ℕ → List (List ℕ)
segments_of zero m message = []
segments_of (suc most) m message = pick m.done [] (segment_bytes m message ∷ segments_of most (advanced m) message)
