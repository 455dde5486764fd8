-- The theorems are not about nothing: a domain in which a Send with Invalidate and a Write of three bytes are delivered, each in
-- more than one segment.
use Prim.Native.Nat.{ℕ}
use mathlib.Core.Path.{◌≡◌, refl}
use mathlib.Core.Bool.{true, false}
use mathlib.Core.List.{List, [], ◌∷◌}
use native.Mathlib.Omega.{arith}
use lib.ListN.{length, set, replicate}
use Rattle.memory.specs.Buffer.{no_buffer}
use Rattle.memory.specs.Window.{no_window, found_in, named, wraps}
use Rattle.rdmap.specs.Phase.{phase_of}
use Rattle.rdmap.specs.Framing.{new_framing}
use Rattle.rdmap.specs.Read.{empty_reads}
use Rattle.rdmap.specs.Terminates.{empty_terminates}
use Rattle.rdmap.specs.Stream.{closed_stream}
use Rattle.meter.specs.Gauge.{new_meter}
use Rattle.domain.specs.declared.Domain.{Domain}
use Rattle.sender.specs.Cut.{piece_of, ends_in}
use Rattle.sender.specs.Message.{write_begun, send_begun, advanced, segments_of}
use Rattle.sender.specs.declared.Message.{Message}
use Rattle.delivery.specs.Delivery.{framed, fpdus_of, received_all}
use Rattle.delivery.specs.Promise.{Open, SendRoom, WriteRoom, SendDelivered, WriteDelivered}
use Rattle.delivery.proofs.Send.{send_at}
use Rattle.delivery.proofs.Write.{write_at}
use Rattle.delivery.proofs.Delivery.{begin_alone, send_delivered, write_delivered}
use Rattle.std.specs.Prelude.{Ok}

-- a part of 64 bytes; window 2 with key 7 and the write right, 16 bytes at 32, of base 1000; stream 1 open with the CRC on, which expects
-- MSN 5 and has a buffer of 16 bytes at 8
abbrev held : Domain
held = record {
  part = record { start = 0; end = 64 };
  windows = set (replicate 16 no_window) 2 (record { live = true; key = 7; rights = 1; place = 32; len = 16; base = 1000 });
  streams = set (replicate 4 closed_stream) 1 (record {
    phase = phase_of 1;
    framing = new_framing true;
    sends = record { msn = 5; opcode = 0; taken = 0; buffers = record { count = 1; entries = set (replicate 8 no_buffer) 0 (record { start = 8; len = 16 }) } };
    reads = empty_reads 1;
    terminates = empty_terminates 1;
  });
  meter = new_meter;
}

abbrev zeros : List ℕ
zeros = replicate 64 0

abbrev message : List ℕ
message = 10 ∷ 20 ∷ 30 ∷ 40 ∷ 50 ∷ 60 ∷ []

opened : Open held 1 zeros
opened = record { four = refl; inside = omega arith; ready = refl; whole = refl }

-- Send with Invalidate of window 2, at most 20 bytes a ULPDU: three segments of two bytes
abbrev sent : Message
sent = send_at 20 4 519 5 6 0 false

send-begun : send_begun 20 4 5 519 6 ≡ Ok sent
unfolding send_begun
send-begun = refl

send-room : SendRoom held 0 1 zeros 4 5 519 6
unfolding found_in named
send-room = record {
  opened = opened;
  idle = refl;
  none = refl;
  expected = refl;
  waits = omega arith;
  enough = omega arith;
  lies = record { from = omega arith; upto = omega arith };
  live = λ e. refl;
}

pub send_of_three : length (fpdus_of sent message) ≡ 3
unfolding framed segments_of advanced piece_of ends_in
send_of_three = refl

pub send_case : SendDelivered held 1 zeros (fpdus_of sent message) (fpdus_of sent message) 4 519 message (received_all held 0 1 zeros (fpdus_of sent message))
send_case = send_delivered 20 4 5 519 message sent send-begun held 0 1 zeros send-room (fpdus_of sent message) (begin_alone (fpdus_of sent message))

-- Write to 1004 in that window, at most 19 bytes a ULPDU: a segment of five bytes and one of one
abbrev written : Message
written = write_at 19 519 1004 6 0 false

write-begun : write_begun 19 519 1004 6 ≡ Ok written
unfolding write_begun wraps
write-begun = refl

write-room : WriteRoom held 0 1 zeros 519 1004 6
unfolding found_in named
write-room = record {
  opened = opened;
  covers = λ l. record { found = refl; may = refl; above = omega arith; below = omega arith };
  lies = λ l. record { from = omega arith; upto = omega arith };
}

pub write_of_two : length (fpdus_of written message) ≡ 2
unfolding framed segments_of advanced piece_of ends_in
write_of_two = refl

pub write_case : WriteDelivered held 1 zeros (fpdus_of written message) (fpdus_of written message) 519 1004 message (received_all held 0 1 zeros (fpdus_of written message))
write_case = write_delivered 19 519 1004 message written write-begun held 0 1 zeros write-room (fpdus_of written message) (begin_alone (fpdus_of written message))
