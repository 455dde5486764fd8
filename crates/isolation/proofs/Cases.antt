-- The twelve worked cases that the paper marks to be proved, a slice of two FPDUs, empty reads, refusal 19, offers, a gauge and
-- a stream's state, as one table: what each gives, what it must give, and one test that antt computes over the whole table.
-- Assumes nothing.
use mathlib.Core.Path.{◌≡◌, refl}
use mathlib.Core.Bool.{Bool, true, false}
use mathlib.Core.List.{List, [], ◌∷◌, ◌++◌}
use Prim.Native.Nat.{ℕ, zero, suc, ◌+◌, ◌<◌}
use native.Mathlib.Nat.{le_of_suc-le-suc, not-suc-le-zero}
use lib.ListN.{length, get_or, take, drop, replicate}
use lib.Ieee.{add, sub, div, lt, ne, of_int, to_bits}
use Rattle.wire.specs.Wire.{both, same, put, be16, be32, be64}
use Rattle.wire.proofs.Laws.{both_true, same-eq}
use Rattle.mpa.specs.Fpdu.{total_of, fpdu_read, fpdu_read_of}
use Rattle.mpa.specs.Startup.{startup_of}
use Rattle.memory.specs.Part.{in_part}
use Rattle.memory.specs.Window.{in_range, window_fits, registered_in, registered, dropped_in, dropped, named, found_in, wraps, spanned}
use Rattle.memory.specs.Buffer.{posted, popped_of}
use Rattle.ddp.specs.Header.{tagged_fields, untagged_fields, tagged_read, untagged_read, header_read}
use Rattle.ddp.specs.Segment.{segment_read}
use Rattle.ddp.specs.Tagged.{tagged_of}
use Rattle.ddp.specs.Untagged.{untagged_in, untagged_of, next_msn}
use Rattle.ddp.specs.Place.{fits, placed}
use Rattle.rdmap.specs.Message.{send_verdict, read_verdict, terminate_verdict, message_verdict, queue_of}
use Rattle.rdmap.specs.Read.{queued_reads}
use Rattle.rdmap.specs.Stream.{opened, closed, posted_on, state_of}
use Rattle.domain.specs.Domain.{domain_opened, domain_closed, domain_posted, domain_registered, domain_dropped, domain_received, domain_received_bytes, domain_state}
use Rattle.arrival.specs.Parts.{parts_applied, placed_from, applied_bytes, parts_received, parts_received_bytes}
use Rattle.overlap.specs.Sharing.{shares, window_shares, windows_share, buffers_share, streams_share}
use Rattle.domain.specs.Sharing.{domain_shares, lastly}
use Rattle.arrival.specs.declared.Answer.{Answer}
use Rattle.arrival.specs.declared.Answer.TheVariants.{Wait, Taken, Ended}
use Rattle.arrival.specs.declared.Event.TheVariants.{Sent, SentInvalidating, Terminated}
use Rattle.holding.specs.Pending.{needed_of, is_short, copied, room_after}
use Rattle.holding.specs.Offer.{domain_receives, domain_receives_bytes, parts_offered, parts_offered_bytes, domain_offered, domain_offered_bytes}
use Rattle.holding.specs.declared.OfferAnswer.{OfferAnswer}
use Rattle.holding.specs.declared.OfferAnswer.TheVariants.{Kept, Completed, Ended as OfferEnded}
use Rattle.rnic.specs.Offer.{rooms_bytes, offered_owned, offered_owned_store, offered_owned_rooms, rnic_offered, rnic_offer_answer, rnic_offered_store, rnic_offered_rooms}
use Rattle.rnic.specs.Rnic.{opened_rnic, rnic_opened, rnic_closed, rnic_posted, rnic_registered, rnic_dropped, received_owned, received_owned_store, rnic_received, rnic_received_store, rnic_ticked, rnic_reading, rnic_state}
use Rattle.rnic.specs.declared.Rnic.{Rnic}
use Rattle.meter.specs.Gauge.{sampled_gauge, reading_of}
use Rattle.meter.specs.Words.{level_bits}
use Rattle.calls.specs.Words.{reading_words, state_words}
use Rattle.std.specs.Prelude.{Err, None, Ok, Result, Some, ⊤}
use Rattle.wire.specs.declared.refusal.LocalRefusal.{LocalRefusal}
use Rattle.wire.specs.Refusal.{refusal_number}

-- an answer in numbers: Wait n; Taken with its total and event; a peer refusal's number, layer, type and code; a local refusal's number
abbrev code : Result Answer LocalRefusal → List ℕ
code (Ok (Wait n)) = 0 ∷ n ∷ []
code (Ok (Taken total None)) = 1 ∷ total ∷ []
code (Ok (Taken total (Some (Sent start len opcode)))) = 2 ∷ total ∷ start ∷ len ∷ opcode ∷ []
code (Ok (Taken total (Some (SentInvalidating start len opcode stag)))) = 3 ∷ total ∷ start ∷ len ∷ opcode ∷ stag ∷ []
code (Ok (Taken total (Some (Terminated layer etype c)))) = 4 ∷ total ∷ layer ∷ etype ∷ c ∷ []
code (Ok (Ended r)) = 5 ∷ r.number ∷ r.layer ∷ r.etype ∷ r.code ∷ []
code (Err n) = 6 ∷ refusal_number n ∷ []

-- "Store 4,096, parts of 1,024 each. Window 17, key 5, base 4,096, length 4, place 1,024, write. Stream 4, CRC off."
abbrev empty : Rnic
empty = (opened_rnic 4096 0 1024 1024 2048 2048 3072 3072 4096).1

abbrev window : ℕ → Rnic
window rights = (rnic_registered empty 17 5 4096 4 1024 rights).1

abbrev device : ℕ → Rnic
device stream = (rnic_opened (window 1) stream false).1

-- a store in which every byte is 7
abbrev store : List ℕ
store = replicate 4096 7

-- a Write's FPDU of a payload of 0 or 4 bytes, whose CRC is not looked at
abbrev write : ℕ → ℕ → List ℕ → List ℕ
write stag to payload = be16 (14 + length payload) ++ (0xC1 ∷ 0x40 ∷ (be32 stag ++ (be64 to ++ (payload ++ (0 ∷ 0 ∷ 0 ∷ 0 ∷ [])))))

abbrev beef : List ℕ
beef = 0xDE ∷ 0xAD ∷ 0xBE ∷ 0xEF ∷ []

-- the paper's frame, byte for byte, and 4 bytes
abbrev paper : List ℕ
paper = 0x00 ∷ 0x12 ∷ 0xC1 ∷ 0x40 ∷ 0x00 ∷ 0x00 ∷ 0x11 ∷ 0x05 ∷ 0x00 ∷ 0x00 ∷ 0x00 ∷ 0x00 ∷ 0x00 ∷ 0x00 ∷ 0x10 ∷ 0x00 ∷ 0xDE ∷ 0xAD ∷ 0xBE ∷ 0xEF ∷ 0 ∷ 0 ∷ 0 ∷ 0 ∷ []

-- "A 5-byte Send, L set, MSN 1"
abbrev send : List ℕ
send = be16 23 ++ (0x41 ∷ 0x43 ∷ (be32 0 ++ (be32 0 ++ (be32 1 ++ (be32 0 ++ (1 ∷ 2 ∷ 3 ∷ 4 ∷ 5 ∷ 0 ∷ 0 ∷ 0 ∷ 0 ∷ 0 ∷ 0 ∷ 0 ∷ []))))))

-- a Read Request's FPDU of a source STag and a size, from offset 0, MSN 1
abbrev request : ℕ → ℕ → List ℕ
request stag size =
    be16 46 ++ (0x41 ∷ 0x41 ∷ (be32 0 ++ (be32 1 ++ (be32 1 ++ (be32 0 ++ (be32 7 ++ (be64 8 ++ (be32 size ++ (be32 stag ++ (be64 0 ++ (0 ∷ 0 ∷ 0 ∷ 0 ∷ [])))))))))))

-- what receive answers
abbrev answer : Rnic → ℕ → List ℕ → List ℕ
answer b stream input = code (rnic_received b 4096 stream input).0

-- what register and post answer: 0 done, or the refusal's number
abbrev told : Result ⊤ LocalRefusal → List ℕ
told (Ok tt) = 0 ∷ []
told (Err n) = refusal_number n ∷ []

abbrev registers : Rnic → ℕ → ℕ → ℕ → ℕ → List ℕ
registers b w len place rights = told (rnic_registered b w 5 0 len place rights).0

abbrev posts : Rnic → ℕ → ℕ → ℕ → List ℕ
posts b stream start len = told (rnic_posted b stream start len).0

-- a buffer of 5 bytes at 1,100 on stream 4; stream 5, of the same domain, is open too
abbrev waits : Rnic
waits = (rnic_opened (rnic_posted (device 4) 4 1100 5).1 5 false).1

-- buffers of one byte from 1,100 on, n of them
abbrev buffers : ℕ → Rnic
buffers zero = device 4
buffers (suc n) = (rnic_posted (buffers n) 4 (1100 + n) 1).1

-- what an offer answers: Kept n; Completed with how many of its bytes it took, and then as receive; a refusal as receive's
abbrev offer_code : Result OfferAnswer LocalRefusal → List ℕ
offer_code (Ok (Kept n)) = 7 ∷ n ∷ []
offer_code (Ok (Completed taken total event)) = taken ∷ code (Ok (Taken total event))
offer_code (Ok (OfferEnded r)) = code (Ok (Ended r))
offer_code (Err n) = code (Err n)

-- rooms in which every byte is 9
abbrev rooms : List ℕ
rooms = replicate rooms_bytes 9

abbrev offers : Rnic → ℕ → List ℕ → List ℕ → List ℕ
offers b stream second input = offer_code (rnic_offer_answer b 4096 stream second input)

-- the first n bytes of the paper's frame are offered on stream 4: the device, and the rooms
abbrev begun : ℕ → Rnic
begun n = (rnic_offered (device 4) 4096 4 rooms (take n paper)).1

abbrev begun_rooms : ℕ → List ℕ
begun_rooms n = rnic_offered_rooms (device 4) 4096 4 rooms (take n paper)

-- an 8-byte Send, L set, MSN 1, placed in a buffer of domain 1
abbrev eight : List ℕ
eight = be16 26 ++ (0x41 ∷ 0x43 ∷ (be32 0 ++ (be32 0 ++ (be32 1 ++ (be32 0 ++ (1 ∷ 2 ∷ 3 ∷ 4 ∷ 5 ∷ 6 ∷ 7 ∷ 8 ∷ 0 ∷ 0 ∷ 0 ∷ 0 ∷ []))))))

abbrev filled : Rnic
filled = (rnic_received (rnic_posted (device 4) 4 1100 8).1 4096 4 eight).1

-- n ticks of a domain
abbrev ticked : ℕ → ℕ → Rnic → Rnic
ticked d zero b = b
ticked d (suc n) b = (rnic_ticked (ticked d n b) d).1

-- what its gauge reads as: 12 quiet; 13 steady, 14 falling, with the bits; 0 a refusal
abbrev reads : Rnic → ℕ → List ℕ
reads b d = take 3 (reading_words (rnic_reading b d))

-- a Terminate's FPDU, of layer 1, type 1, code 1, MSN 1
abbrev terminate : List ℕ
terminate = be16 22 ++ (0x41 ∷ 0x47 ∷ (be32 0 ++ (be32 2 ++ (be32 1 ++ (be32 0 ++ (0x11 ∷ 0x01 ∷ 0 ∷ 0 ∷ 0 ∷ 0 ∷ 0 ∷ 0 ∷ []))))))

-- stream 4 after some bytes, where a buffer waits on it
abbrev after : List ℕ → Rnic
after input = (rnic_received waits 4096 4 input).1

-- what asking for a stream's state answers, in words
abbrev states : Rnic → ℕ → List ℕ
states b n = state_words (rnic_state b n)

record Check : Type 0 where
  got : List ℕ
  want : List ℕ

abbrev gives : List ℕ → List ℕ → Check
gives got want = record { got = got; want = want }

abbrev log : List Check
log =
    -- FPDU totals for ULPDU 0, 14, 15, 18, 23, 2,048, and at the limit: 8,191, 8,192
    gives (total_of 0 ∷ total_of 14 ∷ total_of 15 ∷ total_of 18 ∷ total_of 23 ∷ total_of 2048 ∷ total_of 8191 ∷ total_of 8192 ∷ []) (8 ∷ 20 ∷ 24 ∷ 24 ∷ 32 ∷ 2056 ∷ 8200 ∷ 8200 ∷ [])
    -- Taken 24; bytes 1,024 to 1,027 become DE AD BE EF, no other changes
    ∷ gives (answer (device 4) 4 paper) (1 ∷ 24 ∷ [])
    ∷ gives (rnic_received_store (device 4) 4 paper store) (put store 1024 beef)
    -- with 23 bytes present: Wait 24; with 1: Wait 2
    ∷ gives (answer (device 4) 4 (take 23 paper)) (0 ∷ 24 ∷ [])
    ∷ gives (answer (device 4) 4 (take 1 paper)) (0 ∷ 2 ∷ [])
    -- TO 4,097: 27
    ∷ gives (answer (device 4) 4 (write 0x1105 4097 beef)) (5 ∷ 27 ∷ 1 ∷ 1 ∷ 0x01 ∷ [])
    -- Key 6: 25
    ∷ gives (answer (device 4) 4 (write 0x1106 4096 beef)) (5 ∷ 25 ∷ 1 ∷ 1 ∷ 0x00 ∷ [])
    -- On stream 0: 24, also after window 17 is dropped
    ∷ gives (answer (device 0) 0 paper) (5 ∷ 24 ∷ 1 ∷ 1 ∷ 0x02 ∷ [])
    ∷ gives (answer (rnic_dropped (device 0) 17).1 0 paper) (5 ∷ 24 ∷ 1 ∷ 1 ∷ 0x02 ∷ [])
    -- TO 2^64 − 4: 27; 2^64 − 3: 26
    ∷ gives (answer (device 4) 4 (write 0x1105 18446744073709551612 beef)) (5 ∷ 27 ∷ 1 ∷ 1 ∷ 0x01 ∷ [])
    ∷ gives (answer (device 4) 4 (write 0x1105 18446744073709551613 beef)) (5 ∷ 26 ∷ 1 ∷ 1 ∷ 0x03 ∷ [])
    -- Read right only: 35
    ∷ gives (answer (rnic_opened (window 2) 4 false).1 4 paper) (5 ∷ 35 ∷ 0 ∷ 1 ∷ 0x02 ∷ [])
    -- No payload, STag 0: Taken 20
    ∷ gives (answer (device 4) 4 (write 0 0 [])) (1 ∷ 20 ∷ [])
    -- A 5-byte Send, buffer at 1,100: of 5 bytes, Taken 32; of 4, refusal 32
    ∷ gives (answer (rnic_posted (device 4) 4 1100 5).1 4 send) (2 ∷ 32 ∷ 1100 ∷ 5 ∷ 3 ∷ [])
    ∷ gives (answer (rnic_posted (device 4) 4 1100 4).1 4 send) (5 ∷ 32 ∷ 1 ∷ 2 ∷ 0x05 ∷ [])
    -- A read of no bytes is queued without a look at its source, STag 0 or another domain's; one of a byte is refused
    ∷ gives (answer (device 4) 4 (request 0 0)) (1 ∷ 52 ∷ [])
    ∷ gives (answer (device 4) 4 (request 0 1)) (5 ∷ 38 ∷ 0 ∷ 1 ∷ 0x03 ∷ [])
    ∷ gives (answer (device 0) 0 (request 0 0)) (1 ∷ 52 ∷ [])
    ∷ gives (answer (device 0) 0 (request 0 1)) (5 ∷ 38 ∷ 0 ∷ 1 ∷ 0x00 ∷ [])
    ∷ gives (answer (device 0) 0 (request 0x1105 0)) (1 ∷ 52 ∷ [])
    ∷ gives (answer (device 0) 0 (request 0x1105 1)) (5 ∷ 38 ∷ 0 ∷ 1 ∷ 0x03 ∷ [])
    -- "handles that first FPDU only": a second one in the slice, which would write other bytes at the same place, is not looked at
    ∷ gives (answer (device 4) 4 (paper ++ write 0x1105 4096 (1 ∷ 2 ∷ 3 ∷ 4 ∷ []))) (1 ∷ 24 ∷ [])
    ∷ gives (rnic_received_store (device 4) 4 (paper ++ write 0x1105 4096 (1 ∷ 2 ∷ 3 ∷ 4 ∷ [])) store) (put store 1024 beef)
    -- 19: a write window over the last byte of window 17; with both rights; of the read right alone, done; from the byte after it on, done
    ∷ gives (registers (device 4) 18 4 1027 1) (19 ∷ [])
    ∷ gives (registers (device 4) 18 4 1027 3) (19 ∷ [])
    ∷ gives (registers (device 4) 18 4 1027 2) (0 ∷ [])
    ∷ gives (registers (device 4) 18 4 1028 1) (0 ∷ [])
    -- a write window over one of the read right alone: done
    ∷ gives (registers (window 2) 18 4 1027 1) (0 ∷ [])
    -- a buffer over the last byte of window 17: 19; from the byte after it on, done
    ∷ gives (posts (device 4) 4 1027 5) (19 ∷ [])
    ∷ gives (posts (device 4) 4 1028 5) (0 ∷ [])
    -- over the last byte of a buffer that waits: on its own stream, on another of the domain, and a write window: 19
    ∷ gives (posts waits 4 1104 5) (19 ∷ [])
    ∷ gives (posts waits 5 1104 5) (19 ∷ [])
    ∷ gives (registers waits 18 4 1104 1) (19 ∷ [])
    -- a window of the read right alone there, and what ends where the buffer starts or starts where it ends: done
    ∷ gives (registers waits 18 4 1104 2) (0 ∷ [])
    ∷ gives (posts waits 5 1105 5) (0 ∷ [])
    ∷ gives (posts waits 5 1095 5) (0 ∷ [])
    ∷ gives (registers waits 18 4 1096 1) (0 ∷ [])
    -- the same place is free again once the window is dropped, the stream is closed, or the buffer is used
    ∷ gives (registers (rnic_dropped (device 4) 17).1 18 4 1027 1) (0 ∷ [])
    ∷ gives (posts (rnic_closed waits 4).1 5 1104 5) (0 ∷ [])
    ∷ gives (posts (rnic_received waits 4096 4 send).1 5 1104 5) (0 ∷ [])
    -- 19 is asked last: 6 window live, 9 not in the part, 3 stream not open, and the ninth buffer, which shares a byte: 10
    ∷ gives (registers (device 4) 17 4 1027 1) (6 ∷ [])
    ∷ gives (registers (device 4) 18 4 1023 1) (9 ∷ [])
    ∷ gives (posts (device 4) 4 1023 5) (9 ∷ [])
    ∷ gives (posts (device 4) 5 1027 5) (3 ∷ [])
    ∷ gives (posts (buffers 7) 4 1100 1) (19 ∷ [])
    ∷ gives (posts (buffers 8) 4 1100 1) (10 ∷ [])
    -- another domain's entries are not looked at: what they have is not in its part
    ∷ gives (posts (rnic_opened waits 0 false).1 0 1104 5) (9 ∷ [])
    -- the paper's frame offered whole, and with more behind it: 24 bytes are taken; offered in two pieces: Kept 10, and 14 are taken
    ∷ gives (offers (device 4) 4 rooms paper) (24 ∷ 1 ∷ 24 ∷ [])
    ∷ gives (offers (device 4) 4 rooms (paper ++ paper)) (24 ∷ 1 ∷ 24 ∷ [])
    ∷ gives (offers (device 4) 4 rooms (take 10 paper)) (7 ∷ 10 ∷ [])
    ∷ gives (offers (begun 10) 4 (begun_rooms 10) (drop 10 paper)) (14 ∷ 1 ∷ 24 ∷ [])
    ∷ gives (rnic_offered_store (begun 10) 4 (begun_rooms 10) (drop 10 paper) store) (put store 1024 beef)
    -- an offer of no bytes: Kept 0
    ∷ gives (offers (begun 10) 4 (begun_rooms 10) []) (7 ∷ 0 ∷ [])
    -- receive is refused with 16 while its own stream holds bytes, and not on another stream, nor once close has emptied them
    ∷ gives (answer (begun 10) 4 paper) (6 ∷ 16 ∷ [])
    ∷ gives (answer (rnic_opened (begun 10) 5 false).1 5 paper) (1 ∷ 24 ∷ [])
    ∷ gives (answer (rnic_opened (rnic_closed (begun 10) 4).1 4 false).1 4 paper) (1 ∷ 24 ∷ [])
    -- a ULPDU length of 8,192: Wait 8,200, and an offer is kept; of 8,193: 20; after it 5
    ∷ gives (answer (device 4) 4 (0x20 ∷ 0x00 ∷ [])) (0 ∷ 8200 ∷ [])
    ∷ gives (offers (device 4) 4 rooms (0x20 ∷ 0x00 ∷ [])) (7 ∷ 2 ∷ [])
    ∷ gives (offers (device 4) 4 rooms (0x20 ∷ 0x01 ∷ [])) (5 ∷ 20 ∷ 1 ∷ 0 ∷ 0x00 ∷ [])
    ∷ gives (offers (rnic_offered (device 4) 4096 4 rooms (0x20 ∷ 0x01 ∷ [])).1 4 rooms paper) (6 ∷ 5 ∷ [])
    -- another length of either slice: 2; a stream that is not open: 3; no stream's number: 1
    ∷ gives (offer_code (rnic_offer_answer (device 4) 4095 4 rooms paper)) (6 ∷ 2 ∷ [])
    ∷ gives (offers (device 4) 4 (9 ∷ rooms) paper) (6 ∷ 2 ∷ [])
    ∷ gives (offers (device 4) 5 rooms paper) (6 ∷ 3 ∷ [])
    ∷ gives (offers (device 4) 16 rooms paper) (6 ∷ 1 ∷ [])
    -- a gauge: quiet before the first tick; "a first 8" is steady with 8; after a tick that counted nothing 7; after six, under half the peak
    ∷ gives (reads filled 1) (12 ∷ 0 ∷ 0 ∷ [])
    ∷ gives (reads (ticked 1 1 filled) 1) (13 ∷ 0x4020000000000000 ∷ 0 ∷ [])
    ∷ gives (reads (ticked 1 2 filled) 1) (13 ∷ 0x401C000000000000 ∷ 0 ∷ [])
    ∷ gives (reads (ticked 1 7 filled) 1) (14 ∷ 0x400CB91000000000 ∷ 0x4020000000000000 ∷ [])
    -- another domain's tick leaves it, and that domain counted nothing
    ∷ gives (reads (ticked 0 1 filled) 1) (12 ∷ 0 ∷ 0 ∷ [])
    ∷ gives (reads (ticked 1 1 (ticked 0 1 filled)) 1) (13 ∷ 0x4020000000000000 ∷ 0 ∷ [])
    ∷ gives (reads (ticked 0 1 filled) 0) (12 ∷ 0 ∷ 0 ∷ [])
    -- a Write that is offered in two pieces counts its 4 bytes once; a Send that is refused, and a read, count none
    ∷ gives (reads (ticked 1 1 (rnic_offered (begun 10) 4096 4 (begun_rooms 10) (drop 10 paper)).1) 1) (13 ∷ 0x4010000000000000 ∷ 0 ∷ [])
    ∷ gives (reads (ticked 1 1 (rnic_received (rnic_posted (device 4) 4 1100 4).1 4096 4 send).1) 1) (12 ∷ 0 ∷ 0 ∷ [])
    ∷ gives (reads (ticked 1 1 (rnic_received (device 4) 4096 4 (request 0 0)).1) 1) (12 ∷ 0 ∷ 0 ∷ [])
    -- no domain's number: 1
    ∷ gives (told (rnic_ticked filled 4).0) (1 ∷ [])
    ∷ gives (reads filled 4) (0 ∷ 1 ∷ 0 ∷ [])
    -- a stream's state: closed; open, with a buffer that waits, and with a read too; ended by 27; ended by a Terminate
    ∷ gives (states waits 6) (15 ∷ 0 ∷ 0 ∷ 0 ∷ 0 ∷ 0 ∷ 0 ∷ 0 ∷ [])
    ∷ gives (states waits 4) (15 ∷ 1 ∷ 1 ∷ 0 ∷ 0 ∷ 0 ∷ 0 ∷ 0 ∷ [])
    ∷ gives (states (after (request 0 0)) 4) (15 ∷ 1 ∷ 1 ∷ 1 ∷ 0 ∷ 0 ∷ 0 ∷ 0 ∷ [])
    ∷ gives (states (after (write 0x1105 4097 beef)) 4) (15 ∷ 2 ∷ 1 ∷ 0 ∷ 27 ∷ 1 ∷ 1 ∷ 0x01 ∷ [])
    ∷ gives (states (after terminate) 4) (15 ∷ 3 ∷ 1 ∷ 0 ∷ 0 ∷ 0 ∷ 0 ∷ 0 ∷ [])
    -- another stream of the domain is left; no stream's number: 1
    ∷ gives (states (after terminate) 5) (15 ∷ 1 ∷ 0 ∷ 0 ∷ 0 ∷ 0 ∷ 0 ∷ 0 ∷ [])
    ∷ gives (states waits 16) (0 ∷ 1 ∷ 0 ∷ 0 ∷ 0 ∷ 0 ∷ 0 ∷ 0 ∷ [])
    -- MSN 4,294,967,295 is followed by 0
    ∷ gives (next_msn 4294967295 ∷ []) (0 ∷ [])
    -- Request, C set, data AB, whole
    ∷ gives (startup_of false true false (0x41 ∷ 0x42 ∷ []))
    (0x4D ∷ 0x50 ∷ 0x41 ∷ 0x20 ∷ 0x49 ∷ 0x44 ∷ 0x20 ∷ 0x52 ∷ 0x65 ∷ 0x71 ∷ 0x20 ∷ 0x46 ∷ 0x72 ∷ 0x61 ∷ 0x6D ∷ 0x65 ∷ 0x40 ∷ 0x01 ∷ 0x00 ∷ 0x02 ∷ 0x41 ∷ 0x42 ∷ [])
    ∷ []

abbrev all : List Check → Bool
all [] = true
all (x ∷ xs) = both (same x.got x.want) (all xs)

-- the test passes over the whole table
log-holds : all log ≡ true
unfolding refusal_number fpdu_read fpdu_read_of startup_of in_part in_range window_fits registered_in registered dropped_in dropped named found_in wraps spanned posted popped_of tagged_fields untagged_fields tagged_read untagged_read header_read segment_read tagged_of untagged_in untagged_of fits placed send_verdict read_verdict terminate_verdict message_verdict queue_of queued_reads opened closed posted_on shares window_shares windows_share buffers_share streams_share domain_shares lastly domain_opened domain_closed domain_posted domain_registered domain_dropped parts_applied placed_from applied_bytes parts_received parts_received_bytes domain_received domain_received_bytes opened_rnic rnic_opened rnic_closed rnic_posted rnic_registered rnic_dropped received_owned received_owned_store rnic_received rnic_received_store domain_receives domain_receives_bytes needed_of is_short copied room_after parts_offered parts_offered_bytes domain_offered domain_offered_bytes offered_owned offered_owned_store offered_owned_rooms rnic_offered rnic_offered_store rnic_offered_rooms rnic_ticked rnic_reading state_of domain_state rnic_state sampled_gauge reading_of level_bits add sub div lt ne of_int to_bits
log-holds = refl

-- so each case gives what it must
each : (xs : List Check) → all xs ≡ true → (i : ℕ) → i < length xs → (get_or xs i (gives [] [])).got ≡ (get_or xs i (gives [] [])).want
each [] e i h = absurd (not-suc-le-zero h)
each (x ∷ xs) e zero h = same-eq x.got x.want (both_true (same x.got x.want) (all xs) e).0
each (x ∷ xs) e (suc i) h = each xs (both_true (same x.got x.want) (all xs) e).1 i (le_of_suc-le-suc h)

pub worked_cases : (i : ℕ) → i < length log → (get_or log i (gives [] [])).got ≡ (get_or log i (gives [] [])).want
worked_cases = each log log-holds
