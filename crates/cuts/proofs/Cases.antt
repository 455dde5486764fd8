-- The theorems are not about nothing: a stream whose bytes, cut into three pieces that end where they like, are a Send, and then the first
-- three bytes of an FPDU, or a ULPDU that is too long and bytes after it; and the same byte by byte.
use Prim.Native.Nat.{ℕ}
use mathlib.Core.Path.{◌≡◌, refl, subst}
use mathlib.Core.Bool.{false}
use mathlib.Core.List.{List, [], ◌∷◌, ◌++◌}
use lib.ListN.{take, drop, set, replicate}
use Rattle.wire.specs.Wire.{put}
use Rattle.mpa.specs.Fpdu.{fpdu_read, fpdu_read_of}
use Rattle.memory.specs.Buffer.{no_buffer, popped_of}
use Rattle.memory.specs.Window.{no_window}
use Rattle.ddp.specs.Header.{tagged_fields, untagged_fields, tagged_read, untagged_read, header_read}
use Rattle.ddp.specs.Place.{fits, placed}
use Rattle.ddp.specs.Refusal.{ulpdu_too_long}
use Rattle.ddp.specs.Segment.{segment_read}
use Rattle.ddp.specs.Untagged.{untagged_in, untagged_of}
use Rattle.rdmap.specs.Message.{send_verdict, message_verdict, queue_of}
use Rattle.rdmap.specs.Phase.{phase_of}
use Rattle.rdmap.specs.Framing.{new_framing}
use Rattle.rdmap.specs.Read.{empty_reads}
use Rattle.rdmap.specs.Stream.{closed_stream}
use Rattle.rdmap.specs.Terminates.{empty_terminates}
use Rattle.domain.specs.Domain.{domain_received, domain_received_bytes}
use Rattle.arrival.specs.Parts.{parts_applied, placed_from, applied_bytes, parts_received, parts_received_bytes}
use Rattle.meter.specs.Gauge.{new_meter}
use Rattle.arrival.specs.declared.Event.TheVariants.{Sent}
use Rattle.cuts.specs.Cuts.{offer, Outcome, drain_in, drain, drain_all, joined, singles}
use Rattle.cuts.specs.Received.{Side, Report, received}
use Rattle.cuts.specs.Received.Report.{event, refusal}
use Rattle.cuts.proofs.Domain.{new_holds, domain_cuts_same}
use Rattle.std.specs.Prelude.{Some}

-- a part of 64 bytes; stream 1 open with the CRC off, which expects MSN 5 and has a buffer of 16 bytes at 8
abbrev start : Side
start = record {
  domain = record {
    part = record { start = 0; end = 64 };
    windows = replicate 16 no_window;
    streams = set (replicate 4 closed_stream) 1 (record {
      phase = phase_of 1;
      framing = new_framing false;
      sends = record { msn = 5; opcode = 0; taken = 0; buffers = record { count = 1; entries = set (replicate 8 no_buffer) 0 (record { start = 8; len = 16 }) } };
      reads = empty_reads 1;
      terminates = empty_terminates 1;
    });
    meter = new_meter;
  };
  bytes = replicate 64 0;
}

-- a Send of three bytes, whole: 28 bytes with a pad byte and a CRC that is not looked at
abbrev send : List ℕ
send = 0 ∷ 21 ∷ 65 ∷ 67 ∷ 0 ∷ 0 ∷ 0 ∷ 0 ∷ 0 ∷ 0 ∷ 0 ∷ 0 ∷ 0 ∷ 0 ∷ 0 ∷ 5 ∷ 0 ∷ 0 ∷ 0 ∷ 0 ∷ 10 ∷ 20 ∷ 30 ∷ 0 ∷ 0 ∷ 0 ∷ 0 ∷ 0 ∷ []

-- and the first bytes of another, or of one that is too long with bytes after its length
abbrev begun : List ℕ
begun = send ++ (0 ∷ 21 ∷ 65 ∷ [])

abbrev spoilt : List ℕ
spoilt = send ++ (255 ∷ 255 ∷ 7 ∷ 8 ∷ [])

-- one byte, then up to the first byte of what comes after the Send, and the rest
abbrev cut : List ℕ → List (List ℕ)
cut bytes = take 1 bytes ∷ take 28 (drop 1 bytes) ∷ drop 29 bytes ∷ []

-- what came of it: the events, the Send's bytes in the buffer and no other changed, and what is held
abbrev pub Came : Outcome Side Report → List Report → List ℕ → Type 0
Came r events held = (r.events ≡ events) × (r.state.bytes ≡ put start.bytes 8 (10 ∷ 20 ∷ 30 ∷ [])) × (r.held ≡ held)

pub begun_case : Came (drain_all (received 0 1) start [] (cut begun)) (event (Some (Sent 8 3 3)) ∷ []) (0 ∷ 21 ∷ 65 ∷ [])
unfolding offer drain_in drain drain_all received domain_received domain_received_bytes parts_received parts_received_bytes parts_applied placed_from applied_bytes segment_read fpdu_read fpdu_read_of header_read tagged_read untagged_read tagged_fields untagged_fields untagged_of untagged_in queue_of message_verdict send_verdict placed fits popped_of
begun_case = (refl, refl, refl)

pub spoilt_case : Came (drain_all (received 0 1) start [] (cut spoilt)) (event (Some (Sent 8 3 3)) ∷ refusal ulpdu_too_long ∷ []) []
unfolding offer drain_in drain drain_all received domain_received domain_received_bytes parts_received parts_received_bytes parts_applied placed_from applied_bytes segment_read fpdu_read fpdu_read_of header_read tagged_read untagged_read tagged_fields untagged_fields untagged_of untagged_in queue_of message_verdict send_verdict placed fits popped_of
spoilt_case = (refl, refl, refl)

-- by the theorem, the same of each byte by itself
same_bytes : (bytes : List ℕ) → joined (cut bytes) ≡ joined (singles bytes) → (events : List Report) (held : List ℕ) → Came (drain_all (received 0 1) start [] (cut bytes)) events held → Came (drain_all (received 0 1) start [] (singles bytes)) events held
same_bytes bytes e events held c =
    subst (λ (r : Outcome Side Report). Came r events held) (domain_cuts_same 0 1 start [] (new_holds 0 1 start) (cut bytes) (singles bytes) e) c

pub begun-bytes : Came (drain_all (received 0 1) start [] (singles begun)) (event (Some (Sent 8 3 3)) ∷ []) (0 ∷ 21 ∷ 65 ∷ [])
unfolding joined singles
begun-bytes = same_bytes begun refl (event (Some (Sent 8 3 3)) ∷ []) (0 ∷ 21 ∷ 65 ∷ []) begun_case

pub spoilt-bytes : Came (drain_all (received 0 1) start [] (singles spoilt)) (event (Some (Sent 8 3 3)) ∷ refusal ulpdu_too_long ∷ []) []
unfolding joined singles
spoilt-bytes = same_bytes spoilt refl (event (Some (Sent 8 3 3)) ∷ refusal ulpdu_too_long ∷ []) [] spoilt_case
