-- The theorem is not about nothing: on stream 5, of domain 1, a Send comes in pieces that end where they like, and then the first three
-- bytes of another, or a Terminate with bytes after it. The same of the uncut run, and byte by byte.
use Prim.Native.Nat.{ℕ}
use mathlib.Core.Path.{◌≡◌, refl, sym, ap, ◌∙◌}
use mathlib.Core.Bool.{false}
use mathlib.Core.List.{List, [], ◌∷◌, ◌++◌}
use lib.ListN.{set, replicate}
use Rattle.wire.specs.Wire.{put}
use Rattle.mpa.specs.Fpdu.{fpdu_read, fpdu_read_of}
use Rattle.memory.specs.Buffer.{no_buffer, popped_of}
use Rattle.memory.specs.Window.{no_window}
use Rattle.ddp.specs.Header.{tagged_fields, untagged_fields, tagged_read, untagged_read, header_read}
use Rattle.ddp.specs.Place.{fits, placed}
use Rattle.ddp.specs.Segment.{segment_read}
use Rattle.ddp.specs.Untagged.{untagged_in, untagged_of}
use Rattle.rdmap.specs.Message.{send_verdict, terminate_verdict, message_verdict, queue_of}
use Rattle.rdmap.specs.Phase.{phase_of}
use Rattle.rdmap.specs.Framing.{new_framing}
use Rattle.rdmap.specs.Read.{empty_reads}
use Rattle.rdmap.specs.Stream.{closed_stream}
use Rattle.rdmap.specs.Terminates.{empty_terminates}
use Rattle.meter.specs.Gauge.{new_meter}
use Rattle.arrival.specs.Parts.{parts_applied, placed_from, applied_bytes, parts_received, parts_received_bytes}
use Rattle.arrival.specs.declared.Event.TheVariants.{Sent, Terminated}
use Rattle.cuts.specs.Received.{Report}
use Rattle.cuts.specs.Received.Report.{event}
use Rattle.cuts.proofs.Domain.{new_holds}
use Rattle.holding.specs.Machine.{side_of}
use Rattle.holding.specs.Offer.{parts_offered, parts_offered_bytes, domain_offered, domain_offered_bytes, domain_offered_held}
use Rattle.isolation.specs.Book.{Call, View, book_trace, book_view}
use Rattle.isolation.specs.Uncut.{events_in, book_events, has_end, offers_of, left_over, uncut, ones, HoldsPart, SameFor, Cut}
use Rattle.isolation.specs.Uncut.Through.{all, over}
use Rattle.isolation.proofs.Uncut.{cut-same, cut-uncut, bytes_cut}
use Rattle.std.specs.Prelude.{Some}

-- a store of 200 bytes, of which domain 1 has those from 64 to 128; its stream 1 is open with the CRC off, expects MSN 5 and has a buffer of
-- 16 bytes at 72
abbrev start : View
start = record {
  size = 200;
  dom = record {
    part = record { start = 64; end = 128 };
    windows = replicate 16 no_window;
    streams = set (replicate 4 closed_stream) 1 (record {
      phase = phase_of 1;
      framing = new_framing false;
      sends = record { msn = 5; opcode = 0; taken = 0; buffers = record { count = 1; entries = set (replicate 8 no_buffer) 0 (record { start = 72; len = 16 }) } };
      reads = empty_reads 1;
      terminates = empty_terminates 1;
    });
    meter = new_meter;
  };
  bytes = replicate 64 0;
  held = λ slot. [];
}

start-holds : HoldsPart 1 start 5
start-holds = record { counted = refl; part = new_holds 1 1 (side_of 1 start.dom start.bytes) }

-- a Send of three bytes, whole, with a pad byte and a CRC that is not looked at; a Terminate, likewise
abbrev send : List ℕ
send = 0 ∷ 21 ∷ 65 ∷ 67 ∷ 0 ∷ 0 ∷ 0 ∷ 0 ∷ 0 ∷ 0 ∷ 0 ∷ 0 ∷ 0 ∷ 0 ∷ 0 ∷ 5 ∷ 0 ∷ 0 ∷ 0 ∷ 0 ∷ 10 ∷ 20 ∷ 30 ∷ 0 ∷ 0 ∷ 0 ∷ 0 ∷ 0 ∷ []

abbrev terminate : List ℕ
terminate = 0 ∷ 22 ∷ 65 ∷ 71 ∷ 0 ∷ 0 ∷ 0 ∷ 0 ∷ 0 ∷ 0 ∷ 0 ∷ 2 ∷ 0 ∷ 0 ∷ 0 ∷ 1 ∷ 0 ∷ 0 ∷ 0 ∷ 0 ∷ 17 ∷ 5 ∷ 0 ∷ 0 ∷ 0 ∷ 0 ∷ 0 ∷ 0 ∷ []

abbrev begun : List ℕ
begun = send ++ (0 ∷ 21 ∷ 65 ∷ [])

abbrev ended : List ℕ
ended = send ++ terminate ++ (0 ∷ 21 ∷ 65 ∷ [])

-- one byte, then some up to after the Send, and twice all that is left
abbrev counts : List ℕ
counts = 1 ∷ 28 ∷ 31 ∷ 31 ∷ []

-- what came of calls: the events, the Send's bytes in the buffer and no other changed, and what is held
abbrev pub Came : List Call → List Report → List ℕ → Type 0
Came calls events held = (book_events 1 start calls ≡ events) × ((book_view 1 start calls).bytes ≡ put start.bytes 8 (10 ∷ 20 ∷ 30 ∷ [])) × ((book_view 1 start calls).held 1 ≡ held)

pub begun_case : Came (offers_of 1 start 5 begun counts) (event (Some (Sent 72 3 3)) ∷ []) (0 ∷ 21 ∷ 65 ∷ [])
unfolding events_in book_trace book_view offers_of domain_offered domain_offered_bytes domain_offered_held parts_offered parts_offered_bytes parts_received parts_received_bytes parts_applied placed_from applied_bytes segment_read fpdu_read fpdu_read_of header_read tagged_read untagged_read tagged_fields untagged_fields untagged_of untagged_in queue_of message_verdict send_verdict terminate_verdict placed fits popped_of
begun_case = (refl, refl, refl)

pub ended_case : Came (offers_of 1 start 5 ended counts) (event (Some (Sent 72 3 3)) ∷ event (Some (Terminated 1 1 5)) ∷ []) []
unfolding events_in book_trace book_view offers_of domain_offered domain_offered_bytes domain_offered_held parts_offered parts_offered_bytes parts_received parts_received_bytes parts_applied placed_from applied_bytes segment_read fpdu_read fpdu_read_of header_read tagged_read untagged_read tagged_fields untagged_fields untagged_of untagged_in queue_of message_verdict send_verdict terminate_verdict placed fits popped_of
ended_case = (refl, refl, refl)

-- nothing is left of either
begun-cut : Cut 1 start 5 begun (offers_of 1 start 5 begun counts)
unfolding left_over domain_offered domain_offered_bytes domain_offered_held parts_offered parts_offered_bytes parts_received parts_received_bytes parts_applied placed_from applied_bytes segment_read fpdu_read fpdu_read_of header_read tagged_read untagged_read tagged_fields untagged_fields untagged_of untagged_in queue_of message_verdict send_verdict terminate_verdict placed fits popped_of
begun-cut = record { counts = counts; are = refl; through = all refl }

ended-cut : Cut 1 start 5 ended (offers_of 1 start 5 ended counts)
unfolding left_over domain_offered domain_offered_bytes domain_offered_held parts_offered parts_offered_bytes parts_received parts_received_bytes parts_applied placed_from applied_bytes segment_read fpdu_read fpdu_read_of header_read tagged_read untagged_read tagged_fields untagged_fields untagged_of untagged_in queue_of message_verdict send_verdict terminate_verdict placed fits popped_of
ended-cut = record { counts = counts; are = refl; through = all refl }

-- and a caller that stops at the Terminate, with three bytes left
pub stopped_cut : Cut 1 start 5 ended (offers_of 1 start 5 ended (1 ∷ 28 ∷ 31 ∷ []))
unfolding has_end events_in book_trace offers_of domain_offered domain_offered_bytes domain_offered_held parts_offered parts_offered_bytes parts_received parts_received_bytes parts_applied placed_from applied_bytes segment_read fpdu_read fpdu_read_of header_read tagged_read untagged_read tagged_fields untagged_fields untagged_of untagged_in queue_of message_verdict send_verdict terminate_verdict placed fits popped_of
stopped_cut = record { counts = 1 ∷ 28 ∷ 31 ∷ []; are = refl; through = over refl }

-- by the theorem, the same of other calls
moved : (cs ds : List Call) → SameFor 1 start cs ds → (events : List Report) (held : List ℕ) → Came cs events held → Came ds events held
moved cs ds s events held c = (sym s.events ∙ c.0, ap (λ (v : View). v.bytes) (sym s.end) ∙ c.1, ap (λ (v : View). v.held 1) (sym s.end) ∙ c.2)

-- of the uncut run, and of each byte by itself
module _ (bytes : List ℕ) (events : List Report) (held : List ℕ) (cut : Cut 1 start 5 bytes (offers_of 1 start 5 bytes counts)) (came : Came (offers_of 1 start 5 bytes counts) events held) where
  uncut_came : Came (uncut 1 start 5 bytes) events held
  uncut_came = moved (offers_of 1 start 5 bytes counts) (uncut 1 start 5 bytes) (cut-uncut 1 5 start bytes start-holds (offers_of 1 start 5 bytes counts) cut) events held came

  bytes_came : Came (offers_of 1 start 5 bytes (ones bytes)) events held
  bytes_came =
      let calls : List Call = offers_of 1 start 5 bytes counts in
      let each : List Call = offers_of 1 start 5 bytes (ones bytes) in
      moved calls each (cut-same 1 5 start bytes start-holds calls each cut (bytes_cut 1 5 start bytes start-holds)) events held came

pub begun-uncut : Came (uncut 1 start 5 begun) (event (Some (Sent 72 3 3)) ∷ []) (0 ∷ 21 ∷ 65 ∷ [])
begun-uncut = uncut_came begun (event (Some (Sent 72 3 3)) ∷ []) (0 ∷ 21 ∷ 65 ∷ []) begun-cut begun_case

pub begun-bytes : Came (offers_of 1 start 5 begun (ones begun)) (event (Some (Sent 72 3 3)) ∷ []) (0 ∷ 21 ∷ 65 ∷ [])
begun-bytes = bytes_came begun (event (Some (Sent 72 3 3)) ∷ []) (0 ∷ 21 ∷ 65 ∷ []) begun-cut begun_case

pub ended-uncut : Came (uncut 1 start 5 ended) (event (Some (Sent 72 3 3)) ∷ event (Some (Terminated 1 1 5)) ∷ []) []
ended-uncut = uncut_came ended (event (Some (Sent 72 3 3)) ∷ event (Some (Terminated 1 1 5)) ∷ []) [] ended-cut ended_case

pub ended-bytes : Came (offers_of 1 start 5 ended (ones ended)) (event (Some (Sent 72 3 3)) ∷ event (Some (Terminated 1 1 5)) ∷ []) []
ended-bytes = bytes_came ended (event (Some (Sent 72 3 3)) ∷ event (Some (Terminated 1 1 5)) ∷ []) [] ended-cut ended_case
