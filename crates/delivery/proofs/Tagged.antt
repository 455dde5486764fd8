-- One segment of a Write that was read: an open stream takes it, and its payload goes to its place in the window that covers it.
use Prim.Native.Nat.{ℕ, ◌+◌, ◌-◌, ◌≤◌, ◌<◌}
use mathlib.Core.Path.{◌≡◌, refl, sym, ap, ap₂, ◌∙◌}
use mathlib.Core.Bool.{Bool}
use mathlib.Core.List.{List, [], ◌∷◌}
use native.Mathlib.Nat.{add-zero}
use native.Mathlib.Omega.{arith}
use lib.ListN.{length, take-append-drop}
use borrow.Author.Tests.{le-leb, le-ltb, ne_eqb}
use Rattle.wire.specs.Wire.{pick, part, put}
use Rattle.memory.specs.Window.{window_at, slot_named, found_in, wraps, spanned}
use Rattle.memory.specs.declared.part.Part.{Part}
use Rattle.memory.specs.declared.window.Window.{Window}
use Rattle.ddp.specs.Segment.{segment_read}
use Rattle.ddp.specs.Tagged.{tagged_at, tagged_of}
use Rattle.ddp.specs.declared.header.TaggedHeader.{TaggedHeader}
use Rattle.ddp.specs.declared.segment.SegmentRead.{SegmentRead}
use Rattle.ddp.specs.declared.segment.SegmentRead.TheVariants.{Tagged as TaggedSegment}
use Rattle.rdmap.specs.Message.{write_verdict}
use Rattle.rdmap.specs.Phase.{readiness}
use Rattle.rdmap.specs.declared.message.Verdict.{Verdict}
use Rattle.rdmap.specs.declared.message.Verdict.TheVariants.{Nothing, Write}
use Rattle.rdmap.specs.declared.stream.Stream.{Stream}
use Rattle.arrival.specs.Parts.{parts_taken, parts_applied, applied_bytes, tagged_verdict, parts_judged, parts_placed, parts_answered, parts_when, parts_bytes_when, parts_received, parts_received_bytes}
use Rattle.delivery.specs.Promise.{Covers}
use Rattle.delivery.proofs.Segment.{placed-whole}
use Rattle.std.specs.Prelude.{None, Ok, Result}
use Rattle.ddp.specs.declared.refusal.Refusal.{Refusal}
use Rattle.memory.specs.declared.window.StagFault.{StagFault}

-- nothing put anywhere
pub put-none : (l : List ℕ) (at : ℕ) → put l at [] ≡ l
put-none l at = rw add-zero (take-append-drop at l)

-- the header of a Write's segment
abbrev pub write_header : Bool → ℕ → ℕ → TaggedHeader
write_header last stag to = record { last = last; control = 64; stag = stag; to = to }

-- a covered payload is judged to go to its place, and an empty one nowhere
some_judged :
    (w : Window) (number stag to len : ℕ) (last : Bool) → 0 < len → to + len ≤ 18446744073709551616 → Covers w number stag to len →
    tagged_verdict w number (write_header last stag to) len ≡ Ok (Write (w.place + (to - w.base)))
unfolding tagged_of spanned wraps
some_judged w number stag to len last h l c =
    ap (λ (b : Bool). write_verdict w 64 (pick b (Ok None) (tagged_at w (found_in w number stag) to len))) (ne_eqb len 0 (λ e. omega arith))
    ∙ ap (λ (f : Result ℕ StagFault). write_verdict w 64 (tagged_at w f to len)) c.found
    ∙ simp (le-ltb 18446744073709551616 (to + len) l, le-leb w.base to c.above, le-leb (to + len) (w.base + w.len) c.below, c.may)

none_judged : (w : Window) (number stag to : ℕ) (last : Bool) → tagged_verdict w number (write_header last stag to) 0 ≡ (Ok Nothing)
unfolding tagged_of
none_judged w number stag to last = refl

-- what an open stream makes of a tagged segment that is read from the bytes, by its verdict
module _
    (p : Part) (ws : List Window) (number : ℕ) (s : Stream) (input payload bytes : List ℕ) (total start len : ℕ) (h : TaggedHeader) (v : Result Verdict Refusal)
    (ready : readiness s.phase ≡ (Ok tt))
    (read : segment_read s.framing.crc input ≡ Ok (TaggedSegment total h start len))
    (there : part input start len ≡ payload)
    (verdict : tagged_verdict (window_at ws (slot_named h.stag)) number h len ≡ v)
  where
    tagged_answered : parts_received ws number s input ≡ parts_applied s total v
    unfolding parts_received
    tagged_answered =
        ap (parts_when ws number s input) ready
        ∙ ap (λ (r : Result SegmentRead Refusal). parts_answered s (parts_judged ws number s input r)) read
        ∙ ap (parts_applied s total) verdict

    tagged_placed : parts_received_bytes p ws number s input bytes ≡ applied_bytes p.start v payload bytes
    unfolding parts_received_bytes
    tagged_placed =
        ap (parts_bytes_when p ws number s input bytes) ready
        ∙ ap (parts_placed p ws number s input bytes) read
        ∙ ap₂ (λ (x : Result Verdict Refusal) (l : List ℕ). applied_bytes p.start x l bytes) verdict there

-- a Write's segment, received: nothing of the domain changes, and the payload is at its place
module _ (p : Part) (ws : List Window) (number : ℕ) (s : Stream) (input bytes : List ℕ) (total start stag to at : ℕ) (last : Bool) (ready : readiness s.phase ≡ (Ok tt)) where
  abbrev named : Window
  named = window_at ws (slot_named stag)

  pub write_answered :
      (payload : List ℕ) → (0 < length payload → (to + length payload ≤ 18446744073709551616) × Covers named number stag to (length payload)) →
      segment_read s.framing.crc input ≡ Ok (TaggedSegment total (write_header last stag to) start (length payload)) → part input start (length payload) ≡ payload →
      parts_received ws number s input ≡ parts_taken s total None None
  unfolding parts_applied
  write_answered [] c read there = tagged_answered p ws number s input [] bytes total start 0 (write_header last stag to) _ ready read there (none_judged named number stag to last)
  write_answered (y ∷ ys) c read there =
      let k = c (omega arith) in
      tagged_answered p ws number s input (y ∷ ys) bytes total start (length (y ∷ ys)) (write_header last stag to) _ ready read there
      (some_judged named number stag to (length (y ∷ ys)) last (omega arith) k.0 k.1)

  pub write-placed :
      (payload : List ℕ) → length bytes ≡ p.end - p.start →
      (0 < length payload → (to + length payload ≤ 18446744073709551616) × Covers named number stag to (length payload)) →
      (0 < length payload → (p.start ≤ named.place) × (named.place + named.len ≤ p.end)) →
      (0 < length payload → named.place + (to - named.base) - p.start ≡ at) →
      segment_read s.framing.crc input ≡ Ok (TaggedSegment total (write_header last stag to) start (length payload)) → part input start (length payload) ≡ payload →
      parts_received_bytes p ws number s input bytes ≡ put bytes at payload
  unfolding applied_bytes
  write-placed [] long c lies place read there =
      tagged_placed p ws number s input [] bytes total start 0 (write_header last stag to) _ ready read there (none_judged named number stag to last)
      ∙ sym (put-none bytes at)
  write-placed (y ∷ ys) long c lies place read there =
      let k = c (omega arith) in
      let z = lies (omega arith) in
      tagged_placed p ws number s input (y ∷ ys) bytes total start (length (y ∷ ys)) (write_header last stag to) _ ready read there
      (some_judged named number stag to (length (y ∷ ys)) last (omega arith) k.0 k.1)
      ∙ placed-whole p (named.place + (to - named.base)) (y ∷ ys) bytes long (omega (arith, z.0)) (omega (arith, z.1, k.1.above, k.1.below))
      ∙ ap (λ (n : ℕ). put bytes n (y ∷ ys)) (place (omega arith))
