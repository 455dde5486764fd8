-- The payload that the reader hands back is the one that `read_segment` of the crate `ddp` names by its start and its length.
use Prim.Native.Nat.{ℕ, zero, suc, ◌+◌, ◌-◌}
use mathlib.Core.List.{List, [], ◌∷◌}
use mathlib.Core.Path.{◌≡◌, refl, sym, ap, ◌∙◌}
use native.Mathlib.Nat.{sub-zero, zero-sub, suc-sub-suc}
use lib.ListN.{take, drop}
use lib.Seq.{take-nil, drop-drop}
use Rattle.wire.specs.Wire.{part}
use Rattle.ddp.specs.Header.{header_read}
use Rattle.ddp.specs.Segment.{segment_of}
use Rattle.ddp.specs.declared.segment.SegmentRead.{SegmentRead}
use Rattle.ddp.specs.declared.segment.SegmentRead.TheVariants.{Wait, Tagged as TaggedSegment, Untagged as UntaggedSegment}
use Rattle.segment_reader.specs.Header.{payload_after, payload_of}
use Rattle.std.specs.Prelude.{Err, Ok, Result}
use Rattle.ddp.specs.declared.header.Header.{Header}
use Rattle.ddp.specs.declared.header.Header.TheVariants.{Tagged, Untagged}
use Rattle.ddp.specs.declared.refusal.Refusal.{Refusal}

-- the payload of a segment that was read: the bytes that it names
abbrev pub named : List ℕ → Result SegmentRead Refusal → List ℕ
named bytes (Ok (Wait n)) = []
named bytes (Err r) = []
named bytes (Ok (TaggedSegment total h start len)) = part bytes start len
named bytes (Ok (UntaggedSegment total h start len)) = part bytes start len

drop-take : (k n : ℕ) (l : List ℕ) → drop k (take n l) ≡ take (n - k) (drop k l)
drop-take zero n l = ap (λ (m : ℕ). take m l) (sym (sub-zero n))
drop-take (suc k) zero l = ap (λ (m : ℕ). take m (drop (suc k) l)) (sym (zero-sub (suc k)))
drop-take (suc k) (suc n) [] = sym (take-nil (suc n - suc k))
drop-take (suc k) (suc n) (x ∷ xs) = drop-take k n xs ∙ ap (λ (m : ℕ). take m (drop k xs)) (sym (suc-sub-suc n k))

after : (bytes : List ℕ) (start len k : ℕ) → drop k (part bytes start len) ≡ part bytes (start + k) (len - k)
after bytes start len k = drop-take k len (drop start bytes) ∙ ap (take (len - k)) (drop-drop k start bytes)

by_kind : (bytes : List ℕ) (total start len : ℕ) (h : Result Header Refusal) → payload_after (part bytes start len) h ≡ named bytes (segment_of total start len h)
by_kind bytes total start len (Ok (Tagged h)) = after bytes start len 14
by_kind bytes total start len (Ok (Untagged h)) = after bytes start len 18
by_kind bytes total start len (Err r) = refl

-- of the ULPDU that is the len bytes from start
pub payload_named : (bytes : List ℕ) (total start len : ℕ) → payload_of (part bytes start len) ≡ named bytes (segment_of total start len (header_read (part bytes start len)))
payload_named bytes total start len = by_kind bytes total start len (header_read (part bytes start len))
