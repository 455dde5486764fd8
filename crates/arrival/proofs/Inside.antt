-- The payload of a segment that was read lies in the bytes: by cases on the frame and on its header, of which only one way
-- gives a segment.
use Prim.Native.Nat.{ℕ, ◌+◌, ◌-◌, ◌≤◌}
use mathlib.Core.Path.{◌≡◌, refl, sym, ap, subst}
use mathlib.Core.Bool.{Bool}
use mathlib.Core.List.{List}
use native.Mathlib.Nat.{add-sub_cancel_left}
use native.Mathlib.Omega.{arith}
use lib.ListN.{length, take, drop}
use Rattle.wire.specs.Wire.{part}
use Rattle.wire.proofs.Laws.{length_part}
use Rattle.mpa.specs.Fpdu.{fpdu_read}
use Rattle.mpa.specs.declared.FpduRead.{FpduRead}
use Rattle.mpa.specs.declared.FpduRead.TheVariants.{Wait as FpduWait, Taken}
use Rattle.ddp.specs.Header.{header_read}
use Rattle.ddp.specs.Segment.{segment_of, segment_from, segment_read}
use Rattle.ddp.specs.declared.segment.SegmentRead.{SegmentRead}
use Rattle.ddp.specs.declared.segment.SegmentRead.TheVariants.{Wait, Tagged as TaggedSegment, Untagged as UntaggedSegment}
use Rattle.mpa.proofs.Taken.{ulpdu_inside}
use Rattle.ddp.proofs.Segments.{tagged_from, untagged_from}
use Rattle.std.specs.Prelude.{Err, Ok, Result}
use Rattle.ddp.specs.declared.header.Header.{Header}
use Rattle.ddp.specs.declared.header.Header.TheVariants.{Tagged, Untagged}
use Rattle.ddp.specs.declared.refusal.Refusal.{Refusal}
use Rattle.mpa.specs.declared.FpduFault.{FpduFault}

-- what is lent of the bytes is the payload
pub lent : (bytes : List ℕ) (start len : ℕ) → take (start + len - start) (drop start bytes) ≡ part bytes start len
lent bytes start len = ap (λ (n : ℕ). take n (drop start bytes)) (add-sub_cancel_left start len)

-- where the payload ends
abbrev pub ends : Result SegmentRead Refusal → ℕ
ends (Ok (Wait n)) = 0
ends (Err r) = 0
ends (Ok (TaggedSegment total h start len)) = start + len
ends (Ok (UntaggedSegment total h start len)) = start + len

module _ (crc : Bool) (bytes : List ℕ) where
  headed :
      (total start len : ℕ) → start + len ≤ length bytes →
      (r : Result Header Refusal) → header_read (part bytes start len) ≡ r → ends (segment_of total start len r) ≤ length bytes
  headed total start len l (Ok (Tagged h)) e = omega (arith, tagged_from (part bytes start len) h e, length_part bytes start len l)
  headed total start len l (Ok (Untagged h)) e = omega (arith, untagged_from (part bytes start len) h e, length_part bytes start len l)
  headed total start len l (Err r) e = omega arith

  framed : (f : Result FpduRead FpduFault) → fpdu_read crc bytes ≡ f → ends (segment_from bytes f) ≤ length bytes
  framed (Ok (FpduWait n)) e = omega arith
  framed (Err n) e = omega arith
  framed (Ok (Taken total start len)) e =
      headed total start len (ulpdu_inside crc bytes total start len e) (header_read (part bytes start len)) refl

  pub segment_inside : ends (segment_read crc bytes) ≤ length bytes
  unfolding segment_read
  segment_inside = framed (fpdu_read crc bytes) refl

  pub inside : (s : Result SegmentRead Refusal) → s ≡ segment_read crc bytes → ends s ≤ length bytes
  inside s e = subst (λ (x : Result SegmentRead Refusal). ends x ≤ length bytes) (sym e) segment_inside
