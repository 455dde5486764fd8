-- The first FPDU of some bytes, as a DDP segment: what the framing layer reads, and in its ULPDU the header and the payload.
use Rattle.std.specs.Prelude.{ℕ, ◌+◌, ◌-◌, Bool, List, Err, Ok, Result}
use Rattle.wire.specs.Wire.{part}
use Rattle.mpa.specs.Fpdu.{fpdu_read}
use Rattle.mpa.specs.declared.FpduRead.{FpduRead}
use Rattle.mpa.specs.declared.FpduRead.TheVariants.{Wait as FpduWait, Taken}
use Rattle.ddp.specs.Refusal.{ulpdu_too_long, crc_error}
use Rattle.ddp.specs.Header.{header_read}
use Rattle.ddp.specs.declared.refusal.Refusal.{Refusal}
use Rattle.ddp.specs.declared.segment.SegmentRead.{SegmentRead}
use Rattle.ddp.specs.declared.segment.SegmentRead.TheVariants.{Wait, Tagged as TaggedSegment, Untagged as UntaggedSegment}
use Rattle.ddp.specs.declared.header.Header.{Header}
use Rattle.ddp.specs.declared.header.Header.TheVariants.{Tagged, Untagged}
use Rattle.mpa.specs.declared.FpduFault.{FpduFault}
use Rattle.mpa.specs.declared.FpduFault.TheVariants.{UlpduTooLong, CrcError}

-- the framing layer gives 20 and 21
abbrev pub framing : FpduFault → Refusal
framing UlpduTooLong = ulpdu_too_long
framing CrcError = crc_error

-- in a ULPDU of len bytes from start, the payload is what comes after the header; pad is none of it
abbrev pub segment_of : ℕ → ℕ → ℕ → Result Header Refusal → Result SegmentRead Refusal
segment_of total start len (Ok (Tagged h)) = Ok (TaggedSegment total h (start + 14) (len - 14))
segment_of total start len (Ok (Untagged h)) = Ok (UntaggedSegment total h (start + 18) (len - 18))
segment_of total start len (Err r) = Err r

abbrev pub segment_from : List ℕ → Result FpduRead FpduFault → Result SegmentRead Refusal
segment_from bytes (Ok (FpduWait n)) = Ok (Wait n)
segment_from bytes (Err fault) = Err (framing fault)
segment_from bytes (Ok (Taken total start len)) = segment_of total start len (header_read (part bytes start len))

unfoldable pub segment_read : Bool → List ℕ → Result SegmentRead Refusal
segment_read crc bytes = segment_from bytes (fpdu_read crc bytes)
