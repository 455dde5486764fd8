-- Segment headers (RFC 5041, section 4), read and written.
use Rattle.std.specs.Prelude.{ℕ, ◌+◌, ◌/◌, ◌%◌, Bool, true, false, List, ◌∷◌, ◌++◌, length, ◌==◌, nat_le, nat_lt, slice_index, Err, Ok, Result}
use Rattle.wire.specs.Wire.{pick, put, be32, be32_at, be64, be64_at}
use Rattle.ddp.specs.Refusal.{segment_too_short, tagged_version, untagged_version}
use Rattle.ddp.specs.declared.header.TaggedHeader.{TaggedHeader}
use Rattle.ddp.specs.declared.header.UntaggedHeader.{UntaggedHeader}
use Rattle.ddp.specs.declared.header.Header.{Header}
use Rattle.ddp.specs.declared.header.Header.TheVariants.{Tagged, Untagged}
use Rattle.ddp.specs.declared.refusal.Refusal.{Refusal}
use Rattle.wire.specs.declared.refusal.LocalRefusal.{LocalRefusal}
use Rattle.wire.specs.declared.refusal.LocalRefusal.TheVariants.{NoRoom}

-- "byte 0 has T 0x80, L 0x40, version in the low two bits, which is 1"; reserved bits are not looked at
abbrev pub tagged_bit : ℕ → Bool
tagged_bit b = nat_le 0x80 b

abbrev pub last_bit : ℕ → Bool
last_bit b = b / 0x40 % 2 == 1

abbrev pub version_one : ℕ → Bool
version_one b = b % 4 == 1

-- "Tagged (T set), 14 bytes: control, RDMAP control, STag 4, tagged offset TO 8"
unfoldable pub tagged_fields : List ℕ → TaggedHeader
tagged_fields u = record { last = last_bit (slice_index u 0); control = slice_index u 1; stag = be32_at u 2; to = be64_at u 6 }

-- "Untagged, 18 bytes: control, RDMAP control, invalidate STag 4, queue QN 4, message number MSN 4, message offset MO 4"
unfoldable pub untagged_fields : List ℕ → UntaggedHeader
untagged_fields u = record {
  last = last_bit (slice_index u 0);
  control = slice_index u 1;
  stag = be32_at u 2;
  qn = be32_at u 6;
  msn = be32_at u 10;
  mo = be32_at u 14;
}

-- 22 "ULPDU under 14, or untagged under 18"; 23 DDP version
unfoldable pub tagged_read : List ℕ → Result Header Refusal
tagged_read u = pick (version_one (slice_index u 0)) (Ok (Tagged (tagged_fields u))) (Err tagged_version)

unfoldable pub untagged_read : List ℕ → Result Header Refusal
untagged_read u =
    pick (nat_lt (length u) 18) (Err segment_too_short)
    (pick (version_one (slice_index u 0)) (Ok (Untagged (untagged_fields u))) (Err untagged_version))

unfoldable pub header_read : List ℕ → Result Header Refusal
header_read u =
    pick (nat_lt (length u) 14) (Err segment_too_short)
    (pick (tagged_bit (slice_index u 0)) (tagged_read u) (untagged_read u))

-- the first byte: T, L and version 1; "Reserved bits are written 0"
unfoldable pub control_of : Bool → Bool → ℕ
control_of tagged last = pick tagged 0x80 0 + pick last 0x40 0 + 1

-- what both headers begin with: control, RDMAP control, STag
unfoldable pub start_bytes : Bool → Bool → ℕ → ℕ → List ℕ
start_bytes tagged last control stag = control_of tagged last ∷ control ∷ be32 stag

unfoldable pub tagged_bytes : TaggedHeader → List ℕ
tagged_bytes h = start_bytes true h.last h.control h.stag ++ be64 h.to

unfoldable pub untagged_bytes : UntaggedHeader → List ℕ
untagged_bytes h =
    start_bytes false h.last h.control h.stag ++ (be32 h.qn ++ (be32 h.msn ++ be32 h.mo))

-- writing n bytes into room bytes: 13 output slice too small, or their length
unfoldable pub header_written : ℕ → ℕ → Result ℕ LocalRefusal
header_written n room = pick (nat_lt room n) (Err NoRoom) (Ok n)

-- and the slice afterwards: "it keeps its bytes"; a writer "leaves the rest of its slice alone"
unfoldable pub written_out : List ℕ → List ℕ → List ℕ
written_out bytes out = pick (nat_lt (length out) (length bytes)) out (put out 0 bytes)
