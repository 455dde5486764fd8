-- A ULPDU's payload, and its header put together from fields that are read one by one. What the header is, is `header_read` of
-- the crate `ddp`; that the header of the fields is the same is shown in proofs/InTurn.antt.
use Rattle.std.specs.Prelude.{ℕ, ◌+◌, List, [], get_or, drop, ltb, Err, None, Ok, Option, Result, Some}
use Rattle.wire.specs.Wire.{pick, be32_at}
use Rattle.ddp.specs.Refusal.{segment_too_short, tagged_version, untagged_version}
use Rattle.ddp.specs.Header.{tagged_bit, last_bit, version_one, header_read}
use Rattle.segment_reader.specs.Field.{left_from}
use Rattle.ddp.specs.declared.header.Header.{Header}
use Rattle.ddp.specs.declared.header.Header.TheVariants.{Tagged, Untagged}
use Rattle.ddp.specs.declared.refusal.Refusal.{Refusal}
use Rattle.segment_reader.specs.declared.header.Start.{Start}
use Rattle.segment_reader.specs.declared.header.Queue.{Queue}

-- the payload is what comes after the header, "14 bytes" or "18 bytes"; of a refused ULPDU there is none
abbrev pub payload_after : List ℕ → Result Header Refusal → List ℕ
payload_after u (Ok (Tagged h)) = drop 14 u
payload_after u (Ok (Untagged h)) = drop 18 u
payload_after u (Err r) = []

abbrev pub payload_of : List ℕ → List ℕ
payload_of u = payload_after u (header_read u)

-- what both headers begin with, at a place: "control, RDMAP control, STag 4"
abbrev pub start_at : List ℕ → ℕ → Option Start
start_at l at = pick (ltb (left_from l at) 6) None (Some (record { first = get_or l at 0; control = get_or l (at + 1) 0; stag = be32_at l (at + 2) }))

-- what an untagged one goes on with: "queue QN 4, message number MSN 4, message offset MO 4"
abbrev pub queue_at : List ℕ → ℕ → Option Queue
queue_at l at = pick (ltb (left_from l at) 12) None (Some (record { qn = be32_at l at; msn = be32_at l (at + 4); mo = be32_at l (at + 8) }))

-- the same of fields that were read one by one
abbrev pub start_of : Option ℕ → Option ℕ → Option ℕ → Option Start
start_of (Some first) (Some control) (Some stag) = Some (record { first = first; control = control; stag = stag })
start_of (Some first) (Some control) None = None
start_of (Some first) None stag = None
start_of None control stag = None

abbrev pub queue_of : Option ℕ → Option ℕ → Option ℕ → Option Queue
queue_of (Some qn) (Some msn) (Some mo) = Some (record { qn = qn; msn = msn; mo = mo })
queue_of (Some qn) (Some msn) None = None
queue_of (Some qn) None mo = None
queue_of None msn mo = None

-- the header of its fields: 22 where one is missing, 23 where the version is another
abbrev pub tagged_header_of : ℕ → ℕ → ℕ → ℕ → Result Header Refusal
tagged_header_of first control stag to =
    pick (version_one first) (Ok (Tagged (record { last = last_bit first; control = control; stag = stag; to = to }))) (Err tagged_version)

abbrev pub untagged_header_of : ℕ → ℕ → ℕ → Option Queue → Result Header Refusal
untagged_header_of first control stag (Some q) =
    pick (version_one first)
    (Ok (Untagged (record { last = last_bit first; control = control; stag = stag; qn = q.qn; msn = q.msn; mo = q.mo })))
    (Err untagged_version)
untagged_header_of first control stag None = Err segment_too_short

abbrev pub header_of : Option Start → Option ℕ → Option Queue → Result Header Refusal
header_of (Some s) (Some to) queue =
    pick (tagged_bit s.first) (tagged_header_of s.first s.control s.stag to) (untagged_header_of s.first s.control s.stag queue)
header_of (Some s) None queue = Err segment_too_short
header_of None to queue = Err segment_too_short
