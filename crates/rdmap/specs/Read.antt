-- Queue 1: the peer's Read Requests, and those that wait on a stream.
use Rattle.std.specs.Prelude.{ℕ, ◌+◌, ◌-◌, List, [], ◌∷◌, ◌++◌, get_or, set, drop, replicate, ltb, eqb}
use Rattle.wire.specs.Wire.{pick, be32_at, be64_at}
use Rattle.ddp.specs.Untagged.{next_msn}
use Rattle.ddp.specs.declared.untagged.Queue.{Queue}
use Rattle.rdmap.specs.declared.read.ReadRequest.{ReadRequest}
use Rattle.rdmap.specs.declared.read.Reads.{Reads}

-- "Read Request payload, 28 bytes: sink STag 4, sink TO 8, size 4, source STag 4, source TO 8"
abbrev pub request_at : List ℕ → ReadRequest
request_at p = record {
  sink_stag = be32_at p 0;
  sink_to = be64_at p 4;
  size = be32_at p 12;
  source_stag = be32_at p 16;
  source_to = be64_at p 20;
}

abbrev pub no_read : ReadRequest
no_read = record { sink_stag = 0; sink_to = 0; size = 0; source_stag = 0; source_to = 0 }

-- no request waits
abbrev pub empty_reads : ℕ → Reads
empty_reads msn = record { msn = msn; count = 0; entries = replicate 8 no_read }

-- the one that came first
abbrev pub first_read : Reads → ReadRequest
first_read q = get_or q.entries 0 no_read

-- "Waiting reads: up to 8 on each stream"; a new one comes last, and the number "rises by one after the segment with L"
unfoldable pub queued_reads : Reads → ReadRequest → Reads
queued_reads q new =
    pick (ltb q.count 8) (record { msn = next_msn q.msn; count = q.count + 1; entries = set q.entries q.count new }) q

-- "Taking one gives the oldest and frees its room"
unfoldable pub popped_reads : Reads → Reads
popped_reads q =
    pick (eqb q.count 0) q (record { msn = q.msn; count = q.count - 1; entries = drop 1 q.entries ++ (no_read ∷ []) })

-- what the queue expects: a Read Request of 28 bytes where fewer than 8 wait
abbrev pub read_queue : Reads → Queue
read_queue q = record { msn = q.msn; room = ltb q.count 8; limit = 28; taken = 0 }
