-- Queue 2: the peer's Terminate.
use Rattle.std.specs.Prelude.{ℕ, true}
use Rattle.ddp.specs.Untagged.{next_msn}
use Rattle.ddp.specs.declared.untagged.Queue.{Queue}
use Rattle.rdmap.specs.declared.terminates.Terminates.{Terminates}

abbrev pub empty_terminates : ℕ → Terminates
empty_terminates msn = record { msn = msn }

-- "rises by one after the segment with L"
abbrev pub risen_terminates : Terminates → Terminates
risen_terminates q = record { msn = next_msn q.msn }

-- what the queue expects: a Terminate of at most 52 bytes
abbrev pub terminate_queue : Terminates → Queue
terminate_queue q = record { msn = q.msn; room = true; limit = 52; taken = 0 }
