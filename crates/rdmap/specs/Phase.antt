-- Where a stream stands: 0 closed, 1 open, 2 ended by a refusal, which it keeps, 3 ended by the peer's Terminate.
use Rattle.std.specs.Prelude.{ℕ, Bool, eqb, Err, Ok, Result, ⊤}
use Rattle.wire.specs.Wire.{pick}
use Rattle.ddp.specs.declared.refusal.Refusal.{Refusal}
use Rattle.rdmap.specs.declared.phase.Phase.{Phase}
use Rattle.wire.specs.declared.refusal.LocalRefusal.{LocalRefusal}
use Rattle.wire.specs.declared.refusal.LocalRefusal.TheVariants.{NotOpen, StreamEnded}

abbrev pub phase_of : ℕ → Phase
phase_of state = record { state = state; refusal = record { number = 0; layer = 0; etype = 0; code = 0 } }

-- "this stream ends and keeps the code"
abbrev pub ended_phase : Refusal → Phase
ended_phase r = record { state = 2; refusal = r }

abbrev pub is_closed : Phase → Bool
is_closed p = eqb p.state 0

-- 3 stream not open; 5 stream ended, "which in 3 and 4 still counts as open"
abbrev pub readiness : Phase → Result ⊤ LocalRefusal
readiness p = pick (eqb p.state 0) (Err NotOpen) (pick (eqb p.state 1) (Ok tt) (Err StreamEnded))
