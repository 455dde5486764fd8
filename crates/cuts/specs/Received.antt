-- A domain's receive on one of its streams, as specs/Cuts.antt has it: the state is the domain and its bytes of the store, and an
-- event is what an FPDU told or the refusal that ended the stream.
use Rattle.std.specs.Prelude.{ℕ, ◌≤◌, ◌<◌, ◌≡◌, List, [], length}
use Rattle.wire.specs.Wire.{be16_at}
use Rattle.mpa.specs.Fpdu.{max_ulpdu, total_of}
use Rattle.ddp.specs.declared.refusal.Refusal.{Refusal}
use Rattle.domain.specs.Domain.{domain_received, domain_received_bytes}
use Rattle.domain.specs.declared.Domain.{Domain}
use Rattle.arrival.specs.declared.Event.{Event}
use Rattle.arrival.specs.declared.Answer.{Answer}
use Rattle.arrival.specs.declared.Answer.TheVariants.{Wait, Taken, Ended}
use Rattle.cuts.specs.Cuts.{Step, Holds, Offered, offer}
use Rattle.cuts.specs.Cuts.Step.{waits, took, ends, refuses}
use Rattle.cuts.specs.Cuts.Answer.{refused}
use Rattle.std.specs.Prelude.{Err, Ok, Option, Result}
use Rattle.wire.specs.declared.refusal.LocalRefusal.{LocalRefusal}
use Rattle.wire.specs.Refusal.{refusal_number}

-- a domain with its bytes of the store
pub record Side : Type 0 where
  pub domain : Domain
  pub bytes : List ℕ

-- what an FPDU that was taken told, or why the stream ended
pub data Report : Type 0 where
  event : Option Event → Report
  refusal : Refusal → Report

-- the domain and its bytes after a call of receive
abbrev pub side_after : ℕ → ℕ → Side → List ℕ → Side
side_after number slot w input = record {
  domain = (domain_received w.domain number slot input).1;
  bytes = domain_received_bytes w.domain number slot input w.bytes;
}

-- a Wait and a local refusal change nothing
abbrev pub step_of : Result Answer LocalRefusal → Side → Step Side Report
step_of (Ok (Wait n)) w = waits
step_of (Ok (Taken total e)) w = took total (event e) w
step_of (Ok (Ended r)) w = ends (refusal r) w
step_of (Err k) w = refuses (refusal_number k)

-- receive on the stream of a slot of domain number
unfoldable pub received : ℕ → ℕ → Side → List ℕ → Step Side Report
received number slot w input = step_of (domain_received w.domain number slot input).0 (side_after number slot w input)

-- ---- what is promised

-- a stream may hold these bytes: they complete nothing. A stream that holds nothing is so
abbrev pub MayHold : ℕ → ℕ → Side → List ℕ → Type 0
MayHold number slot w held = Holds held (received number slot w held)

-- held bytes are fewer than the longest FPDU has, and, once its length is there, than the one that they begin
pub record Short (held : List ℕ) : Type 0 where
  pub fits : length held < total_of max_ulpdu
  pub begins : 2 ≤ length held → (be16_at held 0 ≤ max_ulpdu) × (length held < total_of (be16_at held 0))

-- a stream that has ended: nothing is held, and every later offer is refused with 5, changes nothing and is not kept
pub record Over (number slot : ℕ) (o : Offered Side Report) : Type 0 where
  pub empty : o.held ≡ []
  pub later : (q : List ℕ) → offer (received number slot) o.state o.held q ≡ record { answer = refused 5; state = o.state; held = [] }
