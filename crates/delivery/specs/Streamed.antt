-- FPDUs as they come: one stream of bytes, from which receive takes one after the other.
use Rattle.std.specs.Prelude.{ℕ, zero, suc, List, [], ◌∷◌, ◌++◌, drop}
use Rattle.domain.specs.Domain.{domain_received, domain_received_bytes}
use Rattle.domain.specs.declared.Domain.{Domain}
use Rattle.arrival.specs.declared.Answer.{Answer}
use Rattle.arrival.specs.declared.Answer.TheVariants.{Wait, Taken, Ended}
use Rattle.delivery.specs.Delivery.{Outcome, answering}
use Rattle.std.specs.Prelude.{Err, Ok, Result}
use Rattle.wire.specs.declared.refusal.LocalRefusal.{LocalRefusal}

-- the bytes of all FPDUs, and what comes after them
unfoldable pub stream_of : List (List ℕ) → List ℕ → List ℕ
stream_of [] after = after
stream_of (f ∷ fs) after = f ++ stream_of fs after

-- what is left of it before each is taken
unfoldable pub left_of : List (List ℕ) → List ℕ → List (List ℕ)
left_of [] after = []
left_of (f ∷ fs) after = stream_of (f ∷ fs) after ∷ left_of fs after

-- "Taken, with the FPDU's total": the caller goes on after it
abbrev pub gone_on : Result Answer LocalRefusal → List ℕ → List ℕ
gone_on (Ok (Wait n)) input = input
gone_on (Ok (Taken total e)) input = drop total input
gone_on (Ok (Ended r)) input = input
gone_on (Err k) input = input

-- the outcome of some calls, and what is left of the stream after the last
pub record StreamOutcome : Type 0 where
  pub outcome : Outcome
  pub left : List ℕ

abbrev pub answering_first : Result Answer LocalRefusal → StreamOutcome → StreamOutcome
answering_first a r = record { outcome = answering a r.outcome; left = r.left }

-- so many calls of receive, each given all that is left
unfoldable pub received_from : ℕ → Domain → ℕ → ℕ → List ℕ → List ℕ → StreamOutcome
received_from zero d number slot bytes input = record { outcome = record { answers = []; domain = d; bytes = bytes }; left = input }
received_from (suc calls) d number slot bytes input =
    answering_first (domain_received d number slot input).0
    (received_from calls (domain_received d number slot input).1 number slot (domain_received_bytes d number slot input bytes)
    (gone_on (domain_received d number slot input).0 input))
