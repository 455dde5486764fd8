-- FPDUs in one stream of bytes: where each is taken when it is given, a caller that goes on by the totals gives each in turn, and
-- has what comes after them left.
-- Assumes nothing.
use Prim.Native.Nat.{ℕ}
use mathlib.Core.Path.{◌≡◌, refl, ap, ◌∙◌}
use mathlib.Core.List.{List, [], ◌∷◌, ◌++◌}
use lib.ListN.{length}
use lib.Seq.{drop-append_seam}
use Rattle.domain.specs.Domain.{domain_received, domain_received_bytes}
use Rattle.domain.specs.declared.Domain.{Domain}
use Rattle.arrival.specs.declared.Event.{Event}
use Rattle.arrival.specs.declared.Answer.{Answer}
use Rattle.arrival.specs.declared.Answer.TheVariants.{Wait}
use Rattle.sender.specs.Message.{write_begun, send_begun}
use Rattle.sender.specs.declared.Message.{Message}
use Rattle.delivery.specs.Delivery.{fpdus_of, Begin, received_all, answers_of}
use Rattle.delivery.specs.Promise.{SendRoom, WriteRoom, SendDelivered, WriteDelivered, event_of}
use Rattle.delivery.specs.Streamed.{stream_of, left_of, gone_on, answering_first, received_from}
use Rattle.delivery.proofs.Delivery.{send_delivered, write_delivered}
use Rattle.std.specs.Prelude.{None, Ok, Option, Result}
use Rattle.wire.specs.declared.refusal.LocalRefusal.{LocalRefusal}

-- what is left begins with the FPDU that is next
pub begin_left : (fs : List (List ℕ)) (after : List ℕ) → Begin (left_of fs after) fs
unfolding left_of stream_of
begin_left [] after = tt
begin_left (f ∷ fs) after = ((stream_of fs after, refl), begin_left fs after)

-- the first of some answers, and the others
abbrev first_of : List (Result Answer LocalRefusal) → Result Answer LocalRefusal
first_of [] = Ok (Wait 0)
first_of (a ∷ others) = a

abbrev others_of : List (Result Answer LocalRefusal) → List (Result Answer LocalRefusal)
others_of [] = []
others_of (a ∷ others) = others

module _ (number slot : ℕ) (e : Option Event) (after : List ℕ) where
  pub streamed :
      (fs : List (List ℕ)) (d : Domain) (bytes : List ℕ) → (received_all d number slot bytes (left_of fs after)).answers ≡ answers_of e fs →
      received_from (length fs) d number slot bytes (stream_of fs after) ≡ record { outcome = received_all d number slot bytes (left_of fs after); left = after }
  unfolding received_all received_from stream_of left_of answers_of
  streamed [] d bytes q = refl
  streamed (f ∷ fs) d bytes q =
      let input : List ℕ = f ++ stream_of fs after in
      let first : (domain_received d number slot input).0 ≡ _ = ap first_of q in
      ap (λ (z : List ℕ). answering_first (domain_received d number slot input).0 (received_from (length fs) (domain_received d number slot input).1 number slot (domain_received_bytes d number slot input bytes) z))
      (ap (λ (a : Result Answer LocalRefusal). gone_on a input) first ∙ drop-append_seam f (stream_of fs after))
      ∙ ap (answering_first (domain_received d number slot input).0) (streamed fs (domain_received d number slot input).1 (domain_received_bytes d number slot input bytes) (ap others_of q))

-- a message's FPDUs in one stream of bytes, whatever comes after them: as many calls as there are FPDUs deliver it, and leave what comes after
module _ (d : Domain) (number slot : ℕ) (bytes message : List ℕ) (m : Message) (after : List ℕ) where
  abbrev pub FromStream : Type 0
  FromStream =
      received_from (length (fpdus_of m message)) d number slot bytes (stream_of (fpdus_of m message) after)
      ≡ record { outcome = received_all d number slot bytes (left_of (fpdus_of m message) after); left = after }

  pub send_streamed :
      (limit opcode msn stag : ℕ) → send_begun limit opcode msn stag (length message) ≡ Ok m → SendRoom d number slot bytes opcode msn stag (length message) →
      FromStream × SendDelivered d slot bytes (left_of (fpdus_of m message) after) (fpdus_of m message) opcode stag message (received_all d number slot bytes (left_of (fpdus_of m message) after))
  send_streamed limit opcode msn stag begun room =
      let r = send_delivered limit opcode msn stag message m begun d number slot bytes room (left_of (fpdus_of m message) after) (begin_left (fpdus_of m message) after) in
      (streamed number slot (event_of d slot opcode stag message) after (fpdus_of m message) d bytes r.answers, r)

  pub write_streamed :
      (limit stag to : ℕ) → write_begun limit stag to (length message) ≡ Ok m → WriteRoom d number slot bytes stag to (length message) →
      FromStream × WriteDelivered d slot bytes (left_of (fpdus_of m message) after) (fpdus_of m message) stag to message (received_all d number slot bytes (left_of (fpdus_of m message) after))
  write_streamed limit stag to begun room =
      let r = write_delivered limit stag to message m begun d number slot bytes room (left_of (fpdus_of m message) after) (begin_left (fpdus_of m message) after) in
      (streamed number slot None after (fpdus_of m message) d bytes r.answers, r)
