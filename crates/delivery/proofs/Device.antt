-- What the writer writes, the device takes: the store afterwards is the old one with the message at its place, and every other
-- domain is as it was. From what is promised of the stream's domain.
-- Assumes nothing.
use Prim.Native.Nat.{ℕ, ◌+◌, ◌-◌, ◌/◌, ◌%◌, ◌≤◌}
use mathlib.Core.Logic.{◌≢◌}
use mathlib.Core.Path.{◌≡◌, ap, ◌∙◌}
use mathlib.Core.List.{List}
use native.Mathlib.Omega.{arith}
use lib.ListN.{length}
use lib.Seq.{get_or-set_same, get_or-set_other}
use borrow.Rule.Slice.PartMut.{put_same}
use Rattle.wire.specs.Wire.{put}
use Rattle.domain.specs.Domain.{stream_at}
use Rattle.domain.specs.declared.Domain.{Domain}
use Rattle.rnic.specs.Rnic.{no_domain, domain_at, with_domain, bytes_of, with_bytes}
use Rattle.rnic.specs.declared.Rnic.{Rnic}
use Rattle.sender.specs.Message.{write_begun, send_begun}
use Rattle.sender.specs.declared.Message.{Message}
use Rattle.delivery.specs.Delivery.{fpdus_of, Begin, Outcome, received_all, events_of}
use Rattle.delivery.specs.Promise.{SendDelivered, WriteDelivered, buffer_of, window_of}
use Rattle.delivery.specs.Device.{DeviceOutcome, rnic_received_all, owner_of, Fits, DeviceSendRoom, DeviceWriteRoom, DeviceSendDelivered, DeviceWriteDelivered}
use Rattle.delivery.proofs.Delivery.{send_delivered, write_delivered}
use Rattle.delivery.proofs.Lifted.{all-lifted}
use Rattle.delivery.proofs.Placed.{put-placed}
use Rattle.delivery.proofs.Store.{put_in_store}
use Rattle.std.specs.Prelude.{Ok}

module _ (b : Rnic) (n : ℕ) (mem : List ℕ) (f : Fits b n mem) (inputs : List (List ℕ)) where
  abbrev owned : Outcome
  owned = received_all (owner_of b n) (n / 4) (n % 4) (bytes_of (owner_of b n) mem) inputs

  abbrev all : DeviceOutcome
  all = rnic_received_all b n mem inputs

  answers-same : all.answers ≡ owned.answers
  answers-same = ap (λ (r : DeviceOutcome). r.answers) (all-lifted b n mem f inputs)

  rnic-is : all.rnic ≡ with_domain b (n / 4) owned.domain
  rnic-is = ap (λ (r : DeviceOutcome). r.rnic) (all-lifted b n mem f inputs)

  owner_is : owner_of all.rnic n ≡ owned.domain
  owner_is = ap (λ (x : Rnic). domain_at x (n / 4)) rnic-is ∙ get_or-set_same b.domains (n / 4) owned.domain no_domain (omega (arith, f.four, f.stream))

  other_is : (i : ℕ) → i ≢ n / 4 → domain_at all.rnic i ≡ domain_at b i
  other_is i ne = ap (λ (x : Rnic). domain_at x i) rnic-is ∙ get_or-set_other b.domains (n / 4) i owned.domain no_domain ne

  store_is : (bytes : List ℕ) → owned.bytes ≡ bytes → all.store ≡ with_bytes (owner_of b n) mem bytes
  store_is bytes e = ap (λ (r : DeviceOutcome). r.store) (all-lifted b n mem f inputs) ∙ ap (with_bytes (owner_of b n) mem) e

  -- put in the domain's bytes, it is put in the store
  store-put :
      (at : ℕ) (message : List ℕ) → (owner_of b n).part.start ≤ at → at + length message ≤ (owner_of b n).part.end →
      owned.bytes ≡ put (bytes_of (owner_of b n) mem) (at - (owner_of b n).part.start) message → all.store ≡ put mem at message
  store-put at message low high e =
      store_is (put (bytes_of (owner_of b n) mem) (at - (owner_of b n).part.start) message) e
      ∙ put_in_store (owner_of b n).part.start (owner_of b n).part.end mem f.ordered f.within at message low high

  module _
      (limit opcode msn stag : ℕ) (message : List ℕ) (m : Message) (begun : send_begun limit opcode msn stag (length message) ≡ Ok m)
      (room : DeviceSendRoom b n mem opcode msn stag (length message)) (begin : Begin inputs (fpdus_of m message))
    where
      sent : SendDelivered (owner_of b n) (n % 4) (bytes_of (owner_of b n) mem) inputs (fpdus_of m message) opcode stag message owned
      sent = send_delivered limit opcode msn stag message m begun (owner_of b n) (n / 4) (n % 4) (bytes_of (owner_of b n) mem) room inputs begin

      pub device-send_delivered : DeviceSendDelivered b n mem inputs (fpdus_of m message) opcode stag message (rnic_received_all b n mem inputs)
      device-send_delivered = record {
        answers = answers-same ∙ sent.answers;
        event = ap events_of answers-same ∙ sent.event;
        joined = sent.joined;
        placed =
            put-placed mem (buffer_of (owner_of b n) (n % 4)).start message (omega (arith, room.enough, room.lies.upto, f.within)) _
            (store-put (buffer_of (owner_of b n) (n % 4)).start message room.lies.from (omega (arith, room.enough, room.lies.upto)) sent.placed.is);
        rnic = rnic-is ∙ ap (with_domain b (n / 4)) sent.domain;
        others = other_is;
        msn = ap (λ (x : Domain). (stream_at x (n % 4)).sends.msn) owner_is ∙ sent.msn;
        dead = λ e. ap (λ (x : Domain). (window_of x stag).live) owner_is ∙ sent.dead e;
      }

  module _
      (limit stag to : ℕ) (message : List ℕ) (m : Message) (begun : write_begun limit stag to (length message) ≡ Ok m)
      (room : DeviceWriteRoom b n mem stag to (length message)) (begin : Begin inputs (fpdus_of m message))
    where
      written : WriteDelivered (owner_of b n) (n % 4) (bytes_of (owner_of b n) mem) inputs (fpdus_of m message) stag to message owned
      written = write_delivered limit stag to message m begun (owner_of b n) (n / 4) (n % 4) (bytes_of (owner_of b n) mem) room inputs begin

      pub device-write_delivered : DeviceWriteDelivered b n mem inputs (fpdus_of m message) stag to message (rnic_received_all b n mem inputs)
      device-write_delivered = record {
        answers = answers-same ∙ written.answers;
        event = ap events_of answers-same ∙ written.event;
        joined = written.joined;
        placed = λ l.
            let c = room.covers l in
            let z = room.lies l in
            put-placed mem ((window_of (owner_of b n) stag).place + (to - (window_of (owner_of b n) stag).base)) message (omega (arith, c.above, c.below, z.upto, f.within)) _
            (store-put ((window_of (owner_of b n) stag).place + (to - (window_of (owner_of b n) stag).base)) message (omega (arith, z.from)) (omega (arith, c.above, c.below, z.upto)) (written.placed l).is);
        empty = λ e. store_is (bytes_of (owner_of b n) mem) (written.empty e) ∙ put_same (owner_of b n).part.start ((owner_of b n).part.end - (owner_of b n).part.start) mem;
        rnic = rnic-is ∙ ap (with_domain b (n / 4)) written.domain;
        others = other_is;
      }
