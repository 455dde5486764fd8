-- The same of the device: a message's FPDUs received one after the other on one of its sixteen streams, with all of the store.
use Rattle.std.specs.Prelude.{ℕ, ◌+◌, ◌-◌, ◌/◌, ◌%◌, ◌≤◌, ◌<◌, ◌≢◌, ◌≡◌, true, false, List, [], ◌∷◌, length}
use Rattle.ddp.specs.Untagged.{next_msn}
use Rattle.rdmap.specs.Message.{takes_stag}
use Rattle.domain.specs.Domain.{stream_at}
use Rattle.arrival.specs.declared.Answer.{Answer}
use Rattle.domain.specs.declared.Domain.{Domain}
use Rattle.rnic.specs.Rnic.{domain_at, with_domain, bytes_of, rnic_received, rnic_received_store}
use Rattle.rnic.specs.declared.Rnic.{Rnic}
use Rattle.delivery.specs.Delivery.{payloads, answers_of, events_of, invalidates, sent_domain, written_domain}
use Rattle.delivery.specs.Promise.{SendRoom, WriteRoom, Placed, buffer_of, window_of, event_of}
use Rattle.std.specs.Prelude.{None, Result}
use Rattle.wire.specs.declared.refusal.LocalRefusal.{LocalRefusal}

-- the answers in their order, and the device and the store after the last
pub record DeviceOutcome : Type 0 where
  pub answers : List (Result Answer LocalRefusal)
  pub rnic : Rnic
  pub store : List ℕ

abbrev pub answering_on : Result Answer LocalRefusal → DeviceOutcome → DeviceOutcome
answering_on a r = record { answers = a ∷ r.answers; rnic = r.rnic; store = r.store }

-- the device's receive is called on stream n with each of the inputs, and is lent the store that the call before left
unfoldable pub rnic_received_all : Rnic → ℕ → List ℕ → List (List ℕ) → DeviceOutcome
rnic_received_all b n mem [] = record { answers = []; rnic = b; store = mem }
rnic_received_all b n mem (f ∷ fs) =
    answering_on (rnic_received b (length mem) n f).0
    (rnic_received_all (rnic_received b (length mem) n f).1 n (rnic_received_store b n f mem) fs)

-- "Domain d owns 4d to 4d+3": the domain of a stream
abbrev pub owner_of : Rnic → ℕ → Domain
owner_of b n = domain_at b (n / 4)

-- a device that was opened with this store, and a stream of it that holds no bytes, or receive is refused with 16
pub record Fits (b : Rnic) (n : ℕ) (mem : List ℕ) : Type 0 where
  pub stream : n ≤ 15
  pub four : length b.domains ≡ 4
  pub long : length mem ≡ b.len
  pub ordered : (owner_of b n).part.start ≤ (owner_of b n).part.end
  pub within : (owner_of b n).part.end ≤ length mem
  pub none : (stream_at (owner_of b n) (n % 4)).framing.held ≡ 0

-- ---- what is needed of the stream's domain, and its bytes of the store
abbrev pub DeviceSendRoom : Rnic → ℕ → List ℕ → ℕ → ℕ → ℕ → ℕ → Type 0
DeviceSendRoom b n mem opcode msn stag len = SendRoom (owner_of b n) (n / 4) (n % 4) (bytes_of (owner_of b n) mem) opcode msn stag len

abbrev pub DeviceWriteRoom : Rnic → ℕ → List ℕ → ℕ → ℕ → ℕ → Type 0
DeviceWriteRoom b n mem stag to len = WriteRoom (owner_of b n) (n / 4) (n % 4) (bytes_of (owner_of b n) mem) stag to len

-- ---- what is promised
pub record DeviceSendDelivered (b : Rnic) (n : ℕ) (mem : List ℕ) (inputs fpdus : List (List ℕ)) (opcode stag : ℕ) (message : List ℕ) (r : DeviceOutcome) : Type 0 where
  -- every FPDU is taken, with its total, and the event is on the last; it is the one event
  pub answers : r.answers ≡ answers_of (event_of (owner_of b n) (n % 4) opcode stag message) fpdus
  pub event : events_of r.answers ≡ event_of (owner_of b n) (n % 4) opcode stag message ∷ []
  -- the payloads, as they are read, joined are the message
  pub joined : payloads (stream_at (owner_of b n) (n % 4)).framing.crc inputs ≡ message
  -- it stands in the buffer, and no other byte of the store is changed
  pub placed : Placed mem r.store (buffer_of (owner_of b n) (n % 4)).start message
  -- the whole device afterwards: of the stream's domain what a Send does, and every other domain is as it was
  pub rnic : r.rnic ≡ with_domain b (n / 4) (sent_domain (owner_of b n) (n % 4) (invalidates opcode stag) (length message))
  pub others : (i : ℕ) → i ≢ n / 4 → domain_at r.rnic i ≡ domain_at b i
  pub msn : (stream_at (owner_of r.rnic n) (n % 4)).sends.msn ≡ next_msn (stream_at (owner_of b n) (n % 4)).sends.msn
  pub dead : takes_stag opcode ≡ true → (window_of (owner_of r.rnic n) stag).live ≡ false

pub record DeviceWriteDelivered (b : Rnic) (n : ℕ) (mem : List ℕ) (inputs fpdus : List (List ℕ)) (stag to : ℕ) (message : List ℕ) (r : DeviceOutcome) : Type 0 where
  -- every FPDU is taken, with its total, and there is no event
  pub answers : r.answers ≡ answers_of None fpdus
  pub event : events_of r.answers ≡ []
  pub joined : payloads (stream_at (owner_of b n) (n % 4)).framing.crc inputs ≡ message
  -- it stands at its place in the window, and no other byte of the store is changed
  pub placed : 0 < length message → Placed mem r.store ((window_of (owner_of b n) stag).place + (to - (window_of (owner_of b n) stag).base)) message
  pub empty : length message ≡ 0 → r.store ≡ mem
  -- the device is as it was, but that the message's bytes are counted, of the stream's domain
  pub rnic : r.rnic ≡ with_domain b (n / 4) (written_domain (owner_of b n) (length message))
  pub others : (i : ℕ) → i ≢ n / 4 → domain_at r.rnic i ≡ domain_at b i
