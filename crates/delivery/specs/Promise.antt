-- What a message needs to be delivered, and what is then promised: each under a name.
use Rattle.std.specs.Prelude.{ℕ, ◌+◌, ◌-◌, ◌≤◌, ◌<◌, ◌≡◌, true, false, List, [], ◌∷◌, length, get_or}
use Rattle.wire.specs.Wire.{part, put}
use Rattle.memory.specs.Window.{window_at, slot_named, found_in}
use Rattle.memory.specs.declared.buffer.Buffer.{Buffer}
use Rattle.memory.specs.declared.part.Part.{Part}
use Rattle.memory.specs.declared.window.Window.{Window}
use Rattle.ddp.specs.Untagged.{next_msn}
use Rattle.rdmap.specs.Message.{may_write, takes_stag}
use Rattle.rdmap.specs.Phase.{readiness}
use Rattle.rdmap.specs.Sends.{current_buffer}
use Rattle.domain.specs.Domain.{stream_at}
use Rattle.arrival.specs.Parts.{sent_event}
use Rattle.domain.specs.declared.Domain.{Domain}
use Rattle.arrival.specs.declared.Event.{Event}
use Rattle.delivery.specs.Delivery.{Outcome, payloads, answers_of, events_of, invalidates, sent_domain, written_domain}
use Rattle.std.specs.Prelude.{None, Ok, Option}

-- ---- what is needed

-- the len bytes from a place of the store lie in a part of it
pub record Within (p : Part) (place len : ℕ) : Type 0 where
  pub from : p.start ≤ place
  pub upto : place + len ≤ p.end

-- a stream of a domain is open, and the domain's bytes are as many as its part has
pub record Open (d : Domain) (slot : ℕ) (bytes : List ℕ) : Type 0 where
  pub four : length d.streams ≡ 4
  pub inside : slot < 4
  pub ready : readiness (stream_at d slot).phase ≡ (Ok tt)
  pub whole : length bytes ≡ d.part.end - d.part.start

-- the buffer that a stream of a domain fills next
abbrev pub buffer_of : Domain → ℕ → Buffer
buffer_of d slot = current_buffer (stream_at d slot).sends

-- a Send of len bytes: the stream is between messages and expects that MSN; a buffer waits that is at least as long; and an STag to
-- invalidate names a live window of the domain
pub record SendRoom (d : Domain) (number slot : ℕ) (bytes : List ℕ) (opcode msn stag len : ℕ) : Type 0 where
  pub opened : Open d slot bytes
  pub idle : (stream_at d slot).sends.opcode ≡ 0
  pub none : (stream_at d slot).sends.taken ≡ 0
  pub expected : (stream_at d slot).sends.msn ≡ msn
  pub waits : 0 < (stream_at d slot).sends.buffers.count
  pub enough : len ≤ (buffer_of d slot).len
  pub lies : Within d.part (buffer_of d slot).start (buffer_of d slot).len
  pub live : takes_stag opcode ≡ true → found_in (window_at d.windows (slot_named stag)) number stag ≡ Ok (slot_named stag)

-- the STag names a live window of the domain, with the write right, and the len bytes from TO lie in it
pub record Covers (w : Window) (number stag to len : ℕ) : Type 0 where
  pub found : found_in w number stag ≡ Ok (slot_named stag)
  pub may : may_write w ≡ true
  pub above : w.base ≤ to
  pub below : to + len ≤ w.base + w.len

-- the window in the slot that an STag names
abbrev pub window_of : Domain → ℕ → Window
window_of d stag = window_at d.windows (slot_named stag)

-- a Write of len bytes: a window covers it. Of an empty one nothing is asked
pub record WriteRoom (d : Domain) (number slot : ℕ) (bytes : List ℕ) (stag to len : ℕ) : Type 0 where
  pub opened : Open d slot bytes
  pub covers : 0 < len → Covers (window_of d stag) number stag to len
  pub lies : 0 < len → Within d.part (window_of d stag).place (window_of d stag).len

-- ---- what is promised, of what receiving the inputs gives

-- the bytes after, of which those of the message stand at a place, and no other is changed
pub record Placed (bytes after : List ℕ) (place : ℕ) (message : List ℕ) : Type 0 where
  pub is : after ≡ put bytes place message
  pub there : part after place (length message) ≡ message
  pub as_long : length after ≡ length bytes
  pub before : (i : ℕ) → i < place → get_or after i 0 ≡ get_or bytes i 0
  pub behind : (i : ℕ) → place + length message ≤ i → get_or after i 0 ≡ get_or bytes i 0

-- "buffer start, message length, opcode, and for 4 and 6 the STag"
abbrev pub event_of : Domain → ℕ → ℕ → ℕ → List ℕ → Option Event
event_of d slot opcode stag message = sent_event (buffer_of d slot).start (length message) opcode (invalidates opcode stag)

pub record SendDelivered (d : Domain) (slot : ℕ) (bytes : List ℕ) (inputs fpdus : List (List ℕ)) (opcode stag : ℕ) (message : List ℕ) (r : Outcome) : Type 0 where
  -- every FPDU is taken, with its total, and the event is on the last
  pub answers : r.answers ≡ answers_of (event_of d slot opcode stag message) fpdus
  -- the one event is the Send's
  pub event : events_of r.answers ≡ event_of d slot opcode stag message ∷ []
  -- the payloads, as they are read, joined are the message
  pub joined : payloads (stream_at d slot).framing.crc inputs ≡ message
  -- it stands in the buffer, and no other byte is changed
  pub placed : Placed bytes r.bytes ((buffer_of d slot).start - d.part.start) message
  -- the whole domain afterwards
  pub domain : r.domain ≡ sent_domain d slot (invalidates opcode stag) (length message)
  -- of it, the MSN, and the window that it invalidates
  pub msn : (stream_at r.domain slot).sends.msn ≡ next_msn (stream_at d slot).sends.msn
  pub dead : takes_stag opcode ≡ true → (window_of r.domain stag).live ≡ false

pub record WriteDelivered (d : Domain) (slot : ℕ) (bytes : List ℕ) (inputs fpdus : List (List ℕ)) (stag to : ℕ) (message : List ℕ) (r : Outcome) : Type 0 where
  -- every FPDU is taken, with its total, and there is no event
  pub answers : r.answers ≡ answers_of None fpdus
  pub event : events_of r.answers ≡ []
  pub joined : payloads (stream_at d slot).framing.crc inputs ≡ message
  -- it stands at its place in the window, and no other byte is changed
  pub placed : 0 < length message → Placed bytes r.bytes ((window_of d stag).place + (to - (window_of d stag).base) - d.part.start) message
  pub empty : length message ≡ 0 → r.bytes ≡ bytes
  -- the domain is as it was, but that the message's bytes are counted
  pub domain : r.domain ≡ written_domain d (length message)
