-- The writers of a domain: the places that a peer's Write or Send may fill. A writer is a live window with the write right, or a buffer that waits.
use Rattle.std.specs.Prelude.{ℕ, ◌+◌, ◌%◌, ◌≤◌, ◌<◌, ◌≢◌, ◌≡◌, true, false, List, ◌++◌, get_or}
use Rattle.memory.specs.Window.{window_at, slot_named}
use Rattle.memory.specs.Buffer.{no_buffer}
use Rattle.memory.specs.declared.buffer.Buffer.{Buffer}
use Rattle.memory.specs.declared.buffer.Buffers.{Buffers}
use Rattle.ddp.specs.Segment.{segment_read}
use Rattle.ddp.specs.declared.segment.SegmentRead.{SegmentRead}
use Rattle.ddp.specs.declared.segment.SegmentRead.TheVariants.{Wait, Tagged, Untagged}
use Rattle.domain.specs.Domain.{stream_at}
use Rattle.overlap.specs.Sharing.{shares, writable}
use Rattle.domain.specs.declared.Domain.{Domain}
use Rattle.rnic.specs.Rnic.{domain_at}
use Rattle.rnic.specs.Offer.{held_bytes}
use Rattle.rnic.specs.declared.Rnic.{Rnic}
use Rattle.isolation.specs.Book.{Call, of_stream}
use Rattle.isolation.specs.Book.Call.{open_stream, close_stream, register, drop_window, post, receive, offer, take_read, live, free, tick, read_gauge, ask_state}
use Rattle.std.specs.Prelude.{Err, Ok, Result}
use Rattle.ddp.specs.declared.refusal.Refusal.{Refusal}

-- the window of a slot, or the buffer that waits as the k-th on the stream of a slot
pub data Writer : Type 0 where
  window : (i : ℕ) → Writer
  buffer : (slot k : ℕ) → Writer

abbrev pub buffers_of : Domain → ℕ → Buffers
buffers_of d slot = (stream_at d slot).sends.buffers

abbrev pub buffer_at : Domain → ℕ → ℕ → Buffer
buffer_at d slot k = get_or (buffers_of d slot).entries k no_buffer

-- it is one now: the window is live and has the write right; so many buffers wait, the one in fill (k = 0) included
abbrev pub Writes : Domain → Writer → Type 0
Writes d (window i) = writable (window_at d.windows i) ≡ true
Writes d (buffer slot k) = k < (buffers_of d slot).count

-- where its bytes are, and how many
abbrev pub start_of : Domain → Writer → ℕ
start_of d (window i) = (window_at d.windows i).place
start_of d (buffer slot k) = (buffer_at d slot k).start

abbrev pub len_of : Domain → Writer → ℕ
len_of d (window i) = (window_at d.windows i).len
len_of d (buffer slot k) = (buffer_at d slot k).len

-- byte x is one of the n bytes from a
abbrev pub Covers : ℕ → ℕ → ℕ → Type 0
Covers a n x = (a ≤ x) × (x < a + n)

-- byte x is a writer's
abbrev pub Has : Domain → Writer → ℕ → Type 0
Has d a x = Covers (start_of d a) (len_of d a) x

-- no two writers of a domain share a byte: no two write windows, no two waiting buffers, no such pair
abbrev pub Apart : Domain → Type 0
Apart d = (a b : Writer) → a ≢ b → Writes d a → Writes d b → shares (start_of d a) (len_of d a) (start_of d b) (len_of d b) ≡ false

-- the writer that a segment on the stream of a slot is for: the window in the slot that its STag names, or the buffer in fill
abbrev pub target : ℕ → Result SegmentRead Refusal → Writer
target slot (Ok (Wait n)) = buffer slot 0
target slot (Err r) = buffer slot 0
target slot (Ok (Tagged total h start len)) = window (slot_named h.stag)
target slot (Ok (Untagged total h start len)) = buffer slot 0

-- and the first segment of an input
abbrev pub receiver : Domain → ℕ → List ℕ → Writer
receiver d slot input = target slot (segment_read (stream_at d slot).framing.crc input)

-- the one writer, of one domain, that a call may fill, made on a device b with these rooms: a receive on stream n fills its receiver, an
-- offer that of the pending bytes, those that the stream holds and then its own, and no other call fills any
abbrev pub Fills : Rnic → List ℕ → Call → ℕ → Writer → Type 0
Fills b rooms (open_stream n crc) A a = ⊥
Fills b rooms (close_stream n) A a = ⊥
Fills b rooms (register w key base len place rights) A a = ⊥
Fills b rooms (drop_window w) A a = ⊥
Fills b rooms (post n start len) A a = ⊥
Fills b rooms (receive n input k) A a = (of_stream n ≡ A) × (a ≡ receiver (domain_at b A) (n % 4) input)
Fills b rooms (offer n input k m) A a = (of_stream n ≡ A) × (a ≡ receiver (domain_at b A) (n % 4) (held_bytes b n rooms ++ input))
Fills b rooms (take_read n) A a = ⊥
Fills b rooms (live d) A a = ⊥
Fills b rooms (free d) A a = ⊥
Fills b rooms (tick d) A a = ⊥
Fills b rooms (read_gauge d) A a = ⊥
Fills b rooms (ask_state n) A a = ⊥
