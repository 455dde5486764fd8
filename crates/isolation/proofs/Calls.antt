-- One call of the device, by the contract of the function called (`Post`, as the prover makes it of the source), so that no second
-- model stands between the theorem and the code; an offer, which no function of the device by value does, by its definition. Its book is
-- specs/Book.antt; a run of calls is proofs/Runs.antt.
use Prim.Native.Nat.{ℕ, ◌+◌, ◌*◌}
use mathlib.Core.Path.{◌≡◌}
use mathlib.Core.Bool.{Bool, true, false}
use mathlib.Core.List.{List, []}
use lib.ListN.{length, take}
use lib.Dec.{leb, eqb}
use denote.Ref.{Bor, MutBor, at_last}
use contract.Lifetimes.{Lfts}
use Rattle.wire.specs.Wire.{pick}
use Rattle.domain.specs.Domain.{stream_at}
use Rattle.domain.specs.declared.Domain.{Domain}
use Rattle.holding.specs.declared.OfferAnswer.{OfferAnswer}
use Rattle.rnic.specs.Rnic.{domain_at, bytes_of}
use Rattle.rnic.specs.Offer.{rooms_bytes, room_of, rnic_offered, rnic_offer_answer, rnic_offered_store, rnic_offered_rooms}
use Rattle.isolation.specs.Book.{Call, Answer, View, Opening}
use Rattle.isolation.specs.Book.Call.{open_stream, close_stream, register, drop_window, post, receive, offer, take_read, live, free, tick, read_gauge, ask_state}
use Rattle.isolation.specs.Book.Answer.{done, closed, received, offered, taken, counted, gauge_read, stated}
use Rattle.isolation.specs.Number.{Numbered}
use Rattle.rnic.specs.declared.Rnic.{Rnic}
use Rattle.rnic.proofs.open.Reads as open-reads
use Rattle.rnic.proofs.open_stream.Reads as open-stream-reads
use Rattle.rnic.proofs.close_stream.Reads as close-stream-reads
use Rattle.rnic.proofs.register.Reads as register-reads
use Rattle.rnic.proofs.drop_window.Reads as drop-window-reads
use Rattle.rnic.proofs.post.Reads as post-reads
use Rattle.rnic.proofs.receive.Reads as receive-reads
use Rattle.rnic.proofs.take.Reads as take-reads
use Rattle.rnic.proofs.live_count.Reads as live-count-reads
use Rattle.rnic.proofs.lowest_free.Reads as lowest-free-reads
use Rattle.rnic.proofs.tick.Reads as tick-reads
use Rattle.rnic.proofs.reading.Reads as reading-reads
use Rattle.rnic.proofs.stream_state.Reads as stream-state-reads
use Rattle.calls.proofs.call.Reads as call-reads
use Rattle.std.specs.Prelude.{Err, Ok, Result, ⊤}
use Rattle.wire.specs.declared.refusal.LocalRefusal.{LocalRefusal}
use Rattle.arrival.specs.declared.Answer.{Answer as ReceiveAnswer}

-- the device, the store of which it was opened, and the second slice, of sixteen rooms
pub record World : Type 0 where
  pub dev : Rnic
  pub mem : List ℕ
  pub rooms : List ℕ

-- the bytes that the stream of a slot of domain A holds: as many as its record says of those that its room starts with
abbrev pub held_in : ℕ → Domain → List ℕ → ℕ → List ℕ
held_in A d rooms slot = pick (leb slot 3) (take (stream_at d slot).framing.held (room_of rooms (4 * A + slot))) []

-- what domain A has in a world
abbrev pub view : ℕ → World → View
view A w = record {
  size = w.dev.len;
  dom = domain_at w.dev A;
  bytes = bytes_of (domain_at w.dev A) w.mem;
  held = held_in A (domain_at w.dev A) w.rooms;
}

-- a call that is lent no slice, with arguments x: some result that meets the contract, the answer in it, and the device in it
pub record PlainStep {X R : Type 0} (Post : Lfts 0 → X → R → X → Type 0) (x : X) (answer : R → Answer) (rnic : R → Rnic) (w : World) (a : Answer) (w₁ : World) : Type 0 where
  pub result : R
  pub contract : Post tt x result x
  pub answered : a ≡ answer result
  pub world : w₁ ≡ record { dev = rnic result; mem = w.mem; rooms = w.rooms }

-- a slice of some size lent to a call as a memory of length len, and what it holds afterwards. It is that memory if it is as long as
-- that, and the caller's own otherwise
pub record Lent (mem : List ℕ) (len size : ℕ) : Type 0 where
  pub slice : MutBor (List ℕ)
  pub after : List ℕ
  pub long : length slice.now ≡ size
  pub whole : size ≡ len → slice.now ≡ mem

-- the memory after a call that was lent a slice
abbrev pub memory_after : (mem : List ℕ) (len size : ℕ) → Lent mem len size → List ℕ
memory_after mem len size s = pick (eqb size len) s.after mem

-- a slice lent as the store, and one lent as the second
abbrev pub LentStore : World → ℕ → Type 0
LentStore w k = Lent w.mem w.dev.len k

abbrev pub LentRooms : World → ℕ → Type 0
LentRooms w m = Lent w.rooms rooms_bytes m

abbrev pub store_after : (w : World) (k : ℕ) → LentStore w k → List ℕ
store_after w k s = memory_after w.mem w.dev.len k s

abbrev pub rooms_after : (w : World) (m : ℕ) → LentRooms w m → List ℕ
rooms_after w m s = memory_after w.rooms rooms_bytes m s

-- receive, which is lent a slice of length k
pub record ReceiveStep (w : World) (n : ℕ) (input : List ℕ) (k : ℕ) (a : Answer) (w₁ : World) : Type 0 where
  pub lifetimes : Lfts 2
  pub lent : LentStore w k
  pub bytes : Bor (List ℕ)
  pub given : bytes.now ≡ input
  pub result : Result ReceiveAnswer LocalRefusal × Rnic
  pub contract : receive-reads.Post lifetimes (w.dev, (lent.slice, (n, (bytes, tt)))) result (w.dev, (at_last lent.slice lent.after, (n, (bytes, tt))))
  pub answered : a ≡ received result.0
  pub world : w₁ ≡ record { dev = result.1; mem = store_after w k lent; rooms = w.rooms }

-- an offer, which is lent a slice of length k as the store and one of length m as the second; form is how its answer is given
pub record OfferStep {R : Type 0} (form : Result OfferAnswer LocalRefusal → R) (w : World) (n : ℕ) (input : List ℕ) (k m : ℕ) (x : R) (w₁ : World) : Type 0 where
  pub store : LentStore w k
  pub second : LentRooms w m
  pub answered : x ≡ form (rnic_offer_answer w.dev k n second.slice.now input)
  pub stored : store.after ≡ rnic_offered_store w.dev n second.slice.now input store.slice.now
  pub kept : second.after ≡ rnic_offered_rooms w.dev k n second.slice.now input
  pub world : w₁ ≡ record { dev = (rnic_offered w.dev k n second.slice.now input).1; mem = store_after w k store; rooms = rooms_after w m second }

-- one call, by the device's own function, or an offer by its definition
abbrev pub Step : World → Call → Answer → World → Type 0
Step w (open_stream n crc) = PlainStep open-stream-reads.Post (w.dev, (n, (crc, tt))) (λ r. done r.0) (λ r. r.1) w
Step w (close_stream n) = PlainStep close-stream-reads.Post (w.dev, (n, tt)) (λ r. closed r.0) (λ r. r.1) w
Step w (register i key base len place rights) =
    PlainStep register-reads.Post (w.dev, (i, (key, (base, (len, (place, (rights, tt))))))) (λ r. done r.0) (λ r. r.1) w
Step w (drop_window i) = PlainStep drop-window-reads.Post (w.dev, (i, tt)) (λ r. done r.0) (λ r. r.1) w
Step w (post n start len) = PlainStep post-reads.Post (w.dev, (n, (start, (len, tt)))) (λ r. done r.0) (λ r. r.1) w
Step w (receive n input k) = ReceiveStep w n input k
Step w (offer n input k m) = OfferStep offered w n input k m
Step w (take_read n) = PlainStep take-reads.Post (w.dev, (n, tt)) (λ r. taken r.0) (λ r. r.1) w
Step w (live d) = PlainStep live-count-reads.Post (w.dev, (d, tt)) counted (λ r. w.dev) w
Step w (free d) = PlainStep lowest-free-reads.Post (w.dev, (d, tt)) counted (λ r. w.dev) w
Step w (tick d) = PlainStep tick-reads.Post (w.dev, (d, tt)) (λ r. done r.0) (λ r. r.1) w
Step w (read_gauge d) = PlainStep reading-reads.Post (w.dev, (d, tt)) gauge_read (λ r. w.dev) w
Step w (ask_state n) = PlainStep stream-state-reads.Post (w.dev, (n, tt)) stated (λ r. w.dev) w

-- one call, by its number: `call` of the crate `calls`, which is lent a slice whatever the call
pub record NumberStep (w : World) (c : Numbered) (words : List ℕ) (w₁ : World) : Type 0 where
  pub lifetimes : Lfts 4
  pub lent : LentStore w c.size
  pub args : Bor (List ℕ)
  pub args_are : args.now ≡ c.args
  pub bytes : Bor (List ℕ)
  pub given : bytes.now ≡ c.input
  pub answer : MutBor (List ℕ)
  pub result : Rnic
  pub contract :
      call-reads.Post lifetimes (w.dev, (lent.slice, (c.number, (args, (bytes, (answer, tt))))))
      result (w.dev, (at_last lent.slice lent.after, (c.number, (args, (bytes, (at_last answer words, tt))))))
  pub world : w₁ ≡ record { dev = result; mem = store_after w c.size lent; rooms = w.rooms }

-- ---- the opening
abbrev pub accepted : Result ⊤ LocalRefusal → Bool
accepted (Ok tt) = true
accepted (Err n) = false

-- the world that an opening makes of the caller's store and second slice, by the contract of `open`. After a refused one the store is
-- empty. Of the second slice nothing is asked but its length: no stream is open, so none holds a byte
abbrev pub Opened : Opening → List ℕ → List ℕ → World → Type 0
Opened o mem rooms w =
    (r : Result ⊤ LocalRefusal × Rnic) ×
    open-reads.Post tt (o.len, (o.s₀, (o.e₀, (o.s₁, (o.e₁, (o.s₂, (o.e₂, (o.s₃, (o.e₃, tt))))))))) r (o.len, (o.s₀, (o.e₀, (o.s₁, (o.e₁, (o.s₂, (o.e₂, (o.s₃, (o.e₃, tt))))))))) ×
    (accepted r.0 ≡ true → length mem ≡ o.len) ×
    (length rooms ≡ rooms_bytes) ×
    (w ≡ record { dev = r.1; mem = pick (accepted r.0) mem []; rooms = rooms })
