-- One call of a host, by the contract of the C entry that it calls (`Post`, proofs/Entries.antt). The words that a call leaves in the
-- block are the words that the next one is given.
use Prim.Native.Nat.{ℕ}
use mathlib.Core.Path.{◌≡◌}
use mathlib.Core.Bool.{true}
use mathlib.Core.List.{List, []}
use lib.ListN.{length}
use denote.Ref.{Bor, MutBor, at_last}
use contract.Lifetimes.{Lfts}
use Rattle.wire.specs.Wire.{pick}
use Rattle.rnic.specs.Offer.{rooms_bytes}
use Rattle.block.specs.Device.{rnic_at}
use Rattle.isolation.specs.Book.{View, Opening}
use Rattle.isolation.specs.Number.{Numbered}
use Rattle.isolation.proofs.Calls.{World, LentStore, LentRooms, store_after, rooms_after, view}
use Rattle.isolation_c.specs.Request.{Request, opening_numbers, says_done}
use Rattle.isolation_c.specs.Request.Request.{by_number, receiving, offering}
use Rattle.isolation_c.proofs.Entries.{CallPost, ReceivePost, OfferPost}

-- what a host has: the words of its one block, the bytes of its one store, and those of its one second slice
pub record Host : Type 0 where
  pub words : List ℕ
  pub store : List ℕ
  pub rooms : List ℕ

-- the device that the words hold, the store, and the second slice
abbrev pub world_of : Host → World
world_of h = record { dev = rnic_at h.words; mem = h.store; rooms = h.rooms }

-- what domain A has
abbrev pub view_in : ℕ → Host → View
view_in A h = view A (world_of h)

-- `rnic_c_call`: the block before and after, the slice lent, and x the words of the answer
pub record CallStep (h : Host) (c : Numbered) (x : List ℕ) (h₁ : Host) : Type 0 where
  pub lifetimes : Lfts 5
  pub device : MutBor (List ℕ)
  pub words_are : device.now ≡ h.words
  pub lent : LentStore (world_of h) c.size
  pub args : Bor (List ℕ)
  pub args_are : args.now ≡ c.args
  pub bytes : Bor (List ℕ)
  pub given : bytes.now ≡ c.input
  pub answer : MutBor (List ℕ)
  pub contract :
      CallPost lifetimes (device, (lent.slice, (c.number, (args, (bytes, (answer, tt)))))) tt
      (at_last device h₁.words, (at_last lent.slice lent.after, (c.number, (args, (bytes, (at_last answer x, tt))))))
  pub store : h₁.store ≡ store_after (world_of h) c.size lent
  pub rooms : h₁.rooms ≡ h.rooms

-- `rnic_c_receive`, which is lent a slice of length k
pub record ReceiveStep (h : Host) (n : ℕ) (input : List ℕ) (k : ℕ) (x : List ℕ) (h₁ : Host) : Type 0 where
  pub lifetimes : Lfts 4
  pub device : MutBor (List ℕ)
  pub words_are : device.now ≡ h.words
  pub lent : LentStore (world_of h) k
  pub bytes : Bor (List ℕ)
  pub given : bytes.now ≡ input
  pub answer : MutBor (List ℕ)
  pub contract :
      ReceivePost lifetimes (device, (lent.slice, (n, (bytes, (answer, tt))))) tt
      (at_last device h₁.words, (at_last lent.slice lent.after, (n, (bytes, (at_last answer x, tt)))))
  pub store : h₁.store ≡ store_after (world_of h) k lent
  pub rooms : h₁.rooms ≡ h.rooms

-- `rnic_c_offer`, which is lent a slice of length k as the store and one of length m as the second
pub record OfferStep (h : Host) (n : ℕ) (input : List ℕ) (k m : ℕ) (x : List ℕ) (h₁ : Host) : Type 0 where
  pub lifetimes : Lfts 5
  pub device : MutBor (List ℕ)
  pub words_are : device.now ≡ h.words
  pub lent : LentStore (world_of h) k
  pub second : LentRooms (world_of h) m
  pub bytes : Bor (List ℕ)
  pub given : bytes.now ≡ input
  pub answer : MutBor (List ℕ)
  pub contract :
      OfferPost lifetimes (device, (lent.slice, (second.slice, (n, (bytes, (answer, tt)))))) tt
      (at_last device h₁.words, (at_last lent.slice lent.after, (at_last second.slice second.after, (n, (bytes, (at_last answer x, tt))))))
  pub store : h₁.store ≡ store_after (world_of h) k lent
  pub rooms : h₁.rooms ≡ rooms_after (world_of h) m second

-- a request made, with the words of its answer
abbrev pub Made : Host → Request → List ℕ → Host → Type 0
Made h (by_number c) = CallStep h c
Made h (receiving n input k) = ReceiveStep h n input k
Made h (offering n input k m) = OfferStep h n input k m

-- the opening: `rnic_c_call` with the number 0, on a block of any words and lent any slice. The host's store is mem, as long as the
-- opening says where it is accepted; after a refused one the store is empty. Its second slice is of the right length, with any bytes
pub record Opened (o : Opening) (mem rooms : List ℕ) (h : Host) : Type 0 where
  pub lifetimes : Lfts 5
  pub device : MutBor (List ℕ)
  pub slice : MutBor (List ℕ)
  pub after : List ℕ
  pub args : Bor (List ℕ)
  pub args_are : args.now ≡ opening_numbers o
  pub bytes : Bor (List ℕ)
  pub answer : MutBor (List ℕ)
  pub answered : List ℕ
  pub contract :
      CallPost lifetimes (device, (slice, (0, (args, (bytes, (answer, tt)))))) tt
      (at_last device h.words, (at_last slice after, (0, (args, (bytes, (at_last answer answered, tt))))))
  pub long : says_done answered ≡ true → length mem ≡ o.len
  pub store : h.store ≡ pick (says_done answered) mem []
  pub roomy : length rooms ≡ rooms_bytes
  pub second : h.rooms ≡ rooms
