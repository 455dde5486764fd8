-- The contracts of the C entries that are given a device, `Post` as the prover makes it of `rnic_c_call`, `rnic_c_receive`, `rnic_c_offer`
-- and `rnic_c_held`: lifetimes, parameters before, result, parameters after.
use Prim.Native.Nat.{ℕ}
use mathlib.Core.List.{List}
use denote.Ref.{Bor, MutBor}
use contract.Lifetimes.{Lfts}
use Rattle.rnic_c.proofs.rnic_c_call.Reads as call-reads
use Rattle.rnic_c.proofs.rnic_c_receive.Reads as receive-reads
use Rattle.rnic_c.proofs.rnic_c_offer.Reads as offer-reads
use Rattle.rnic_c.proofs.rnic_c_held.Reads as held_reads

-- device, store, number, a, bytes, answer
abbrev pub CallParameters : Type 0
CallParameters = MutBor (List ℕ) × (MutBor (List ℕ) × (ℕ × (Bor (List ℕ) × (Bor (List ℕ) × (MutBor (List ℕ) × Unit {0})))))

abbrev pub CallPost : Lfts 5 → CallParameters → Unit {0} → CallParameters → Type 0
CallPost = call-reads.Post

-- device, store, stream, bytes, answer
abbrev pub ReceiveParameters : Type 0
ReceiveParameters = MutBor (List ℕ) × (MutBor (List ℕ) × (ℕ × (Bor (List ℕ) × (MutBor (List ℕ) × Unit {0}))))

abbrev pub ReceivePost : Lfts 4 → ReceiveParameters → Unit {0} → ReceiveParameters → Type 0
ReceivePost = receive-reads.Post

-- device, store, rooms, stream, bytes, answer
abbrev pub OfferParameters : Type 0
OfferParameters = MutBor (List ℕ) × (MutBor (List ℕ) × (MutBor (List ℕ) × (ℕ × (Bor (List ℕ) × (MutBor (List ℕ) × Unit {0})))))

abbrev pub OfferPost : Lfts 5 → OfferParameters → Unit {0} → OfferParameters → Type 0
OfferPost = offer-reads.Post

-- device, stream
abbrev pub HeldParameters : Type 0
HeldParameters = Bor (List ℕ) × (ℕ × Unit {0})

abbrev pub HeldPost : Lfts 1 → HeldParameters → ℕ → HeldParameters → Type 0
HeldPost = held_reads.Post
