-- A request made by a C entry is a call by number of the crate `isolation`, or an offer, on the device that the words hold, by the
-- entry's contract: a receive is the call of number 9.
use Prim.Native.Nat.{ℕ, ◌≤◌}
use mathlib.Core.Logic.{◌≢◌}
use mathlib.Core.Path.{◌≡◌, refl, ◌∙◌}
use mathlib.Core.List.{List, [], ◌∷◌}
use native.Mathlib.Omega.{arith}
use lib.ListN.{length}
use Rattle.rnic.specs.Offer.{rooms_bytes, rnic_offered_store, rnic_offered_rooms}
use Rattle.calls.specs.Words.{offer_words}
use Rattle.calls.specs.Call.{called, called_store, called_offer}
use Rattle.block.specs.Device.{rnic_at}
use Rattle.isolation.specs.Number.{Numbered, call_of, requested}
use Rattle.isolation.specs.Number.{Request as NumberRequest}
use Rattle.isolation.specs.Number.Request.{by_number as number_request, offering as offer_request}
use Rattle.isolation.proofs.Calls.{NumberStep}
use Rattle.isolation.proofs.Calls.{OfferStep as WorldOffer}
use Rattle.isolation.proofs.Isolation.{other_slice_kept, other_slice_kept-by-number, other_slice_kept-by-offer}
use Rattle.isolation.proofs.Numbers.{Worded, number_step}
use Rattle.isolation_c.specs.Request.{Request, call_in}
use Rattle.isolation_c.specs.Request.Request.{by_number, receiving, offering}
use Rattle.isolation_c.proofs.Calls.{Host, CallStep, ReceiveStep, OfferStep, Made, world_of}

pub nine-later : 1 ≤ 9
nine-later = omega arith

-- a receive, as a call by number
abbrev pub number_nine : ℕ → List ℕ → ℕ → Numbered
number_nine stream input size = record {
  number = 9;
  later = nine-later;
  args = stream ∷ 0 ∷ 0 ∷ 0 ∷ 0 ∷ 0 ∷ 0 ∷ 0 ∷ 0 ∷ [];
  input = input;
  size = size;
}

-- a request, as one of a call by number or of an offer
abbrev pub numbered : Request → NumberRequest
numbered (by_number c) = number_request c
numbered (receiving stream input size) = number_request (number_nine stream input size)
numbered (offering stream input size many) = offer_request stream input size many

pub call_same : (c : Request) → call_in c ≡ requested (numbered c)
unfolding call_of
call_same (by_number c) = refl
call_same (receiving stream input size) = refl
call_same (offering stream input size many) = refl

-- ---- its step

-- what `rnic_c_receive` does is what `rnic_c_call` does with the number 9
pub receive_as_call :
    (h : Host) (n : ℕ) (input : List ℕ) (k : ℕ) (x : List ℕ) (h₁ : Host) → ReceiveStep h n input k x h₁ →
    CallStep h (number_nine n input k) x h₁
unfolding called called_store
receive_as_call h n input k x h₁ s = record {
  lifetimes = ([], ([], ([], ([], ([], tt)))));
  device = s.device;
  words_are = s.words_are;
  lent = s.lent;
  args = record { ref_ptr = (0, 0); now = (number_nine n input k).args };
  args_are = refl;
  bytes = s.bytes;
  given = s.given;
  answer = s.answer;
  contract = s.contract;
  store = s.store;
  rooms = s.rooms;
}

-- and `rnic_c_call` does with the device that the words hold what `call` of the crate `calls` does
call-made : (h : Host) (c : Numbered) (x : List ℕ) (h₁ : Host) → CallStep h c x h₁ → NumberStep (world_of h) c x (world_of h₁)
call-made h c x h₁ s =
    let size = length s.lent.slice.now in
    record {
      lifetimes = ([], ([], ([], ([], tt))));
      lent = s.lent;
      args = s.args;
      args_are = s.args_are;
      bytes = s.bytes;
      given = s.given;
      answer = s.answer;
      result = rnic_at h₁.words;
      contract = (
        s.contract.0 ∙ (λ i. (called (rnic_at (s.words_are i)) size c.number s.args.now s.bytes.now).rnic),
        s.contract.1 ∙ (λ i. (called (rnic_at (s.words_are i)) size c.number s.args.now s.bytes.now).words),
        s.contract.2 ∙ (λ i. called_store (rnic_at (s.words_are i)) c.number s.args.now s.bytes.now s.lent.slice.now),
      );
      world = λ i. record { dev = rnic_at h₁.words; mem = s.store i; rooms = s.rooms i };
    }

-- `rnic_c_offer` does with it what an offer is defined to do
offer-made : (h : Host) (n : ℕ) (input : List ℕ) (k m : ℕ) (x : List ℕ) (h₁ : Host) → OfferStep h n input k m x h₁ → WorldOffer offer_words (world_of h) n input k m x (world_of h₁)
offer-made h n input k m x h₁ s =
    let rooms = s.second.slice.now in
    record {
      store = s.lent;
      second = s.second;
      answered = s.contract.1 ∙ (λ i. (called_offer (rnic_at (s.words_are i)) (s.lent.long i) n rooms (s.given i)).words);
      stored = s.contract.2 ∙ (λ i. rnic_offered_store (rnic_at (s.words_are i)) n rooms (s.given i) s.lent.slice.now);
      kept = s.contract.3 ∙ (λ i. rnic_offered_rooms (rnic_at (s.words_are i)) (s.lent.long i) n rooms (s.given i));
      world = λ i. record {
        dev = (s.contract.0 ∙ (λ i. (called_offer (rnic_at (s.words_are i)) (s.lent.long i) n rooms (s.given i)).rnic)) i;
        mem = s.store i;
        rooms = s.rooms i;
      };
    }

pub made : (h : Host) (c : Request) (x : List ℕ) (h₁ : Host) → Made h c x h₁ → Worded (world_of h) (numbered c) x (world_of h₁)
made h (by_number c) x h₁ s = call-made h c x h₁ s
made h (receiving n input k) x h₁ s = call-made h (number_nine n input k) x h₁ (receive_as_call h n input k x h₁ s)
made h (offering n input k m) x h₁ s = offer-made h n input k m x h₁ s

-- ---- a slice of another length than the store's
pub call_other :
    (h : Host) (c : Numbered) (x : List ℕ) (h₁ : Host) (s : CallStep h c x h₁) → c.size ≢ (rnic_at h.words).len →
    s.lent.after ≡ s.lent.slice.now
unfolding call-made
call_other h c x h₁ s = other_slice_kept-by-number (world_of h) c x (world_of h₁) (call-made h c x h₁ s)

pub receive_other :
    (h : Host) (n : ℕ) (input : List ℕ) (k : ℕ) (x : List ℕ) (h₁ : Host) (s : ReceiveStep h n input k x h₁) → k ≢ (rnic_at h.words).len →
    (s.lent.after ≡ s.lent.slice.now) × (world_of h₁ ≡ world_of h)
unfolding receive_as_call call_of
receive_other h n input k x h₁ s ne =
    let c = number_nine n input k in
    let t = number_step (world_of h) c x (world_of h₁) (made h (receiving n input k) x h₁ s) in
    (call_other h c x h₁ (receive_as_call h n input k x h₁ s) ne, (other_slice_kept (world_of h) n input k t.0 (world_of h₁) t.1 ne).1)

-- or of another than either's, of an offer
pub offer_other :
    (h : Host) (n : ℕ) (input : List ℕ) (k m : ℕ) (x : List ℕ) (h₁ : Host) (s : OfferStep h n input k m x h₁) →
    ((k ≡ (rnic_at h.words).len) × (m ≡ rooms_bytes) → ⊥) →
    (s.lent.after ≡ s.lent.slice.now) × (s.second.after ≡ s.second.slice.now) × (world_of h₁ ≡ world_of h)
unfolding offer-made
offer_other h n input k m x h₁ s = other_slice_kept-by-offer offer_words (world_of h) n input k m x (world_of h₁) (offer-made h n input k m x h₁ s)
