-- Calls by number, by the contract of `call` of the crate `calls`, and offers, by their definition: each is a step of the device, its answer
-- in words.
use Prim.Native.Nat.{ℕ}
use mathlib.Core.Logic.{◌≢◌}
use mathlib.Core.Path.{◌≡◌, refl, sym, ap, subst, ◌∙◌}
use mathlib.Core.Bool.{Bool, true, false}
use mathlib.Core.List.{List, []}
use native.Mathlib.Omega.{arith}
use lib.Dec.{eqb}
use borrow.Author.Tests.{eqb-true, ne_eqb}
use contract.Lifetimes.{Lfts}
use Rattle.wire.specs.Wire.{pick}
use Rattle.rnic.specs.Rnic.{rnic_opened, rnic_closed, rnic_posted, rnic_taken, rnic_registered, rnic_dropped, rnic_received, rnic_received_store, rnic_live, rnic_free, rnic_ticked, rnic_reading, rnic_state}
use Rattle.rnic.specs.declared.Rnic.{Rnic}
use Rattle.rnic.specs.Offer.{rnic_offer_answer}
use Rattle.calls.specs.Words.{offer_words}
use Rattle.calls.specs.Call.{Called, arg, crc_on, called_open, called_receive, called, called_store}
use Rattle.isolation.specs.Book.{Call, Answer}
use Rattle.isolation.specs.Book.Call.{receive, offer}
use Rattle.isolation.specs.Book.Answer.{received, offered}
use Rattle.isolation.specs.Number.{Numbered, Request, call_of, requested, reply_words}
use Rattle.isolation.specs.Number.Request.{by_number, offering}
use Rattle.isolation.proofs.Calls.{World, PlainStep, OfferStep, Step, NumberStep, store_after}
use Rattle.isolation.proofs.Lifted.{store_other}
use Rattle.isolation.proofs.Runs.{Interface}
use Rattle.isolation.proofs.WellFormed.{world_path, memory_left}

module _ (w : World) (c : Numbered) (words : List ℕ) (w₁ : World) (s : NumberStep w c words w₁) where
  -- the device, the call's nine numbers, and the slice lent
  abbrev b : Rnic
  b = w.dev

  abbrev n : ℕ → ℕ
  n = arg c.args

  abbrev l : List ℕ
  l = s.lent.slice.now

  -- what the contract says, in terms of the call
  abbrev expected : Called
  expected = called b c.size c.number c.args c.input

  number-rnic : s.result ≡ expected.rnic
  number-rnic = s.contract.0 ∙ (λ i. (called b (s.lent.long i) c.number (s.args_are i) (s.given i)).rnic)

  number-words : words ≡ expected.words
  number-words = s.contract.1 ∙ (λ i. (called b (s.lent.long i) c.number (s.args_are i) (s.given i)).words)

  number_slice : (t : Bool) → eqb c.number 9 ≡ t → s.lent.after ≡ pick t (rnic_received_store b (n 0) c.input l) l
  unfolding called_store
  number_slice t e =
      s.contract.2
      ∙ (λ i. called_store b c.number (s.args_are i) (s.given i) l)
      ∙ ap (λ (u : Bool). pick u (rnic_received_store b (n 0) c.input l) l) e

  -- a call other than receive leaves the slice, and so the store
  store-left : eqb c.number 9 ≡ false → store_after w c.size s.lent ≡ w.mem
  store-left e = memory_left s.lent (number_slice false e)

  -- a number i that is not receive's
  other : (i : ℕ) → eqb c.number i ≡ true → eqb i 9 ≡ false → eqb c.number 9 ≡ false
  other i e n = ap (λ (m : ℕ). eqb m 9) (eqb-true c.number i e) ∙ n

  -- it is the step of a call d, where the device and the words are x
  abbrev Matches : Call → Called → Type 0
  Matches d x = s.result ≡ x.rnic → words ≡ x.words → (a : Answer) × Step w d a w₁ × (words ≡ reply_words a)

  -- of two calls, by a test
  either : (t : Bool) (d e : Call) (x y : Called) → (t ≡ true → Matches d x) → (t ≡ false → Matches e y) → Matches (pick t d e) (pick t x y)
  either true d e x y f g = f refl
  either false d e x y f g = g refl

  past : (t : Bool) (d : Call) (x y : Called) → t ≡ false → Matches d y → Matches d (pick t x y)
  past t d x y e n = subst (λ (u : Bool). Matches d (pick u x y)) (sym e) n

  -- a call that is lent no slice, of result z
  plain :
      {X R : Type 0} {Post : Lfts 0 → X → R → X → Type 0} {x : X} {answer : R → Answer} {rnic : R → Rnic} (z : R) → Post tt x z x →
      eqb c.number 9 ≡ false → s.result ≡ rnic z → words ≡ reply_words (answer z) →
      (a : Answer) × PlainStep Post x answer rnic w a w₁ × (words ≡ reply_words a)
  plain {answer = answer} z p e g h = (answer z, record { result = z; contract = p; answered = refl; world = s.world ∙ world_path g (store-left e) refl }, h)

  -- receive, by the same slice and the same bytes
  receiving : eqb c.number 9 ≡ true → Matches (receive (n 0) c.input c.size) (called_receive b c.size (n 0) c.input)
  receiving e g h = (
    received (rnic_received b c.size (n 0) c.input).0,
    record {
      lifetimes = ([], ([], tt));
      lent = s.lent;
      bytes = s.bytes;
      given = s.given;
      result = rnic_received b c.size (n 0) c.input;
      contract = (
        sym (λ i. rnic_received b (s.lent.long i) (n 0) (s.given i)),
        number_slice true e ∙ sym (λ i. rnic_received_store b (n 0) (s.given i) l),
      );
      answered = refl;
      world = s.world ∙ world_path g refl refl;
    },
    h,
  )

  -- by the number: a call, and the same one of `called`
  matched : Matches (call_of c) expected
  unfolding called call_of rnic_live
  matched =
      past (eqb c.number 0) (call_of c) (called_open c.args) _ (ne_eqb c.number 0 (λ e. omega (arith, c.later)))
      (either (eqb c.number 1) _ _ _ _ (λ e. plain (rnic_opened b (n 0) (crc_on (n 1))) refl (other 1 e refl))
      (λ e. either (eqb c.number 2) _ _ _ _ (λ e. plain (rnic_closed b (n 0)) refl (other 2 e refl))
      (λ e. either (eqb c.number 3) _ _ _ _ (λ e. plain (rnic_registered b (n 0) (n 1) (n 2) (n 3) (n 4) (n 5)) refl (other 3 e refl))
      (λ e. either (eqb c.number 4) _ _ _ _ (λ e. plain (rnic_dropped b (n 0)) refl (other 4 e refl))
      (λ e. either (eqb c.number 5) _ _ _ _ (λ e. plain (rnic_posted b (n 0) (n 1) (n 2)) refl (other 5 e refl))
      (λ e. either (eqb c.number 6) _ _ _ _ (λ e. plain (rnic_taken b (n 0)) refl (other 6 e refl))
      (λ e. either (eqb c.number 7) _ _ _ _ (λ e. plain (rnic_live b (n 0)) refl (other 7 e refl))
      (λ e. either (eqb c.number 8) _ _ _ _ (λ e. plain (rnic_free b (n 0)) refl (other 8 e refl))
      (λ e. either (eqb c.number 9) _ _ _ _ receiving
      (λ n9. either (eqb c.number 10) _ _ _ _ (λ e. plain (rnic_ticked b (n 0)) refl n9)
      (λ e. either (eqb c.number 11) _ _ _ _ (λ e. plain (rnic_reading b (n 0)) refl n9)
      (λ e. either (eqb c.number 12) _ _ _ _ (λ e. plain (rnic_state b (n 0)) refl n9)
      (λ e. plain (rnic_live b 4) refl n9)))))))))))))

  pub number_step : (a : Answer) × Step w (call_of c) a w₁ × (words ≡ reply_words a)
  number_step = matched number-rnic number-words

  -- a slice of another length than the store's is left, whatever the call
  pub number_other : c.size ≢ w.dev.len → s.lent.after ≡ l
  number_other ne = number_slice (eqb c.number 9) refl ∙ go (eqb c.number 9)
    where
      go : (t : Bool) → pick t (rnic_received_store b (n 0) c.input l) l ≡ l
      go true = store_other b (n 0) c.input l (ap (λ (m : ℕ). eqb m w.dev.len) s.lent.long ∙ ne_eqb c.size w.dev.len ne)
      go false = refl

-- ---- an offer

-- it is the step, its answer's words given
pub offer_step :
    (w : World) (n : ℕ) (input : List ℕ) (k m : ℕ) (words : List ℕ) (w₁ : World) → OfferStep offer_words w n input k m words w₁ →
    (a : Answer) × Step w (offer n input k m) a w₁ × (words ≡ reply_words a)
offer_step w n input k m words w₁ s = (
  offered (rnic_offer_answer w.dev k n s.second.slice.now input),
  record { store = s.store; second = s.second; answered = refl; stored = s.stored; kept = s.kept; world = s.world },
  s.answered,
)

-- ---- a request, with the words of its answer
abbrev pub Worded : World → Request → List ℕ → World → Type 0
Worded w (by_number c) = NumberStep w c
Worded w (offering n input k m) = OfferStep offer_words w n input k m

pub worded_step : (w : World) (c : Request) (words : List ℕ) (w₁ : World) → Worded w c words w₁ → (a : Answer) × Step w (requested c) a w₁ × (words ≡ reply_words a)
worded_step w (by_number c) words w₁ s = number_step w c words w₁ s
worded_step w (offering n input k m) words w₁ s = offer_step w n input k m words w₁ s

-- the device's calls by their numbers, and offers
abbrev pub numbers : Interface
numbers = record {
  Request = Request;
  Reply = List ℕ;
  call = requested;
  reply = reply_words;
  Made = Worded;
  is_step = worded_step;
}
