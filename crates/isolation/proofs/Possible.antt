-- The theorem of proofs/Isolation.antt is not about nothing: every list of calls, with whatever numbers, bytes and lent lengths, is a run
-- from every opening, accepted or refused. Each step is made of the definition's own result.
use Prim.Native.Nat.{ℕ}
use mathlib.Core.Path.{◌≡◌, refl, sym, ◌∙◌}
use mathlib.Core.List.{List, [], ◌∷◌}
use native.Mathlib.Decide.{ℕ_discrete as dec_eq}
use lib.ListN.{length, replicate, length-replicate}
use denote.Ref.{Bor, MutBor}
use contract.Lifetimes.{Lfts}
use Rattle.rnic.specs.Rnic.{opened_rnic, rnic_opened, rnic_closed, rnic_posted, rnic_taken, rnic_registered, rnic_dropped, rnic_received, rnic_received_store, rnic_live, rnic_free, rnic_ticked, rnic_reading, rnic_state}
use Rattle.rnic.specs.Offer.{rooms_bytes, rnic_offered_store, rnic_offered_rooms}
use Rattle.rnic.specs.declared.Rnic.{Rnic}
use Rattle.holding.specs.declared.OfferAnswer.{OfferAnswer}
use Rattle.calls.specs.Words.{offer_words}
use Rattle.calls.specs.Call.{called, called_store}
use Rattle.isolation.specs.Book.{Call, Answer, Opening}
use Rattle.isolation.specs.Book.Call.{open_stream, close_stream, register, drop_window, post, receive, offer, take_read, live, free, tick, read_gauge, ask_state}
use Rattle.isolation.specs.Book.Answer.{offered}
use Rattle.isolation.specs.Number.{Request}
use Rattle.isolation.specs.Number.Request.{by_number, offering}
use Rattle.isolation.proofs.Calls.{World, PlainStep, OfferStep, Lent, Opened}
use Rattle.isolation.proofs.Runs.{Interface, Run, OpenedRun, functions}
use Rattle.isolation.proofs.Runs.Run.{stop, next}
use Rattle.isolation.proofs.Induction.{made_fit}
use Rattle.isolation.proofs.Numbers.{numbers}
use Rattle.isolation.proofs.Openings.{opened_fit}
use Rattle.isolation.proofs.WellFormed.{Fit}
use Rattle.std.specs.Prelude.{Result}
use Rattle.wire.specs.declared.refusal.LocalRefusal.{LocalRefusal}

-- a request that can be made in a world, with its reply and the world after it
pub record Possible (I : Interface) (w : World) (c : I.Request) : Type 0 where
  pub reply : I.Reply
  pub after : World
  pub made : I.Made w c reply after

-- a reference to a slice
abbrev reference : List ℕ → Bor (List ℕ)
reference l = record { ref_ptr = (0, 0); now = l }

-- and one through which it can be written
abbrev reference_to_write : List ℕ → MutBor (List ℕ)
reference_to_write l = record { ref_ptr = (0, 0); ghost_name = 0; now = l }

-- a slice to lend: the memory where it is as long as that, and zeros otherwise
record Slice (mem : List ℕ) (len size : ℕ) : Type 0 where
  bytes : List ℕ
  long : length bytes ≡ size
  whole : size ≡ len → bytes ≡ mem

slice : (mem : List ℕ) (len : ℕ) → length mem ≡ len → (size : ℕ) → Slice mem len size
slice mem len e size = go (dec_eq size len)
  where
    go : Dec (size ≡ len) → Slice mem len size
    go (yes h) = record { bytes = mem; long = e ∙ sym h; whole = λ q. refl }
    go (no h) = record { bytes = replicate size 0; long = length-replicate size 0; whole = λ q. absurd (h q) }

-- that slice lent, holding l afterwards
abbrev lend : {mem : List ℕ} {len size : ℕ} → Slice mem len size → List ℕ → Lent mem len size
lend x l = record { slice = reference_to_write x.bytes; after = l; long = x.long; whole = x.whole }

-- an offer, whose answer is given in any form
offers : {R : Type 0} (form : Result OfferAnswer LocalRefusal → R) (w : World) → Fit w → (n : ℕ) (input : List ℕ) (k m : ℕ) → (x : R) × (w₁ : World) × OfferStep form w n input k m x w₁
offers form w f n input k m =
    let x = slice w.mem w.dev.len f.long k in
    let y = slice w.rooms rooms_bytes f.roomy m in (
      _,
      _,
      record {
        store = lend x (rnic_offered_store w.dev n y.bytes input x.bytes);
        second = lend y (rnic_offered_rooms w.dev k n y.bytes input);
        answered = refl;
        stored = refl;
        kept = refl;
        world = refl;
      },
    )

-- ---- a call by the device's own function
returned :
    {X R : Type 0} {Post : Lfts 0 → X → R → X → Type 0} {x : X} {answer : R → Answer} {rnic : R → Rnic} {w : World} (z : R) → Post tt x z x →
    PlainStep Post x answer rnic w (answer z) (record { dev = rnic z; mem = w.mem; rooms = w.rooms })
returned z p = record { result = z; contract = p; answered = refl; world = refl }

pub by_function : (w : World) → Fit w → (c : Call) → Possible functions w c
by_function w f (open_stream n crc) = record { reply = _; after = _; made = returned (rnic_opened w.dev n crc) refl }
by_function w f (close_stream n) = record { reply = _; after = _; made = returned (rnic_closed w.dev n) refl }
by_function w f (register i key base len place rights) = record { reply = _; after = _; made = returned (rnic_registered w.dev i key base len place rights) refl }
by_function w f (drop_window i) = record { reply = _; after = _; made = returned (rnic_dropped w.dev i) refl }
by_function w f (post n start len) = record { reply = _; after = _; made = returned (rnic_posted w.dev n start len) refl }
by_function w f (take_read n) = record { reply = _; after = _; made = returned (rnic_taken w.dev n) refl }
by_function w f (live d) = record { reply = _; after = _; made = returned (rnic_live w.dev d) refl }
by_function w f (free d) = record { reply = _; after = _; made = returned (rnic_free w.dev d) refl }
by_function w f (tick d) = record { reply = _; after = _; made = returned (rnic_ticked w.dev d) refl }
by_function w f (read_gauge d) = record { reply = _; after = _; made = returned (rnic_reading w.dev d) refl }
by_function w f (ask_state n) = record { reply = _; after = _; made = returned (rnic_state w.dev n) refl }
by_function w f (receive n input k) =
    let x = slice w.mem w.dev.len f.long k in
    record {
      reply = _;
      after = _;
      made = record {
        lifetimes = ([], ([], tt));
        lent = lend x (rnic_received_store w.dev n input x.bytes);
        bytes = reference input;
        given = refl;
        result = rnic_received w.dev (length x.bytes) n input;
        contract = (refl, refl);
        answered = refl;
        world = refl;
      };
    }
by_function w f (offer n input k m) = let z = offers offered w f n input k m in record { reply = z.0; after = z.1; made = z.2 }

-- ---- a call by its number, and an offer
pub by_number_lem : (w : World) → Fit w → (c : Request) → Possible numbers w c
by_number_lem w f (offering n input k m) = let z = offers offer_words w f n input k m in record { reply = z.0; after = z.1; made = z.2 }
by_number_lem w f (by_number c) =
    let x = slice w.mem w.dev.len f.long c.size in
    record {
      reply = (called w.dev (length x.bytes) c.number c.args c.input).words;
      after = _;
      made = record {
        lifetimes = ([], ([], ([], ([], tt))));
        lent = lend x (called_store w.dev c.number c.args c.input x.bytes);
        args = reference c.args;
        args_are = refl;
        bytes = reference c.input;
        given = refl;
        answer = reference_to_write [];
        result = (called w.dev (length x.bytes) c.number c.args c.input).rnic;
        contract = (refl, refl, refl);
        world = refl;
      };
    }

-- ---- a whole run of any calls, from any opening of a store
module _ (I : Interface) (possible : (w : World) → Fit w → (c : I.Request) → Possible I w c) where
  pub run_of : (w : World) → Fit w → (cs : List I.Request) → (w₁ : World) × Run I w cs w₁
  run_of w f [] = (w, stop)
  run_of w f (c ∷ cs) =
      let m = possible w f c in
      let r = run_of m.after (made_fit I f m.made) cs in
      (r.0, next m.reply m.after m.made r.1)

  pub opened-run : (o : Opening) (mem rooms : List ℕ) → length mem ≡ o.len → length rooms ≡ rooms_bytes → (cs : List I.Request) → (r : OpenedRun I o mem rooms) × (r.calls ≡ cs)
  opened-run o mem rooms e l cs =
      let s : Opened o mem rooms _ = (opened_rnic o.len o.s₀ o.e₀ o.s₁ o.e₁ o.s₂ o.e₂ o.s₃ o.e₃, refl, (λ a. e), l, refl) in
      let r = run_of _ (opened_fit o mem rooms _ s) cs in
      (record { start = _; opened = s; calls = cs; end = r.0; run = r.1 }, refl)

-- every list of calls by the device's own functions and of offers, and every one by number
pub every_run : (o : Opening) (mem rooms : List ℕ) → length mem ≡ o.len → length rooms ≡ rooms_bytes → (cs : List Call) → (r : OpenedRun functions o mem rooms) × (r.calls ≡ cs)
every_run = opened-run functions by_function

pub every_run-by-number : (o : Opening) (mem rooms : List ℕ) → length mem ≡ o.len → length rooms ≡ rooms_bytes → (cs : List Request) → (r : OpenedRun numbers o mem rooms) × (r.calls ≡ cs)
every_run-by-number = opened-run numbers by_number_lem
