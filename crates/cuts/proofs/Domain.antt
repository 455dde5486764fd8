-- The law of cuts of a domain's receive, on any stream of it: the events in order, the domain, its bytes of the store and the bytes held do
-- not turn on how the bytes of the stream are cut.
-- Assumes nothing.
use Prim.Native.Nat.{ℕ, ◌≤◌}
use mathlib.Core.Path.{◌≡◌, refl, ap, subst, ◌∙◌}
use mathlib.Core.List.{List, [], ◌++◌}
use native.Mathlib.Nat.{le_of_lt}
use native.Mathlib.Omega.{arith}
use lib.ListN.{length}
use Rattle.mpa.specs.Fpdu.{max_ulpdu, total_of}
use Rattle.domain.specs.Domain.{domain_received}
use Rattle.arrival.specs.declared.Event.{Event}
use Rattle.arrival.specs.declared.Event.TheVariants.{Terminated}
use Rattle.arrival.specs.declared.Answer.{Answer}
use Rattle.arrival.specs.declared.Answer.TheVariants.{Taken}
use Rattle.cuts.specs.Cuts.{Step, Offered, offer_of, offer, after, drain, drain_all, joined, singles, called}
use Rattle.cuts.specs.Cuts.Step.{waits, took, ends, refuses}
use Rattle.cuts.specs.Cuts.Answer.{done, ended, refused}
use Rattle.cuts.specs.Received.{Side, Report, side_after, step_of, received, MayHold, Short, Over}
use Rattle.cuts.specs.Received.Report.{event}
use Rattle.cuts.proofs.Cuts.{Shut, drain-holding, fresh, cut_law, pieces_law, cuts_same, byte-by-byte, calls_law, calls_same, offer_quick, shut-offer, ended-shut, end-last}
use Rattle.cuts.proofs.Received.{machine, held_short, Left, left}
use Rattle.std.specs.Prelude.{Ok, Option, Result, Some}
use Rattle.wire.specs.declared.refusal.LocalRefusal.{LocalRefusal}

module _ (number slot : ℕ) where
  -- a stream that holds nothing
  pub new_holds : (w : Side) → MayHold number slot w []
  new_holds w = fresh (machine number slot) w

  module _ (w : Side) (held : List ℕ) (holds : MayHold number slot w held) where
    -- one cut
    pub domain-cut_law :
        (p q : List ℕ) →
        drain (received number slot) w held (p ++ q)
        ≡ after (drain (received number slot) w held p).events
        (drain (received number slot) (drain (received number slot) w held p).state (drain (received number slot) w held p).held q)
    domain-cut_law p q = cut_law (machine number slot) w held p q holds

    -- "However the same bytes are cut": the events in order, the domain with its bytes of the store, and the held bytes are those of the uncut run
    pub domain-uncut : (ps : List (List ℕ)) → drain_all (received number slot) w held ps ≡ drain (received number slot) w held (joined ps)
    domain-uncut ps = pieces_law (machine number slot) ps w held holds

    pub domain_cuts_same : (ps qs : List (List ℕ)) → joined ps ≡ joined qs → drain_all (received number slot) w held ps ≡ drain_all (received number slot) w held qs
    domain_cuts_same ps qs e = cuts_same (machine number slot) ps qs e w held holds

    pub domain-byte-by-byte : (bytes : List ℕ) → drain_all (received number slot) w held (singles bytes) ≡ drain (received number slot) w held bytes
    domain-byte-by-byte bytes = byte-by-byte (machine number slot) bytes w held holds

    -- and of a caller that at each call offers as many as it likes of what is left, once nothing is left
    pub domain_calls_same : (cs bytes : List ℕ) → (called (received number slot) w held bytes cs).left ≡ [] → (called (received number slot) w held bytes cs).outcome ≡ drain (received number slot) w held bytes
    domain_calls_same cs bytes e = calls_same (machine number slot) cs w held bytes holds e

    -- and at any time: what it did, and then the rest at once, is the uncut run
    pub domain_calls_law :
        (cs bytes : List ℕ) →
        after (called (received number slot) w held bytes cs).outcome.events
        (drain (received number slot) (called (received number slot) w held bytes cs).outcome.state (called (received number slot) w held bytes cs).outcome.held
        (called (received number slot) w held bytes cs).left)
        ≡ drain (received number slot) w held bytes
    domain_calls_law cs bytes = calls_law (machine number slot) cs w held bytes holds

    -- what is held at the end completes nothing
    pub held-holds : (bytes : List ℕ) → MayHold number slot (drain (received number slot) w held bytes).state (drain (received number slot) w held bytes).held
    held-holds bytes = drain-holding (machine number slot) w held bytes holds

    -- and is fewer bytes than the FPDU that it begins has, and fits a room of the longest FPDU
    pub held_fits : (bytes : List ℕ) → Short (drain (received number slot) w held bytes).held
    held_fits bytes = held_short number slot (drain (received number slot) w held bytes).state (drain (received number slot) w held bytes).held (drain-holding (machine number slot) w held bytes holds)

    pub held-room : (bytes : List ℕ) → length (drain (received number slot) w held bytes).held ≤ total_of max_ulpdu
    held-room bytes = le_of_lt (held_fits bytes).fits

    -- bytes after those that ended the stream do not matter
    pub domain-end-last :
        (ps : List (List ℕ)) (later : List ℕ) → Shut (machine number slot) (drain_all (received number slot) w held ps).state 5 →
        ((drain_all (received number slot) w held ps).held ≡ []) × (drain (received number slot) w held (joined ps ++ later) ≡ drain_all (received number slot) w held ps)
    domain-end-last ps later shut = end-last (machine number slot) ps later w held holds 5 shut

  -- ---- an end

  over_of : (o : Offered Side Report) → o.held ≡ [] → Shut (machine number slot) o.state 5 → Over number slot o
  over_of o e shut = record {
    empty = e;
    later = λ q. shut-offer (machine number slot) o.state 5 shut o.held q ∙ ap (λ (h : List ℕ). record { answer = refused 5; state = o.state; held = h }) e;
  }

  module _ (w : Side) (held p : List ℕ) where
    -- of a refusal of the peer's bytes
    pub refusal-over : (e : Report) → (offer (received number slot) w held p).answer ≡ ended e → Over number slot (offer (received number slot) w held p)
    refusal-over e q = let s = ended-shut (machine number slot) w held p e q in over_of (offer (received number slot) w held p) s.0 s.1

    -- of a Terminate
    pub terminate-over :
        (n layer etype code : ℕ) → (offer (received number slot) w held p).answer ≡ done n (event (Some (Terminated layer etype code))) → Over number slot (offer (received number slot) w held p)
    unfolding offer
    terminate-over n layer etype code = go (received number slot w (held ++ p)) (left number slot w (held ++ p))
      where
        go : (x : Step Side Report) → Left number slot x → (offer_of w held p x).answer ≡ done n (event (Some (Terminated layer etype code))) → Over number slot (offer_of w held p x)
        go waits l q = absurd (let no : ◌≡◌ {A = ℕ} 0 1 = cc in omega arith)
        go (took m e t) l q =
            let same : e ≡ event (Some (Terminated layer etype code)) = cc in
            over_of (offer_of w held p (took m e t)) refl (subst (λ (z : Report). Left number slot (took m z t)) same l)
        go (ends e t) l q = absurd (let no : ◌≡◌ {A = ℕ} 0 1 = cc in omega arith)
        go (refuses k) l q = absurd (let no : ◌≡◌ {A = ℕ} 0 1 = cc in omega arith)

  -- ---- the quick case: nothing held, and a whole FPDU in the input
  pub domain-offer_quick :
      (w : Side) (p : List ℕ) (total : ℕ) (e : Option Event) → (domain_received w.domain number slot p).0 ≡ Ok (Taken total e) →
      offer (received number slot) w [] p ≡ record { answer = done total (event e); state = side_after number slot w p; held = [] }
  unfolding received
  domain-offer_quick w p total e q =
      offer_quick (machine number slot) w p total (event e) (side_after number slot w p) (ap (λ (a : Result Answer LocalRefusal). step_of a (side_after number slot w p)) q)
