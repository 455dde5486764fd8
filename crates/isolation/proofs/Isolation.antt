-- Isolation (demand 3), the statement and the theorem. A's book is specs/Book.antt; a call by contract is proofs/Calls.antt, and what a
-- run shows A is proofs/Runs.antt.
use Prim.Native.Nat.{ℕ, ◌<◌}
use mathlib.Core.Logic.{◌≢◌}
use mathlib.Core.Path.{◌≡◌, refl, sym, ap, ◌∙◌}
use mathlib.Core.List.{List, map}
use Rattle.holding.specs.declared.OfferAnswer.{OfferAnswer}
use Rattle.rnic.specs.Offer.{rooms_bytes}
use Rattle.isolation.specs.Book.{Answer, View, Opening, book_trace, book_view, first_bytes, first_view}
use Rattle.isolation.specs.Book.Call.{receive}
use Rattle.isolation.specs.Number.{Numbered}
use Rattle.isolation.proofs.Calls.{World, Step, OfferStep, NumberStep, view}
use Rattle.isolation.proofs.Runs.{Interface, Run, OpenedRun, functions, calls_of, trace, views, calls_up_to}
use Rattle.isolation.proofs.Induction.{trace-is, views-are, end_is}
use Rattle.isolation.proofs.Numbers.{numbers, number_other}
use Rattle.isolation.proofs.Openings.{opened_fit, opened_view}
use Rattle.isolation.proofs.Steps.{receive_other, offer_other}
use Rattle.std.specs.Prelude.{Result}
use Rattle.wire.specs.declared.refusal.LocalRefusal.{LocalRefusal}

-- a run is as A's book says, v being A's first view
pub record ByBook (A : ℕ) (v : View) {I : Interface} {w w₁ : World} {cs : List I.Request} (r : Run I w cs w₁) : Type 0 where
  -- after each of A's calls, its reply and A's view are the book's, fed A's calls alone
  pub own : trace A r ≡ book_trace I.reply A v (calls_of A r)
  -- after every call, A's or another's, A's view is the book's, fed A's calls up to then: another's call leaves it
  pub every : views A r ≡ map (book_view A v) (calls_up_to A r)
  -- at the end A's view is the book's, fed all of A's calls: no other call changed it, after A's last call neither
  pub last : view A w₁ ≡ book_view A v (calls_of A r)

-- two runs (the paper's two nights) are the same for A
pub record Isolated (A : ℕ) (v : View) {I : Interface} {w w₁ u u₁ : World} {cs ds : List I.Request} (r : Run I w cs w₁) (q : Run I u ds u₁) : Type 0 where
  -- after each of A's calls, the same reply and the same view of A's
  pub same : trace A r ≡ trace A q
  -- and either run is as A's book says
  pub first : ByBook A v r
  pub second : ByBook A v q

-- Demand 3 of an interface: any two runs from the same opening that agree on the bytes of A's part and on A's calls are the same for
-- A, and are as A's book says, which is fed the opening, those bytes and those calls alone. They may differ in all of the second slice
abbrev pub Isolation : Interface → Type 0
Isolation I =
    (A : ℕ) → A < 4 →
    (o : Opening) (mem mem' rooms rooms' : List ℕ) (r : OpenedRun I o mem rooms) (q : OpenedRun I o mem' rooms') →
    first_bytes A o mem ≡ first_bytes A o mem' → calls_of A r.run ≡ calls_of A q.run →
    Isolated A (first_view A o (first_bytes A o mem)) r.run q.run

-- ---- the proof
by-book :
    (I : Interface) (A : ℕ) → A < 4 → (o : Opening) (mem rooms : List ℕ) (r : OpenedRun I o mem rooms) (v : View) → first_view A o (first_bytes A o mem) ≡ v →
    ByBook A v r.run
by-book I A h_a o mem rooms r v e =
    let f = opened_fit o mem rooms r.start r.opened in
    let g : view A r.start ≡ v = opened_view o mem rooms r.start r.opened A h_a ∙ e in
    record {
      own = trace-is I A h_a f r.run ∙ ap (λ (z : View). book_trace I.reply A z (calls_of A r.run)) g;
      every = views-are I A h_a f r.run ∙ ap (λ (z : View). map (book_view A z) (calls_up_to A r.run)) g;
      last = end_is I A h_a f r.run ∙ ap (λ (z : View). book_view A z (calls_of A r.run)) g;
    }

pub isolated : (I : Interface) → Isolation I
isolated I A h_a o mem mem' rooms rooms' r q b m =
    let v = first_view A o (first_bytes A o mem) in
    let x : ByBook A v r.run = by-book I A h_a o mem rooms r v refl in
    let y : ByBook A v q.run = by-book I A h_a o mem' rooms' q v (ap (first_view A o) (sym b)) in
    record { same = x.own ∙ ap (book_trace I.reply A v) m ∙ sym y.own; first = x; second = y }

-- ---- the theorem

-- for the device's own functions, which `rnic` has, and offers
pub two_nights : Isolation functions
two_nights = isolated functions

-- for calls by number, by `call` of the crate `calls`, and offers, with answers in words
pub two_nights_by-number : Isolation numbers
two_nights_by-number = isolated numbers

-- "A call lent a store of another length stands in them: it is refused and the store stays." The slice that it was lent stays too
pub other_slice_kept :
    (w : World) (n : ℕ) (input : List ℕ) (k : ℕ) (a : Answer) (w₁ : World) (s : Step w (receive n input k) a w₁) → k ≢ w.dev.len →
    (s.lent.after ≡ s.lent.slice.now) × (w₁ ≡ w)
other_slice_kept = receive_other

pub other_slice_kept-by-number :
    (w : World) (c : Numbered) (words : List ℕ) (w₁ : World) (s : NumberStep w c words w₁) → c.size ≢ w.dev.len →
    s.lent.after ≡ s.lent.slice.now
other_slice_kept-by-number = number_other

-- and so of an offer that is lent another length of either slice, in whatever form its answer is given: it is refused, both slices stay,
-- and the world
pub other_slice_kept-by-offer :
    {R : Type 0} (form : Result OfferAnswer LocalRefusal → R) (w : World) (n : ℕ) (input : List ℕ) (k m : ℕ) (x : R) (w₁ : World) (s : OfferStep form w n input k m x w₁) →
    ((k ≡ w.dev.len) × (m ≡ rooms_bytes) → ⊥) →
    (s.store.after ≡ s.store.slice.now) × (s.second.after ≡ s.second.slice.now) × (w₁ ≡ w)
other_slice_kept-by-offer = offer_other
