-- Isolation (demand 3) of a host in C, the statement and the theorem: a corollary of `two_nights_by-number` of the crate `isolation`.
-- A's book is specs/Book.antt of that crate.
use Prim.Native.Nat.{ℕ, ◌<◌}
use mathlib.Core.Logic.{◌≢◌}
use mathlib.Core.Path.{◌≡◌, sym, ap, ◌∙◌}
use mathlib.Core.List.{List, map}
use Rattle.rnic.specs.Offer.{rooms_bytes}
use Rattle.block.specs.Device.{rnic_at}
use Rattle.isolation.specs.Book.{View, Opening, book_trace, book_view, first_bytes, first_view}
use Rattle.isolation.specs.Number.{Numbered, reply_words}
use Rattle.isolation.proofs.Isolation as by_number_lem
use Rattle.isolation_c.specs.Request.{Request}
use Rattle.isolation_c.proofs.Calls.{Host, CallStep, ReceiveStep, OfferStep, Opened, world_of, view_in}
use Rattle.isolation_c.proofs.Runs.{Run, OpenedRun, calls_of, trace, views, calls_up_to}
use Rattle.isolation_c.proofs.Mapped.{mapped, mapped_opened, calls_same, trace-same, views_same, calls_up-to-same}
use Rattle.isolation_c.proofs.Openings.{opening_slice}
use Rattle.isolation_c.proofs.Steps.{call_other, receive_other, offer_other}

-- a run is as A's book says, v being A's first view
pub record ByBook (A : ℕ) (v : View) {h h₁ : Host} {cs : List Request} (r : Run h cs h₁) : Type 0 where
  -- after each of A's calls, the words of its answer and A's view are the book's, fed A's calls alone
  pub own : trace A r ≡ book_trace reply_words A v (calls_of A r)
  -- after every call, A's or another's, A's view is the book's, fed A's calls up to then: another's call leaves it
  pub every : views A r ≡ map (book_view A v) (calls_up_to A r)
  -- at the end A's view is the book's, fed all of A's calls: no other call changed it, after A's last call neither
  pub last : view_in A h₁ ≡ book_view A v (calls_of A r)

-- two runs are the same for A
pub record Isolated (A : ℕ) (v : View) {h h₁ g g₁ : Host} {cs ds : List Request} (r : Run h cs h₁) (q : Run g ds g₁) : Type 0 where
  -- after each of A's calls, the same words of its answer and the same view of A's
  pub same : trace A r ≡ trace A q
  -- and either run is as A's book says
  pub first : ByBook A v r
  pub second : ByBook A v q

-- ---- the proof
by-book : {A : ℕ} {v : View} {h h₁ : Host} {cs : List Request} (r : Run h cs h₁) → by_number_lem.ByBook A v (mapped r) → ByBook A v r
by-book {A} {v} r b = record {
  own = trace-same A r ∙ b.own ∙ ap (book_trace reply_words A v) (sym (calls_same A r));
  every = views_same A r ∙ b.every ∙ ap (map (book_view A v)) (sym (calls_up-to-same A r));
  last = b.last ∙ ap (book_view A v) (sym (calls_same A r));
}

-- ---- the theorem

-- Demand 3 of the C entries: any two runs of them in any mixture, from the same opening numbers, that agree on the bytes of A's part and
-- on A's calls are the same for A, whichever entry made each call. Either is as A's book says, which is fed the opening, those bytes
-- and those calls alone. They may differ in all of the second slice
pub two_nights_in_c :
    (A : ℕ) → A < 4 →
    (o : Opening) (mem mem' rooms rooms' : List ℕ) (r : OpenedRun o mem rooms) (q : OpenedRun o mem' rooms') →
    first_bytes A o mem ≡ first_bytes A o mem' → calls_of A r.run ≡ calls_of A q.run →
    Isolated A (first_view A o (first_bytes A o mem)) r.run q.run
two_nights_in_c A h_a o mem mem' rooms rooms' r q b m =
    let n = sym (calls_same A r.run) ∙ m ∙ calls_same A q.run in
    let x = by_number_lem.two_nights_by-number A h_a o mem mem' rooms rooms' (mapped_opened o mem rooms r) (mapped_opened o mem' rooms' q) b n in
    record {
      same = trace-same A r.run ∙ x.same ∙ sym (trace-same A q.run);
      first = by-book r.run x.first;
      second = by-book q.run x.second;
    }

-- a slice of another length than the store's stays as it was, whichever entry it is lent to; a receive that is lent one leaves the
-- device and the store too
pub other_slice_kept-by-call :
    (h : Host) (c : Numbered) (x : List ℕ) (h₁ : Host) (s : CallStep h c x h₁) → c.size ≢ (rnic_at h.words).len →
    s.lent.after ≡ s.lent.slice.now
other_slice_kept-by-call = call_other

pub other_slice_kept-by-receive :
    (h : Host) (n : ℕ) (input : List ℕ) (k : ℕ) (x : List ℕ) (h₁ : Host) (s : ReceiveStep h n input k x h₁) → k ≢ (rnic_at h.words).len →
    (s.lent.after ≡ s.lent.slice.now) × (world_of h₁ ≡ world_of h)
other_slice_kept-by-receive = receive_other

-- an offer that is lent another length of either slice leaves both, and the device, the store and the rooms
pub other_slice_kept-by-offer :
    (h : Host) (n : ℕ) (input : List ℕ) (k m : ℕ) (x : List ℕ) (h₁ : Host) (s : OfferStep h n input k m x h₁) →
    ((k ≡ (rnic_at h.words).len) × (m ≡ rooms_bytes) → ⊥) →
    (s.lent.after ≡ s.lent.slice.now) × (s.second.after ≡ s.second.slice.now) × (world_of h₁ ≡ world_of h)
other_slice_kept-by-offer = offer_other

-- and so does the slice that is lent to the opening, of any length
pub opening_slice_kept : (o : Opening) (mem rooms : List ℕ) (h : Host) (s : Opened o mem rooms h) → s.after ≡ s.slice.now
opening_slice_kept = opening_slice
