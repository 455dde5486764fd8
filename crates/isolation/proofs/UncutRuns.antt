-- Cuts over whole runs, made through any interface: however the bytes of a stream of A's are cut, and whatever calls of others come between,
-- A has the same events in order and the same end view. The argument: a run is as A's book says, and the book's events and view are those
-- of the uncut run.
use Prim.Native.Nat.{ℕ, ◌%◌, ◌<◌}
use mathlib.Core.Path.{◌≡◌, refl, sym, ap, ap₂, subst, ◌∙◌}
use mathlib.Core.Bool.{true}
use mathlib.Core.List.{List, [], ◌∷◌, ◌++◌}
use native.Mathlib.Omega.{arith}
use Rattle.arrival.specs.declared.Event.TheVariants.{Sent, SentInvalidating, Terminated}
use Rattle.arrival.specs.declared.Answer.TheVariants.{Wait, Taken, Ended}
use Rattle.holding.specs.declared.OfferAnswer.TheVariants.{Kept, Completed, Ended as OfferEnded}
use Rattle.meter.specs.declared.gauge.Reading.TheVariants.{Quiet, Steady, Falling}
use Rattle.cuts.specs.Received.{Report}
use Rattle.isolation.specs.Book.{Call, Answer, View, Observation, Opening, book, book_trace, book_view}
use Rattle.isolation.specs.Book.Answer.{done, closed, received, offered, taken, counted, gauge_read, stated}
use Rattle.isolation.specs.Number.{reply_words}
use Rattle.isolation.specs.Uncut.{reports_of, reports_in_words, events_in, book_events, has_end, uncut, HoldsPart, Cut, SameFor, Over}
use Rattle.isolation.proofs.Calls.{World, view}
use Rattle.isolation.proofs.Induction.{run_fit, trace-is, views-are, end_is}
use Rattle.isolation.proofs.Isolation.{ByBook}
use Rattle.isolation.proofs.Numbers.{numbers}
use Rattle.isolation.proofs.Openings.{opened_fit}
use Rattle.isolation.proofs.Reachable.{guards_never_fire}
use Rattle.isolation.proofs.Runs.{Interface, Run, OpenedRun, functions, calls_of, trace}
use Rattle.isolation.proofs.Uncut.{calls_over, cut-uncut, holds-part}
use Rattle.isolation.proofs.WellFormed.{Fit}
use Rattle.std.specs.Prelude.{Err, None, Ok, Some}
use Rattle.rdmap.specs.declared.stream.State.TheVariants.{Closed as StateClosed, Ended as StateEnded, Open as StateOpen, Terminated as StateTerminated}

-- the events that the replies of an interface report
pub record Reporting (I : Interface) : Type 0 where
  pub reports : I.Reply → List Report
  pub exact : (a : Answer) → reports (I.reply a) ≡ reports_of a

-- ---- what is promised

-- a run has the events and the end of the uncut run of these bytes on stream n, from A's view v
pub record AsUncut {I : Interface} (t : Reporting I) (A : ℕ) (v : View) (n : ℕ) (bytes : List ℕ) {w w₁ : World} {cs : List I.Request} (r : Run I w cs w₁) : Type 0 where
  pub events : events_in t.reports (trace A r) ≡ book_events A v (uncut A v n bytes)
  pub end : view A w₁ ≡ book_view A v (uncut A v n bytes)

-- two runs have the same events of A's in order, and the same end: A's domain, its bytes of the store and what its streams hold
pub record SameRuns {I : Interface} (t : Reporting I) (A : ℕ) {w w₁ u u₁ : World} {cs ds : List I.Request} (r : Run I w cs w₁) (q : Run I u ds u₁) : Type 0 where
  pub events : events_in t.reports (trace A r) ≡ events_in t.reports (trace A q)
  pub end : view A w₁ ≡ view A u₁

-- a run from an opening on, which goes on with "each piece offered to the open stream with slices of the right length and with no other call
-- for that domain between": A's calls offer the bytes to stream n, cut somehow. Calls of others come anywhere between
pub record CutRun (I : Interface) (A n : ℕ) (bytes : List ℕ) : Type 0 where
  pub opening : Opening
  pub mem : List ℕ
  pub rooms : List ℕ
  pub before : OpenedRun I opening mem rooms
  pub calls : List I.Request
  pub end : World
  pub run : Run I before.end calls end
  pub cut : Cut A (view A before.end) n bytes (calls_of A run)

-- "However the same bytes are cut, .. the events in order, that domain's part of the store and its end state are those of the uncut run"
abbrev pub CutsUncut : (I : Interface) → Reporting I → Type 0
CutsUncut I t = (A : ℕ) → A < 4 → (n : ℕ) (bytes : List ℕ) (r : CutRun I A n bytes) → AsUncut t A (view A r.before.end) n bytes r.run

-- so two ways to cut them come to the same, where A has the same view before
abbrev pub CutsSame : (I : Interface) → Reporting I → Type 0
CutsSame I t =
    (A : ℕ) → A < 4 → (n : ℕ) (bytes : List ℕ) (r q : CutRun I A n bytes) → view A r.before.end ≡ view A q.before.end → SameRuns t A r.run q.run

-- "bytes after that are refused with 5 and not kept": so A's book has it after a run that reported an end
abbrev pub CutsOver : (I : Interface) → Reporting I → Type 0
CutsOver I t =
    (A : ℕ) → A < 4 → (n : ℕ) (bytes : List ℕ) (r : CutRun I A n bytes) → has_end (events_in t.reports (trace A r.run)) ≡ true → Over A (view A r.end) n

-- ---- the proof

module _ {I : Interface} (t : Reporting I) (A : ℕ) where
  -- the replies report what the answers do
  trace_reports : (cs : List Call) (v : View) → events_in t.reports (book_trace I.reply A v cs) ≡ book_events A v cs
  unfolding events_in book_trace
  trace_reports [] v = refl
  trace_reports (c ∷ cs) v = ap₂ (λ (l m : List Report). l ++ m) (t.exact (book A v c).answer) (trace_reports cs (book A v c).after)

  -- of a run that is as A's book says
  pub book_as_uncut :
      (v : View) (n : ℕ) (bytes : List ℕ) → HoldsPart A v n → {w w₁ : World} {cs : List I.Request} (r : Run I w cs w₁) → ByBook A v r →
      Cut A v n bytes (calls_of A r) → AsUncut t A v n bytes r
  book_as_uncut v n bytes h r b c =
      let s : SameFor A v (calls_of A r) (uncut A v n bytes) = cut-uncut A n v bytes h (calls_of A r) c in
      record { events = ap (events_in t.reports) b.own ∙ trace_reports (calls_of A r) v ∙ s.events; end = b.last ∙ s.end }

  -- of a run from any well-formed world in which the stream holds a part of an FPDU
  module _ (h_a : A < 4) {w w₁ : World} {cs : List I.Request} (f : Fit w) (r : Run I w cs w₁) where
    fit_by-book : ByBook A (view A w) r
    fit_by-book = record { own = trace-is I A h_a f r; every = views-are I A h_a f r; last = end_is I A h_a f r }

    pub run_as_uncut : (n : ℕ) (bytes : List ℕ) → HoldsPart A (view A w) n → Cut A (view A w) n bytes (calls_of A r) → AsUncut t A (view A w) n bytes r
    run_as_uncut n bytes h c = book_as_uncut (view A w) n bytes h r fit_by-book c

    run-over : (n : ℕ) (bytes : List ℕ) → Cut A (view A w) n bytes (calls_of A r) → has_end (events_in t.reports (trace A r)) ≡ true → Over A (view A w₁) n
    run-over n bytes c e =
        subst (λ (v : View). Over A v n) (sym (fit_by-book.last ∙ ap (book_view A (view A w)) c.are))
        (calls_over A n c.counts (view A w) bytes
        (ap (λ (calls : List Call). has_end (book_events A (view A w) calls)) (sym c.are)
        ∙ ap has_end (sym (trace_reports (calls_of A r) (view A w)))
        ∙ ap (λ (os : List (Observation I.Reply)). has_end (events_in t.reports os)) (sym fit_by-book.own)
        ∙ e))

-- before them: what the streams hold in a world that a run reaches is such a part, and the world is well-formed
reached_fit : {I : Interface} {o : Opening} {mem rooms : List ℕ} (b : OpenedRun I o mem rooms) → Fit b.end
reached_fit {I = I} {o = o} {mem = mem} {rooms = rooms} b = run_fit I (opened_fit o mem rooms b.start b.opened) b.run

reached_holds : {I : Interface} {o : Opening} {mem rooms : List ℕ} (b : OpenedRun I o mem rooms) (A : ℕ) → A < 4 → (n : ℕ) → HoldsPart A (view A b.end) n
reached_holds {o = o} {mem = mem} {rooms = rooms} b A h_a n =
    let s = (guards_never_fire o mem rooms b.opened b.run A h_a).held_short (n % 4) (omega arith) in
    holds-part A n (view A b.end) (sym s.counted) (λ q. s.short) (λ q. (s.shut q).0)

pub cuts_uncut : (I : Interface) (t : Reporting I) → CutsUncut I t
cuts_uncut I t A h_a n bytes r = run_as_uncut t A h_a (reached_fit r.before) r.run n bytes (reached_holds r.before A h_a n) r.cut

pub cuts_over : (I : Interface) (t : Reporting I) → CutsOver I t
cuts_over I t A h_a n bytes r e = run-over t A h_a (reached_fit r.before) r.run n bytes r.cut e

pub cuts_same : (I : Interface) (t : Reporting I) → CutsSame I t
cuts_same I t A h_a n bytes r q e =
    let x : AsUncut t A (view A r.before.end) n bytes r.run = cuts_uncut I t A h_a n bytes r in
    let y : AsUncut t A (view A q.before.end) n bytes q.run = cuts_uncut I t A h_a n bytes q in
    let uncut-events : View → List Report = λ v. book_events A v (uncut A v n bytes) in
    let uncut-end : View → View = λ v. book_view A v (uncut A v n bytes) in
    record { events = x.events ∙ ap uncut-events e ∙ sym y.events; end = x.end ∙ ap uncut-end e ∙ sym y.end }

-- ---- the theorem

-- for the device's own functions and offers
abbrev pub function_reports : Reporting functions
function_reports = record { reports = reports_of; exact = λ a. refl }

pub uncut-by-functions : CutsUncut functions function_reports
uncut-by-functions = cuts_uncut functions function_reports

pub same-by-functions : CutsSame functions function_reports
same-by-functions = cuts_same functions function_reports

pub over-by-functions : CutsOver functions function_reports
over-by-functions = cuts_over functions function_reports

-- for calls by number and offers, with answers in words
pub words_exact : (a : Answer) → reports_in_words (reply_words a) ≡ reports_of a
unfolding reports_in_words
words_exact (done (Ok tt)) = refl
words_exact (done (Err k)) = refl
words_exact (closed (Ok left)) = refl
words_exact (closed (Err k)) = refl
words_exact (received (Ok (Wait n))) = refl
words_exact (received (Ok (Taken total None))) = refl
words_exact (received (Ok (Taken total (Some (Sent start len opcode))))) = refl
words_exact (received (Ok (Taken total (Some (SentInvalidating start len opcode stag))))) = refl
words_exact (received (Ok (Taken total (Some (Terminated layer etype code))))) = refl
words_exact (received (Ok (Ended r))) = refl
words_exact (received (Err k)) = refl
words_exact (offered (Ok (Kept n))) = refl
words_exact (offered (Ok (Completed count total None))) = refl
words_exact (offered (Ok (Completed count total (Some (Sent start len opcode))))) = refl
words_exact (offered (Ok (Completed count total (Some (SentInvalidating start len opcode stag))))) = refl
words_exact (offered (Ok (Completed count total (Some (Terminated layer etype code))))) = refl
words_exact (offered (Ok (OfferEnded r))) = refl
words_exact (offered (Err k)) = refl
words_exact (taken (Ok r)) = refl
words_exact (taken (Err k)) = refl
words_exact (counted (Ok n)) = refl
words_exact (counted (Err k)) = refl
words_exact (gauge_read (Ok Quiet)) = refl
words_exact (gauge_read (Ok (Steady level))) = refl
words_exact (gauge_read (Ok (Falling level peak))) = refl
words_exact (gauge_read (Err k)) = refl
words_exact (stated (Ok StateClosed)) = refl
words_exact (stated (Ok (StateOpen buffers reads))) = refl
words_exact (stated (Ok (StateEnded r buffers reads))) = refl
words_exact (stated (Ok (StateTerminated buffers reads))) = refl
words_exact (stated (Err k)) = refl

abbrev pub word_reports : Reporting numbers
word_reports = record { reports = reports_in_words; exact = words_exact }

pub uncut-by-number : CutsUncut numbers word_reports
uncut-by-number = cuts_uncut numbers word_reports

pub same-by-number : CutsSame numbers word_reports
same-by-number = cuts_same numbers word_reports

pub over-by-number : CutsOver numbers word_reports
over-by-number = cuts_over numbers word_reports
