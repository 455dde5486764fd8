-- However the bytes of a stream are cut, A's book has the same events and the same end view as in the uncut run.
-- The argument: the book's offers are those of the crate `cuts` over A's receive, and the law of cuts is proved there.
use Prim.Native.Nat.{ℕ, zero, suc, ◌-◌, ◌%◌, ◌≤◌}
use mathlib.Core.Path.{◌≡◌, refl, sym, ap, ap₂, subst, subst₂, fun_ext, ◌∙◌}
use mathlib.Core.Bool.{Bool, true, false}
use mathlib.Core.List.{List, [], ◌∷◌, ◌++◌, append-nil}
use native.Mathlib.Omega.{arith}
use lib.ListN.{length, take, drop, length-drop}
use lib.Seq.{take-length, drop-length}
use lib.Dec.{eqb}
use borrow.Author.Tests.{eqb-true, eq-eqb}
use Rattle.wire.specs.Wire.{pick, both}
use Rattle.domain.specs.Domain.{stream_at}
use Rattle.arrival.specs.declared.Event.TheVariants.{Sent, SentInvalidating, Terminated}
use Rattle.arrival.specs.declared.Answer.{Answer as ReceiveAnswer}
use Rattle.arrival.specs.declared.Answer.TheVariants.{Wait, Taken, Ended}
use Rattle.cuts.specs.Cuts.{Step, Offered, Outcome, Called, after_call, offer_of, offer as machine_offer, events_of, left_of, still, after, called, drain, joined, Answer as MachineAnswer}
use Rattle.cuts.specs.Cuts.Step.{waits, took, ends, refuses}
use Rattle.cuts.specs.Cuts.Answer.{refused}
use Rattle.cuts.specs.Received.{Side, Report, received as machine_received, MayHold, Short, Over as MachineOver}
use Rattle.cuts.specs.Received.Report.{event, refusal}
use Rattle.cuts.proofs.Cuts.{Shut, offer_count, shut-pieces}
use Rattle.cuts.proofs.Received.{machine}
use Rattle.cuts.proofs.Domain.{new_holds, domain-uncut, domain_calls_same, domain_calls_law, refusal-over, terminate-over}
use Rattle.holding.specs.Machine.{side_of, answer_of}
use Rattle.holding.specs.Offer.{is_open, offer_answer, domain_offered, domain_offered_bytes, domain_offered_held}
use Rattle.holding.proofs.Machine.{domain_of, domain_back, may_hold, offer-is, offer-holds, offer-counted, offer-refused}
use Rattle.isolation.specs.Book.{Call, Answer, View, Observation, book_offer, book, book_trace, book_view}
use Rattle.isolation.specs.Book.Answer.{offered}
use Rattle.isolation.specs.Uncut.{reports_of, events_in, book_events, is_end, has_end, piece_of, rest_of, left_after, offers_of, left_over, uncut_in, uncut, ones, HoldsPart, Through, Cut, SameFor, Over}
use Rattle.isolation.specs.Uncut.Through.{all, over}
use Rattle.std.specs.Prelude.{Err, None, Ok, Result, Some}
use Rattle.wire.specs.declared.refusal.LocalRefusal.{LocalRefusal}
use Rattle.wire.specs.declared.refusal.LocalRefusal.TheVariants.{OutOfRange, OtherLength, NotOpen, AlreadyOpen, StreamEnded, WindowLive, WindowNotLive, KeyAgain, BadPlace, BuffersFull, NoReadWaits, OverLimit, NoRoom, BadStartup, Markers, HoldsBytes, SharedByte, IrdTooSmall, NoKind}
use Rattle.wire.specs.Refusal.{refusal_number}

-- 5 is the number of no other refusal
number_five : (k : LocalRefusal) → refusal_number k ≡ 5 → k ≡ StreamEnded
unfolding refusal_number
number_five StreamEnded e = refl
number_five OutOfRange e = absurd (omega (arith, e))
number_five OtherLength e = absurd (omega (arith, e))
number_five NotOpen e = absurd (omega (arith, e))
number_five AlreadyOpen e = absurd (omega (arith, e))
number_five WindowLive e = absurd (omega (arith, e))
number_five WindowNotLive e = absurd (omega (arith, e))
number_five KeyAgain e = absurd (omega (arith, e))
number_five BadPlace e = absurd (omega (arith, e))
number_five BuffersFull e = absurd (omega (arith, e))
number_five NoReadWaits e = absurd (omega (arith, e))
number_five OverLimit e = absurd (omega (arith, e))
number_five NoRoom e = absurd (omega (arith, e))
number_five BadStartup e = absurd (omega (arith, e))
number_five Markers e = absurd (omega (arith, e))
number_five HoldsBytes e = absurd (omega (arith, e))
number_five SharedByte e = absurd (omega (arith, e))
number_five IrdTooSmall e = absurd (omega (arith, e))
number_five NoKind e = absurd (omega (arith, e))

module _ (A n : ℕ) where
  abbrev slot : ℕ
  slot = n % 4

  inside : slot ≤ 3
  inside = omega arith

  -- A's domain and bytes as a state of the machine
  abbrev side_at : View → Side
  side_at v = side_of slot v.dom v.bytes

  -- ---- one call

  module _ (v : View) (piece : List ℕ) where
    abbrev call : Observation Answer
    call = book A v (piece_of v n piece)

    abbrev next : View
    next = (book_offer A v n piece).after

    asked : call ≡ book_offer A v n piece
    asked = ap (λ (b : Bool). pick (both b true) (book_offer A v n piece) (record { answer = offered (Err OtherLength); after = v })) (eq-eqb v.size v.size refl)

    own_held : next.held slot ≡ domain_offered_held v.dom A slot (v.held slot) piece
    own_held = ap (λ (b : Bool). pick b (domain_offered_held v.dom A slot (v.held slot) piece) (v.held slot)) (eq-eqb slot slot refl)

    -- the machine's offer is the book's
    one :
        machine_offer (machine_received A slot) (side_at v) (v.held slot) piece
        ≡ record {
          answer = answer_of (offer_answer (length (v.held slot)) (length piece) (domain_offered v.dom A slot (v.held slot) piece).0);
          state = side_at next;
          held = next.held slot;
        }
    one =
        offer-is v.dom A slot inside (v.held slot) piece v.bytes
        ∙ (λ i. record {
          answer = answer_of (offer_answer (length (v.held slot)) (length piece) (domain_offered v.dom A slot (v.held slot) piece).0);
          state = side_at next;
          held = sym own_held i;
        })

  -- ---- the calls

  -- what they come to, by the book
  abbrev book_called : View → List ℕ → List ℕ → Called Side Report
  book_called v bytes cs =
      let calls : List Call = offers_of A v n bytes cs in
      record {
        outcome = record { events = book_events A v calls; state = side_at (book_view A v calls); held = (book_view A v calls).held slot };
        left = left_over A v n bytes cs;
      }

  calls_are : (cs : List ℕ) (v : View) (bytes : List ℕ) → book_called v bytes cs ≡ called (machine_received A slot) (side_at v) (v.held slot) bytes cs
  unfolding called offers_of left_over book_trace book_view events_in
  calls_are [] v bytes = refl
  calls_are (c ∷ cs) v bytes =
      let first : List ℕ = take c bytes in
      let rest : Observation Answer → Called Side Report = λ o. after_call (reports_of o.answer) (called (machine_received A slot) (side_at o.after) (o.after.held slot) (rest_of o.answer first ++ drop c bytes) cs) in
      ap (after_call (reports_of (call v first).answer)) (calls_are cs (call v first).after (left_after A v n bytes c))
      ∙ ap rest (asked v first)
      ∙ sym (ap (λ (o : Offered Side Report). after_call (events_of o.answer) (called (machine_received A slot) o.state o.held (left_of o.answer first ++ drop c bytes) cs)) (one v first))

  -- ---- the views

  -- a call stays_part the count of held bytes, and what is held completes nothing
  stays_part : (v : View) (piece : List ℕ) → HoldsPart A v n → HoldsPart A (call v piece).after n
  stays_part v piece h = subst (λ (o : Observation Answer). HoldsPart A o.after n) (sym (asked v piece)) (record {
    counted = offer-counted v.dom A slot inside (v.held slot) piece v.bytes h.counted ∙ ap length (sym (own_held v piece));
    part = subst (MayHold A slot (side_at (next v piece))) (sym (own_held v piece)) (offer-holds v.dom A slot inside (v.held slot) piece v.bytes h.part);
  })

  -- what a view has beside the machine's state and the bytes held is as it was, or follows from them
  record From (v u : View) : Type 0 where
    size : u.size ≡ v.size
    counted : (stream_at u.dom slot).framing.held ≡ length (u.held slot)
    others : (s : ℕ) → eqb s slot ≡ false → u.held s ≡ v.held s

  calls_from : (cs : List ℕ) (v u : View) (bytes : List ℕ) → From v u → HoldsPart A u n → From v (book_view A u (offers_of A u n bytes cs))
  unfolding offers_of book_view
  calls_from [] v u bytes f h = f
  calls_from (c ∷ cs) v u bytes f h =
      let first : List ℕ = take c bytes in
      let k = stays_part u first h in
      calls_from cs v (call u first).after (left_after A u n bytes c)
      (record {
        size = ap (λ (o : Observation Answer). o.after.size) (asked u first) ∙ f.size;
        counted = k.counted;
        others = λ s e.
            ap (λ (o : Observation Answer). o.after.held s) (asked u first)
            ∙ ap (λ (b : Bool). pick b (domain_offered_held u.dom A slot (u.held slot) first) (u.held s)) e
            ∙ f.others s e;
      }) k

  -- so two such views of one state and the same held bytes are the same
  view-same : (v u t : View) → From v u → From v t → side_at u ≡ side_at t → u.held slot ≡ t.held slot → u ≡ t
  view-same v u t f g e h i = record {
    size = (f.size ∙ sym g.size) i;
    dom = dom_same i;
    bytes = (e i).bytes;
    held = held_same i;
  }
    where
      dom_same : u.dom ≡ t.dom
      dom_same =
          sym (domain_back u.dom slot (u.held slot) u.bytes f.counted)
          ∙ (λ i. domain_of slot (e i) (h i))
          ∙ domain_back t.dom slot (t.held slot) t.bytes g.counted

      at : (s : ℕ) (b : Bool) → eqb s slot ≡ b → u.held s ≡ t.held s
      at s true q = ap u.held (eqb-true s slot q) ∙ h ∙ ap t.held (sym (eqb-true s slot q))
      at s false q = f.others s q ∙ sym (g.others s q)

      held_same : u.held ≡ t.held
      held_same = fun_ext (λ s. at s (eqb s slot) refl)

  -- ---- an end

  end-append : (l m : List Report) → has_end (l ++ m) ≡ pick (has_end l) true (has_end m)
  unfolding has_end
  end-append [] m = refl
  end-append (e ∷ l) m = ap (pick (is_end e) true) (end-append l m) ∙ go (is_end e)
    where
      go : (b : Bool) → pick b true (pick (has_end l) true (has_end m)) ≡ pick (pick b true (has_end l)) true (has_end m)
      go true = refl
      go false = refl

  -- a local refusal leaves A's view
  refused-same : (v : View) (piece : List ℕ) (k : LocalRefusal) → (domain_offered v.dom A slot (v.held slot) piece).0 ≡ Err k → call v piece ≡ record { answer = offered (Err k); after = v }
  refused-same v piece k q =
      asked v piece
      ∙ (λ i. record {
        answer = offered (offer_answer (length (v.held slot)) (length piece) (q i));
        after = record { size = v.size; dom = left.0 i; bytes = left.1 i; held = held_same i };
      })
    where
      left :
          ((domain_offered v.dom A slot (v.held slot) piece).1 ≡ v.dom)
          × (domain_offered_bytes v.dom A slot (v.held slot) piece v.bytes ≡ v.bytes)
          × (domain_offered_held v.dom A slot (v.held slot) piece ≡ v.held slot)
      left = offer-refused v.dom A slot inside (v.held slot) piece v.bytes k q

      at : (s : ℕ) (b : Bool) → eqb s slot ≡ b → pick b (domain_offered_held v.dom A slot (v.held slot) piece) (v.held s) ≡ v.held s
      at s true e = left.2 ∙ ap v.held (sym (eqb-true s slot e))
      at s false e = refl

      held_same : (next v piece).held ≡ v.held
      held_same = fun_ext (λ s. at s (eqb s slot) refl)

  -- an end of the machine is one of the book
  over_of : (v : View) (x : MachineAnswer Report) → MachineOver A slot (record { answer = x; state = side_at v; held = v.held slot }) → Over A v n
  over_of v x o = record { empty = o.empty; later = λ piece. refused-same v piece StreamEnded (five piece) }
    where
      by : (h c : ℕ) (a : Result ReceiveAnswer LocalRefusal) → answer_of (offer_answer h c a) ≡ refused 5 → a ≡ Err StreamEnded
      by h c (Ok (Wait m)) e = absurd (let no : ◌≡◌ {A = ℕ} 0 1 = cc in omega arith)
      by h c (Ok (Taken total f)) e = absurd (let no : ◌≡◌ {A = ℕ} 0 1 = cc in omega arith)
      by h c (Ok (Ended r)) e = absurd (let no : ◌≡◌ {A = ℕ} 0 1 = cc in omega arith)
      by h c (Err k) e = let same : refusal_number k ≡ 5 = cc in ap Err (number_five k same)

      five : (piece : List ℕ) → (domain_offered v.dom A slot (v.held slot) piece).0 ≡ Err StreamEnded
      five piece =
          by (length (v.held slot)) (length piece) (domain_offered v.dom A slot (v.held slot) piece).0
          (ap (λ (r : Offered Side Report). r.answer) (sym (one v piece) ∙ o.later piece))

  -- after a call that reports an end
  pub ended-over : (v : View) (piece : List ℕ) → has_end (reports_of (book A v (piece_of v n piece)).answer) ≡ true → Over A (book A v (piece_of v n piece)).after n
  unfolding has_end
  ended-over v piece e =
      subst (λ (o : Observation Answer). Over A o.after n) (sym (asked v piece))
      (go (domain_offered v.dom A slot (v.held slot) piece).0 refl (ap (λ (o : Observation Answer). has_end (reports_of o.answer)) (sym (asked v piece)) ∙ e))
    where
      h : ℕ
      h = length (v.held slot)

      go : (a : Result ReceiveAnswer LocalRefusal) → (domain_offered v.dom A slot (v.held slot) piece).0 ≡ a → has_end (reports_of (offered (offer_answer h (length piece) a))) ≡ true → Over A (next v piece) n
      go (Ok (Wait m)) q t = absurd (let no : ◌≡◌ {A = ℕ} 0 1 = cc in omega arith)
      go (Ok (Taken total None)) q t = absurd (let no : ◌≡◌ {A = ℕ} 0 1 = cc in omega arith)
      go (Ok (Taken total (Some (Sent start len opcode)))) q t = absurd (let no : ◌≡◌ {A = ℕ} 0 1 = cc in omega arith)
      go (Ok (Taken total (Some (SentInvalidating start len opcode stag)))) q t = absurd (let no : ◌≡◌ {A = ℕ} 0 1 = cc in omega arith)
      go (Ok (Taken total (Some (Terminated layer etype code)))) q t =
          over_of (next v piece) _ (subst (MachineOver A slot) (one v piece)
          (terminate-over A slot (side_at v) (v.held slot) piece (total - h) layer etype code (ap (λ (r : Offered Side Report). r.answer) (one v piece) ∙ ap (λ (a : Result ReceiveAnswer LocalRefusal). answer_of (offer_answer h (length piece) a)) q)))
      go (Ok (Ended r)) q t =
          over_of (next v piece) _ (subst (MachineOver A slot) (one v piece)
          (refusal-over A slot (side_at v) (v.held slot) piece (refusal r) (ap (λ (r : Offered Side Report). r.answer) (one v piece) ∙ ap (λ (a : Result ReceiveAnswer LocalRefusal). answer_of (offer_answer h (length piece) a)) q)))
      go (Err k) q t = absurd (let no : ◌≡◌ {A = ℕ} 0 1 = cc in omega arith)

  -- later offers report nothing and leave A's view
  pub over_calls : (cs : List ℕ) (v : View) (bytes : List ℕ) → Over A v n → (book_events A v (offers_of A v n bytes cs) ≡ []) × (book_view A v (offers_of A v n bytes cs) ≡ v)
  unfolding offers_of book_trace book_view events_in
  over_calls [] v bytes o = (refl, refl)
  over_calls (c ∷ cs) v bytes o =
      let first : List ℕ = take c bytes in
      let r = over_calls cs v (drop c bytes) o in (
        ap (λ (x : Observation Answer). reports_of x.answer ++ book_events A x.after (offers_of A x.after n (rest_of x.answer first ++ drop c bytes) cs)) (o.later first) ∙ r.0,
        ap (λ (x : Observation Answer). book_view A x.after (offers_of A x.after n (rest_of x.answer first ++ drop c bytes) cs)) (o.later first) ∙ r.1,
      )

  -- after calls of which one reports an end
  pub calls_over : (cs : List ℕ) (v : View) (bytes : List ℕ) → has_end (book_events A v (offers_of A v n bytes cs)) ≡ true → Over A (book_view A v (offers_of A v n bytes cs)) n
  unfolding has_end offers_of book_trace book_view events_in
  calls_over [] v bytes e = absurd (let no : ◌≡◌ {A = ℕ} 0 1 = cc in omega arith)
  calls_over (c ∷ cs) v bytes e = go (calls_over cs after_first left) (has_end first_reports) refl
    where
      after_first : View
      after_first = (call v (take c bytes)).after

      left : List ℕ
      left = left_after A v n bytes c

      first_reports : List Report
      first_reports = reports_of (call v (take c bytes)).answer

      later : List Call
      later = offers_of A after_first n left cs

      go : (has_end (book_events A after_first later) ≡ true → Over A (book_view A after_first later) n) → (b : Bool) → has_end first_reports ≡ b → Over A (book_view A after_first later) n
      go rest true q = let o : Over A after_first n = ended-over v (take c bytes) q in subst (λ (u : View). Over A u n) (sym (over_calls cs after_first left o).1) o
      go rest false q = rest (ap (λ (b : Bool). pick b true (has_end (book_events A after_first later))) (sym q) ∙ sym (end-append first_reports (book_events A after_first later)) ∙ e)

  -- ---- what the calls come to

  after-still : (r : Outcome Side Report) → after r.events (still r.state r.held) ≡ r
  after-still r i = record { events = append-nil r.events i; state = r.state; held = r.held }

  -- of a stream that ended the machine refuses whatever comes
  over-shut : (v : View) → Over A v n → Shut (machine A slot) (side_at v) 5
  unfolding machine_offer refusal_number
  over-shut v o q =
      by (machine_received A slot (side_at v) q)
      (ap (λ (l : List ℕ). (machine_offer (machine_received A slot) (side_at v) l q).answer) (sym o.empty)
      ∙ ap (λ (r : Offered Side Report). r.answer) (one v q)
      ∙ ap answer_of (answered q))
    where
      answered : (q : List ℕ) → offer_answer (length (v.held slot)) (length q) (domain_offered v.dom A slot (v.held slot) q).0 ≡ Err StreamEnded
      answered q = let e : (book_offer A v n q).answer ≡ offered (Err StreamEnded) = ap (λ (x : Observation Answer). x.answer) (sym (asked v q) ∙ o.later q) in cc

      by : (x : Step Side Report) → (offer_of (side_at v) [] q x).answer ≡ refused 5 → x ≡ refuses 5
      by waits e = absurd (let no : ◌≡◌ {A = ℕ} 0 1 = cc in omega arith)
      by (took m f t) e = absurd (let no : ◌≡◌ {A = ℕ} 0 1 = cc in omega arith)
      by (ends f t) e = absurd (let no : ◌≡◌ {A = ℕ} 0 1 = cc in omega arith)
      by (refuses k) e = let same : k ≡ 5 = cc in ap refuses same

  none_made : (t : Side) → Shut (machine A slot) t 5 → (l : List ℕ) → drain (machine_received A slot) t [] l ≡ still t []
  unfolding joined
  none_made t s l =
      ap (drain (machine_received A slot) t []) (sym (append-nil l))
      ∙ sym (domain-uncut A slot t [] (new_holds A slot t) (l ∷ []))
      ∙ shut-pieces (machine A slot) t 5 s (l ∷ [])

  module _ (v : View) (bytes : List ℕ) (h : HoldsPart A v n) where
    abbrev whole : Outcome Side Report
    whole = drain (machine_received A slot) (side_at v) (v.held slot) bytes

    -- a stream that ended makes nothing of what is left
    left-refused : (cs : List ℕ) → Over A (book_view A v (offers_of A v n bytes cs)) n → (book_called v bytes cs).outcome ≡ whole
    left-refused cs o =
        let r : Called Side Report = book_called v bytes cs in
        let t : Side = r.outcome.state in
        sym (after-still r.outcome)
        ∙ ap (λ (l : List ℕ). after r.outcome.events (still t l)) o.empty
        ∙ ap (after r.outcome.events) (sym (none_made t (over-shut (book_view A v (offers_of A v n bytes cs)) o) r.left))
        ∙ ap (λ (l : List ℕ). after r.outcome.events (drain (machine_received A slot) t l r.left)) (sym o.empty)
        ∙ ap (λ (x : Called Side Report). after x.outcome.events (drain (machine_received A slot) x.outcome.state x.outcome.held x.left)) (calls_are cs v bytes)
        ∙ domain_calls_law A slot (side_at v) (v.held slot) h.part cs bytes

    through-whole : (cs : List ℕ) → Through A v n bytes cs → (book_called v bytes cs).outcome ≡ whole
    through-whole cs (all e) =
        ap (λ (r : Called Side Report). r.outcome) (calls_are cs v bytes)
        ∙ domain_calls_same A slot (side_at v) (v.held slot) h.part cs bytes (ap (λ (r : Called Side Report). r.left) (sym (calls_are cs v bytes)) ∙ e)
    through-whole cs (over e) = left-refused cs (calls_over cs v bytes e)

    same_calls : (cs ds : List ℕ) → Through A v n bytes cs → Through A v n bytes ds → SameFor A v (offers_of A v n bytes cs) (offers_of A v n bytes ds)
    same_calls cs ds t u =
        let e : (book_called v bytes cs).outcome ≡ (book_called v bytes ds).outcome = through-whole cs t ∙ sym (through-whole ds u) in
        let start : From v v = record { size = refl; counted = h.counted; others = λ s q. refl } in
        record {
          events = ap (λ (r : Outcome Side Report). r.events) e;
          end = view-same v (book_view A v (offers_of A v n bytes cs)) (book_view A v (offers_of A v n bytes ds)) (calls_from cs v v bytes start h) (calls_from ds v v bytes start h)
              (ap (λ (r : Outcome Side Report). r.state) e) (ap (λ (r : Outcome Side Report). r.held) e);
        }

    pub cut-same : (cs ds : List Call) → Cut A v n bytes cs → Cut A v n bytes ds → SameFor A v cs ds
    cut-same cs ds c d = subst₂ (SameFor A v) (sym c.are) (sym d.are) (same_calls c.counts d.counts c.through d.through)

  -- ---- the uncut run, and each byte by itself

  -- a call takes at least one byte, where there is one
  rest_shorter : (v : View) (b : ℕ) (p : List ℕ) → HoldsPart A v n → length (rest_of (call v (b ∷ p)).answer (b ∷ p)) ≤ length p
  rest_shorter v b p h =
      subst (λ (o : Observation Answer). length (rest_of o.answer (b ∷ p)) ≤ length p) (sym (asked v (b ∷ p))) (go (domain_offered v.dom A slot (v.held slot) (b ∷ p)).0 refl)
    where
      held : ℕ
      held = length (v.held slot)

      go : (a : Result ReceiveAnswer LocalRefusal) → (domain_offered v.dom A slot (v.held slot) (b ∷ p)).0 ≡ a → length (left_of (answer_of (offer_answer held (length (b ∷ p)) a)) (b ∷ p)) ≤ length p
      go (Ok (Wait m)) q = omega (arith, length-drop (length (b ∷ p)) (b ∷ p))
      go (Ok (Taken total e)) q =
          let took = offer_count (machine A slot) (side_at v) (v.held slot) (b ∷ p) (total - held) (event e) h.part
          (ap (λ (r : Offered Side Report). r.answer) (one v (b ∷ p)) ∙ ap (λ (a : Result ReceiveAnswer LocalRefusal). answer_of (offer_answer held (length (b ∷ p)) a)) q) in
          omega (arith, length-drop (total - held) (b ∷ p), took.0)
      go (Ok (Ended r)) q = omega arith
      go (Err k) q = omega arith

  nil_of : (l : List ℕ) → length l ≤ 0 → l ≡ []
  nil_of [] h = refl
  nil_of (b ∷ l) h = absurd (omega arith)

  -- calls that leave nothing
  record Whole (v : View) (bytes : List ℕ) (calls : List Call) : Type 0 where
    counts : List ℕ
    are : calls ≡ offers_of A v n bytes counts
    none : left_over A v n bytes counts ≡ []

  whole-cut : (v : View) (bytes : List ℕ) (calls : List Call) → Whole v bytes calls → Cut A v n bytes calls
  whole-cut v bytes calls w = record { counts = w.counts; are = w.are; through = all w.none }

  -- all at once, and then some
  module _ (v : View) (bytes cs : List ℕ) where
    once_offers : offers_of A v n bytes (length bytes ∷ cs) ≡ piece_of v n bytes ∷ offers_of A (call v bytes).after n (rest_of (call v bytes).answer bytes) cs
    unfolding offers_of
    once_offers =
        ap₂ (λ (x y : List ℕ). piece_of v n x ∷ offers_of A (call v x).after n (rest_of (call v x).answer x ++ y) cs) (take-length bytes) (drop-length bytes)
        ∙ ap (λ (x : List ℕ). piece_of v n bytes ∷ offers_of A (call v bytes).after n x cs) (append-nil (rest_of (call v bytes).answer bytes))

    once_left : left_over A v n bytes (length bytes ∷ cs) ≡ left_over A (call v bytes).after n (rest_of (call v bytes).answer bytes) cs
    unfolding left_over
    once_left =
        ap₂ (λ (x y : List ℕ). left_over A (call v x).after n (rest_of (call v x).answer x ++ y) cs) (take-length bytes) (drop-length bytes)
        ∙ ap (λ (x : List ℕ). left_over A (call v bytes).after n x cs) (append-nil (rest_of (call v bytes).answer bytes))

  uncut-whole : (k : ℕ) (v : View) (bytes : List ℕ) → HoldsPart A v n → length bytes ≤ k → Whole v bytes (uncut_in k A v n bytes)
  unfolding uncut_in offers_of left_over
  uncut-whole zero v bytes h l = record { counts = []; are = refl; none = nil_of bytes l }
  uncut-whole (suc k) v [] h l = record { counts = []; are = refl; none = refl }
  uncut-whole (suc k) v (b ∷ p) h l = go (uncut-whole k (call v (b ∷ p)).after (rest_of (call v (b ∷ p)).answer (b ∷ p)) (stays_part v (b ∷ p) h) (omega (arith, l, rest_shorter v b p h)))
    where
      later : List Call
      later = uncut_in k A (call v (b ∷ p)).after n (rest_of (call v (b ∷ p)).answer (b ∷ p))

      go : Whole (call v (b ∷ p)).after (rest_of (call v (b ∷ p)).answer (b ∷ p)) later → Whole v (b ∷ p) (piece_of v n (b ∷ p) ∷ later)
      go w = record {
        counts = length (b ∷ p) ∷ w.counts;
        are = ap (λ (x : List Call). piece_of v n (b ∷ p) ∷ x) w.are ∙ sym (once_offers v (b ∷ p) w.counts);
        none = once_left v (b ∷ p) w.counts ∙ w.none;
      }

  ones_none : (bytes : List ℕ) (v : View) → HoldsPart A v n → left_over A v n bytes (ones bytes) ≡ []
  unfolding left_over ones
  ones_none [] v h = refl
  ones_none (b ∷ bs) v h =
      let one_byte : List ℕ = b ∷ [] in
      ap (λ (x : List ℕ). left_over A (call v one_byte).after n (x ++ bs) (ones bs)) (nil_of (rest_of (call v one_byte).answer one_byte) (rest_shorter v b [] h))
      ∙ ones_none bs (call v one_byte).after (stays_part v one_byte h)

  -- ---- the theorems

  module _ (v : View) (bytes : List ℕ) (h : HoldsPart A v n) where
    -- the uncut run is one of the ways to cut the bytes
    pub uncut-cut : Cut A v n bytes (uncut A v n bytes)
    uncut-cut = whole-cut v bytes (uncut A v n bytes) (uncut-whole (length bytes) v bytes h (omega arith))

    -- "However the same bytes are cut": the same as the uncut run
    pub cut-uncut : (calls : List Call) → Cut A v n bytes calls → SameFor A v calls (uncut A v n bytes)
    cut-uncut calls c = cut-same v bytes h calls (uncut A v n bytes) c uncut-cut

    -- each byte by itself
    pub bytes_cut : Cut A v n bytes (offers_of A v n bytes (ones bytes))
    bytes_cut = whole-cut v bytes (offers_of A v n bytes (ones bytes)) (record { counts = ones bytes; are = refl; none = ones_none bytes v h })

    pub byte-by-byte : SameFor A v (offers_of A v n bytes (ones bytes)) (uncut A v n bytes)
    byte-by-byte = cut-uncut (offers_of A v n bytes (ones bytes)) bytes_cut

  -- what a stream holds completes nothing where it is short, and a stream that is not open holds nothing
  pub holds-part :
      (v : View) → (stream_at v.dom slot).framing.held ≡ length (v.held slot) →
      (is_open (stream_at v.dom slot) ≡ true → Short (v.held slot)) → (is_open (stream_at v.dom slot) ≡ false → v.held slot ≡ []) → HoldsPart A v n
  holds-part v e f g = record { counted = e; part = may_hold v.dom A slot inside (v.held slot) v.bytes f g }
