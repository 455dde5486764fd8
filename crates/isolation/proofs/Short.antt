-- What a stream holds is as many bytes as its record says, which complete no FPDU, and none where it is not open: every call of the book
-- keeps it so. A call other than an offer empties a stream or leaves it, and an offer leaves what is waited on.
use Prim.Native.Nat.{ℕ, ◌+◌, ◌%◌, ◌<◌}
use mathlib.Core.Path.{◌≡◌, refl, sym, ap, subst, ◌∙◌}
use mathlib.Core.Bool.{Bool, true, false}
use mathlib.Core.List.{List, [], ◌++◌}
use native.Mathlib.Omega.{arith}
use lib.ListN.{length, take, length-append}
use lib.Seq.{take-length, get_or-set_same}
use lib.Dec.{eqb}
use borrow.Author.Tests.{le-leb, eqb-true, eqb-false}
use Rattle.wire.specs.Wire.{pick, both}
use Rattle.rdmap.specs.Stream.{holding, no_stream}
use Rattle.rdmap.specs.declared.stream.Stream.{Stream}
use Rattle.ddp.specs.Segment.{segment_read}
use Rattle.domain.specs.Domain.{stream_at, new_domain, metered_of, lifted}
use Rattle.domain.specs.declared.Domain.{Domain}
use Rattle.arrival.specs.declared.parts.PartsReceived.{PartsReceived}
use Rattle.cuts.specs.Received.{Short}
use Rattle.holding.specs.Offer.{is_open, held_of, parts_offered, domain_offered, domain_offered_held}
use Rattle.rnic.specs.Offer.{rooms_bytes}
use Rattle.isolation.specs.Book.{Call, Answer, View, Observation, held_by, book_receive, book_offer, book}
use Rattle.isolation.specs.Book.Call.{open_stream, close_stream, register, drop_window, post, receive, offer, take_read, live, free, tick, read_gauge, ask_state}
use Rattle.holding.proofs.Held.{Waited, offered-by, judged_empties}
use Rattle.isolation.proofs.Kept.{picked, Settles, Steady, opened_keeps, closed_keeps, posted_keeps, taken_keeps, registered_keeps, dropped_keeps, ticked_keeps, received_keeps, offered-others}
use Rattle.isolation.proofs.Kept.Settles.{empties, stays}
use Rattle.isolation.proofs.Openings.{none-held}
use Rattle.std.specs.Prelude.{Err}
use Rattle.wire.specs.declared.refusal.LocalRefusal.TheVariants.{OutOfRange}
use Rattle.std.specs.Prelude.{Result}
use Rattle.wire.specs.declared.refusal.LocalRefusal.{LocalRefusal}
use Rattle.arrival.specs.declared.Answer.{Answer as ReceiveAnswer}

-- a stream s holds the bytes h
pub record HeldShort (s : Stream) (h : List ℕ) : Type 0 where
  -- as many as its record says
  pub counted : length h ≡ s.framing.held
  -- fewer than the longest FPDU has, so that they fit its room, and than the FPDU that they begin
  pub short : Short h
  -- none, where it is closed or has ended
  pub shut : is_open s ≡ false → (h ≡ []) × (s.framing.held ≡ 0)

-- each stream of a domain
abbrev pub AllShort : Domain → (ℕ → List ℕ) → Type 0
AllShort d held = (slot : ℕ) → slot < 4 → HeldShort (stream_at d slot) (held slot)

none_short : (s : Stream) → s.framing.held ≡ 0 → HeldShort s []
none_short s e = record {
  counted = sym e;
  short = record { fits = omega arith; begins = λ g. absurd (omega (arith, g)) };
  shut = λ o. (refl, e);
}

pub new_short : (start end : ℕ) → AllShort (new_domain start end) (λ slot. [])
new_short start end slot h = none_short (stream_at (new_domain start end) slot) (none-held 4 slot)

-- ---- a call other than an offer
settled_short : {s t : Stream} (h : List ℕ) → HeldShort s h → Settles s t → HeldShort t (take t.framing.held h)
settled_short {s} {t} h k (empties e) = subst (λ (n : ℕ). HeldShort t (take n h)) (sym e) (none_short t e)
settled_short {s} {t} h k (stays e o) =
    let all : take t.framing.held h ≡ h = ap (λ (n : ℕ). take n h) (e ∙ sym k.counted) ∙ take-length h in
    subst (HeldShort t) (sym all) (record {
      counted = k.counted ∙ sym e;
      short = k.short;
      shut = λ q. let z = k.shut (sym o ∙ q) in (z.0, e ∙ z.1);
    })

steady_short : (d d' : Domain) (held : ℕ → List ℕ) → AllShort d held → Steady d d' → AllShort d' (held_by d' held)
steady_short d d' held k s slot h = settled_short (held slot) (k slot h) (s.streams slot)

-- ---- an offer
waiting_short : (s : Stream) (h input : List ℕ) → is_open s ≡ true → Waited (h ++ input) → HeldShort (holding s (length h + length input)) (h ++ input)
waiting_short s h input o w = record {
  counted = length-append h input;
  short = w.begins;
  shut = λ q. absurd (let no : ◌≡◌ {A = ℕ} 0 1 = cc in omega arith);
}

module _ (d : Domain) (four : length d.streams ≡ 4) (held : ℕ → List ℕ) (k : AllShort d held) (number slot : ℕ) (l : slot < 4) (input : List ℕ) where
  abbrev h : List ℕ
  h = held slot

  own_short : HeldShort (stream_at (domain_offered d number slot h input).1 slot) (domain_offered_held d number slot h input)
  unfolding domain_offered domain_offered_held
  own_short =
      subst (λ (b : Bool). HeldShort (stream_at (pick b x (Err OutOfRange, d)).1 slot) (held_of h input (pick b x (Err OutOfRange, d)).0))
      (sym (le-leb slot 3 (omega (arith, l))))
      (subst (λ (t : Stream). HeldShort t (held_of h input r.answer)) (sym (get_or-set_same d.streams slot r.stream no_stream (omega (arith, l, four))))
      (offered-by (λ (x : PartsReceived). HeldShort x.stream (held_of h input x.answer)) d.windows number (stream_at d slot) h input (λ n o. k slot l) (λ n o w. waiting_short (stream_at d slot) h input o w)
      (λ total v o. let e = judged_empties (stream_at d slot) total v in subst (HeldShort _) (sym (e.1 h input)) (none_short _ e.0))))
    where
      r : PartsReceived
      r = parts_offered d.windows number (stream_at d slot) h input

      x : Result ReceiveAnswer LocalRefusal × Domain
      x = metered_of (segment_read (stream_at d slot).framing.crc (h ++ input)) (lifted d slot r)

  pub offered_short : AllShort (domain_offered d number slot h input).1 (λ j. pick (eqb j slot) (domain_offered_held d number slot h input) (held j))
  offered_short j hj =
      picked (HeldShort (stream_at (domain_offered d number slot h input).1 j)) (eqb j slot) _ _
      (λ e. subst (λ (i : ℕ). HeldShort (stream_at (domain_offered d number slot h input).1 i) (domain_offered_held d number slot h input)) (sym (eqb-true j slot e)) own_short)
      (λ e. subst (λ (t : Stream). HeldShort t (held j)) (sym (offered-others d number slot h input j (eqb-false j slot e))) (k j hj))

-- ---- the book
pub book_short : (A : ℕ) (v : View) → length v.dom.streams ≡ 4 → AllShort v.dom v.held → (c : Call) → AllShort (book A v c).after.dom (book A v c).after.held
book_short A v four k (open_stream n crc) = steady_short v.dom _ v.held k (opened_keeps v.dom (n % 4) crc)
book_short A v four k (close_stream n) = steady_short v.dom _ v.held k (closed_keeps v.dom (n % 4))
book_short A v four k (register w key base len place rights) = steady_short v.dom _ v.held k (registered_keeps v.dom (w % 16) key base len place rights)
book_short A v four k (drop_window w) = steady_short v.dom _ v.held k (dropped_keeps v.dom (w % 16))
book_short A v four k (post n start len) = steady_short v.dom _ v.held k (posted_keeps v.dom (n % 4) start len)
book_short A v four k (receive n input size) =
    picked (λ (o : Observation Answer). AllShort o.after.dom o.after.held) (eqb size v.size) (book_receive A v n input) _
    (λ e. steady_short v.dom _ v.held k (received_keeps v.dom A (n % 4) input)) (λ e. k)
book_short A v four k (offer n input size many) =
    picked (λ (o : Observation Answer). AllShort o.after.dom o.after.held) (both (eqb size v.size) (eqb many rooms_bytes)) (book_offer A v n input) _
    (λ e. offered_short v.dom four v.held k A (n % 4) (omega arith) input) (λ e. k)
book_short A v four k (take_read n) = steady_short v.dom _ v.held k (taken_keeps v.dom (n % 4))
book_short A v four k (live d) = k
book_short A v four k (free d) = k
book_short A v four k (tick d) = steady_short v.dom _ v.held k (ticked_keeps v.dom)
book_short A v four k (read_gauge d) = k
book_short A v four k (ask_state n) = k
