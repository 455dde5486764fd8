-- One call: it makes its owner's view what the owner's book says, and leaves every other domain's; a call for nobody leaves the world.
-- The argument: a call takes its owner's view out, applies the book, and puts it back.
use Prim.Native.Nat.{ℕ, ◌+◌, ◌*◌, ◌/◌, ◌%◌, ◌≤◌, ◌<◌}
use mathlib.Core.Logic.{◌≢◌}
use mathlib.Core.Path.{◌≡◌, refl, sym, ap, ap₂, subst, ◌∙◌}
use mathlib.Core.Bool.{Bool, true, false}
use mathlib.Core.List.{List, []}
use native.Mathlib.Omega.{arith}
use native.Mathlib.Decide.{dec_lt}
use lib.ListN.{length, take}
use lib.Seq.{take-take, take-nil}
use lib.Dec.{leb, eqb}
use contract.Lifetimes.{Lfts}
use borrow.Author.Tests.{leb-true, eq-eqb, ne_eqb, eqb-true}
use Rattle.wire.specs.Wire.{pick, both}
use Rattle.wire.proofs.Laws.{both_true}
use Rattle.domain.specs.Domain.{stream_at}
use Rattle.domain.specs.declared.Domain.{Domain}
use Rattle.holding.specs.Offer.{offer_answer, domain_offered, domain_offered_bytes}
use Rattle.holding.specs.declared.OfferAnswer.{OfferAnswer}
use Rattle.memory.specs.Part.{part_fits}
use Rattle.rnic.specs.Rnic.{domain_at, with_domain, bytes_of, with_bytes, rnic_received, rnic_received_store}
use Rattle.rnic.specs.Offer.{rooms_bytes, room_of, held_bytes, offer_asked, rnic_offered, rnic_offer_answer, rnic_offered_store, rnic_offered_rooms}
use Rattle.rnic.specs.declared.Rnic.{Rnic}
use Rattle.isolation.specs.Book.{Call, Answer, Observation, owner_in, held_by, entered, book_receive, book_offer, book}
use Rattle.isolation.specs.Book.Call.{open_stream, close_stream, register, drop_window, post, receive, offer, take_read, live, free, tick, read_gauge, ask_state}
use Rattle.isolation.specs.Book.Answer.{received, offered}
use Rattle.isolation.proofs.Calls.{World, PlainStep, ReceiveStep, OfferStep, Step, held_in, view}
use Rattle.isolation.proofs.Kept.{Steady, settles_less, opened_keeps, closed_keeps, posted_keeps, taken_keeps, registered_keeps, dropped_keeps, ticked_keeps, received_keeps, received_many}
use Rattle.isolation.proofs.Lifted.{opened_in, opened_out, closed_in, closed_out, posted_in, posted_out, taken_in, taken_out, registered_in_lem, registered_out, dropped_in_lem, dropped_out, live_in, free_in, ticked_in, ticked_out, reading_in, state_in_lem, received_in, received_other, received_out, store_in, store_other, store_out, offered_in, offered_other, offered_out, rooms_in, rooms_other, rooms_out, offered-store_in, offered-store_other, offered-store_out}
use Rattle.isolation.proofs.Offers.{held-is, rooms_then, offer-frame}
use Rattle.isolation.proofs.WellFormed.{Fit, Frame, put_view, part-fits, world_path, same_bytes, memory_left, put_view-same, put_view-own, put_view_other, put_view_fit}
use Rattle.std.specs.Prelude.{Err, Result}
use Rattle.wire.specs.declared.refusal.LocalRefusal.{LocalRefusal}
use Rattle.wire.specs.declared.refusal.LocalRefusal.TheVariants.{OtherLength}

-- a step for domain d is the book's, put back; o is what the book says
record Booked (d : ℕ) (w : World) (o : Observation Answer) (a : Answer) (w₁ : World) : Type 0 where
  answer : a ≡ o.answer
  rooms : List ℕ
  world : w₁ ≡ put_view d o.after rooms w
  frame : Frame d w o.after rooms

-- nothing changes
nothing-set : (d : ℕ) (w : World) (z a : Answer) (w₁ : World) → a ≡ z → w₁ ≡ w → Booked d w (record { answer = z; after = view d w }) a w₁
nothing-set d w z a w₁ e h = record {
  answer = e;
  rooms = w.rooms;
  world = h ∙ sym (put_view-same d w);
  frame = record { part = refl; many = refl; size = refl; roomy = refl; holds = λ slot. refl; others = λ A slot h n l. refl };
}

-- a step that makes no stream hold more, in rooms that stay
less_held : (d : ℕ) (w : World) (y : Domain) → Steady (domain_at w.dev d) y → (slot : ℕ) → held_in d y w.rooms slot ≡ held_by y (view d w).held slot
less_held d w y k slot = go (leb slot 3)
  where
    before : Domain
    before = domain_at w.dev d

    room : List ℕ
    room = room_of w.rooms (4 * d + slot)

    go : (t : Bool) → pick t (take (stream_at y slot).framing.held room) [] ≡ take (stream_at y slot).framing.held (pick t (take (stream_at before slot).framing.held room) [])
    go true = sym (take-take (stream_at y slot).framing.held (stream_at before slot).framing.held room (settles_less (k.streams slot)))
    go false = sym (take-nil (stream_at y slot).framing.held)

-- ---- a call that is lent no slice, whose result is z
module _
    {X R : Type 0} {Post : Lfts 0 → X → R → X → Type 0} {x : X} {answer : R → Answer} {rnic : R → Rnic} {w : World} {a : Answer} {w₁ : World}
    (s : PlainStep Post x answer rnic w a w₁) (z : R) (e : s.result ≡ z)
  where
    -- the owner's entry changes, and no byte
    entry_set : (d : ℕ) (y : Domain) → rnic z ≡ with_domain w.dev d y → Steady (domain_at w.dev d) y → Booked d w (entered (view d w) (answer z) y) a w₁
    entry_set d y q p = record {
      answer = s.answered ∙ ap answer e;
      rooms = w.rooms;
      world = s.world ∙ world_path (ap rnic e ∙ q) (sym (same_bytes (domain_at w.dev d) w.mem)) refl;
      frame = record { part = p.part; many = refl; size = refl; roomy = refl; holds = less_held d w y p; others = λ A slot h n l. refl };
    }

    unchanged : rnic z ≡ w.dev → w₁ ≡ w
    unchanged q = s.world ∙ world_path (ap rnic e ∙ q) refl refl

-- ---- receive
module _ (w : World) (n : ℕ) (input : List ℕ) (k : ℕ) (a : Answer) (w₁ : World) (s : ReceiveStep w n input k a w₁) where
  -- what the contract says of the answer with the device, and of the slice, in terms of the call
  receive-result : s.result ≡ rnic_received w.dev k n input
  receive-result = s.contract.0 ∙ ap₂ (λ (m : ℕ) (i : List ℕ). rnic_received w.dev m n i) s.lent.long s.given

  receive_slice : s.lent.after ≡ rnic_received_store w.dev n input s.lent.slice.now
  receive_slice = s.contract.1 ∙ ap (λ (i : List ℕ). rnic_received_store w.dev n i s.lent.slice.now) s.given

  receive-own : Fit w → n / 4 < 4 → leb n 15 ≡ true → Booked (n / 4) w (book (n / 4) (view (n / 4) w) (receive n input k)) a w₁
  receive-own f h e = go (eqb k w.dev.len) refl s.world
    where
      go :
          (t : Bool) → eqb k w.dev.len ≡ t → w₁ ≡ record { dev = s.result.1; mem = pick t s.lent.after w.mem; rooms = w.rooms } →
          Booked (n / 4) w (pick t (book_receive (n / 4) (view (n / 4) w) n input) (record { answer = received (Err OtherLength); after = view (n / 4) w })) a w₁
      go true g to =
          let q : k ≡ w.dev.len = eqb-true k w.dev.len g in
          let r = receive-result ∙ received_in w.dev n input k e g (part-fits w f (n / 4) h k (q ∙ sym f.long)) in
          let kept = received_keeps (domain_at w.dev (n / 4)) (n / 4) (n % 4) input in
          let l = receive_slice ∙ ap (λ (m : List ℕ). rnic_received_store w.dev n input m) (s.lent.whole q) ∙ store_in w.dev n input w.mem e (eq-eqb (length w.mem) w.dev.len f.long) (part-fits w f (n / 4) h (length w.mem) refl) in
          record {
            answer = s.answered ∙ ap (λ x. received x.0) r;
            rooms = w.rooms;
            world = to ∙ world_path (ap (λ x. x.1) r) l refl;
            frame = record {
              part = kept.part;
              many = received_many (domain_at w.dev (n / 4)) (n / 4) (n % 4) input (bytes_of (domain_at w.dev (n / 4)) w.mem);
              size = refl;
              roomy = refl;
              holds = less_held (n / 4) w _ kept;
              others = λ A slot h n l. refl;
            };
          }
      go false g to =
          let r = receive-result ∙ received_other w.dev n input k e g in
          nothing-set (n / 4) w (received (Err OtherLength)) a w₁ (s.answered ∙ ap (λ x. received x.0) r) (to ∙ world_path (ap (λ x. x.1) r) refl refl)

  receive-none : leb n 15 ≡ false → w₁ ≡ w
  receive-none e = go (eqb k w.dev.len) refl s.world
    where
      b : s.result.1 ≡ w.dev
      b = ap (λ x. x.1) receive-result ∙ received_out w.dev n input k e

      go : (t : Bool) → eqb k w.dev.len ≡ t → w₁ ≡ record { dev = s.result.1; mem = pick t s.lent.after w.mem; rooms = w.rooms } → w₁ ≡ w
      go true g to = to ∙ world_path b (receive_slice ∙ store_out w.dev n input s.lent.slice.now e ∙ s.lent.whole (eqb-true k w.dev.len g)) refl
      go false g to = to ∙ world_path b refl refl

  -- lent a slice of another length, it leaves that slice and the world
  pub receive_other : k ≢ w.dev.len → (s.lent.after ≡ s.lent.slice.now) × (w₁ ≡ w)
  receive_other ne =
      (receive_slice ∙ store_other w.dev n input s.lent.slice.now (ap (λ (m : ℕ). eqb m w.dev.len) s.lent.long ∙ g), go (leb n 15) refl)
    where
      g : eqb k w.dev.len ≡ false
      g = ne_eqb k w.dev.len ne

      to : w₁ ≡ record { dev = s.result.1; mem = w.mem; rooms = w.rooms }
      to = s.world ∙ ap (λ (t : Bool). record { dev = s.result.1; mem = pick t s.lent.after w.mem; rooms = w.rooms }) g

      go : (t : Bool) → leb n 15 ≡ t → w₁ ≡ w
      go true e = to ∙ world_path (ap (λ x. x.1) (receive-result ∙ received_other w.dev n input k e g)) refl refl
      go false e = receive-none e

-- ---- an offer
module _ {R : Type 0} (form : Result OfferAnswer LocalRefusal → R) (w : World) (n : ℕ) (input : List ℕ) (k m : ℕ) (x : R) (w₁ : World) (s : OfferStep form w n input k m x w₁) where
  abbrev b : Rnic
  b = w.dev

  abbrev rooms : List ℕ
  rooms = s.second.slice.now

  -- it leaves the device and both slices
  offer_stays : (rnic_offered b k n rooms input).1 ≡ b → s.store.after ≡ s.store.slice.now → s.second.after ≡ rooms → w₁ ≡ w
  offer_stays e p q = s.world ∙ world_path e (memory_left s.store p) (memory_left s.second q)

  offer-none : leb n 15 ≡ false → w₁ ≡ w
  offer-none e =
      offer_stays (offered_out b n input k rooms e) (s.stored ∙ offered-store_out b n input rooms s.store.slice.now e) (s.kept ∙ rooms_out b n input k rooms e)

  -- lent a slice of another length, as the store or as the second
  module _ (g : both (eqb k b.len) (eqb m rooms_bytes) ≡ false) where
    unasked : offer_asked b k (length rooms) ≡ false
    unasked = ap (λ (i : ℕ). offer_asked b k i) s.second.long ∙ g

    store_stays : s.store.after ≡ s.store.slice.now
    store_stays = s.stored ∙ offered-store_other b n input rooms s.store.slice.now (ap (λ (i : ℕ). offer_asked b i (length rooms)) s.store.long ∙ unasked)

    rooms_stay : s.second.after ≡ rooms
    rooms_stay = s.kept ∙ rooms_other b n input k rooms unasked

    world_stays : w₁ ≡ w
    world_stays = go (leb n 15) refl
      where
        go : (t : Bool) → leb n 15 ≡ t → w₁ ≡ w
        go true e = offer_stays (ap (λ x. x.1) (offered_other b n input k rooms e unasked)) store_stays rooms_stay
        go false e = offer-none e

  -- lent a slice of another length, it leaves both slices and the world
  pub offer_other : ((k ≡ w.dev.len) × (m ≡ rooms_bytes) → ⊥) → (s.store.after ≡ s.store.slice.now) × (s.second.after ≡ s.second.slice.now) × (w₁ ≡ w)
  offer_other ne = (store_stays g, rooms_stay g, world_stays g)
    where
      g : both (eqb k w.dev.len) (eqb m rooms_bytes) ≡ false
      g = go (eqb k w.dev.len) refl (eqb m rooms_bytes) refl
        where
          go : (t : Bool) → eqb k w.dev.len ≡ t → (u : Bool) → eqb m rooms_bytes ≡ u → both t u ≡ false
          go true p true q = absurd (ne (eqb-true k w.dev.len p, eqb-true m rooms_bytes q))
          go true p false q = refl
          go false p u q = refl

  -- its answer is the book's too
  module _ (a : Answer) (told : a ≡ offered (rnic_offer_answer b k n rooms input)) where
    -- lent both
    offer-both : Fit w → n / 4 < 4 → leb n 15 ≡ true → k ≡ b.len → m ≡ rooms_bytes → Booked (n / 4) w (book_offer (n / 4) (view (n / 4) w) n input) a w₁
    offer-both f h e p q =
        record {
          answer =
              told
              ∙ ap (λ (l : List ℕ). offered (rnic_offer_answer b k n l input)) whole
              ∙ ap (λ x. offered (offer_answer (length (held_bytes b n w.rooms)) (length input) x.0)) result
              ∙ ap (λ (l : List ℕ). offered (offer_answer (length l) (length input) (domain_offered d (n / 4) (n % 4) l input).0)) (sym (held-is w n));
          rooms = rooms_then w f n low input;
          world =
              s.world
              ∙ world_path
              (ap (λ (l : List ℕ). (rnic_offered b k n l input).1) whole
              ∙ ap (λ x. x.1) result
              ∙ ap (λ (l : List ℕ). with_domain b (n / 4) (domain_offered d (n / 4) (n % 4) l input).1) (sym (held-is w n)))
              (ap (λ (t : Bool). pick t s.store.after w.mem) (eq-eqb k b.len p)
              ∙ s.stored
              ∙ ap₂ (λ (x y : List ℕ). rnic_offered_store b n x input y) whole (s.store.whole p)
              ∙ offered-store_in b n input w.rooms w.mem e (ap (λ (i : ℕ). offer_asked b i (length w.rooms)) (f.long ∙ sym p) ∙ asked) (part-fits w f (n / 4) h (length w.mem) refl)
              ∙ ap (λ (l : List ℕ). with_bytes d w.mem (domain_offered_bytes d (n / 4) (n % 4) l input (bytes_of d w.mem))) (sym (held-is w n)))
              (ap (λ (t : Bool). pick t s.second.after w.rooms) (eq-eqb m rooms_bytes q)
              ∙ s.kept
              ∙ ap (λ (l : List ℕ). rnic_offered_rooms b k n l input) whole
              ∙ rooms_in b n input k w.rooms e asked fits);
          frame = offer-frame w f n low input;
        }
      where
        d : Domain
        d = domain_at b (n / 4)

        low : n < 16
        low = omega (arith, leb-true n 15 e)

        whole : rooms ≡ w.rooms
        whole = s.second.whole q

        asked : offer_asked b k (length w.rooms) ≡ true
        asked = ap₂ both (eq-eqb k b.len p) (eq-eqb (length w.rooms) rooms_bytes f.roomy)

        fits : part_fits d.part k ≡ true
        fits = part-fits w f (n / 4) h k (p ∙ sym f.long)

        result : rnic_offered b k n w.rooms input ≡ ((domain_offered d (n / 4) (n % 4) (held_bytes b n w.rooms) input).0, with_domain b (n / 4) (domain_offered d (n / 4) (n % 4) (held_bytes b n w.rooms) input).1)
        result = offered_in b n input k w.rooms e asked fits

    offer-own : Fit w → n / 4 < 4 → leb n 15 ≡ true → Booked (n / 4) w (book (n / 4) (view (n / 4) w) (offer n input k m)) a w₁
    offer-own f h e = go (both (eqb k b.len) (eqb m rooms_bytes)) refl
      where
        go :
            (t : Bool) → both (eqb k b.len) (eqb m rooms_bytes) ≡ t →
            Booked (n / 4) w (pick t (book_offer (n / 4) (view (n / 4) w) n input) (record { answer = offered (Err OtherLength); after = view (n / 4) w })) a w₁
        go true g = let z = both_true (eqb k b.len) (eqb m rooms_bytes) g in offer-both f h e (eqb-true k b.len z.0) (eqb-true m rooms_bytes z.1)
        go false g =
            nothing-set (n / 4) w (offered (Err OtherLength)) a w₁
            (told ∙ ap (λ x. offered (offer_answer (length (held_bytes b n rooms)) (length input) x.0)) (offered_other b n input k rooms e (unasked g))) (world_stays g)

-- ---- the one place that looks at each call
module _ (w : World) (a : Answer) (w₁ : World) where
  abbrev As : Call → ℕ → Type 0
  As c d = Booked d w (book d (view d w) c) a w₁

  -- a call whose owner is d: the book's where d is a domain, and nothing where it is nobody
  record Owned (c : Call) (d : ℕ) : Type 0 where
    domain : d < 4 → As c d
    nobody : 4 ≤ d → w₁ ≡ w

  -- the owner is named by a number that is in range or not
  ranged : (t : Bool) (d : ℕ) (c : Call) → (t ≡ true → d < 4) → (t ≡ true → d < 4 → As c d) → (t ≡ false → w₁ ≡ w) → Owned c (pick t d 4)
  ranged true d c lt p q = record { domain = p refl; nobody = λ h. absurd (omega (arith, lt refl)) }
  ranged false d c lt p q = record { domain = λ h. absurd (omega arith); nobody = λ h. q refl }

  of_stream_lem : (n : ℕ) (c : Call) → (leb n 15 ≡ true → n / 4 < 4 → As c (n / 4)) → (leb n 15 ≡ false → w₁ ≡ w) → Owned c (pick (leb n 15) (n / 4) 4)
  of_stream_lem n c = ranged (leb n 15) (n / 4) c (λ e. omega (arith, leb-true n 15 e))

  of_window_lem : (n : ℕ) (c : Call) → (leb n 63 ≡ true → n / 16 < 4 → As c (n / 16)) → (leb n 63 ≡ false → w₁ ≡ w) → Owned c (pick (leb n 63) (n / 16) 4)
  of_window_lem n c = ranged (leb n 63) (n / 16) c (λ e. omega (arith, leb-true n 63 e))

  of_domain_lem : (n : ℕ) (c : Call) → (leb n 3 ≡ true → n < 4 → As c n) → (leb n 3 ≡ false → w₁ ≡ w) → Owned c (pick (leb n 3) n 4)
  of_domain_lem n c = ranged (leb n 3) n c (λ e. omega (arith, leb-true n 3 e))

  owned : (c : Call) → Fit w → Step w c a w₁ → Owned c (owner_in w.dev c)
  owned (open_stream n crc) f s = of_stream_lem n (open_stream n crc)
      (λ e h. entry_set s _ (s.contract ∙ opened_in w.dev n crc e) (n / 4) _ refl (opened_keeps (domain_at w.dev (n / 4)) (n % 4) crc))
      (λ e. unchanged s _ s.contract (opened_out w.dev n crc e))
  owned (close_stream n) f s = of_stream_lem n (close_stream n)
      (λ e h. entry_set s _ (s.contract ∙ closed_in w.dev n e) (n / 4) _ refl (closed_keeps (domain_at w.dev (n / 4)) (n % 4)))
      (λ e. unchanged s _ s.contract (closed_out w.dev n e))
  owned (register i key base len place rights) f s = of_window_lem i (register i key base len place rights)
      (λ e h. entry_set s _ (s.contract ∙ registered_in_lem w.dev i key base len place rights e) (i / 16) _ refl (registered_keeps (domain_at w.dev (i / 16)) (i % 16) key base len place rights))
      (λ e. unchanged s _ s.contract (registered_out w.dev i key base len place rights e))
  owned (drop_window i) f s = of_window_lem i (drop_window i)
      (λ e h. entry_set s _ (s.contract ∙ dropped_in_lem w.dev i e) (i / 16) _ refl (dropped_keeps (domain_at w.dev (i / 16)) (i % 16)))
      (λ e. unchanged s _ s.contract (dropped_out w.dev i e))
  owned (post n start len) f s = of_stream_lem n (post n start len)
      (λ e h. entry_set s _ (s.contract ∙ posted_in w.dev n start len e) (n / 4) _ refl (posted_keeps (domain_at w.dev (n / 4)) (n % 4) start len))
      (λ e. unchanged s _ s.contract (posted_out w.dev n start len e))
  owned (receive n input k) f s = of_stream_lem n (receive n input k) (λ e h. receive-own w n input k a w₁ s f h e) (receive-none w n input k a w₁ s)
  owned (offer n input k m) f s = of_stream_lem n (offer n input k m) (λ e h. offer-own offered w n input k m a w₁ s a s.answered f h e) (offer-none offered w n input k m a w₁ s)
  owned (take_read n) f s = of_stream_lem n (take_read n)
      (λ e h. entry_set s _ (s.contract ∙ taken_in w.dev n e) (n / 4) _ refl (taken_keeps (domain_at w.dev (n / 4)) (n % 4)))
      (λ e. unchanged s _ s.contract (taken_out w.dev n e))
  owned (live d) f s = of_domain_lem d (live d) (λ e h. nothing-set d w _ a w₁ (s.answered ∙ ap Answer.counted (s.contract ∙ live_in w.dev d e)) s.world) (λ e. s.world)
  owned (free d) f s = of_domain_lem d (free d) (λ e h. nothing-set d w _ a w₁ (s.answered ∙ ap Answer.counted (s.contract ∙ free_in w.dev d e)) s.world) (λ e. s.world)
  owned (tick d) f s = of_domain_lem d (tick d)
      (λ e h. entry_set s _ (s.contract ∙ ticked_in w.dev d e) d _ refl (ticked_keeps (domain_at w.dev d)))
      (λ e. unchanged s _ s.contract (ticked_out w.dev d e))
  owned (read_gauge d) f s = of_domain_lem d (read_gauge d) (λ e h. nothing-set d w _ a w₁ (s.answered ∙ ap Answer.gauge_read (s.contract ∙ reading_in w.dev d e)) s.world) (λ e. s.world)
  owned (ask_state n) f s = of_stream_lem n (ask_state n) (λ e h. nothing-set (n / 4) w _ a w₁ (s.answered ∙ ap Answer.stated (s.contract ∙ state_in_lem w.dev n e)) s.world) (λ e. s.world)

  -- every call keeps a world well-formed
  pub step_fit : (c : Call) → Fit w → Step w c a w₁ → Fit w₁
  step_fit c f s = go (dec_lt (owner_in w.dev c) 4)
    where
      d : ℕ
      d = owner_in w.dev c

      go : Dec (d < 4) → Fit w₁
      go (yes h) = let b = (owned c f s).domain h in subst Fit (sym b.world) (put_view_fit d h w f (book d (view d w) c).after b.rooms b.frame)
      go (no h) = subst Fit (sym ((owned c f s).nobody (omega arith))) f

-- A's own call: the answer and A's view are its book's
pub own : (A : ℕ) → A < 4 → (w : World) (c : Call) (a : Answer) (w₁ : World) → Fit w → owner_in w.dev c ≡ A → Step w c a w₁ → ◌≡◌ {A = Observation Answer} (record { answer = a; after = view A w₁ }) (book A (view A w) c)
own A h_a w c a w₁ f o s =
    λ i. record { answer = b.answer i; after = (ap (view A) b.world ∙ put_view-own A h_a w f (book A (view A w) c).after b.rooms b.frame) i }
  where
    b : Booked A w (book A (view A w) c) a w₁
    b = subst (λ (n : ℕ). n < 4 → Booked n w (book n (view n w) c) a w₁) o (owned w a w₁ c f s).domain h_a

-- another's call, or nobody's, refused or not, leaves A's view
pub alien : (A : ℕ) → A < 4 → (w : World) (c : Call) (a : Answer) (w₁ : World) → Fit w → owner_in w.dev c ≢ A → Step w c a w₁ → view A w₁ ≡ view A w
alien A h_a w c a w₁ f ne s = go (dec_lt (owner_in w.dev c) 4)
  where
    d : ℕ
    d = owner_in w.dev c

    go : Dec (d < 4) → view A w₁ ≡ view A w
    go (yes h) =
        let b = (owned w a w₁ c f s).domain h in
        ap (view A) b.world ∙ put_view_other d h w f (book d (view d w) c).after b.rooms b.frame A h_a (λ e. ne (sym e))
    go (no h) = ap (view A) ((owned w a w₁ c f s).nobody (omega arith))
