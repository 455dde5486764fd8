-- An offer on the stream of a domain's slot of a block: where nothing is held it is receive on the offer's bytes, where something is it is
-- receive on the bytes gathered in the room, and what completes nothing is held.
use Prim.Native.Nat.{ℕ, ◌+◌, ◌≤◌, ◌<◌}
use mathlib.Core.Bool.{Bool, true, false}
use mathlib.Core.List.{List, [], ◌++◌}
use mathlib.Core.Path.{◌≡◌, refl, sym, ap, ap₂, subst, ◌∙◌}
use native.Mathlib.Omega.{arith}
use lib.Dec.{leb, ltb}
use lib.ListN.{length, take, get_or, length-append, length-take}
use lib.Seq.{set-set, set-get_or, get_or-set_same}
use borrow.Author.Tests.{le-leb, ltb-false}
use Rattle.wire.specs.Wire.{pick, both}
use Rattle.memory.specs.declared.part.Part.{Part}
use Rattle.memory.specs.declared.window.Window.{Window}
use Rattle.ddp.specs.Segment.{segment_read}
use Rattle.rdmap.specs.Framing.{framing_holding}
use Rattle.rdmap.specs.Phase.{readiness}
use Rattle.rdmap.specs.Stream.{with_framing, holding, no_stream}
use Rattle.rdmap.specs.declared.framing.Framing.{Framing}
use Rattle.rdmap.specs.declared.stream.Stream.{Stream}
use Rattle.ddp.specs.declared.segment.SegmentRead.{SegmentRead}
use Rattle.domain.specs.Domain.{stream_at, with_stream, segment_count, meter_by, metered, metered_of, domain_received, domain_received_bytes, lifted}
use Rattle.arrival.specs.Parts.{parts_answered, parts_judged, parts_placed, parts_unchanged, parts_when, parts_bytes_when, parts_received, parts_received_bytes, killed}
use Rattle.arrival.specs.declared.Answer.{Answer}
use Rattle.arrival.specs.declared.Answer.TheVariants.{Wait, Taken, Ended}
use Rattle.domain.specs.declared.Domain.{Domain}
use Rattle.arrival.specs.declared.parts.PartsReceived.{PartsReceived}
use Rattle.holding.specs.Pending.{room_bytes, needed_of, is_short, gathered, held_now, room_after}
use Rattle.holding.specs.Offer.{holds, domain_receives, domain_receives_bytes, offer_answer, parts_held, parts_held_of, parts_offered, parts_offered_bytes}
use Rattle.holding.specs.declared.OfferAnswer.{OfferAnswer}
use Rattle.holding.specs.declared.OfferAnswer.TheVariants.{Kept}
use Rattle.holding.specs.declared.gather.Gathered.{Gathered}
use Rattle.holding.specs.declared.gather.Gathered.TheVariants.{Short, Enough}
use Rattle.holding.proofs.Gathered.{room-enough}
use Rattle.holding.proofs.Held.{shut_phase, ready_phase}
use Rattle.holding.proofs.Pending.{enough_read, Decided, needed_bounds, short_waits, enough_judges, enough-own, waits_short, decided_enough, never_refused}
use Rattle.holding.proofs.Rooms.{room_fresh}
use Rattle.rnic.specs.Rnic.{domain_at, with_domain}
use Rattle.rnic.specs.declared.Rnic.{Rnic}
use Rattle.block.specs.Stream.{loaded_phase, loaded_framing}
use Rattle.block.specs.Device.{rnic_at}
use Rattle.block.specs.Exchange.{stream_of, with_stream_of}
use Rattle.device.specs.Lifted.{counted_of, receives_rnic_of, parts_receives, parts_receives_bytes, held_in, offered_of, offered_rnic_of, offered_bytes_of, offered_room_of, offer_answer_of}
use Rattle.device.proofs.Applied.{entry_put, entry_again, four_streams}
use Rattle.calls.specs.Words.{words, refused_words, answer_words, took_words, offer_words, offered_words}
use Rattle.calls.proofs.Offered.{offered-words, wait_of, kind_waits}
use Rattle.device.proofs.Received.{FirstWords, ReceivedAs}
use Rattle.slots.proofs.Slots.{stream-kept, phase_of_lem, framing_of}
use Rattle.std.specs.Prelude.{Err, Ok, Result, ⊤}
use Rattle.ddp.specs.declared.refusal.Refusal.{Refusal}
use Rattle.wire.specs.declared.refusal.LocalRefusal.{LocalRefusal}
use Rattle.wire.specs.declared.refusal.LocalRefusal.TheVariants.{HoldsBytes, OutOfRange}

-- ---- receive of a domain, by the parts that it needs

abbrev pub Lifts : Domain → ℕ → ℕ → List ℕ → Type 0
Lifts d number slot input =
    (metered_of (segment_read (stream_at d slot).framing.crc input) (lifted d slot (parts_receives d.windows number (stream_at d slot) input)) ≡ domain_receives d number slot input)
    × ((mem : List ℕ) → parts_receives_bytes d.part d.windows number (stream_at d slot) input mem ≡ domain_receives_bytes d number slot input mem)

pub receives_lifted : (d : Domain) (number slot : ℕ) (input : List ℕ) → slot < 4 → Lifts d number slot input
unfolding parts_receives parts_receives_bytes domain_receives domain_receives_bytes domain_received domain_received_bytes
receives_lifted d number slot input l = go (holds (stream_at d slot)) (leb slot 3) (le-leb slot 3 (omega (arith, l)))
  where
    x : Result SegmentRead Refusal
    x = segment_read (stream_at d slot).framing.crc input

    go :
        (t u : Bool) → u ≡ true →
        (metered_of x (lifted d slot (pick t (parts_unchanged (stream_at d slot) (Err HoldsBytes)) (parts_received d.windows number (stream_at d slot) input)))
        ≡ pick (both u t) (Err HoldsBytes, d) (pick u (metered_of x (lifted d slot (parts_received d.windows number (stream_at d slot) input))) (Err OutOfRange, d)))
        × ((mem : List ℕ) → pick t mem (parts_received_bytes d.part d.windows number (stream_at d slot) input mem) ≡ pick (both u t) mem (pick u (parts_received_bytes d.part d.windows number (stream_at d slot) input mem) mem))
    go true true e = ((λ i. (Err HoldsBytes, record { part = d.part; windows = d.windows; streams = set-get_or d.streams slot no_stream i; meter = d.meter })), λ mem. refl)
    go false true e = (refl, λ mem. refl)
    go t false e = absurd (let no : ◌≡◌ {A = ℕ} 0 1 = cc in omega arith)

module _ (w : List ℕ) (d j : ℕ) (hd : d < 4) (hj : j < 4) (p : Part) (input mem : List ℕ) where
  abbrev b : Rnic
  b = rnic_at w

  abbrev s : Stream
  s = stream_of b d j

  abbrev ws : List Window
  ws = (domain_at b d).windows

  -- ---- receive, which is refused while the stream holds bytes

  -- what is answered, the block after it and the domain's bytes
  abbrev pub ReceivesAs : List ℕ → List ℕ → List ℕ → Type 0
  ReceivesAs l v after =
      (l ≡ answer_words (parts_receives ws d s input).answer)
      × (rnic_at v ≡ receives_rnic_of b d j input)
      × (after ≡ parts_receives_bytes p ws d s input mem)

  pub receives_none : {l after : List ℕ} (v : List ℕ) → holds s ≡ false → ReceivedAs w d j p input mem l v after → ReceivesAs l v after
  unfolding parts_receives parts_receives_bytes
  receives_none v e r = (simp e r.0, simp e r.1, simp e r.2)

  pub receives_held : holds s ≡ true → ReceivesAs (refused_words HoldsBytes) w mem
  unfolding parts_receives parts_receives_bytes
  receives_held e = (simp e, simp e (sym (stream-kept b d j)), simp e)

  -- it holds none where it is not open, or where its record says so
  pub shut_none : (k : LocalRefusal) → readiness (loaded_phase w d j) ≡ Err k → holds s ≡ false
  shut_none k e = ap (λ (t : Bool). both t (ltb 0 s.framing.held)) (shut_phase s k (ap readiness (phase_of_lem w d j hd hj) ∙ e))

  pub ready-holds : readiness (loaded_phase w d j) ≡ (Ok tt) → (f : Framing) → f ≡ loaded_framing w d j → holds s ≡ ltb 0 f.held
  ready-holds e f g =
      ap₂ both (ready_phase s (ap readiness (phase_of_lem w d j hd hj) ∙ e)) (ap (λ (x : Framing). ltb 0 x.held) (framing_of w d j hd hj ∙ sym g))

  -- ---- an offer
  module _ (room : List ℕ) where
    abbrev h : List ℕ
    h = held_in b d j room

    -- what is answered, the block after it, the domain's bytes and the room
    abbrev pub OfferedAs : Result OfferAnswer LocalRefusal → List ℕ → List ℕ → List ℕ → Type 0
    OfferedAs a v after r =
        (a ≡ offer_answer_of b d j room input)
        × (rnic_at v ≡ offered_rnic_of b d j room input)
        × (after ≡ offered_bytes_of b d j p room input mem)
        × (r ≡ offered_room_of b d j room input)

    -- and with the words of the answer
    abbrev pub OfferedWords : List ℕ → List ℕ → List ℕ → List ℕ → Type 0
    OfferedWords l v after r =
        (l ≡ offer_words (offer_answer_of b d j room input))
        × (rnic_at v ≡ offered_rnic_of b d j room input)
        × (after ≡ offered_bytes_of b d j p room input mem)
        × (r ≡ offered_room_of b d j room input)

    as_words : {a : Result OfferAnswer LocalRefusal} {l after r : List ℕ} (v : List ℕ) → l ≡ offer_words a → OfferedAs a v after r → OfferedWords l v after r
    as_words v e t = (e ∙ ap offer_words t.0, t.1, t.2, t.3)

    -- what the offer makes of the stream is x, the domain's bytes y, and the room z
    as_told :
        {a : Result OfferAnswer LocalRefusal} {after r : List ℕ} (v : List ℕ) (x : PartsReceived) → offered_of b d j room input ≡ x → a ≡ offer_answer (length h) (length input) x.answer → rnic_at v ≡ counted_of b d j (segment_read s.framing.crc (h ++ input)) x →
        (y : List ℕ) → offered_bytes_of b d j p room input mem ≡ y → after ≡ y →
        (z : List ℕ) → offered_room_of b d j room input ≡ z → r ≡ z → OfferedAs a v after r
    as_told v x e f g y e' f' z e'' f'' = (
      f ∙ sym (ap (λ (r : PartsReceived). offer_answer (length h) (length input) r.answer) e),
      g ∙ sym (ap (λ (r : PartsReceived). counted_of b d j (segment_read s.framing.crc (h ++ input)) r) e),
      f' ∙ sym e',
      f'' ∙ sym e'',
    )

    pub offer-shut : (k : LocalRefusal) → readiness (loaded_phase w d j) ≡ Err k → OfferedWords (refused_words k) w mem room
    unfolding parts_offered parts_offered_bytes parts_received parts_received_bytes
    offer-shut k e =
        let shut : readiness s.phase ≡ Err k = ap readiness (phase_of_lem w d j hd hj) ∙ e in
        as_words w refl
        (as_told {a = Err k} w (parts_unchanged s (Err k))
        (ap (λ (r : Result ⊤ LocalRefusal). parts_held_of s (length h + length input) (parts_when ws d (holding s 0) (h ++ input) r)) shut)
        refl (sym (stream-kept b d j)) mem
        (ap (parts_bytes_when p ws d (holding s 0) (h ++ input) mem) shut)
        refl room
        (ap (λ (t : Bool). pick t (room_after h input room) room) (shut_phase s k shut))
        refl)

    module _ (ready : readiness s.phase ≡ (Ok tt)) where
      -- what an open stream that holds nothing makes of bytes
      abbrev core : Stream → List ℕ → PartsReceived
      core t q = parts_answered t (parts_judged ws d t q (segment_read s.framing.crc q))

      abbrev core_bytes : Stream → List ℕ → List ℕ
      core_bytes t q = parts_placed p ws d t q mem (segment_read s.framing.crc q)

      offered-is : offered_of b d j room input ≡ parts_held_of s (length h + length input) (core (holding s 0) (h ++ input))
      unfolding parts_offered parts_received
      offered-is = ap (λ (r : Result ⊤ LocalRefusal). parts_held_of s (length h + length input) (parts_when ws d (holding s 0) (h ++ input) r)) ready

      bytes-is : offered_bytes_of b d j p room input mem ≡ core_bytes (holding s 0) (h ++ input)
      unfolding parts_offered_bytes parts_received_bytes
      bytes-is = ap (parts_bytes_when p ws d (holding s 0) (h ++ input) mem) ready

      room-is : offered_room_of b d j room input ≡ room_after h input room
      room-is = ap (λ (t : Bool). pick t (room_after h input room) room) (ready_phase s ready)

      -- too few pending bytes: they are all held
      held_short : (x : PartsReceived) → is_short (h ++ input) ≡ true → x ≡ core (holding s 0) (h ++ input) → parts_held_of s (length h + length input) x ≡ parts_unchanged (holding s (length h + length input)) (Ok (Wait (needed_of (h ++ input))))
      held_short x e q =
          ap (parts_held_of s (length h + length input)) (q ∙ (short_waits p ws d (holding s 0) s.framing.crc mem (h ++ input) e).0)

      pub kept_short :
          is_short (h ++ input) ≡ true → (v after r : List ℕ) → rnic_at v ≡ with_stream_of b d j (holding s (length (h ++ input))) → after ≡ mem → r ≡ room_after h input room →
          OfferedAs (Ok (Kept (length input))) v after r
      kept_short e v after r is same put =
          as_told v (parts_unchanged (holding s (length h + length input)) (Ok (Wait (needed_of (h ++ input)))))
          (offered-is ∙ held_short (core (holding s 0) (h ++ input)) e refl)
          refl (is ∙ ap (λ (n : ℕ). with_stream_of b d j (holding s n)) (length-append h input))
          mem (bytes-is ∙ (short_waits p ws d (holding s 0) s.framing.crc mem (h ++ input) e).1) same
          (room_after h input room) room-is put

      -- enough: what is taken or ends the stream leaves nothing held
      decided_held : (n : ℕ) (x : PartsReceived) → (a : Result Answer LocalRefusal) → x.answer ≡ a → Decided a → parts_held s n x a ≡ x
      decided_held n x (Ok (Wait k)) e k' = absurd k'
      decided_held n x (Ok (Taken total ev)) e k = refl
      decided_held n x (Ok (Ended r)) e k = refl
      decided_held n x (Err k) e k' = absurd k'

      enough-offered : is_short (h ++ input) ≡ false → offered_of b d j room input ≡ core (holding s 0) (h ++ input)
      enough-offered e =
          let x : PartsReceived = core (holding s 0) (h ++ input) in
          offered-is ∙ decided_held (length h + length input) x x.answer refl (enough_judges p ws d (holding s 0) s.framing.crc mem (h ++ input) e)

      pub taken-enough :
          is_short (h ++ input) ≡ false → (a : Result Answer LocalRefusal) (v after r : List ℕ) → a ≡ (core (holding s 0) (h ++ input)).answer → rnic_at v ≡ counted_of b d j (segment_read s.framing.crc (h ++ input)) (core (holding s 0) (h ++ input)) →
          after ≡ core_bytes (holding s 0) (h ++ input) → r ≡ room_after h input room → OfferedAs (offer_answer (length h) (length input) a) v after r
      taken-enough e a v after r f g k l =
          as_told v (core (holding s 0) (h ++ input)) (enough-offered e) (ap (offer_answer (length h) (length input)) f) g
          (core_bytes (holding s 0) (h ++ input)) bytes-is k
          (room_after h input room) room-is l

      -- ---- nothing is held
      module _ (f : Framing) (framed : f ≡ s.framing) (none : f.held ≡ 0) where
        zero_held : s.framing.held ≡ 0
        zero_held = ap (λ (x : Framing). x.held) (sym framed) ∙ none

        no_bytes : h ≡ []
        no_bytes = ap (λ (n : ℕ). take n room) zero_held

        same-stream : holding s 0 ≡ s
        same-stream =
            let e = sym zero_held in
            λ i. record { phase = s.phase; framing = record { crc = s.framing.crc; held = e i }; sends = s.sends; reads = s.reads; terminates = s.terminates }

        module _ {l after : List ℕ} (v : List ℕ) (first : FirstWords w d j p input mem (segment_read f.crc input) l v after) where
          -- what receive answers
          abbrev a : Result Answer LocalRefusal
          a = (core s input).answer

          told : FirstWords w d j p input mem (segment_read s.framing.crc input) l v after
          told = subst (λ (x : Framing). FirstWords w d j p input mem (segment_read x.crc input) l v after) framed first

          pending : h ++ input ≡ input
          pending = ap (λ (l : List ℕ). l ++ input) no_bytes

          core-same : core (holding s 0) (h ++ input) ≡ core s input
          core-same i = core (same-stream i) (pending i)

          bytes_same : core_bytes (holding s 0) (h ++ input) ≡ core_bytes s input
          bytes_same i = core_bytes (same-stream i) (pending i)

          -- an FPDU is taken where it lies, or the stream ends
          fresh_taken : Decided a → OfferedAs (offer_answer 0 (length input) a) v after room
          unfolding is_short
          fresh_taken k =
              let enough : is_short (h ++ input) ≡ false = ap is_short pending ∙ decided_enough p ws d s s.framing.crc mem input k in
              let none-held : 0 ≡ length h = sym (ap length no_bytes) in
              subst (λ (n : ℕ). OfferedAs (offer_answer n (length input) a) v after room) (sym none-held)
              (taken-enough enough a v after room (sym (ap (λ (x : PartsReceived). x.answer) core-same)) (told.1 ∙ sym (λ i. counted_of b d j (segment_read s.framing.crc (pending i)) (core-same i))) (told.2 ∙ sym bytes_same)
              (room_fresh h input (length h) (needed_of (h ++ input)) refl refl (enough-long enough) (sym none-held) room))
            where
              enough-long : is_short (h ++ input) ≡ false → needed_of (h ++ input) ≤ length h + length input
              enough-long e = let l = ltb-false (length (h ++ input)) (needed_of (h ++ input)) e in omega (arith, l, length-append h input)

          -- the offer's words, of receive's
          fresh_words : (x : Result OfferAnswer LocalRefusal) → offer_answer 0 (length input) a ≡ x → offered_words l 0 (length input) ≡ offer_words x
          fresh_words x e = ap (λ (t : List ℕ). offered_words t 0 (length input)) told.0 ∙ offered-words a 0 (length input) ∙ ap offer_words e

          pub fresh_done : (get_or l 0 0 ≡ 5 → ⊥) → OfferedWords (offered_words l 0 (length input)) v after room
          fresh_done other = as_words v (fresh_words (offer_answer 0 (length input) a) refl) (fresh_taken (go a refl))
            where
              go : (x : Result Answer LocalRefusal) → a ≡ x → Decided a
              go (Ok (Wait n)) e = absurd (other (ap (λ (t : List ℕ). get_or t 0 0) (told.0 ∙ ap answer_words e)))
              go (Ok (Taken total ev)) e = subst Decided (sym e) tt
              go (Ok (Ended r)) e = subst Decided (sym e) tt
              go (Err k) e = absurd (never_refused p ws d s s.framing.crc mem input k e)

          -- the bytes are kept
          waits-told : get_or l 0 0 ≡ 5 → a ≡ Ok (Wait (wait_of a))
          waits-told five = kind_waits a (sym (ap (λ (t : List ℕ). get_or t 0 0) told.0) ∙ five)

          pub fresh_kept :
              get_or l 0 0 ≡ 5 → (g : Gathered) (u r : List ℕ) → g ≡ gathered (take f.held room) input →
              rnic_at u ≡ with_stream_of (rnic_at v) d j (with_framing (stream_of (rnic_at v) d j) (framing_holding f (held_now g))) → r ≡ room_after (take f.held room) input room →
              OfferedWords (offered_words l 0 (length input)) u after r
          unfolding gathered
          fresh_kept five g u r is then put =
              let waits : a ≡ Ok (Wait (wait_of a)) = waits-told five in
              let short₀ : is_short input ≡ true = waits_short p ws d s s.framing.crc mem input (wait_of a) waits in
              let short : is_short (h ++ input) ≡ true = ap is_short pending ∙ short₀ in
              let still : rnic_at v ≡ b = told.1 ∙ ap (λ (x : PartsReceived). counted_of b d j (segment_read s.framing.crc input) x) (short_waits p ws d s s.framing.crc mem input short₀).0 ∙ stream-kept b d j in
              let front : take f.held room ≡ h = ap (λ (x : Framing). take x.held room) framed in
              let got : g ≡ Short (length (h ++ input)) = is ∙ ap (λ (l : List ℕ). gathered l input) front ∙ ap (λ (t : Bool). pick t (Short (length (h ++ input))) (Enough (needed_of (h ++ input)))) short in
              as_words u (fresh_words (Ok (Kept (length input))) (ap (offer_answer 0 (length input)) waits))
              (kept_short short u after r
              (then ∙ (λ i. with_stream_of (still i) d j (with_framing (stream_of (still i) d j) (framing_holding (framed i) (held_now (got i))))))
              (told.2 ∙ (short_waits p ws d s s.framing.crc mem input short₀).1)
              (put ∙ ap (λ (l : List ℕ). room_after l input room) front))

      -- ---- some are held
      module _ (f : Framing) (framed : f ≡ s.framing) (g : Gathered) (v r : List ℕ) (is : g ≡ gathered (take f.held room) input) (then : rnic_at v ≡ with_stream_of b d j (with_framing s (framing_holding f (held_now g)))) (put : r ≡ room_after (take f.held room) input room) where
        front : take f.held room ≡ h
        front = ap (λ (x : Framing). take x.held room) framed

        got : g ≡ gathered h input
        got = is ∙ ap (λ (l : List ℕ). gathered l input) front

        put-held : r ≡ room_after h input room
        put-held = put ∙ ap (λ (l : List ℕ). room_after l input room) front

        -- by what was gathered
        short_got : (n : ℕ) → g ≡ Short n → is_short (h ++ input) ≡ true
        unfolding gathered
        short_got n e = go (is_short (h ++ input)) (sym e ∙ got)
          where
            go : (t : Bool) → Short n ≡ pick t (Short (length (h ++ input))) (Enough (needed_of (h ++ input))) → t ≡ true
            go true q = refl
            go false q = absurd (let no : ◌≡◌ {A = ℕ} 0 1 = cc in omega arith)

        enough_got : (n : ℕ) → g ≡ Enough n → (is_short (h ++ input) ≡ false) × (n ≡ needed_of (h ++ input))
        unfolding gathered
        enough_got n e = go (is_short (h ++ input)) (sym e ∙ got)
          where
            go : (t : Bool) → Enough n ≡ pick t (Short (length (h ++ input))) (Enough (needed_of (h ++ input))) → (t ≡ false) × (n ≡ needed_of (h ++ input))
            go true q = absurd (let no : ◌≡◌ {A = ℕ} 0 1 = cc in omega arith)
            go false q = (refl, cc)

        pub held_kept : (n : ℕ) → g ≡ Short n → OfferedWords (took_words (words 11 0 0 0 0 0) (length input)) v mem r
        unfolding gathered
        held_kept n e =
            let short = short_got n e in
            let all : g ≡ Short (length (h ++ input)) = got ∙ ap (λ (t : Bool). pick t (Short (length (h ++ input))) (Enough (needed_of (h ++ input)))) short in
            as_words v refl (kept_short short v mem r (then ∙ (λ i. with_stream_of b d j (with_framing s (framing_holding (framed i) (held_now (all i)))))) refl put-held)

        module _ (long : length room ≡ room_bytes) (some : 0 < f.held) (n : ℕ) (e : g ≡ Enough n) where
          enough : is_short (h ++ input) ≡ false
          enough = (enough_got n e).0

          many : n ≡ needed_of (h ++ input)
          many = (enough_got n e).1

          pub enough-fits : n ≤ room_bytes
          enough-fits = omega (arith, many, (needed_bounds (h ++ input)).1)

          some-held : 0 < length h
          some-held = omega (arith, length-take s.framing.held room, long, some, ap (λ (x : Framing). x.held) framed)

          -- the room then starts with the pending bytes that are needed
          needed-there : take n r ≡ take (needed_of (h ++ input)) (h ++ input)
          needed-there =
              ap₂ (λ (m : ℕ) (l : List ℕ). take m l) many put-held
              ∙ room-enough room s.framing.held input long some-held enough

          emptied : rnic_at v ≡ with_stream_of b d j (holding s 0)
          emptied = then ∙ (λ i. with_stream_of b d j (with_framing s (framing_holding (framed i) (held_now (e i)))))

          abbrev own : Domain
          own = domain_at b d

          entry : domain_at (rnic_at v) d ≡ with_stream own j (holding s 0)
          entry = entry_put w v d hd (with_stream own j (holding s 0)) emptied

          stream-then : stream_of (rnic_at v) d j ≡ holding s 0
          stream-then = ap (λ (x : Domain). stream_at x j) entry ∙ get_or-set_same own.streams j (holding s 0) no_stream (omega (arith, four_streams w d hd))

          counted-held : (y : Result SegmentRead Refusal) (x : PartsReceived) → counted_of (rnic_at v) d j y x ≡ counted_of b d j y x
          counted-held y x =
              entry_again w v d hd (with_stream own j (holding s 0)) emptied (λ z. metered x.answer y (lifted z j x).1)
              ∙ (λ i. with_domain b d (record { part = own.part; windows = killed x.invalidate own.windows; streams = set-set own.streams j (holding s 0) x.stream i; meter = meter_by x.answer (segment_count y) own.meter }))

          pub held-taken :
              (l u after : List ℕ) → FirstWords v d j p (take n r) mem (segment_read f.crc (take n r)) l u after →
              OfferedWords (offered_words l (length h) (length input)) u after r
          held-taken l u after first =
              let q : List ℕ = take (needed_of (h ++ input)) (h ++ input) in
              let same = enough-own p ws d (holding s 0) s.framing.crc mem (h ++ input) enough in
              let crcs : f.crc ≡ s.framing.crc = ap (λ (x : Framing). x.crc) framed in
              let seen : FirstWords v d j p q mem (segment_read s.framing.crc q) l u after = subst (λ (t : List ℕ). FirstWords v d j p t mem (segment_read s.framing.crc t) l u after) needed-there (subst (λ (c : Bool). FirstWords v d j p (take n r) mem (segment_read c (take n r)) l u after) crcs first) in
              let x : PartsReceived = parts_answered (stream_of (rnic_at v) d j) (parts_judged (domain_at (rnic_at v) d).windows d (stream_of (rnic_at v) d j) q (segment_read s.framing.crc q)) in
              let told : x ≡ core (holding s 0) (h ++ input) =
              (λ i. parts_answered (stream-then i) (parts_judged (entry i).windows d (stream-then i) q (segment_read s.framing.crc q))) ∙ same.0 in
              let placed : parts_placed p (domain_at (rnic_at v) d).windows d (stream_of (rnic_at v) d j) q mem (segment_read s.framing.crc q) ≡ core_bytes (holding s 0) (h ++ input) =
              (λ i. parts_placed p (entry i).windows d (stream-then i) q mem (segment_read s.framing.crc q)) ∙ same.1 in
              let a : (Result Answer LocalRefusal) = (core (holding s 0) (h ++ input)).answer in
              as_words u
              (ap (λ (t : List ℕ). offered_words t (length h) (length input)) (seen.0 ∙ ap (λ (x : PartsReceived). answer_words x.answer) told) ∙ offered-words a (length h) (length input))
              (taken-enough enough a u after r refl
              (seen.1 ∙ counted-held (segment_read s.framing.crc q) x ∙ (λ i. counted_of b d j (enough_read (h ++ input) s.framing.crc enough i) (told i)))
              (seen.2 ∙ placed)
              put-held)
