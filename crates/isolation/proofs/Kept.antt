-- What every step of a domain keeps: where its part lies, and how many bytes it has; and that no step but an offer makes a stream hold
-- more. By cases on the tests of each definition.
use Prim.Native.Nat.{ℕ, ◌-◌, ◌≤◌, ◌<◌}
use mathlib.Core.Logic.{◌≢◌}
use mathlib.Core.Path.{◌≡◌, refl, sym, ap, subst, ◌∙◌}
use mathlib.Core.Bool.{Bool, true, false}
use mathlib.Core.List.{List, ◌++◌}
use native.Mathlib.Omega.{arith}
use native.Mathlib.Decide.{dec_lt, ℕ_discrete as dec_eq}
use lib.ListN.{length, get_or, set}
use lib.Seq.{get_or-set_same, get_or-set_other, set_out}
use lib.Dec.{leb, ltb, eqb}
use borrow.Author.Tests.{ltb-false}
use Rattle.wire.specs.Wire.{pick, both, part}
use Rattle.ddp.specs.Place.{placed}
use Rattle.ddp.specs.Segment.{segment_read}
use Rattle.memory.specs.declared.part.Part.{Part}
use Rattle.ddp.specs.declared.segment.SegmentRead.{SegmentRead}
use Rattle.ddp.specs.declared.segment.SegmentRead.TheVariants.{Wait, Tagged, Untagged}
use Rattle.memory.specs.declared.window.Window.{Window}
use Rattle.rdmap.specs.Phase.{is_closed, readiness}
use Rattle.rdmap.specs.Stream.{opened, closed, posted_when, posted_on, taken_when, taken_from, no_stream}
use Rattle.rdmap.specs.declared.framing.Framing.{Framing}
use Rattle.rdmap.specs.declared.message.Verdict.{Verdict}
use Rattle.rdmap.specs.declared.message.Verdict.TheVariants.{Nothing, Write, SendMore, SendLast, Read, Terminate}
use Rattle.rdmap.specs.declared.stream.Stream.{Stream}
use Rattle.meter.specs.declared.Meter.{Meter}
use Rattle.domain.specs.Domain.{stream_at, with_windows, domain_opened, domain_closed, domain_posted, domain_taken, domain_registered, domain_dropped, domain_ticked, metered_of, domain_received, domain_received_bytes, lifted}
use Rattle.arrival.specs.Parts.{applied_bytes, placed_from, parts_verdict, parts_judged, parts_placed, parts_answered, parts_when, parts_bytes_when, parts_received, parts_received_bytes}
use Rattle.overlap.specs.Sharing.{writes}
use Rattle.domain.specs.Sharing.{domain_shares, unless_shared, lastly}
use Rattle.domain.specs.declared.Domain.{Domain}
use Rattle.arrival.specs.declared.parts.Judged.{Judged}
use Rattle.arrival.specs.declared.parts.Judged.TheVariants.{Wait as JudgedWait, Fpdu}
use Rattle.holding.specs.Offer.{is_open, holds, holds_at, domain_receives, domain_receives_bytes, parts_offered, domain_offered, domain_offered_bytes}
use Rattle.holding.proofs.Held.{ready_phase, offered-bytes}
use Rattle.holding.proofs.Machine.{applied_framing}
use Rattle.holding.proofs.Rooms.{placed-long}
use Rattle.std.specs.Prelude.{Err, Ok, Result, ⊤}
use Rattle.ddp.specs.declared.refusal.Refusal.{Refusal}
use Rattle.wire.specs.declared.refusal.LocalRefusal.{LocalRefusal}
use Rattle.rdmap.specs.declared.stream.Left.{Left}
use Rattle.rdmap.specs.declared.read.ReadRequest.{ReadRequest}
use Rattle.arrival.specs.declared.Answer.{Answer}

-- 19 is asked last: what holds of the domain as it was, of what the call makes of it where nothing is shared, and of what a refusal
-- makes of it, holds afterwards
pub lastly-holds :
    (P : Domain → Type 0) (b : Bool) (d : Domain) (r : Result ⊤ LocalRefusal × Domain) → P d →
    (r.0 ≡ (Ok tt) → b ≡ false → P r.1) → ((n : LocalRefusal) → r.0 ≡ Err n → P r.1) → P (lastly b d r).1
unfolding lastly
lastly-holds P b d r same done refused = go r.0 refl b refl
  where
    go : (o : Result ⊤ LocalRefusal) → r.0 ≡ o → (t : Bool) → b ≡ t → P (unless_shared t d r o).1
    go (Ok tt) e true f = same
    go (Ok tt) e false f = done e f
    go (Err n) e t f = refused n e

-- of two, by a test
pub picked : {X : Type 0} (P : X → Type 0) (t : Bool) (x y : X) → (t ≡ true → P x) → (t ≡ false → P y) → P (pick t x y)
picked P true x y f g = f refl
picked P false x y f g = g refl

-- ---- where the part lies, and what the streams hold

-- what a call other than an offer does with the bytes that a stream holds: it empties them, or leaves them and whether the stream is open
pub data Settles (s t : Stream) : Type 0 where
  empties : t.framing.held ≡ 0 → Settles s t
  stays : t.framing.held ≡ s.framing.held → is_open t ≡ is_open s → Settles s t

-- so it makes no stream hold more
pub settles_less : {s t : Stream} → Settles s t → t.framing.held ≤ s.framing.held
settles_less (empties e) = omega (arith, e)
settles_less (stays e o) = omega (arith, e)

unmoved : (s : Stream) → Settles s s
unmoved s = stays refl refl

pub record Steady (d d' : Domain) : Type 0 where
  pub part : d'.part ≡ d.part
  pub streams : (slot : ℕ) → Settles (stream_at d slot) (stream_at d' slot)

-- a domain that stays; one stream exchanged, whatever becomes of the windows and of the meter
steady : (d : Domain) → Steady d d
steady d = record { part = refl; streams = λ slot. unmoved (stream_at d slot) }

exchanged :
    (d : Domain) (slot : ℕ) (t : Stream) (ws : List Window) (m : Meter) → Settles (stream_at d slot) t →
    Steady d (record { part = d.part; windows = ws; streams = set d.streams slot t; meter = m })
exchanged d slot t ws m k = record { part = refl; streams = λ j. go j (dec_lt slot (length d.streams)) (dec_eq j slot) }
  where
    go : (j : ℕ) → Dec (slot < length d.streams) → Dec (j ≡ slot) → Settles (stream_at d j) (get_or (set d.streams slot t) j no_stream)
    go j (no h) e = subst (λ (l : List Stream). Settles (stream_at d j) (get_or l j no_stream)) (sym (set_out d.streams slot t (omega arith))) (unmoved (stream_at d j))
    go j (yes h) (no e) = subst (Settles (stream_at d j)) (sym (get_or-set_other d.streams slot j t no_stream e)) (unmoved (stream_at d j))
    go j (yes h) (yes e) =
        subst (λ (i : ℕ). Settles (stream_at d i) (get_or (set d.streams slot t) i no_stream)) (sym e)
        (subst (Settles (stream_at d slot)) (sym (get_or-set_same d.streams slot t no_stream h)) k)

-- ---- a stream's calls
module _ (s : Stream) where
  opened_settles : (crc : Bool) → Settles s (opened s crc).1
  unfolding opened
  opened_settles crc = picked (λ (r : Result ⊤ LocalRefusal × Stream). Settles s r.1) (is_closed s.phase) _ _ (λ e. empties refl) (λ e. unmoved s)

  closed_settles : Settles s (closed s).1
  unfolding closed
  closed_settles = picked (λ (r : Result Left LocalRefusal × Stream). Settles s r.1) (is_closed s.phase) _ _ (λ e. unmoved s) (λ e. empties refl)

  posted_settles : (p : Part) (start len : ℕ) → Settles s (posted_on s p start len).1
  unfolding posted_on
  posted_settles p start len = go (readiness s.phase)
    where
      go : (r : Result ⊤ LocalRefusal) → Settles s (posted_when s p start len r).1
      go (Ok tt) = stays refl refl
      go (Err k) = unmoved s

  taken_settles : Settles s (taken_from s).1
  unfolding taken_from
  taken_settles = go (readiness s.phase)
    where
      go : (r : Result ⊤ LocalRefusal) → Settles s (taken_when s r).1
      go (Ok tt) = picked (λ (r : Result ReadRequest LocalRefusal × Stream). Settles s r.1) (eqb s.reads.count 0) _ _ (λ e. unmoved s) (λ e. stays refl refl)
      go (Err k) = unmoved s

  -- a stream that is open and holds nothing receives, and one that is not open does not
  received_settles : (ws : List Window) (number : ℕ) (input : List ℕ) → holds s ≡ false → Settles s (parts_received ws number s input).stream
  unfolding parts_received
  received_settles ws number input none = when (readiness s.phase) refl
    where
      answered : s.framing.held ≡ 0 → (j : Judged) → Settles s (parts_answered s j).stream
      answered e (JudgedWait n) = unmoved s
      answered e (Fpdu total v) = empties (ap (λ (f : Framing). f.held) (applied_framing s total v) ∙ e)

      nothing : is_open s ≡ true → s.framing.held ≡ 0
      nothing o = let e : ltb 0 s.framing.held ≡ false = ap (λ (b : Bool). both b (ltb 0 s.framing.held)) (sym o) ∙ none in omega (arith, ltb-false 0 s.framing.held e)

      when : (r : Result ⊤ LocalRefusal) → readiness s.phase ≡ r → Settles s (parts_when ws number s input r).stream
      when (Ok tt) e = answered (nothing (ready_phase s e)) (parts_judged ws number s input (segment_read s.framing.crc input))
      when (Err k) e = unmoved s

-- ---- a domain's calls
module _ (d : Domain) where
  pub opened_keeps : (slot : ℕ) (crc : Bool) → Steady d (domain_opened d slot crc).1
  unfolding domain_opened
  opened_keeps slot crc =
      picked (λ (r : Result ⊤ LocalRefusal × Domain). Steady d r.1) (leb slot 3) _ _ (λ e. exchanged d slot _ d.windows d.meter (opened_settles (stream_at d slot) crc)) (λ e. steady d)

  pub closed_keeps : (slot : ℕ) → Steady d (domain_closed d slot).1
  unfolding domain_closed
  closed_keeps slot =
      picked (λ (r : Result Left LocalRefusal × Domain). Steady d r.1) (leb slot 3) _ _ (λ e. exchanged d slot _ d.windows d.meter (closed_settles (stream_at d slot))) (λ e. steady d)

  pub posted_keeps : (slot start len : ℕ) → Steady d (domain_posted d slot start len).1
  unfolding domain_posted
  posted_keeps slot start len =
      picked (λ (r : Result ⊤ LocalRefusal × Domain). Steady d r.1) (leb slot 3) _ _
      (λ e. let z = exchanged d slot _ d.windows d.meter (posted_settles (stream_at d slot) d.part start len) in
      lastly-holds (Steady d) (domain_shares d start len) d _ (steady d) (λ e f. z) (λ n e. z))
      (λ e. steady d)

  pub taken_keeps : (slot : ℕ) → Steady d (domain_taken d slot).1
  unfolding domain_taken
  taken_keeps slot =
      picked (λ (r : Result ReadRequest LocalRefusal × Domain). Steady d r.1) (leb slot 3) _ _ (λ e. exchanged d slot _ d.windows d.meter (taken_settles (stream_at d slot))) (λ e. steady d)

  -- the windows alone
  windowed : (ws : List Window) → Steady d (with_windows d ws)
  windowed ws = record { part = refl; streams = λ slot. unmoved (stream_at d slot) }

  pub registered_keeps : (slot key base len place rights : ℕ) → Steady d (domain_registered d slot key base len place rights).1
  unfolding domain_registered
  registered_keeps slot key base len place rights =
      lastly-holds (Steady d) (both (writes rights) (domain_shares d place len)) d _ (steady d) (λ e f. windowed _) (λ n e. windowed _)

  pub dropped_keeps : (slot : ℕ) → Steady d (domain_dropped d slot).1
  unfolding domain_dropped
  dropped_keeps slot = windowed _

  -- the meter alone
  pub ticked_keeps : Steady d (domain_ticked d)
  ticked_keeps = record { part = refl; streams = λ slot. unmoved (stream_at d slot) }

  -- receive is refused with 16 where it would lose held bytes
  pub received_keeps : (number slot : ℕ) (input : List ℕ) → Steady d (domain_receives d number slot input).1
  unfolding domain_receives domain_received
  received_keeps number slot input =
      picked (λ (r : Result Answer LocalRefusal × Domain). Steady d r.1) (holds_at d slot) _ _ (λ e. steady d)
      (λ e. picked (λ (r : Result Answer LocalRefusal × Domain). Steady d r.1) (leb slot 3) (metered_of (segment_read (stream_at d slot).framing.crc input) (lifted d slot (parts_received d.windows number (stream_at d slot) input))) _
      (λ q. exchanged d slot _ _ _ (received_settles (stream_at d slot) d.windows number input (ap (λ (b : Bool). both b (holds (stream_at d slot))) (sym q) ∙ e)))
      (λ q. steady d))

  -- an offer's own stream may hold more; the part stays, and every other stream
  pub offered-part : (number slot : ℕ) (held input : List ℕ) → (domain_offered d number slot held input).1.part ≡ d.part
  unfolding domain_offered
  offered-part number slot held input =
      picked (λ (r : Result Answer LocalRefusal × Domain). r.1.part ≡ d.part) (leb slot 3) (metered_of (segment_read (stream_at d slot).framing.crc (held ++ input)) (lifted d slot (parts_offered d.windows number (stream_at d slot) held input))) _ (λ e. refl) (λ e. refl)

  pub offered-others : (number slot : ℕ) (held input : List ℕ) (j : ℕ) → j ≢ slot → stream_at (domain_offered d number slot held input).1 j ≡ stream_at d j
  unfolding domain_offered
  offered-others number slot held input j ne =
      picked (λ (r : Result Answer LocalRefusal × Domain). stream_at r.1 j ≡ stream_at d j) (leb slot 3) (metered_of (segment_read (stream_at d slot).framing.crc (held ++ input)) (lifted d slot (parts_offered d.windows number (stream_at d slot) held input))) _
      (λ e. get_or-set_other d.streams slot j _ no_stream ne) (λ e. refl)

-- ---- as many bytes
length-pick : (t : Bool) (x y l : List ℕ) → (t ≡ true → length x ≡ length l) → length y ≡ length l → length (pick t x y) ≡ length l
length-pick true x y l p q = p refl
length-pick false x y l p q = q

from_many : (start at : ℕ) (xs l : List ℕ) → length (placed_from start at xs l) ≡ length l
unfolding placed_from
from_many start at xs l = length-pick (leb start at) (placed l (at - start) xs) l l (λ e. placed-long l (at - start) xs) refl

applied_many : (start : ℕ) (v : Result Verdict Refusal) (xs l : List ℕ) → length (applied_bytes start v xs l) ≡ length l
unfolding applied_bytes
applied_many start (Err r) xs l = refl
applied_many start (Ok Nothing) xs l = refl
applied_many start (Ok (Write at)) xs l = from_many start at xs l
applied_many start (Ok (SendMore at opcode taken)) xs l = from_many start at xs l
applied_many start (Ok (SendLast at opcode from len inv)) xs l = from_many start at xs l
applied_many start (Ok (Read r)) xs l = refl
applied_many start (Ok (Terminate layer etype code)) xs l = refl

module _ (p : Part) (ws : List Window) (number : ℕ) (s : Stream) (input l : List ℕ) where
  segment_many : (x : Result SegmentRead Refusal) → length (parts_placed p ws number s input l x) ≡ length l
  segment_many (Ok (Wait n)) = refl
  segment_many (Err r) = refl
  segment_many (Ok (Tagged total h start len)) = applied_many p.start (parts_verdict ws number s input (Ok (Tagged total h start len))) (part input start len) l
  segment_many (Ok (Untagged total h start len)) = applied_many p.start (parts_verdict ws number s input (Ok (Untagged total h start len))) (part input start len) l

  when_many : (r : Result ⊤ LocalRefusal) → length (parts_bytes_when p ws number s input l r) ≡ length l
  when_many (Ok tt) = segment_many (segment_read s.framing.crc input)
  when_many (Err k) = refl

  parts_many : length (parts_received_bytes p ws number s input l) ≡ length l
  unfolding parts_received_bytes
  parts_many = when_many (readiness s.phase)

done_many : (d : Domain) (number slot : ℕ) (input l : List ℕ) → length (domain_received_bytes d number slot input l) ≡ length l
unfolding domain_received_bytes
done_many d number slot input l =
    length-pick (leb slot 3) (parts_received_bytes d.part d.windows number (stream_at d slot) input l) l l (λ e. parts_many d.part d.windows number (stream_at d slot) input l) refl

pub received_many : (d : Domain) (number slot : ℕ) (input l : List ℕ) → length (domain_receives_bytes d number slot input l) ≡ length l
unfolding domain_receives_bytes
received_many d number slot input l = length-pick (holds_at d slot) l (domain_received_bytes d number slot input l) l (λ e. refl) (done_many d number slot input l)

pub offered_many : (d : Domain) (number slot : ℕ) (held input l : List ℕ) → length (domain_offered_bytes d number slot held input l) ≡ length l
offered_many d number slot held input l = ap length (offered-bytes d number slot held input l) ∙ done_many d number slot (held ++ input) l
