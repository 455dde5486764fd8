-- Two writers on one spot, over a block of words: a domain's windows and streams asked one by one, and a call that asks 19 last.
use Prim.Native.Nat.{ℕ, ◌+◌, ◌<◌}
use mathlib.Core.Bool.{Bool, true, false}
use mathlib.Core.List.{List}
use mathlib.Core.Path.{◌≡◌, refl, sym, ap, ap₂, subst, ◌∙◌}
use native.Mathlib.Omega.{arith}
use native.Mathlib.Numerals.{add-one}
use lib.Dec.{ltb, eqb}
use lib.ListN.{length, drop, take, drop_of_length-le}
use lib.Seq.{drop-cons, set-get_or}
use borrow.Author.Tests.{le-leb}
use Rattle.wire.specs.Wire.{pick, both}
use Rattle.memory.specs.Buffer.{appended, posted}
use Rattle.memory.specs.Part.{in_part}
use Rattle.memory.specs.Window.{no_window, window_at, in_range, window_fits, keeping, entering, refusing, registered_in, registered}
use Rattle.memory.specs.declared.buffer.Buffers.{Buffers}
use Rattle.memory.specs.declared.part.Part.{Part}
use Rattle.memory.specs.declared.window.Window.{Window}
use Rattle.rdmap.specs.Phase.{readiness}
use Rattle.rdmap.specs.Sends.{posted_sends}
use Rattle.rdmap.specs.Stream.{with_sends, posted_on, posted_with, no_stream}
use Rattle.rdmap.specs.declared.sends.Sends.{Sends}
use Rattle.rdmap.specs.declared.stream.Stream.{Stream}
use Rattle.domain.specs.Domain.{with_stream, with_windows, domain_posted, domain_registered}
use Rattle.overlap.specs.Sharing.{either, writes, window_shares, windows_share, waiting, buffers_share, streams_share}
use Rattle.domain.specs.Sharing.{domain_shares, lastly}
use Rattle.domain.specs.declared.Domain.{Domain}
use Rattle.rnic.specs.Rnic.{domain_at, with_domain}
use Rattle.block.specs.Device.{loaded_part, loaded_window, loaded_domain, rnic_at}
use Rattle.block.specs.Exchange.{with_window, stream_of, with_stream_of}
use Rattle.block.specs.Stream.{loaded_phase, loaded_sends}
use Rattle.block.proofs.Stored.{domain_at_lem, part_at, window_at_lem}
use Rattle.slots.specs.Window.{window_of, with_window_of}
use Rattle.slots.proofs.Slots.{domain-kept, stream-kept, sends_of, posted_when_lem}
use Rattle.slots.proofs.Windows.{windows_of, sixteen}
use Rattle.std.specs.Prelude.{Err, Ok, Result, ⊤}
use Rattle.wire.specs.declared.refusal.LocalRefusal.{LocalRefusal}
use Rattle.wire.specs.declared.refusal.LocalRefusal.TheVariants.{BadPlace, BuffersFull, KeyAgain, OutOfRange, SharedByte, WindowLive}

-- one more is asked
pub either_turn : (s here rest : Bool) → either s (either here rest) ≡ either (either here s) rest
either_turn true true rest = refl
either_turn true false rest = refl
either_turn false true rest = refl
either_turn false false rest = refl

pub either_false : (b : Bool) → either b false ≡ b
either_false true = refl
either_false false = refl

abbrev pub streams_of : List ℕ → ℕ → List Stream
streams_of w d = (domain_at (rnic_at w) d).streams

-- no buffer waits
pub none-waiting : (b : Buffers) (place len : ℕ) → b.count ≡ 0 → buffers_share (waiting b) place len ≡ false
unfolding buffers_share
none-waiting b place len e = ap (λ (n : ℕ). buffers_share (take n b.entries) place len) e

module _ (w : List ℕ) (d : ℕ) (hd : d < 4) (place len : ℕ) where
  four : length (streams_of w d) ≡ 4
  unfolding loaded_domain
  four = ap (λ (x : Domain). length x.streams) (domain_at_lem w d hd)

  -- the windows from a slot on: none after the last, and one more before them
  pub windows_end : windows_share (drop 16 (windows_of w d)) place len ≡ false
  unfolding windows_share
  windows_end = ap (λ (l : List Window). windows_share l place len) (drop_of_length-le (windows_of w d) {i = 16} (omega (arith, sixteen w d hd)))

  windows_step : (i : ℕ) → i < 16 → windows_share (drop i (windows_of w d)) place len ≡ either (window_shares (window_at (windows_of w d) i) place len) (windows_share (drop (i + 1) (windows_of w d)) place len)
  unfolding windows_share
  windows_step i h = rw (add-one, drop-cons (windows_of w d) i no_window (omega (arith, sixteen w d hd)))

  pub windows_next : (i : ℕ) (t u : Bool) → i < 16 → t ≡ window_shares (loaded_window w d i) place len → u ≡ windows_share (drop (i + 1) (windows_of w d)) place len → either t u ≡ windows_share (drop i (windows_of w d)) place len
  windows_next i t u h e e' =
      ap₂ either (e ∙ ap (λ (x : Window). window_shares x place len) (sym (window_at_lem w d hd i h))) e'
      ∙ sym (windows_step i h)

  -- the streams from a slot on
  pub streams_end : streams_share (drop 4 (streams_of w d)) place len ≡ false
  unfolding streams_share
  streams_end = ap (λ (l : List Stream). streams_share l place len) (drop_of_length-le (streams_of w d) {i = 4} (omega (arith, four)))

  streams_step : (i : ℕ) → i < 4 → streams_share (drop i (streams_of w d)) place len ≡ either (buffers_share (waiting (stream_of (rnic_at w) d i).sends.buffers) place len) (streams_share (drop (i + 1) (streams_of w d)) place len)
  unfolding streams_share
  streams_step i h = rw (add-one, drop-cons (streams_of w d) i no_stream (omega (arith, four)))

  pub streams_next : (i : ℕ) (t u : Bool) → i < 4 → t ≡ buffers_share (waiting (stream_of (rnic_at w) d i).sends.buffers) place len → u ≡ streams_share (drop (i + 1) (streams_of w d)) place len → either t u ≡ streams_share (drop i (streams_of w d)) place len
  streams_next i t u h e e' = ap₂ either e e' ∙ sym (streams_step i h)

-- a call on a domain that asks last whether bytes are shared: it would answer o and leave x
module _ (w : List ℕ) (d : ℕ) (r : Result ⊤ LocalRefusal × Domain) (t : Bool) (o : Result ⊤ LocalRefusal) (x : Domain) (is : r ≡ lastly t (domain_at (rnic_at w) d) (o, x)) where
  -- a block v holds the device that the call leaves, and the call answers so
  abbrev As : Result ⊤ LocalRefusal → List ℕ → Type 0
  As a v = (a ≡ r.0) × (rnic_at v ≡ with_domain (rnic_at w) d r.1)

  abbrev answering : (q : Result ⊤ LocalRefusal × Domain) → r ≡ q → (v : List ℕ) → rnic_at v ≡ with_domain (rnic_at w) d q.1 → As q.0 v
  answering q e v stored = (sym (ap (λ (y : Result ⊤ LocalRefusal × Domain). y.0) e), stored ∙ sym (ap (λ (y : Result ⊤ LocalRefusal × Domain). with_domain (rnic_at w) d y.1) e))

  pub last-refused : (k : LocalRefusal) → o ≡ Err k → with_domain (rnic_at w) d x ≡ rnic_at w → As (Err k) w
  unfolding lastly
  last-refused k e kept =
      answering (Err k, x)
      (is ∙ ap (λ (a : Result ⊤ LocalRefusal). lastly t (domain_at (rnic_at w) d) (a, x)) e) w (sym kept)

  pub last-shared : o ≡ (Ok tt) → t ≡ true → As (Err SharedByte) w
  unfolding lastly
  last-shared e h =
      answering (Err SharedByte, domain_at (rnic_at w) d)
      (is ∙ ap₂ (λ (u : Bool) (a : Result ⊤ LocalRefusal). lastly u (domain_at (rnic_at w) d) (a, x)) h e) w
      (sym (domain-kept (rnic_at w) d))

  pub last_done : (v : List ℕ) → o ≡ (Ok tt) → t ≡ false → rnic_at v ≡ with_domain (rnic_at w) d x → As (Ok tt) v
  unfolding lastly
  last_done v e h stored =
      answering (Ok tt, x)
      (is ∙ ap₂ (λ (u : Bool) (a : Result ⊤ LocalRefusal). lastly u (domain_at (rnic_at w) d) (a, x)) h e) v stored

-- ---- what is refused leaves the buffers and the window as they were

abbrev OfDone : Result ⊤ LocalRefusal → Type 0
OfDone (Ok tt) = Unit {0}
OfDone (Err n) = ⊥

buffers-kept : (b : Buffers) (part : Part) (start len : ℕ) (k : LocalRefusal) → (posted b part start len).0 ≡ Err k → (posted b part start len).1 ≡ b
unfolding posted
buffers-kept b part start len k = go (in_part part start len) (ltb b.count 8)
  where
    tried : Bool → Bool → (Result ⊤ LocalRefusal × Buffers)
    tried t u =
        pick t
        (pick u (Ok tt, appended b (record { start = start; len = len }))
        (Err BuffersFull, b))
        (Err BadPlace, b)

    go : (t u : Bool) → (tried t u).0 ≡ Err k → (tried t u).1 ≡ b
    go true true e = absurd (subst OfDone e tt)
    go true false e = refl
    go false u e = refl

window-left : (x : Window) (part : Part) (key base len place rights : ℕ) (k : LocalRefusal) → (registered_in x part key base len place rights).0 ≡ Err k → (registered_in x part key base len place rights).1 ≡ x
unfolding registered_in
window-left x part key base len place rights k =
    go (in_range key rights) x.live (eqb key x.key) (window_fits part place base len)
  where
    tried : Bool → Bool → Bool → Bool → (Result ⊤ LocalRefusal × Window)
    tried t u v y =
        pick t
        (pick u (keeping x WindowLive)
        (pick v (keeping x KeyAgain)
        (pick y (Ok tt, record { live = true; key = key; rights = rights; place = place; len = len; base = base })
        (keeping x BadPlace))))
        (keeping x OutOfRange)

    go : (t u v y : Bool) → (tried t u v y).0 ≡ Err k → (tried t u v y).1 ≡ x
    go true false false true e = absurd (subst OfDone e tt)
    go true false false false e = refl
    go true false true y e = refl
    go true true v y e = refl
    go false u v y e = refl

-- ---- a buffer posted

module _ (w : List ℕ) (d j : ℕ) (hd : d < 4) (hj : j < 4) (start len : ℕ) where
  -- the domain, and the stream of the slot
  abbrev own : Domain
  own = domain_at (rnic_at w) d

  abbrev s : Stream
  s = stream_of (rnic_at w) d j

  abbrev PostedAs : Result ⊤ LocalRefusal → List ℕ → Type 0
  PostedAs o v = (o ≡ (domain_posted own j start len).0) × (rnic_at v ≡ with_domain (rnic_at w) d (domain_posted own j start len).1)

  abbrev PostedLast : (Result ⊤ LocalRefusal × Stream) → Type 0
  PostedLast r = domain_posted own j start len ≡ lastly (domain_shares own start len) own (r.0, with_stream own j r.1)

  posted-last : (r : Result ⊤ LocalRefusal × Stream) → posted_on s own.part start len ≡ r → PostedLast r
  unfolding domain_posted
  posted-last r e =
      ap (λ (t : Bool). pick t (lastly (domain_shares own start len) own ((posted_on s own.part start len).0, with_stream own j (posted_on s own.part start len).1)) (Err OutOfRange, own)) (le-leb j 3 (omega (arith, hj)))
      ∙ ap (λ (x : Result ⊤ LocalRefusal × Stream). lastly (domain_shares own start len) own (x.0, with_stream own j x.1)) e

  pub post-refused : (k : LocalRefusal) → readiness (loaded_phase w d j) ≡ Err k → PostedAs (Err k) w
  post-refused k e =
      last-refused w d _ _ (Err k) (with_stream own j s)
      (posted-last (Err k, s) (posted_when_lem w d j hd hj start len (Err k) e)) k refl
      (stream-kept (rnic_at w) d j)

  -- what posting makes of the sends
  module _ (p : Result ⊤ LocalRefusal × Sends) (ready : readiness (loaded_phase w d j) ≡ (Ok tt)) (is : p ≡ posted_sends (loaded_sends w d j) (loaded_part w d) start len) where
    posted-sends : p ≡ posted_sends s.sends own.part start len
    posted-sends = is ∙ sym (λ i. posted_sends (sends_of w d j hd hj i) (part_at w d hd i) start len)

    post-asked : PostedLast (posted_with s p)
    post-asked = posted-last (posted_with s p) (posted_when_lem w d j hd hj start len (Ok tt) ready ∙ ap (posted_with s) (sym posted-sends))

    sends-kept : (k : LocalRefusal) → p.0 ≡ Err k → p.1 ≡ s.sends
    sends-kept k e =
        ap (λ (x : Result ⊤ LocalRefusal × Sends). x.1) posted-sends
        ∙ (λ i. record { msn = s.sends.msn; opcode = s.sends.opcode; taken = s.sends.taken; buffers = buffers-kept s.sends.buffers own.part start len k (sym (ap (λ (x : Result ⊤ LocalRefusal × Sends). x.0) posted-sends) ∙ e) i })

    pub post-kept : (k : LocalRefusal) → p.0 ≡ Err k → PostedAs (Err k) w
    post-kept k e =
        last-refused w d _ _ p.0 (with_stream own j (with_sends s p.1)) post-asked k e
        (ap (λ (x : Sends). with_stream_of (rnic_at w) d j (with_sends s x)) (sends-kept k e) ∙ stream-kept (rnic_at w) d j)

    pub post-shared : p.0 ≡ (Ok tt) → domain_shares own start len ≡ true → PostedAs (Err SharedByte) w
    post-shared e h = last-shared w d _ _ p.0 (with_stream own j (with_sends s p.1)) post-asked e h

    pub post-done : (v : List ℕ) → p.0 ≡ (Ok tt) → domain_shares own start len ≡ false → rnic_at v ≡ with_stream_of (rnic_at w) d j (with_sends s p.1) → PostedAs (Ok tt) v
    post-done v e h stored = last_done w d _ _ p.0 (with_stream own j (with_sends s p.1)) post-asked v e h stored

-- ---- a window registered

module _ (w : List ℕ) (d i : ℕ) (hd : d < 4) (hi : i < 16) (key base len place rights : ℕ) where
  abbrev mine : Domain
  mine = domain_at (rnic_at w) d

  abbrev shared : Bool
  shared = both (writes rights) (domain_shares mine place len)

  abbrev before : Window
  before = window_of (rnic_at w) d i

  abbrev RegisteredAs : Result ⊤ LocalRefusal → List ℕ → Type 0
  RegisteredAs o v = (o ≡ (domain_registered mine i key base len place rights).0) × (rnic_at v ≡ with_domain (rnic_at w) d (domain_registered mine i key base len place rights).1)

  abbrev RegisteredLast : (Result ⊤ LocalRefusal × Window) → Type 0
  RegisteredLast r = domain_registered mine i key base len place rights ≡ lastly shared mine (r.0, with_window mine i r.1)

  registered-last : RegisteredLast (registered_in before mine.part key base len place rights)
  unfolding domain_registered registered
  registered-last =
      ap (λ (t : Bool). lastly shared mine ((pick t (entering mine.windows i (registered_in before mine.part key base len place rights)) (refusing mine.windows OutOfRange)).0, with_windows mine (pick t (entering mine.windows i (registered_in before mine.part key base len place rights)) (refusing mine.windows OutOfRange)).1))
      (le-leb i 15 (omega (arith, hi)))

  window_same : with_window_of (rnic_at w) d i before ≡ rnic_at w
  window_same =
      (λ k. with_domain (rnic_at w) d (record { part = mine.part; windows = set-get_or mine.windows i no_window k; streams = mine.streams; meter = mine.meter }))
      ∙ domain-kept (rnic_at w) d

  -- what registering makes of the window
  module _ (x : Result ⊤ LocalRefusal × Window) (is : x ≡ registered_in (loaded_window w d i) (loaded_part w d) key base len place rights) where
    registered-window : x ≡ registered_in before mine.part key base len place rights
    registered-window = is ∙ sym (λ k. registered_in (window_at_lem w d hd i hi k) (part_at w d hd k) key base len place rights)

    register-asked : RegisteredLast x
    register-asked = registered-last ∙ ap (λ (y : Result ⊤ LocalRefusal × Window). lastly shared mine (y.0, with_window mine i y.1)) (sym registered-window)

    pub register-kept : (k : LocalRefusal) → x.0 ≡ Err k → RegisteredAs (Err k) w
    register-kept k e =
        let left : x.1 ≡ before = ap (λ (y : Result ⊤ LocalRefusal × Window). y.1) registered-window ∙ window-left before mine.part key base len place rights k (sym (ap (λ (y : Result ⊤ LocalRefusal × Window). y.0) registered-window) ∙ e) in
        last-refused w d _ _ x.0 (with_window mine i x.1) register-asked k e
        (ap (λ (y : Window). with_window_of (rnic_at w) d i y) left ∙ window_same)

    pub register-shared : x.0 ≡ (Ok tt) → shared ≡ true → RegisteredAs (Err SharedByte) w
    register-shared e h = last-shared w d _ _ x.0 (with_window mine i x.1) register-asked e h

    pub register-done : (v : List ℕ) → x.0 ≡ (Ok tt) → shared ≡ false → rnic_at v ≡ with_window_of (rnic_at w) d i x.1 → RegisteredAs (Ok tt) v
    register-done v e h stored = last_done w d _ _ x.0 (with_window mine i x.1) register-asked v e h stored
