-- What a call on a stream's groups makes of the device that a block of words holds: each group is the stream's own, a group that was
-- stored is exchanged, and a refusal leaves the device as it was.
use Prim.Native.Nat.{ℕ, ◌<◌}
use mathlib.Core.Bool.{Bool, true, false}
use mathlib.Core.List.{List}
use mathlib.Core.Path.{◌≡◌, sym, ap, ◌∙◌}
use lib.Dec.{eqb}
use lib.Seq.{set-get_or}
use Rattle.wire.specs.Wire.{pick}
use Rattle.rdmap.specs.Phase.{is_closed, readiness}
use Rattle.rdmap.specs.Read.{first_read, popped_reads}
use Rattle.rdmap.specs.Stream.{closed_stream, opened_stream, with_reads, opened, closed, posted_on, posted_when, taken_from, taken_when, no_stream}
use Rattle.rdmap.specs.declared.read.Reads.{Reads}
use Rattle.rdmap.specs.declared.stream.Stream.{Stream}
use Rattle.rnic.specs.Rnic.{no_domain, domain_at, with_domain}
use Rattle.rnic.specs.declared.Rnic.{Rnic}
use Rattle.block.specs.Stream.{loaded_phase, loaded_framing, loaded_terminates, loaded_sends, loaded_reads}
use Rattle.block.specs.Device.{rnic_at}
use Rattle.block.specs.Exchange.{stream_of, with_stream_of}
use Rattle.block.proofs.Stored.{groups_at}
use Rattle.std.specs.Prelude.{Err, Ok, Result, ⊤}
use Rattle.rdmap.specs.declared.read.ReadRequest.{ReadRequest}
use Rattle.rdmap.specs.declared.stream.Left.{Left}
use Rattle.wire.specs.declared.refusal.LocalRefusal.{LocalRefusal}
use Rattle.wire.specs.declared.refusal.LocalRefusal.TheVariants.{AlreadyOpen, NoReadWaits, NotOpen}

-- a domain's entry exchanged for itself, and a stream
pub domain-kept : (b : Rnic) (d : ℕ) → with_domain b d (domain_at b d) ≡ b
domain-kept b d = λ i. record { len = b.len; domains = set-get_or b.domains d no_domain i }

pub stream-kept : (b : Rnic) (d j : ℕ) → with_stream_of b d j (stream_of b d j) ≡ b
stream-kept b d j =
    (λ i. with_domain b d (record { part = (domain_at b d).part; windows = (domain_at b d).windows; streams = set-get_or (domain_at b d).streams j no_stream i; meter = (domain_at b d).meter }))
    ∙ domain-kept b d

module _ (w : List ℕ) (d j : ℕ) (hd : d < 4) (hj : j < 4) where
  -- the device, and the stream of the slot
  abbrev b : Rnic
  b = rnic_at w

  abbrev s : Stream
  s = stream_of b d j

  -- ---- its groups

  pub phase_of_lem : s.phase ≡ loaded_phase w d j
  phase_of_lem = ap (λ (x : Stream). x.phase) (groups_at w d hd j hj)

  pub framing_of : s.framing ≡ loaded_framing w d j
  framing_of = ap (λ (x : Stream). x.framing) (groups_at w d hd j hj)

  pub sends_of : s.sends ≡ loaded_sends w d j
  sends_of = ap (λ (x : Stream). x.sends) (groups_at w d hd j hj)

  pub reads_of : s.reads ≡ loaded_reads w d j
  reads_of = ap (λ (x : Stream). x.reads) (groups_at w d hd j hj)

  pub terminates_of : s.terminates ≡ loaded_terminates w d j
  terminates_of = ap (λ (x : Stream). x.terminates) (groups_at w d hd j hj)

  -- ---- opened

  opened_when : (crc t : Bool) → is_closed (loaded_phase w d j) ≡ t → opened s crc ≡ pick t (Ok tt, opened_stream crc) (Err AlreadyOpen, s)
  unfolding opened
  opened_when crc t e = ap (λ (u : Bool). pick u (Ok tt, opened_stream crc) (Err AlreadyOpen, s)) (ap is_closed phase_of_lem ∙ e)

  -- a block v holds the device with the stream that a call leaves, and the call answers so
  abbrev OpenedAs : Bool → Result ⊤ LocalRefusal → List ℕ → Type 0
  OpenedAs crc o v = (o ≡ (opened s crc).0) × (rnic_at v ≡ with_stream_of b d j (opened s crc).1)

  pub open_done : (crc : Bool) (v : List ℕ) → is_closed (loaded_phase w d j) ≡ true → rnic_at v ≡ with_stream_of b d j (opened_stream crc) → OpenedAs crc (Ok tt) v
  open_done crc v e is =
      let t = opened_when crc true e in
      (sym (ap (λ (x : Result ⊤ LocalRefusal × Stream). x.0) t), is ∙ sym (ap (λ (x : Result ⊤ LocalRefusal × Stream). with_stream_of b d j x.1) t))

  pub open_refused : (crc : Bool) → is_closed (loaded_phase w d j) ≡ false → OpenedAs crc (Err AlreadyOpen) w
  open_refused crc e =
      let t = opened_when crc false e in
      (sym (ap (λ (x : Result ⊤ LocalRefusal × Stream). x.0) t), sym (ap (λ (x : Result ⊤ LocalRefusal × Stream). with_stream_of b d j x.1) t ∙ stream-kept b d j))

  -- ---- closed

  closed_when : (t : Bool) → is_closed (loaded_phase w d j) ≡ t → closed s ≡ pick t (Err NotOpen, s) (Ok (record { buffers = (loaded_sends w d j).buffers.count; reads = (loaded_reads w d j).count }), closed_stream)
  unfolding closed
  closed_when t e = λ i. pick ((ap is_closed phase_of_lem ∙ e) i) (Err NotOpen, s) (Ok (record { buffers = (sends_of i).buffers.count; reads = (reads_of i).count }), closed_stream)

  abbrev ClosedAs : Result Left LocalRefusal → List ℕ → Type 0
  ClosedAs a v = (a ≡ (closed s).0) × (rnic_at v ≡ with_stream_of b d j (closed s).1)

  pub close_done : (v : List ℕ) → is_closed (loaded_phase w d j) ≡ false → rnic_at v ≡ with_stream_of b d j closed_stream → ClosedAs (Ok (record { buffers = (loaded_sends w d j).buffers.count; reads = (loaded_reads w d j).count })) v
  close_done v e is =
      let t = closed_when false e in
      (sym (ap (λ (x : Result Left LocalRefusal × Stream). x.0) t), is ∙ sym (ap (λ (x : Result Left LocalRefusal × Stream). with_stream_of b d j x.1) t))

  pub close_refused : is_closed (loaded_phase w d j) ≡ true → ClosedAs (Err NotOpen) w
  close_refused e =
      let t = closed_when true e in
      (sym (ap (λ (x : Result Left LocalRefusal × Stream). x.0) t), sym (ap (λ (x : Result Left LocalRefusal × Stream). with_stream_of b d j x.1) t ∙ stream-kept b d j))

  -- ---- a buffer posted

  pub posted_when_lem : (start len : ℕ) (r : Result ⊤ LocalRefusal) → readiness (loaded_phase w d j) ≡ r → posted_on s (domain_at b d).part start len ≡ posted_when s (domain_at b d).part start len r
  unfolding posted_on
  posted_when_lem start len r e = ap (posted_when s (domain_at b d).part start len) (ap readiness phase_of_lem ∙ e)

  -- ---- a read taken

  taken_when_lem : (r : Result ⊤ LocalRefusal) → readiness (loaded_phase w d j) ≡ r → taken_from s ≡ taken_when s r
  unfolding taken_from
  taken_when_lem r e = ap (taken_when s) (ap readiness phase_of_lem ∙ e)

  abbrev TakenAs : Result ReadRequest LocalRefusal → List ℕ → Type 0
  TakenAs a v = (a ≡ (taken_from s).0) × (rnic_at v ≡ with_stream_of b d j (taken_from s).1)

  left : (k : LocalRefusal) → taken_from s ≡ (Err k, s) → TakenAs (Err k) w
  left k t = (sym (ap (λ (x : Result ReadRequest LocalRefusal × Stream). x.0) t), sym (ap (λ (x : Result ReadRequest LocalRefusal × Stream). with_stream_of b d j x.1) t ∙ stream-kept b d j))

  pub take-refused : (k : LocalRefusal) → readiness (loaded_phase w d j) ≡ Err k → TakenAs (Err k) w
  take-refused k e = left k (taken_when_lem (Err k) e)

  counted : (t : Bool) → readiness (loaded_phase w d j) ≡ (Ok tt) → eqb (loaded_reads w d j).count 0 ≡ t → taken_from s ≡ pick t (Err NoReadWaits, s) (Ok (first_read (loaded_reads w d j)), with_reads s (popped_reads (loaded_reads w d j)))
  counted t e n =
      taken_when_lem (Ok tt) e
      ∙ (λ i. pick ((ap (λ (x : Reads). eqb x.count 0) reads_of ∙ n) i) (Err NoReadWaits, s) (Ok (first_read (reads_of i)), with_reads s (popped_reads (reads_of i))))

  pub take_none : readiness (loaded_phase w d j) ≡ (Ok tt) → eqb (loaded_reads w d j).count 0 ≡ true → TakenAs (Err NoReadWaits) w
  take_none e n = left NoReadWaits (counted true e n)

  pub take_first : (v : List ℕ) → readiness (loaded_phase w d j) ≡ (Ok tt) → eqb (loaded_reads w d j).count 0 ≡ false → rnic_at v ≡ with_stream_of b d j (with_reads s (popped_reads (loaded_reads w d j))) → TakenAs (Ok (first_read (loaded_reads w d j))) v
  take_first v e n stored =
      let t = counted false e n in
      (sym (ap (λ (x : Result ReadRequest LocalRefusal × Stream). x.0) t), stored ∙ sym (ap (λ (x : Result ReadRequest LocalRefusal × Stream). with_stream_of b d j x.1) t))
