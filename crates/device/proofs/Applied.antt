-- What a verdict makes of the device that a block of words holds: each arm of `parts_applied`, of the groups that were stored.
use Prim.Native.Nat.{ℕ, ◌<◌}
use mathlib.Core.Bool.{Bool, true, false}
use mathlib.Core.List.{List}
use mathlib.Core.Path.{◌≡◌, refl, sym, ap, subst, ◌∙◌}
use native.Mathlib.Omega.{arith}
use lib.Dec.{eqb}
use lib.ListN.{length, set}
use Rattle.wire.specs.Wire.{pick}
use lib.Seq.{get_or-set_same, set-set}
use Rattle.ddp.specs.declared.refusal.Refusal.{Refusal}
use Rattle.rdmap.specs.Phase.{phase_of}
use Rattle.rdmap.specs.Read.{queued_reads}
use Rattle.rdmap.specs.Sends.{sending_sends, sent_sends}
use Rattle.rdmap.specs.Message.{opcode_of, controlled, after, may_write, write_verdict}
use Rattle.rdmap.specs.Refusal.{no_write_right}
use Rattle.rdmap.specs.Stream.{in_phase, with_sends, with_reads, ended_by, no_stream}
use Rattle.rdmap.specs.Terminates.{risen_terminates}
use Rattle.memory.specs.declared.window.Window.{Window}
use Rattle.ddp.specs.Tagged.{tagged_of}
use Rattle.ddp.specs.declared.header.TaggedHeader.{TaggedHeader}
use Rattle.rdmap.specs.declared.message.Verdict.{Verdict}
use Rattle.rdmap.specs.declared.message.Verdict.TheVariants.{Nothing, Write, SendMore, SendLast, Read, Terminate}
use Rattle.rdmap.specs.declared.read.ReadRequest.{ReadRequest}
use Rattle.rdmap.specs.declared.read.Reads.{Reads}
use Rattle.rdmap.specs.declared.sends.Sends.{Sends}
use Rattle.rdmap.specs.declared.stream.Stream.{Stream}
use Rattle.rdmap.specs.declared.terminates.Terminates.{Terminates}
use Rattle.ddp.specs.declared.segment.SegmentRead.{SegmentRead}
use Rattle.domain.specs.Domain.{stream_at, with_stream, with_windows, with_meter, segment_count, meter_by, lifted}
use Rattle.arrival.specs.Parts.{killed, sent_event, parts_applied, placed_from, applied_bytes, tagged_verdict}
use Rattle.arrival.specs.declared.Answer.{Answer}
use Rattle.arrival.specs.declared.Answer.TheVariants.{Taken, Ended}
use Rattle.domain.specs.declared.Domain.{Domain}
use Rattle.arrival.specs.declared.parts.PartsReceived.{PartsReceived}
use Rattle.arrival.specs.declared.Event.TheVariants.{Terminated}
use Rattle.rnic.specs.Rnic.{no_domain, domain_at, with_domain}
use Rattle.rnic.specs.declared.Rnic.{Rnic}
use Rattle.block.specs.Stream.{loaded_sends, loaded_reads, loaded_terminates}
use Rattle.block.specs.Device.{loaded_domain, rnic_at}
use Rattle.block.specs.Exchange.{stream_of, with_stream_of, with_terminates}
use Rattle.block.proofs.Stored.{domain_at_lem}
use Rattle.device.specs.Lifted.{lifted_of, counted_of, OfTagged}
use Rattle.slots.proofs.Slots.{stream-kept, sends_of, reads_of, terminates_of}
use Rattle.std.specs.Prelude.{Err, None, Ok, Option, Result, Some, ⊤}
use Rattle.wire.specs.declared.refusal.LocalRefusal.{LocalRefusal}

-- ---- two changes, one after the other

four_domains : (w : List ℕ) → length (rnic_at w).domains ≡ 4
unfolding rnic_at
four_domains w = refl

pub four_streams : (w : List ℕ) (d : ℕ) → d < 4 → length (domain_at (rnic_at w) d).streams ≡ 4
unfolding loaded_domain
four_streams w d hd = ap (λ (x : Domain). length x.streams) (domain_at_lem w d hd)

module _ (w v : List ℕ) (d : ℕ) (hd : d < 4) (x : Domain) (first : rnic_at v ≡ with_domain (rnic_at w) d x) where
  -- the entry that was put is there, and another one put over it takes its place
  pub entry_put : domain_at (rnic_at v) d ≡ x
  entry_put = ap (λ (b : Rnic). domain_at b d) first ∙ get_or-set_same (rnic_at w).domains d x no_domain (omega (arith, four_domains w))

  pub entry_again : (f : Domain → Domain) → with_domain (rnic_at v) d (f (domain_at (rnic_at v) d)) ≡ with_domain (rnic_at w) d (f x)
  entry_again f =
      (λ i. with_domain (first i) d (f (entry_put i)))
      ∙ (λ i. record { len = (rnic_at w).len; domains = set-set (rnic_at w).domains d x (f x) i })

module _ (w v : List ℕ) (d j : ℕ) (hd : d < 4) (hj : j < 4) (x : Stream) (first : rnic_at v ≡ with_stream_of (rnic_at w) d j x) where
  pub stream-again : (f : Stream → Stream) → with_stream_of (rnic_at v) d j (f (stream_of (rnic_at v) d j)) ≡ with_stream_of (rnic_at w) d j (f x)
  stream-again f =
      let own = domain_at (rnic_at w) d in
      let put : stream_at (with_stream own j x) j ≡ x = get_or-set_same own.streams j x no_stream (omega (arith, four_streams w d hd)) in
      entry_again w v d hd (with_stream own j x) first (λ e. with_stream e j (f (stream_at e j)))
      ∙ ap (λ (s : List Stream). with_domain (rnic_at w) d (record { part = own.part; windows = own.windows; streams = s; meter = own.meter }))
      (set-set own.streams j x (f (stream_at (with_stream own j x) j)) ∙ ap (λ (s : Stream). set own.streams j (f s)) put)

-- ---- a verdict

module _ (w : List ℕ) (d j : ℕ) (hd : d < 4) (hj : j < 4) (total from : ℕ) (payload mem : List ℕ) where
  abbrev b : Rnic
  b = rnic_at w

  abbrev s : Stream
  s = stream_of b d j

  -- a is the answer to a verdict, a block v holds the device after it, and after are the domain's bytes
  abbrev pub AppliedAs : Result Verdict Refusal → Result Answer LocalRefusal → List ℕ → List ℕ → Type 0
  AppliedAs verdict a v after =
      (a ≡ (parts_applied s total verdict).answer)
      × (rnic_at v ≡ lifted_of b d j (parts_applied s total verdict))
      × (after ≡ applied_bytes from verdict payload mem)

  -- of a verdict that is another's name
  pub told : {x y : Result Verdict Refusal} {a : Result Answer LocalRefusal} {after : List ℕ} (v : List ℕ) → y ≡ x → AppliedAs x a v after → AppliedAs y a v after
  told {a = a} {after = after} v e h = subst (λ (z : Result Verdict Refusal). AppliedAs z a v after) (sym e) h

  pub refused : (r : Refusal) (v : List ℕ) → rnic_at v ≡ with_stream_of b d j (ended_by s r) → AppliedAs (Err r) (Ok (Ended r)) v mem
  unfolding parts_applied applied_bytes
  refused r v is = (refl, is, refl)

  pub nothing : AppliedAs (Ok Nothing) (Ok (Taken total None)) w mem
  unfolding parts_applied applied_bytes
  nothing = (refl, sym (stream-kept b d j), refl)

  pub written : (at : ℕ) → AppliedAs (Ok (Write at)) (Ok (Taken total None)) w (placed_from from at payload mem)
  unfolding parts_applied applied_bytes
  written at = (refl, sym (stream-kept b d j), refl)

  pub sent_more : (at opcode taken : ℕ) (v : List ℕ) → rnic_at v ≡ with_stream_of b d j (with_sends s (sending_sends (loaded_sends w d j) opcode taken)) → AppliedAs (Ok (SendMore at opcode taken)) (Ok (Taken total None)) v (placed_from from at payload mem)
  unfolding parts_applied applied_bytes
  sent_more at opcode taken v is =
      (refl, is ∙ ap (λ (q : Sends). with_stream_of b d j (with_sends s (sending_sends q opcode taken))) (sym (sends_of w d j hd hj)), refl)

  pub sent-last : (at opcode start len : ℕ) (inv : Option (ℕ × ℕ)) (u v : List ℕ) → rnic_at u ≡ with_stream_of b d j (with_sends s (sent_sends (loaded_sends w d j))) → rnic_at v ≡ with_domain (rnic_at u) d (with_windows (domain_at (rnic_at u) d) (killed inv (domain_at (rnic_at u) d).windows)) → AppliedAs (Ok (SendLast at opcode start len inv)) (Ok (Taken total (sent_event start len opcode inv))) v (placed_from from at payload mem)
  unfolding parts_applied applied_bytes
  sent-last at opcode start len inv u v is then =
      let own = domain_at b d in
      let first = is ∙ ap (λ (q : Sends). with_stream_of b d j (with_sends s (sent_sends q))) (sym (sends_of w d j hd hj)) in
      (refl, then ∙ entry_again w u d hd (with_stream own j (with_sends s (sent_sends s.sends))) first (λ e. with_windows e (killed inv e.windows)), refl)

  pub read_queued : (r : ReadRequest) (v : List ℕ) → rnic_at v ≡ with_stream_of b d j (with_reads s (queued_reads (loaded_reads w d j) r)) → AppliedAs (Ok (Read r)) (Ok (Taken total None)) v mem
  unfolding parts_applied applied_bytes
  read_queued r v is =
      (refl, is ∙ ap (λ (q : Reads). with_stream_of b d j (with_reads s (queued_reads q r))) (sym (reads_of w d j hd hj)), refl)

  pub terminated : (layer etype code : ℕ) (u v : List ℕ) → rnic_at u ≡ with_stream_of b d j (in_phase s (phase_of 3)) → rnic_at v ≡ with_stream_of (rnic_at u) d j (with_terminates (stream_of (rnic_at u) d j) (risen_terminates (loaded_terminates w d j))) → AppliedAs (Ok (Terminate layer etype code)) (Ok (Taken total (Some (Terminated layer etype code)))) v mem
  unfolding parts_applied applied_bytes
  terminated layer etype code u v is then = (
    refl,
    then
        ∙ stream-again w u d j hd hj (in_phase s (phase_of 3)) is (λ x. with_terminates x (risen_terminates (loaded_terminates w d j)))
        ∙ ap (λ (q : Terminates). with_stream_of b d j (with_terminates (in_phase s (phase_of 3)) (risen_terminates q))) (sym (terminates_of w d j hd hj)),
    refl,
  )

-- ---- what a taken segment placed is counted

pub counted-then :
    (w v u : List ℕ) (d j : ℕ) → d < 4 → (r : PartsReceived) (x : Result SegmentRead Refusal) → rnic_at v ≡ lifted_of (rnic_at w) d j r →
    (a : Result Answer LocalRefusal) → a ≡ r.answer → (placed : ℕ) → placed ≡ segment_count x →
    rnic_at u ≡ with_domain (rnic_at v) d (with_meter (domain_at (rnic_at v) d) (meter_by a placed (domain_at (rnic_at v) d).meter)) →
    rnic_at u ≡ counted_of (rnic_at w) d j x r
counted-then w v u d j hd r x is a e placed n then =
    then
    ∙ entry_again w v d hd (lifted (domain_at (rnic_at w) d) j r).1 is (λ y. with_meter y (meter_by a placed y.meter))
    ∙ (λ i. with_domain (rnic_at w) d (with_meter (lifted (domain_at (rnic_at w) d) j r).1 (meter_by (e i) (n i) (domain_at (rnic_at w) d).meter)))

-- and where the stream ended nothing is
pub ended_uncounted : (b : Rnic) (d j : ℕ) (r : PartsReceived) (x : Result SegmentRead Refusal) (q : Refusal) → Ok (Ended q) ≡ r.answer → lifted_of b d j r ≡ counted_of b d j x r
ended_uncounted b d j r x q e i = with_domain b d (with_meter (lifted (domain_at b d) j r).1 (meter_by (e i) (segment_count x) (domain_at b d).meter))

-- ---- a tagged segment is refused, empty or written

pub of_tagged : (w : Window) (number : ℕ) (h : TaggedHeader) (len : ℕ) → OfTagged (tagged_verdict w number h len)
of_tagged w number h len = go (tagged_of w number h.stag h.to len)
  where
    written_or_not : (t : Bool) (place : ℕ) → OfTagged (pick t (Ok (Write place)) (Err no_write_right))
    written_or_not true place = tt
    written_or_not false place = tt

    unless : (c : Result ⊤ Refusal) (v : Result Verdict Refusal) → OfTagged v → OfTagged (after c v)
    unless (Ok tt) v k = k
    unless (Err r) v k = tt

    go : (t : Result (Option ℕ) Refusal) → OfTagged (write_verdict w h.control t)
    go (Err r) = tt
    go (Ok None) = unless (controlled h.control (eqb (opcode_of h.control) 0)) (Ok Nothing) tt
    go (Ok (Some place)) = unless (controlled h.control (eqb (opcode_of h.control) 0)) _ (written_or_not (may_write w) place)

-- and of no other verdict
pub no_other : (v : Verdict) → OfTagged (Ok v) → (v ≡ Nothing → ⊥) → ((at : ℕ) → v ≡ Write at → ⊥) → ⊥
no_other Nothing k n w = n refl
no_other (Write at) k n w = w at refl
no_other (SendMore at opcode taken) k n w = k
no_other (SendLast at opcode start len inv) k n w = k
no_other (Read r) k n w = k
no_other (Terminate layer etype code) k n w = k
