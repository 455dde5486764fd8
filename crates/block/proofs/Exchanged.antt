-- Two blocks that agree outside a group hold devices that differ in that group alone: the stream's group, the domain's stream, window or part, and the device's domain.
use Prim.Native.Nat.{ℕ, ◌<◌}
use mathlib.Core.List.{List}
use mathlib.Core.Logic.{inl, inr}
use mathlib.Core.Path.{◌≡◌, refl, ap}
use native.Mathlib.Omega.{arith}
use lib.ListN.{get_or}
use Rattle.rdmap.specs.Stream.{in_phase, with_sends, with_reads, with_framing}
use Rattle.meter.specs.Words.{meter_of}
use Rattle.domain.specs.Domain.{with_stream, with_meter}
use Rattle.rnic.specs.Rnic.{with_domain}
use Rattle.block.specs.Layout.{domain_offset, window_offset, stream_offset, meter_offset, framing_offset, terminates_offset, sends_offset, reads_offset}
use Rattle.block.specs.Words.{lower_half, part_in}
use Rattle.block.specs.Queue.{sends_in, reads_in, terminates_in}
use Rattle.block.specs.Stream.{phase_in, framing_in, loaded_phase, loaded_framing, loaded_terminates, loaded_sends, loaded_reads, loaded_stream}
use Rattle.block.specs.Device.{loaded_len, loaded_part, loaded_window, loaded_meter, loaded_domain, rnic_at}
use Rattle.block.specs.Exchange.{with_terminates, with_part, with_window}
use Rattle.block.proofs.Lists.{listed_same, listed-set}
use Rattle.block.proofs.Outside.{SameOutside, differ, window-kept, stream-kept, domain-kept}

module _ (w v : List ℕ) where
  -- ---- in a stream

  module _ (d j : ℕ) where
    pub phase_alone : SameOutside w v (stream_offset d j) 1 → loaded_stream v d j ≡ in_phase (loaded_stream w d j) (loaded_phase v d j)
    unfolding loaded_stream loaded_phase loaded_framing loaded_terminates loaded_sends loaded_reads
    phase_alone same =
        let framing = ap framing_in (same (framing_offset d j) 1 (inr (omega arith))) in
        let terminates = ap terminates_in (same (terminates_offset d j) 1 (inr (omega arith))) in
        let sends = ap sends_in (same (sends_offset d j) 10 (inr (omega arith))) in
        let reads = ap reads_in (same (reads_offset d j) 33 (inr (omega arith))) in
        λ i. record { phase = loaded_phase v d j; framing = framing i; sends = sends i; reads = reads i; terminates = terminates i }

    pub framing_alone : SameOutside w v (framing_offset d j) 1 → loaded_stream v d j ≡ with_framing (loaded_stream w d j) (loaded_framing v d j)
    unfolding loaded_stream loaded_phase loaded_framing loaded_terminates loaded_sends loaded_reads
    framing_alone same =
        let phase = ap phase_in (same (stream_offset d j) 1 (inl (omega arith))) in
        let terminates = ap terminates_in (same (terminates_offset d j) 1 (inr (omega arith))) in
        let sends = ap sends_in (same (sends_offset d j) 10 (inr (omega arith))) in
        let reads = ap reads_in (same (reads_offset d j) 33 (inr (omega arith))) in
        λ i. record { phase = phase i; framing = loaded_framing v d j; sends = sends i; reads = reads i; terminates = terminates i }

    pub terminates_alone : SameOutside w v (terminates_offset d j) 1 → loaded_stream v d j ≡ with_terminates (loaded_stream w d j) (loaded_terminates v d j)
    unfolding loaded_stream loaded_phase loaded_framing loaded_terminates loaded_sends loaded_reads
    terminates_alone same =
        let phase = ap phase_in (same (stream_offset d j) 1 (inl (omega arith))) in
        let framing = ap framing_in (same (framing_offset d j) 1 (inl (omega arith))) in
        let sends = ap sends_in (same (sends_offset d j) 10 (inr (omega arith))) in
        let reads = ap reads_in (same (reads_offset d j) 33 (inr (omega arith))) in
        λ i. record { phase = phase i; framing = framing i; sends = sends i; reads = reads i; terminates = loaded_terminates v d j }

    pub sends_alone : SameOutside w v (sends_offset d j) 10 → loaded_stream v d j ≡ with_sends (loaded_stream w d j) (loaded_sends v d j)
    unfolding loaded_stream loaded_phase loaded_framing loaded_terminates loaded_sends loaded_reads
    sends_alone same =
        let phase = ap phase_in (same (stream_offset d j) 1 (inl (omega arith))) in
        let framing = ap framing_in (same (framing_offset d j) 1 (inl (omega arith))) in
        let terminates = ap terminates_in (same (terminates_offset d j) 1 (inl (omega arith))) in
        let reads = ap reads_in (same (reads_offset d j) 33 (inr (omega arith))) in
        λ i. record { phase = phase i; framing = framing i; sends = loaded_sends v d j; reads = reads i; terminates = terminates i }

    pub reads_alone : SameOutside w v (reads_offset d j) 33 → loaded_stream v d j ≡ with_reads (loaded_stream w d j) (loaded_reads v d j)
    unfolding loaded_stream loaded_phase loaded_framing loaded_terminates loaded_sends loaded_reads
    reads_alone same =
        let phase = ap phase_in (same (stream_offset d j) 1 (inl (omega arith))) in
        let framing = ap framing_in (same (framing_offset d j) 1 (inl (omega arith))) in
        let terminates = ap terminates_in (same (terminates_offset d j) 1 (inl (omega arith))) in
        let sends = ap sends_in (same (sends_offset d j) 10 (inl (omega arith))) in
        λ i. record { phase = phase i; framing = framing i; sends = sends i; reads = loaded_reads v d j; terminates = terminates i }

  -- ---- in a domain

  module _ (d : ℕ) where
    pub part_alone : SameOutside w v (domain_offset d) 1 → loaded_domain v d ≡ with_part (loaded_domain w d) (loaded_part v d)
    unfolding loaded_domain loaded_meter
    part_alone same =
        let windows = listed_same 16 (loaded_window w d) (loaded_window v d) (λ i h. window-kept w v (domain_offset d) 1 same d i (inr (omega arith))) in
        let streams = listed_same 4 (loaded_stream w d) (loaded_stream v d) (λ j h. stream-kept w v (domain_offset d) 1 same d j (inr (omega arith))) in
        let meter = ap meter_of (same (meter_offset d) 3 (inr (omega arith))) in
        λ i. record { part = loaded_part v d; windows = windows i; streams = streams i; meter = meter i }

    pub window_alone : (n : ℕ) → n < 16 → SameOutside w v (window_offset d n) 3 → loaded_domain v d ≡ with_window (loaded_domain w d) n (loaded_window v d n)
    unfolding loaded_domain loaded_part loaded_meter
    window_alone n h same =
        let own = ap part_in (same (domain_offset d) 1 (inl (omega arith))) in
        let windows = listed-set 16 n (loaded_window w d) (loaded_window v d) (loaded_window v d n) refl (λ m k ne. window-kept w v (window_offset d n) 3 same d m (differ m n ne (λ x. inl (omega arith)) (λ x. inr (omega arith)))) in
        let streams = listed_same 4 (loaded_stream w d) (loaded_stream v d) (λ j k. stream-kept w v (window_offset d n) 3 same d j (inr (omega arith))) in
        let meter = ap meter_of (same (meter_offset d) 3 (inr (omega arith))) in
        λ i. record { part = own i; windows = windows i; streams = streams i; meter = meter i }

    pub stream_alone : (n : ℕ) → n < 4 → SameOutside w v (stream_offset d n) 46 → loaded_domain v d ≡ with_stream (loaded_domain w d) n (loaded_stream v d n)
    unfolding loaded_domain loaded_part loaded_meter
    stream_alone n h same =
        let own = ap part_in (same (domain_offset d) 1 (inl (omega arith))) in
        let windows = listed_same 16 (loaded_window w d) (loaded_window v d) (λ i k. window-kept w v (stream_offset d n) 46 same d i (inl (omega arith))) in
        let streams = listed-set 4 n (loaded_stream w d) (loaded_stream v d) (loaded_stream v d n) refl (λ m k ne. stream-kept w v (stream_offset d n) 46 same d m (differ m n ne (λ x. inl (omega arith)) (λ x. inr (omega arith)))) in
        let meter = ap meter_of (same (meter_offset d) 3 (inr (omega arith))) in
        λ i. record { part = own i; windows = windows i; streams = streams i; meter = meter i }

    pub meter_alone : SameOutside w v (meter_offset d) 3 → loaded_domain v d ≡ with_meter (loaded_domain w d) (loaded_meter v d)
    unfolding loaded_domain loaded_part
    meter_alone same =
        let own = ap part_in (same (domain_offset d) 1 (inl (omega arith))) in
        let windows = listed_same 16 (loaded_window w d) (loaded_window v d) (λ i h. window-kept w v (meter_offset d) 3 same d i (inl (omega arith))) in
        let streams = listed_same 4 (loaded_stream w d) (loaded_stream v d) (λ j h. stream-kept w v (meter_offset d) 3 same d j (inl (omega arith))) in
        λ i. record { part = own i; windows = windows i; streams = streams i; meter = loaded_meter v d }

  -- ---- in the device

  pub domain_alone : (n : ℕ) → n < 4 → SameOutside w v (domain_offset n) 236 → rnic_at v ≡ with_domain (rnic_at w) n (loaded_domain v n)
  unfolding rnic_at loaded_len
  domain_alone n h same =
      let len = ap (λ (g : List ℕ). lower_half (get_or g 0 0)) (same 0 1 (inl (omega arith))) in
      let domains = listed-set 4 n (loaded_domain w) (loaded_domain v) (loaded_domain v n) refl (λ m k ne. domain-kept w v (domain_offset n) 236 same m (differ m n ne (λ x. inl (omega arith)) (λ x. inr (omega arith)))) in
      λ i. record { len = len i; domains = domains i }

  pub len_alone : SameOutside w v 0 1 → rnic_at v ≡ record { len = loaded_len v; domains = (rnic_at w).domains }
  unfolding rnic_at
  len_alone same =
      let domains = listed_same 4 (loaded_domain w) (loaded_domain v) (λ m k. domain-kept w v 0 1 same m (inr (omega arith))) in
      λ i. record { len = loaded_len v; domains = domains i }
