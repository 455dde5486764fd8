-- A block of zeros holds the device that a refused opening gives: every group of zeros is the empty one.
use Prim.Native.Nat.{ℕ, ◌+◌, ◌-◌, ◌<◌, ◌≤◌}
use mathlib.Core.List.{List, [], ◌∷◌, ◌++◌, append_assoc, append-nil}
use mathlib.Core.Bool.{false}
use mathlib.Core.Path.{◌≡◌, sym, ap, ◌∙◌}
use native.Mathlib.Omega.{arith}
use lib.ListN.{get_or, take, replicate, length-replicate, replicate-append-replicate}
use lib.Seq.{take_at, drop_at}
use Rattle.wire.specs.Wire.{part}
use Rattle.memory.specs.Window.{no_window}
use Rattle.rdmap.specs.Stream.{closed_stream}
use Rattle.meter.specs.Gauge.{new_meter}
use Rattle.meter.proofs.Cases.{zero}
use Rattle.meter.specs.Words.{level_at, meter_at, meter_of}
use Rattle.domain.specs.Domain.{new_domain}
use Rattle.rnic.specs.Rnic.{empty_rnic}
use Rattle.block.specs.Layout.{domain_offset, window_offset, stream_offset, meter_offset, framing_offset, terminates_offset, sends_offset, reads_offset}
use Rattle.block.specs.Words.{lower_half, part_in, window_in}
use Rattle.block.specs.Queue.{sends_in, reads_in, terminates_in}
use Rattle.block.specs.Stream.{phase_in, framing_in, loaded_phase, loaded_framing, loaded_terminates, loaded_sends, loaded_reads, loaded_stream}
use Rattle.block.specs.Device.{loaded_len, loaded_part, loaded_window, loaded_meter, loaded_domain, rnic_at}
use Rattle.block.proofs.Lists.{listed_same}

-- a part of n zeros before other words
part-zeros : (l : List ℕ) (n b m : ℕ) → b + m ≤ n → part (replicate n 0 ++ l) b m ≡ replicate m 0
part-zeros l n b m h =
    let k = n - (b + m) in
    let rest = replicate k 0 ++ l in
    let e : n ≡ b + (m + k) = omega arith in
    let split : replicate n 0 ++ l ≡ replicate b 0 ++ (replicate m 0 ++ rest) =
    ap (λ (x : ℕ). replicate x 0 ++ l) e
    ∙ ap (λ (x : List ℕ). x ++ l) (sym (replicate-append-replicate b (m + k) 0) ∙ ap (λ (x : List ℕ). replicate b 0 ++ x) (sym (replicate-append-replicate m k 0)))
    ∙ append_assoc (replicate b 0) (replicate m 0 ++ replicate k 0) l
    ∙ ap (λ (x : List ℕ). replicate b 0 ++ x) (append_assoc (replicate m 0) (replicate k 0) l)
    in
    ap (λ (x : List ℕ). part x b m) split
    ∙ ap (λ (x : List ℕ). take m x) (drop_at (replicate b 0) (replicate m 0 ++ rest) b (length-replicate b 0))
    ∙ take_at (replicate m 0) rest m (length-replicate m 0)

pub zeros-all : (v : List ℕ) (n : ℕ) → v ≡ replicate n 0 → (b m : ℕ) → b + m ≤ n → part v b m ≡ replicate m 0
zeros-all v n is b m h = ap (λ (x : List ℕ). part x b m) (is ∙ sym (append-nil (replicate n 0))) ∙ part-zeros [] n b m h

-- a meter of zeros is a new one
meter_zeros : meter_of (0 ∷ 0 ∷ 0 ∷ []) ≡ new_meter
unfolding meter_at level_at
meter_zeros i = record { count = 0; ticked = false; gauge = record { level = zero i; peak = zero i } }

module _ (v : List ℕ) (zeros : (b m : ℕ) → b + m ≤ 945 → part v b m ≡ replicate m 0) where
  stream-zeros : (d j : ℕ) → d < 4 → j < 4 → loaded_stream v d j ≡ closed_stream
  unfolding loaded_stream loaded_phase loaded_framing loaded_terminates loaded_sends loaded_reads
  stream-zeros d j hd hj =
      let phase = ap phase_in (zeros (stream_offset d j) 1 (omega arith)) in
      let framing = ap framing_in (zeros (framing_offset d j) 1 (omega arith)) in
      let terminates = ap terminates_in (zeros (terminates_offset d j) 1 (omega arith)) in
      let sends = ap sends_in (zeros (sends_offset d j) 10 (omega arith)) in
      let reads = ap reads_in (zeros (reads_offset d j) 33 (omega arith)) in
      λ i. record { phase = phase i; framing = framing i; sends = sends i; reads = reads i; terminates = terminates i }

  window-zeros : (d i : ℕ) → d < 4 → i < 16 → loaded_window v d i ≡ no_window
  unfolding loaded_window
  window-zeros d i hd hi = ap window_in (zeros (window_offset d i) 3 (omega arith))

  domain-zeros : (d : ℕ) → d < 4 → loaded_domain v d ≡ new_domain 0 0
  unfolding loaded_domain loaded_part loaded_meter
  domain-zeros d hd =
      let own = ap part_in (zeros (domain_offset d) 1 (omega arith)) in
      let windows = listed_same 16 (λ i. no_window) (loaded_window v d) (λ i hi. window-zeros d i hd hi) in
      let streams = listed_same 4 (λ j. closed_stream) (loaded_stream v d) (λ j hj. stream-zeros d j hd hj) in
      let meter = ap meter_of (zeros (meter_offset d) 3 (omega arith)) ∙ meter_zeros in
      λ i. record { part = own i; windows = windows i; streams = streams i; meter = meter i }

  pub rnic-zeros : rnic_at v ≡ empty_rnic
  unfolding rnic_at loaded_len
  rnic-zeros =
      let len = ap (λ (g : List ℕ). lower_half (get_or g 0 0)) (zeros 0 1 (omega arith)) in
      let domains = listed_same 4 (λ d. new_domain 0 0) (loaded_domain v) (λ d hd. domain-zeros d hd) in
      λ i. record { len = len i; domains = domains i }
