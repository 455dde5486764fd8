-- Two blocks that agree outside some words hold the same windows, streams and domains, but for those in which the words lie.
use Prim.Native.Nat.{ℕ, ◌+◌, ◌<◌, ◌≤◌}
use mathlib.Core.Bool.{Bool, true, false}
use mathlib.Core.List.{List}
use mathlib.Core.Logic.{◌⊎◌, inl, inr, ⊎_elim}
use mathlib.Core.Path.{◌≡◌, refl, ap}
use native.Mathlib.Omega.{arith}
use lib.Dec.{ltb}
use lib.ListN.{length}
use borrow.Author.Tests.{ltb-true, ltb-false}
use Rattle.wire.specs.Wire.{part, put}
use Rattle.block.specs.Layout.{domain_offset, window_offset, stream_offset, meter_offset, framing_offset, terminates_offset, sends_offset, reads_offset}
use Rattle.meter.specs.Words.{meter_of}
use Rattle.block.specs.Words.{part_in, window_in}
use Rattle.block.specs.Queue.{sends_in, reads_in, terminates_in}
use Rattle.block.specs.Stream.{phase_in, framing_in, loaded_phase, loaded_framing, loaded_terminates, loaded_sends, loaded_reads, loaded_stream}
use Rattle.block.specs.Device.{loaded_part, loaded_window, loaded_meter, loaded_domain}
use Rattle.block.proofs.Lists.{part-before, part-after, listed_same}

-- the m words from b lie before the k words from a, or after them
abbrev pub Apart : ℕ → ℕ → ℕ → ℕ → Type 0
Apart a k b m = (b + m ≤ a) ⊎ (a + k ≤ b)

-- the blocks agree on all words that lie apart from the k words from a
abbrev pub SameOutside : List ℕ → List ℕ → ℕ → ℕ → Type 0
SameOutside w v a k = (b m : ℕ) → Apart a k b m → part v b m ≡ part w b m

pub put_outside : (w : List ℕ) (at : ℕ) (xs : List ℕ) → at ≤ length w → SameOutside w (put w at xs) at (length xs)
put_outside w at xs h b m apart = ⊎_elim (λ x. part-before w at xs b m h x) (λ x. part-after w at xs b m h x) apart

-- blocks that agree outside some words agree outside more
pub wider : (w v : List ℕ) (a k b m : ℕ) → b ≤ a → a + k ≤ b + m → SameOutside w v a k → SameOutside w v b m
wider w v a k b m h h' same c n apart = same c n (⊎_elim (λ x. inl (omega arith)) (λ x. inr (omega arith)) apart)

-- of two numbers that differ one is less
pub differ : {A : Type 0} (m n : ℕ) → (m ≡ n → ⊥) → (m < n → A) → (n < m → A) → A
differ {A} m n ne f g = go (ltb m n) refl (ltb n m) refl
  where
    go : (s : Bool) → ltb m n ≡ s → (t : Bool) → ltb n m ≡ t → A
    go true e t e' = f (ltb-true m n e)
    go false e true e' = g (ltb-true n m e')
    go false e false e' = absurd (ne (omega (arith, ltb-false m n e, ltb-false n m e')))

module _ (w v : List ℕ) (a k : ℕ) (same : SameOutside w v a k) where
  -- a group that lies in words that are apart is apart
  kept : {A : Type 0} (decode : List ℕ → A) (b m at n : ℕ) → b ≤ at → at + n ≤ b + m → Apart a k b m → decode (part v at n) ≡ decode (part w at n)
  kept decode b m at n h h' apart = ap decode (same at n (⊎_elim (λ x. inl (omega arith)) (λ x. inr (omega arith)) apart))

  pub window-kept : (d i : ℕ) → Apart a k (window_offset d i) 3 → loaded_window v d i ≡ loaded_window w d i
  unfolding loaded_window
  window-kept d i apart = ap window_in (same (window_offset d i) 3 apart)

  pub stream-kept : (d j : ℕ) → Apart a k (stream_offset d j) 46 → loaded_stream v d j ≡ loaded_stream w d j
  unfolding loaded_stream loaded_phase loaded_framing loaded_terminates loaded_sends loaded_reads
  stream-kept d j apart =
      let at = stream_offset d j in
      let phase = kept phase_in at 46 at 1 (omega arith) (omega arith) apart in
      let framing = kept framing_in at 46 (framing_offset d j) 1 (omega arith) (omega arith) apart in
      let terminates = kept terminates_in at 46 (terminates_offset d j) 1 (omega arith) (omega arith) apart in
      let sends = kept sends_in at 46 (sends_offset d j) 10 (omega arith) (omega arith) apart in
      let reads = kept reads_in at 46 (reads_offset d j) 33 (omega arith) (omega arith) apart in
      λ i. record { phase = phase i; framing = framing i; sends = sends i; reads = reads i; terminates = terminates i }

  -- a domain's windows and streams
  part-kept : (d : ℕ) → Apart a k (domain_offset d) 236 → loaded_part v d ≡ loaded_part w d
  unfolding loaded_part
  part-kept d apart = kept part_in (domain_offset d) 236 (domain_offset d) 1 (omega arith) (omega arith) apart

  meter_kept : (d : ℕ) → Apart a k (domain_offset d) 236 → loaded_meter v d ≡ loaded_meter w d
  unfolding loaded_meter
  meter_kept d apart = kept meter_of (domain_offset d) 236 (meter_offset d) 3 (omega arith) (omega arith) apart

  pub domain-kept : (d : ℕ) → Apart a k (domain_offset d) 236 → loaded_domain v d ≡ loaded_domain w d
  unfolding loaded_domain
  domain-kept d apart =
      let own = part-kept d apart in
      let windows = listed_same 16 (loaded_window w d) (loaded_window v d) (λ i h. window-kept d i (⊎_elim (λ x. inl (omega arith)) (λ x. inr (omega arith)) apart)) in
      let streams = listed_same 4 (loaded_stream w d) (loaded_stream v d) (λ j h. stream-kept d j (⊎_elim (λ x. inl (omega arith)) (λ x. inr (omega arith)) apart)) in
      let meter = meter_kept d apart in
      λ i. record { part = own i; windows = windows i; streams = streams i; meter = meter i }
