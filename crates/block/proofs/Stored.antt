-- A group that is stored changes that group of the device and nothing else. Each law takes the two facts that the group's store function ensures.
use Prim.Native.Nat.{ℕ, ◌+◌, ◌<◌, ◌≤◌}
use mathlib.Core.List.{List, [], ◌∷◌}
use mathlib.Core.Path.{◌≡◌, refl, sym, ap, ◌∙◌}
use native.Mathlib.Omega.{arith}
use lib.ListN.{length, get_or}
use Rattle.wire.specs.Wire.{part, put}
use Rattle.memory.specs.Window.{no_window, window_at}
use Rattle.memory.specs.declared.part.Part.{Part}
use Rattle.memory.specs.declared.window.Window.{Window}
use Rattle.rdmap.specs.Stream.{in_phase, with_sends, with_reads, with_framing, no_stream}
use Rattle.rdmap.specs.declared.framing.Framing.{Framing}
use Rattle.rdmap.specs.declared.phase.Phase.{Phase}
use Rattle.rdmap.specs.declared.read.Reads.{Reads}
use Rattle.rdmap.specs.declared.sends.Sends.{Sends}
use Rattle.rdmap.specs.declared.stream.Stream.{Stream}
use Rattle.rdmap.specs.declared.terminates.Terminates.{Terminates}
use Rattle.meter.specs.Words.{meter_words, counted_word}
use Rattle.meter.specs.declared.Meter.{Meter}
use Rattle.domain.specs.Domain.{stream_at, with_stream, with_meter}
use Rattle.domain.specs.declared.Domain.{Domain}
use Rattle.rnic.specs.Rnic.{no_domain, domain_at, with_domain}
use Rattle.block.specs.Layout.{block_words, domain_offset, window_offset, stream_offset, meter_offset, framing_offset, terminates_offset, sends_offset, reads_offset}
use Rattle.block.specs.Words.{part_words, window_words}
use Rattle.block.specs.Queue.{sends_words, reads_words, terminates_words}
use Rattle.block.specs.Stream.{phase_words, framing_words, loaded_phase, loaded_framing, loaded_terminates, loaded_sends, loaded_reads, loaded_stream, stored_phase, stored_framing, stored_terminates, stored_sends, stored_reads, stored_stream, stream_words}
use Rattle.block.specs.Device.{loaded_len, loaded_part, loaded_window, loaded_meter, loaded_domain, rnic_at, stored_len, stored_part, stored_window, stored_meter, stored_count}
use Rattle.block.specs.Exchange.{with_terminates, with_part, with_window, stream_of, with_stream_of}
use Rattle.block.proofs.Lists.{listed_at}
use Rattle.block.proofs.Outside.{SameOutside, put_outside, wider}
use Rattle.block.proofs.Exchanged.{phase_alone, framing_alone, terminates_alone, sends_alone, reads_alone, part_alone, window_alone, stream_alone, meter_alone, domain_alone, len_alone}

-- ---- what is loaded is what the device has

pub len_at : (w : List ℕ) → (rnic_at w).len ≡ loaded_len w
unfolding rnic_at
len_at w = refl

module _ (w : List ℕ) (d : ℕ) (hd : d < 4) where
  pub domain_at_lem : domain_at (rnic_at w) d ≡ loaded_domain w d
  unfolding rnic_at
  domain_at_lem = listed_at 4 d (loaded_domain w) no_domain hd

  pub part_at : (domain_at (rnic_at w) d).part ≡ loaded_part w d
  unfolding loaded_domain
  part_at = ap (λ (x : Domain). x.part) domain_at_lem

  pub window_at_lem : (i : ℕ) → i < 16 → window_at (domain_at (rnic_at w) d).windows i ≡ loaded_window w d i
  unfolding loaded_domain
  window_at_lem i hi = ap (λ (x : Domain). window_at x.windows i) domain_at_lem ∙ listed_at 16 i (loaded_window w d) no_window hi

  pub stream_at_lem : (j : ℕ) → j < 4 → stream_of (rnic_at w) d j ≡ loaded_stream w d j
  unfolding loaded_domain
  stream_at_lem j hj = ap (λ (x : Domain). stream_at x j) domain_at_lem ∙ listed_at 4 j (loaded_stream w d) no_stream hj

  pub meter_at_lem : (domain_at (rnic_at w) d).meter ≡ loaded_meter w d
  unfolding loaded_domain
  meter_at_lem = ap (λ (x : Domain). x.meter) domain_at_lem

  -- each group of a stream
  pub groups_at : (j : ℕ) → j < 4 → stream_of (rnic_at w) d j ≡ record { phase = loaded_phase w d j; framing = loaded_framing w d j; sends = loaded_sends w d j; reads = loaded_reads w d j; terminates = loaded_terminates w d j }
  unfolding loaded_stream
  groups_at j hj = stream_at_lem j hj

-- ---- what is stored changes

-- words that were put change nothing outside them
pub outside : (w v : List ℕ) (at : ℕ) (xs : List ℕ) → at ≤ length w → v ≡ put w at xs → SameOutside w v at (length xs)
outside w v at xs h is b m apart = ap (λ (l : List ℕ). part l b m) is ∙ put_outside w at xs h b m apart

pub len_changed : (w v : List ℕ) (n : ℕ) → v ≡ stored_len w n → loaded_len v ≡ n → rnic_at v ≡ record { len = n; domains = (rnic_at w).domains }
len_changed w v n is e =
    len_alone w v (outside w v 0 (n ∷ []) (omega arith) is)
    ∙ ap (λ (x : ℕ). record { len = x; domains = (rnic_at w).domains }) e

module _ (w v : List ℕ) (d : ℕ) (hd : d < 4) (long : block_words ≤ length w) where
  -- blocks that agree outside some words of a domain
  in_domain : (a k : ℕ) → domain_offset d ≤ a → a + k ≤ domain_offset d + 236 → SameOutside w v a k → (f : Domain → Domain) → loaded_domain v d ≡ f (loaded_domain w d) → rnic_at v ≡ with_domain (rnic_at w) d (f (domain_at (rnic_at w) d))
  in_domain a k h h' same f e =
      domain_alone w v d hd (wider w v a k (domain_offset d) 236 h h' same)
      ∙ ap (λ (x : Domain). with_domain (rnic_at w) d x) (e ∙ ap f (sym (domain_at_lem w d hd)))

  pub part_changed : (p : Part) → v ≡ stored_part w d p → loaded_part v d ≡ p → rnic_at v ≡ with_domain (rnic_at w) d (with_part (domain_at (rnic_at w) d) p)
  part_changed p is e =
      let same = outside w v (domain_offset d) (part_words p) (omega arith) is in
      in_domain (domain_offset d) 1 (omega arith) (omega arith) same (λ x. with_part x p)
      (part_alone w v d same ∙ ap (λ (x : Part). with_part (loaded_domain w d) x) e)

  pub window_changed : (i : ℕ) → i < 16 → (x : Window) → v ≡ stored_window w d i x → loaded_window v d i ≡ x → rnic_at v ≡ with_domain (rnic_at w) d (with_window (domain_at (rnic_at w) d) i x)
  window_changed i hi x is e =
      let same = outside w v (window_offset d i) (window_words x) (omega arith) is in
      in_domain (window_offset d i) 3 (omega arith) (omega arith) same (λ b. with_window b i x)
      (window_alone w v d i hi same ∙ ap (λ (y : Window). with_window (loaded_domain w d) i y) e)

  -- the meter, stored whole, and with more bytes counted
  pub meter_changed : (m : Meter) → SameOutside w v (meter_offset d) 3 → loaded_meter v d ≡ m → rnic_at v ≡ with_domain (rnic_at w) d (with_meter (domain_at (rnic_at w) d) m)
  meter_changed m same e =
      in_domain (meter_offset d) 3 (omega arith) (omega arith) same (λ x. with_meter x m)
      (meter_alone w v d same ∙ ap (λ (y : Meter). with_meter (loaded_domain w d) y) e)

  pub ticked_changed : (m : Meter) → v ≡ stored_meter w d m → loaded_meter v d ≡ m → rnic_at v ≡ with_domain (rnic_at w) d (with_meter (domain_at (rnic_at w) d) m)
  unfolding meter_words
  ticked_changed m is e = meter_changed m (outside w v (meter_offset d) (meter_words m) (omega arith) is) e

  pub count_changed : (m : Meter) (placed : ℕ) → v ≡ stored_count w d placed → loaded_meter v d ≡ m → rnic_at v ≡ with_domain (rnic_at w) d (with_meter (domain_at (rnic_at w) d) m)
  count_changed m placed is e =
      let same = outside w v (meter_offset d) (counted_word (get_or w (meter_offset d) 0) placed ∷ []) (omega arith) is in
      meter_changed m (wider w v (meter_offset d) 1 (meter_offset d) 3 (omega arith) (omega arith) same) e

  module _ (j : ℕ) (hj : j < 4) where
    -- blocks that agree outside some words of a stream
    in_stream : (a k : ℕ) → stream_offset d j ≤ a → a + k ≤ stream_offset d j + 46 → SameOutside w v a k → (f : Stream → Stream) → loaded_stream v d j ≡ f (loaded_stream w d j) → rnic_at v ≡ with_stream_of (rnic_at w) d j (f (stream_of (rnic_at w) d j))
    in_stream a k h h' same f e =
        let whole = wider w v a k (stream_offset d j) 46 h h' same in
        in_domain (stream_offset d j) 46 (omega arith) (omega arith) whole (λ x. with_stream x j (loaded_stream v d j)) (stream_alone w v d j hj whole)
        ∙ ap (λ (x : Stream). with_stream_of (rnic_at w) d j x) (e ∙ ap f (sym (stream_at_lem w d hd j hj)))

    pub stream_changed : (s : Stream) → v ≡ stored_stream w d j s → loaded_stream v d j ≡ s → rnic_at v ≡ with_stream_of (rnic_at w) d j s
    stream_changed s is e =
        in_stream (stream_offset d j) 46 (omega arith) (omega arith) (outside w v (stream_offset d j) (stream_words s) (omega arith) is) (λ x. s) e

    pub phase_changed : (x : Phase) → v ≡ stored_phase w d j x → loaded_phase v d j ≡ x → rnic_at v ≡ with_stream_of (rnic_at w) d j (in_phase (stream_of (rnic_at w) d j) x)
    phase_changed x is e =
        let same = outside w v (stream_offset d j) (phase_words x) (omega arith) is in
        in_stream (stream_offset d j) 1 (omega arith) (omega arith) same (λ s. in_phase s x)
        (phase_alone w v d j same ∙ ap (λ (y : Phase). in_phase (loaded_stream w d j) y) e)

    pub framing_changed : (x : Framing) → v ≡ stored_framing w d j x → loaded_framing v d j ≡ x → rnic_at v ≡ with_stream_of (rnic_at w) d j (with_framing (stream_of (rnic_at w) d j) x)
    framing_changed x is e =
        let same = outside w v (framing_offset d j) (framing_words x) (omega arith) is in
        in_stream (framing_offset d j) 1 (omega arith) (omega arith) same (λ s. with_framing s x)
        (framing_alone w v d j same ∙ ap (λ (y : Framing). with_framing (loaded_stream w d j) y) e)

    pub terminates_changed : (x : Terminates) → v ≡ stored_terminates w d j x → loaded_terminates v d j ≡ x → rnic_at v ≡ with_stream_of (rnic_at w) d j (with_terminates (stream_of (rnic_at w) d j) x)
    terminates_changed x is e =
        let same = outside w v (terminates_offset d j) (terminates_words x) (omega arith) is in
        in_stream (terminates_offset d j) 1 (omega arith) (omega arith) same (λ s. with_terminates s x)
        (terminates_alone w v d j same ∙ ap (λ (y : Terminates). with_terminates (loaded_stream w d j) y) e)

    pub sends_changed : (x : Sends) → v ≡ stored_sends w d j x → loaded_sends v d j ≡ x → rnic_at v ≡ with_stream_of (rnic_at w) d j (with_sends (stream_of (rnic_at w) d j) x)
    sends_changed x is e =
        let same = outside w v (sends_offset d j) (sends_words x) (omega arith) is in
        in_stream (sends_offset d j) 10 (omega arith) (omega arith) same (λ s. with_sends s x)
        (sends_alone w v d j same ∙ ap (λ (y : Sends). with_sends (loaded_stream w d j) y) e)

    pub reads_changed : (x : Reads) → v ≡ stored_reads w d j x → loaded_reads v d j ≡ x → rnic_at v ≡ with_stream_of (rnic_at w) d j (with_reads (stream_of (rnic_at w) d j) x)
    reads_changed x is e =
        let same = outside w v (reads_offset d j) (reads_words x) (omega arith) is in
        in_stream (reads_offset d j) 33 (omega arith) (omega arith) same (λ s. with_reads s x)
        (reads_alone w v d j same ∙ ap (λ (y : Reads). with_reads (loaded_stream w d j) y) e)
