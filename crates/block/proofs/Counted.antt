-- A domain's meter in the block: what is stored of it is loaded again.
use Prim.Native.Nat.{ℕ, ◌+◌, ◌≤◌}
use mathlib.Core.List.{List, [], ◌∷◌}
use mathlib.Core.Path.{◌≡◌, sym, ap, ◌∙◌}
use native.Mathlib.Omega.{arith}
use lib.ListN.{length, get_or}
use Rattle.wire.specs.Wire.{part}
use Rattle.wire.proofs.Laws.{part-one, part-put}
use Rattle.meter.specs.Gauge.{counted_meter, ticked_meter}
use Rattle.meter.specs.Words.{meter_of, meter_words, counted_word}
use Rattle.meter.specs.Invariant.{Encodable}
use Rattle.meter.specs.declared.Meter.{Meter}
use Rattle.meter.proofs.Encoding.{meter_encodable, words_back, counted-word}
use Rattle.meter.proofs.Invariant.{tick_encodable}
use Rattle.block.specs.Layout.{meter_offset}
use Rattle.block.specs.Device.{loaded_meter, stored_meter, stored_count}
use Rattle.block.proofs.Lists.{put_back, part-after}

module _ (w : List ℕ) (d : ℕ) where
  -- the meter of any words has an encoding, and so it has after a tick
  pub ticks_encodable : Encodable (ticked_meter (loaded_meter w d))
  unfolding loaded_meter
  ticks_encodable = tick_encodable (loaded_meter w d) (meter_encodable (get_or (part w (meter_offset d) 3) 0 0) (get_or (part w (meter_offset d) 3) 1 0) (get_or (part w (meter_offset d) 3) 2 0))

  pub meter_stored : (m : Meter) → Encodable m → meter_offset d ≤ length w → loaded_meter (stored_meter w d m) d ≡ m
  unfolding loaded_meter meter_words
  meter_stored m e h = put_back meter_of w (meter_offset d) (meter_words m) m h (words_back m e)

  -- the first word alone is another
  pub count_stored : (placed : ℕ) → meter_offset d + 3 ≤ length w → meter_offset d + 3 ≤ length (stored_count w d placed) → loaded_meter (stored_count w d placed) d ≡ counted_meter (loaded_meter w d) placed
  unfolding loaded_meter
  count_stored placed h k =
      let at : ℕ = meter_offset d in
      let x : ℕ = counted_word (get_or w at 0) placed in
      let v : List ℕ = stored_count w d placed in
      let first : get_or v at 0 ≡ x = ap (λ (g : List ℕ). get_or g 0 0) (sym (part-one v at 0 (omega (arith, k))) ∙ part-put w at (x ∷ []) (omega (arith, h))) in
      let rest : part v (at + 1) 2 ≡ part w (at + 1) 2 = part-after w at (x ∷ []) (at + 1) 2 (omega (arith, h)) (omega arith) in
      ap meter_of (part-one v at 2 k ∙ (λ i. first i ∷ rest i))
      ∙ counted-word (get_or w at 0) placed (get_or (part w (at + 1) 2) 0 0) (get_or (part w (at + 1) 2) 1 0)
      ∙ ap (λ (l : List ℕ). counted_meter (meter_of l) placed) (sym (part-one w at 2 h))
