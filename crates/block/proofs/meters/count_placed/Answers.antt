-- `count_placed` meets its contract: what is put there is what stands there, and it decodes to the meter with more bytes counted.
use Prim.Native.Nat.{ℕ}
use mathlib.Core.List.{List, [], ◌∷◌}
use mathlib.Core.Path.{◌≡◌, ap, ◌∙◌}
use native.Mathlib.Omega.{arith}
use lib.ListN.{length, get_or}
use Rattle.wire.specs.Wire.{put}
use Rattle.wire.proofs.Laws.{length-put}
use Rattle.meter.specs.Words.{counted_word}
use Rattle.block.specs.Layout.{block_words, meter_offset}
use Rattle.block.specs.Device.{loaded_meter, stored_count}
use Rattle.block.proofs.Counted.{count_stored}
use borrow.Author.Rules.{rules}
use Rattle.block.proofs.meters.count_placed.Goals as goal

pub returns : goal.returns
returns c =
    let a = c.args in
    let w : List ℕ = a.words.now in
    let long : length w ≡ block_words = search rules in
    let x : ℕ = counted_word (get_or w (meter_offset a.domain) 0) a.placed in
    let after = c.store_word.ensures ∙ (λ i. put w (c.meter_offset-at.ensures i) ((c.counted_word.ensures ∙ ap (λ (at : ℕ). counted_word (get_or w at 0) a.placed) c.meter_offset-at.ensures) i ∷ [])) in
    let same : length (stored_count w a.domain a.placed) ≡ length w = length-put w (meter_offset a.domain) (x ∷ []) (omega (arith, long)) in
    (after, ap (λ (v : List ℕ). loaded_meter v a.domain) after ∙ count_stored w a.domain a.placed (omega (arith, long)) (omega (arith, long, same)), long)
