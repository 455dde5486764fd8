-- `encode` meets its contract: the words are those of the callees, and each number in range is read back from its word.
use Prim.Native.Nat.{ℕ}
use mathlib.Core.Path.{◌≡◌, ◌∙◌}
use lib.ListN.{length, get_or}
use Rattle.memory.specs.Buffer.{no_buffer}
use Rattle.block.proofs.Lists.{listed_8, listed-all}
use Rattle.block.proofs.Packing.{sends_back}
use Rattle.memory.specs.declared.buffer.Buffer.{Buffer}
use Rattle.block.specs.Words.{sequence, buffer_in, buffer_word}
use Rattle.block.proofs.sends.encode.Goals as goal

pub returns : goal.returns
returns c =
    let s = c.args.s in
    let long : length s.buffers.entries ≡ 8 = c.well_formed.0.1.1.1.1.1.0.1.1.1.0.1.0.1 in
    let e : ℕ → Buffer = λ k. get_or s.buffers.entries k no_buffer in
    let back : sequence 8 (λ k. buffer_in (buffer_word (e k))) ≡ sequence 8 e =
    listed_8 (λ k. buffer_in (buffer_word (e k))) e c.buffer_word.ensures.1 c.buffer_word-2.ensures.1 c.buffer_word-3.ensures.1 c.buffer_word-4.ensures.1 c.buffer_word-5.ensures.1 c.buffer_word-6.ensures.1 c.buffer_word-7.ensures.1 c.buffer_word-8.ensures.1
    in (
      simp (c.pair.ensures.0, c.pair-2.ensures.0, c.buffer_word.ensures.0, c.buffer_word-2.ensures.0, c.buffer_word-3.ensures.0, c.buffer_word-4.ensures.0, c.buffer_word-5.ensures.0, c.buffer_word-6.ensures.0, c.buffer_word-7.ensures.0, c.buffer_word-8.ensures.0),
      sends_back s c.well_formed.0.1.1.0.1 c.well_formed.0.1.1.1.0.1 c.well_formed.0.1.1.1.1.0.1 c.well_formed.0.1.1.1.1.1.0.1.1.0.1 (back ∙ listed-all 8 s.buffers.entries no_buffer long),
    )
