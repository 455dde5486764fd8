-- `store_reads` meets its contract: the three stores put the words of the reads, and each request is read back from its own.
use Prim.Native.Nat.{ℕ, suc, ◌+◌, ◌*◌, ◌<◌}
use mathlib.Core.List.{List, [], ◌∷◌, ◌++◌}
use mathlib.Core.Path.{◌≡◌, refl, ap, ◌∙◌}
use native.Mathlib.Omega.{arith}
use lib.ListN.{length}
use borrow.Author.Rules.{rules}
use Rattle.wire.proofs.Laws.{put-put}
use Rattle.wire.specs.Wire.{put}
use Rattle.rdmap.specs.Read.{no_read}
use Rattle.block.specs.Queue.{request_in, requests_in, reads_words, waiting_read}
use Rattle.block.specs.Stream.{loaded_reads, stored_reads}
use Rattle.block.proofs.Back.{reads_stored}
use Rattle.block.proofs.Packing.{reads_back}
use Rattle.block.proofs.Lists.{listed_8, listed-all}
use Rattle.block.proofs.reads.store_reads.Goals as goal

-- a word, and two times words that follow
three : (w : List ℕ) (at x : ℕ) (a b : List ℕ) → at < length w → length a ≡ 16 → put (put (put w at (x ∷ [])) (at + 1) a) (at + 17) b ≡ put w at (x ∷ (a ++ b))
three w at x a b h e =
    let long : at + 17 ≡ at + suc (length a) = omega arith in
    ap (λ (l : List ℕ). put l (at + 17) b) (put-put w at (x ∷ []) a (omega arith))
    ∙ ap (λ (n : ℕ). put (put w at (x ∷ a)) n b) long
    ∙ put-put w at (x ∷ a) b (omega arith)

pub copy-requires : goal.copy-requires
copy-requires c =
    let k : length c.four_words-first.result ≡ 16 = ap length c.four_words-first.ensures.0 in
    simp k (omega (arith, c.store_word.auto.dst, c.stream_offset-at.ensures))

pub copy-requires-2 : goal.copy-requires-2
copy-requires-2 c =
    let k : length c.four_words-last.result ≡ 16 = ap length c.four_words-last.ensures.0 in
    simp k (omega (arith, c.copy.auto.dst, c.store_word.auto.dst, c.stream_offset-at.ensures))

pub returns : goal.returns
returns c =
    let d = c.args.domain in
    let j = c.args.slot in
    let r = c.args.r in
    let long : length r.entries ≡ 8 = c.well_formed.1.1.1.0.1.1.1.1.0.1.0.1 in
    let back : requests_in (reads_words r) ≡ r.entries =
    listed_8 (λ i. request_in (reads_words r) (1 + i * 4)) (waiting_read r) c.four_words-first.ensures.1 c.four_words-first.ensures.2 c.four_words-first.ensures.3 c.four_words-first.ensures.4 c.four_words-last.ensures.1 c.four_words-last.ensures.2 c.four_words-last.ensures.3 c.four_words-last.ensures.4
    ∙ listed-all 8 r.entries no_read long
    in
    let after : c.copy-2.new.dst ≡ stored_reads c.args.words.now d j r =
    c.copy-2.ensures
    ∙ ap (λ (l : List ℕ). put l (c.stream_offset-at.result + 13 + 17) c.four_words-last.result) (c.copy.ensures ∙ ap (λ (l : List ℕ). put l (c.stream_offset-at.result + 13 + 1) c.four_words-first.result) c.store_word.ensures)
    ∙ three c.args.words.now (c.stream_offset-at.result + 13) c.pair.result c.four_words-first.result c.four_words-last.result (omega (arith, c.stream_offset-at.ensures)) (ap length c.four_words-first.ensures.0)
    ∙ rw (c.stream_offset-at.ensures, c.pair.ensures.0, c.four_words-first.ensures.0, c.four_words-last.ensures.0) refl
    in
    (after, ap (λ (l : List ℕ). loaded_reads l d j) after ∙ reads_stored c.args.words.now d j r (omega arith) (reads_back r c.well_formed.1.1.1.0.1.1.0.1 c.well_formed.1.1.1.0.1.1.1.0.1 back), search rules)
