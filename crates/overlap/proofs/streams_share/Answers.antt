-- `any` answers whether a buffer that waits on one of the streams shares a byte, as the definition does.
use Rattle.std.proofs.Common.{rules, tests, sym, ◌∙◌}
use Rattle.std.proofs.lemmas.Iterator.{YieldsList-from_slice}
use Rattle.std.proofs.lemmas.Iterator.Search.{any_from_yields_List}
use Rattle.overlap.specs.Sharing.{waiting, buffers_share}
use Rattle.overlap.proofs.Entries.{streams_any}
use Rattle.overlap.proofs.streams_share.Goals as goal

pub returns : goal.returns
returns c =
    let a = c.args in
    any_from_yields_List (λ s. buffers_share (waiting s.sends.buffers) a.place a.len) _ _ c.any.result c.any.ensures.ran
    (YieldsList-from_slice a.streams (cc)) (λ x b q k. search (rules, tests))
    ∙ sym (streams_any a.streams a.place a.len)
