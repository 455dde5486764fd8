-- `any` answers whether one of the buffers that wait shares a byte, as the definition does.
use Rattle.std.proofs.Common.{rules, tests, sym, ◌∙◌, take}
use Rattle.std.proofs.lemmas.Iterator.{YieldsList-from_slice, YieldsList-from_take}
use Rattle.std.proofs.lemmas.Iterator.Search.{any_from_yields_List}
use Rattle.overlap.specs.Sharing.{shares}
use Rattle.overlap.proofs.Entries.{buffers_any}
use Rattle.overlap.proofs.buffers_share.Goals as goal

pub returns : goal.returns
returns c =
    let a = c.args in
    any_from_yields_List (λ b. shares b.start b.len a.place a.len) _ _ c.any.result c.any.ensures.ran
    (YieldsList-from_take _ (YieldsList-from_slice a.b.entries (cc)) c.take.ensures.count) (λ x b q k. search (rules, tests))
    ∙ sym (buffers_any (take a.b.count a.b.entries) a.place a.len)
