-- `any` answers whether one of the windows shares a byte, as the definition does.
use Rattle.std.proofs.Common.{rules, tests, sym, ◌∙◌}
use Rattle.std.proofs.lemmas.Iterator.{YieldsList-from_slice}
use Rattle.std.proofs.lemmas.Iterator.Search.{any_from_yields_List}
use Rattle.overlap.specs.Sharing.{window_shares}
use Rattle.overlap.proofs.Entries.{windows_any}
use Rattle.overlap.proofs.windows_share.Goals as goal

pub returns : goal.returns
returns c =
    let a = c.args in
    any_from_yields_List (λ w. window_shares w a.place a.len) _ _ c.any.result c.any.ensures.ran (YieldsList-from_slice a.windows (cc)) (λ x b q k. search (rules, tests))
    ∙ sym (windows_any a.windows a.place a.len)
