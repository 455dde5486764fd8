-- The marks are gathered from the last window on.
use Rattle.std.proofs.Common.{rules, tests, ◌∙◌}
use Rattle.std.proofs.lemmas.Iterator.Adapters.{YieldsList-from_rev_slice}
use Rattle.std.proofs.lemmas.Iterator.Consumers.{fold_from_yields_List}
use Rattle.memory.specs.Marks.{pushed}
use Rattle.memory.proofs.LiveMarks.{marks_fold}
use Rattle.memory.proofs.window.gather.Goals as goal

pub returns : goal.returns
returns c =
    fold_from_yields_List _ (λ m w. pushed m w.live) 0 c.fold.result c.fold.ensures.ran (YieldsList-from_rev_slice c.args.windows.now (cc)) (λ a x b q k. search (rules, tests))
    ∙ marks_fold c.args.windows.now c.requires
