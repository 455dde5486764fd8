-- `count_live` meets its contract: as many marks are set as windows are live.
use mathlib.Core.Path.{ap, ◌∙◌}
use lib.Count.{ones}
use Rattle.memory.proofs.LiveMarks.{ones_live}
use Rattle.slots.proofs.Windows.{windows_of}
use Rattle.slots.proofs.window.count_live.Goals as goal

pub returns : goal.returns
returns c =
    let a = c.args in
    c.count.ensures ∙ ap ones c.load_marks.ensures ∙ ones_live (windows_of a.words.now a.domain)
