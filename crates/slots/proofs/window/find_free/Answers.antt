-- `find_free` meets its contract: the lowest mark that is clear is that of the lowest free slot.
use mathlib.Core.Path.{ap, ◌∙◌}
use Rattle.memory.specs.Marks.{lowest_clear}
use Rattle.memory.proofs.LiveMarks.{clear_free}
use Rattle.slots.proofs.Windows.{windows_of, sixteen}
use Rattle.slots.proofs.window.find_free.Goals as goal

pub returns : goal.returns
returns c =
    let a = c.args in
    c.lowest_clear.ensures ∙ ap lowest_clear c.load_marks.ensures
    ∙ clear_free (windows_of a.words.now a.domain) (sixteen a.words.now a.domain c.requires)
