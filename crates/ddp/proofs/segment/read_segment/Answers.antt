-- `read_segment` meets its contract: a ULPDU that the framing layer gives lies in the bytes.
use Rattle.std.proofs.Common.{sym, ap, ◌∙◌}
use Rattle.mpa.proofs.Taken.{ulpdu_inside}
use Rattle.ddp.proofs.segment.read_segment.Goals as goal
use Rattle.std.specs.Prelude.{Ok}

pub segment_of-requires : goal.segment_of-requires
segment_of-requires c = ulpdu_inside _ _ _ _ _ (sym c.in_ok-n.ensures ∙ ap Ok c.in-Taken.is)
