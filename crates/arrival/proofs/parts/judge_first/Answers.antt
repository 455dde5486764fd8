-- `judge_first` meets its contract: the payload of what `segment_read` gives lies in the bytes.
use native.Mathlib.Omega.{arith}
use Rattle.arrival.proofs.Inside.{inside}
use Rattle.arrival.proofs.parts.judge_first.Goals as goal

pub overflow_add-payload : goal.overflow_add-payload
overflow_add-payload c = omega (arith, inside _ _ _ (rw c.in-Ok-Tagged.field-0-is at c.in-Ok-Tagged.ensures))

pub slice_bounds-payload-end : goal.slice_bounds-payload-end
slice_bounds-payload-end c = omega (arith, inside _ _ _ (rw c.in-Ok-Tagged.field-0-is at c.in-Ok-Tagged.ensures))

pub overflow_add-payload-in-Ok-Untagged : goal.overflow_add-payload-in-Ok-Untagged
overflow_add-payload-in-Ok-Untagged c = omega (arith, inside _ _ _ (rw c.in-Ok-Untagged.field-0-is at c.in-Ok-Untagged.ensures))

pub slice_bounds-payload-end-in-Ok-Untagged : goal.slice_bounds-payload-end-in-Ok-Untagged
slice_bounds-payload-end-in-Ok-Untagged c = omega (arith, inside _ _ _ (rw c.in-Ok-Untagged.field-0-is at c.in-Ok-Untagged.ensures))
