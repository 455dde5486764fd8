-- `head_right` meets its contract: the first 16 bytes, which are compared with the key, are 16.
use mathlib.Core.Path.{sym}
use native.Mathlib.Omega.{arith}
use lib.Seq.{length-take-le}
use Rattle.startup2.proofs.frame.head_right.Goals as goal

pub slice_bounds-same-end : goal.slice_bounds-same-end
slice_bounds-same-end c = sym (length-take-le 16 c.args.bytes.now (omega arith))
