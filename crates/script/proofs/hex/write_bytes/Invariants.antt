-- The loop keeps that the first bytes of out are those of the pairs.
use Rattle.std.proofs.Common.{◌≡◌}
use Rattle.std.proofs.Math.Seq.{paste}
use Rattle.script.specs.Hex.{pairs}
use Rattle.script.proofs.hex.write_bytes.Given as goal

abbrev pub invariant-loop-j : goal.invariant-loop-j
invariant-loop-j l = l.out ≡ paste l.initial.out 0 (pairs l.w) l.j
