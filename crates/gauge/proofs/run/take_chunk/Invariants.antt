-- After each byte the state and the answers are those of the bytes so far.
use Rattle.gauge.proofs.Steps.{Taken}
use Rattle.gauge.proofs.run.take_chunk.Given as goal

abbrev pub invariant-loop-b : goal.invariant-loop-b
invariant-loop-b g l = Taken l.initial.now l.chunk l.out l.now l.b-index
