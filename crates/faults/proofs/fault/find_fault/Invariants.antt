-- What is found from word i + 1 on is what is found from the first on.
use Rattle.std.proofs.Common.{◌≡◌, drop}
use Rattle.command.specs.Args.{words_of}
use Rattle.faults.specs.Fault.{found_from}
use Rattle.faults.proofs.fault.find_fault.Given as goal

abbrev pub invariant-loop-i : goal.invariant-loop-i
invariant-loop-i l = found_from 0 l.kinds (words_of l.words) ≡ found_from l.i (drop l.i l.kinds) (words_of l.words)
