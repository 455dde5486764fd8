-- The words read so far are numbers, and they stand in the first places.
use Rattle.std.proofs.Common.{◌≡◌, ◌+◌, ◌-◌, ◌++◌, true, replicate}
use Rattle.command.specs.Args.{words_of, number_at, all_numbers}
use Rattle.command.proofs.Gathered.{values}
use Rattle.command.proofs.args.Words.numbers.Given as goal

abbrev pub invariant-loop-i : goal.invariant-loop-i
invariant-loop-i l = (l.values ≡ values (λ j. number_at (words_of l.self) (j + 1)) l.i ++ replicate (9 - l.i) 0) × (all_numbers l.i (λ j. number_at (words_of l.self) (j + 1)) ≡ true)
