-- The loop keeps what `number_from` answers for the digits left, from the value so far.
use Rattle.std.proofs.Common.{◌≡◌, ◌<◌, ◌^◌, drop}
use Rattle.script.specs.Number.{number_from, number_of}
use Rattle.script.proofs.number.read_number.Given as goal

abbrev pub invariant-loop-b : goal.invariant-loop-b
invariant-loop-b l = (l.v < 2 ^ 64) × (number_of l.w ≡ number_from l.v (drop l.b-index l.w))
