-- `write_digits` meets its contract. The loop keeps that the digits of what is left, followed by those written, are the digits of v,
-- and that there is room for what is left (`Decimal`).
use mathlib.Core.Path.{◌≡◌}
use mathlib.Core.List.{◌++◌}
use Prim.Native.Nat.{◌≤◌, ◌<◌, ◌^◌}
use lib.ListN.{length, drop}
use Rattle.script.specs.Number.{digits_of, decimal}
use Rattle.script.proofs.text.write_digits.Given as goal

abbrev pub invariant-loop-left : goal.invariant-loop-left
invariant-loop-left l = (1 ≤ l.k) × (l.k ≤ 20) × (l.left < 10 ^ l.k) × (length l.digits ≡ 20) × (decimal l.v ≡ digits_of l.k l.left ++ drop l.k l.digits)

abbrev pub decreases-loop-left : goal.decreases-loop-left
decreases-loop-left l = l.left
