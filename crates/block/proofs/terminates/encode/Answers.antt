-- `encode` meets its contract: a number in range is read back from its word.
use mathlib.Core.Path.{◌≡◌, refl}
use native.Mathlib.Omega.{arith}
use Rattle.block.specs.Words.{lower_half}
use Rattle.block.proofs.terminates.encode.Goals as goal

pub returns : goal.returns
returns c =
    let msn : lower_half c.args.t.msn ≡ c.args.t.msn = omega arith in
    (refl, λ i. record { msn = msn i })
