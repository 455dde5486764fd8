-- `encode` meets its contract: a flag and a count above it are read back from their word.
use Prim.Native.Nat.{ℕ, ◌+◌, ◌*◌}
use mathlib.Core.Path.{ap}
use borrow.Author.Rules.{rules}
use Rattle.block.proofs.Packing.{framing_back}
use Rattle.block.proofs.framing.encode.Goals as goal

pub returns : goal.returns
returns c =
    let a = c.args in
    (ap (λ (x : ℕ). x + a.f.held * 2) c.flag.ensures.0, framing_back a.f (search rules))
