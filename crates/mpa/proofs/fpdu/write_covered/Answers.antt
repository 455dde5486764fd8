-- `write_covered` meets its contract: three writes, each where the one before ends.
use Prim.Native.Nat.{ℕ, ◌+◌}
use mathlib.Core.List.{List}
use mathlib.Core.Path.{ap, ◌∙◌}
use lib.ListN.{length, replicate}
use Rattle.wire.specs.Wire.{put}
use Rattle.mpa.proofs.Frames.{covered-put}
use Rattle.mpa.specs.Fpdu.{pad_of}
use Rattle.mpa.proofs.fpdu.write_covered.Goals as goal

pub returns : goal.returns
returns c =
    let a = c.args in
    let u = a.ulpdu.now in
    let n = length u in
    c.clear.ensures
    ∙ ap (λ (k : ℕ). put c.copy.new.dst (2 + n) (replicate k 0)) c.pad_length-pad.ensures.0
    ∙ ap (λ (z : List ℕ). put z (2 + n) (replicate (pad_of n) 0)) (c.copy.ensures ∙ ap (λ (z : List ℕ). put z 2 u) c.put_be16.ensures)
    ∙ covered-put a.out.now u
