-- `put_head` meets its contract: the writes, each where the one before ends, are one.
use Prim.Native.Nat.{ℕ}
use mathlib.Core.List.{List}
use mathlib.Core.Path.{ap, ◌∙◌}
use lib.ListN.{set}
use Rattle.wire.specs.Wire.{put, be16}
use Rattle.startup2.proofs.Puts.{head_put}
use Rattle.startup2.proofs.frame.put_head.Goals as goal

pub returns : goal.returns
returns c =
    let a = c.args in
    c.put_be16.ensures
    ∙ ap (λ (z : List ℕ). put (set (set z 16 a.flags) 17 2) 18 (be16 a.n)) (c.copy.ensures ∙ ap (λ (k : List ℕ). put a.out.now 0 k) c.key_of-key.ensures)
    ∙ head_put a.reply a.flags a.n a.out.now c.requires.1
