-- `load_len` meets its contract: the word that is read is the group.
use Prim.Native.Nat.{ℕ}
use mathlib.Core.List.{List}
use mathlib.Core.Path.{refl, ◌∙◌}
use native.Mathlib.Omega.{arith}
use lib.ListN.{get_or}
use Rattle.block.specs.Device.{loaded_len}
use Rattle.block.specs.Words.{lower_half}
use Rattle.block.proofs.Lists.{word_read}
use Rattle.block.proofs.device.load_len.Goals as goal

pub returns : goal.returns
unfolding loaded_len
returns c =
    let a = c.args in
    c.lower.ensures ∙ word_read (λ (g : List ℕ). lower_half (get_or g 0 0)) a.words.now 0 0 refl (omega arith)
