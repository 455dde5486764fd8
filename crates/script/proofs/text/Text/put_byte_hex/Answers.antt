-- `put_byte_hex` meets its contract: the two digits are those of `upper_byte`.
use Rattle.std.proofs.Common.{ℕ, [], ◌∷◌, ap₂}
use Rattle.script.specs.Hex.{upper_byte}
use Rattle.script.proofs.Appended.{appended_same}
use Rattle.script.proofs.text.Text.put_byte_hex.Goals as goal

pub returns : goal.returns
unfolding upper_byte
returns g c = appended_same g.row.N _ (ap₂ (λ (h l : ℕ). h ∷ l ∷ []) c.digit_of.ensures c.digit_of-2.ensures) c.put.ensures
