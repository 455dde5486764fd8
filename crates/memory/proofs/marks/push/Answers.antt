-- `push` meets its contract: the marks moved up leave the lowest bit clear, so the mark is added there.
use Prim.Native.Nat.{ℕ, ◌*◌, ◌%◌}
use mathlib.Core.Path.{◌≡◌, ap, ◌∙◌}
use mathlib.Core.Bool.{Bool, true, false}
use native.Mathlib.Omega.{arith}
use lib.Dec.{lit<}
use lib.Bits.{bit_or, or_shifted}
use mir.Val.{bool_byte}
use Rattle.memory.specs.Marks.{pushed}
use Rattle.memory.proofs.marks.push.Goals as goal

moved : (m : ℕ) → m * 2 % 65536 ≡ m % 32768 * 2
moved m = omega arith

put : (m : ℕ) (t : Bool) → bit_or (m * 2 % 65536) (bool_byte t) ≡ pushed m t
unfolding pushed
put m true = ap (λ (n : ℕ). bit_or n 1) (moved m) ∙ or_shifted (m % 32768) 1 1 (lit< tt)
put m false = ap (λ (n : ℕ). bit_or n 0) (moved m) ∙ or_shifted (m % 32768) 1 0 (lit< tt)

pub returns : goal.returns
returns c = put c.args.marks c.args.live
