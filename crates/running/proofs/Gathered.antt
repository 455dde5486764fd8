-- Where a line ends.
-- Assumes nothing.
use Prim.Native.Nat.{ℕ, ◌≤◌, ◌<◌}
use mathlib.Core.Path.{◌≡◌}
use mathlib.Core.List.{List}
use native.Mathlib.Omega.{arith}
use lib.ListN.{length}
use Rattle.script.specs.Word.{not_newline, past}
use Rattle.script.proofs.Scan.{past-within}

-- a line that starts within a chunk ends within it
pub end-within : (chunk : List ℕ) (i e : ℕ) → i < length chunk → e ≡ past not_newline chunk i → (i ≤ e) × (e ≤ length chunk)
end-within chunk i e h q = let w = past-within not_newline chunk i (omega arith) in (rw q w.0, rw q w.1)
