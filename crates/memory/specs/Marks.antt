-- The live marks of a domain's windows in sixteen bits, and the lowest of them that is clear.
use Rattle.std.specs.Prelude.{ℕ, ◌+◌, ◌-◌, ◌*◌, ◌%◌, Bool, List, [], ◌∷◌}
use Rattle.std.specs.Int.Count.{count_trailing_zeros}
use Rattle.wire.specs.Wire.{pick}
use Rattle.memory.specs.declared.window.Window.{Window}

-- "gather the live marks into sixteen bits": bit i is set where window i is live
unfoldable pub live_marks : List Window → ℕ
live_marks [] = 0
live_marks (w ∷ ws) = live_marks ws * 2 + pick w.live 1 0

-- sixteen marks moved up by one, the highest lost, and one more as the lowest
unfoldable pub pushed : ℕ → Bool → ℕ
pushed marks live = marks % 32768 * 2 + pick live 1 0

-- "trailing zeros of its complement": the lowest of sixteen marks that is clear, 16 where none is
unfoldable pub lowest_clear : ℕ → ℕ
lowest_clear marks = count_trailing_zeros 16 (65535 - marks)
