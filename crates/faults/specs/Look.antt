-- What a line's bytes show before its words are looked at.
-- Assumes nothing.
use Rattle.std.specs.Prelude.{ℕ, ◌-◌, Bool, false, List, Option, Some, None, length, get_or, eqb, leb}
use Rattle.wire.specs.Wire.{pick}
use Rattle.script.specs.Number.{between}
use Rattle.script.specs.Word.{past}
use Rattle.faults.specs.declared.look.Look.{Look}

-- the last byte is a carriage return (13)
unfoldable pub ends_in_cr : List ℕ → Bool
ends_in_cr line = pick (eqb (length line) 0) false (eqb (get_or line (length line - 1) 0) 13)

-- printable ASCII, the space with it
abbrev pub is_printable : ℕ → Bool
is_printable b = between 32 126 b

-- the byte at a place: none, a tab (9), or another
abbrev pub look_from : List ℕ → ℕ → Option Look
look_from line i = pick (leb (length line) i) None (Some (pick (eqb (get_or line i 0) 9) (Look.Tab i) (Look.Strange i)))

-- the last byte is looked at first, and then the first that is not printable
unfoldable pub look_of : List ℕ → Option Look
look_of line = pick (ends_in_cr line) (Some Look.Carriage) (look_from line (past is_printable line 0))
