-- A domain's part of the store.
use Rattle.std.specs.Prelude.{ℕ, ◌+◌, Bool, leb}
use Rattle.wire.specs.Wire.{both}
use Rattle.memory.specs.declared.part.Part.{Part}

-- "a length from 1, a place in its domain's part"; of a buffer, "at least 1 byte in the domain's part"
unfoldable pub in_part : Part → ℕ → ℕ → Bool
in_part part start len = both (leb 1 len) (both (leb part.start start) (leb (start + len) part.end))

-- a part lies in a store of this length
abbrev pub part_fits : Part → ℕ → Bool
part_fits p size = both (leb p.start p.end) (leb p.end size)
