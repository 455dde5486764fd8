-- What stands at a place of a ULPDU: a field, or the end.
use Rattle.std.specs.Prelude.{ℕ, ◌+◌, ◌-◌, List, length, get_or, drop, ltb, None, Option, Some}
use Rattle.wire.specs.Wire.{pick, be32_at, be64_at}

-- how many bytes are left from a place on, none past the end, and which
abbrev pub left_from : List ℕ → ℕ → ℕ
left_from l at = length l - at

abbrev pub rest_from : List ℕ → ℕ → List ℕ
rest_from l at = drop at l

-- the place n bytes on, or the end where fewer are left
abbrev pub place_after : List ℕ → ℕ → ℕ → ℕ
place_after l at n = pick (ltb (left_from l at) n) (length l) (at + n)

-- the field of 1, 4 or 8 bytes at a place, or the end where fewer are left
abbrev pub byte_field : List ℕ → ℕ → Option ℕ
byte_field l at = pick (ltb (left_from l at) 1) None (Some (get_or l at 0))

abbrev pub be32_field : List ℕ → ℕ → Option ℕ
be32_field l at = pick (ltb (left_from l at) 4) None (Some (be32_at l at))

abbrev pub be64_field : List ℕ → ℕ → Option ℕ
be64_field l at = pick (ltb (left_from l at) 8) None (Some (be64_at l at))
