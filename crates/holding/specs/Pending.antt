-- Pending bytes: those that a stream holds and then those of a call. How many of them a receive needs, and how many of a call's go into
-- the stream's room.
use Rattle.std.specs.Prelude.{ℕ, ◌-◌, Bool, List, ◌++◌, length, take, ltb, eqb}
use Rattle.wire.specs.Wire.{pick, be16_at}
use Rattle.mpa.specs.Fpdu.{max_ulpdu, total_of, needed_for}
use Rattle.ddp.specs.Place.{placed}
use Rattle.holding.specs.declared.gather.Gathered.{Gathered}
use Rattle.holding.specs.declared.gather.Gathered.TheVariants.{Short, Enough}

-- "one longest FPDU", "the longest FPDU becomes 8,200": a stream's room
abbrev pub room_bytes : ℕ
room_bytes = total_of max_ulpdu

-- how many bytes a receive needs: the two of the length, and then those that `needed_for` says
unfoldable pub needed_of : List ℕ → ℕ
needed_of p = pick (ltb (length p) 2) 2 (needed_for (be16_at p 0))

-- they complete no FPDU, and say nothing that is refused
unfoldable pub is_short : List ℕ → Bool
is_short p = ltb (length p) (needed_of p)

-- what is pending behind the held bytes: too little, and so many bytes are then held; or enough, of which the first n are received
unfoldable pub gathered : List ℕ → List ℕ → Gathered
gathered held input = pick (is_short (held ++ input)) (Short (length (held ++ input))) (Enough (needed_of (held ++ input)))

-- how many bytes are held then
abbrev pub held_now : Gathered → ℕ
held_now (Short n) = n
held_now (Enough n) = 0

-- how many of a call's bytes go into the room, behind those held: all where nothing is complete; none where nothing was held, since the
-- FPDU is then received where it lies; else those up to its end
unfoldable pub copied : List ℕ → List ℕ → ℕ
copied held input = pick (is_short (held ++ input)) (length input) (pick (eqb (length held) 0) 0 (needed_of (held ++ input) - length held))

-- the room afterwards. What it contains beside the held bytes is nobody's
unfoldable pub room_after : List ℕ → List ℕ → List ℕ → List ℕ
room_after held input room = placed room (length held) (take (copied held input) input)
