-- How a message is cut into payloads, by the largest ULPDU and the size of the header before each payload: every payload is filled but the last.
use Rattle.std.specs.Prelude.{ℕ, zero, suc, ◌-◌, Bool, List, [], ◌∷◌, nat_le}
use Rattle.wire.specs.Wire.{pick}

-- "each filled but the last": what is left goes into the room of one payload, or fills it
unfoldable pub piece_of : ℕ → ℕ → ℕ
piece_of room left = pick (nat_le left room) left room

-- "L on the last only": nothing is left after it
unfoldable pub ends_in : ℕ → ℕ → Bool
ends_in room left = nat_le left room

-- the lengths of the payloads of what is left, at most so many; "an empty message gives one segment"
unfoldable pub pieces : ℕ → ℕ → ℕ → List ℕ
pieces zero room left = []
pieces (suc most) room left = piece_of room left ∷ pick (ends_in room left) [] (pieces most room (left - room))
