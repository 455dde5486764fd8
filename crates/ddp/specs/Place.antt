-- A payload placed in a domain's part of the store.
use Rattle.std.specs.Prelude.{ℕ, ◌+◌, Bool, List, length, nat_le}
use Rattle.wire.specs.Wire.{pick, put}

-- the payload ends within the part
unfoldable pub fits : List ℕ → ℕ → List ℕ → Bool
fits part at payload = nat_le (at + length payload) (length part)

-- "payload byte i goes to" at + i, "no other changes"; a payload that does not end within the part is not placed
unfoldable pub placed : List ℕ → ℕ → List ℕ → List ℕ
placed part at payload = pick (fits part at payload) (put part at payload) part
