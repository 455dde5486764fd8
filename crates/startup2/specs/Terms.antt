-- What a side says of itself in the startup of RFC 6581, section 9: A and B with 14 bits of IRD, C and D with 14 bits of ORD.
use Rattle.std.specs.Prelude.{ℕ, ◌+◌, ◌*◌, ◌/◌, ◌%◌, Bool, List, ◌++◌, leb}
use Rattle.wire.specs.Wire.{pick, both, be16, be16_at}
use Rattle.startup2.specs.declared.Terms.{Terms}

-- the highest number of 14 bits, which for an IRD or ORD says that it is not negotiated
abbrev pub max_depth : ℕ
max_depth = 0x3FFF

-- the fields can hold the numbers: 14 bits each of IRD and ORD, a bit for each kind
abbrev pub terms_fit : Terms → Bool
terms_fit t = both (leb t.ird max_depth) (both (leb t.ord max_depth) (leb t.kinds 7))

-- "If Control Flag A is set to 0, then Control Flags B, C, and D MUST also be set to 0": the kinds that are said
abbrev pub kinds_of : Terms → ℕ
kinds_of t = pick t.peer t.kinds 0

-- the terms as the other side reads them
abbrev pub said_of : Terms → Terms
said_of t = record { peer = t.peer; ird = t.ird; ord = t.ord; kinds = kinds_of t }

-- A, B and IRD; B is Send
abbrev pub first_half : Terms → ℕ
first_half t = pick t.peer 0x8000 0 + kinds_of t / 4 * 0x4000 + t.ird

-- C, D and ORD; C is Write, D is Read
abbrev pub second_half : Terms → ℕ
second_half t = kinds_of t % 4 * 0x4000 + t.ord

-- the four bytes
unfoldable pub terms_of : Terms → List ℕ
terms_of t = be16 (first_half t) ++ be16 (second_half t)

-- the terms of the two halves; "if Control Flag A is set to 0, then Control Flags B, C, and D MUST be ignored"
abbrev pub halves_terms : ℕ → ℕ → Terms
halves_terms f s = record { peer = leb 0x8000 f; ird = f % 0x4000; ord = s % 0x4000; kinds = pick (leb 0x8000 f) (f / 0x4000 % 2 * 4 + s / 0x4000) 0 }

-- the terms in the four bytes from a place
unfoldable pub terms_at : List ℕ → ℕ → Terms
terms_at l at = halves_terms (be16_at l at) (be16_at l (at + 2))
