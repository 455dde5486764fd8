-- What the routine's tables hold, and what it reads of the bytes.
use Rattle.std.specs.Prelude.{◌≡◌, ℕ, ◌+◌, ◌*◌, ◌<◌, List, get_or, take, drop}
use Rattle.crc_bits.specs.Crc.{crc_run}
use Rattle.crc_halves.specs.Tables.{after}

-- the running value c carried on over the eight bytes from i
unfoldable pub eight : ℕ → List ℕ → ℕ → ℕ
eight c s i = crc_run c (take 8 (drop i s))

-- the number in four bytes, the least significant first
abbrev pub word : List ℕ → ℕ → ℕ
word s i = get_or s i 0 + get_or s (i + 1) 0 * 256 + get_or s (i + 2) 0 * 65536 + get_or s (i + 3) 0 * 16777216

-- four bytes are below 256
abbrev pub Bytes : List ℕ → ℕ → Type 0
Bytes s i = (get_or s i 0 < 256) × (get_or s (i + 1) 0 < 256) × (get_or s (i + 2) 0 < 256) × (get_or s (i + 3) 0 < 256)

-- eight tables of 256 entries: table k has what 136 bits and k bytes more make of each byte
unfoldable pub Tables : List ℕ → Type 0
Tables t = (k j : ℕ) → k < 8 → j < 256 → get_or t (256 * k + j) 0 ≡ after (136 + 8 * k) j
