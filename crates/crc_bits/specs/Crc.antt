-- CRC-32C, bit by bit, as a fold over a running value.
use Rattle.std.specs.Prelude.{ℕ, zero, suc, ◌+◌, ◌-◌, ◌*◌, ◌/◌, ◌%◌, ◌^◌, cond, List, [], ◌∷◌, eqb}
use Rattle.std.specs.Int.Bits.{differ}

-- exclusive or over the k lowest bits, one bit a step
abbrev pub xor_bits : ℕ → ℕ → ℕ → ℕ
xor_bits zero a b = 0
xor_bits (suc k) a b = xor_bits k (a / 2) (b / 2) * 2 + differ (a % 2) (b % 2)

unfoldable pub xor32 : ℕ → ℕ → ℕ
xor32 a b = xor_bits 32 a b

-- the k lowest bits in the other order
abbrev pub reflected : ℕ → ℕ → ℕ
reflected zero p = 0
reflected (suc k) p = p % 2 * 2 ^ k + reflected k (p / 2)

-- "polynomial 0x1EDC6F41, bits reflected": reflected 32 0x1EDC6F41, as proofs/Vectors.antt shows
abbrev pub poly : ℕ
poly = 0x82F63B78

-- one bit: the running value is halved, and where the bit that falls out is set the polynomial is taken from it
unfoldable pub crc_bit : ℕ → ℕ
crc_bit c = cond (eqb (c % 2) 0) (c / 2) (xor32 (c / 2) poly)

-- n bits, one after the other
abbrev pub crc_bits_of : ℕ → ℕ → ℕ
crc_bits_of zero c = c
crc_bits_of (suc n) c = crc_bits_of n (crc_bit c)

-- one byte: into the low end, then its eight bits
unfoldable pub crc_byte : ℕ → ℕ → ℕ
crc_byte c b = crc_bits_of 8 (xor32 c b)

-- the running value c carried on over the bytes of a list
unfoldable pub crc_run : ℕ → List ℕ → ℕ
crc_run c [] = c
crc_run c (b ∷ bs) = crc_run (crc_byte c b) bs

-- "start all ones, result inverted"
abbrev pub all_ones : ℕ
all_ones = 0xFFFFFFFF

unfoldable pub crc_of : List ℕ → ℕ
crc_of bs = all_ones - crc_run all_ones bs
