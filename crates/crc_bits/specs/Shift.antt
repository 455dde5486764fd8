-- Products of running values, and the CRCs of two pieces joined.
-- A running value is a polynomial of degree below 32 modulo the document's, its bits reflected: bit 31 is the coefficient of
-- 1, bit 30 that of x, bit 0 that of x^31. One bit of the CRC, `crc_bit`, is a multiplication by x, and n zero bytes are one
-- by x^(8 * n).
use Rattle.std.specs.Prelude.{ℕ, zero, suc, ◌*◌, ◌/◌, ◌%◌}
use Rattle.crc_bits.specs.Crc.{xor32, crc_bits_of}

-- the polynomial 1
abbrev pub one : ℕ
one = 0x80000000

-- the sum of what the k lowest bits of p stand for, times q: the lowest stands for x^(k - 1)
unfoldable pub times_bits : ℕ → ℕ → ℕ → ℕ
times_bits zero p q = 0
times_bits (suc k) p q = xor32 (p % 2 * crc_bits_of k q) (times_bits k (p / 2) q)

-- the product of two running values
unfoldable pub times : ℕ → ℕ → ℕ
times p q = times_bits 32 p q

-- the n-th power of a running value
unfoldable pub power_of : ℕ → ℕ → ℕ
power_of p zero = one
power_of p (suc n) = times p (power_of p n)

-- the CRC of two pieces together, from the CRC of each and the second's length: the first's, carried on over as many zero
-- bytes, and the second's
unfoldable pub joined : ℕ → ℕ → ℕ → ℕ
joined first second len = xor32 (crc_bits_of (8 * len) first) second
