-- The entry that is read is that of BITS bits and of the half byte.
use Rattle.std.proofs.Common.{◌≡◌, ◌∙◌, ℕ, ◌+◌, ◌*◌, ◌/◌, ◌%◌, arith}
use Rattle.crc_bits.specs.Crc.{crc_bit, xor32}
use Rattle.crc_halves.specs.Tables.{after}
use Rattle.crc_halves.specs.declared.TheConstants.{HALVES}
use Rattle.crc_halves.proofs.Entries.{entry_at}
use Rattle.crc_halves.proofs.half.Goals as goal

pub returns : goal.returns
unfolding after crc_bit xor32
returns g c h =
    let j : ℕ = c.args.x % 16 in
    let i : ℕ = (g.row.BITS / 4 + 15) % 16 * 16 + j in
    let bits : 4 * ((0 + i) / 16 + 1) ≡ g.row.BITS = omega (arith, h) in
    let low : (0 + i) % 16 ≡ j = omega arith in
    entry_at HALVES 0 i tt (omega (arith, h)) ∙ rw (bits, low)
