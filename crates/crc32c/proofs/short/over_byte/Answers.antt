-- A byte taken in, by its half bytes.
use Rattle.std.proofs.Common.{rules, sym, ap₂, ◌∙◌, ℕ, ◌/◌}
use Rattle.std.specs.Int.Bits.{bit_xor}
use Rattle.crc32c.proofs.Words.{byte_halves}
use Rattle.crc32c.proofs.short.over_byte.Goals as goal

pub returns : goal.returns
returns c =
    let a = c.args in
    ap₂ (λ (p q : ℕ). bit_xor (bit_xor (bit_xor a.c a.b / 256) p) q) (c.half.ensures (search rules)) (c.half-2.ensures (search rules))
    ∙ sym (byte_halves a.c a.b (search rules) (search rules))
