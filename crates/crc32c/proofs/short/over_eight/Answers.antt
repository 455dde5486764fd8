-- `short::over_eight` meets its contract: two numbers of four bytes, by their half bytes.
-- Assumes nothing.
use mathlib.Core.Path.{sym, ap₂, ◌∙◌}
use Prim.Native.Nat.{ℕ, ◌^◌, ◌<◌}
use mathlib.Core.Path.{◌≡◌}
use lib.Bits.{bit_xor, xor_comm, xor_lt}
use Rattle.crc32c.specs.Tables.{word}
use native.Mathlib.Omega.{arith}
use Rattle.crc_halves.specs.Tables.{after}
use Rattle.crc32c.proofs.Words.{run_eight, by_halves}
use borrow.Author.Rules.{rules}
use Rattle.crc32c.proofs.short.over_eight.Goals as goal

pub returns : goal.returns
returns c =
    let a = c.args in
    let s = a.s.now in
    let first : c.from_le_bytes.result ≡ word s 0 = omega arith in
    let second : c.from_le_bytes-y.result ≡ word s 4 = omega arith in
    let x : ℕ = bit_xor a.c c.from_le_bytes.result in
    let l : x < 2 ^ 32 = xor_lt 32 a.c c.from_le_bytes.result (search rules) (search rules) in
    ap₂ bit_xor
    ((ap₂ bit_xor
    (ap₂ bit_xor
    (ap₂ bit_xor
    (ap₂ bit_xor
    (ap₂ bit_xor
    (ap₂ bit_xor
    (ap₂ bit_xor (c.half.ensures (search rules)) (c.half-2.ensures (search rules)))
    (c.half-3.ensures (search rules)))
    (c.half-4.ensures (search rules)))
    (c.half-5.ensures (search rules)))
    (c.half-6.ensures (search rules)))
    (c.half-7.ensures (search rules)))
    (c.half-8.ensures (search rules))) ∙ sym (by_halves 0 c.from_le_bytes-y.result (search rules)))
    ((ap₂ bit_xor
    (ap₂ bit_xor
    (ap₂ bit_xor
    (ap₂ bit_xor
    (ap₂ bit_xor
    (ap₂ bit_xor
    (ap₂ bit_xor (c.half-9.ensures (search rules)) (c.half-10.ensures (search rules)))
    (c.half-11.ensures (search rules)))
    (c.half-12.ensures (search rules)))
    (c.half-13.ensures (search rules)))
    (c.half-14.ensures (search rules)))
    (c.half-15.ensures (search rules)))
    (c.half-16.ensures (search rules))) ∙ sym (by_halves 32 x l))
    ∙ xor_comm (after 32 c.from_le_bytes-y.result) (after 64 x)
    ∙ ap₂ (λ (p q : ℕ). bit_xor (after 64 (bit_xor a.c p)) (after 32 q)) first second
    ∙ sym (run_eight a.c s (search rules) (search rules) (search rules) (search rules))
