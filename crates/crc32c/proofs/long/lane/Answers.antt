-- `long::lane` meets its contract: two numbers of four bytes, by their bytes' entries in the tables.
-- Assumes nothing.
use mathlib.Core.Path.{◌≡◌, sym, ap, ap₂, ◌∙◌}
use Prim.Native.Nat.{ℕ, ◌/◌, ◌%◌, ◌^◌, ◌<◌}
use native.Mathlib.Nat.{zero-add}
use native.Mathlib.Omega.{arith}
use lib.Dec.{lit<}
use lib.Bits.{bit_xor, xor_comm, xor_lt}
use lib.ListN.{get_or}
use Rattle.crc_halves.specs.Tables.{after}
use Rattle.crc32c.specs.Tables.{Tables, word}
use Rattle.crc32c.proofs.Words.{by_bytes}
use Rattle.crc32c.proofs.Lanes.{lane_is}
use borrow.Author.Rules.{rules}
use Rattle.crc32c.proofs.long.lane.Goals as goal

pub returns : goal.returns
unfolding Tables
returns c =
    let a = c.args in
    let s = a.s.now in
    let first : c.from_le_bytes.result ≡ word s 0 = omega arith in
    let second : c.from_le_bytes-y.result ≡ word s 4 = omega arith in
    let y : ℕ = c.from_le_bytes-y.result in
    let x : ℕ = bit_xor a.c c.from_le_bytes.result in
    let l : x < 2 ^ 32 = xor_lt 32 a.c c.from_le_bytes.result (search rules) (search rules) in
    ap₂ bit_xor
    (ap₂ bit_xor
    (ap₂ bit_xor
    (ap₂ bit_xor
    (ap (λ (n : ℕ). get_or a.tables.now n 0) (sym (zero-add (y / 16777216 % 256))) ∙ c.requires 0 (y / 16777216 % 256) (lit< tt) (omega arith))
    (c.requires 1 (y / 65536 % 256) (lit< tt) (omega arith)))
    (c.requires 2 (y / 256 % 256) (lit< tt) (omega arith)))
    (c.requires 3 (y % 256) (lit< tt) (omega arith))
    ∙ sym (by_bytes 128 y (search rules)))
    (ap₂ bit_xor
    (ap₂ bit_xor
    (ap₂ bit_xor (c.requires 4 (x / 16777216 % 256) (lit< tt) (omega arith)) (c.requires 5 (x / 65536 % 256) (lit< tt) (omega arith)))
    (c.requires 6 (x / 256 % 256) (lit< tt) (omega arith)))
    (c.requires 7 (x % 256) (lit< tt) (omega arith))
    ∙ sym (by_bytes 160 x l))
    ∙ xor_comm (after 160 y) (after 192 x)
    ∙ ap₂ (λ (p q : ℕ). bit_xor (after 192 (bit_xor a.c p)) (after 160 q)) first second
    ∙ sym (lane_is a.c s (search rules) (search rules) (search rules) (search rules))
