-- The CRC of bytes carried on from the CRC of what came before them is the CRC of all of them.
-- Assumes nothing.
use mathlib.Core.Path.{◌≡◌, ap, sym, ◌∙◌}
use mathlib.Core.List.{List, ◌++◌}
use Prim.Native.Nat.{ℕ, ◌-◌, ◌^◌, ◌<◌}
use native.Mathlib.Omega.{arith}
use lib.Dec.{lit<}
use Rattle.crc32c.specs.Crc.{crc_run, crc_of, all_ones}
use Rattle.crc_bits.proofs.Carry.{run_range, run-split}
use Rattle.sums.specs.Sums.{crc_on}

-- inverted twice
back : (a : ℕ) → a < 2 ^ 32 → all_ones - (all_ones - a) ≡ a
back a h = omega arith

pub carried_is : (xs ys : List ℕ) → crc_on (crc_of xs) ys ≡ crc_of (xs ++ ys)
unfolding crc_on crc_of
carried_is xs ys =
    ap (λ (n : ℕ). all_ones - crc_run n ys) (back (crc_run all_ones xs) (run_range all_ones xs (lit< tt)))
    ∙ ap (λ (n : ℕ). all_ones - n) (sym (run-split all_ones xs ys))
