-- Lengths of FPDUs, for every ULPDU length n and any limit: linear arithmetic with remainders by 4.
use Prim.Native.Nat.{ℕ, ◌+◌, ◌*◌, ◌%◌, ◌≤◌, ◌<◌}
use mathlib.Core.Bool.{Bool, true, false}
use mathlib.Core.Path.{◌≡◌, refl}
use native.Mathlib.Nat.{le_refl}
use native.Mathlib.Omega.{arith}
use lib.Dec.{ltb}
use borrow.Author.Tests.{ltb-false}
use Rattle.wire.specs.Wire.{pick}
use Rattle.mpa.specs.Fpdu.{pad_of, covered_of, total_of}

pub pad_small : (n : ℕ) → pad_of n < 4
pad_small n = omega arith

-- what the CRC covers, and the whole, divide by 4
pub covered-four : (n : ℕ) → covered_of n % 4 ≡ 0
covered-four n = omega arith

pub total-four : (n : ℕ) → total_of n % 4 ≡ 0
total-four n = omega arith

-- what the CRC covers is the least multiple of 4 that holds length and ULPDU
pub covered-holds : (n : ℕ) → 2 + n ≤ covered_of n
covered-holds n = omega arith

pub covered_least : (n k : ℕ) → 2 + n ≤ k * 4 → covered_of n ≤ k * 4
covered_least n k h = omega arith

pub total_bound : (n : ℕ) → total_of n ≤ n + 9
total_bound n = omega arith

pub total-two : (n : ℕ) → 2 ≤ total_of n
total-two n = omega arith

-- a longer ULPDU has no shorter FPDU
pub total_mono : (m n : ℕ) → m ≤ n → total_of m ≤ total_of n
total_mono m n h = omega arith

-- ---- under any limit of the ULPDU

module _ (limit n : ℕ) where
  -- no FPDU is longer than that of the limit
  pub total_limit : n ≤ limit → total_of n ≤ total_of limit
  total_limit h = total_mono n limit h

  -- the bytes that say what an FPDU is, all of it or the two of a length over the limit, are at least two and at most the longest FPDU
  abbrev needed : ℕ
  needed = pick (ltb limit n) 2 (total_of n)

  pub needed-low : 2 ≤ needed
  needed-low = go (ltb limit n)
    where
      go : (over : Bool) → 2 ≤ pick over 2 (total_of n)
      go true = le_refl 2
      go false = total-two n

  pub needed_limit : needed ≤ total_of limit
  needed_limit = go (ltb limit n) refl
    where
      go : (over : Bool) → ltb limit n ≡ over → pick over 2 (total_of n) ≤ total_of limit
      go true e = total-two limit
      go false e = total_limit (ltb-false limit n e)
