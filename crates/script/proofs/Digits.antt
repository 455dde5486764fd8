-- Tests of bytes: `between` from two comparisons, the value of a hex digit in each range, and `all` at a place of a list.
-- Assumes nothing.
use mathlib.Core.Path.{◌≡◌}
use mathlib.Core.Bool.{true, false, and-false}
use Prim.Native.Nat.{ℕ, ◌-◌, ◌≤◌, ◌<◌}
use native.Mathlib.Omega.{arith}
use lib.Dec.{leb}
use borrow.Author.Tests.{le-leb, lt-leb}
use Rattle.script.specs.Number.{between}
use Rattle.script.specs.Hex.{nibble}

module _ (a e b : ℕ) where
  pub inside : a ≤ b → b ≤ e → between a e b ≡ true
  inside h k = rw (le-leb a b h) (le-leb b e k)

  pub below : b < a → between a e b ≡ false
  below h = rw (lt-leb a b h)

  pub above : e < b → between a e b ≡ false
  above h = rw (lt-leb b e h) (and-false (leb a b))

-- the value of a digit in each range of hex digits, as it is read
module _ (b : ℕ) where
  pub value_digit : 48 ≤ b → b ≤ 57 → nibble b ≡ b - 48
  unfolding nibble
  value_digit h k = rw (inside 48 57 b h k)

  value_upper : 65 ≤ b → b ≤ 70 → nibble b ≡ b - 55
  unfolding nibble
  value_upper h k = rw (above 48 57 b (omega arith), inside 65 70 b h k)

  pub value_lower : 97 ≤ b → b ≤ 102 → nibble b ≡ b - 87
  unfolding nibble
  value_lower h k = rw (above 48 57 b (omega arith), above 65 70 b (omega arith), inside 97 102 b h k)
