-- A meter and its words, there and back.
use Prim.Native.Nat.{ℕ, ◌+◌, ◌-◌, ◌%◌, ◌<◌, ◌≤◌}
use mathlib.Core.Bool.{Bool, true, false, cond}
use mathlib.Core.List.{[], ◌∷◌}
use mathlib.Core.Path.{◌≡◌, refl}
use native.Mathlib.Nat.{mod-lt, mod-eq_of_lt, le-add_left}
use native.Mathlib.Omega.{arith}
use borrow.Author.Tests.{le-leb, lt-leb, leb-true, leb-false}
use lib.Dec.{leb, lit<}
use Rattle.meter.specs.declared.Meter.{Meter}
use Rattle.meter.specs.Words.{infinity_bits, level_at, meter_at, meter_words, meter_of, counted_word}
use Rattle.meter.specs.Gauge.{counted_bytes, counted_meter}
use Rattle.meter.specs.Invariant.{Encodable}
use Rattle.meter.proofs.Bits.{level_amount, level_back, bits_back}
use Rattle.meter.proofs.Invariant.{counted-fits}

-- the count and the mark
count_back : (t : Bool) (n : ℕ) → n < 4294967296 → cond t (n + 4294967296) n % 4294967296 ≡ n
count_back true n h = omega arith
count_back false n h = mod-eq_of_lt h

mark_back : (t : Bool) (n : ℕ) → n < 4294967296 → leb 4294967296 (cond t (n + 4294967296) n) ≡ t
mark_back true n h = le-leb 4294967296 (n + 4294967296) (le-add_left 4294967296 n)
mark_back false n h = lt-leb 4294967296 n h

first_back : (w : ℕ) (t : Bool) → leb 4294967296 w ≡ t → w < 8589934592 → cond t (w % 4294967296 + 4294967296) (w % 4294967296) ≡ w
first_back w true e h = let g : 4294967296 ≤ w = leb-true 4294967296 w e in omega arith
first_back w false e h = mod-eq_of_lt (leb-false 4294967296 w e)

-- what is decoded is finite, whatever the words
pub meter_encodable : (count level peak : ℕ) → Encodable (meter_at count level peak)
unfolding meter_at
meter_encodable count level peak = record { counts = mod-lt count (lit< tt); finite = record { level = level_amount level; peak = level_amount peak } }

pub words_back : (m : Meter) → Encodable m → meter_of (meter_words m) ≡ m
unfolding meter_at meter_words
words_back m w =
    rw (count_back m.ticked m.count w.counts, mark_back m.ticked m.count w.counts, level_back m.gauge.level w.finite.level, level_back m.gauge.peak w.finite.peak)

pub meter_back : (count level peak : ℕ) → count < 8589934592 → level < infinity_bits → peak < infinity_bits → meter_words (meter_at count level peak) ≡ count ∷ level ∷ peak ∷ []
unfolding meter_at meter_words
meter_back count level peak h k l = rw (first_back count (leb 4294967296 count) refl h, bits_back level k, bits_back peak l)

-- ---- more bytes placed: the first word alone changes

same_count : (w c : ℕ) → c < 4294967296 → (w - w % 4294967296 + c) % 4294967296 ≡ c
same_count w c h = omega (arith, h)

same_mark : (w c : ℕ) → c < 4294967296 → leb 4294967296 (w - w % 4294967296 + c) ≡ leb 4294967296 w
same_mark w c h = go (leb 4294967296 w) refl
  where
    go : (b : Bool) → leb 4294967296 w ≡ b → leb 4294967296 (w - w % 4294967296 + c) ≡ b
    go true e = le-leb 4294967296 (w - w % 4294967296 + c) (let g : 4294967296 ≤ w = leb-true 4294967296 w e in omega (arith, g))
    go false e = lt-leb 4294967296 (w - w % 4294967296 + c) (let g : w < 4294967296 = leb-false 4294967296 w e in omega (arith, g, h))

pub counted-word : (w placed level peak : ℕ) → meter_at (counted_word w placed) level peak ≡ counted_meter (meter_at w level peak) placed
unfolding meter_at counted_word
counted-word w placed level peak =
    let h = counted-fits (w % 4294967296) placed in
    let count = same_count w (counted_bytes (w % 4294967296) placed) h in
    let mark = same_mark w (counted_bytes (w % 4294967296) placed) h in
    λ i. record { count = count i; ticked = mark i; gauge = record { level = level_at level; peak = level_at peak } }
