-- The sum, carried on over the bits that are left, and the product of what is left of p are the product.
use Rattle.std.proofs.Common.{rules, arith, ◌≡◌, sym, ap, ◌∙◌, ℕ, add-one, ◌+◌, ◌-◌, ◌*◌, ◌/◌, ◌%◌, ◌^◌, ◌<◌}
use lib.Dec.{lit<}
use lib.Bits.{bit_xor, xor_zero_l, xor_zero_r}
use Rattle.crc_bits.specs.Crc.{crc_bit, crc_bits_of}
use Rattle.crc_bits.specs.Shift.{times_bits, times}
use Rattle.crc_bits.proofs.Shifts.{bits_zero, times_bits-none, times_bits_turn}
use Rattle.crc_bits.proofs.shift.times.Goals as goal

-- nothing is summed up yet
start : (p q : ℕ) → times p q ≡ bit_xor (crc_bits_of 32 0) (times_bits 32 p q)
unfolding times
start p q = sym (ap (λ (n : ℕ). bit_xor n (times_bits 32 p q)) (bits_zero 32) ∙ xor_zero_l (times_bits 32 p q))

-- one bit of those that are left
turn : (k m sum p q : ℕ) → k ≡ m + 1 → sum < 2 ^ 32 → q < 2 ^ 32
    → bit_xor (crc_bits_of k sum) (times_bits k p q) ≡ bit_xor (crc_bits_of m (bit_xor (crc_bit sum) (p % 2 * q))) (times_bits m (p / 2) q)
turn k m sum p q e hs hq = rw (e, add-one) (times_bits_turn m sum p q hs hq)

-- none is left
end : (k sum p q : ℕ) → k ≡ 0 → bit_xor (crc_bits_of k sum) (times_bits k p q) ≡ sum
end k sum p q e = rw e (ap (bit_xor sum) (times_bits-none p q) ∙ xor_zero_r sum)

pub loop-init : goal.loop-init
loop-init c = (lit< tt, start c.args.p c.args.q)

pub loop-preserved : goal.loop-preserved
loop-preserved c = (
  search rules,
  c.loop.invariant.1
      ∙ turn (32 - c.loop.counter) (32 - (c.loop.counter + 1)) c.loop.sum c.loop.left c.args.q (omega arith) c.loop.invariant.0 (search rules)
      ∙ ap (λ (n : ℕ). bit_xor (crc_bits_of (32 - (c.loop.counter + 1)) n) (times_bits (32 - (c.loop.counter + 1)) (c.loop.left / 2) c.args.q)) (sym c.summed-sum.ensures),
)

pub returns : goal.returns
returns c = sym (c.loop.invariant.1 ∙ end (32 - c.loop.counter) c.loop.sum c.loop.left c.args.q (omega arith))
