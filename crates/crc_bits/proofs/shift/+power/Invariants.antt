-- The measure is the length, which is halved at each call until nothing is left.
use Rattle.crc_bits.proofs.shift.+power.Given as goal

abbrev pub decreases-power : goal.decreases-power
decreases-power l = l.n
