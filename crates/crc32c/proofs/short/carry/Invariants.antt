-- The bytes that are left give from here what was to be given.
use Rattle.std.proofs.Common.{◌≡◌, ◌*◌, drop}
use Rattle.crc_bits.specs.Crc.{crc_run}
use Rattle.crc32c.proofs.short.carry.Given as goal

abbrev pub invariant-loop-eight : goal.invariant-loop-eight
invariant-loop-eight l = crc_run l.start l.s ≡ crc_run l.c (drop (8 * l.eight-index) l.s)

abbrev pub invariant-loop-b : goal.invariant-loop-b
invariant-loop-b l = crc_run l.start l.s ≡ crc_run l.c (drop l.b-index l.rest)
