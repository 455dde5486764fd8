-- The three values, joined by the bytes from here on, give what was to be given from the start.
use Rattle.std.proofs.Common.{◌≡◌, ◌*◌, ◌^◌, ◌<◌}
use Rattle.crc_bits.specs.Crc.{crc_run}
use Rattle.crc32c.proofs.Lanes.{joined}
use Rattle.crc32c.proofs.long.over_lanes.Given as goal

abbrev pub invariant-loop-x : goal.invariant-loop-x
invariant-loop-x l = record {
  a_fits : l.a < 2 ^ 32;
  b_fits : l.b < 2 ^ 32;
  c_fits : l.c < 2 ^ 32;
  joined : crc_run l.start l.s ≡ joined l.a l.b l.c l.s (24 * l.x-index);
}
