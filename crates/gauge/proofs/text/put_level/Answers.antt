-- `put_level` meets its contract: a space, and the digits of the eight bytes of the bits.
use Rattle.gauge.proofs.Places.{level-placed}
use Rattle.gauge.proofs.text.put_level.Goals as goal

pub returns : goal.returns
returns g c = let a = c.args in level-placed g.row.N a.x c.level_bits-bits.result _ a.out.now _ _ c.requires c.level_bits-bits.ensures c.put_be64.ensures c.put.ensures c.put_hex.ensures
