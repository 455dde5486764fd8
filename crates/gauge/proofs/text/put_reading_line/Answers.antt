-- `put_reading_line` meets its contract: a newline behind the reading.
use Rattle.gauge.proofs.Places.{line_placed}
use Rattle.gauge.proofs.text.put_reading_line.Goals as goal

pub returns : goal.returns
returns g c = let a = c.args in line_placed g.row.N a.r a.out.now _ _ c.requires c.put_reading.ensures c.put.ensures
