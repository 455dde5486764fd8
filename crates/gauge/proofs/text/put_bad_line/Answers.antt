-- `put_bad_line` meets its contract.
use native.Mathlib.Omega.{arith}
use Rattle.gauge.proofs.Places.{placed_one}
use Rattle.gauge.proofs.text.put_bad_line.Goals as goal

pub returns : goal.returns
returns g c = placed_one g.row.N _ c.args.out.now _ (omega (arith, c.requires)) c.put.ensures
