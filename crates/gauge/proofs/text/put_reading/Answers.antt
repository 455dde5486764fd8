-- `put_reading` meets its contract: the name is appended, and each float behind it.
use Rattle.gauge.proofs.Places.{quiet-placed, steady-room, falling-room, level-room, steady-placed, falling-placed}
use native.Mathlib.Omega.{arith}
use Rattle.gauge.proofs.text.put_reading.Goals as goal

pub put_level-requires : goal.put_level-requires
put_level-requires g c = let h = steady-room g.row.N c.args.out.now _ c.requires c.put-in-Steady.ensures in omega (arith, h)

pub put_level-requires-in-Falling : goal.put_level-requires-in-Falling
put_level-requires-in-Falling g c = let h = falling-room g.row.N c.args.out.now _ c.requires c.put-in-Falling.ensures in omega (arith, h)

pub put_level-requires-in-Falling-2 : goal.put_level-requires-in-Falling-2
put_level-requires-in-Falling-2 g c =
    let h = level-room g.row.N _ _ _ (falling-room g.row.N c.args.out.now _ c.requires c.put-in-Falling.ensures) c.put_level-in-Falling.ensures in
    omega (arith, h)

pub returns-in-Quiet : goal.returns-in-Quiet
returns-in-Quiet g c = let a = c.args in quiet-placed g.row.N a.r a.out.now _ c.in-Quiet.is c.requires c.put.ensures

pub returns-in-Steady : goal.returns-in-Steady
returns-in-Steady g c = let a = c.args in steady-placed g.row.N a.r _ a.out.now _ _ c.in-Steady.is c.requires c.put-in-Steady.ensures c.put_level.ensures

pub returns-in-Falling : goal.returns-in-Falling
returns-in-Falling g c = let a = c.args in falling-placed g.row.N a.r _ _ a.out.now _ _ _ c.in-Falling.is c.requires c.put-in-Falling.ensures c.put_level-in-Falling.ensures c.put_level-in-Falling-2.ensures
