-- `gather` meets its contract: bytes that fit stand behind those that are gathered, or alone once these are written.
use native.Mathlib.Omega.{arith}
use Rattle.replay.proofs.Gathered.{gathered-behind, gathered_alone, gathered_none}
use Rattle.replay.proofs.output.gather.Goals as goal

pub returns-then-more-room-clause-bytes : goal.returns-then-more-room-clause-bytes
returns-then-more-room-clause-bytes g c =
    let a = c.args in
    gathered-behind g.row.N a.out.now a.more.now _ (omega (arith, c.room.ensures, c.if-more-room.true)) c.put.ensures

pub returns-then-more-clause-bytes : goal.returns-then-more-clause-bytes
returns-then-more-clause-bytes g c =
    let a = c.args in
    gathered_alone g.row.N a.out.now a.more.now _ _ (omega (arith, c.room.ensures, c.if-more-room.false)) c.if-more.true c.clear.ensures c.put-then-more.ensures

pub returns-clause-bytes : goal.returns-clause-bytes
returns-clause-bytes g c =
    let a = c.args in
    gathered_none g.row.N a.out.now a.more.now _ (omega (arith, c.room.ensures)) (omega (arith, c.if-more.false)) c.clear-2.ensures
