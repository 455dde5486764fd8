-- `take_chunk` meets its contract: after each byte the state and the answers are those of the bytes so far.
use native.Mathlib.Omega.{arith}
use Rattle.gauge.proofs.Steps.{taken_none, taken-room, taken_more, taken-all}
use Rattle.gauge.proofs.run.take_chunk.Goals as goal

pub loop-b-init : goal.loop-b-init
loop-b-init g c = let a = c.args in taken_none a.state a.chunk.now _ c.clear.ensures

pub take_byte-now-requires : goal.take_byte-now-requires
take_byte-now-requires g c =
    let a = c.args in
    let h = taken-room g.row.N a.state a.chunk.now c.loop-b.out c.loop-b.now c.loop-b.b-index c.requires c.loop-b-test.true c.loop-b.invariant in
    omega (arith, h)

pub loop-b-preserved : goal.loop-b-preserved
loop-b-preserved g c = let a = c.args in taken_more a.state a.chunk.now c.loop-b.out _ c.loop-b.now c.take_byte-now.result c.loop-b.b-index c.loop-b-test.true c.loop-b.invariant c.take_byte-now.ensures

pub returns : goal.returns
returns g c = let a = c.args in taken-all a.state a.chunk.now c.loop-b.out c.loop-b.now c.loop-b.b-index c.loop-b-test.false c.loop-b.invariant
