-- `store_stream` meets its contract: the five groups follow one another in the block.
use native.Mathlib.Omega.{arith}
use Rattle.block.proofs.Streams.{stream_stored}
use Rattle.block.proofs.stream.store_stream.Goals as goal

pub returns : goal.returns
returns c =
    let a = c.args in
    let e = stream_stored a.words.now a.domain a.slot a.s (omega (arith, c.store_phase.ensures.2)) c.store_phase.new.words c.store_framing.new.words c.store_terminates.new.words c.store_sends.new.words c.store_reads.new.words
    c.store_phase.ensures.0 c.store_framing.ensures.0 c.store_terminates.ensures.0 c.store_sends.ensures.0 c.store_reads.ensures.0
    c.store_phase.ensures.1 c.store_framing.ensures.1 c.store_terminates.ensures.1 c.store_sends.ensures.1 c.store_reads.ensures.1
    in
    (e.0, e.1, c.store_phase.ensures.2)
