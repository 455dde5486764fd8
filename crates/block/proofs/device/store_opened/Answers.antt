-- `store_opened` meets its contract: each store changes one group of the device that the cleared block holds.
use Rattle.block.proofs.Opened.{opened_stored}
use Rattle.block.proofs.device.store_opened.Goals as goal

pub returns : goal.returns
returns c =
    let a = c.args in
    opened_stored c.clear_block.new.words c.store_len.new.words c.store_part.new.words c.store_part-2.new.words c.store_part-3.new.words c.store_part-4.new.words a.len a.p0 a.p1 a.p2 a.p3
    c.clear_block.ensures c.store_len.ensures c.store_part.ensures c.store_part-2.ensures c.store_part-3.ensures c.store_part-4.ensures
