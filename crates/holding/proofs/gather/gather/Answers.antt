-- `gather` meets its contract where the bytes are too few: all of them are put behind those held.
use Rattle.std.proofs.Common.{ℕ, ◌+◌, ◌<◌, take, length, ◌∙◌, arith}
use Rattle.holding.proofs.Rooms.{gathered_short, room_short}
use Rattle.holding.proofs.gather.gather.Goals as goal

pub returns-then-bytes-more : goal.returns-then-bytes-more
returns-then-bytes-more c =
    let a = c.args in
    let need = c.needed_of-n.ensures.0 in
    let less : c.held_in-h.result + length a.bytes.now < c.needed_of-n.result = omega (arith, c.if-bytes-more.true, c.if-h-n.true) in
    let held = c.held_in-h.ensures in
    let needs = rw held.2 at need in (
      gathered_short (take a.held a.room.now) a.bytes.now c.held_in-h.result c.needed_of-n.result held.0 needs less,
      c.place.ensures.1 ∙ room_short (take a.held a.room.now) a.bytes.now c.held_in-h.result c.needed_of-n.result held.0 needs less a.room.now,
    )
