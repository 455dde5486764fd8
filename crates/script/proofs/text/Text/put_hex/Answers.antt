-- `put_hex` meets its contract: no bytes are `-`, and of some the digits are appended where all of them fit.
use Rattle.std.proofs.Common.{rules}
use Rattle.script.proofs.Appended.{appended_same}
use Rattle.script.proofs.Hexed.{digits_none, hex_turn, hex_all, hex_not, text_none}
use Rattle.script.proofs.text.Text.put_hex.Goals as goal

pub returns-then-is_empty : goal.returns-then-is_empty
returns-then-is_empty g c = appended_same g.row.N _ (text_none c.args.bytes.now (search rules)) c.put.ensures

pub returns-then-room-bytes : goal.returns-then-room-bytes
returns-then-room-bytes g c = hex_not g.row.N _ _ _ (search rules) c.room.ensures c.if-room-bytes.true

pub loop-b-init : goal.loop-b-init
loop-b-init g c = digits_none _ c.args.bytes.now

pub loop-b-preserved : goal.loop-b-preserved
loop-b-preserved g c =
    hex_turn _ _ _ _ c.loop-b.invariant g.row.N _ _ _ _ c.loop-b-test.true c.room.ensures c.if-room-bytes.false c.put-in-loop-b.ensures c.digit_of.ensures c.digit_of-in-loop-b.ensures

pub returns : goal.returns
returns g c = hex_all _ _ _ _ c.loop-b.invariant g.row.N _ c.loop-b-test.false (search rules) c.room.ensures c.if-room-bytes.false
