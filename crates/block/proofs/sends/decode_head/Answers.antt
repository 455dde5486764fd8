-- `decode_head` meets its contract: each number is taken from its word.
use lib.ListN.{get_or}
use Prim.Native.Nat.{◌/◌, ◌%◌}
use Rattle.block.proofs.sends.decode_head.Goals as goal

pub returns : goal.returns
returns c = λ i. record { msn = c.lower.ensures i; opcode = get_or c.args.g.now 0 0 / 4294967296 % 256; taken = c.lower-2.ensures i; count = c.upper.ensures i; buffer = c.buffer_in.ensures i }
