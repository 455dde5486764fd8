-- `decode` meets its contract: each field is what a callee or a word says.
use Prim.Native.Nat.{◌/◌, ◌%◌}
use lib.ListN.{get_or}
use Rattle.block.proofs.sends.decode.Goals as goal

pub returns : goal.returns
returns c = λ i. record { msn = c.lower.ensures i; opcode = get_or c.args.g.now 0 0 / 4294967296 % 256; taken = c.lower-2.ensures i; buffers = c.buffers_in.ensures i }
