-- `decode` meets its contract: each field is what a callee or a word says.
use Prim.Native.Nat.{◌/◌, ◌%◌}
use lib.ListN.{get_or}
use Rattle.block.specs.Words.{flag_in}
use Rattle.block.proofs.window.decode.Goals as goal

pub returns : goal.returns
returns c =
    λ i. record {
      live = flag_in (get_or c.args.g.now 0 0);
      key = get_or c.args.g.now 0 0 / 256 % 256;
      rights = get_or c.args.g.now 0 0 / 65536 % 256;
      place = c.lower.ensures i;
      len = c.upper.ensures i;
      base = get_or c.args.g.now 2 0;
    }
