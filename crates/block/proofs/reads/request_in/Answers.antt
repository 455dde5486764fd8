-- `request_in` meets its contract: each field is what a callee or a word says.
use Prim.Native.Nat.{◌+◌}
use lib.ListN.{get_or}
use Rattle.block.proofs.reads.request_in.Goals as goal

pub returns : goal.returns
returns c =
    let a = c.args in
    λ i. record {
      sink_stag = c.lower.ensures i;
      sink_to = get_or a.g.now (a.at + 2) 0;
      size = c.lower-2.ensures i;
      source_stag = c.upper.ensures i;
      source_to = get_or a.g.now (a.at + 3) 0;
    }
