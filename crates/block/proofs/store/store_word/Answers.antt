-- `store_word` meets its contract: one store is one word put.
use Rattle.block.proofs.Lists.{set-put}
use Rattle.block.proofs.store.store_word.Goals as goal

pub returns : goal.returns
returns c = set-put c.args.dst.now c.args.at c.args.x c.requires
