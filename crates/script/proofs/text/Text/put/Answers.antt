-- `put` meets its contract: what fits is put behind the bytes that are there, and what does not changes nothing.
use Rattle.std.proofs.Common.{rules}
use Rattle.script.proofs.Appended.{put_fit, put_not}
use Rattle.script.proofs.text.Text.put.Goals as goal

pub returns-then-w-self : goal.returns-then-w-self
returns-then-w-self g c = put_fit g.row.N c.self.inside.bytes c.self.inside.len _ _ (search rules) c.self.invariant c.self.view_is c.copy.ensures c.if-w-self.true

pub returns-else-w-self : goal.returns-else-w-self
returns-else-w-self g c = put_not g.row.N c.self.inside.bytes c.self.inside.len _ _ (search rules) c.self.invariant c.self.view_is c.if-w-self.false
