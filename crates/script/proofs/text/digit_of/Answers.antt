-- `digit_of` meets its contract: each `return` rewrites with the test that led there.
use borrow.Author.Tests.{lt-ltb, le-ltb}
use Rattle.script.proofs.text.digit_of.Goals as goal

pub returns-then-n-lt10 : goal.returns-then-n-lt10
returns-then-n-lt10 c = rw (lt-ltb _ _ c.if-n-lt10.true)

pub returns-else-n-lt10 : goal.returns-else-n-lt10
returns-else-n-lt10 c = rw (le-ltb _ _ c.if-n-lt10.false)
