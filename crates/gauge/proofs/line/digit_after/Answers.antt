-- `digit_after` meets its contract: the byte is no digit, or the number with it fits, or not.
use Rattle.gauge.proofs.Digits.{no_digit-under, no_digit-over, digit-fits, digit-over}
use Rattle.gauge.proofs.line.digit_after.Goals as goal

pub returns-then-b-lt48 : goal.returns-then-b-lt48
returns-then-b-lt48 c = let a = c.args in no_digit-under a.n a.b c.if-b-lt48.true

pub returns-then-b-gt57 : goal.returns-then-b-gt57
returns-then-b-gt57 c = let a = c.args in no_digit-over a.n a.b c.if-b-gt57.true

pub returns-then-v-le-LAST : goal.returns-then-v-le-LAST
returns-then-v-le-LAST c = let a = c.args in digit-fits a.n a.b _ c.if-b-lt48.false c.if-b-gt57.false c.wide.ensures c.if-v-le-LAST.true

pub returns : goal.returns
returns c = let a = c.args in digit-over a.n a.b _ c.if-b-lt48.false c.if-b-gt57.false c.wide.ensures c.if-v-le-LAST.false
