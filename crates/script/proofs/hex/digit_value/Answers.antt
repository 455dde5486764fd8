use Rattle.std.proofs.Common.{arith}
use Rattle.std.proofs.lemmas.Bool.Decides.{nat_tests}
use Rattle.script.specs.Hex.{nibble}
use Rattle.script.proofs.hex.digit_value.Goals as goal

pub returns-clause-value : goal.returns-clause-value
unfolding nibble
returns-clause-value c = grind (arith, nat_tests)
