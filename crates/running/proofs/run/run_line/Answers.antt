-- `run_line` meets its contract: a command on offers is none on messages.
use mathlib.Core.Path.{sym, ◌∙◌}
use Rattle.running.proofs.Offers.{offers_unsent}
use Rattle.running.proofs.run.run_line.Goals as goal

pub returns-then-offers-clause-message : goal.returns-then-offers-clause-message
returns-then-offers-clause-message g c = let a = c.args in rw (offers_unsent a.line.now a.count (sym c.offers.ensures ∙ c.if-offers.true))

pub returns-then-offers-clause-held : goal.returns-then-offers-clause-held
returns-then-offers-clause-held g c = let a = c.args in rw (offers_unsent a.line.now a.count (sym c.offers.ensures ∙ c.if-offers.true))
