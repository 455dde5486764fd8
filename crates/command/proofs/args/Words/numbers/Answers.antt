-- `numbers` meets its contract: each number joins those before it, and a word that is none ends the matter (`Gathered`).
use Rattle.std.proofs.Common.{ℕ, ◌+◌, refl, sym, ◌∙◌, arith}
use Rattle.command.specs.Args.{listed, words_of, number_at, all_numbers}
use Rattle.command.proofs.Gathered.{value_joins, number_joins, none-counted, none_read, all_read}
use Rattle.command.proofs.args.Words.numbers.Goals as goal

pub returns-then-len-count : goal.returns-then-len-count
returns-then-len-count c = none-counted (words_of c.args.self.now) c.args.count (λ e. c.if-len-count.true (c.len.ensures ∙ e))

pub loop-i-init : goal.loop-i-init
unfolding listed all_numbers
loop-i-init c = (refl, refl)

pub loop-i-preserved : goal.loop-i-preserved
loop-i-preserved c =
    let g = sym c.number_or_zero.ensures ∙ c.in_ok-values.was in
    let f = λ (j : ℕ). number_at (words_of c.args.self.now) (j + 1) in (
      value_joins f c.loop-i.values c.loop-i.i c.in_ok-values.field-0 (omega arith) c.loop-i.invariant.0 g,
      number_joins f c.loop-i.i c.in_ok-values.field-0 c.loop-i.invariant.1 g,
    )

pub returns-in_err-values : goal.returns-in_err-values
returns-in_err-values c =
    c.from_residual.ensures ∙ none_read (words_of c.args.self.now) c.args.count c.loop-i.i (omega arith) (sym c.number_or_zero.ensures ∙ c.in_err-values.was)

pub returns : goal.returns
returns c = all_read (words_of c.args.self.now) c.args.count c.loop-i.values c.loop-i.i (omega arith) (sym c.len.ensures ∙ c.if-len-count.false) c.loop-i.invariant.0 c.loop-i.invariant.1
