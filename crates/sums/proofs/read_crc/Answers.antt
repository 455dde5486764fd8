-- `read_crc` meets its contract: eight digits are four bytes, whose number the CRC is (`Words`).
use Rattle.std.proofs.Common.{sym, ap, ◌∙◌, Some}
use lib.ListN.{length}
use borrow.Author.Tests.{ne_eqb}
use Rattle.sums.specs.Sums.{crc_word}
use Rattle.sums.proofs.Words.{crc_read, crc_none}
use Rattle.sums.proofs.read_crc.Goals as goal

pub returns-then-w-ne8 : goal.returns-then-w-ne8
unfolding crc_word
returns-then-w-ne8 c = rw (ne_eqb (length c.args.w.now) 8 c.if-w-ne8.true)

pub returns-in_err-decode : goal.returns-in_err-decode
returns-in_err-decode c = c.from_residual.ensures ∙ crc_none c.args.w.now c.if-w-ne8.false (sym c.decode.ensures.count ∙ c.in_err-decode.was)

pub returns : goal.returns
returns c =
    ap Some c.get_be32.ensures
    ∙ crc_read c.args.w.now c.if-w-ne8.false c.in_ok-decode.field-0 c.decode.new.out c.decode.auto.out c.in_ok-decode.ensures.front (sym c.decode.ensures.count ∙ c.in_ok-decode.was)
