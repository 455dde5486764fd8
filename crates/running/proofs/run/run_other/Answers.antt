-- `run_other` meets its contract: a command on messages asks nothing of the device and the store.
use mathlib.Core.Path.{sym, ◌∙◌}
use lib.ListN.{length, take}
use borrow.Author.Tests.{le-leb}
use Rattle.running.proofs.Sent.{sent-text}
use Rattle.running.proofs.run.run_other.Goals as goal

pub returns-then-is_sending-clause-state : goal.returns-then-is_sending-clause-state
returns-then-is_sending-clause-state g c =
    let a = c.args in
    rw (
      le-leb a.count (length a.line.now) c.if-line-count.false,
      sent-text a.kept (length a.bytes.now) (length a.store.now) (take a.count a.line.now) (sym c.is_sending.ensures ∙ c.if-is_sending.true),
    )

pub returns-then-is_sending-clause-rest : goal.returns-then-is_sending-clause-rest
returns-then-is_sending-clause-rest g c =
    let a = c.args in
    rw (
      le-leb a.count (length a.line.now) c.if-line-count.false,
      sent-text a.kept (length a.bytes.now) (length a.store.now) (take a.count a.line.now) (sym c.is_sending.ensures ∙ c.if-is_sending.true),
    )
