-- `write_second` meets its contract: what is admitted is written whole.
use Prim.Native.Nat.{ℕ}
use mathlib.Core.Bool.{false}
use mathlib.Core.List.{List}
use mathlib.Core.Path.{◌≡◌, ap, ◌∙◌}
use native.Mathlib.Omega.{arith}
use Rattle.wire.specs.Wire.{put}
use Rattle.mpa.proofs.Frames.{written}
use Rattle.startup2.specs.Frame.{flags2_of, startup2_of}
use Rattle.startup2.proofs.Puts.{second_put}
use Rattle.startup2.proofs.frame.write_second.Goals as goal

pub returns : goal.returns
returns c =
    let a = c.args in
    let f : c.flags_of.result ≡ flags2_of a.crc a.declined false = omega (arith, c.flags_of.ensures) in
    written _ _ a.out.now (startup2_of a.reply a.crc a.declined false a.private_data.now) _
    (c.copy.ensures ∙ ap (λ (z : List ℕ). put z 20 a.private_data.now) c.put_head.ensures ∙ second_put a.reply a.crc a.declined _ a.out.now a.private_data.now f)
    c.in_ok-total.ensures.answer
