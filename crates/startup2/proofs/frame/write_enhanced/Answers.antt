-- `write_enhanced` meets its contract: what is admitted is written whole.
use Prim.Native.Nat.{ℕ, ◌+◌}
use mathlib.Core.Bool.{true}
use mathlib.Core.List.{List, ◌++◌}
use mathlib.Core.Path.{◌≡◌, ap, ◌∙◌}
use native.Mathlib.Omega.{arith}
use Rattle.wire.specs.Wire.{put}
use Rattle.mpa.proofs.Frames.{written}
use Rattle.startup2.specs.Terms.{terms_of}
use Rattle.startup2.specs.Frame.{flags2_of, startup2_of}
use Rattle.startup2.proofs.Puts.{enhanced_put}
use Rattle.startup2.proofs.frame.write_enhanced.Goals as goal

pub returns : goal.returns
returns c =
    let a = c.args in
    let f : c.flags_of.result + 16 ≡ flags2_of a.crc a.declined true = omega (arith, c.flags_of.ensures) in
    written _ _ a.out.now (startup2_of a.reply a.crc a.declined true (terms_of a.terms ++ a.private_data.now)) _
    (c.copy.ensures
    ∙ ap (λ (z : List ℕ). put z 24 a.private_data.now) (c.put_terms.ensures ∙ ap (λ (z : List ℕ). put z 20 (terms_of a.terms)) c.put_head.ensures)
    ∙ enhanced_put a.reply a.crc a.declined _ a.terms a.out.now a.private_data.now f)
    c.in_ok-total.ensures.answer
