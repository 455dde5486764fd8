-- `share` meets its contract: of two that start apart, the one that starts first reaches the other's start, or does not.
use mathlib.Core.Path.{◌≡◌, refl, sym, ap, ◌∙◌}
use mathlib.Core.Bool.{Bool, true, false}
use Prim.Native.Nat.{◌+◌, ◌-◌, ◌≤◌, ◌<◌}
use lib.Dec.{ltb}
use Rattle.wire.specs.Wire.{both}
use Rattle.memory.proofs.Laws.{ltb-same}
use Rattle.overlap.specs.Sharing.{shares}
use borrow.Author.Tests.{lt-ltb, le-ltb}
use native.Mathlib.Omega.{arith}
use Rattle.overlap.proofs.share.Goals as goal

both_true : (t : Bool) → t ≡ both t true
both_true true = refl
both_true false = refl

both_false : (t : Bool) → false ≡ both t false
both_false true = refl
both_false false = refl

pub returns-then-a-b : goal.returns-then-a-b
unfolding shares
returns-then-a-b c =
    let a = c.args in
    let h : a.a < a.b + a.m = omega (arith, c.if-a-b.true) in
    simp (lt-ltb _ _ h)
    (ltb-same (a.b - a.a) a.n a.b (a.a + a.n) (λ p. omega (arith, c.if-a-b.true)) (λ p. omega (arith, c.if-a-b.true)))

pub returns-then-b-a : goal.returns-then-b-a
unfolding shares
returns-then-b-a c =
    let a = c.args in
    let h : a.b < a.a + a.n = omega (arith, c.if-b-a.true) in
    ltb-same (a.a - a.b) a.m a.a (a.b + a.m) (λ p. omega (arith, c.if-b-a.true)) (λ p. omega (arith, c.if-b-a.true))
    ∙ both_true (ltb a.a (a.b + a.m))
    ∙ ap (both (ltb a.a (a.b + a.m))) (sym (lt-ltb _ _ h))

pub returns-else-n-gt0 : goal.returns-else-n-gt0
unfolding shares
returns-else-n-gt0 c =
    let a = c.args in
    let h : a.a + a.n ≤ a.b = omega arith in
    let none : a.n ≤ 0 = omega arith in
    le-ltb 0 a.n none ∙ both_false (ltb a.a (a.b + a.m)) ∙ ap (both (ltb a.a (a.b + a.m))) (sym (le-ltb _ _ h))

pub returns-then-n-gt0 : goal.returns-then-n-gt0
unfolding shares
returns-then-n-gt0 c =
    let a = c.args in
    let h : a.b < a.a + a.n = omega arith in
    ltb-same 0 a.m a.a (a.b + a.m) (λ p. omega arith) (λ p. omega arith)
    ∙ both_true (ltb a.a (a.b + a.m))
    ∙ ap (both (ltb a.a (a.b + a.m))) (sym (lt-ltb _ _ h))
