-- The marks so far are those of the last i windows.
use Prim.Native.Nat.{ℕ, ◌+◌, ◌-◌}
use mathlib.Core.Path.{◌≡◌, sym, ap, ◌∙◌}
use mathlib.Core.Bool.{Bool}
use native.Mathlib.Omega.{arith}
use lib.ListN.{drop}
use Rattle.memory.specs.Marks.{live_marks, pushed}
use Rattle.slots.proofs.Windows.{windows_of, marks_next, marks_end}
use Rattle.slots.proofs.window.load_marks.Goals as goal

pub loop-i-init : goal.loop-i-init
loop-i-init c = sym (marks_end c.args.words.now c.args.domain c.requires)

pub loop-i-preserved : goal.loop-i-preserved
loop-i-preserved c =
    let a = c.args in
    let i : ℕ = 15 - c.loop-i.i in
    let back : 16 - c.loop-i.i ≡ i + 1 = omega arith in
    let next : 16 - (c.loop-i.i + 1) ≡ i = omega arith in
    c.push-marks.ensures
    ∙ ap (λ (t : Bool). pushed c.loop-i.marks t) c.load_live.ensures
    ∙ marks_next a.words.now a.domain c.requires i c.loop-i.marks (omega arith)
    (c.loop-i.invariant ∙ ap (λ (k : ℕ). live_marks (drop k (windows_of a.words.now a.domain))) back)
    ∙ ap (λ (k : ℕ). live_marks (drop k (windows_of a.words.now a.domain))) (sym next)

pub returns : goal.returns
returns c =
    let a = c.args in
    let all : 16 - c.loop-i.i ≡ 0 = omega arith in
    c.loop-i.invariant ∙ ap (λ (k : ℕ). live_marks (drop k (windows_of a.words.now a.domain))) all
