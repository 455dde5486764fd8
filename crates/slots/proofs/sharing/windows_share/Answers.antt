-- What is known so far is that of the windows before i.
use Prim.Native.Nat.{ℕ, ◌+◌}
use mathlib.Core.Bool.{Bool}
use mathlib.Core.Path.{◌≡◌, refl, sym, ap, ◌∙◌}
use native.Mathlib.Omega.{arith}
use lib.ListN.{drop}
use Rattle.memory.specs.declared.window.Window.{Window}
use Rattle.overlap.specs.Sharing.{either, window_shares, windows_share}
use Rattle.slots.proofs.Windows.{windows_of}
use Rattle.slots.proofs.Shared.{either_turn, either_false, windows_end, windows_next}
use Rattle.slots.proofs.sharing.windows_share.Goals.{then-window_shares, else-window_shares}
use Rattle.slots.proofs.sharing.windows_share.Goals as goal

pub loop-i-preserved : goal.loop-i-preserved
loop-i-preserved c =
    let a = c.args in
    let joined : either c.window_shares.result c.loop-i.shared ≡ c.if-window_shares.shared =
    elim c.if-window_shares.branch [
      | then-window_shares w ↦ ap (λ (b : Bool). either b c.loop-i.shared) w.if-window_shares.true ∙ sym w.shared-is
      | else-window_shares w ↦ ap (λ (b : Bool). either b c.loop-i.shared) w.if-window_shares.false ∙ sym w.shared-is
    ] in
    c.loop-i.invariant
    ∙ ap (λ (b : Bool). either c.loop-i.shared b) (sym (windows_next a.words.now a.domain c.requires a.place a.len c.loop-i.i c.window_shares.result _ (omega arith) (c.window_shares.ensures ∙ ap (λ (x : Window). window_shares x a.place a.len) c.load_window.ensures) refl))
    ∙ either_turn c.loop-i.shared c.window_shares.result _
    ∙ ap (λ (b : Bool). either b (windows_share (drop (c.loop-i.i + 1) (windows_of a.words.now a.domain)) a.place a.len)) joined

pub returns : goal.returns
returns c =
    let a = c.args in
    let all : c.loop-i.i ≡ 16 = omega arith in
    sym
    (c.loop-i.invariant
    ∙ ap (λ (k : ℕ). either c.loop-i.shared (windows_share (drop k (windows_of a.words.now a.domain)) a.place a.len)) all
    ∙ ap (λ (b : Bool). either c.loop-i.shared b) (windows_end a.words.now a.domain c.requires a.place a.len)
    ∙ either_false c.loop-i.shared)
