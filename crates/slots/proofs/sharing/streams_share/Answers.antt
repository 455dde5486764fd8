-- What is known so far is that of the streams before i.
use Prim.Native.Nat.{ℕ, ◌+◌}
use mathlib.Core.Bool.{Bool}
use mathlib.Core.Path.{◌≡◌, refl, sym, ap, ◌∙◌}
use native.Mathlib.Omega.{arith}
use lib.ListN.{drop}
use Rattle.overlap.specs.Sharing.{either, streams_share}
use Rattle.slots.proofs.Shared.{streams_of, either_turn, either_false, streams_end, streams_next}
use Rattle.slots.proofs.sharing.streams_share.Goals.{then-slot_shares, else-slot_shares}
use Rattle.slots.proofs.sharing.streams_share.Goals as goal

pub loop-i-preserved : goal.loop-i-preserved
loop-i-preserved c =
    let a = c.args in
    let joined : either c.slot_shares.result c.loop-i.shared ≡ c.if-slot_shares.shared =
    elim c.if-slot_shares.branch [
      | then-slot_shares w ↦ ap (λ (b : Bool). either b c.loop-i.shared) w.if-slot_shares.true ∙ sym w.shared-is
      | else-slot_shares w ↦ ap (λ (b : Bool). either b c.loop-i.shared) w.if-slot_shares.false ∙ sym w.shared-is
    ] in
    c.loop-i.invariant
    ∙ ap (λ (b : Bool). either c.loop-i.shared b) (sym (streams_next a.words.now a.domain c.requires a.place a.len c.loop-i.i c.slot_shares.result _ (omega arith) (c.slot_shares.ensures) refl))
    ∙ either_turn c.loop-i.shared c.slot_shares.result _
    ∙ ap (λ (b : Bool). either b (streams_share (drop (c.loop-i.i + 1) (streams_of a.words.now a.domain)) a.place a.len)) joined

pub returns : goal.returns
returns c =
    let a = c.args in
    let all : c.loop-i.i ≡ 4 = omega arith in
    sym
    (c.loop-i.invariant
    ∙ ap (λ (k : ℕ). either c.loop-i.shared (streams_share (drop k (streams_of a.words.now a.domain)) a.place a.len)) all
    ∙ ap (λ (b : Bool). either c.loop-i.shared b) (streams_end a.words.now a.domain c.requires a.place a.len)
    ∙ either_false c.loop-i.shared)
