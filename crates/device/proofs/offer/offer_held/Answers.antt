-- `offer_held` meets its contract: by what is gathered, as proofs/Offered.antt has it.
use Prim.Native.Nat.{ℕ}
use mathlib.Core.List.{List}
use mathlib.Core.Path.{sym, ap, ◌∙◌}
use native.Mathlib.Omega.{arith}
use lib.ListN.{length, take}
use lib.Seq.{length-take-le}
use Rattle.rdmap.specs.declared.framing.Framing.{Framing}
use Rattle.holding.proofs.Rooms.{room-length}
use Rattle.calls.specs.Words.{offered_words}
use Rattle.device.proofs.Offered.{held_kept, held-taken, enough-fits}
use Rattle.device.proofs.offer.offer_held.Goals as goal

pub slice_bounds-pending-end : goal.slice_bounds-pending-end
slice_bounds-pending-end c =
    let a = c.args in
    let fits = enough-fits a.words.now a.at.domain a.at.slot a.at.domain_in_range a.at.slot_in_range a.part a.bytes.now a.store.now a.room.now c.requires.0 a.framing c.requires.1 c.hold.result c.hold.new.words c.hold.new.room c.hold.ensures.0 c.hold.ensures.1 c.hold.ensures.2 c.requires.3 c.requires.2 _ c.in-Enough.is in
    omega (arith, fits, c.requires.3, ap length c.hold.ensures.2 ∙ room-length (take a.framing.held a.room.now) a.bytes.now a.room.now)

pub slice_bounds-pending-end-in-Enough : goal.slice_bounds-pending-end-in-Enough
slice_bounds-pending-end-in-Enough c =
    let a = c.args in
    let fits = enough-fits a.words.now a.at.domain a.at.slot a.at.domain_in_range a.at.slot_in_range a.part a.bytes.now a.store.now a.room.now c.requires.0 a.framing c.requires.1 c.hold.result c.hold.new.words c.hold.new.room c.hold.ensures.0 c.hold.ensures.1 c.hold.ensures.2 c.requires.3 c.requires.2 _ c.in-Enough.is in
    sym (length-take-le _ _ (omega (arith, fits, c.requires.3, ap length c.hold.ensures.2 ∙ room-length (take a.framing.held a.room.now) a.bytes.now a.room.now)))

pub returns-in-Short : goal.returns-in-Short
returns-in-Short c =
    let a = c.args in
    let t = held_kept a.words.now a.at.domain a.at.slot a.at.domain_in_range a.at.slot_in_range a.part a.bytes.now a.store.now a.room.now c.requires.0 a.framing c.requires.1 c.hold.result c.hold.new.words c.hold.new.room c.hold.ensures.0 c.hold.ensures.1 c.hold.ensures.2 _ c.in-Short.is in
    (c.kept_words.ensures ∙ t.0, t.1, t.2, t.3)

pub returns-in-Enough : goal.returns-in-Enough
returns-in-Enough c =
    let a = c.args in
    let l : List ℕ = c.first_words.new.answer in
    let t = held-taken a.words.now a.at.domain a.at.slot a.at.domain_in_range a.at.slot_in_range a.part a.bytes.now a.store.now a.room.now c.requires.0 a.framing c.requires.1 c.hold.result c.hold.new.words c.hold.new.room c.hold.ensures.0 c.hold.ensures.1 c.hold.ensures.2 c.requires.3 c.requires.2 _ c.in-Enough.is l c.first_words.new.words c.first_words.new.store c.first_words.ensures in
    let count = c.held_in-count.ensures.0 ∙ ap (λ (f : Framing). length (take f.held a.room.now)) c.requires.1 in
    (c.offered.ensures ∙ ap (λ (n : ℕ). offered_words l n (length a.bytes.now)) count ∙ t.0, t.1, t.2, t.3)
