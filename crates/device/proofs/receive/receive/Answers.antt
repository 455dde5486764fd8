-- `receive` meets its contract: the number and the length decide, and the rest is `receive_owned`.
use mathlib.Core.Path.{◌≡◌, refl, sym, ◌∙◌}
use borrow.Author.Tests.{le-leb, lt-leb, eq-eqb, ne_eqb}
use Rattle.rnic.specs.Rnic.{rnic_received, rnic_received_store}
use Rattle.block.proofs.Stored.{len_at}
use Prim.Native.Nat.{ℕ, ◌<◌}
use Rattle.slots.specs.declared.place.StreamPlace.{StreamPlace}
use Rattle.std.specs.Prelude.{None, Option, Some, IfNone}
use Rattle.device.proofs.receive.receive.Goals as goal

-- where no place is found, the number is past the last stream
past : (r : Option StreamPlace) (n : ℕ) → ((at : StreamPlace) → r ≡ Some at → ⊥) → IfNone r (15 < n) → 15 < n
past None n h k = k
past (Some at) n h k = absurd (h at refl)

pub returns-then-store-len : goal.returns-then-store-len
unfolding rnic_received rnic_received_store
returns-then-store-len c =
    let a = c.args in
    let h = le-leb _ _ (rw c.in-Some.is at c.of.ensures.found).0 in
    let k = eq-eqb _ _ (c.if-store-len.true ∙ c.load_len-len.ensures ∙ sym (len_at a.words.now)) in
    (simp (h, k) c.receive_owned.ensures.0, simp (h, k) c.receive_owned.ensures.1, simp (h, k) c.receive_owned.ensures.2)

pub returns-in_default : goal.returns-in_default
unfolding rnic_received rnic_received_store
returns-in_default c =
    let h = lt-leb _ _ (past c.of.result c.args.stream c.in_default.not-Some c.of.ensures.none) in
    (simp h c.refused_words.ensures, simp h, simp h)

pub returns : goal.returns
unfolding rnic_received rnic_received_store
returns c =
    let a = c.args in
    let h = le-leb _ _ (rw c.in-Some.is at c.of.ensures.found).0 in
    let k = ne_eqb _ _ (λ e. c.if-store-len.false (e ∙ len_at a.words.now ∙ sym c.load_len-len.ensures)) in
    (simp (h, k) c.refused_words-2.ensures, simp (h, k), simp (h, k))
