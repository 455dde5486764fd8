-- `receive_owned` meets its contract: the part decides, and the owner's bytes are what the slot's receive gives.
use Prim.Native.Nat.{◌/◌, ◌%◌}
use mathlib.Core.Path.{sym, ap, ◌∙◌}
use native.Mathlib.Omega.{arith}
use lib.ListN.{length}
use Rattle.memory.proofs.Laws.{fits-ends}
use Rattle.memory.specs.declared.part.Part.{Part}
use Rattle.memory.specs.Part.{part_fits}
use Rattle.rnic.specs.Rnic.{domain_at, with_domain, bytes_of, received_owned, received_owned_store}
use Rattle.calls.specs.Words.{answer_words}
use Rattle.block.specs.Device.{rnic_at}
use Rattle.block.proofs.Stored.{part_at}
use Rattle.device.proofs.Offered.{receives_lifted}
use Rattle.device.proofs.receive.receive_owned.Goals as goal
use Rattle.std.specs.Prelude.{Result}
use Rattle.domain.specs.declared.Domain.{Domain}
use Rattle.wire.specs.declared.refusal.LocalRefusal.{LocalRefusal}
use Rattle.arrival.specs.declared.Answer.{Answer}

pub slice_bounds-receive_slot-count : goal.slice_bounds-receive_slot-count
slice_bounds-receive_slot-count c = (fits-ends _ _ (sym c.fits_in.ensures ∙ c.if-fits_in.true)).0

pub slice_bounds-receive_slot-start : goal.slice_bounds-receive_slot-start
slice_bounds-receive_slot-start c = (fits-ends _ _ (sym c.fits_in.ensures ∙ c.if-fits_in.true)).0

pub slice_bounds-receive_slot-end : goal.slice_bounds-receive_slot-end
slice_bounds-receive_slot-end c = (fits-ends _ _ (sym c.fits_in.ensures ∙ c.if-fits_in.true)).1

pub returns-then-fits_in : goal.returns-then-fits_in
unfolding received_owned received_owned_store
returns-then-fits_in c =
    let a = c.args in
    let own = rw c.requires.0 at c.load_part-part.ensures ∙ sym (part_at a.words.now _ (rw c.requires.0 at a.at.domain_in_range)) in
    let fits = ap (λ (p : Part). part_fits p (length a.store.now)) (sym own) ∙ sym c.fits_in.ensures ∙ c.if-fits_in.true in
    let told = rw (c.requires.0, c.requires.1) at c.receive_slot.ensures in
    let t = receives_lifted (domain_at (rnic_at a.words.now) (a.stream / 4)) (a.stream / 4) (a.stream % 4) a.bytes.now (omega arith) in
    (simp fits (told.0 ∙ ap (λ (r : Result Answer LocalRefusal × Domain). answer_words r.0) t.0), simp fits (told.1 ∙ ap (λ (r : Result Answer LocalRefusal × Domain). with_domain (rnic_at a.words.now) (a.stream / 4) r.1) t.0), simp (fits, told.2, own, t.1 (bytes_of (domain_at (rnic_at a.words.now) (a.stream / 4)) a.store.now)))

pub returns : goal.returns
unfolding received_owned received_owned_store
returns c =
    let a = c.args in
    let own = rw c.requires.0 at c.load_part-part.ensures ∙ sym (part_at a.words.now _ (rw c.requires.0 at a.at.domain_in_range)) in
    let fits = ap (λ (p : Part). part_fits p (length a.store.now)) (sym own) ∙ sym c.fits_in.ensures ∙ c.if-fits_in.false in
    (simp fits c.refused_words.ensures, simp fits, simp fits)
