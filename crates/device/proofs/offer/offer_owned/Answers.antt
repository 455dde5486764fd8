-- `offer_owned` meets its contract: the part decides, and the owner's bytes and the stream's room are what the slot's offer gives.
use Prim.Native.Nat.{ℕ, ◌+◌, ◌-◌, ◌*◌, ◌/◌, ◌%◌}
use mathlib.Core.Path.{◌≡◌, sym, ap, ap₂, ◌∙◌}
use mathlib.Core.List.{List}
use borrow.Rule.Slice.PartMut.{mid_of, put_mid}
use Rattle.block.specs.Device.{rnic_at}
use Rattle.device.specs.Lifted.{offered_rnic_of, offered_bytes_of, offered_room_of, offer_answer_of}
use native.Mathlib.Omega.{arith}
use lib.ListN.{length}
use borrow.Author.Tests.{le-leb}
use Rattle.memory.proofs.Laws.{fits-ends}
use Rattle.memory.specs.declared.part.Part.{Part}
use Rattle.memory.specs.Part.{part_fits}
use Rattle.holding.specs.Pending.{room_bytes}
use Rattle.holding.specs.Offer.{domain_offered, domain_offered_bytes}
use Rattle.rnic.specs.Offer.{offered_owned, offered_owned_store, offered_owned_rooms}
use Rattle.calls.specs.Words.{offer_words}
use Rattle.block.proofs.Stored.{part_at}
use Rattle.device.proofs.offer.offer_owned.Goals as goal

pub slice_bounds-offer_slot-count : goal.slice_bounds-offer_slot-count
slice_bounds-offer_slot-count c = (fits-ends _ _ (sym c.fits_in.ensures ∙ c.if-fits_in.true)).0

pub slice_bounds-offer_slot-start : goal.slice_bounds-offer_slot-start
slice_bounds-offer_slot-start c = (fits-ends _ _ (sym c.fits_in.ensures ∙ c.if-fits_in.true)).0

pub slice_bounds-offer_slot-end : goal.slice_bounds-offer_slot-end
slice_bounds-offer_slot-end c = (fits-ends _ _ (sym c.fits_in.ensures ∙ c.if-fits_in.true)).1

pub returns-then-fits_in : goal.returns-then-fits_in
unfolding offered_owned offered_owned_store offered_owned_rooms domain_offered domain_offered_bytes
returns-then-fits_in c =
    let a = c.args in
    let own = rw c.requires.0 at c.load_part-part.ensures ∙ sym (part_at a.words.now _ (rw c.requires.0 at a.at.domain_in_range)) in
    let fits = ap (λ (p : Part). part_fits p (length a.store.now)) (sym own) ∙ sym c.fits_in.ensures ∙ c.if-fits_in.true in
    let k = le-leb (a.stream % 4) 3 (omega arith) in
    let b = rnic_at a.words.now in
    let room : a.stream * room_bytes + room_bytes - a.stream * room_bytes ≡ room_bytes = omega arith in
    let told = rw (c.requires.0, c.requires.1) at c.offer_slot.ensures in
    let answer = told.0 ∙ ap (λ (m : ℕ). offer_words (offer_answer_of b (a.stream / 4) (a.stream % 4) (mid_of (a.stream * room_bytes) m a.rooms.now) a.bytes.now)) room in
    let device = told.1 ∙ ap (λ (m : ℕ). offered_rnic_of b (a.stream / 4) (a.stream % 4) (mid_of (a.stream * room_bytes) m a.rooms.now) a.bytes.now) room in
    let bytes = told.2 ∙ (λ i. offered_bytes_of b (a.stream / 4) (a.stream % 4) (own i) (mid_of (a.stream * room_bytes) (room i) a.rooms.now) a.bytes.now (mid_of (own i).start ((own i).end - (own i).start) a.store.now)) in
    let after = told.3 ∙ ap (λ (m : ℕ). offered_room_of b (a.stream / 4) (a.stream % 4) (mid_of (a.stream * room_bytes) m a.rooms.now) a.bytes.now) room in
    (simp (fits, k) answer, simp (fits, k) device, simp (fits, k) (λ i. put_mid (own i).start ((own i).end - (own i).start) a.store.now (bytes i)), simp fits (ap₂ (λ (m : ℕ) (l : List ℕ). put_mid (a.stream * room_bytes) m a.rooms.now l) room after))

pub returns : goal.returns
unfolding offered_owned offered_owned_store offered_owned_rooms
returns c =
    let a = c.args in
    let own = rw c.requires.0 at c.load_part-part.ensures ∙ sym (part_at a.words.now _ (rw c.requires.0 at a.at.domain_in_range)) in
    let fits = ap (λ (p : Part). part_fits p (length a.store.now)) (sym own) ∙ sym c.fits_in.ensures ∙ c.if-fits_in.false in
    (simp fits c.refused_words.ensures, simp fits, simp fits, simp fits)
