-- What `rnic_c_held` answers of a stream is how many bytes its domain's view says that it holds, so that two runs that are the same for a
-- domain are so for what it asks there too. A corollary of `guards_never_fire` of the crate `isolation`.
use Prim.Native.Nat.{ℕ, ◌/◌, ◌%◌, ◌<◌}
use mathlib.Core.Path.{◌≡◌, sym, ap, ◌∙◌}
use mathlib.Core.Bool.{Bool}
use mathlib.Core.List.{List}
use native.Mathlib.Omega.{arith}
use lib.ListN.{length}
use denote.Ref.{Bor}
use contract.Lifetimes.{Lfts}
use borrow.Author.Tests.{le-leb}
use Rattle.wire.specs.Wire.{pick}
use Rattle.rnic.specs.Offer.{stream_numbered, held_count}
use Rattle.block.specs.Device.{rnic_at}
use Rattle.isolation.specs.Book.{View, Opening, book_view, first_bytes}
use Rattle.isolation.proofs.Numbers.{numbers}
use Rattle.isolation.proofs.Reachable.{guards_never_fire}
use Rattle.isolation_c.proofs.Calls.{Host, view_in}
use Rattle.isolation_c.proofs.Entries.{HeldPost}
use Rattle.isolation_c.proofs.Isolation.{two_nights_in_c}
use Rattle.isolation_c.proofs.Mapped.{mapped}
use Rattle.isolation_c.proofs.Openings.{opened}
use Rattle.isolation_c.proofs.Runs.{OpenedRun, calls_of}

-- `rnic_c_held` of stream n, and what it answers; a host has afterwards what it had
pub record HeldStep (h : Host) (n count : ℕ) : Type 0 where
  pub lifetimes : Lfts 1
  pub device : Bor (List ℕ)
  pub words_are : device.now ≡ h.words
  pub contract : HeldPost lifetimes (device, (n, tt)) count (device, (n, tt))

-- in every host that a run reaches
pub held-told :
    (o : Opening) (mem rooms : List ℕ) (r : OpenedRun o mem rooms) (n : ℕ) → n < 16 → (count : ℕ) → HeldStep r.end n count →
    count ≡ length ((view_in (n / 4) r.end).held (n % 4))
held-told o mem rooms r n h count s =
    s.contract
    ∙ ap (λ (words : List ℕ). held_count (rnic_at words) n) s.words_are
    ∙ ap (λ (b : Bool). pick b (stream_numbered (rnic_at r.end.words) n).framing.held 0) (le-leb n 15 (omega (arith, h)))
    ∙ sym ((guards_never_fire o mem rooms {I = numbers} (opened o mem rooms r.start r.opened) (mapped r.run) (n / 4) (omega (arith, h))).held_short (n % 4) (omega arith)).counted

-- so it is the same in two runs that are the same for the stream's domain
pub held_same :
    (n : ℕ) → n < 16 →
    (o : Opening) (mem mem' rooms rooms' : List ℕ) (r : OpenedRun o mem rooms) (q : OpenedRun o mem' rooms') →
    first_bytes (n / 4) o mem ≡ first_bytes (n / 4) o mem' → calls_of (n / 4) r.run ≡ calls_of (n / 4) q.run →
    (count count' : ℕ) → HeldStep r.end n count → HeldStep q.end n count' → count ≡ count'
held_same n h o mem mem' rooms rooms' r q b m count count' s t =
    let A = n / 4 in
    let x = two_nights_in_c A (omega (arith, h)) o mem mem' rooms rooms' r q b m in
    let same : view_in A r.end ≡ view_in A q.end = x.first.last ∙ ap (book_view A _) m ∙ sym x.second.last in
    held-told o mem rooms r n h count s ∙ ap (λ (v : View). length (v.held (n % 4))) same ∙ sym (held-told o mem' rooms' q n h count' t)
