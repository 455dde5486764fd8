-- What refusal 19 buys a host in C: corollaries of `never_shared` and `placed_apart` of the crate `isolation`. The writers of a domain are
-- specs/Writers.antt of that crate.
use Prim.Native.Nat.{ℕ, ◌<◌}
use mathlib.Core.Path.{◌≡◌, sym, subst}
use mathlib.Core.List.{List}
use lib.ListN.{get_or}
use Rattle.rnic.specs.Rnic.{domain_at}
use Rattle.block.specs.Device.{rnic_at}
use Rattle.isolation.specs.Book.{Call, Opening}
use Rattle.isolation.specs.Writers.{Writer, Writes, Has, Fills}
use Rattle.isolation.proofs.Apart.{NoneShared, never_shared, placed_apart}
use Rattle.isolation.proofs.Numbers.{numbers}
use Rattle.isolation_c.specs.Request.{Request, call_in}
use Rattle.isolation_c.proofs.Calls.{Host, Made, world_of}
use Rattle.isolation_c.proofs.Mapped.{mapped}
use Rattle.isolation_c.proofs.Openings.{opened}
use Rattle.isolation_c.proofs.Runs.{OpenedRun}
use Rattle.isolation_c.proofs.Steps.{numbered, call_same, made}

-- in the device that a run of the C entries leaves in the block, no two write windows, no two waiting buffers and no such pair of a
-- domain share a byte
pub never_shared_in_c : (o : Opening) (mem rooms : List ℕ) (r : OpenedRun o mem rooms) (A : ℕ) → A < 4 → NoneShared (domain_at (rnic_at r.end.words) A)
never_shared_in_c o mem rooms r A h_a = never_shared o mem rooms {I = numbers} (opened o mem rooms r.start r.opened) (mapped r.run) A h_a

-- and the next request changes no byte of any of them, in the host's store, but for the one that it fills
pub placed_apart_in_c :
    (o : Opening) (mem rooms : List ℕ) (r : OpenedRun o mem rooms) (c : Request) (x : List ℕ) (h : Host) → Made r.end c x h →
    (A : ℕ) → A < 4 → (a : Writer) → Writes (domain_at (rnic_at r.end.words) A) a → (Fills (rnic_at r.end.words) r.end.rooms (call_in c) A a → ⊥) →
    (i : ℕ) → Has (domain_at (rnic_at r.end.words) A) a i → get_or h.store i 0 ≡ get_or r.end.store i 0
placed_apart_in_c o mem rooms r c x h s A h_a a w n i l =
    placed_apart o mem rooms {I = numbers} (opened o mem rooms r.start r.opened) (mapped r.run) (numbered c) x (world_of h) (made r.end c x h s) A h_a a w
    (λ f. n (subst (λ (k : Call). Fills (rnic_at r.end.words) r.end.rooms k A a) (sym (call_same c)) f)) i l
