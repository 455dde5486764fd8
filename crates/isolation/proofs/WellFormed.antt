-- Well-formed worlds, and a domain's view put back into one: the domain then has that view, every other domain has what it had, and
-- the world is well-formed. This is proved once, for any view put back, and not for each call.
use Prim.Native.Nat.{ℕ, ◌+◌, ◌-◌, ◌*◌, ◌≤◌, ◌<◌}
use mathlib.Core.Logic.{◌≢◌}
use mathlib.Core.Path.{◌≡◌, refl, sym, ap, subst, fun_ext, ◌∙◌}
use mathlib.Core.Bool.{Bool, true, false}
use mathlib.Core.List.{List, []}
use native.Mathlib.Omega.{arith}
use native.Mathlib.Decide.{dec_lt, ℕ_discrete as dec_eq}
use lib.ListN.{length, take, length-set}
use lib.Seq.{get_or-set_same, get_or-set_other, set-get_or}
use lib.Dec.{leb, eqb}
use borrow.Author.Tests.{leb-true, le-leb, eqb-true}
use borrow.Rule.Slice.PartMut.{mid_of, put_same, same_len_mid, mid_len}
use Rattle.wire.specs.Wire.{pick}
use Rattle.domain.specs.Domain.{stream_at}
use Rattle.domain.specs.declared.Domain.{Domain}
use Rattle.memory.specs.Part.{part_fits}
use Rattle.rnic.specs.Rnic.{no_domain, domain_at, with_domain, bytes_of, with_bytes}
use Rattle.rnic.specs.Offer.{rooms_bytes, room_of}
use Rattle.rnic.specs.declared.Rnic.{Rnic}
use Rattle.isolation.specs.Book.{View}
use Rattle.isolation.proofs.Calls.{World, Lent, memory_after, held_in, view}
use Rattle.isolation.proofs.Parts.{mid_self, mid_before, mid_after}

-- what every step keeps: four domains, whose parts stand in order within a store of the device's length, and sixteen rooms
pub record Fit (w : World) : Type 0 where
  pub four : length w.dev.domains ≡ 4
  pub long : length w.mem ≡ w.dev.len
  pub apart : (i j : ℕ) → i < j → j < 4 → (domain_at w.dev i).part.end ≤ (domain_at w.dev j).part.start
  pub ordered : (i : ℕ) → i < 4 → (domain_at w.dev i).part.start ≤ (domain_at w.dev i).part.end
  pub within : (i : ℕ) → i < 4 → (domain_at w.dev i).part.end ≤ length w.mem
  pub roomy : length w.rooms ≡ rooms_bytes

-- the part of a domain lies in the store, so guard 9 of the device is never met
pub part-fits : (w : World) → Fit w → (d : ℕ) → d < 4 → (k : ℕ) → k ≡ length w.mem → part_fits (domain_at w.dev d).part k ≡ true
part-fits w f d h k e = simp (le-leb (domain_at w.dev d).part.start (domain_at w.dev d).part.end (f.ordered d h), le-leb (domain_at w.dev d).part.end k (rw e (f.within d h)))

-- a view put back in domain d's place, with the rooms as they then are: a view says what they hold, and not what else they contain
abbrev pub put_view : ℕ → View → List ℕ → World → World
put_view d v rooms w = record { dev = with_domain w.dev d v.dom; mem = with_bytes (domain_at w.dev d) w.mem v.bytes; rooms = rooms }

-- a view and rooms that fit where domain d's was taken out: the rooms of its streams start with what the view says that they hold, and
-- those of every other domain's are as they were
pub record Frame (d : ℕ) (w : World) (v : View) (rooms : List ℕ) : Type 0 where
  pub part : v.dom.part ≡ (domain_at w.dev d).part
  pub many : length v.bytes ≡ length (bytes_of (domain_at w.dev d) w.mem)
  pub size : v.size ≡ w.dev.len
  pub roomy : length rooms ≡ length w.rooms
  pub holds : (slot : ℕ) → held_in d v.dom rooms slot ≡ v.held slot
  pub others : (A slot : ℕ) → A < 4 → A ≢ d → slot < 4 → room_of rooms (4 * A + slot) ≡ room_of w.rooms (4 * A + slot)

-- a view, from its four parts
pub view_path :
    {m n : ℕ} {x y : Domain} {p q : List ℕ} {f g : ℕ → List ℕ} → m ≡ n → x ≡ y → p ≡ q → ((slot : ℕ) → f slot ≡ g slot) →
    ◌≡◌ {A = View} (record { size = m; dom = x; bytes = p; held = f }) (record { size = n; dom = y; bytes = q; held = g })
view_path a b c h i = record { size = a i; dom = b i; bytes = c i; held = fun_ext h i }

pub world_path :
    {b c : Rnic} {m n r s : List ℕ} → b ≡ c → m ≡ n → r ≡ s →
    ◌≡◌ {A = World} (record { dev = b; mem = m; rooms = r }) (record { dev = c; mem = n; rooms = s })
world_path p q r i = record { dev = p i; mem = q i; rooms = r i }

-- the bytes of a domain turn on its part alone
by_part : (x y : Domain) (mem : List ℕ) → x.part ≡ y.part → bytes_of x mem ≡ bytes_of y mem
by_part x y mem e = ap (λ p. mid_of p.start (p.end - p.start) mem) e

module _ (d : ℕ) (hd : d < 4) (w : World) (f : Fit w) (v : View) (rooms : List ℕ) (k : Frame d w v rooms) where
  long : length v.bytes ≡ (domain_at w.dev d).part.end - (domain_at w.dev d).part.start
  long = k.many ∙ mid_len _ _ w.mem (f.within d hd)

  as_long : length (put_view d v rooms w).mem ≡ length w.mem
  as_long = same_len_mid (domain_at w.dev d).part.start ((domain_at w.dev d).part.end - (domain_at w.dev d).part.start) w.mem v.bytes k.many

  dom-own : domain_at (put_view d v rooms w).dev d ≡ v.dom
  dom-own = get_or-set_same w.dev.domains d v.dom no_domain (omega (arith, f.four))

  dom_other : (A : ℕ) → A ≢ d → domain_at (put_view d v rooms w).dev A ≡ domain_at w.dev A
  dom_other A ne = get_or-set_other w.dev.domains d A v.dom no_domain ne

  pub put_view-own : view d (put_view d v rooms w) ≡ v
  put_view-own =
      view_path (sym k.size) dom-own
      (by_part (domain_at (put_view d v rooms w).dev d) (domain_at w.dev d) (put_view d v rooms w).mem (ap (λ x. x.part) dom-own ∙ k.part)
      ∙ mid_self (domain_at w.dev d).part.start (domain_at w.dev d).part.end w.mem v.bytes (f.ordered d hd) (f.within d hd) long)
      (λ slot. ap (λ (x : Domain). held_in d x rooms slot) dom-own ∙ k.holds slot)

  pub put_view_other : (A : ℕ) → A < 4 → A ≢ d → view A (put_view d v rooms w) ≡ view A w
  put_view_other A h_a ne =
      view_path refl (dom_other A ne)
      (by_part (domain_at (put_view d v rooms w).dev A) (domain_at w.dev A) (put_view d v rooms w).mem (ap (λ x. x.part) (dom_other A ne)) ∙ go (dec_lt A d))
      (λ slot. ap (λ (x : Domain). held_in A x rooms slot) (dom_other A ne) ∙ same slot (leb slot 3) refl)
    where
      same :
          (slot : ℕ) (t : Bool) → leb slot 3 ≡ t →
          pick t (take (stream_at (domain_at w.dev A) slot).framing.held (room_of rooms (4 * A + slot))) []
          ≡ pick t (take (stream_at (domain_at w.dev A) slot).framing.held (room_of w.rooms (4 * A + slot))) []
      same slot true e = ap (take (stream_at (domain_at w.dev A) slot).framing.held) (k.others A slot h_a ne (omega (arith, leb-true slot 3 e)))
      same slot false e = refl

      go : Dec (A < d) → bytes_of (domain_at w.dev A) (put_view d v rooms w).mem ≡ bytes_of (domain_at w.dev A) w.mem
      go (yes h) = mid_before (domain_at w.dev A).part.start (domain_at w.dev A).part.end (domain_at w.dev d).part.start ((domain_at w.dev d).part.end - (domain_at w.dev d).part.start) w.mem v.bytes (f.ordered A h_a) (f.apart A d h hd) (omega (arith, f.ordered d hd, f.within d hd))
      go (no h) = mid_after (domain_at w.dev A).part.start ((domain_at w.dev A).part.end - (domain_at w.dev A).part.start) (domain_at w.dev d).part.start (domain_at w.dev d).part.end w.mem v.bytes (f.ordered d hd) (f.apart d A (omega arith) h_a) (f.within d hd) long

  -- every domain's part is where it was
  part-kept : (i : ℕ) → (domain_at (put_view d v rooms w).dev i).part ≡ (domain_at w.dev i).part
  part-kept i = go (dec_eq i d)
    where
      go : Dec (i ≡ d) → (domain_at (put_view d v rooms w).dev i).part ≡ (domain_at w.dev i).part
      go (yes e) = subst (λ (n : ℕ). (domain_at (put_view d v rooms w).dev n).part ≡ (domain_at w.dev n).part) (sym e) (ap (λ x. x.part) dom-own ∙ k.part)
      go (no e) = ap (λ x. x.part) (dom_other i e)

  pub put_view_fit : Fit (put_view d v rooms w)
  put_view_fit = record {
    four = length-set w.dev.domains d v.dom ∙ f.four;
    long = as_long ∙ f.long;
    apart = λ i j h hj. rw (part-kept i, part-kept j) (f.apart i j h hj);
    ordered = λ i h. rw (part-kept i) (f.ordered i h);
    within = λ i h. rw (part-kept i, as_long) (f.within i h);
    roomy = k.roomy ∙ f.roomy;
  }

-- the bytes put back as they were, and the whole view
pub same_bytes : (d : Domain) (mem : List ℕ) → with_bytes d mem (bytes_of d mem) ≡ mem
same_bytes d mem = put_same d.part.start (d.part.end - d.part.start) mem

pub put_view-same : (d : ℕ) (w : World) → put_view d (view d w) w.rooms w ≡ w
put_view-same d w =
    world_path {b = with_domain w.dev d (domain_at w.dev d)} {c = w.dev}
    (λ i. record { len = w.dev.len; domains = set-get_or w.dev.domains d no_domain i }) (same_bytes (domain_at w.dev d) w.mem) refl

-- a call that leaves the slice that it was lent leaves the memory
pub memory_left : {mem : List ℕ} {len size : ℕ} (x : Lent mem len size) → x.after ≡ x.slice.now → memory_after mem len size x ≡ mem
memory_left {mem} {len} {size} x e = go (eqb size len) refl
  where
    go : (t : Bool) → eqb size len ≡ t → pick t x.after mem ≡ mem
    go true q = e ∙ x.whole (eqb-true size len q)
    go false q = refl
