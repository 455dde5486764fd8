-- A list of inputs received by the device is the list received by the stream's domain: its entry and its bytes taken out, all of
-- the calls, and both put back.
use Prim.Native.Nat.{ℕ, ◌-◌, ◌/◌, ◌%◌}
use mathlib.Core.Path.{◌≡◌, refl, sym, ap, ap₂, ◌∙◌}
use mathlib.Core.Bool.{Bool, true, false}
use mathlib.Core.List.{List, [], ◌∷◌}
use native.Mathlib.Omega.{arith}
use lib.ListN.{length}
use lib.Dec.{leb, ltb, eqb}
use lib.Seq.{get_or-set_same, set-get_or, set-set}
use borrow.Author.Tests.{le-leb, eq-eqb}
use borrow.Rule.Slice.PartMut.{mid_of, put_mid, put_same, same_len_mid, mid_len}
use Rattle.wire.specs.Wire.{both}
use Rattle.memory.specs.Part.{part_fits}
use Rattle.memory.specs.declared.part.Part.{Part}
use Rattle.domain.specs.Domain.{stream_at, domain_received, domain_received_bytes}
use Rattle.domain.specs.declared.Domain.{Domain}
use Rattle.holding.specs.Offer.{is_open, holds_at, domain_receives, domain_receives_bytes}
use Rattle.rnic.specs.Rnic.{no_domain, domain_at, with_domain, bytes_of, with_bytes, rnic_received, rnic_received_store, received_owned, received_owned_store}
use Rattle.rnic.specs.declared.Rnic.{Rnic}
use Rattle.delivery.specs.Delivery.{Outcome, received_all}
use Rattle.delivery.specs.Device.{DeviceOutcome, answering_on, rnic_received_all, owner_of, Fits}
use Rattle.delivery.proofs.Kept.{received_keeps, received_many, received-holds}
use Rattle.delivery.proofs.Store.{mid_self, put-again}
use Rattle.std.specs.Prelude.{Result}
use Rattle.wire.specs.declared.refusal.LocalRefusal.{LocalRefusal}
use Rattle.arrival.specs.declared.Answer.{Answer}

-- a call whose stream's number, lent length and part are in order
module _ (b : Rnic) (n : ℕ) (input mem : List ℕ) (e₁ : leb n 15 ≡ true) (e₂ : eqb (length mem) b.len ≡ true) (e₃ : part_fits (domain_at b (n / 4)).part (length mem) ≡ true) (e₄ : (stream_at (domain_at b (n / 4)) (n % 4)).framing.held ≡ 0) where
  -- the stream holds nothing
  not-held : holds_at (domain_at b (n / 4)) (n % 4) ≡ false
  not-held = go (leb (n % 4) 3) (is_open (stream_at (domain_at b (n / 4)) (n % 4))) (ltb 0 (stream_at (domain_at b (n / 4)) (n % 4)).framing.held) (ap (ltb 0) e₄)
    where
      go : (x y z : Bool) → z ≡ false → both x (both y z) ≡ false
      go true true z q = q
      go true false z q = refl
      go false y z q = refl

  received_in : rnic_received b (length mem) n input ≡ ((domain_received (domain_at b (n / 4)) (n / 4) (n % 4) input).0, with_domain b (n / 4) (domain_received (domain_at b (n / 4)) (n / 4) (n % 4) input).1)
  unfolding rnic_received received_owned domain_receives
  received_in = simp (e₁, e₂, e₃, not-held)

  store_in : rnic_received_store b n input mem ≡ with_bytes (domain_at b (n / 4)) mem (domain_received_bytes (domain_at b (n / 4)) (n / 4) (n % 4) input (bytes_of (domain_at b (n / 4)) mem))
  unfolding rnic_received_store received_owned_store domain_receives_bytes
  store_in = simp (e₁, e₂, e₃, not-held)

module _ (b : Rnic) (n : ℕ) (mem : List ℕ) (f : Fits b n mem) where
  -- the device with another entry, and the store with other bytes, of the stream's domain
  abbrev dev_with : Domain → Rnic
  dev_with d = with_domain b (n / 4) d

  abbrev mem_with : List ℕ → List ℕ
  mem_with bytes = with_bytes (owner_of b n) mem bytes

  abbrev size : ℕ
  size = (owner_of b n).part.end - (owner_of b n).part.start

  again : (x y : Domain) → with_domain (dev_with x) (n / 4) y ≡ dev_with y
  again x y i = record { len = b.len; domains = set-set b.domains (n / 4) x y i }

  module _ (d : Domain) (bytes : List ℕ) (q : d.part ≡ (owner_of b n).part) (l : length bytes ≡ size) (z : (stream_at d (n % 4)).framing.held ≡ 0) where
    own : domain_at (dev_with d) (n / 4) ≡ d
    own = get_or-set_same b.domains (n / 4) d no_domain (omega (arith, f.four, f.stream))

    as_long : length (mem_with bytes) ≡ length mem
    as_long = same_len_mid (owner_of b n).part.start size mem bytes (l ∙ sym (mid_len (owner_of b n).part.start (owner_of b n).part.end mem f.within))

    number_in : leb n 15 ≡ true
    number_in = le-leb n 15 f.stream

    length_in : eqb (length (mem_with bytes)) b.len ≡ true
    length_in = eq-eqb (length (mem_with bytes)) b.len (as_long ∙ f.long)

    part_in_lem : part_fits (domain_at (dev_with d) (n / 4)).part (length (mem_with bytes)) ≡ true
    part_in_lem =
        ap₂ (λ (p : Part) (k : ℕ). part_fits p k) (ap (λ (x : Domain). x.part) own ∙ q) as_long
        ∙ ap₂ (λ (x y : Bool). both x y) (le-leb (owner_of b n).part.start (owner_of b n).part.end f.ordered) (le-leb (owner_of b n).part.end (length mem) f.within)

    none_in : (stream_at (domain_at (dev_with d) (n / 4)) (n % 4)).framing.held ≡ 0
    none_in = ap (λ (x : Domain). (stream_at x (n % 4)).framing.held) own ∙ z

    bytes_back : bytes_of d (mem_with bytes) ≡ bytes
    bytes_back =
        ap (λ (p : Part). mid_of p.start (p.end - p.start) (mem_with bytes)) q
        ∙ mid_self (owner_of b n).part.start (owner_of b n).part.end mem f.ordered f.within bytes l

    bytes-put : (zs : List ℕ) → with_bytes d (mem_with bytes) zs ≡ mem_with zs
    bytes-put zs =
        ap (λ (p : Part). put_mid p.start (p.end - p.start) (mem_with bytes) zs) q
        ∙ put-again (owner_of b n).part.start (owner_of b n).part.end mem f.ordered f.within bytes l zs

    module _ (input : List ℕ) where
      answered :
          rnic_received (dev_with d) (length (mem_with bytes)) n input
          ≡ ((domain_received d (n / 4) (n % 4) input).0, dev_with (domain_received d (n / 4) (n % 4) input).1)
      answered =
          received_in (dev_with d) n input (mem_with bytes) number_in length_in part_in_lem none_in
          ∙ ap (λ (x : Domain). ((domain_received x (n / 4) (n % 4) input).0, with_domain (dev_with d) (n / 4) (domain_received x (n / 4) (n % 4) input).1)) own
          ∙ ap (λ (x : Rnic). ((domain_received d (n / 4) (n % 4) input).0, x)) (again d (domain_received d (n / 4) (n % 4) input).1)

      stored : rnic_received_store (dev_with d) n input (mem_with bytes) ≡ mem_with (domain_received_bytes d (n / 4) (n % 4) input bytes)
      stored =
          store_in (dev_with d) n input (mem_with bytes) number_in length_in part_in_lem none_in
          ∙ ap (λ (x : Domain). with_bytes x (mem_with bytes) (domain_received_bytes x (n / 4) (n % 4) input (bytes_of x (mem_with bytes)))) own
          ∙ ap (λ (z : List ℕ). with_bytes d (mem_with bytes) (domain_received_bytes d (n / 4) (n % 4) input z)) bytes_back
          ∙ bytes-put (domain_received_bytes d (n / 4) (n % 4) input bytes)

  -- what the domain's outcome is of the device
  abbrev pub lift : Outcome → DeviceOutcome
  lift r = record { answers = r.answers; rnic = with_domain b (n / 4) r.domain; store = with_bytes (owner_of b n) mem r.bytes }

  from :
      (inputs : List (List ℕ)) (d : Domain) (bytes : List ℕ) → d.part ≡ (owner_of b n).part → length bytes ≡ size → (stream_at d (n % 4)).framing.held ≡ 0 →
      rnic_received_all (dev_with d) n (mem_with bytes) inputs ≡ lift (received_all d (n / 4) (n % 4) bytes inputs)
  unfolding rnic_received_all received_all
  from [] d bytes q l z = refl
  from (input ∷ inputs) d bytes q l z =
      ap₂ (λ (x : Result Answer LocalRefusal × Rnic) (z : List ℕ). answering_on x.0 (rnic_received_all x.1 n z inputs)) (answered d bytes q l z input) (stored d bytes q l z input)
      ∙ ap (answering_on (domain_received d (n / 4) (n % 4) input).0)
      (from inputs (domain_received d (n / 4) (n % 4) input).1 (domain_received_bytes d (n / 4) (n % 4) input bytes)
      (received_keeps d (n / 4) (n % 4) input ∙ q) (received_many d (n / 4) (n % 4) input bytes ∙ l) (received-holds d (n / 4) (n % 4) input z))

  own_entry : with_domain b (n / 4) (owner_of b n) ≡ b
  own_entry i = record { len = b.len; domains = set-get_or b.domains (n / 4) no_domain i }

  pub all-lifted : (inputs : List (List ℕ)) → rnic_received_all b n mem inputs ≡ lift (received_all (owner_of b n) (n / 4) (n % 4) (bytes_of (owner_of b n) mem) inputs)
  all-lifted inputs =
      ap₂ (λ (x : Rnic) (z : List ℕ). rnic_received_all x n z inputs)
      (sym own_entry)
      (sym (put_same (owner_of b n).part.start size mem))
      ∙ from inputs (owner_of b n) (bytes_of (owner_of b n) mem) refl (mid_len (owner_of b n).part.start (owner_of b n).part.end mem f.within) f.none
