-- What the device's definitions say of a call whose number is in range, as one on its owner's entry, and that a call out of range
-- changes nothing.
use Prim.Native.Nat.{ℕ, ◌/◌, ◌%◌}
use mathlib.Core.Path.{◌≡◌, refl}
use mathlib.Core.Bool.{Bool, true, false}
use mathlib.Core.List.{List}
use lib.ListN.{length}
use lib.Dec.{leb, eqb}
use Rattle.wire.specs.Wire.{pick}
use Rattle.memory.specs.Window.{live_count, lowest_free}
use Rattle.domain.specs.Domain.{domain_opened, domain_closed, domain_posted, domain_taken, domain_registered, domain_dropped, domain_ticked, domain_reading, domain_state}
use Rattle.memory.specs.Part.{part_fits}
use Rattle.holding.specs.Offer.{domain_receives, domain_receives_bytes, stream_room, domain_offered, domain_offered_bytes}
use Rattle.rnic.specs.Rnic.{domain_at, with_domain, bytes_of, with_bytes, rnic_opened, rnic_closed, rnic_posted, rnic_taken, rnic_registered, rnic_dropped, rnic_received, rnic_received_store, received_owned, received_owned_store, rnic_live, rnic_free, rnic_ticked, rnic_reading, rnic_state}
use Rattle.rnic.specs.Offer.{room_of, with_room, stream_numbered, held_bytes, offer_asked, offered_owned, offered_owned_store, offered_owned_rooms, rnic_offered, rnic_offered_store, rnic_offered_rooms}
use Rattle.rnic.specs.declared.Rnic.{Rnic}
use Rattle.std.specs.Prelude.{Err, Ok}
use Rattle.wire.specs.declared.refusal.LocalRefusal.TheVariants.{OtherLength}

either_same : (t : Bool) (l : List ℕ) → pick t l l ≡ l
either_same true l = refl
either_same false l = refl

module _ (b : Rnic) (n : ℕ) where
  pub opened_in : (crc : Bool) → leb n 15 ≡ true → rnic_opened b n crc ≡ ((domain_opened (domain_at b (n / 4)) (n % 4) crc).0, with_domain b (n / 4) (domain_opened (domain_at b (n / 4)) (n % 4) crc).1)
  unfolding rnic_opened
  opened_in crc e = simp e

  pub opened_out : (crc : Bool) → leb n 15 ≡ false → (rnic_opened b n crc).1 ≡ b
  unfolding rnic_opened
  opened_out crc e = simp e

  pub closed_in : leb n 15 ≡ true → rnic_closed b n ≡ ((domain_closed (domain_at b (n / 4)) (n % 4)).0, with_domain b (n / 4) (domain_closed (domain_at b (n / 4)) (n % 4)).1)
  unfolding rnic_closed
  closed_in e = simp e

  pub closed_out : leb n 15 ≡ false → (rnic_closed b n).1 ≡ b
  unfolding rnic_closed
  closed_out e = simp e

  pub posted_in : (start len : ℕ) → leb n 15 ≡ true → rnic_posted b n start len ≡ ((domain_posted (domain_at b (n / 4)) (n % 4) start len).0, with_domain b (n / 4) (domain_posted (domain_at b (n / 4)) (n % 4) start len).1)
  unfolding rnic_posted
  posted_in start len e = simp e

  pub posted_out : (start len : ℕ) → leb n 15 ≡ false → (rnic_posted b n start len).1 ≡ b
  unfolding rnic_posted
  posted_out start len e = simp e

  pub taken_in : leb n 15 ≡ true → rnic_taken b n ≡ ((domain_taken (domain_at b (n / 4)) (n % 4)).0, with_domain b (n / 4) (domain_taken (domain_at b (n / 4)) (n % 4)).1)
  unfolding rnic_taken
  taken_in e = simp e

  pub taken_out : leb n 15 ≡ false → (rnic_taken b n).1 ≡ b
  unfolding rnic_taken
  taken_out e = simp e

  pub registered_in_lem :
      (key base len place rights : ℕ) → leb n 63 ≡ true →
      rnic_registered b n key base len place rights ≡ ((domain_registered (domain_at b (n / 16)) (n % 16) key base len place rights).0, with_domain b (n / 16) (domain_registered (domain_at b (n / 16)) (n % 16) key base len place rights).1)
  unfolding rnic_registered
  registered_in_lem key base len place rights e = simp e

  pub registered_out : (key base len place rights : ℕ) → leb n 63 ≡ false → (rnic_registered b n key base len place rights).1 ≡ b
  unfolding rnic_registered
  registered_out key base len place rights e = simp e

  pub dropped_in_lem : leb n 63 ≡ true → rnic_dropped b n ≡ ((domain_dropped (domain_at b (n / 16)) (n % 16)).0, with_domain b (n / 16) (domain_dropped (domain_at b (n / 16)) (n % 16)).1)
  unfolding rnic_dropped
  dropped_in_lem e = simp e

  pub dropped_out : leb n 63 ≡ false → (rnic_dropped b n).1 ≡ b
  unfolding rnic_dropped
  dropped_out e = simp e

  pub live_in : leb n 3 ≡ true → rnic_live b n ≡ Ok (live_count (domain_at b n).windows)
  unfolding rnic_live
  live_in e = simp e

  pub free_in : leb n 3 ≡ true → rnic_free b n ≡ Ok (lowest_free (domain_at b n).windows)
  unfolding rnic_free
  free_in e = simp e

  pub ticked_in : leb n 3 ≡ true → rnic_ticked b n ≡ (Ok tt, with_domain b n (domain_ticked (domain_at b n)))
  unfolding rnic_ticked
  ticked_in e = simp e

  pub ticked_out : leb n 3 ≡ false → (rnic_ticked b n).1 ≡ b
  unfolding rnic_ticked
  ticked_out e = simp e

  pub reading_in : leb n 3 ≡ true → rnic_reading b n ≡ Ok (domain_reading (domain_at b n))
  unfolding rnic_reading
  reading_in e = simp e

  pub state_in_lem : leb n 15 ≡ true → rnic_state b n ≡ domain_state (domain_at b (n / 4)) (n % 4)
  unfolding rnic_state
  state_in_lem e = simp e

  module _ (input : List ℕ) where
    pub received_in :
        (k : ℕ) → leb n 15 ≡ true → eqb k b.len ≡ true → part_fits (domain_at b (n / 4)).part k ≡ true →
        rnic_received b k n input ≡ ((domain_receives (domain_at b (n / 4)) (n / 4) (n % 4) input).0, with_domain b (n / 4) (domain_receives (domain_at b (n / 4)) (n / 4) (n % 4) input).1)
    unfolding rnic_received received_owned
    received_in k e₁ e₂ e₃ = simp (e₁, e₂, e₃)

    -- a slice of another length is refused
    pub received_other : (k : ℕ) → leb n 15 ≡ true → eqb k b.len ≡ false → rnic_received b k n input ≡ (Err OtherLength, b)
    unfolding rnic_received
    received_other k e₁ e₂ = simp (e₁, e₂)

    pub received_out : (k : ℕ) → leb n 15 ≡ false → (rnic_received b k n input).1 ≡ b
    unfolding rnic_received
    received_out k e = simp e

    pub store_in :
        (mem : List ℕ) → leb n 15 ≡ true → eqb (length mem) b.len ≡ true → part_fits (domain_at b (n / 4)).part (length mem) ≡ true →
        rnic_received_store b n input mem ≡ with_bytes (domain_at b (n / 4)) mem (domain_receives_bytes (domain_at b (n / 4)) (n / 4) (n % 4) input (bytes_of (domain_at b (n / 4)) mem))
    unfolding rnic_received_store received_owned_store
    store_in mem e₁ e₂ e₃ = simp (e₁, e₂, e₃)

    -- and it stays
    pub store_other : (mem : List ℕ) → eqb (length mem) b.len ≡ false → rnic_received_store b n input mem ≡ mem
    unfolding rnic_received_store
    store_other mem e = simp e (either_same (leb n 15) mem)

    pub store_out : (mem : List ℕ) → leb n 15 ≡ false → rnic_received_store b n input mem ≡ mem
    unfolding rnic_received_store
    store_out mem e = simp e

    -- ---- an offer, lent a slice of length k as the store and these rooms as the second
    module _ (k : ℕ) (rooms : List ℕ) where
      pub offered_in :
          leb n 15 ≡ true → offer_asked b k (length rooms) ≡ true → part_fits (domain_at b (n / 4)).part k ≡ true →
          rnic_offered b k n rooms input
          ≡ ((domain_offered (domain_at b (n / 4)) (n / 4) (n % 4) (held_bytes b n rooms) input).0, with_domain b (n / 4) (domain_offered (domain_at b (n / 4)) (n / 4) (n % 4) (held_bytes b n rooms) input).1)
      unfolding rnic_offered offered_owned
      offered_in e₁ e₂ e₃ = simp (e₁, e₂, e₃)

      pub offered_other : leb n 15 ≡ true → offer_asked b k (length rooms) ≡ false → rnic_offered b k n rooms input ≡ (Err OtherLength, b)
      unfolding rnic_offered
      offered_other e₁ e₂ = simp (e₁, e₂)

      pub offered_out : leb n 15 ≡ false → (rnic_offered b k n rooms input).1 ≡ b
      unfolding rnic_offered
      offered_out e = simp e

      pub rooms_in :
          leb n 15 ≡ true → offer_asked b k (length rooms) ≡ true → part_fits (domain_at b (n / 4)).part k ≡ true →
          rnic_offered_rooms b k n rooms input ≡ with_room rooms n (stream_room (stream_numbered b n) (held_bytes b n rooms) input (room_of rooms n))
      unfolding rnic_offered_rooms offered_owned_rooms
      rooms_in e₁ e₂ e₃ = simp (e₁, e₂, e₃)

      pub rooms_other : offer_asked b k (length rooms) ≡ false → rnic_offered_rooms b k n rooms input ≡ rooms
      unfolding rnic_offered_rooms
      rooms_other e = simp e (either_same (leb n 15) rooms)

      pub rooms_out : leb n 15 ≡ false → rnic_offered_rooms b k n rooms input ≡ rooms
      unfolding rnic_offered_rooms
      rooms_out e = simp e

    module _ (rooms mem : List ℕ) where
      pub offered-store_in :
          leb n 15 ≡ true → offer_asked b (length mem) (length rooms) ≡ true → part_fits (domain_at b (n / 4)).part (length mem) ≡ true →
          rnic_offered_store b n rooms input mem ≡ with_bytes (domain_at b (n / 4)) mem (domain_offered_bytes (domain_at b (n / 4)) (n / 4) (n % 4) (held_bytes b n rooms) input (bytes_of (domain_at b (n / 4)) mem))
      unfolding rnic_offered_store offered_owned_store
      offered-store_in e₁ e₂ e₃ = simp (e₁, e₂, e₃)

      pub offered-store_other : offer_asked b (length mem) (length rooms) ≡ false → rnic_offered_store b n rooms input mem ≡ mem
      unfolding rnic_offered_store
      offered-store_other e = simp e (either_same (leb n 15) mem)

      pub offered-store_out : leb n 15 ≡ false → rnic_offered_store b n rooms input mem ≡ mem
      unfolding rnic_offered_store
      offered-store_out e = simp e
