-- What a line of a script does to what a run holds, and to the store.
-- Assumes nothing.
use Rattle.std.specs.Prelude.{ℕ, min, Bool, List, ◌++◌, length, take, drop, leb}
use Rattle.wire.specs.Wire.{pick, both, put}
use Rattle.rnic.specs.Rnic.{opened_rnic}
use Rattle.rnic.specs.Offer.{rnic_offered_store, rnic_offered_rooms}
use Rattle.rnic.specs.declared.Rnic.{Rnic}
use Rattle.block.specs.Device.{rnic_at}
use Rattle.calls.specs.Call.{called, called_store, called_offer}
use Rattle.command.specs.Args.{line_words, word_of}
use Rattle.sending.specs.Sending.{is_order, message_after, held_after}
use Rattle.offering.specs.Offering.{Offering, is_offering, offering_of}
use Rattle.offering.specs.Offering.Offering.{offer, holds, bad}
use Rattle.request.specs.Request.{Request, request_of}
use Rattle.request.specs.Request.Request.{call, fill, text}

-- what a run holds besides the store: the device, and the LENGTH of the last `open`, which is how many of the store's bytes a line lends
-- that does not say
pub record State : Type 0 where
  pub kept : ℕ
  pub rnic : Rnic

-- with the device that a block of words holds
abbrev pub state_at : ℕ → List ℕ → State
state_at kept words = record { kept = kept; rnic = rnic_at words }

-- "Before the first `open` the device is as a refused opening leaves it", and nothing is lent
abbrev pub first_state : State
first_state = record { kept = 0; rnic = (opened_rnic 0 0 0 0 0 0 0 0 0).1 }

-- what a line of `count` bytes asks, which a buffer starts with; a line that is longer than the buffer is `bad`
abbrev pub line_request : ℕ → ℕ → ℕ → List ℕ → ℕ → Request
line_request kept room size buffer count = pick (leb count (length buffer)) (request_of kept room size (take count buffer)) text

-- what the run holds then: a call is made, and is lent the first bytes of the store
abbrev pub state_after : State → Request → List ℕ → State
state_after s (call number numbers input lent kept) store =
    record { kept = kept; rnic = (called s.rnic (min lent (length store)) number numbers input).rnic }
state_after s (fill start bytes) store = s
state_after s text store = s

-- and the store: no line but a `fill` and a call writes it, and a call none of the bytes that it was not lent
abbrev pub store_then : State → Request → List ℕ → List ℕ
store_then s (call number numbers input lent kept) store =
    called_store s.rnic number numbers input (take (min lent (length store)) store) ++ drop (min lent (length store)) store
store_then s (fill start bytes) store = put store start bytes
store_then s text store = store

-- whether a line of `count` bytes is a command on messages, good or bad; such a line asks nothing of the device and the store
abbrev pub line_sends : List ℕ → ℕ → Bool
line_sends buffer count = both (leb count (length buffer)) (is_order (word_of (line_words (take count buffer)) 0))

-- the message begun last then, its words and its bytes in front of a buffer: no other line touches it, nor does `open`
abbrev pub line_message : List ℕ → ℕ → ℕ → ℕ → List ℕ → ℕ → List ℕ
line_message w size hex room buffer count = pick (line_sends buffer count) (message_after w size hex room (take count buffer)) w

abbrev pub line_held : List ℕ → ℕ → List ℕ → ℕ → List ℕ
line_held held hex buffer count = pick (line_sends buffer count) (held_after held hex (take count buffer)) held

-- ---- offers

-- whether a line of `count` bytes is a command on offers, good or bad
abbrev pub line_offers : List ℕ → ℕ → Bool
line_offers buffer count = both (leb count (length buffer)) (is_offering (word_of (line_words (take count buffer)) 0))

-- the device after what such a line asks: an offer is made, and is lent the first bytes of the store and of the second slice
abbrev pub offered_rnic : Rnic → Offering → List ℕ → List ℕ → Rnic
offered_rnic d (offer stream bytes lent held) store rooms =
    (called_offer d (min lent (length store)) stream (take (min held (length rooms)) rooms) bytes).rnic
offered_rnic d (holds stream) store rooms = d
offered_rnic d bad store rooms = d

abbrev pub offered_state : State → Offering → List ℕ → List ℕ → State
offered_state s o store rooms = record { kept = s.kept; rnic = offered_rnic s.rnic o store rooms }

-- the store, of which an offer writes none of the bytes that it was not lent
abbrev pub offered_store : Rnic → Offering → List ℕ → List ℕ → List ℕ
offered_store d (offer stream bytes lent held) store rooms =
    rnic_offered_store d stream (take (min held (length rooms)) rooms) bytes (take (min lent (length store)) store) ++ drop (min lent (length store)) store
offered_store d (holds stream) store rooms = store
offered_store d bad store rooms = store

-- and the second slice, in the same way
abbrev pub offered_rooms : Rnic → Offering → List ℕ → List ℕ → List ℕ
offered_rooms d (offer stream bytes lent held) store rooms =
    rnic_offered_rooms d (min lent (length store)) stream (take (min held (length rooms)) rooms) bytes ++ drop (min held (length rooms)) rooms
offered_rooms d (holds stream) store rooms = rooms
offered_rooms d bad store rooms = rooms

-- what such a line asks, with so much room for its bytes
abbrev pub offering_in : State → ℕ → List ℕ → List ℕ → List ℕ → ℕ → Offering
offering_in s room store rooms buffer count = offering_of s.kept (length store) (length rooms) room (take count buffer)

-- ---- a line of `count` bytes, which a buffer starts with

-- what the run holds then
abbrev pub line_state : State → ℕ → List ℕ → List ℕ → List ℕ → ℕ → State
line_state s room store rooms buffer count =
    pick (line_offers buffer count) (offered_state s (offering_in s room store rooms buffer count) store rooms)
    (state_after s (line_request s.kept room (length store) buffer count) store)

-- the store
abbrev pub line_store : State → ℕ → List ℕ → List ℕ → List ℕ → ℕ → List ℕ
line_store s room store rooms buffer count =
    pick (line_offers buffer count) (offered_store s.rnic (offering_in s room store rooms buffer count) store rooms)
    (store_then s (line_request s.kept room (length store) buffer count) store)

-- and the second slice: no line but an offer touches it, nor does `open`
abbrev pub line_rooms : State → ℕ → List ℕ → List ℕ → List ℕ → ℕ → List ℕ
line_rooms s room store rooms buffer count =
    pick (line_offers buffer count) (offered_rooms s.rnic (offering_in s room store rooms buffer count) store rooms) rooms
