-- A call by its number: what it makes of the device and of the store, and the words of its answer. Each is the device's own call of specs/Rnic.antt of the crate `rnic`.
use Rattle.std.specs.Prelude.{ℕ, Bool, not, List, get_or, eqb}
use Rattle.wire.specs.Wire.{pick}
use Rattle.rnic.specs.Rnic.{opened_rnic, rnic_opened, rnic_closed, rnic_posted, rnic_taken, rnic_state, rnic_received, rnic_received_store, rnic_registered, rnic_dropped, rnic_live, rnic_free, rnic_ticked, rnic_reading}
use Rattle.rnic.specs.Offer.{rnic_offered, rnic_offer_answer}
use Rattle.rnic.specs.declared.Rnic.{Rnic}
use Rattle.calls.specs.Words.{refused_words, outcome_words, close_words, take_words, count_words, reading_words, state_words, answer_words, offer_words}
use Rattle.wire.specs.declared.refusal.LocalRefusal.TheVariants.{OutOfRange}
use Rattle.std.specs.Prelude.{Result, ⊤}
use Rattle.wire.specs.declared.refusal.LocalRefusal.{LocalRefusal}

-- the device after a call, and the answer's words
pub record Called : Type 0 where
  pub rnic : Rnic
  pub words : List ℕ

-- an argument of the nine
abbrev pub arg : List ℕ → ℕ → ℕ
arg a i = get_or a i 0

-- ---- one call each, of its arguments

abbrev pub done : (Result ⊤ LocalRefusal × Rnic) → Called
done r = record { rnic = r.1; words = outcome_words r.0 }

abbrev pub called_open : List ℕ → Called
called_open a = done (opened_rnic (arg a 0) (arg a 1) (arg a 2) (arg a 3) (arg a 4) (arg a 5) (arg a 6) (arg a 7) (arg a 8))

-- "crc: 0 off, anything else on"
abbrev pub crc_on : ℕ → Bool
crc_on n = not (eqb n 0)

abbrev pub called_open_stream : Rnic → List ℕ → Called
called_open_stream b a = done (rnic_opened b (arg a 0) (crc_on (arg a 1)))

abbrev pub called_close_stream : Rnic → List ℕ → Called
called_close_stream b a = record { rnic = (rnic_closed b (arg a 0)).1; words = close_words (rnic_closed b (arg a 0)).0 }

abbrev pub called_register : Rnic → List ℕ → Called
called_register b a = done (rnic_registered b (arg a 0) (arg a 1) (arg a 2) (arg a 3) (arg a 4) (arg a 5))

abbrev pub called_drop_window : Rnic → List ℕ → Called
called_drop_window b a = done (rnic_dropped b (arg a 0))

abbrev pub called_post : Rnic → List ℕ → Called
called_post b a = done (rnic_posted b (arg a 0) (arg a 1) (arg a 2))

abbrev pub called_take : Rnic → List ℕ → Called
called_take b a = record { rnic = (rnic_taken b (arg a 0)).1; words = take_words (rnic_taken b (arg a 0)).0 }

abbrev pub called_tick : Rnic → List ℕ → Called
called_tick b a = done (rnic_ticked b (arg a 0))

abbrev pub called_receive : Rnic → ℕ → ℕ → List ℕ → Called
called_receive b size stream input = record { rnic = (rnic_received b size stream input).1; words = answer_words (rnic_received b size stream input).0 }

-- an offer, which has no number: it is lent a second slice
abbrev pub called_offer : Rnic → ℕ → ℕ → List ℕ → List ℕ → Called
called_offer b size stream rooms input = record { rnic = (rnic_offered b size stream rooms input).1; words = offer_words (rnic_offer_answer b size stream rooms input) }

-- ---- the numbers

-- no call has this number: a local refusal 1, and nothing changes
abbrev pub not_called : Rnic → Called
not_called b = record { rnic = b; words = refused_words OutOfRange }

unfoldable pub called : Rnic → ℕ → ℕ → List ℕ → List ℕ → Called
called b size number a input =
    pick (eqb number 0) (called_open a)
    (pick (eqb number 1) (called_open_stream b a)
    (pick (eqb number 2) (called_close_stream b a)
    (pick (eqb number 3) (called_register b a)
    (pick (eqb number 4) (called_drop_window b a)
    (pick (eqb number 5) (called_post b a)
    (pick (eqb number 6) (called_take b a)
    (pick (eqb number 7) (record { rnic = b; words = count_words (rnic_live b (arg a 0)) })
    (pick (eqb number 8) (record { rnic = b; words = count_words (rnic_free b (arg a 0)) })
    (pick (eqb number 9) (called_receive b size (arg a 0) input)
    (pick (eqb number 10) (called_tick b a)
    (pick (eqb number 11) (record { rnic = b; words = reading_words (rnic_reading b (arg a 0)) })
    (pick (eqb number 12) (record { rnic = b; words = state_words (rnic_state b (arg a 0)) })
    (not_called b)))))))))))))

-- and the store: receive alone is lent it
unfoldable pub called_store : Rnic → ℕ → List ℕ → List ℕ → List ℕ → List ℕ
called_store b number a input mem = pick (eqb number 9) (rnic_received_store b (arg a 0) input mem) mem
