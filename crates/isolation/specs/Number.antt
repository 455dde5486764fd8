-- A call in numbers: by its own number, as `call` of the crate `calls` takes it, or an offer, which has none. Which call it is, and the
-- words of its answer.
use Rattle.std.specs.Prelude.{ℕ, ◌≤◌, List, eqb}
use Rattle.wire.specs.Wire.{pick}
use Rattle.calls.specs.Words.{outcome_words, close_words, take_words, count_words, reading_words, state_words, answer_words, offer_words}
use Rattle.calls.specs.Call.{arg, crc_on}
use Rattle.isolation.specs.Book.{Call, Answer}
use Rattle.isolation.specs.Book.Call.{open_stream, close_stream, register, drop_window, post, receive, offer, take_read, live, free, tick, read_gauge, ask_state}
use Rattle.isolation.specs.Book.Answer.{done, closed, received, offered, taken, counted, gauge_read, stated}

-- a call's number, its nine numbers, its bytes, and the length of the slice lent.
-- Number 0, `open`, makes another device and so starts another run: a run is what lies between two openings
pub record Numbered : Type 0 where
  pub number : ℕ
  pub later : 1 ≤ number
  pub args : List ℕ
  pub input : List ℕ
  pub size : ℕ

-- which call it is, by the numbers of specs/Call.antt of the crate `calls`.
-- A number that is no call's is for nobody and refused by 1, as a question about domain 4 is
unfoldable pub call_of : Numbered → Call
call_of c =
    let n : ℕ → ℕ = arg c.args in
    pick (eqb c.number 1) (open_stream (n 0) (crc_on (n 1)))
    (pick (eqb c.number 2) (close_stream (n 0))
    (pick (eqb c.number 3) (register (n 0) (n 1) (n 2) (n 3) (n 4) (n 5))
    (pick (eqb c.number 4) (drop_window (n 0))
    (pick (eqb c.number 5) (post (n 0) (n 1) (n 2))
    (pick (eqb c.number 6) (take_read (n 0))
    (pick (eqb c.number 7) (live (n 0))
    (pick (eqb c.number 8) (free (n 0))
    (pick (eqb c.number 9) (receive (n 0) c.input c.size)
    (pick (eqb c.number 10) (tick (n 0))
    (pick (eqb c.number 11) (read_gauge (n 0))
    (pick (eqb c.number 12) (ask_state (n 0))
    (live 4))))))))))))

-- a call by its number; or an offer on a stream, with its bytes and the lengths of the slices lent as the store and as the second
pub data Request : Type 0 where
  by_number : (c : Numbered) → Request
  offering : (n : ℕ) → (input : List ℕ) → (k m : ℕ) → Request

abbrev pub requested : Request → Call
requested (by_number c) = call_of c
requested (offering n input k m) = offer n input k m

-- the words of an answer, by specs/Words.antt of the crate `calls`
abbrev pub reply_words : Answer → List ℕ
reply_words (done o) = outcome_words o
reply_words (closed o) = close_words o
reply_words (received o) = answer_words o
reply_words (offered o) = offer_words o
reply_words (taken o) = take_words o
reply_words (counted o) = count_words o
reply_words (gauge_read o) = reading_words o
reply_words (stated o) = state_words o
