-- "TCP cuts where it likes": A's calls that offer some bytes to one of its streams, however they are cut, the events that they report, and
-- the uncut run. The answers are those of A's book.
use Rattle.std.specs.Prelude.{ℕ, zero, suc, ◌%◌, ◌≡◌, Bool, true, false, List, [], ◌∷◌, ◌++◌, length, get_or, take, drop, eqb}
use Rattle.wire.specs.Wire.{pick}
use Rattle.domain.specs.Domain.{stream_at}
use Rattle.arrival.specs.declared.Event.TheVariants.{Sent, SentInvalidating, Terminated}
use Rattle.arrival.specs.declared.Answer.TheVariants.{Wait, Taken, Ended}
use Rattle.cuts.specs.Cuts.{events_of, left_of}
use Rattle.cuts.specs.Received.{Report, MayHold}
use Rattle.cuts.specs.Received.Report.{event, refusal}
use Rattle.holding.specs.Machine.{side_of, answer_of}
use Rattle.rnic.specs.Offer.{rooms_bytes}
use Rattle.isolation.specs.Book.{Call, Answer, View, Observation, book, book_trace, book_view}
use Rattle.isolation.specs.Book.Call.{offer}
use Rattle.isolation.specs.Book.Answer.{done, closed, received, offered, taken, counted, gauge_read, stated}
use Rattle.std.specs.Prelude.{Err, None, Ok, Some}
use Rattle.wire.specs.declared.refusal.LocalRefusal.TheVariants.{StreamEnded}

-- ---- the events

-- what an answer reports: the event of an FPDU that was taken, or the refusal of the peer's bytes that ended the stream
abbrev pub reports_of : Answer → List Report
reports_of (done o) = []
reports_of (closed a) = []
reports_of (received (Ok (Wait n))) = []
reports_of (received (Ok (Taken total e))) = event e ∷ []
reports_of (received (Ok (Ended r))) = refusal r ∷ []
reports_of (received (Err k)) = []
reports_of (offered a) = events_of (answer_of a)
reports_of (taken a) = []
reports_of (counted n) = []
reports_of (gauge_read a) = []
reports_of (stated a) = []

-- the same, of an answer in words, by the kinds of specs/Words.antt of the crate `calls`
unfoldable pub reports_in_words : List ℕ → List Report
reports_in_words ws =
    let word : ℕ → ℕ = λ i. get_or ws i 0 in
    pick (eqb (word 0) 6) (event None ∷ [])
    (pick (eqb (word 0) 7) (event (Some (Sent (word 2) (word 3) (word 4))) ∷ [])
    (pick (eqb (word 0) 8) (event (Some (SentInvalidating (word 2) (word 3) (word 4) (word 5))) ∷ [])
    (pick (eqb (word 0) 9) (event (Some (Terminated (word 2) (word 3) (word 4))) ∷ [])
    (pick (eqb (word 0) 10) (refusal (record { number = word 1; layer = word 2; etype = word 3; code = word 4 }) ∷ [])
    []))))

-- "the events in order", of answers that are given in a form R
unfoldable pub events_in : {R : Type 0} → (R → List Report) → List (Observation R) → List Report
events_in reports [] = []
events_in reports (o ∷ os) = reports o.answer ++ events_in reports os

-- of a list of A's calls, as A's book answers them
abbrev pub book_events : ℕ → View → List Call → List Report
book_events A v calls = events_in reports_of (book_trace (λ (a : Answer). a) A v calls)

-- "peer refusal or Terminate": the stream ends
abbrev pub is_end : Report → Bool
is_end (event None) = false
is_end (event (Some (Sent start len opcode))) = false
is_end (event (Some (SentInvalidating start len opcode stag))) = false
is_end (event (Some (Terminated layer etype code))) = true
is_end (refusal r) = true

-- one of these events is such an end
unfoldable pub has_end : List Report → Bool
has_end [] = false
has_end (e ∷ es) = pick (is_end e) true (has_end es)

-- ---- the calls

-- a piece is "offered to the open stream with slices of the right length"
abbrev pub piece_of : View → ℕ → List ℕ → Call
piece_of v n piece = offer n piece v.size rooms_bytes

-- "and says how many, but for a refusal; the caller offers the rest again": what is left of a piece, and of one that was refused nothing
abbrev pub rest_of : Answer → List ℕ → List ℕ
rest_of (offered a) piece = left_of (answer_of a) piece
rest_of (done o) piece = []
rest_of (closed a) piece = []
rest_of (received a) piece = []
rest_of (taken a) piece = []
rest_of (counted n) piece = []
rest_of (gauge_read a) piece = []
rest_of (stated a) piece = []

-- what is left of the bytes after a call that offered the first c of them
abbrev pub left_after : ℕ → View → ℕ → List ℕ → ℕ → List ℕ
left_after A v n bytes c = rest_of (book A v (piece_of v n (take c bytes))).answer (take c bytes) ++ drop c bytes

-- "However the same bytes are cut": at each call the caller offers as many of the first bytes that are left as it likes, by these counts
unfoldable pub offers_of : ℕ → View → ℕ → List ℕ → List ℕ → List Call
offers_of A v n bytes [] = []
offers_of A v n bytes (c ∷ cs) = piece_of v n (take c bytes) ∷ offers_of A (book A v (piece_of v n (take c bytes))).after n (left_after A v n bytes c) cs

-- what is left after all of these calls
unfoldable pub left_over : ℕ → View → ℕ → List ℕ → List ℕ → List ℕ
left_over A v n bytes [] = bytes
left_over A v n bytes (c ∷ cs) = left_over A (book A v (piece_of v n (take c bytes))).after n (left_after A v n bytes c) cs

-- "the uncut run": all of the bytes at once, and then all that is left until nothing is, in k calls at most
unfoldable pub uncut_in : ℕ → ℕ → View → ℕ → List ℕ → List Call
uncut_in zero A v n bytes = []
uncut_in (suc k) A v n [] = []
uncut_in (suc k) A v n (b ∷ bs) =
    piece_of v n (b ∷ bs) ∷ uncut_in k A (book A v (piece_of v n (b ∷ bs))).after n (rest_of (book A v (piece_of v n (b ∷ bs))).answer (b ∷ bs))

-- as many calls as there are bytes are enough, since a call takes at least one
abbrev pub uncut : ℕ → View → ℕ → List ℕ → List Call
uncut A v n bytes = uncut_in (length bytes) A v n bytes

-- counts that offer each byte by itself
unfoldable pub ones : List ℕ → List ℕ
ones [] = []
ones (b ∷ bs) = 1 ∷ ones bs

-- ---- what is promised

-- the stream holds a part of an FPDU, or nothing: as many bytes as its record says, and they complete nothing
pub record HoldsPart (A : ℕ) (v : View) (n : ℕ) : Type 0 where
  pub counted : (stream_at v.dom (n % 4)).framing.held ≡ length (v.held (n % 4))
  pub part : MayHold A (n % 4) (side_of (n % 4) v.dom v.bytes) (v.held (n % 4))

-- the offers go on until nothing is left, or until "the first peer refusal or Terminate" at least
pub data Through (A : ℕ) (v : View) (n : ℕ) (bytes counts : List ℕ) : Type 0 where
  all : left_over A v n bytes counts ≡ [] → Through A v n bytes counts
  over : has_end (book_events A v (offers_of A v n bytes counts)) ≡ true → Through A v n bytes counts

-- A's calls offer the bytes to stream n, cut somehow, "with no other call for that domain between"
pub record Cut (A : ℕ) (v : View) (n : ℕ) (bytes : List ℕ) (calls : List Call) : Type 0 where
  pub counts : List ℕ
  pub are : calls ≡ offers_of A v n bytes counts
  pub through : Through A v n bytes counts

-- "the events in order, that domain's part of the store and its end state" are the same of two lists of A's calls
pub record SameFor (A : ℕ) (v : View) (cs ds : List Call) : Type 0 where
  pub events : book_events A v cs ≡ book_events A v ds
  pub end : book_view A v cs ≡ book_view A v ds

-- the stream has ended: nothing is held, and "bytes after that are refused with 5 and not kept", with nothing of A's changed
pub record Over (A : ℕ) (v : View) (n : ℕ) : Type 0 where
  pub empty : v.held (n % 4) ≡ []
  pub later : (piece : List ℕ) → book A v (piece_of v n piece) ≡ record { answer = offered (Err StreamEnded); after = v }
