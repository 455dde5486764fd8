-- A stream of bytes that comes in pieces, over any receive: the stream holds what does not complete an FPDU, and a call is received
-- by the pending bytes, those held and then its input.
use Rattle.std.specs.Prelude.{ℕ, zero, suc, ◌-◌, ◌≤◌, ◌≡◌, List, [], ◌∷◌, ◌++◌, length, take, drop}

-- ---- receive

-- what receive makes of the bytes that are there: it waits for more; it took the first n of them, with an event and the state after
-- them; it ends the stream, likewise; or it refuses the call, and nothing changes
pub data Step (S E : Type 0) : Type 0 where
  waits : Step S E
  took : (n : ℕ) → (event : E) → (after : S) → Step S E
  ends : (event : E) → (after : S) → Step S E
  refuses : (k : ℕ) → Step S E

-- it makes nothing of them: a stream may hold them, where it does not refuse the call
abbrev pub Holds : {S E : Type 0} → List ℕ → Step S E → Type 0
Holds held waits = Unit {0}
Holds held (took n e t) = ⊥
Holds held (ends e t) = ⊥
Holds held (refuses k) = held ≡ []

-- a receive, and what it keeps to. From these laws alone the cuts do not matter
pub record Machine (S E : Type 0) : Type 0 where
  pub receive : S → List ℕ → Step S E
  -- of no bytes it makes nothing
  pub none : (s : S) → Holds [] (receive s [])
  -- it takes some of the bytes that are there
  pub some : (s : S) (p : List ℕ) (n : ℕ) (e : E) (t : S) → receive s p ≡ took n e t → (1 ≤ n) × (n ≤ length p)
  -- what it takes turns on those bytes alone, whatever comes after them
  pub own : (s : S) (p : List ℕ) (n : ℕ) (e : E) (t : S) → receive s p ≡ took n e t → (q : List ℕ) → receive s (take n p ++ q) ≡ took n e t
  -- what ends the stream ends it whatever comes after, and then every call is refused with 5
  pub end : (s : S) (p : List ℕ) (e : E) (t : S) → receive s p ≡ ends e t → (q : List ℕ) → receive s (p ++ q) ≡ ends e t
  pub over : (s : S) (p : List ℕ) (e : E) (t : S) → receive s p ≡ ends e t → (q : List ℕ) → receive t q ≡ refuses 5
  -- a refusal of the call does not turn on the bytes
  pub shut : (s : S) (p : List ℕ) (k : ℕ) → receive s p ≡ refuses k → (q : List ℕ) → receive s q ≡ refuses k

-- ---- one call

-- what a call answers: all n bytes of the input are held; n bytes of it completed an FPDU, with its event; the stream ended; or a
-- local refusal. "says how many, but for a refusal"
pub data Answer (E : Type 0) : Type 0 where
  kept : (n : ℕ) → Answer E
  done : (n : ℕ) → (event : E) → Answer E
  ended : (event : E) → Answer E
  refused : (k : ℕ) → Answer E

pub record Offered (S E : Type 0) : Type 0 where
  pub answer : Answer E
  pub state : S
  pub held : List ℕ

-- "takes bytes up to the end of the first FPDU that it completes, or all of them if it completes none". What is completed or ends the
-- stream empties the held bytes: "A peer refusal, a Terminate and close", of which close is another call
abbrev pub offer_of : {S E : Type 0} → S → List ℕ → List ℕ → Step S E → Offered S E
offer_of s held input waits = record { answer = kept (length input); state = s; held = held ++ input }
offer_of s held input (took n e t) = record { answer = done (n - length held) e; state = t; held = [] }
offer_of s held input (ends e t) = record { answer = ended e; state = t; held = [] }
offer_of s held input (refuses k) = record { answer = refused k; state = s; held = held }

unfoldable pub offer : {S E : Type 0} → (S → List ℕ → Step S E) → S → List ℕ → List ℕ → Offered S E
offer receive s held input = offer_of s held input (receive s (held ++ input))

-- ---- several calls

-- the events that an answer tells: a local refusal is none
abbrev pub events_of : {E : Type 0} → Answer E → List E
events_of (kept n) = []
events_of (done n e) = e ∷ []
events_of (ended e) = e ∷ []
events_of (refused k) = []

-- "the caller offers the rest again": what is left of an input; of a stream that refuses it, nothing is offered again
abbrev pub left_of : {E : Type 0} → Answer E → List ℕ → List ℕ
left_of (kept n) input = drop n input
left_of (done n e) input = drop n input
left_of (ended e) input = []
left_of (refused k) input = []

-- the events in order, the end state and the bytes held at the end
pub record Outcome (S E : Type 0) : Type 0 where
  pub events : List E
  pub state : S
  pub held : List ℕ

abbrev pub still : {S E : Type 0} → S → List ℕ → Outcome S E
still s held = record { events = []; state = s; held = held }

-- some events, and then an outcome
abbrev pub after : {S E : Type 0} → List E → Outcome S E → Outcome S E
after es r = record { events = es ++ r.events; state = r.state; held = r.held }

-- at most so many calls, each offered what the one before left, until nothing is left
unfoldable pub drain_in : {S E : Type 0} → (S → List ℕ → Step S E) → ℕ → S → List ℕ → List ℕ → Outcome S E
drain_in receive zero s held input = still s held
drain_in receive (suc calls) s held [] = still s held
drain_in receive (suc calls) s held (b ∷ input) =
    after (events_of (offer receive s held (b ∷ input)).answer)
    (drain_in receive calls (offer receive s held (b ∷ input)).state (offer receive s held (b ∷ input)).held
    (left_of (offer receive s held (b ∷ input)).answer (b ∷ input)))

-- an input, offered until nothing of it is left: a call takes at least one byte of it
unfoldable pub drain : {S E : Type 0} → (S → List ℕ → Step S E) → S → List ℕ → List ℕ → Outcome S E
drain receive s held input = drain_in receive (length input) s held input

-- pieces, one after the other
unfoldable pub drain_all : {S E : Type 0} → (S → List ℕ → Step S E) → S → List ℕ → List (List ℕ) → Outcome S E
drain_all receive s held [] = still s held
drain_all receive s held (p ∷ ps) =
    after (drain receive s held p).events (drain_all receive (drain receive s held p).state (drain receive s held p).held ps)

-- the bytes that were cut so
unfoldable pub joined : List (List ℕ) → List ℕ
joined [] = []
joined (p ∷ ps) = p ++ joined ps

-- each byte by itself
unfoldable pub singles : List ℕ → List (List ℕ)
singles [] = []
singles (b ∷ bs) = (b ∷ []) ∷ singles bs

-- a caller that has the bytes and offers at each call as many of the first that are left as it likes: what came of it, and what is left
pub record Called (S E : Type 0) : Type 0 where
  pub outcome : Outcome S E
  pub left : List ℕ

abbrev pub after_call : {S E : Type 0} → List E → Called S E → Called S E
after_call es r = record { outcome = after es r.outcome; left = r.left }

unfoldable pub called : {S E : Type 0} → (S → List ℕ → Step S E) → S → List ℕ → List ℕ → List ℕ → Called S E
called receive s held bytes [] = record { outcome = still s held; left = bytes }
called receive s held bytes (c ∷ cs) =
    after_call (events_of (offer receive s held (take c bytes)).answer)
    (called receive (offer receive s held (take c bytes)).state (offer receive s held (take c bytes)).held
    (left_of (offer receive s held (take c bytes)).answer (take c bytes) ++ drop c bytes) cs)
