-- Runs of the device (the paper's nights): calls made one after the other, and what a run shows a domain A.
use Prim.Native.Nat.{ℕ}
use mathlib.Core.Path.{◌≡◌, refl}
use mathlib.Core.Bool.{Bool}
use mathlib.Core.List.{List, [], ◌∷◌, map}
use lib.Dec.{eqb}
use Rattle.wire.specs.Wire.{pick}
use Rattle.isolation.specs.Book.{Call, Answer, View, Observation, Opening, owner_in}
use Rattle.isolation.proofs.Calls.{World, Step, Opened, view}

-- an interface of the device: how a call and its answer are written, and the contract by which a call so written is made
pub record Interface : Type 1 where
  pub Request : Type 0
  pub Reply : Type 0
  -- which call a request is
  pub call : Request → Call
  -- how an answer is written
  pub reply : Answer → Reply
  -- the contract: a request made in a world, its reply, and the world afterwards
  pub Made : World → Request → Reply → World → Type 0
  -- what is proved of it: it is that call's step, and the reply is its answer
  pub is_step : (w : World) (c : Request) (x : Reply) (w₁ : World) → Made w c x w₁ → (a : Answer) × Step w (call c) a w₁ × (x ≡ reply a)

-- the device's own functions
abbrev pub functions : Interface
functions = record {
  Request = Call;
  Reply = Answer;
  call = λ c. c;
  reply = λ a. a;
  Made = Step;
  is_step = λ w c a w₁ s. (a, s, refl);
}

-- a list of calls, each made in the world that the one before left
pub data Run (I : Interface) : World → List I.Request → World → Type 0 where
  stop : {w : World} → Run I w [] w
  next :
      {w w₂ : World} {c : I.Request} {cs : List I.Request} (x : I.Reply) (w₁ : World) →
      I.Made w c x w₁ → Run I w₁ cs w₂ → Run I w (c ∷ cs) w₂

-- a whole run, from an opening of a store and a second slice on (the paper's night)
pub record OpenedRun (I : Interface) (o : Opening) (mem rooms : List ℕ) : Type 0 where
  pub start : World
  pub opened : Opened o mem rooms start
  pub calls : List I.Request
  pub end : World
  pub run : Run I start calls end

-- ---- what a run shows A, step by step

-- whether a call made in a world is for A
abbrev pub is_for : ℕ → World → Call → Bool
is_for A w c = eqb (owner_in w.dev c) A

-- an entry in front of a list, where it is one to keep
abbrev pub keep_if : {X : Type 0} → Bool → X → List X → List X
keep_if t x l = pick t (x ∷ l) l

module _ (A : ℕ) {I : Interface} where
  -- A's calls
  unfoldable pub calls_of : {w w₁ : World} {cs : List I.Request} → Run I w cs w₁ → List Call
  calls_of stop = []
  calls_of (next {w = w} {c = c} x w₁ s r) = keep_if (is_for A w (I.call c)) (I.call c) (calls_of r)

  -- A's observations: after each of its calls, the reply and A's view
  unfoldable pub trace : {w w₁ : World} {cs : List I.Request} → Run I w cs w₁ → List (Observation I.Reply)
  trace stop = []
  trace (next {w = w} {c = c} x w₁ s r) = keep_if (is_for A w (I.call c)) (record { answer = x; after = view A w₁ }) (trace r)

  -- A's view after every call, A's or another's
  unfoldable pub views : {w w₁ : World} {cs : List I.Request} → Run I w cs w₁ → List View
  views stop = []
  views (next x w₁ s r) = view A w₁ ∷ views r

  -- A's calls up to then, after every call, A's or another's: where this call is A's, it comes first in each of the later lists
  unfoldable pub calls_up_to : {w w₁ : World} {cs : List I.Request} → Run I w cs w₁ → List (List Call)
  calls_up_to stop = []
  calls_up_to (next {w = w} {c = c} x w₁ s r) =
      let put_first : List Call → List Call = keep_if (is_for A w (I.call c)) (I.call c) in
      put_first [] ∷ map put_first (calls_up_to r)
