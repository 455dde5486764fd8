-- Runs of the C entries in any mixture, on one block, one store and one second slice, and what a run shows a domain A.
use Prim.Native.Nat.{ℕ}
use mathlib.Core.List.{List, [], ◌∷◌, map}
use Rattle.isolation.specs.Book.{Call, View, Observation, Opening}
use Rattle.isolation.proofs.Runs.{is_for, keep_if}
use Rattle.isolation_c.specs.Request.{Request, call_in}
use Rattle.isolation_c.proofs.Calls.{Host, Made, Opened, world_of, view_in}

-- a list of requests, each made on the words and the slices that the one before left
pub data Run : Host → List Request → Host → Type 0 where
  stop : {h : Host} → Run h [] h
  next :
      {h h₂ : Host} {c : Request} {cs : List Request} (x : List ℕ) (h₁ : Host) →
      Made h c x h₁ → Run h₁ cs h₂ → Run h (c ∷ cs) h₂

-- a whole run, from an opening of a store and a second slice on
pub record OpenedRun (o : Opening) (mem rooms : List ℕ) : Type 0 where
  pub start : Host
  pub opened : Opened o mem rooms start
  pub requests : List Request
  pub end : Host
  pub run : Run start requests end

-- ---- what a run shows A, step by step
module _ (A : ℕ) where
  -- A's calls, by whichever entry
  unfoldable pub calls_of : {h h₁ : Host} {cs : List Request} → Run h cs h₁ → List Call
  calls_of stop = []
  calls_of (next {h = h} {c = c} x h₁ s r) = keep_if (is_for A (world_of h) (call_in c)) (call_in c) (calls_of r)

  -- A's observations: after each of its calls, the words of the answer and A's view
  unfoldable pub trace : {h h₁ : Host} {cs : List Request} → Run h cs h₁ → List (Observation (List ℕ))
  trace stop = []
  trace (next {h = h} {c = c} x h₁ s r) = keep_if (is_for A (world_of h) (call_in c)) (record { answer = x; after = view_in A h₁ }) (trace r)

  -- A's view after every call, A's or another's
  unfoldable pub views : {h h₁ : Host} {cs : List Request} → Run h cs h₁ → List View
  views stop = []
  views (next x h₁ s r) = view_in A h₁ ∷ views r

  -- A's calls up to then, after every call, A's or another's
  unfoldable pub calls_up_to : {h h₁ : Host} {cs : List Request} → Run h cs h₁ → List (List Call)
  calls_up_to stop = []
  calls_up_to (next {h = h} {c = c} x h₁ s r) =
      let put_first : List Call → List Call = keep_if (is_for A (world_of h) (call_in c)) (call_in c) in
      put_first [] ∷ map put_first (calls_up_to r)
