-- A call as a host in C makes it, and which call of the device it is; the numbers of an opening, and whether its answer says done.
use Rattle.std.specs.Prelude.{ℕ, Bool, List, [], ◌∷◌, get_or, eqb}
use Rattle.isolation.specs.Book.{Call, Opening}
use Rattle.isolation.specs.Book.Call.{receive, offer}
use Rattle.isolation.specs.Number.{Numbered, call_of}

-- a request of `rnic_c_call` with a number from 1 on, since number 0 opens another device and so starts another run; one of
-- `rnic_c_receive` with its stream, its bytes and the length of the slice lent; or one of `rnic_c_offer`, with that of the second slice
-- too. Of the other entries `rnic_c_held` reads the device alone, and the rest are given none
pub data Request : Type 0 where
  by_number : (c : Numbered) → Request
  receiving : (stream : ℕ) → (input : List ℕ) → (size : ℕ) → Request
  offering : (stream : ℕ) → (input : List ℕ) → (size many : ℕ) → Request

-- which call of the device it is, whichever entry makes it
abbrev pub call_in : Request → Call
call_in (by_number c) = call_of c
call_in (receiving stream input size) = receive stream input size
call_in (offering stream input size many) = offer stream input size many

-- the nine numbers of an opening: the store's length, then the start and the end of each domain's part
abbrev pub opening_numbers : Opening → List ℕ
opening_numbers o = o.len ∷ o.s₀ ∷ o.e₀ ∷ o.s₁ ∷ o.e₁ ∷ o.s₂ ∷ o.e₂ ∷ o.s₃ ∷ o.e₃ ∷ []

-- whether an answer's words say done: word 0 is 1
abbrev pub says_done : List ℕ → Bool
says_done words = eqb (get_or words 0 0) 1
