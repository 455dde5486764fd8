-- What a line does, from what `ask` says of it and what the call that it asks for does.
-- Assumes nothing.
use Prim.Native.Nat.{ℕ, zero, suc, min}
use native.Mathlib.Nat.{zero-min, min-zero, suc-min-suc}
use mathlib.Core.Path.{◌≡◌, refl, ap, ◌∙◌}
use mathlib.Core.List.{List, [], ◌∷◌, ◌++◌}
use lib.ListN.{length, take, drop}
use Rattle.std.specs.Prelude.{Some, None}
use Rattle.calls.specs.Call.{called, called_store}
use Rattle.rnic.specs.declared.Rnic.{Rnic}
use Rattle.request.specs.Request.{Request, call_by, Says}
use Rattle.request.specs.Request.Request.{call, fill, text}
use Rattle.request.specs.declared.DeviceCall.{DeviceCall}
use Rattle.running.specs.Run.{State, state_after, store_then}

-- as many elements as are asked for and there
take_min : (n : ℕ) (l : List ℕ) → take (min n (length l)) l ≡ take n l
take_min zero l = ap (λ m. take m l) (zero-min (length l))
take_min (suc n) [] = ap (λ m. take m []) (min-zero (suc n))
take_min (suc n) (x ∷ l) = ap (λ m. take m (x ∷ l)) (suc-min-suc n (length l)) ∙ ap (λ xs. x ∷ xs) (take_min n l)

module _ (s : State) (buffer store after : List ℕ) where
  module _ (r : DeviceCall) where
    -- the call that r is, made on the device and the store
    abbrev pub rnic_then : Rnic
    rnic_then = (called s.rnic (min r.lent (length after)) r.number r.numbers (take (min r.size (length buffer)) buffer)).rnic

    abbrev pub bytes_then : List ℕ
    bytes_then =
        called_store s.rnic r.number r.numbers (take (min r.size (length buffer)) buffer) (take (min r.lent (length after)) after)
        ++ drop (min r.lent (length after)) after

    pub call_made :
        (q : Request) → Says q (Some r) buffer store after → (d : Rnic) (mem : List ℕ) → d ≡ rnic_then → mem ≡ bytes_then →
        (◌≡◌ {A = State} (record { kept = r.kept; rnic = d }) (state_after s q store)) × (mem ≡ store_then s q store)
    call_made (call number numbers input lent kept) w d mem e f =
        let i : take (min r.size (length buffer)) buffer ≡ input = take_min r.size buffer ∙ w.input in
        let b : Some r ≡ Some (call_by number numbers (length input) lent kept) = w.asked in
        let a : r ≡ call_by number numbers (length input) lent kept = cc in (
          ap (λ (x : Rnic). record { kept = r.kept; rnic = x }) e
              ∙ (λ z. record { kept = (a z).kept; rnic = (called s.rnic (min (a z).lent (length (w.rest z))) (a z).number (a z).numbers (i z)).rnic }),
          f
              ∙ (λ z. called_store s.rnic (a z).number (a z).numbers (i z) (take (min (a z).lent (length (w.rest z))) (w.rest z)) ++ drop (min (a z).lent (length (w.rest z))) (w.rest z)),
        )
    call_made (fill start bytes) w d mem e f = let b : Some r ≡ None = w.asked in cc
    call_made text w d mem e f = let b : Some r ≡ None = w.asked in cc

  pub no_call : (q : Request) → Says q None buffer store after → (s ≡ state_after s q store) × (after ≡ store_then s q store)
  no_call (call number numbers input lent kept) w =
      let b : None ≡ Some (call_by number numbers (length input) lent kept) = w.asked in
      cc
  no_call (fill start bytes) w = (refl, w.rest)
  no_call text w = (refl, w.rest)
