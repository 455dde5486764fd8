-- The opening by `rnic_c_call` gives the world of an opening of the crate `isolation`, accepted or refused.
use Prim.Native.Nat.{ℕ}
use mathlib.Core.Path.{◌≡◌, refl, ap, ◌∙◌}
use mathlib.Core.Bool.{Bool}
use mathlib.Core.List.{List, []}
use lib.ListN.{length}
use Rattle.wire.specs.Wire.{pick}
use Rattle.rnic.specs.Rnic.{opened_rnic}
use Rattle.calls.specs.Words.{outcome_words}
use Rattle.calls.specs.Call.{Called, called, called_store}
use Rattle.block.specs.Device.{rnic_at}
use Rattle.isolation.specs.Book.{Opening}
use Rattle.isolation.proofs.Calls.{accepted, Opened as WorldOpened}
use Rattle.isolation_c.specs.Request.{says_done}
use Rattle.isolation_c.proofs.Calls.{Host, Opened, world_of}
use Rattle.std.specs.Prelude.{Err, Ok, Result, ⊤}
use Rattle.wire.specs.declared.refusal.LocalRefusal.{LocalRefusal}
use Rattle.rnic.specs.declared.Rnic.{Rnic}

done-same : (x : Result ⊤ LocalRefusal) → says_done (outcome_words x) ≡ accepted x
done-same (Ok tt) = refl
done-same (Err n) = refl

module _ (o : Opening) (mem rooms : List ℕ) (h : Host) (s : Opened o mem rooms h) where
  abbrev result : Result ⊤ LocalRefusal × Rnic
  result = opened_rnic o.len o.s₀ o.e₀ o.s₁ o.e₁ o.s₂ o.e₂ o.s₃ o.e₃

  -- what the contract says, of the nine numbers given
  abbrev called_on : List ℕ → Called
  called_on a = called (rnic_at s.device.now) (length s.slice.now) 0 a s.bytes.now

  opened-rnic : rnic_at h.words ≡ result.1
  unfolding called
  opened-rnic = s.contract.0 ∙ (λ i. (called_on (s.args_are i)).rnic)

  opened-done : says_done s.answered ≡ accepted result.0
  unfolding called
  opened-done = ap says_done (s.contract.1 ∙ (λ i. (called_on (s.args_are i)).words)) ∙ done-same result.0

  pub opened : WorldOpened o mem rooms (world_of h)
  opened = (
    result,
    refl,
    (λ e. s.long (opened-done ∙ e)),
    s.roomy,
    (λ i. record { dev = opened-rnic i; mem = (s.store ∙ ap (λ (t : Bool). pick t mem []) opened-done) i; rooms = s.second i }),
  )

  -- the slice lent to it
  pub opening_slice : s.after ≡ s.slice.now
  unfolding called_store
  opening_slice = s.contract.2
