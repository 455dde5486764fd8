-- What an accepted opening tells of its parts: each number is at most the next one, and the last at most the length.
-- Assumes nothing.
use mathlib.Core.Path.{◌≡◌}
use mathlib.Core.Bool.{Bool, true}
use mathlib.Core.List.{[], ◌∷◌}
use Prim.Native.Nat.{ℕ, ◌≤◌}
use lib.Dec.{leb}
use borrow.Author.Tests.{leb-true}
use Rattle.wire.specs.Wire.{both}
use Rattle.wire.proofs.Laws.{both_true}
use Rattle.rnic.specs.Rnic.{in_order}

-- one test of a chain
step : (a b : ℕ) (t : Bool) → both (leb a b) t ≡ true → (a ≤ b) × (t ≡ true)
step a b t e = let p = both_true (leb a b) t e in (leb-true a b p.0, p.1)

pub record Ordered (len s₀ e₀ s₁ e₁ s₂ e₂ s₃ e₃ : ℕ) : Type 0 where
  pub first : s₀ ≤ e₀
  pub gap₁ : e₀ ≤ s₁
  pub second : s₁ ≤ e₁
  pub gap₂ : e₁ ≤ s₂
  pub third : s₂ ≤ e₂
  pub gap₃ : e₂ ≤ s₃
  pub fourth : s₃ ≤ e₃
  pub within : e₃ ≤ len

pub ordered : (len s₀ e₀ s₁ e₁ s₂ e₂ s₃ e₃ : ℕ) → in_order 0 (s₀ ∷ e₀ ∷ s₁ ∷ e₁ ∷ s₂ ∷ e₂ ∷ s₃ ∷ e₃ ∷ []) len ≡ true → Ordered len s₀ e₀ s₁ e₁ s₂ e₂ s₃ e₃
ordered len s₀ e₀ s₁ e₁ s₂ e₂ s₃ e₃ q =
    let a = step 0 s₀ _ q in
    let b = step s₀ e₀ _ a.1 in
    let c = step e₀ s₁ _ b.1 in
    let d = step s₁ e₁ _ c.1 in
    let e = step e₁ s₂ _ d.1 in
    let f = step s₂ e₂ _ e.1 in
    let g = step e₂ s₃ _ f.1 in
    let h = step s₃ e₃ _ g.1 in
    record { first = b.0; gap₁ = c.0; second = d.0; gap₂ = e.0; third = f.0; gap₃ = g.0; fourth = h.0; within = leb-true e₃ len h.1 }
