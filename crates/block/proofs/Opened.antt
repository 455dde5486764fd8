-- A cleared block, with a length and four parts stored, holds the device that was just opened.
use Prim.Native.Nat.{ℕ, ◌<◌}
use mathlib.Core.List.{List}
use mathlib.Core.Path.{◌≡◌, ap, ◌∙◌}
use native.Mathlib.Omega.{arith}
use lib.ListN.{length}
use Rattle.memory.specs.declared.part.Part.{Part}
use Rattle.rnic.specs.Rnic.{domain_at, with_domain, empty_rnic}
use Rattle.rnic.specs.declared.Rnic.{Rnic}
use Rattle.block.specs.Layout.{block_words}
use Rattle.block.specs.Device.{loaded_len, loaded_part, rnic_at, stored_len, stored_part}
use Rattle.block.specs.Exchange.{with_part, rnic_of}
use Rattle.block.proofs.Stored.{len_changed, part_changed}

-- a device with a domain's part exchanged
abbrev parted : Rnic → ℕ → Part → Rnic
parted b d p = with_domain b d (with_part (domain_at b d) p)

-- a block u is the block v with the length stored, and with a domain's part
abbrev LenStored : List ℕ → List ℕ → ℕ → Type 0
LenStored v u n = (u ≡ stored_len v n) × (loaded_len u ≡ n) × (length v ≡ block_words)

abbrev PartStored : List ℕ → List ℕ → ℕ → Part → Type 0
PartStored v u d p = (u ≡ stored_part v d p) × (loaded_part u d ≡ p) × (length v ≡ block_words)

part-next : (v u : List ℕ) (b : Rnic) (d : ℕ) (p : Part) → d < 4 → rnic_at v ≡ b → PartStored v u d p → rnic_at u ≡ parted b d p
part-next v u b d p h is e =
    let long = e.2 in
    part_changed v u d h (omega arith) p e.0 e.1 ∙ ap (λ (x : Rnic). parted x d p) is

pub opened_stored : (v₀ v₁ v₂ v₃ v₄ v₅ : List ℕ) (n : ℕ) (p₀ p₁ p₂ p₃ : Part) → rnic_at v₀ ≡ empty_rnic → LenStored v₀ v₁ n → PartStored v₁ v₂ 0 p₀ → PartStored v₂ v₃ 1 p₁ → PartStored v₃ v₄ 2 p₂ → PartStored v₄ v₅ 3 p₃ → rnic_at v₅ ≡ rnic_of n p₀ p₁ p₂ p₃
opened_stored v₀ v₁ v₂ v₃ v₄ v₅ n p₀ p₁ p₂ p₃ h₀ e₁ e₂ e₃ e₄ e₅ =
    let h₁ = len_changed v₀ v₁ n e₁.0 e₁.1 ∙ ap (λ (x : Rnic). record { len = n; domains = x.domains }) h₀ in
    let h₂ = part-next v₁ v₂ _ 0 p₀ (omega arith) h₁ e₂ in
    let h₃ = part-next v₂ v₃ _ 1 p₁ (omega arith) h₂ e₃ in
    let h₄ = part-next v₃ v₄ _ 2 p₂ (omega arith) h₃ e₄ in
    part-next v₄ v₅ _ 3 p₃ (omega arith) h₄ e₅
