-- Two writers on one spot: what refuses a write window or a buffer of a domain with 19. Only the domain's own entries are looked at.
use Rattle.std.specs.Prelude.{ℕ, Bool}
use Rattle.wire.specs.Wire.{pick}
use Rattle.overlap.specs.Sharing.{either, windows_share, streams_share}
use Rattle.domain.specs.declared.Domain.{Domain}
use Rattle.std.specs.Prelude.{Err, Ok, Result, ⊤}
use Rattle.wire.specs.declared.refusal.LocalRefusal.{LocalRefusal}
use Rattle.wire.specs.declared.refusal.LocalRefusal.TheVariants.{SharedByte}

-- some of the len bytes from place are a write window's or a waiting buffer's
unfoldable pub domain_shares : Domain → ℕ → ℕ → Bool
domain_shares d place len = either (windows_share d.windows place len) (streams_share d.streams place len)

-- 19 is asked last: a call that is refused stays refused as it is, one that would be done changes nothing
abbrev pub unless_shared : Bool → Domain → (Result ⊤ LocalRefusal × Domain) → Result ⊤ LocalRefusal → (Result ⊤ LocalRefusal × Domain)
unless_shared shared d r (Ok tt) = pick shared (Err SharedByte, d) r
unless_shared shared d r (Err n) = r

unfoldable pub lastly : Bool → Domain → (Result ⊤ LocalRefusal × Domain) → (Result ⊤ LocalRefusal × Domain)
lastly shared d r = unless_shared shared d r r.0
