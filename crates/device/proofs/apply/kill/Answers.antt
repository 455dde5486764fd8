-- `kill` meets its contract: the window that is named is dropped; one past the sixteen, or none, changes nothing.
use Rattle.slots.specs.Window.{window_of}
use Rattle.wire.specs.Wire.{pick}
use lib.Dec.{leb}
use mathlib.Core.Bool.{Bool, true, false}
use Rattle.slots.proofs.Slots.{domain-kept}
use Prim.Native.Nat.{ℕ}
use Rattle.block.specs.Device.{rnic_at}
use Rattle.rnic.specs.declared.Rnic.{Rnic}
use Rattle.rnic.specs.Rnic.{domain_at, with_domain}
use Rattle.arrival.specs.Parts.{killed}
use Rattle.domain.specs.Domain.{with_windows}
use Rattle.memory.specs.Window.{refusing, entering, dropped_in, dropped}
use native.Mathlib.Omega.{arith}
use borrow.Author.Tests.{le-leb, lt-leb}
use mathlib.Core.Path.{◌≡◌, refl, sym, ap, ◌∙◌}
use Rattle.device.proofs.apply.kill.Goals as goal
use Rattle.std.specs.Prelude.{None, Option, Some}
use Rattle.wire.specs.declared.refusal.LocalRefusal.TheVariants.{OutOfRange}

-- the device with what an invalidation leaves of a domain's windows
abbrev after : Rnic → ℕ → Option (ℕ × ℕ) → Rnic
after b d which = with_domain b d (with_windows (domain_at b d) (killed which (domain_at b d).windows))

-- the window of a slot is dropped, where there is such a slot, whatever its STag
dropping : (b : Rnic) (d slot stag : ℕ) (t : Bool) → leb slot 15 ≡ t → after b d (Some (slot, stag)) ≡ with_domain b d (with_windows (domain_at b d) (pick t (entering (domain_at b d).windows slot (dropped_in (window_of b d slot))) (refusing (domain_at b d).windows OutOfRange)).1)
unfolding dropped
dropping b d slot stag t e = ap (λ (u : Bool). with_domain b d (with_windows (domain_at b d) (pick u (entering (domain_at b d).windows slot (dropped_in (window_of b d slot))) (refusing (domain_at b d).windows OutOfRange)).1)) e

-- and where no window is named nothing changes
none_named : (b : Rnic) (d : ℕ) (which : Option (ℕ × ℕ)) → ((p : ℕ × ℕ) → which ≡ Some p → ⊥) → b ≡ after b d which
none_named b d None h = sym (domain-kept b d)
none_named b d (Some p) h = absurd (h p refl)

pub returns-in_default : goal.returns-in_default
returns-in_default c = none_named (rnic_at c.args.words.now) c.args.domain c.args.which c.in_default.not-Some

pub returns-then-slot-lt16 : goal.returns-then-slot-lt16
returns-then-slot-lt16 c =
    let a = c.args in
    let k = le-leb c.in-Some.slot 15 (omega (arith, c.if-slot-lt16.true)) in
    c.drop_slot.ensures.1 ∙ sym (dropping (rnic_at a.words.now) a.domain c.in-Some.slot 0 true k) ∙ ap (after (rnic_at a.words.now) a.domain) (sym c.in-Some.is)

pub returns-else-slot-lt16 : goal.returns-else-slot-lt16
returns-else-slot-lt16 c =
    let a = c.args in
    let k = lt-leb c.in-Some.slot 15 (omega (arith, c.if-slot-lt16.false)) in
    sym (dropping (rnic_at a.words.now) a.domain c.in-Some.slot 0 false k ∙ domain-kept (rnic_at a.words.now) a.domain) ∙ ap (after (rnic_at a.words.now) a.domain) (sym c.in-Some.is)
