-- Tagged segments: "24 to 27 and 35 are asked of tagged payloads from 1 byte", in this order.
use Rattle.std.specs.Prelude.{ℕ, ◌==◌, Err, None, Ok, Option, Result, Some}
use Rattle.wire.specs.Wire.{pick}
use Rattle.memory.specs.Window.{found_in, spanned}
use Rattle.ddp.specs.Refusal.{stag_not_associated, invalid_stag, to_wrap, bounds_violation}
use Rattle.memory.specs.declared.window.Window.{Window}
use Rattle.ddp.specs.declared.refusal.Refusal.{Refusal}
use Rattle.memory.specs.declared.window.SpanFault.{SpanFault}
use Rattle.memory.specs.declared.window.SpanFault.TheVariants.{Outside, Wrap}
use Rattle.memory.specs.declared.window.StagFault.{StagFault}
use Rattle.memory.specs.declared.window.StagFault.TheVariants.{Foreign, Missing}

-- in the window: 26 and then 27, or the place
abbrev pub tagged_in : Result ℕ SpanFault → Result (Option ℕ) Refusal
tagged_in (Err Wrap) = Err to_wrap
tagged_in (Err Outside) = Err bounds_violation
tagged_in (Ok place) = Ok (Some place)

-- what the STag names: 24 and then 25, or the window
abbrev pub tagged_at : Window → Result ℕ StagFault → ℕ → ℕ → Result (Option ℕ) Refusal
tagged_at w (Err Foreign) to len = Err stag_not_associated
tagged_at w (Err Missing) to len = Err invalid_stag
tagged_at w (Ok slot) to len = tagged_in (spanned w to len)

-- of the window in the slot that the STag names. "A zero-length Write looks at neither STag, TO nor rights and places nothing"
unfoldable pub tagged_of : Window → ℕ → ℕ → ℕ → ℕ → Result (Option ℕ) Refusal
tagged_of w domain stag to len = pick (len == 0) (Ok None) (tagged_at w (found_in w domain stag) to len)
