-- The window of a domain's slot, and the device with it exchanged.
use Rattle.std.specs.Prelude.{ℕ}
use Rattle.memory.specs.Window.{window_at}
use Rattle.memory.specs.declared.window.Window.{Window}
use Rattle.rnic.specs.Rnic.{domain_at, with_domain}
use Rattle.rnic.specs.declared.Rnic.{Rnic}
use Rattle.block.specs.Exchange.{with_window}

abbrev pub window_of : Rnic → ℕ → ℕ → Window
window_of b d i = window_at (domain_at b d).windows i

abbrev pub with_window_of : Rnic → ℕ → ℕ → Window → Rnic
with_window_of b d i x = with_domain b d (with_window (domain_at b d) i x)
