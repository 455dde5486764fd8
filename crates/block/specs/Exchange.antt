-- One group of a device exchanged: what the crates below have no definition for.
use Rattle.std.specs.Prelude.{ℕ, set}
use Rattle.memory.specs.declared.part.Part.{Part}
use Rattle.memory.specs.declared.window.Window.{Window}
use Rattle.rdmap.specs.declared.stream.Stream.{Stream}
use Rattle.rdmap.specs.declared.terminates.Terminates.{Terminates}
use Rattle.domain.specs.Domain.{stream_at, with_stream, with_windows}
use Rattle.domain.specs.declared.Domain.{Domain}
use Rattle.rnic.specs.Rnic.{domain_at, with_domain, new_rnic}
use Rattle.rnic.specs.declared.Rnic.{Rnic}

-- of a stream
abbrev pub with_terminates : Stream → Terminates → Stream
with_terminates s terminates =
    record { phase = s.phase; framing = s.framing; sends = s.sends; reads = s.reads; terminates = terminates }

-- of a domain
abbrev pub with_part : Domain → Part → Domain
with_part d p = record { part = p; windows = d.windows; streams = d.streams; meter = d.meter }

abbrev pub with_window : Domain → ℕ → Window → Domain
with_window d i x = with_windows d (set d.windows i x)

-- the stream of a domain's slot, and the device with it exchanged
abbrev pub stream_of : Rnic → ℕ → ℕ → Stream
stream_of b d j = stream_at (domain_at b d) j

abbrev pub with_stream_of : Rnic → ℕ → ℕ → Stream → Rnic
with_stream_of b d j s = with_domain b d (with_stream (domain_at b d) j s)

-- a device that was just opened, by its parts
abbrev pub rnic_of : ℕ → Part → Part → Part → Part → Rnic
rnic_of len p₀ p₁ p₂ p₃ =
    new_rnic len p₀.start p₀.end p₁.start p₁.end p₂.start p₂.end p₃.start p₃.end
