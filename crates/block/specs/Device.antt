-- The device that a block of words holds: `rnic_at`. Any words hold one.
use Rattle.std.specs.Prelude.{ℕ, List, [], ◌∷◌, get_or}
use Rattle.wire.specs.Wire.{part, put}
use Rattle.memory.specs.declared.part.Part.{Part}
use Rattle.memory.specs.declared.window.Window.{Window}
use Rattle.meter.specs.Words.{meter_words, meter_of, counted_word}
use Rattle.meter.specs.declared.Meter.{Meter}
use Rattle.domain.specs.declared.Domain.{Domain}
use Rattle.rnic.specs.declared.Rnic.{Rnic}
use Rattle.block.specs.Layout.{domain_offset, window_offset, meter_offset}
use Rattle.block.specs.Words.{sequence, lower_half, part_in, part_words, window_in, window_words}
use Rattle.block.specs.Stream.{loaded_stream}

-- the length of the store
unfoldable pub loaded_len : List ℕ → ℕ
loaded_len w = lower_half (get_or (part w 0 1) 0 0)

abbrev pub stored_len : List ℕ → ℕ → List ℕ
stored_len w len = put w 0 (len ∷ [])

-- a domain's part, and its window of a slot
unfoldable pub loaded_part : List ℕ → ℕ → Part
loaded_part w d = part_in (part w (domain_offset d) 1)

abbrev pub stored_part : List ℕ → ℕ → Part → List ℕ
stored_part w d p = put w (domain_offset d) (part_words p)

unfoldable pub loaded_window : List ℕ → ℕ → ℕ → Window
loaded_window w d i = window_in (part w (window_offset d i) 3)

abbrev pub stored_window : List ℕ → ℕ → ℕ → Window → List ℕ
stored_window w d i window = put w (window_offset d i) (window_words window)

abbrev pub loaded_windows : List ℕ → ℕ → List Window
loaded_windows w d = sequence 16 (loaded_window w d)

-- a domain's meter, and what is stored of it: all of it, or its first word with more bytes counted
unfoldable pub loaded_meter : List ℕ → ℕ → Meter
loaded_meter w d = meter_of (part w (meter_offset d) 3)

abbrev pub stored_meter : List ℕ → ℕ → Meter → List ℕ
stored_meter w d m = put w (meter_offset d) (meter_words m)

abbrev pub stored_count : List ℕ → ℕ → ℕ → List ℕ
stored_count w d placed = put w (meter_offset d) (counted_word (get_or w (meter_offset d) 0) placed ∷ [])

-- a domain, and the device
unfoldable pub loaded_domain : List ℕ → ℕ → Domain
loaded_domain w d =
    record { part = loaded_part w d; windows = loaded_windows w d; streams = sequence 4 (loaded_stream w d); meter = loaded_meter w d }

unfoldable pub rnic_at : List ℕ → Rnic
rnic_at w = record { len = loaded_len w; domains = sequence 4 (loaded_domain w) }
