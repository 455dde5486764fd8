-- How the bytes of a stream are read as frames: the CRC setting, and how many bytes of an FPDU that is not complete the stream holds.
use Rattle.std.specs.Prelude.{ℕ, Bool, false}
use Rattle.rdmap.specs.declared.framing.Framing.{Framing}

-- a closed stream is all zeros
abbrev pub no_framing : Framing
no_framing = record { crc = false; held = 0 }

-- "Open with the CRC on or off"; a stream that was just opened holds nothing
abbrev pub new_framing : Bool → Framing
new_framing crc = record { crc = crc; held = 0 }

-- the framing of a stream that holds n bytes
abbrev pub framing_holding : Framing → ℕ → Framing
framing_holding f n = record { crc = f.crc; held = n }
