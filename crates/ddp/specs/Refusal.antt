-- The paper's rows 20 to 32: number, then layer, type and code.
use Rattle.std.specs.Prelude.{ℕ}
use Rattle.ddp.specs.declared.refusal.Refusal.{Refusal}

abbrev pub row : ℕ → ℕ → ℕ → ℕ → Refusal
row number layer etype code = record { number = number; layer = layer; etype = etype; code = code }

-- a ULPDU over the limit (`max_ulpdu` of the crate `mpa`), "asked once 2 bytes are there"
abbrev pub ulpdu_too_long : Refusal
ulpdu_too_long = row 20 1 0 0x00

-- "CRC on and wrong"
abbrev pub crc_error : Refusal
crc_error = row 21 2 0 0x02

-- "ULPDU under 14, or untagged under 18"
abbrev pub segment_too_short : Refusal
segment_too_short = row 22 1 0 0x00

-- "DDP version", 1/1/04 tagged, 1/2/06 untagged
abbrev pub tagged_version : Refusal
tagged_version = row 23 1 1 0x04

abbrev pub untagged_version : Refusal
untagged_version = row 23 1 2 0x06

-- "STag names another domain's window number, live or not"
abbrev pub stag_not_associated : Refusal
stag_not_associated = row 24 1 1 0x02

-- "window number over 63, dead, or other key"
abbrev pub invalid_stag : Refusal
invalid_stag = row 25 1 1 0x00

-- "TO + payload above 2^64"
abbrev pub to_wrap : Refusal
to_wrap = row 26 1 1 0x03

-- "not inside the window: TO below base, or TO + payload above base + length"
abbrev pub bounds_violation : Refusal
bounds_violation = row 27 1 1 0x01

-- "queue above 2"
abbrev pub invalid_qn : Refusal
invalid_qn = row 28 1 2 0x01

-- "MSN not the expected one"
abbrev pub invalid_msn : Refusal
invalid_msn = row 29 1 2 0x03

-- "no buffer (queue 0), or 8 reads wait (queue 1)"
abbrev pub no_buffer_waits : Refusal
no_buffer_waits = row 30 1 2 0x02

-- "MO"
abbrev pub invalid_mo : Refusal
invalid_mo = row 31 1 2 0x04

-- "past the buffer (28 on queue 1, 52 on queue 2)"
abbrev pub message_too_long : Refusal
message_too_long = row 32 1 2 0x05
