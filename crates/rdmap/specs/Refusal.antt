-- The paper's rows 33 to 38: number, then layer, type and code.
use Rattle.ddp.specs.Refusal.{row}
use Rattle.ddp.specs.declared.refusal.Refusal.{Refusal}

-- "RDMAP version"
abbrev pub rdmap_version : Refusal
rdmap_version = row 33 0 2 0x05

-- "opcode doesn't fit, or differs from the message's earlier segments"
abbrev pub unexpected_opcode : Refusal
unexpected_opcode = row 34 0 2 0x06

-- "no write right"
abbrev pub no_write_right : Refusal
no_write_right = row 35 0 1 0x02

-- "invalidate STag: other domain (as 24), then not live (as 25)"
abbrev pub invalidate_foreign : Refusal
invalidate_foreign = row 36 0 1 0x03

abbrev pub invalidate_missing : Refusal
invalidate_missing = row 36 0 1 0x00

-- "Read Request not 28 bytes, Terminate under 4, or L clear on either"
abbrev pub malformed : Refusal
malformed = row 37 0 2 0xFF

-- "read source: other domain, not live, wrap, bounds, no read right, asked in this order", of a read of at least one byte
abbrev pub source_foreign : Refusal
source_foreign = row 38 0 1 0x03

abbrev pub source_missing : Refusal
source_missing = row 38 0 1 0x00

abbrev pub source_wrap : Refusal
source_wrap = row 38 0 1 0x04

abbrev pub source_bounds : Refusal
source_bounds = row 38 0 1 0x01

abbrev pub no_read_right : Refusal
no_read_right = row 38 0 1 0x02
