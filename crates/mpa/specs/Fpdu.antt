-- FPDUs (RFC 5044, section 4): what one is, what writing one does and what reading one finds.
use Rattle.std.specs.Prelude.{ℕ, ◌+◌, ◌-◌, ◌%◌, Bool, not, List, ◌++◌, length, take, drop, replicate, ltb, eqb, Err, Ok, Result}
use Rattle.wire.specs.Wire.{pick, both, be16, be16_at, le32, le32_at}
use Rattle.crc32c.specs.Crc.{crc_of}
use Rattle.mpa.specs.declared.FpduRead.{FpduRead}
use Rattle.mpa.specs.declared.FpduRead.TheVariants.{Wait, Taken}
use Rattle.mpa.specs.declared.FpduFault.{FpduFault}
use Rattle.mpa.specs.declared.FpduFault.TheVariants.{CrcError, UlpduTooLong}
use Rattle.wire.specs.declared.refusal.LocalRefusal.{LocalRefusal}
use Rattle.wire.specs.declared.refusal.LocalRefusal.TheVariants.{NoRoom, OverLimit}

-- "ULPDU: 0 to 2,048 bytes at this layer"; "Raise the ULPDU limit from 2,048 to 8,192 everywhere it is named"
abbrev pub max_ulpdu : ℕ
max_ulpdu = 8192

-- "0 to 3 pad bytes so that the total so far divides by 4", after the length (2 bytes) and n bytes of ULPDU
abbrev pub pad_of : ℕ → ℕ
pad_of n = (4 - (2 + n) % 4) % 4

-- the bytes before the CRC: length, ULPDU and pad
abbrev pub covered_of : ℕ → ℕ
covered_of n = 2 + n + pad_of n

-- the whole FPDU of a ULPDU of n bytes, with the CRC (4 bytes)
abbrev pub total_of : ℕ → ℕ
total_of n = covered_of n + 4

-- how many bytes of an FPDU that begins with length n say what it is: all of it, or the two of the length where that is over the limit
abbrev pub needed_for : ℕ → ℕ
needed_for n = pick (ltb max_ulpdu n) 2 (total_of n)

-- "ULPDU length (2 bytes), ULPDU, pad": pad is written zero
unfoldable pub covered : List ℕ → List ℕ
covered u = be16 (length u) ++ (u ++ replicate (pad_of (length u)) 0)

-- the FPDU of a ULPDU: the CRC is over all before it, its least significant byte first
unfoldable pub fpdu_of : List ℕ → List ℕ
fpdu_of u = covered u ++ le32 (crc_of (covered u))

-- the slice with a frame at its start, and its rest as it was
abbrev pub over : List ℕ → List ℕ → List ℕ
over out frame = frame ++ drop (length frame) out

-- writing the FPDU of n bytes of ULPDU into room bytes: 12 ULPDU over the limit, 13 output slice too small, or its length
unfoldable pub fpdu_written : ℕ → ℕ → Result ℕ LocalRefusal
fpdu_written n room =
    pick (ltb max_ulpdu n) (Err OverLimit)
    (pick (ltb room (total_of n)) (Err NoRoom)
    (Ok (total_of n)))

-- the slice after a writer's answer: it has the frame at its start or, refused, keeps every byte
abbrev pub out_after : Result ℕ LocalRefusal → List ℕ → List ℕ → List ℕ
out_after (Ok n) out frame = over out frame
out_after (Err k) out frame = out

unfoldable pub fpdu_out : List ℕ → List ℕ → List ℕ
fpdu_out u out = out_after (fpdu_written (length u) (length out)) out (fpdu_of u)

-- the four CRC bytes after n bytes of ULPDU are those of the bytes before them
abbrev pub crc_right : List ℕ → ℕ → Bool
crc_right bytes n = eqb (le32_at bytes (covered_of n)) (crc_of (take (covered_of n) bytes))

-- reading the first FPDU of the bytes, with the CRC on or off: what is asked once the length n is there
unfoldable pub fpdu_read_of : Bool → List ℕ → ℕ → Result FpduRead FpduFault
fpdu_read_of on bytes n =
    pick (ltb max_ulpdu n) (Err UlpduTooLong)
    (pick (ltb (length bytes) (total_of n)) (Ok (Wait (total_of n)))
    (pick (both on (not (crc_right bytes n))) (Err CrcError)
    (Ok (Taken (total_of n) 2 n))))

-- "under 2 bytes Wait 2; then 20 is asked; then, with fewer than the FPDU's total, Wait total"; 21 CRC on and wrong; or the total and where the ULPDU lies
unfoldable pub fpdu_read : Bool → List ℕ → Result FpduRead FpduFault
fpdu_read on bytes = pick (ltb (length bytes) 2) (Ok (Wait 2)) (fpdu_read_of on bytes (be16_at bytes 0))

-- the refusals of an FPDU by number
unfoldable pub fault_number : FpduFault → ℕ
fault_number UlpduTooLong = 20
fault_number CrcError = 21
