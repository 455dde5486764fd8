-- Startup frames (RFC 5044, section 7.1), revision 1.
use Rattle.std.specs.Prelude.{ℕ, ◌+◌, ◌/◌, ◌%◌, Bool, true, not, List, [], ◌∷◌, ◌++◌, length, take, get_or, ltb, leb, eqb, Err, Ok, Result}
use Rattle.wire.specs.Wire.{pick, both, same, be16, be16_at}
use Rattle.mpa.specs.Fpdu.{out_after}
use Rattle.mpa.specs.declared.StartupRead.{StartupRead}
use Rattle.mpa.specs.declared.StartupRead.TheVariants.{Wait, Taken}
use Rattle.wire.specs.declared.refusal.LocalRefusal.{LocalRefusal}
use Rattle.wire.specs.declared.refusal.LocalRefusal.TheVariants.{BadStartup, Markers, NoRoom, OutOfRange, OverLimit}

-- "private data length (2 bytes, at most 512)"
abbrev pub max_private : ℕ
max_private = 512

-- the key, `MPA ID Req Frame` or, of a reply, `MPA ID Rep Frame` (16 bytes)
abbrev pub key_of : Bool → List ℕ
key_of reply =
    0x4D ∷ 0x50 ∷ 0x41 ∷ 0x20 ∷ 0x49 ∷ 0x44 ∷ 0x20 ∷ 0x52 ∷ 0x65 ∷ pick reply 0x70 0x71
    ∷ 0x20 ∷ 0x46 ∷ 0x72 ∷ 0x61 ∷ 0x6D ∷ 0x65 ∷ []

-- "flags (M 0x80, C 0x40, R 0x20)": our writer leaves M and the reserved bits clear
abbrev pub flags_of : Bool → Bool → ℕ
flags_of c r = pick c 0x40 0 + pick r 0x20 0

abbrev pub flag_m : ℕ → Bool
flag_m flags = leb 0x80 flags

abbrev pub flag_c : ℕ → Bool
flag_c flags = eqb (flags / 0x40 % 2) 1

abbrev pub flag_r : ℕ → Bool
flag_r flags = eqb (flags / 0x20 % 2) 1

-- the frame: key, flags, revision 1, private data length, private data
unfoldable pub startup_of : Bool → Bool → Bool → List ℕ → List ℕ
startup_of reply c r priv = key_of reply ++ (flags_of c r ∷ 1 ∷ (be16 (length priv) ++ priv))

-- writing one with n bytes of private data into room bytes: 1 R asked for in a request, 12 private data over 512, 13 output slice too small
unfoldable pub startup_written : Bool → Bool → ℕ → ℕ → Result ℕ LocalRefusal
startup_written reply r n room =
    pick (both (not reply) r) (Err OutOfRange)
    (pick (ltb max_private n) (Err OverLimit)
    (pick (ltb room (20 + n)) (Err NoRoom)
    (Ok (20 + n))))

unfoldable pub startup_out : Bool → Bool → Bool → List ℕ → List ℕ → List ℕ
startup_out reply c r priv out = out_after (startup_written reply r (length priv) (length out)) out (startup_of reply c r priv)

-- the first 20 bytes have the key expected, revision 1 and a length of at most 512
abbrev pub head_right : Bool → List ℕ → Bool
head_right reply bytes = both (same (take 16 bytes) (key_of reply)) (both (eqb (get_or bytes 17 0) 1) (leb (be16_at bytes 18) max_private))

-- the frame found: its total, C, R of a reply, and where the private data lies
unfoldable pub startup_taken : Bool → List ℕ → StartupRead
startup_taken reply bytes =
    pick (ltb (length bytes) (20 + be16_at bytes 18)) (Wait (20 + be16_at bytes 18))
    (Taken (20 + be16_at bytes 18) (flag_c (get_or bytes 16 0)) (both reply (flag_r (get_or bytes 16 0))) 20 (be16_at bytes 18))

-- "With under 20 bytes Wait 20; then 14 (wrong key, revision or length) and 15 (the peer asks for markers) are asked of the first 20 bytes, R set or not; then, under the stated total, Wait total"
unfoldable pub startup_read : Bool → List ℕ → Result StartupRead LocalRefusal
startup_read reply bytes =
    pick (ltb (length bytes) 20) (Ok (Wait 20))
    (pick (head_right reply bytes)
    (pick (flag_m (get_or bytes 16 0)) (Err Markers) (Ok (startup_taken reply bytes)))
    (Err BadStartup))

-- "The CRC is used if either side sets C"
abbrev pub crc_used : Bool → Bool → Bool
crc_used ours theirs = pick ours true theirs
