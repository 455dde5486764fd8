-- What a word of a command is not, by the kind of word that the command has in its place.
-- Assumes nothing.
use Rattle.std.specs.Prelude.{ℕ, suc, ◌%◌, Bool, List, [], ◌∷◌, Option, Some, None, length, eqb, leb}
use Rattle.wire.specs.Wire.{pick}
use Rattle.script.specs.Number.{is_digit, number_of}
use Rattle.script.specs.Word.{past}
use Rattle.script.specs.Hex.{hex_length_of}
use Rattle.command.specs.Args.{flag_of, word_of}
use Rattle.faults.specs.declared.fault.Fault.{Fault}
use Rattle.faults.specs.declared.fault.Kind.{Kind}
use Rattle.faults.specs.declared.fault.Found.{Found}

-- a word that is no number has a byte that is no digit, or stands for one over 2^64 - 1
abbrev pub number_fault_of : Option ℕ → List ℕ → Option Fault
number_fault_of (Some v) w = None
number_fault_of None w = Some (pick (eqb (past is_digit w 0) (length w)) Fault.Large Fault.Number)

unfoldable pub number_fault : List ℕ → Option Fault
number_fault w = number_fault_of (number_of w) w

-- "HEX is an even count of hex digits of either case"
abbrev pub hex_fault_of : Option ℕ → List ℕ → Option Fault
hex_fault_of (Some n) w = None
hex_fault_of None w = Some (pick (eqb (length w % 2) 0) Fault.Hex Fault.Odd)

unfoldable pub hex_fault : List ℕ → Option Fault
hex_fault w = hex_fault_of (hex_length_of w) w

-- "A CRC is eight hex digits of either case"
abbrev pub crc_fault_of : Option ℕ → Option Fault
crc_fault_of (Some n) = None
crc_fault_of None = Some Fault.Crc

unfoldable pub crc_fault : List ℕ → Option Fault
crc_fault w = pick (eqb (length w) 8) (crc_fault_of (hex_length_of w)) (Some Fault.Crc)

-- one of two words
abbrev pub flag_fault : Option Bool → Fault → Option Fault
flag_fault (Some v) otherwise = None
flag_fault None otherwise = Some otherwise

-- by the kind
unfoldable pub fault_of : Kind → List ℕ → Option Fault
fault_of Kind.Number w = number_fault w
fault_of Kind.Hex w = hex_fault w
fault_of Kind.Crc w = crc_fault w
-- `off`, `on`
fault_of Kind.Switch w = flag_fault (flag_of w (111 ∷ 102 ∷ 102 ∷ []) (111 ∷ 110 ∷ [])) Fault.Switch
-- `req`, `rep`
fault_of Kind.Frame w = flag_fault (flag_of w (114 ∷ 101 ∷ 113 ∷ []) (114 ∷ 101 ∷ 112 ∷ [])) Fault.Frame
-- `0`, `1`
fault_of Kind.Bit w = flag_fault (flag_of w (48 ∷ []) (49 ∷ [])) Fault.Bit
-- `write`, `send`
fault_of Kind.Message w = flag_fault (flag_of w (119 ∷ 114 ∷ 105 ∷ 116 ∷ 101 ∷ []) (115 ∷ 101 ∷ 110 ∷ 100 ∷ [])) Fault.Message
-- any word
fault_of Kind.Any w = None

-- ---- the first word after the name that is not of its kind

abbrev pub found : ℕ → Fault → Option Found
found place fault = Some (record { place = place; fault = fault })

-- word number i, if something is wrong with it, and else what is found later
abbrev pub found_at : ℕ → Option Fault → Option Found → Option Found
found_at i (Some fault) later = found i fault
found_at i None later = later

-- from word number i + 1 on, whose kinds are listed; a line may end before them
unfoldable pub found_from : ℕ → List Kind → List (List ℕ) → Option Found
found_from i [] ws = None
found_from i (kind ∷ kinds) ws =
    pick (leb (length ws) (suc i)) None
    (found_at (suc i) (fault_of kind (word_of ws (suc i))) (found_from (suc i) kinds ws))

abbrev pub found_of : List Kind → List (List ℕ) → Option Found
found_of kinds ws = found_from 0 kinds ws
