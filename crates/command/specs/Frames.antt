-- The commands on frames: what a line asks, and what is answered to it.
-- Assumes nothing.
use Rattle.std.specs.Prelude.{ℕ, min, Bool, List, [], ◌∷◌, ◌++◌, Option, Some, None, is_some, length, take, drop, eqb}
use Rattle.wire.specs.Wire.{pick, same}
use Rattle.script.specs.Number.{number_of}
use Rattle.script.specs.Hex.{pairs, decoded_of}
use Rattle.mpa.specs.Fpdu.{fpdu_written, fpdu_out, fpdu_read}
use Rattle.mpa.specs.Startup.{startup_written, startup_out, startup_read}
use Rattle.command.specs.Args.{◌>>=◌, word_of, flag_of}
use Rattle.command.specs.declared.frames.FrameName.{FrameName}
use Rattle.command.specs.declared.frames.FrameCommand.{FrameCommand}
use Rattle.command.specs.declared.frames.FrameAsked.{FrameAsked}
use Rattle.command.specs.declared.frames.FrameAnswer.{FrameAnswer}

-- ---- the names of the commands, and the words that are flags

-- `fpdu`
abbrev pub fpdu_name : List ℕ
fpdu_name = 102 ∷ 112 ∷ 100 ∷ 117 ∷ []

-- `unframe`
abbrev pub unframe_name : List ℕ
unframe_name = 117 ∷ 110 ∷ 102 ∷ 114 ∷ 97 ∷ 109 ∷ 101 ∷ []

-- `startup`
abbrev pub startup_name : List ℕ
startup_name = 115 ∷ 116 ∷ 97 ∷ 114 ∷ 116 ∷ 117 ∷ 112 ∷ []

-- `unstartup`
abbrev pub unstartup_name : List ℕ
unstartup_name = 117 ∷ 110 ∷ 115 ∷ 116 ∷ 97 ∷ 114 ∷ 116 ∷ 117 ∷ 112 ∷ []

-- a word that is one of the four names
unfoldable pub frame_name : List ℕ → Option FrameName
frame_name name =
    pick (same name fpdu_name) (Some FrameName.Fpdu)
    (pick (same name unframe_name) (Some FrameName.Unframe)
    (pick (same name startup_name) (Some FrameName.Startup)
    (pick (same name unstartup_name) (Some FrameName.Unstartup)
    None)))

abbrev pub is_frame : List ℕ → Bool
is_frame name = is_some (frame_name name)

-- `off` or `on`
abbrev pub switch_of : List ℕ → Option Bool
switch_of w = flag_of w (111 ∷ 102 ∷ 102 ∷ []) (111 ∷ 110 ∷ [])

-- `req` or `rep`
abbrev pub reply_of : List ℕ → Option Bool
reply_of w = flag_of w (114 ∷ 101 ∷ 113 ∷ []) (114 ∷ 101 ∷ 112 ∷ [])

-- `0` or `1`
abbrev pub bit_of : List ℕ → Option Bool
bit_of w = flag_of w (48 ∷ []) (49 ∷ [])

-- ---- what a line asks

-- `fpdu HEX ROOM`: an FPDU written
unfoldable pub fpdu_asked : List (List ℕ) → Option FrameCommand
fpdu_asked ws = pick (eqb (length ws) 3) (do
  room ← number_of (word_of ws 2)
  Some (FrameCommand.Fpdu room)) None

-- `unframe on|off HEX`: an FPDU read with the CRC as the flag says
unfoldable pub unframe_asked : List (List ℕ) → Option FrameCommand
unframe_asked ws = pick (eqb (length ws) 3) (do
  crc ← switch_of (word_of ws 1)
  Some (FrameCommand.Unframe crc)) None

-- `startup req|rep C R HEX ROOM`: a startup frame written by its three flags
unfoldable pub startup_asked : List (List ℕ) → Option FrameCommand
startup_asked ws = pick (eqb (length ws) 6) (do
  reply ← reply_of (word_of ws 1)
  crc ← bit_of (word_of ws 2)
  declined ← bit_of (word_of ws 3)
  room ← number_of (word_of ws 5)
  Some (FrameCommand.Startup reply crc declined room)) None

-- `unstartup req|rep HEX`: a startup frame read
unfoldable pub unstartup_asked : List (List ℕ) → Option FrameCommand
unstartup_asked ws = pick (eqb (length ws) 3) (do
  reply ← reply_of (word_of ws 1)
  Some (FrameCommand.Unstartup reply)) None

abbrev pub asked_by : FrameName → List (List ℕ) → Option FrameCommand
asked_by FrameName.Fpdu ws = fpdu_asked ws
asked_by FrameName.Unframe ws = unframe_asked ws
asked_by FrameName.Startup ws = startup_asked ws
asked_by FrameName.Unstartup ws = unstartup_asked ws

-- the command of a line by its name, with its word of hex not looked at yet
unfoldable pub command_asked : List (List ℕ) → Option FrameCommand
command_asked ws = do
  name ← frame_name (word_of ws 0)
  asked_by name ws

-- the HEX of a command
abbrev pub hex_word : FrameCommand → List (List ℕ) → List ℕ
hex_word (FrameCommand.Fpdu room) ws = word_of ws 1
hex_word (FrameCommand.Unframe crc) ws = word_of ws 2
hex_word (FrameCommand.Startup reply crc declined room) ws = word_of ws 4
hex_word (FrameCommand.Unstartup reply) ws = word_of ws 2

-- what a line asks, where there is room for that many bytes of its HEX: a command, and the count of its bytes
unfoldable pub frame_asked : List (List ℕ) → ℕ → Option FrameAsked
frame_asked ws room = do
  command ← command_asked ws
  size ← decoded_of (hex_word command ws) room
  Some (record { command = command; size = size })

-- the count of the bytes that are asked of
abbrev pub size_asked : Option FrameAsked → ℕ
size_asked (Some asked) = asked.size
size_asked None = 0

-- the bytes of a word of hex
abbrev pub hex_bytes : Option ℕ → List ℕ → List ℕ
hex_bytes (Some n) w = pairs w
hex_bytes None w = []

abbrev pub bytes_by : Option FrameCommand → List (List ℕ) → ℕ → List ℕ
bytes_by (Some command) ws room = hex_bytes (decoded_of (hex_word command ws) room) (hex_word command ws)
bytes_by None ws room = []

-- the bytes that a line's HEX stands for, none where the line is no command
unfoldable pub frame_bytes : List (List ℕ) → ℕ → List ℕ
frame_bytes ws room = bytes_by (command_asked ws) ws room

-- ---- what is answered to it

-- what a command on these bytes answers, with n bytes to write into
abbrev pub frame_answer : FrameCommand → List ℕ → ℕ → FrameAnswer
frame_answer (FrameCommand.Fpdu room) bytes n = FrameAnswer.Wrote (fpdu_written (length bytes) (min room n))
frame_answer (FrameCommand.Unframe crc) bytes n = FrameAnswer.Fpdu (fpdu_read crc bytes)
frame_answer (FrameCommand.Startup reply crc declined room) bytes n = FrameAnswer.Wrote (startup_written reply declined (length bytes) (min room n))
frame_answer (FrameCommand.Unstartup reply) bytes n = FrameAnswer.Startup (startup_read reply bytes)

-- the first bytes of a slice, as many as are asked for and as there are, and the rest of it
abbrev pub in_room : ℕ → List ℕ → List ℕ
in_room room out = take (min room (length out)) out

abbrev pub past_room : ℕ → List ℕ → List ℕ
past_room room out = drop (min room (length out)) out

-- the slice to write into after a command: a writer has a part of it of the room asked for
abbrev pub frame_after : FrameCommand → List ℕ → List ℕ → List ℕ
frame_after (FrameCommand.Fpdu room) bytes out = fpdu_out bytes (in_room room out) ++ past_room room out
frame_after (FrameCommand.Unframe crc) bytes out = out
frame_after (FrameCommand.Startup reply crc declined room) bytes out = startup_out reply crc declined bytes (in_room room out) ++ past_room room out
frame_after (FrameCommand.Unstartup reply) bytes out = out
