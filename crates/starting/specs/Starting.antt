-- The commands on the startup of RFC 6581: what a line asks, and what is answered to it.
-- Assumes nothing.
use Rattle.std.specs.Prelude.{ℕ, min, Bool, true, false, List, [], ◌∷◌, ◌++◌, Option, Some, None, Result, length, eqb}
use Rattle.wire.specs.Wire.{pick, same}
use Rattle.wire.specs.declared.refusal.LocalRefusal.{LocalRefusal}
use Rattle.script.specs.Number.{number_of}
use Rattle.script.specs.Hex.{decoded_of}
use Rattle.startup2.specs.Frame.{frame_written, frame_out, frame_read}
use Rattle.startup2.specs.Agree.{answered_of}
use Rattle.startup2.specs.declared.Agreed.{Agreed}
use Rattle.startup2.specs.declared.Form.{Form}
use Rattle.startup2.specs.declared.Terms.{Terms}
use Rattle.command.specs.Args.{◌>>=◌, word_of}
use Rattle.command.specs.Frames.{reply_of, bit_of, hex_bytes, in_room, past_room}
use Rattle.starting.specs.declared.frame.StartCommand.{StartCommand}
use Rattle.starting.specs.declared.frame.StartAsked.{StartAsked}
use Rattle.starting.specs.declared.frame.StartAnswer.{StartAnswer}

-- ---- the names of the commands

-- `startup2`
abbrev pub startup2_name : List ℕ
startup2_name = 115 ∷ 116 ∷ 97 ∷ 114 ∷ 116 ∷ 117 ∷ 112 ∷ 50 ∷ []

-- `unstartup2`
abbrev pub unstartup2_name : List ℕ
unstartup2_name = 117 ∷ 110 ∷ 115 ∷ 116 ∷ 97 ∷ 114 ∷ 116 ∷ 117 ∷ 112 ∷ 50 ∷ []

-- `agree`
abbrev pub agree_name : List ℕ
agree_name = 97 ∷ 103 ∷ 114 ∷ 101 ∷ 101 ∷ []

-- a word that is one of the three names
unfoldable pub is_start : List ℕ → Bool
is_start name =
    pick (same name startup2_name) true
    (pick (same name unstartup2_name) true
    (same name agree_name))

-- ---- the terms that words say

-- IRD, ORD and KINDS, where A is known
abbrev pub terms_for : Bool → Option ℕ → Option ℕ → Option ℕ → Option Terms
terms_for peer first second third = do
  ird ← first
  ord ← second
  kinds ← third
  Some (record { peer = peer; ird = ird; ord = ord; kinds = kinds })

-- `A IRD ORD KINDS`, words 4 to 7 of a line
unfoldable pub terms_said : List (List ℕ) → Option Terms
terms_said ws = do
  peer ← bit_of (word_of ws 4)
  terms_for peer (number_of (word_of ws 5)) (number_of (word_of ws 6)) (number_of (word_of ws 7))

-- ---- what a line asks of a frame

-- a frame of a form written, by `req|rep C R`, words 1 to 3 of a line, with ROOM at a place
unfoldable pub write_asked : List (List ℕ) → Form → ℕ → Option StartCommand
write_asked ws form place = do
  reply ← reply_of (word_of ws 1)
  crc ← bit_of (word_of ws 2)
  declined ← bit_of (word_of ws 3)
  room ← number_of (word_of ws place)
  Some (StartCommand.Write reply crc declined form room)

-- a frame with S and the terms that are said
abbrev pub enhanced_asked : List (List ℕ) → Option StartCommand
enhanced_asked ws = do
  terms ← terms_said ws
  write_asked ws (Form.Enhanced terms) 9

-- `startup2 req|rep C R HEX ROOM`, or `startup2 req|rep C R A IRD ORD KINDS HEX ROOM`
unfoldable pub startup2_asked : List (List ℕ) → Option StartCommand
startup2_asked ws =
    pick (eqb (length ws) 6) (write_asked ws Form.Second 5)
    (pick (eqb (length ws) 10) (enhanced_asked ws)
    None)

-- `unstartup2 req|rep HEX`: a startup frame read
unfoldable pub unstartup2_asked : List (List ℕ) → Option StartCommand
unstartup2_asked ws = pick (eqb (length ws) 3) (do
  reply ← reply_of (word_of ws 1)
  Some (StartCommand.Read reply)) None

-- the command of a line by its name, with its word of hex not looked at yet
unfoldable pub command_asked : List (List ℕ) → Option StartCommand
command_asked ws =
    pick (same (word_of ws 0) startup2_name) (startup2_asked ws)
    (pick (same (word_of ws 0) unstartup2_name) (unstartup2_asked ws)
    None)

-- the place of HEX among the words of a writer's line: behind the terms where there are any
abbrev pub hex_place : Form → ℕ
hex_place Form.First = 4
hex_place Form.Second = 4
hex_place (Form.Enhanced terms) = 8

-- the HEX of a command
abbrev pub hex_word : StartCommand → List (List ℕ) → List ℕ
hex_word (StartCommand.Write reply crc declined form room) ws = word_of ws (hex_place form)
hex_word (StartCommand.Read reply) ws = word_of ws 2

-- what a line asks, where there is room for that many bytes of its HEX: a command, and the count of its bytes
unfoldable pub start_asked : List (List ℕ) → ℕ → Option StartAsked
start_asked ws room = do
  command ← command_asked ws
  size ← decoded_of (hex_word command ws) room
  Some (record { command = command; size = size })

-- the count of the bytes that are asked of
abbrev pub size_asked : Option StartAsked → ℕ
size_asked (Some asked) = asked.size
size_asked None = 0

abbrev pub bytes_by : Option StartCommand → List (List ℕ) → ℕ → List ℕ
bytes_by (Some command) ws room = hex_bytes (decoded_of (hex_word command ws) room) (hex_word command ws)
bytes_by None ws room = []

-- the bytes that a line's HEX stands for, none where the line is no command
unfoldable pub start_bytes : List (List ℕ) → ℕ → List ℕ
start_bytes ws room = bytes_by (command_asked ws) ws room

-- ---- what is answered to it

-- what a command on these bytes answers, with n bytes to write into
abbrev pub start_answer : StartCommand → List ℕ → ℕ → StartAnswer
start_answer (StartCommand.Write reply crc declined form room) bytes n = StartAnswer.Wrote (frame_written reply declined form (length bytes) (min room n))
start_answer (StartCommand.Read reply) bytes n = StartAnswer.Read (frame_read reply bytes)

-- the slice to write into after a command: the writer has a part of it of the room asked for
abbrev pub start_after : StartCommand → List ℕ → List ℕ → List ℕ
start_after (StartCommand.Write reply crc declined form room) bytes out = frame_out reply crc declined form bytes (in_room room out) ++ past_room room out
start_after (StartCommand.Read reply) bytes out = out

-- ---- what is agreed

-- `agree IRD ORD KINDS A PEER-IRD PEER-ORD PEER-KINDS`: what a responder answers. Its terms come first, of which A is not looked at, and then
-- the request's
unfoldable pub agree_answer : List (List ℕ) → Option (Result Agreed LocalRefusal)
agree_answer ws = pick (eqb (length ws) 8) (do
  own ← terms_for false (number_of (word_of ws 1)) (number_of (word_of ws 2)) (number_of (word_of ws 3))
  request ← terms_said ws
  Some (answered_of own request)) None
