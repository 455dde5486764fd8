-- What a line of a script asks, as the script format's table of commands has it, over the words of the line.
-- Assumes nothing.
use Rattle.std.specs.Prelude.{ℕ, ◌+◌, Bool, true, ◌≡◌, List, [], ◌∷◌, Option, Some, None, length, get_or, take, eqb, leb}
use Rattle.wire.specs.Wire.{pick, same, put}
use Rattle.script.specs.Number.{number_of}
use Rattle.script.specs.Hex.{pairs, decoded_of}
use Rattle.command.specs.Args.{line_words, word_of, numbers_of}
use Rattle.command.specs.Frames.{is_frame, switch_of}
use Rattle.sums.specs.Sums.{is_sum}
use Rattle.starting.specs.Starting.{is_start}
use Rattle.request.specs.declared.DeviceCall.{DeviceCall}
use Rattle.request.specs.declared.shape.Shape.{Shape}

-- what a line asks
pub data Request : Type 0 where
  -- the device's call of a number, with its nine numbers and its bytes, lent the first `lent` bytes of the store;
  -- from then on a line that does not say lends `kept`
  call : (number : ℕ) → (numbers input : List ℕ) → (lent kept : ℕ) → Request
  -- bytes put into the store
  fill : (start : ℕ) → (bytes : List ℕ) → Request
  -- a text alone: of a frame, of a CRC, of the startup, of the store's bytes, or `bad`; or nothing
  text : Request

-- ---- the names of the commands

-- `open`
abbrev pub open_name : List ℕ
open_name = 111 ∷ 112 ∷ 101 ∷ 110 ∷ []

-- `close`
abbrev pub close_name : List ℕ
close_name = 99 ∷ 108 ∷ 111 ∷ 115 ∷ 101 ∷ []

-- `register`
abbrev pub register_name : List ℕ
register_name = 114 ∷ 101 ∷ 103 ∷ 105 ∷ 115 ∷ 116 ∷ 101 ∷ 114 ∷ []

-- `drop`
abbrev pub drop_name : List ℕ
drop_name = 100 ∷ 114 ∷ 111 ∷ 112 ∷ []

-- `post`
abbrev pub post_name : List ℕ
post_name = 112 ∷ 111 ∷ 115 ∷ 116 ∷ []

-- `take`
abbrev pub take_name : List ℕ
take_name = 116 ∷ 97 ∷ 107 ∷ 101 ∷ []

-- `live`
abbrev pub live_name : List ℕ
live_name = 108 ∷ 105 ∷ 118 ∷ 101 ∷ []

-- `free`
abbrev pub free_name : List ℕ
free_name = 102 ∷ 114 ∷ 101 ∷ 101 ∷ []

-- `state`
abbrev pub state_name : List ℕ
state_name = 115 ∷ 116 ∷ 97 ∷ 116 ∷ 101 ∷ []

-- `tick`
abbrev pub tick_name : List ℕ
tick_name = 116 ∷ 105 ∷ 99 ∷ 107 ∷ []

-- `reading`
abbrev pub reading_name : List ℕ
reading_name = 114 ∷ 101 ∷ 97 ∷ 100 ∷ 105 ∷ 110 ∷ 103 ∷ []

-- `stream`
abbrev pub stream_name : List ℕ
stream_name = 115 ∷ 116 ∷ 114 ∷ 101 ∷ 97 ∷ 109 ∷ []

-- `receive`
abbrev pub receive_name : List ℕ
receive_name = 114 ∷ 101 ∷ 99 ∷ 101 ∷ 105 ∷ 118 ∷ 101 ∷ []

-- `bytes`
abbrev pub bytes_name : List ℕ
bytes_name = 98 ∷ 121 ∷ 116 ∷ 101 ∷ 115 ∷ []

-- `fill`
abbrev pub fill_name : List ℕ
fill_name = 102 ∷ 105 ∷ 108 ∷ 108 ∷ []

-- ---- calls whose words are all numbers

abbrev pub shape : ℕ → ℕ → Option Shape
shape number words = Some (record { number = number; words = words })

-- a call on a domain's gauge
unfoldable pub gauge_shape : List ℕ → Option Shape
gauge_shape name =
    -- `tick D`
    pick (same name tick_name) (shape 10 2)
    -- `reading D`
    (pick (same name reading_name) (shape 11 2)
    None)

-- the number of the call that a name stands for, and how many words its line has, where it stands for one
unfoldable pub shape_of : List ℕ → Option Shape
shape_of name =
    -- `open LENGTH S0 E0 S1 E1 S2 E2 S3 E3`
    pick (same name open_name) (shape 0 10)
    -- `close N`
    (pick (same name close_name) (shape 2 2)
    -- `register W KEY BASE LENGTH PLACE RIGHTS`
    (pick (same name register_name) (shape 3 7)
    -- `drop W`
    (pick (same name drop_name) (shape 4 2)
    -- `post N START LENGTH`
    (pick (same name post_name) (shape 5 4)
    -- `take N`
    (pick (same name take_name) (shape 6 2)
    -- `live D`
    (pick (same name live_name) (shape 7 2)
    -- `free D`
    (pick (same name free_name) (shape 8 2)
    -- `state N`
    (pick (same name state_name) (shape 12 2)
    (gauge_shape name)))))))))

-- LENGTH of `open` (0) is what is lent from then on
abbrev pub kept_after : ℕ → ℕ → List ℕ → ℕ
kept_after kept number numbers = pick (eqb number 0) (get_or numbers 0 0) kept

abbrev pub numbers_call : ℕ → ℕ → Option (List ℕ) → Request
numbers_call kept number (Some n) = call number n [] 0 (kept_after kept number n)
numbers_call kept number None = text

abbrev pub shape_call : ℕ → Option Shape → List (List ℕ) → Request
shape_call kept (Some s) ws = numbers_call kept s.number (numbers_of ws s.words)
shape_call kept None ws = text

unfoldable pub ask_numbers : ℕ → List (List ℕ) → Request
ask_numbers kept ws = shape_call kept (shape_of (word_of ws 0)) ws

-- ---- `stream N on` and `stream N off`

-- the nine numbers of a call that has two, or one and 0
abbrev pub nine : ℕ → ℕ → List ℕ
nine a b = a ∷ b ∷ 0 ∷ 0 ∷ 0 ∷ 0 ∷ 0 ∷ 0 ∷ 0 ∷ []

abbrev pub stream_call : ℕ → Option ℕ → Option Bool → Request
stream_call kept (Some n) (Some crc) = call 1 (nine n (pick crc 1 0)) [] 0 kept
stream_call kept (Some n) None = text
stream_call kept None crc = text

unfoldable pub ask_stream : ℕ → List (List ℕ) → Request
ask_stream kept ws = pick (eqb (length ws) 3) (stream_call kept (number_of (word_of ws 1)) (switch_of (word_of ws 2))) text

-- ---- `receive N HEX` and `receive N HEX LENT`: "another count of store bytes lent; over the store's size: `bad`"

abbrev pub at_most : ℕ → Option ℕ → Option ℕ
at_most size (Some n) = pick (leb n size) (Some n) None
at_most size None = None

unfoldable pub lent_of : ℕ → ℕ → List (List ℕ) → Option ℕ
lent_of kept size ws = pick (eqb (length ws) 3) (Some kept) (pick (eqb (length ws) 4) (at_most size (number_of (word_of ws 3))) None)

abbrev pub receive_call : ℕ → List ℕ → Option ℕ → Option ℕ → Option ℕ → Request
receive_call kept hex (Some lent) (Some n) (Some k) = call 9 (nine n 0) (pairs hex) lent kept
receive_call kept hex (Some lent) (Some n) None = text
receive_call kept hex (Some lent) None d = text
receive_call kept hex None n d = text

-- where there is room for so many bytes of HEX, over a store of some size
unfoldable pub ask_receive : ℕ → ℕ → ℕ → List (List ℕ) → Request
ask_receive kept room size ws = receive_call kept (word_of ws 2) (lent_of kept size ws) (number_of (word_of ws 1)) (decoded_of (word_of ws 2) room)

-- ---- `fill START HEX`: "puts bytes into the store; past its size: `bad`"

abbrev pub filled : ℕ → List ℕ → Option ℕ → Option ℕ → Request
filled size hex (Some start) (Some k) = pick (leb (start + k) size) (fill start (pairs hex)) text
filled size hex (Some start) None = text
filled size hex None d = text

unfoldable pub ask_fill : ℕ → ℕ → List (List ℕ) → Request
ask_fill room size ws = pick (eqb (length ws) 3) (filled size (word_of ws 2) (number_of (word_of ws 1)) (decoded_of (word_of ws 2) room)) text

-- ---- a line, by its name

-- a call of the device
unfoldable pub ask_call : ℕ → ℕ → ℕ → List (List ℕ) → Request
ask_call kept room size ws =
    pick (same (word_of ws 0) receive_name) (ask_receive kept room size ws)
    (pick (same (word_of ws 0) stream_name) (ask_stream kept ws)
    (ask_numbers kept ws))

-- or a command on the store's bytes
unfoldable pub ask_device : ℕ → ℕ → ℕ → List (List ℕ) → Request
ask_device kept room size ws =
    pick (same (word_of ws 0) bytes_name) text
    (pick (same (word_of ws 0) fill_name) (ask_fill room size ws)
    (ask_call kept room size ws))

-- "An empty line, a line of spaces alone and a line that starts with `#` write nothing"
unfoldable pub is_silent : List ℕ → Bool
is_silent line = pick (eqb (get_or line 0 0) 35) true (eqb (length (line_words line)) 0)

-- where `kept` bytes are lent by a line that does not say
unfoldable pub request_of : ℕ → ℕ → ℕ → List ℕ → Request
request_of kept room size line =
    pick (is_silent line) text
    (pick (is_frame (word_of (line_words line) 0)) text
    (pick (is_sum (word_of (line_words line) 0)) text
    (pick (is_start (word_of (line_words line) 0)) text
    (ask_device kept room size (line_words line)))))

-- ---- what `ask` answers of it

-- a call, with `size` bytes
abbrev pub call_by : ℕ → List ℕ → ℕ → ℕ → ℕ → DeviceCall
call_by number numbers size lent kept = record { number = number; numbers = numbers; size = size; lent = lent; kept = kept }

-- what may be a call
abbrev pub call_of : Request → Option DeviceCall
call_of (call number numbers input lent kept) = Some (call_by number numbers (length input) lent kept)
call_of (fill start bytes) = None
call_of text = None

-- how many bytes a call has
abbrev pub call_size : Option DeviceCall → ℕ
call_size (Some c) = c.size
call_size None = 0

-- the bytes of a call
abbrev pub input_of : Request → List ℕ
input_of (call number numbers input lent kept) = input
input_of (fill start bytes) = []
input_of text = []

-- the store after it was asked: a call is not made yet
abbrev pub store_after : Request → List ℕ → List ℕ
store_after (call number numbers input lent kept) store = store
store_after (fill start bytes) store = put store start bytes
store_after text store = store

-- r says what is asked: a call, or nothing where the line is answered by a text. The text alone is not said; a call's bytes stand in front of the buffer; and the store afterwards
pub record Says (q : Request) (r : Option DeviceCall) (buffer store after : List ℕ) : Type 0 where
  pub asked : r ≡ call_of q
  pub input : take (call_size r) buffer ≡ input_of q
  pub rest : after ≡ store_after q store

-- the same of what may be a call, where the store is not lent and no text is written
pub record SaysCall (q : Request) (r : Option DeviceCall) (buffer : List ℕ) : Type 0 where
  pub asked : r ≡ call_of q
  pub input : take (call_size r) buffer ≡ input_of q
