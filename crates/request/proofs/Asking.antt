-- A line that is answered at once is no call, and no call writes the store.
-- Assumes nothing.
use Rattle.std.proofs.Common.{◌≡◌, ℕ, ◌+◌, Bool, true, false, List, [], Option, Some, None, refl, sym, length, eqb, leb}
use Rattle.wire.specs.Wire.{pick, same}
use Rattle.script.specs.Number.{number_of}
use Rattle.script.specs.Hex.{pairs, decoded_of}
use Rattle.command.specs.Args.{word_of, numbers_of}
use Rattle.command.specs.Frames.{switch_of}
use Rattle.request.specs.declared.shape.Shape.{Shape}
use Rattle.request.specs.declared.DeviceCall.{DeviceCall}
use Rattle.request.specs.Request.{Request, bytes_name, fill_name, receive_name, stream_name, numbers_call, shape_of, shape_call, ask_numbers, stream_call, ask_stream, lent_of, receive_call, ask_receive, filled, ask_fill, ask_call, ask_device, store_after, Says, SaysCall}
use Rattle.request.specs.Request.Request.{call, fill, text}

module _ (buffer store after : List ℕ) where
  by-room : (hex : List ℕ) (start : ℕ) (t : Bool) → after ≡ store_after (pick t (fill start (pairs hex)) text) store → Says (pick t (fill start (pairs hex)) text) None buffer store after
  by-room hex start true h = record { asked = refl; input = refl; rest = h }
  by-room hex start false h = record { asked = refl; input = refl; rest = h }

  by_words : (size : ℕ) (hex : List ℕ) (t : Bool) (o d : Option ℕ) → after ≡ store_after (pick t (filled size hex o d) text) store → Says (pick t (filled size hex o d) text) None buffer store after
  by_words size hex false o d h = record { asked = refl; input = refl; rest = h }
  by_words size hex true None d h = record { asked = refl; input = refl; rest = h }
  by_words size hex true (Some start) None h = record { asked = refl; input = refl; rest = h }
  by_words size hex true (Some start) (Some k) h = by-room hex start (leb (start + k) size) h

  says_fill : (room size : ℕ) (ws : List (List ℕ)) → after ≡ store_after (ask_fill room size ws) store → Says (ask_fill room size ws) None buffer store after
  unfolding ask_fill
  says_fill room size ws h = by_words size (word_of ws 2) (eqb (length ws) 3) (number_of (word_of ws 1)) (decoded_of (word_of ws 2) room) h

  -- `fill`
  pub device_fill : (kept room size : ℕ) (ws : List (List ℕ)) → same (word_of ws 0) bytes_name ≡ false → same (word_of ws 0) fill_name ≡ true → after ≡ store_after (ask_fill room size ws) store → Says (ask_device kept room size ws) None buffer store after
  unfolding ask_device
  device_fill kept room size ws e f h = rw (e, f) (says_fill room size ws h)

-- no call writes the store
module _ (kept : ℕ) (store : List ℕ) where
  receive_keeps : (hex : List ℕ) (l n d : Option ℕ) → store_after (receive_call kept hex l n d) store ≡ store
  receive_keeps hex (Some lent) (Some n) (Some k) = refl
  receive_keeps hex (Some lent) (Some n) None = refl
  receive_keeps hex (Some lent) None d = refl
  receive_keeps hex None n d = refl

  stream_keeps : (t : Bool) (n : Option ℕ) (crc : Option Bool) → store_after (pick t (stream_call kept n crc) text) store ≡ store
  stream_keeps false n crc = refl
  stream_keeps true (Some n) (Some crc) = refl
  stream_keeps true (Some n) None = refl
  stream_keeps true None crc = refl

  numbers_keep : (number : ℕ) (o : Option (List ℕ)) → store_after (numbers_call kept number o) store ≡ store
  numbers_keep number (Some n) = refl
  numbers_keep number None = refl

  shape_keeps : (o : Option Shape) (ws : List (List ℕ)) → store_after (shape_call kept o ws) store ≡ store
  shape_keeps (Some s) ws = numbers_keep s.number (numbers_of ws s.words)
  shape_keeps None ws = refl

  call_keeps : (room size : ℕ) (ws : List (List ℕ)) (t u : Bool)
      → store_after (pick t (ask_receive kept room size ws) (pick u (ask_stream kept ws) (ask_numbers kept ws))) store ≡ store
  unfolding ask_receive ask_stream ask_numbers
  call_keeps room size ws true u = receive_keeps (word_of ws 2) (lent_of kept size ws) (number_of (word_of ws 1)) (decoded_of (word_of ws 2) room)
  call_keeps room size ws false true = stream_keeps (eqb (length ws) 3) (number_of (word_of ws 1)) (switch_of (word_of ws 2))
  call_keeps room size ws false false = shape_keeps (shape_of (word_of ws 0)) ws

  keeps : (room size : ℕ) (ws : List (List ℕ)) → store_after (ask_call kept room size ws) store ≡ store
  unfolding ask_call
  keeps room size ws = call_keeps room size ws (same (word_of ws 0) receive_name) (same (word_of ws 0) stream_name)

-- a line that may be a call
pub says_call :
    (kept room size : ℕ) (ws : List (List ℕ)) (r : Option DeviceCall) (buffer store : List ℕ)
    → SaysCall (ask_call kept room size ws) r buffer → Says (ask_call kept room size ws) r buffer store store
says_call kept room size ws r buffer store w = record { asked = w.asked; input = w.input; rest = sym (keeps kept store room size ws) }
