-- A message under way in nine words that a caller holds, one for each field. Any words are a message: a number is taken at its field's width.
use Rattle.std.specs.Prelude.{ℕ, ◌%◌, Bool, true, false, List, [], ◌∷◌, ◌==◌, slice_index}
use Rattle.sender.specs.declared.Message.{Message}
use Rattle.std.specs.Prelude.{Err, None, Ok, Option, Result, Some}
use Rattle.wire.specs.declared.refusal.LocalRefusal.{LocalRefusal}
use Rattle.wire.specs.Refusal.{refusal_number}

-- a flag in a word, and the flag in a word's lowest bit
abbrev pub flag_word : Bool → ℕ
flag_word true = 1
flag_word false = 0

abbrev pub flag_in : ℕ → Bool
flag_in x = x % 2 == 1

-- a number of 32 bits in a word
abbrev pub lower_half : ℕ → ℕ
lower_half x = x % 4294967296

-- the message in nine words, and the words of a message
unfoldable pub message_at : List ℕ → Message
message_at w =
    record {
      tagged = flag_in (slice_index w 0);
      opcode = slice_index w 1 % 256;
      stag = lower_half (slice_index w 2);
      to = slice_index w 3;
      msn = lower_half (slice_index w 4);
      limit = lower_half (slice_index w 5);
      len = lower_half (slice_index w 6);
      at = lower_half (slice_index w 7);
      done = flag_in (slice_index w 8);
    }

unfoldable pub message_words : Message → List ℕ
message_words m =
    flag_word m.tagged ∷ m.opcode ∷ m.stag ∷ m.to ∷ m.msn ∷ m.limit ∷ m.len ∷ m.at ∷ flag_word m.done ∷ []

-- beginning a message: 0, or the refusal's number; and the words then: a refused one leaves the one before
abbrev pub begun_number : Result Message LocalRefusal → ℕ
begun_number (Ok m) = 0
begun_number (Err k) = refusal_number k

abbrev pub begun_words : List ℕ → Result Message LocalRefusal → List ℕ
begun_words w (Ok m) = message_words m
begun_words w (Err k) = w

-- what asking for the next segment answers, in two words: 0 and a refusal's number, 1 and the segment's length, or 2 and 0
abbrev pub segment_words : Result (Option ℕ) LocalRefusal → List ℕ
segment_words (Err k) = 0 ∷ refusal_number k ∷ []
segment_words (Ok (Some n)) = 1 ∷ n ∷ []
segment_words (Ok None) = 2 ∷ 0 ∷ []

-- and the words of the message then: they change where a segment is written, and only there
abbrev pub words_after : List ℕ → Message → Result (Option ℕ) LocalRefusal → List ℕ
words_after w m (Ok (Some n)) = message_words m
words_after w m (Ok None) = w
words_after w m (Err k) = w

-- the message in them then
abbrev pub message_then : Message → Message → Result (Option ℕ) LocalRefusal → Message
message_then m next (Ok (Some n)) = next
message_then m next (Ok None) = m
message_then m next (Err k) = m

abbrev pub words_next : List ℕ → (Result (Option ℕ) LocalRefusal × Message) → List ℕ
words_next w n = words_after w n.1 n.0
