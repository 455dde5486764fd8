-- A message in range is read back from its words, and so is the one after a segment.
use Rattle.std.proofs.Common.{◌≡◌, ℕ, ◌%◌, ◌<◌, Bool, true, false, refl, arith}
use Rattle.sender.specs.declared.Message.{Message}
use Rattle.sender.specs.Message.{next_of, next_answer}
use Rattle.sender.specs.Words.{flag_word, flag_in, lower_half, message_at, message_words, message_then}
use Rattle.std.specs.Prelude.{Err, None, Ok, Option, Result, Some}
use Rattle.wire.specs.declared.refusal.LocalRefusal.{LocalRefusal}

flag_back : (b : Bool) → flag_in (flag_word b) ≡ b
flag_back true = refl
flag_back false = refl

lower_back : (x : ℕ) → x < 4294967296 → lower_half x ≡ x
lower_back x h = omega arith

pub message_back : (m : Message) → m.opcode < 256 → m.stag < 4294967296 → m.msn < 4294967296 → m.limit < 4294967296 → m.len < 4294967296 → m.at < 4294967296 → message_at (message_words m) ≡ m
unfolding message_at message_words
message_back m ho hs hm hl hn ha =
    let tagged = flag_back m.tagged in
    let opcode : m.opcode % 256 ≡ m.opcode = omega arith in
    let stag = lower_back m.stag hs in
    let msn = lower_back m.msn hm in
    let limit = lower_back m.limit hl in
    let len = lower_back m.len hn in
    let at = lower_back m.at ha in
    let done = flag_back m.done in
    λ i. record { tagged = tagged i; opcode = opcode i; stag = stag i; to = m.to; msn = msn i; limit = limit i; len = len i; at = at i; done = done i }

-- the message that the words hold after asking for the next segment is the one that is next
pub message_next : (m : Message) (size room : ℕ) → message_then m (next_of m size room).1 (next_of m size room).0 ≡ (next_of m size room).1
unfolding next_of
message_next m size room = go (next_answer m size room) refl
  where
    go : (a : Result (Option ℕ) LocalRefusal) → next_answer m size room ≡ a → message_then m (next_of m size room).1 (next_of m size room).0 ≡ (next_of m size room).1
    go (Ok (Some n)) e = simp e
    go (Ok None) e = simp e
    go (Err n) e = simp e
