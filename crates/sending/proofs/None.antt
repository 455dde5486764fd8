-- Before any message there is no segment, whatever the room.
-- Assumes nothing.
use Rattle.std.proofs.Common.{◌≡◌, ℕ, refl, Ok, None}
use Rattle.sender.specs.Message.{next_of, next_answer}
use Rattle.sender.specs.Words.{message_at}
use Rattle.sending.specs.Sending.{no_message}

pub no_message-ends : (room : ℕ) → (next_of (message_at no_message) 0 room).0 ≡ Ok None
unfolding next_of next_answer message_at
no_message-ends room = refl
