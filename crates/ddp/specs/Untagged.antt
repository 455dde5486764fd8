-- Untagged segments: rules 28 to 32, in this order, and the message numbers.
use Rattle.std.specs.Prelude.{ℕ, ◌+◌, ◌%◌, ◌==◌, nat_le, nat_lt, Err, Ok, Result}
use Rattle.wire.specs.Wire.{pick}
use Rattle.ddp.specs.Refusal.{invalid_qn, invalid_msn, no_buffer_waits, invalid_mo, message_too_long}
use Rattle.ddp.specs.declared.untagged.Queue.{Queue}
use Rattle.ddp.specs.declared.refusal.Refusal.{Refusal}

-- "MO equals the bytes already taken of this message" (31); then 32, past the buffer
unfoldable pub untagged_in : Queue → ℕ → ℕ → Result (ℕ × ℕ) Refusal
untagged_in q mo len =
    pick (mo == q.taken)
    (pick (nat_le (mo + len) q.limit) (Ok (mo, (mo + len))) (Err message_too_long))
    (Err invalid_mo)

-- 28 queue above 2; 29 MSN not the expected one; 30 no buffer, or no room for a read. q is what the queue qn expects
unfoldable pub untagged_of : Queue → ℕ → ℕ → ℕ → ℕ → Result (ℕ × ℕ) Refusal
untagged_of q qn msn mo len =
    pick (nat_lt 2 qn) (Err invalid_qn)
    (pick (msn == q.msn)
    (pick q.room (untagged_in q mo len) (Err no_buffer_waits))
    (Err invalid_msn))

-- "after 4,294,967,295 the next number is 0"
abbrev pub next_msn : ℕ → ℕ
next_msn msn = (msn + 1) % 4294967296
