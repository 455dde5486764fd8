-- What a message that was begun is: the record of what it was begun with, each number in its range, and nothing of it written.
use Rattle.std.proofs.Common.{◌≡◌, ℕ, ◌+◌, ◌≤◌, Bool, true, false, not, leb, refl, ap, arith, ltb-false, leb-true}
use Rattle.wire.specs.Wire.{pick, both}
use Rattle.mpa.specs.Fpdu.{max_ulpdu}
use Rattle.memory.specs.Window.{wraps}
use Rattle.rdmap.specs.Message.{is_send}
use Rattle.sender.specs.Message.{max32, sized, stag_held, write_begun, send_begun, header_size, room_of}
use Rattle.sender.specs.declared.Message.{Message}
use Rattle.sender.proofs.Writes.{write_true, send_true}
use Rattle.std.specs.Prelude.{Err, Ok}
use Rattle.wire.specs.declared.refusal.LocalRefusal.TheVariants.{OutOfRange, OverLimit}

-- the records that messages are begun with
abbrev pub write_of : ℕ → ℕ → ℕ → ℕ → Message
write_of limit stag to len = record { tagged = true; opcode = 0; stag = stag; to = to; msn = 0; limit = limit; len = len; at = 0; done = false }

abbrev pub send_of : ℕ → ℕ → ℕ → ℕ → ℕ → Message
send_of limit opcode msn stag len =
    record { tagged = false; opcode = opcode; stag = stag_held opcode stag; to = 0; msn = msn; limit = limit; len = len; at = 0; done = false }

-- an answer by two tests that is Ready: both hold, and it is the message
ready : (a b : Bool) (n m : Message) → pick a (pick b (Ok n) (Err OverLimit)) (Err OutOfRange) ≡ Ok m → (a ≡ true) × (b ≡ true) × (m ≡ n)
ready true true n m e = (refl, refl, cc)
ready true false n m e = let z : false ≡ true = cc in (refl, z, cc)
ready false b n m e = let z : false ≡ true = cc in (z, cc, cc)

pub write-ready :
    (limit stag to len : ℕ) (m : Message) → write_begun limit stag to len ≡ Ok m →
    (m ≡ write_of limit stag to len) × (19 ≤ limit) × (limit ≤ max_ulpdu) × (len ≤ max32) × (stag ≤ max32) × (to + len ≤ 18446744073709551616)
unfolding write_begun wraps
write-ready limit stag to len m e =
    let r = ready (both (sized limit len) (both (leb stag max32) (not (wraps to len)))) (leb limit max_ulpdu) (write_of limit stag to len) m e in
    let t = write_true limit stag to len r.0 in
    (r.2, t.0, leb-true limit max_ulpdu r.1, t.1, t.2, ltb-false 18446744073709551616 (to + len) t.3)

pub send-ready :
    (limit opcode msn stag len : ℕ) (m : Message) → send_begun limit opcode msn stag len ≡ Ok m →
    (m ≡ send_of limit opcode msn stag len) × (19 ≤ limit) × (limit ≤ max_ulpdu) × (len ≤ max32) × (3 ≤ opcode) × (opcode ≤ 6) × (msn ≤ max32) × (stag_held opcode stag ≤ max32)
unfolding send_begun
send-ready limit opcode msn stag len m e =
    let r = ready (both (sized limit len) (both (is_send opcode) (both (leb msn max32) (leb (stag_held opcode stag) max32)))) (leb limit max_ulpdu) (send_of limit opcode msn stag len) m e in
    let t = send_true limit opcode msn (stag_held opcode stag) len r.0 in
    (r.2, t.0, leb-true limit max_ulpdu r.1, t.1, t.2, t.3, t.4, t.5)

-- what both have: a limit in its range, and nothing written
abbrev pub Began : Message → Type 0
Began m = (19 ≤ m.limit) × (m.limit ≤ max_ulpdu) × (m.at ≡ 0) × (m.done ≡ false)

pub write_began : (limit stag to len : ℕ) (m : Message) → write_begun limit stag to len ≡ Ok m → Began m
write_began limit stag to len m e =
    let r = write-ready limit stag to len m e in
    let l : m.limit ≡ limit = ap (λ (x : Message). x.limit) r.0 in
    (omega (arith, l, r.1), omega (arith, l, r.2), ap (λ (x : Message). x.at) r.0, ap (λ (x : Message). x.done) r.0)

pub send_began : (limit opcode msn stag len : ℕ) (m : Message) → send_begun limit opcode msn stag len ≡ Ok m → Began m
send_began limit opcode msn stag len m e =
    let r = send-ready limit opcode msn stag len m e in
    let l : m.limit ≡ limit = ap (λ (x : Message). x.limit) r.0 in
    (omega (arith, l, r.1), omega (arith, l, r.2), ap (λ (x : Message). x.at) r.0, ap (λ (x : Message). x.done) r.0)

-- a header is 18 bytes at most, so there is room for a byte
pub header_most : (m : Message) → header_size m ≤ 18
header_most m = go m.tagged
  where
    go : (t : Bool) → pick {A = ℕ} t 14 18 ≤ 18
    go true = omega arith
    go false = omega arith

pub room-some : (m : Message) → 19 ≤ m.limit → 1 ≤ room_of m
room-some m h = omega (arith, h, header_most m)
