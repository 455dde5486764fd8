-- Queue 0: the peer's Sends, and the buffers that they go to.
use Rattle.std.specs.Prelude.{ℕ, get_or, replicate, ltb}
use Rattle.memory.specs.Buffer.{no_buffer, posted, popped_of}
use Rattle.memory.specs.declared.part.Part.{Part}
use Rattle.memory.specs.declared.buffer.Buffer.{Buffer}
use Rattle.memory.specs.declared.buffer.Buffers.{Buffers}
use Rattle.ddp.specs.Untagged.{next_msn}
use Rattle.ddp.specs.declared.untagged.Queue.{Queue}
use Rattle.rdmap.specs.declared.sends.Sends.{Sends}
use Rattle.std.specs.Prelude.{Result, ⊤}
use Rattle.wire.specs.declared.refusal.LocalRefusal.{LocalRefusal}

abbrev pub no_buffers : Buffers
no_buffers = record { count = 0; entries = replicate 8 no_buffer }

-- no Send under way and no buffer
abbrev pub empty_sends : ℕ → Sends
empty_sends msn = record { msn = msn; opcode = 0; taken = 0; buffers = no_buffers }

-- "first posted first used": the buffer that is filled
abbrev pub current_buffer : Sends → Buffer
current_buffer q = get_or q.buffers.entries 0 no_buffer

-- "post adds a buffer at the end": 9, then 10
abbrev pub posted_sends : Sends → Part → ℕ → ℕ → (Result ⊤ LocalRefusal × Sends)
posted_sends q part start len = ((posted q.buffers part start len).0, record { msn = q.msn; opcode = q.opcode; taken = q.taken; buffers = (posted q.buffers part start len).1 })

-- a Send goes on: "opcode and bytes taken of a Send under way"
abbrev pub sending_sends : Sends → ℕ → ℕ → Sends
sending_sends q opcode taken = record { msn = q.msn; opcode = opcode; taken = taken; buffers = q.buffers }

-- a Send is complete: "rises by one after the segment with L", and "a Send with L also removes the first buffer"
abbrev pub sent_sends : Sends → Sends
sent_sends q = record { msn = next_msn q.msn; opcode = 0; taken = 0; buffers = popped_of q.buffers }

-- what the queue expects: a message no longer than the buffer that is filled
abbrev pub send_queue : Sends → Queue
send_queue q = record { msn = q.msn; room = ltb 0 q.buffers.count; limit = (current_buffer q).len; taken = q.taken }
