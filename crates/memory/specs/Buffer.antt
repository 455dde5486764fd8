-- The untagged buffers that wait on a stream.
use Rattle.std.specs.Prelude.{ℕ, ◌+◌, ◌-◌, [], ◌∷◌, ◌++◌, get_or, set, drop, ltb, eqb, Err, None, Ok, Option, Some}
use Rattle.wire.specs.Wire.{pick}
use Rattle.memory.specs.Part.{in_part}
use Rattle.memory.specs.declared.part.Part.{Part}
use Rattle.memory.specs.declared.buffer.Buffer.{Buffer}
use Rattle.memory.specs.declared.buffer.Buffers.{Buffers}
use Rattle.wire.specs.declared.refusal.LocalRefusal.TheVariants.{BadPlace, BuffersFull}
use Rattle.std.specs.Prelude.{Result, ⊤}
use Rattle.wire.specs.declared.refusal.LocalRefusal.{LocalRefusal}

abbrev pub no_buffer : Buffer
no_buffer = record { start = 0; len = 0 }

-- "post adds a buffer at the end"
abbrev pub appended : Buffers → Buffer → Buffers
appended b new = record { count = b.count + 1; entries = set b.entries b.count new }

-- posting: 9 its length or place breaks a rule; 10 8 buffers wait
unfoldable pub posted : Buffers → Part → ℕ → ℕ → (Result ⊤ LocalRefusal × Buffers)
posted b part start len =
    pick (in_part part start len)
    (pick (ltb b.count 8)
    (Ok tt, appended b (record { start = start; len = len }))
    (Err BuffersFull, b))
    (Err BadPlace, b)

-- "first posted first used"
unfoldable pub first_of : Buffers → Option Buffer
first_of b = pick (eqb b.count 0) None (Some (get_or b.entries 0 no_buffer))

-- "removes the first buffer": the others move up, and an empty entry comes last
unfoldable pub popped_of : Buffers → Buffers
popped_of b =
    pick (eqb b.count 0) b
    (record { count = b.count - 1; entries = drop 1 b.entries ++ (no_buffer ∷ []) })
