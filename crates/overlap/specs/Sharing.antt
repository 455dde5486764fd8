-- Two writers on one spot: which windows and buffers share a byte with some bytes of the store.
use Rattle.std.specs.Prelude.{ℕ, ◌+◌, ◌%◌, Bool, true, false, List, [], ◌∷◌, take, ltb, eqb}
use Rattle.wire.specs.Wire.{both}
use Rattle.memory.specs.declared.window.Window.{Window}
use Rattle.memory.specs.declared.buffer.Buffer.{Buffer}
use Rattle.memory.specs.declared.buffer.Buffers.{Buffers}
use Rattle.rdmap.specs.Message.{may_write}
use Rattle.rdmap.specs.declared.stream.Stream.{Stream}

-- or
abbrev pub either : Bool → Bool → Bool
either true b = true
either false b = b

-- the n bytes from a and the m bytes from b, at least one each, share a byte: each starts before the other ends
unfoldable pub shares : ℕ → ℕ → ℕ → ℕ → Bool
shares a n b m = both (ltb a (b + m)) (ltb b (a + n))

-- "rights: 1 write, 2 read, 3 both"
abbrev pub writes : ℕ → Bool
writes rights = eqb (rights % 2) 1

-- "another live write window"
abbrev pub writable : Window → Bool
writable w = both w.live (may_write w)

unfoldable pub window_shares : Window → ℕ → ℕ → Bool
window_shares w place len = both (writable w) (shares w.place w.len place len)

unfoldable pub windows_share : List Window → ℕ → ℕ → Bool
windows_share [] place len = false
windows_share (w ∷ ws) place len = either (window_shares w place len) (windows_share ws place len)

-- "a waiting buffer", the one in fill included
abbrev pub waiting : Buffers → List Buffer
waiting b = take b.count b.entries

unfoldable pub buffers_share : List Buffer → ℕ → ℕ → Bool
buffers_share [] place len = false
buffers_share (b ∷ bs) place len = either (shares b.start b.len place len) (buffers_share bs place len)

unfoldable pub streams_share : List Stream → ℕ → ℕ → Bool
streams_share [] place len = false
streams_share (s ∷ ss) place len = either (buffers_share (waiting s.sends.buffers) place len) (streams_share ss place len)
