-- Whether one of some entries shares a byte, as std's word for "any" has it.
use Rattle.std.proofs.Common.{◌≡◌, refl, ℕ, Bool, true, false, List, [], ◌∷◌, ◌||◌}
use Rattle.std.specs.List.{list_any}
use Rattle.memory.specs.declared.window.Window.{Window}
use Rattle.memory.specs.declared.buffer.Buffer.{Buffer}
use Rattle.rdmap.specs.declared.stream.Stream.{Stream}
use Rattle.overlap.specs.Sharing.{either, shares, window_shares, windows_share, waiting, buffers_share, streams_share}

either_more : {X : Type 0} (p : X → Bool) (x : X) (xs : List X) (b : Bool) → b ≡ list_any p xs → either (p x) b ≡ list_any p (x ∷ xs)
either_more p x xs b e = by (p x)
  where
    by : (t : Bool) → either t b ≡ (t || list_any p xs)
    by true = refl
    by false = e

pub windows_any : (ws : List Window) (place len : ℕ) → windows_share ws place len ≡ list_any (λ w. window_shares w place len) ws
unfolding windows_share
windows_any [] place len = refl
windows_any (w ∷ ws) place len = either_more (λ w. window_shares w place len) w ws _ (windows_any ws place len)

pub buffers_any : (bs : List Buffer) (place len : ℕ) → buffers_share bs place len ≡ list_any (λ b. shares b.start b.len place len) bs
unfolding buffers_share
buffers_any [] place len = refl
buffers_any (b ∷ bs) place len = either_more (λ b. shares b.start b.len place len) b bs _ (buffers_any bs place len)

pub streams_any : (ss : List Stream) (place len : ℕ) → streams_share ss place len ≡ list_any (λ s. buffers_share (waiting s.sends.buffers) place len) ss
unfolding streams_share
streams_any [] place len = refl
streams_any (s ∷ ss) place len = either_more (λ s. buffers_share (waiting s.sends.buffers) place len) s ss _ (streams_any ss place len)
