-- What is stored in a group of the block is loaded from it, where the group's words decode to it.
use Prim.Native.Nat.{ℕ, ◌≤◌}
use mathlib.Core.List.{List, [], ◌∷◌}
use mathlib.Core.Path.{◌≡◌}
use lib.ListN.{length, get_or}
use Rattle.memory.specs.declared.part.Part.{Part}
use Rattle.memory.specs.declared.window.Window.{Window}
use Rattle.rdmap.specs.declared.framing.Framing.{Framing}
use Rattle.rdmap.specs.declared.phase.Phase.{Phase}
use Rattle.rdmap.specs.declared.read.Reads.{Reads}
use Rattle.rdmap.specs.declared.sends.Sends.{Sends}
use Rattle.rdmap.specs.declared.terminates.Terminates.{Terminates}
use Rattle.block.specs.Layout.{domain_offset, window_offset, stream_offset, framing_offset, terminates_offset, sends_offset, reads_offset}
use Rattle.block.specs.Words.{lower_half, part_in, part_words, window_in, window_words}
use Rattle.block.specs.Queue.{sends_in, sends_words, reads_in, reads_words, terminates_in, terminates_words}
use Rattle.block.specs.Stream.{phase_in, phase_words, framing_in, framing_words, loaded_phase, loaded_framing, loaded_terminates, loaded_sends, loaded_reads, stored_phase, stored_framing, stored_terminates, stored_sends, stored_reads}
use Rattle.block.specs.Device.{loaded_len, loaded_part, loaded_window, stored_len, stored_part, stored_window}
use Rattle.block.proofs.Lists.{put_back}

pub len_stored : (w : List ℕ) (n : ℕ) → 0 ≤ length w → lower_half n ≡ n → loaded_len (stored_len w n) ≡ n
unfolding loaded_len
len_stored w n h e = put_back (λ (g : List ℕ). lower_half (get_or g 0 0)) w 0 (n ∷ []) n h e

module _ (w : List ℕ) (d : ℕ) where
  pub part_stored : (p : Part) → domain_offset d ≤ length w → part_in (part_words p) ≡ p → loaded_part (stored_part w d p) d ≡ p
  unfolding loaded_part
  part_stored p h e = put_back part_in w (domain_offset d) (part_words p) p h e

  pub window_stored : (i : ℕ) (x : Window) → window_offset d i ≤ length w → window_in (window_words x) ≡ x → loaded_window (stored_window w d i x) d i ≡ x
  unfolding loaded_window
  window_stored i x h e = put_back window_in w (window_offset d i) (window_words x) x h e

  pub phase_stored : (j : ℕ) (x : Phase) → stream_offset d j ≤ length w → phase_in (phase_words x) ≡ x → loaded_phase (stored_phase w d j x) d j ≡ x
  unfolding loaded_phase
  phase_stored j x h e = put_back phase_in w (stream_offset d j) (phase_words x) x h e

  pub framing_stored : (j : ℕ) (x : Framing) → framing_offset d j ≤ length w → framing_in (framing_words x) ≡ x → loaded_framing (stored_framing w d j x) d j ≡ x
  unfolding loaded_framing
  framing_stored j x h e = put_back framing_in w (framing_offset d j) (framing_words x) x h e

  pub terminates_stored : (j : ℕ) (x : Terminates) → terminates_offset d j ≤ length w → terminates_in (terminates_words x) ≡ x → loaded_terminates (stored_terminates w d j x) d j ≡ x
  unfolding loaded_terminates
  terminates_stored j x h e = put_back terminates_in w (terminates_offset d j) (terminates_words x) x h e

  pub sends_stored : (j : ℕ) (x : Sends) → sends_offset d j ≤ length w → sends_in (sends_words x) ≡ x → loaded_sends (stored_sends w d j x) d j ≡ x
  unfolding loaded_sends
  sends_stored j x h e = put_back sends_in w (sends_offset d j) (sends_words x) x h e

  pub reads_stored : (j : ℕ) (x : Reads) → reads_offset d j ≤ length w → reads_in (reads_words x) ≡ x → loaded_reads (stored_reads w d j x) d j ≡ x
  unfolding loaded_reads
  reads_stored j x h e = put_back reads_in w (reads_offset d j) (reads_words x) x h e
