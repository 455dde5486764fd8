-- The sixteen windows of a domain of a block: their live marks gathered one by one.
use Prim.Native.Nat.{ℕ, ◌+◌, ◌<◌}
use mathlib.Core.List.{List}
use mathlib.Core.Path.{◌≡◌, sym, ap, ◌∙◌}
use lib.ListN.{length, drop}
use Rattle.memory.specs.Marks.{live_marks, pushed}
use Rattle.memory.specs.declared.window.Window.{Window}
use Rattle.memory.proofs.LiveMarks.{marks_step, marks_none}
use Rattle.domain.specs.declared.Domain.{Domain}
use Rattle.rnic.specs.Rnic.{domain_at}
use Rattle.block.specs.Device.{loaded_window, loaded_domain, rnic_at}
use Rattle.block.proofs.Stored.{domain_at_lem, window_at_lem}

abbrev pub windows_of : List ℕ → ℕ → List Window
windows_of w d = (domain_at (rnic_at w) d).windows

module _ (w : List ℕ) (d : ℕ) (hd : d < 4) where
  pub sixteen : length (windows_of w d) ≡ 16
  unfolding loaded_domain
  sixteen = ap (λ (x : Domain). length x.windows) (domain_at_lem w d hd)

  -- the marks of the windows from a slot on: none after the last, and one more before them
  pub marks_end : live_marks (drop 16 (windows_of w d)) ≡ 0
  marks_end = marks_none (windows_of w d) sixteen

  pub marks_next : (i n : ℕ) → i < 16 → n ≡ live_marks (drop (i + 1) (windows_of w d)) → pushed n (loaded_window w d i).live ≡ live_marks (drop i (windows_of w d))
  marks_next i n h e =
      ap (λ (x : Window). pushed n x.live) (sym (window_at_lem w d hd i h)) ∙ marks_step (windows_of w d) sixteen i n h e
