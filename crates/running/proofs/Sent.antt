-- A command on messages asks nothing of the device and the store.
-- Assumes nothing.
use Prim.Native.Nat.{ℕ}
use mathlib.Core.Bool.{Bool, true, false}
use mathlib.Core.Path.{◌≡◌, refl, sym, ap, ◌∙◌}
use mathlib.Core.List.{List}
use Rattle.wire.specs.Wire.{pick, same}
use Rattle.wire.proofs.Laws.{same-eq}
use Rattle.command.specs.Args.{line_words, word_of}
use Rattle.command.specs.Frames.{is_frame}
use Rattle.sums.specs.Sums.{is_sum}
use Rattle.starting.specs.Starting.{is_start}
use Rattle.sending.specs.Sending.{message_name, segment_name, is_order}
use Rattle.request.specs.Request.{gauge_shape, shape_of, ask_numbers, ask_call, ask_device, is_silent, request_of}
use Rattle.request.specs.Request.Request.{text}

pick_same : {A : Type 0} (t : Bool) (x y : A) → y ≡ x → pick t x y ≡ x
pick_same true x y e = refl
pick_same false x y e = e

module _ (kept room size : ℕ) (ws : List (List ℕ)) where
  message-text : word_of ws 0 ≡ message_name → ask_device kept room size ws ≡ text
  unfolding ask_device ask_call ask_numbers shape_of gauge_shape
  message-text e = rw e

  segment_text : word_of ws 0 ≡ segment_name → ask_device kept room size ws ≡ text
  unfolding ask_device ask_call ask_numbers shape_of gauge_shape
  segment_text e = rw e

  order_text : is_order (word_of ws 0) ≡ true → ask_device kept room size ws ≡ text
  unfolding is_order
  order_text h = go (same (word_of ws 0) message_name) refl
    where
      go : (t : Bool) → same (word_of ws 0) message_name ≡ t → ask_device kept room size ws ≡ text
      go true e = message-text (same-eq (word_of ws 0) message_name e)
      go false e = segment_text (same-eq (word_of ws 0) segment_name (sym (ap (λ (t : Bool). pick t true (same (word_of ws 0) segment_name)) e) ∙ h))

pub sent-text : (kept room size : ℕ) (line : List ℕ) → is_order (word_of (line_words line) 0) ≡ true → request_of kept room size line ≡ text
unfolding request_of
sent-text kept room size line h =
    pick_same (is_silent line) text _
    (pick_same (is_frame (word_of (line_words line) 0)) text _
    (pick_same (is_sum (word_of (line_words line) 0)) text _
    (pick_same (is_start (word_of (line_words line) 0)) text _
    (order_text kept room size (line_words line) h))))
