-- Bytes that fit behind a text, and bytes that do not (`appended`). Assumes nothing.
use Rattle.std.proofs.Common.{◌≡◌, ℕ, ◌+◌, ◌-◌, ◌≤◌, ◌<◌, List, ◌++◌, length, take, sym, ap, ◌∙◌, arith, length-take-le}
use borrow.Author.Tests.{le-leb, lt-leb}
use Rattle.wire.specs.Wire.{put}
use Rattle.wire.proofs.Laws.{take_put}
use Rattle.script.specs.Text.{appended}

module _ (room : ℕ) (text s : List ℕ) where
  pub appended_fit : length text + length s ≤ room → text ++ s ≡ appended room text s
  unfolding appended
  appended_fit h = rw (le-leb (length text + length s) room h)

  pub appended_not : room < length text + length s → text ≡ appended room text s
  unfolding appended
  appended_not h = rw (lt-leb (length text + length s) room h)

-- the same of equal bytes
pub appended_same : {s t after : List ℕ} (room : ℕ) (text : List ℕ) → s ≡ t → after ≡ appended room text s → after ≡ appended room text t
appended_same room text e h = h ∙ ap (appended room text) e

-- a text that is the first bytes of an array as long as its room
module _ (room : ℕ) (bytes : List ℕ) (len : ℕ) (text s : List ℕ) (all : length bytes ≡ room) (within : len ≤ room) (is : take len bytes ≡ text) where
  -- what fits is put into the array, behind them
  pub put_fit : {after : List ℕ} → after ≡ put bytes len s → length s ≤ room - len → take (len + length s) after ≡ appended room text s
  put_fit e fits =
      ap (λ (l : List ℕ). take (len + length s) l) e
      ∙ take_put bytes len s (omega arith)
      ∙ ap (λ (l : List ℕ). l ++ s) is
      ∙ appended_fit room text s (omega (arith, ap length (sym is), length-take-le len bytes (omega arith)))

  pub put_not : room - len < length s → text ≡ appended room text s
  put_not more = appended_not room text s (omega (arith, ap length (sym is), length-take-le len bytes (omega arith)))
