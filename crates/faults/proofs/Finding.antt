-- The first word that is not of its kind, looked for from some word on: one law for each way that a turn ends.
-- Assumes nothing.
use Rattle.std.proofs.Common.{◌≡◌, ℕ, suc, ◌+◌, ◌≤◌, ◌<◌, Bool, true, false, List, Option, Some, None, refl, sym, ap, ◌∙◌, length, drop, take, get_or, add-one, zero-add, drop_of_length-le, drop-cons, arith}
use Rattle.std.specs.List.{prefix_len}
use Rattle.std.proofs.lemmas.List.Folds.{length-prefix_len}
use borrow.Author.Tests.{le-leb, lt-leb}
use Rattle.script.specs.Word.{past}
use Rattle.command.specs.Args.{word_of}
use Rattle.faults.specs.Fault.{fault_of, found, found_at, found_from}
use Rattle.faults.specs.declared.fault.Fault.{Fault}
use Rattle.faults.specs.declared.fault.Kind.{Kind}

-- as many as pass a test from the front on are counted
pub passed : (p : ℕ → Bool) (l : List ℕ) → length (take (prefix_len p l) l) ≡ past p l 0
passed p l = length-prefix_len p l ∙ sym (zero-add (prefix_len p l))

module _ (kinds : List Kind) (ws : List (List ℕ)) (i : ℕ) where
  -- every kind is looked at
  pub all_seen : length kinds ≤ i → found_from i (drop i kinds) ws ≡ None
  unfolding found_from
  all_seen h = ap (λ (l : List Kind). found_from i l ws) (drop_of_length-le kinds h)

  module _ (h : i < length kinds) (d : Kind) where
    -- the line has no more words
    pub no_more : length ws ≤ i + 1 → found_from i (drop i kinds) ws ≡ None
    unfolding found_from
    no_more k = rw (drop-cons kinds i d h, le-leb (length ws) (suc i) (omega arith))

    -- the next word is of its kind or not
    next : i + 1 < length ws → (r : Option Fault) → fault_of (get_or kinds i d) (word_of ws (suc i)) ≡ r
        → found_from i (drop i kinds) ws ≡ found_at (suc i) r (found_from (suc i) (drop (suc i) kinds) ws)
    unfolding found_from
    next k r e = rw (drop-cons kinds i d h, lt-leb (length ws) (suc i) (omega arith), e)

    pub turn : i + 1 < length ws → (r : Option Fault) → fault_of (get_or kinds i d) (word_of ws (i + 1)) ≡ r
        → found_from i (drop i kinds) ws ≡ found_at (i + 1) r (found_from (i + 1) (drop (i + 1) kinds) ws)
    turn k r e = rw add-one (next k r (rw add-one at e))
