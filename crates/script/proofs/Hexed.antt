-- Hex digits that are appended for one byte after the other: a turn, its room, and what is there at the end. Assumes nothing.
use Rattle.std.proofs.Common.{◌≡◌, ℕ, zero, suc, ◌+◌, ◌/◌, ◌%◌, ◌≤◌, ◌<◌, List, [], ◌∷◌, ◌++◌, length, get_or, take, refl, sym, ap, ◌∙◌, arith, length-append, length-take-le}
use native.Mathlib.Nat.{not-suc-le-zero, le_of_suc-le-suc}
use native.Mathlib.Numerals.{add-one}
use mathlib.Core.List.{append_assoc, append-nil}
use lib.Seq.{take_all}
use Rattle.script.specs.Hex.{dash, lower, hex_digits, hex_text}
use Rattle.script.specs.Text.{appended}
use Rattle.script.proofs.Pairs.{length_digits}
use Rattle.script.proofs.Appended.{appended_fit, appended_not, appended_same}

pub digits_next : (l : List ℕ) (i : ℕ) → i < length l
    → hex_digits (take (suc i) l) ≡ hex_digits (take i l) ++ lower (get_or l i 0 / 16) ∷ lower (get_or l i 0 % 16) ∷ []
unfolding hex_digits
digits_next [] i h = absurd (not-suc-le-zero h)
digits_next (b ∷ l) zero h = refl
digits_next (b ∷ l) (suc i) h = ap (λ (xs : List ℕ). lower (b / 16) ∷ lower (b % 16) ∷ xs) (digits_next l i (le_of_suc-le-suc h))

pub digits_none : (text l : List ℕ) → text ≡ text ++ hex_digits (take 0 l)
unfolding hex_digits
digits_none text l = sym (append-nil text)

pub text_some : (xs : List ℕ) → (length xs ≡ 0 → ⊥) → hex_digits xs ≡ hex_text xs
unfolding hex_text
text_some [] some = absurd (some refl)
text_some (b ∷ xs) some = refl

module _ (text l : List ℕ) (i : ℕ) (now : List ℕ) (so_far : now ≡ text ++ hex_digits (take i l)) where
  -- the text after a turn: there is room for both of its digits
  pub hex_turn : (room left : ℕ) (after : List ℕ) (h k : ℕ) → i < length l → left + length text ≡ room → length l ≤ left / 2
      → after ≡ appended room now (h ∷ k ∷ []) → h ≡ lower (get_or l i 0 / 16) → k ≡ lower (get_or l i 0 % 16) → after ≡ text ++ hex_digits (take (i + 1) l)
  hex_turn room left after h k below fits half p e f =
      let n : length now ≡ length text + length (hex_digits (take i l)) = ap length so_far ∙ length-append text (hex_digits (take i l)) in
      p ∙ sym (appended_fit room now (h ∷ k ∷ []) (omega (arith, n, length_digits (take i l), length-take-le i l (omega arith))))
      ∙ rw (so_far, e, f, add-one, digits_next l i below) (append_assoc text (hex_digits (take i l)) _)

  -- after the last turn
  pub hex_all : (room left : ℕ) → length l ≤ i → (length l ≡ 0 → ⊥) → left + length text ≡ room → length l ≤ left / 2 → now ≡ appended room text (hex_text l)
  hex_all room left all some fits half =
      so_far ∙ ap (λ (xs : List ℕ). text ++ hex_digits xs) (take_all i l all)
      ∙ appended_same room text (text_some l some) (appended_fit room text (hex_digits l) (omega (arith, length_digits l)))

pub text_none : (l : List ℕ) → length l ≡ 0 → dash ≡ hex_text l
unfolding hex_text
text_none [] h = refl
text_none (b ∷ l) h = absurd (omega arith)

-- where the digits do not fit
pub hex_not : (room left : ℕ) (text l : List ℕ) → (length l ≡ 0 → ⊥) → left + length text ≡ room → left / 2 < length l → text ≡ appended room text (hex_text l)
hex_not room left text l some fits half =
    appended_same room text (text_some l some) (appended_not room text (hex_digits l) (omega (arith, length_digits l)))
