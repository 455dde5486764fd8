-- Words found one after the other: one more is found, or none is left.
-- Assumes nothing.
use Rattle.std.proofs.Common.{◌≡◌, ℕ, zero, suc, ◌+◌, ◌-◌, ◌<◌, List, [], ◌∷◌, ◌++◌, Option, Some, None, refl, sym, ap, ◌∙◌, append_assoc, append-nil, arith}
use Rattle.std.specs.declared.ops.Range.{Range}
use Rattle.wire.specs.Wire.{part}
use Rattle.script.specs.Word.{word_at, word_then, words_from}

module _ (line : List ℕ) where
  no_more : (k at : ℕ) → word_at line at ≡ None → words_from k line at ≡ []
  unfolding words_from
  no_more zero at h = refl
  no_more (suc k) at h = ap (λ (w : Option (Range ℕ)). word_then w line (words_from k line)) h

  -- where no word is found any more, those found are all of them
  pub all_found : (xs ws : List (List ℕ)) (k at : ℕ) → xs ++ words_from k line at ≡ ws → word_at line at ≡ None → xs ≡ ws
  all_found xs ws k at e h = sym (append-nil xs) ∙ ap (λ ys. xs ++ ys) (sym (no_more k at h)) ∙ e

  -- and as many as are looked for
  pub all_kept : (xs ws : List (List ℕ)) (k at : ℕ) → xs ++ words_from k line at ≡ ws → k ≡ 0 → xs ≡ ws
  unfolding words_from
  all_kept xs ws k at e h = sym (append-nil xs) ∙ ap (λ m. xs ++ words_from m line at) (sym h) ∙ e

  one_more : (k at : ℕ) (r : Range ℕ) → word_at line at ≡ Some r → words_from (suc k) line at ≡ part line r.start (r.end - r.start) ∷ words_from k line r.end
  unfolding words_from
  one_more k at r h = ap (λ (w : Option (Range ℕ)). word_then w line (words_from k line)) h

  -- a word that is found joins those before it
  pub found :
      (xs ws : List (List ℕ)) (i at : ℕ) (r : Range ℕ) → i < 11 → xs ++ words_from (11 - i) line at ≡ ws → word_at line at ≡ Some r →
      (xs ++ (part line r.start (r.end - r.start) ∷ [])) ++ words_from (11 - (i + 1)) line r.end ≡ ws
  found xs ws i at r l e h = go (11 - (i + 1)) (omega arith)
    where
      go : (k : ℕ) → 11 - i ≡ suc k → (xs ++ (part line r.start (r.end - r.start) ∷ [])) ++ words_from k line r.end ≡ ws
      go k q = append_assoc xs (part line r.start (r.end - r.start) ∷ []) (words_from k line r.end)
          ∙ ap (λ ys. xs ++ ys) (sym (ap (λ m. words_from m line at) q ∙ one_more k at r h)) ∙ e
