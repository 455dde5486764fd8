-- A word of eight bytes as a CRC, from what decoding it answered.
-- Assumes nothing.
use Rattle.std.proofs.Common.{◌≡◌, ℕ, Bool, true, false, cond, List, Option, Some, None, refl, sym, ap, ◌∙◌, length, take, arith}
use lib.Seq.{take_all}
use Rattle.wire.specs.Wire.{same, be32_at}
use Rattle.wire.proofs.Laws.{same-eq}
use Rattle.script.specs.Number.{all}
use Rattle.script.specs.Hex.{dash, is_hex_digit, is_hex, hex_length_of, pairs, with_room, decoded_of}
use Rattle.sums.specs.Sums.{crc_word}

not-dash-by : (w : List ℕ) → length w ≡ 8 → (t : Bool) → same w dash ≡ t → same w dash ≡ false
not-dash-by w e true q = let l = ap length (same-eq w dash q) in absurd (omega arith)
not-dash-by w e false q = q

eight-by : (t : Bool) → with_room (cond t (Some 4) None) 4 ≡ cond t (Some 4) None
eight-by true = refl
eight-by false = refl

module _ (w : List ℕ) (e : length w ≡ 8) where
  -- eight bytes are hex where they are digits
  eight : decoded_of w 4 ≡ cond (all is_hex_digit w) (Some 4) None
  unfolding decoded_of hex_length_of is_hex
  eight = rw (not-dash-by w e (same w dash) refl, e) (eight-by (all is_hex_digit w))

  none-by : (t : Bool) → all is_hex_digit w ≡ t → ◌≡◌ {A = Option ℕ} (cond t (Some 4) None) None → None ≡ crc_word w
  unfolding crc_word
  none-by true q h = cc
  none-by false q h = rw (e, q)

  pub crc_none : decoded_of w 4 ≡ None → None ≡ crc_word w
  crc_none h = none-by (all is_hex_digit w) refl (sym eight ∙ h)

  read-by : (n : ℕ) (after : List ℕ) → length after ≡ 4 → take n after ≡ pairs w → (t : Bool) → all is_hex_digit w ≡ t → ◌≡◌ {A = Option ℕ} (cond t (Some 4) None) (Some n) → Some (be32_at after 0) ≡ crc_word w
  unfolding crc_word
  read-by n after l p true q h =
      let k : n ≡ 4 = cc in
      let f : after ≡ pairs w = sym (take_all 4 after (omega arith)) ∙ ap (λ (m : ℕ). take m after) (sym k) ∙ p in
      rw (e, q) (ap (λ (x : List ℕ). Some (be32_at x 0)) f)
  read-by n after l p false q h = cc

  -- the number of its four bytes
  pub crc_read : (n : ℕ) (after : List ℕ) → length after ≡ 4 → take n after ≡ pairs w → decoded_of w 4 ≡ Some n → Some (be32_at after 0) ≡ crc_word w
  crc_read n after l p h = read-by n after l p (all is_hex_digit w) refl (sym eight ∙ h)
