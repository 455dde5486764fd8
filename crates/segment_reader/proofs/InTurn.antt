-- Fields read in turn are the header: each is read where the one before ends, or at the end where that one is missing.
use Prim.Native.Nat.{ℕ, ◌+◌, ◌-◌, ◌≤◌, ◌<◌}
use mathlib.Core.Bool.{Bool, true, false}
use mathlib.Core.List.{List}
use mathlib.Core.Path.{◌≡◌, refl, ap, ◌∙◌}
use native.Mathlib.Nat.{add_assoc}
use native.Mathlib.Omega.{arith}
use lib.ListN.{length, get_or}
use lib.Dec.{ltb}
use borrow.Author.Tests.{ltb-true, ltb-false, lt-ltb, le-ltb}
use Rattle.wire.specs.Wire.{pick, be32_at}
use Rattle.ddp.specs.Header.{tagged_bit, tagged_fields, untagged_fields, tagged_read, untagged_read, header_read}
use Rattle.segment_reader.specs.Field.{left_from, place_after, byte_field, be32_field, be64_field}
use Rattle.segment_reader.specs.Header.{start_at, queue_at, start_of, queue_of, header_of}
use Rattle.std.specs.Prelude.{None, Result, Some}
use Rattle.ddp.specs.declared.header.Header.{Header}
use Rattle.ddp.specs.declared.refusal.Refusal.{Refusal}

-- where w bytes are left, the place after them is w on, and so many fewer are left there
after : (l : List ℕ) (at w : ℕ) → w ≤ left_from l at → place_after l at w ≡ at + w
after l at w h = simp (le-ltb (left_from l at) w h)

-- Three fields of w₁, w₂ and w₃ bytes, each a value or the end, read in turn and put together by g, to which one end is the
-- end: the whole is there where all their bytes are left.
module _ (l : List ℕ) (at w₁ w₂ w₃ : ℕ) {A B C D : Type 0} (g : A → B → C → D) (a : ℕ → A) (b : ℕ → B) (c : ℕ → C) (noA : A) (noB : B) (noC : C) (no : D) where
  abbrev p₁ : ℕ
  p₁ = place_after l at w₁

  abbrev p₂ : ℕ
  p₂ = place_after l p₁ w₂

  abbrev left : ℕ
  left = left_from l at

  -- what is read where the second and the third field stand at x and y
  abbrev from : ℕ → ℕ → D
  from x y = g (pick (ltb left w₁) noA (a at)) (pick (ltb (left_from l x) w₂) noB (b x)) (pick (ltb (left_from l y) w₃) noC (c y))

  abbrev whole : D
  whole = pick (ltb left (w₁ + w₂ + w₃)) no (g (a at) (b (at + w₁)) (c (at + w₁ + w₂)))

  at₂ : w₁ ≤ left → w₂ ≤ left - w₁ → p₂ ≡ at + w₁ + w₂
  at₂ h₁ h₂ = ap (λ (x : ℕ). place_after l x w₂) (after l at w₁ h₁) ∙ after l (at + w₁) w₂ (omega arith)

  module _ (no₁ : (y : B) (z : C) → g noA y z ≡ no) (no₂ : (p : ℕ) (z : C) → g (a p) noB z ≡ no) (no₃ : (p q : ℕ) → g (a p) (b q) noC ≡ no) where
    -- the first two are there, and the third or not
    third : w₁ ≤ left → w₂ ≤ left - w₁ → (t : Bool) → ltb (left - w₁ - w₂) w₃ ≡ t → from (at + w₁) (at + w₁ + w₂) ≡ whole
    third h₁ h₂ true e =
        let h₃ : left - w₁ - w₂ < w₃ = ltb-true (left - w₁ - w₂) w₃ e in
        simp (le-ltb left w₁ h₁, le-ltb (left_from l (at + w₁)) w₂ (omega arith), lt-ltb (left_from l (at + w₁ + w₂)) w₃ (omega arith), lt-ltb left (w₁ + w₂ + w₃) (omega arith)) (no₃ at (at + w₁))
    third h₁ h₂ false e =
        let h₃ : w₃ ≤ left - w₁ - w₂ = ltb-false (left - w₁ - w₂) w₃ e in
        simp (le-ltb left w₁ h₁, le-ltb (left_from l (at + w₁)) w₂ (omega arith), le-ltb (left_from l (at + w₁ + w₂)) w₃ (omega arith), le-ltb left (w₁ + w₂ + w₃) (omega arith))

    -- the second is missing, whatever the third is
    no_second : (y : ℕ) → w₁ ≤ left → left - w₁ < w₂ → from (at + w₁) y ≡ whole
    no_second y h₁ h₂ =
        simp (le-ltb left w₁ h₁, lt-ltb (left_from l (at + w₁)) w₂ (omega arith), lt-ltb left (w₁ + w₂ + w₃) (omega arith)) (no₂ at (pick (ltb (left_from l y) w₃) noC (c y)))

    second : w₁ ≤ left → (t : Bool) → ltb (left - w₁) w₂ ≡ t → from (at + w₁) p₂ ≡ whole
    second h₁ true e = no_second p₂ h₁ (ltb-true (left - w₁) w₂ e)
    second h₁ false e =
        let h₂ : w₂ ≤ left - w₁ = ltb-false (left - w₁) w₂ e in
        ap (from (at + w₁)) (at₂ h₁ h₂) ∙ third h₁ h₂ (ltb (left - w₁ - w₂) w₃) refl

    -- the first is missing, whatever the others are
    no_first : (x y : ℕ) → left < w₁ → from x y ≡ whole
    no_first x y h =
        simp (lt-ltb left w₁ h, lt-ltb left (w₁ + w₂ + w₃) (omega arith)) (no₁ (pick (ltb (left_from l x) w₂) noB (b x)) (pick (ltb (left_from l y) w₃) noC (c y)))

    first : (t : Bool) → ltb left w₁ ≡ t → from p₁ p₂ ≡ whole
    first true e = no_first p₁ p₂ (ltb-true left w₁ e)
    first false e =
        let h : w₁ ≤ left = ltb-false left w₁ e in
        ap (λ (x : ℕ). from x p₂) (after l at w₁ h) ∙ second h (ltb (left - w₁) w₂) refl

    in_turn : from p₁ p₂ ≡ whole
    in_turn = first (ltb left w₁) refl

pub start_turn : (l : List ℕ) (at : ℕ) → start_of (byte_field l at) (byte_field l (place_after l at 1)) (be32_field l (place_after l (place_after l at 1) 1)) ≡ start_at l at
start_turn l at =
    in_turn l at 1 1 4 start_of (λ p. Some (get_or l p 0)) (λ p. Some (get_or l p 0)) (λ p. Some (be32_at l p)) None None None None (λ y z. refl) (λ p z. refl) (λ p q. refl)
    ∙ ap (λ (n : ℕ). pick (ltb (left_from l at) 6) None (Some (record { first = get_or l at 0; control = get_or l (at + 1) 0; stag = be32_at l n }))) (add_assoc at 1 1)

pub queue_turn : (l : List ℕ) (at : ℕ) → queue_of (be32_field l at) (be32_field l (place_after l at 4)) (be32_field l (place_after l (place_after l at 4) 4)) ≡ queue_at l at
queue_turn l at =
    in_turn l at 4 4 4 queue_of (λ p. Some (be32_at l p)) (λ p. Some (be32_at l p)) (λ p. Some (be32_at l p)) None None None None (λ y z. refl) (λ p z. refl) (λ p q. refl)
    ∙ ap (λ (n : ℕ). pick (ltb (left_from l at) 12) None (Some (record { qn = be32_at l at; msn = be32_at l (at + 4); mo = be32_at l n }))) (add_assoc at 4 4)

-- The header of its fields is the header of the ULPDU.
module _ (l : List ℕ) where
  -- what is read where the fields after the start stand at x
  abbrev header_from : ℕ → Result Header Refusal
  header_from x = header_of (start_at l 0) (be64_field l x) (queue_at l x)

  no_start : (x : ℕ) → left_from l 0 < 6 → header_from x ≡ header_read l
  unfolding header_read
  no_start x h = simp (lt-ltb (left_from l 0) 6 h, lt-ltb (length l) 14 (omega arith))

  no_to : 6 ≤ left_from l 0 → length l < 14 → header_from 6 ≡ header_read l
  unfolding header_read
  no_to h₁ h₂ = simp (le-ltb (left_from l 0) 6 h₁, lt-ltb (left_from l 6) 8 (omega arith), lt-ltb (length l) 14 h₂)

  tagged : 14 ≤ length l → tagged_bit (get_or l 0 0) ≡ true → header_from 6 ≡ header_read l
  unfolding header_read tagged_read tagged_fields
  tagged h e = simp (le-ltb (left_from l 0) 6 (omega arith), le-ltb (left_from l 6) 8 (omega arith), le-ltb (length l) 14 h, e)

  untagged : 14 ≤ length l → tagged_bit (get_or l 0 0) ≡ false → (t : Bool) → ltb (length l) 18 ≡ t → header_from 6 ≡ header_read l
  unfolding header_read untagged_read untagged_fields
  untagged h e true e₁ =
      let h₁ : length l < 18 = ltb-true (length l) 18 e₁ in
      simp (le-ltb (left_from l 0) 6 (omega arith), le-ltb (left_from l 6) 8 (omega arith), le-ltb (length l) 14 h, e, lt-ltb (left_from l 6) 12 (omega arith), e₁)
  untagged h e false e₁ =
      let h₁ : 18 ≤ length l = ltb-false (length l) 18 e₁ in
      simp (le-ltb (left_from l 0) 6 (omega arith), le-ltb (left_from l 6) 8 (omega arith), le-ltb (length l) 14 h, e, le-ltb (left_from l 6) 12 (omega arith), e₁)

  by_kind : 14 ≤ length l → (t : Bool) → tagged_bit (get_or l 0 0) ≡ t → header_from 6 ≡ header_read l
  by_kind h true e = tagged h e
  by_kind h false e = untagged h e (ltb (length l) 18) refl

  with_start : 6 ≤ left_from l 0 → (t : Bool) → ltb (length l) 14 ≡ t → header_from 6 ≡ header_read l
  with_start h true e = no_to h (ltb-true (length l) 14 e)
  with_start h false e = by_kind (ltb-false (length l) 14 e) (tagged_bit (get_or l 0 0)) refl

  by-start : (t : Bool) → ltb (left_from l 0) 6 ≡ t → header_from (place_after l 0 6) ≡ header_read l
  by-start true e = no_start (place_after l 0 6) (ltb-true (left_from l 0) 6 e)
  by-start false e =
      let h : 6 ≤ left_from l 0 = ltb-false (left_from l 0) 6 e in
      ap header_from (after l 0 6 h) ∙ with_start h (ltb (length l) 14) refl

  pub header_turn : header_of (start_at l 0) (be64_field l (place_after l 0 6)) (queue_at l (place_after l 0 6)) ≡ header_read l
  header_turn = by-start (ltb (left_from l 0) 6) refl
