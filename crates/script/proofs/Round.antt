-- What was written is read back: the digits of a number of 64 bits are read as that number, and the hex of bytes is decoded to
-- them. Each goes by recursion on the digits, from the value of one. Assumes nothing.
use mathlib.Core.Path.{◌≡◌, refl, sym, ap, ◌∙◌}
use mathlib.Core.Bool.{Bool, true, false, cond}
use mathlib.Core.List.{List, [], ◌∷◌, ◌++◌}
use Prim.Native.Nat.{ℕ, zero, suc, ◌+◌, ◌-◌, ◌*◌, ◌/◌, ◌%◌, ◌^◌, ◌≤◌, ◌<◌}
use native.Mathlib.Nat.{pow-suc}
use native.Mathlib.Omega.{arith}
use lib.Dec.{ltb}
use lib.ListN.{length, get_or, drop, length-append}
use borrow.Author.Tests.{lt-ltb, ltb-true, ltb-false, eq-eqb, ne_eqb}
use Rattle.std.specs.Prelude.{Some}
use Rattle.std.proofs.lemmas.Bool.Decides.{nat_tests}
use Rattle.script.specs.Number.{is_digit, all, value_from, number_from, number_of, digits_of, decimal}
use Rattle.wire.proofs.Laws.{same_false}
use Rattle.script.specs.Hex.{dash, nibble, is_hex_digit, is_hex, hex_length_of, pairs, decoded_of, decoded_in, lower, hex_digits, hex_text}
use Rattle.script.proofs.Digits.{inside, value_digit, value_lower}
use Rattle.script.proofs.Numbers.{number-some}
use Rattle.script.proofs.Pairs.{length_digits}
use Rattle.script.proofs.Decoding.{both, decoded}

-- ---- numbers

value_snoc : (u : ℕ) (l : List ℕ) (b : ℕ) → value_from u (l ++ (b ∷ [])) ≡ value_from u l * 10 + (b - 48)
unfolding value_from
value_snoc u [] b = refl
value_snoc u (x ∷ l) b = value_snoc (u * 10 + (x - 48)) l b

all_snoc : (p : ℕ → Bool) (l : List ℕ) (b : ℕ) → all p l ≡ true → p b ≡ true → all p (l ++ (b ∷ [])) ≡ true
all_snoc p [] b e f = rw f
all_snoc p (x ∷ l) b e f = rw (both (p x) (all p l) e).0 (all_snoc p l b (both (p x) (all p l) e).1 f)

-- a list of digits, at least one, whose value is v
record Reads (v : ℕ) (l : List ℕ) : Type 0 where
  value : value_from 0 l ≡ v
  digits : all is_digit l ≡ true
  some : length l ≡ 0 → ⊥

one : (v : ℕ) → v < 10 → Reads v ((48 + v) ∷ [])
unfolding value_from
one v h = record { value = omega arith; digits = rw (inside 48 57 (48 + v) (omega arith) (omega arith)); some = λ e. omega arith }

more : (v : ℕ) (l : List ℕ) → Reads (v / 10) l → Reads v (l ++ ((48 + v % 10) ∷ []))
more v l r = record {
  value = omega (arith, value_snoc 0 l (48 + v % 10), r.value);
  digits = all_snoc is_digit l (48 + v % 10) r.digits (inside 48 57 (48 + v % 10) (omega arith) (omega arith));
  some = λ e. omega (arith, length-append l ((48 + v % 10) ∷ []));
}

digits_by : (k v : ℕ) (t : Bool) → ltb v 10 ≡ t → (10 ≤ v → Reads (v / 10) (digits_of k (v / 10)))
    → Reads v (cond t ((48 + v) ∷ []) (digits_of k (v / 10) ++ ((48 + v % 10) ∷ [])))
digits_by k v true e r = one v (ltb-true v 10 e)
digits_by k v false e r = more v (digits_of k (v / 10)) (r (ltb-false v 10 e))

digits_read : (k v : ℕ) → 0 < v + k → v < 10 ^ k → Reads v (digits_of k v)
unfolding digits_of
digits_read zero v h l = absurd (omega arith)
digits_read (suc k) v h l =
    digits_by k v (ltb v 10) refl (λ n. digits_read k (v / 10) (omega arith) (omega (arith, pow-suc 10 k)))

-- every number of 64 bits is read back from its digits
pub number_back : (v : ℕ) → v < 2 ^ 64 → number_of (decimal v) ≡ Some v
unfolding decimal number_from
number_back v h =
    let r = digits_read 20 v (omega arith) (omega arith) in
    number-some (digits_of 20 v) r.some ∙ rw (r.digits, r.value, lt-ltb v (2 ^ 64) h)

-- ---- bytes

digit_back : (n : ℕ) → n < 16 → nibble (lower n) ≡ n
digit_back n h = go (ltb n 10) refl
  where
    go : (t : Bool) → ltb n 10 ≡ t → nibble (cond t (48 + n) (97 + (n - 10))) ≡ n
    go true e = value_digit (48 + n) (omega arith) (omega (arith, ltb-true n 10 e)) ∙ omega arith
    go false e =
        let l = ltb-false n 10 e in
        value_lower (97 + (n - 10)) (omega arith) (omega arith) ∙ omega arith

digit_written : (n : ℕ) → n < 16 → is_hex_digit (lower n) ≡ true
digit_written n h = grind (arith, nat_tests)

module _ (b : ℕ) (h : b < 256) where
  high_back : nibble (lower (b / 16)) ≡ b / 16
  high_back = digit_back (b / 16) (omega arith)

  low_back : nibble (lower (b % 16)) ≡ b % 16
  low_back = digit_back (b % 16) (omega arith)

all_digits : (l : List ℕ) → ((i : ℕ) → get_or l i 0 < 256) → all is_hex_digit (hex_digits l) ≡ true
unfolding hex_digits
all_digits [] h = refl
all_digits (b ∷ l) h =
    rw (digit_written (b / 16) (omega (arith, h 0)), digit_written (b % 16) (omega arith))
    (all_digits l (λ i. h (suc i)))

pairs_back : (l : List ℕ) → ((i : ℕ) → get_or l i 0 < 256) → pairs (hex_digits l) ≡ l
unfolding pairs hex_digits
pairs_back [] h = refl
pairs_back (b ∷ l) h =
    let e : b / 16 * 16 + b % 16 ≡ b = omega arith in
    rw (high_back b (h 0), low_back b (h 0), e, pairs_back l (λ i. h (suc i)))

length_back : (l : List ℕ) → ((i : ℕ) → get_or l i 0 < 256) → hex_length_of (hex_text l) ≡ Some (length l)
unfolding hex_length_of hex_text is_hex
length_back [] h = refl
length_back (b ∷ l) h =
    let n = length_digits (b ∷ l) in
    let s = hex_digits (b ∷ l) in
    let half : length s / 2 ≡ length (b ∷ l) = omega arith in
    rw (same_false s dash (λ e. let k = ap length e in omega arith), ne_eqb (length s) 0 (λ e. omega arith), eq-eqb (length s % 2) 0 (omega arith), all_digits (b ∷ l) h, half)

text_back : (l : List ℕ) → ((i : ℕ) → get_or l i 0 < 256) → pairs (hex_text l) ≡ l
unfolding hex_text pairs
text_back [] h = refl
text_back (b ∷ l) h = pairs_back (b ∷ l) h

-- bytes are decoded from their hex, wherever there is room for them
pub bytes_back : (l out : List ℕ) → ((i : ℕ) → get_or l i 0 < 256) → length l ≤ length out
    → (decoded_of (hex_text l) (length out) ≡ Some (length l)) × (decoded_in (hex_text l) out ≡ l ++ drop (length l) out)
bytes_back l out h k =
    let d = decoded (hex_text l) out (length l) (length_back l h) k in
    (sym d.0, sym d.1 ∙ ap (λ (s : List ℕ). s ++ drop (length l) out) (text_back l h))
