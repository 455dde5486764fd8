-- What the program writes, line by line: for lines that end in a newline each, and where the last lacks its own. And the example of the request.
use Prim.Native.Nat.{ℕ}
use mathlib.Core.List.{List, [], ◌∷◌, ◌++◌, append_assoc, append-nil}
use mathlib.Core.Path.{◌≡◌, refl, sym, ap, ap₂, ◌∙◌}
use lib.Ieee.{of_int, lt, div, to_bits, ne}
use borrow.Author.Tests.{ne_eqb}
use Rattle.script.specs.Hex.{hex_digits}
use Rattle.meter.specs.Gauge.{new_meter, sampled_gauge, reading_of}
use Rattle.meter.specs.Words.{level_bits}
use Rattle.meter.specs.declared.Meter.{Meter}
use Rattle.gauge.specs.declared.line.Line.{Line}
use Rattle.gauge.specs.declared.line.Line.TheVariants.{Empty}
use Rattle.gauge.specs.declared.run.State.{State}
use Rattle.gauge.specs.Line.{line_of, digit_after, with_byte}
use Rattle.gauge.specs.Text.{level_text, reading_text}
use Rattle.gauge.specs.Run.{after_line, answer_text, state_at, after_byte, said_at, after_bytes, said_bytes, rest_text, printed, Plain, AllPlain, joined, answers}
use Rattle.gauge.proofs.Digits.{line_last, line_some}
use Rattle.gauge.proofs.Steps.{after-append, said-append, rest-is}

-- ---- the bytes of a line say nothing, and are its line

within-after : (m : Meter) (line : Line) (b : ℕ) → (b ≡ 10 → ⊥) → after_byte (state_at line m) b ≡ state_at (with_byte line b) m
unfolding after_byte
within-after m line b h = rw (ne_eqb b 10 h)

within-said : (m : Meter) (line : Line) (b : ℕ) → (b ≡ 10 → ⊥) → said_at (state_at line m) b ≡ []
unfolding said_at
within-said m line b h = rw (ne_eqb b 10 h)

line_after : (m : Meter) (xs ys : List ℕ) → Plain ys → after_bytes (state_at (line_of xs) m) ys ≡ state_at (line_of (xs ++ ys)) m
unfolding after_bytes
line_after m xs [] p = ap (λ (l : List ℕ). state_at (line_of l) m) (sym (append-nil xs))
line_after m xs (b ∷ ys) p =
    ap (λ (s : State). after_bytes s ys) (within-after m (line_of xs) b p.0 ∙ ap (λ (l : Line). state_at l m) (sym (line_last xs b)))
    ∙ line_after m (xs ++ (b ∷ [])) ys p.1
    ∙ ap (λ (l : List ℕ). state_at (line_of l) m) (append_assoc xs (b ∷ []) ys)

line_said : (m : Meter) (line : Line) (ys : List ℕ) → Plain ys → said_bytes (state_at line m) ys ≡ []
unfolding said_bytes
line_said m line [] p = refl
line_said m line (b ∷ ys) p =
    ap₂ (λ (x : List ℕ) (s : State). x ++ said_bytes s ys) (within-said m line b p.0) (within-after m line b p.0) ∙ line_said m (with_byte line b) ys p.1

start-after : (m : Meter) (ys : List ℕ) → Plain ys → after_bytes (state_at Empty m) ys ≡ state_at (line_of ys) m
unfolding line_of
start-after m ys p = line_after m [] ys p

-- ---- a line and what follows

newline-after : (m : Meter) (line : Line) (rest : List ℕ) → after_bytes (state_at line m) (10 ∷ rest) ≡ after_bytes (state_at Empty (after_line m line)) rest
unfolding after_bytes after_byte
newline-after m line rest = refl

newline-said : (m : Meter) (line : Line) (rest : List ℕ) → said_bytes (state_at line m) (10 ∷ rest) ≡ answer_text (after_line m line) line ++ said_bytes (state_at Empty (after_line m line)) rest
unfolding said_bytes after_byte said_at
newline-said m line rest = refl

first_after : (m : Meter) (ys rest : List ℕ) → Plain ys → after_bytes (state_at Empty m) (ys ++ (10 ∷ rest)) ≡ after_bytes (state_at Empty (after_line m (line_of ys))) rest
first_after m ys rest p = after-append (state_at Empty m) ys (10 ∷ rest) ∙ ap (λ (s : State). after_bytes s (10 ∷ rest)) (start-after m ys p) ∙ newline-after m (line_of ys) rest

first_said : (m : Meter) (ys rest : List ℕ) → Plain ys → said_bytes (state_at Empty m) (ys ++ (10 ∷ rest)) ≡ answer_text (after_line m (line_of ys)) (line_of ys) ++ said_bytes (state_at Empty (after_line m (line_of ys))) rest
first_said m ys rest p =
    said-append (state_at Empty m) ys (10 ∷ rest)
    ∙ ap₂ (λ (x : List ℕ) (s : State). x ++ said_bytes s (10 ∷ rest)) (line_said m Empty ys p) (start-after m ys p)
    ∙ newline-said m (line_of ys) rest

-- ---- all that is written, from any meter on
abbrev written : State → List ℕ → List ℕ
written s input = said_bytes s input ++ rest_text (after_bytes s input)

written_first : (m : Meter) (ys rest : List ℕ) → Plain ys → written (state_at Empty m) (ys ++ (10 ∷ rest)) ≡ answer_text (after_line m (line_of ys)) (line_of ys) ++ written (state_at Empty (after_line m (line_of ys))) rest
written_first m ys rest p =
    let n = after_line m (line_of ys) in
    ap₂ (λ (x : List ℕ) (s : State). x ++ rest_text s) (first_said m ys rest p) (first_after m ys rest p)
    ∙ append_assoc (answer_text n (line_of ys)) (said_bytes (state_at Empty n) rest) (rest_text (after_bytes (state_at Empty n) rest))

nothing_left : (m : Meter) → written (state_at Empty m) [] ≡ []
unfolding said_bytes after_bytes
nothing_left m = refl

whole_lines : (m : Meter) (lines : List (List ℕ)) → AllPlain lines → written (state_at Empty m) (joined lines) ≡ answers m lines
unfolding joined answers
whole_lines m [] p = nothing_left m
whole_lines m (l ∷ ls) p =
    let n = after_line m (line_of l) in
    written_first m l (joined ls) p.0 ∙ ap (λ (x : List ℕ). answer_text n (line_of l) ++ x) (whole_lines n ls p.1)

-- the last line, of at least one byte, without its newline
last_line : (m : Meter) (b : ℕ) (bytes : List ℕ) → Plain (b ∷ bytes) → written (state_at Empty m) (b ∷ bytes) ≡ answer_text (after_line m (line_of (b ∷ bytes))) (line_of (b ∷ bytes))
last_line m b bytes p =
    ap₂ (λ (x : List ℕ) (s : State). x ++ rest_text s) (line_said m Empty (b ∷ bytes) p) (start-after m (b ∷ bytes) p)
    ∙ rest-is m (line_of (b ∷ bytes)) (line_some b bytes)

written_lines : (m : Meter) (lines : List (List ℕ)) (b : ℕ) (bytes : List ℕ) → AllPlain lines → Plain (b ∷ bytes)
    → written (state_at Empty m) (joined lines ++ (b ∷ bytes)) ≡ answers m (lines ++ ((b ∷ bytes) ∷ []))
unfolding joined answers
written_lines m [] b bytes p q = last_line m b bytes q ∙ sym (append-nil (answer_text (after_line m (line_of (b ∷ bytes))) (line_of (b ∷ bytes))))
written_lines m (l ∷ ls) b bytes p q =
    let n = after_line m (line_of l) in
    ap (written (state_at Empty m)) (append_assoc l (10 ∷ joined ls) (b ∷ bytes))
    ∙ written_first m l (joined ls ++ (b ∷ bytes)) p.0
    ∙ ap (λ (x : List ℕ). answer_text n (line_of l) ++ x) (written_lines n ls b bytes p.1 q)

-- ---- the two forms of an input

pub printed_lines : (lines : List (List ℕ)) → AllPlain lines → printed (joined lines) ≡ answers new_meter lines
unfolding printed
printed_lines lines p = whole_lines new_meter lines p

pub printed-last : (lines : List (List ℕ)) (b : ℕ) (bytes : List ℕ) → AllPlain lines → Plain (b ∷ bytes) → printed (joined lines ++ (b ∷ bytes)) ≡ answers new_meter (lines ++ ((b ∷ bytes) ∷ []))
unfolding printed
printed-last lines b bytes p q = written_lines new_meter lines b bytes p q

-- `8` as the first line is answered `steady 4020000000000000`
pub example : printed (56 ∷ []) ≡ 115 ∷ 116 ∷ 101 ∷ 97 ∷ 100 ∷ 121 ∷ 32 ∷ 52 ∷ 48 ∷ 50 ∷ 48 ∷ 48 ∷ 48 ∷ 48 ∷ 48 ∷ 48 ∷ 48 ∷ 48 ∷ 48 ∷ 48 ∷ 48 ∷ 48 ∷ 48 ∷ 10 ∷ []
unfolding printed after_bytes said_bytes after_byte said_at digit_after sampled_gauge reading_of reading_text level_text hex_digits level_bits of_int lt div to_bits ne
example = refl
