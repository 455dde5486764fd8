-- A line of some bytes and one more is what `with_byte` makes of the line of those bytes.
use Prim.Native.Nat.{ℕ, ◌+◌, ◌-◌, ◌*◌, ◌≤◌, ◌<◌}
use mathlib.Core.Bool.{Bool, true, false, cond, ◌&&◌}
use mathlib.Core.List.{List, [], ◌∷◌, ◌++◌}
use mathlib.Core.Path.{◌≡◌, refl, sym, ap, ap₂, ◌∙◌}
use native.Mathlib.Omega.{arith}
use borrow.Author.Tests.{leb-false, le-leb, lt-leb}
use lib.Dec.{leb}
use Rattle.script.specs.Number.{is_digit, all, value_from}
use Rattle.script.proofs.Digits.{inside, below, above}
use Rattle.gauge.specs.declared.line.Line.TheVariants.{Empty, Value, Bad}
use Rattle.gauge.specs.Line.{last, line_of, digit_after, with_byte}

-- ---- a byte after a number, by the tests of the code

pub no_digit-under : (n b : ℕ) → b < 48 → Bad ≡ digit_after n b
unfolding digit_after
no_digit-under n b h = rw (below 48 57 b h)

pub no_digit-over : (n b : ℕ) → 57 < b → Bad ≡ digit_after n b
unfolding digit_after
no_digit-over n b h = rw (above 48 57 b h)

pub digit-fits : (n b d : ℕ) → 48 ≤ b → b ≤ 57 → d ≡ b → n * 10 + (d - 48) ≤ last → Value (n * 10 + (d - 48)) ≡ digit_after n b
unfolding digit_after
digit-fits n b d h k e l = rw (e, inside 48 57 b h k, le-leb (n * 10 + (b - 48)) last (omega arith))

pub digit-over : (n b d : ℕ) → 48 ≤ b → b ≤ 57 → d ≡ b → last < n * 10 + (d - 48) → Bad ≡ digit_after n b
unfolding digit_after
digit-over n b d h k e l = rw (inside 48 57 b h k, lt-leb (n * 10 + (b - 48)) last (omega arith))

-- ---- a byte behind bytes

and-true : (t : Bool) → (t && true) ≡ t
and-true true = refl
and-true false = refl

all-last : (p : ℕ → Bool) (xs : List ℕ) (b : ℕ) → all p (xs ++ (b ∷ [])) ≡ (all p xs && p b)
all-last p [] b = and-true (p b)
all-last p (x ∷ xs) b = ap (λ (t : Bool). p x && t) (all-last p xs b) ∙ sym (and_assoc (p x) (all p xs) (p b))
  where
    and_assoc : (s t u : Bool) → ((s && t) && u) ≡ (s && (t && u))
    and_assoc true t u = refl
    and_assoc false t u = refl

value_last : (v : ℕ) (xs : List ℕ) (b : ℕ) → value_from v (xs ++ (b ∷ [])) ≡ value_from v xs * 10 + (b - 48)
unfolding value_from
value_last v [] b = refl
value_last v (x ∷ xs) b = value_last (v * 10 + (x - 48)) xs b

-- by whether the bytes are digits and their number is a sample
behind : (d k : Bool) (v b : ℕ) → leb v last ≡ k → cond ((d && is_digit b) && leb (v * 10 + (b - 48)) last) (Value (v * 10 + (b - 48))) Bad ≡ with_byte (cond (d && k) (Value v) Bad) b
unfolding digit_after
behind true true v b e = refl
behind true false v b e = no_more (is_digit b) (lt-leb (v * 10 + (b - 48)) last (grows (leb-false v last e)))
  where
    grows : last < v → last < v * 10 + (b - 48)
    grows h = omega arith

    no_more : (t : Bool) → leb (v * 10 + (b - 48)) last ≡ false → cond (t && leb (v * 10 + (b - 48)) last) (Value (v * 10 + (b - 48))) Bad ≡ Bad
    no_more true f = rw f
    no_more false f = refl
behind false k v b e = refl

one_byte : (b : ℕ) → line_of (b ∷ []) ≡ digit_after 0 b
unfolding line_of digit_after value_from
one_byte b = ap (λ (t : Bool). cond (t && leb (0 * 10 + (b - 48)) last) (Value (0 * 10 + (b - 48))) Bad) (and-true (is_digit b))

pub line_last : (xs : List ℕ) (b : ℕ) → line_of (xs ++ (b ∷ [])) ≡ with_byte (line_of xs) b
unfolding line_of
line_last [] b = one_byte b
line_last (x ∷ xs) b =
    ap₂ (λ (t : Bool) (v : ℕ). cond (t && leb v last) (Value v) Bad) (all-last is_digit (x ∷ xs) b) (value_last 0 (x ∷ xs) b)
    ∙ behind (all is_digit (x ∷ xs)) (leb (value_from 0 (x ∷ xs)) last) (value_from 0 (x ∷ xs)) b refl

-- a line of some bytes is not the empty one
pub line_some : (b : ℕ) (bytes : List ℕ) → line_of (b ∷ bytes) ≡ Empty → ⊥
unfolding line_of
line_some b bytes e = go (all is_digit (b ∷ bytes) && leb (value_from 0 (b ∷ bytes)) last) e
  where
    go : (t : Bool) → cond t (Value (value_from 0 (b ∷ bytes))) Bad ≡ Empty → ⊥
    go true f = let z : ◌≡◌ {A = ℕ} 0 1 = cc in omega arith
    go false f = let z : ◌≡◌ {A = ℕ} 0 1 = cc in omega arith
