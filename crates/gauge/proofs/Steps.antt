-- A byte, a chunk and the whole input: what was taken and said after some bytes and one more, and how much room that needs.
use Prim.Native.Nat.{ℕ, ◌+◌, ◌*◌, ◌≤◌, ◌<◌}
use mathlib.Core.Bool.{Bool, true, false, cond}
use mathlib.Core.List.{List, [], ◌∷◌, ◌++◌, append_assoc, append-nil}
use mathlib.Core.Path.{◌≡◌, refl, sym, ap, ap₂, ◌∙◌, subst}
use native.Mathlib.Numerals.{add-one}
use native.Mathlib.Omega.{arith}
use borrow.Author.Tests.{eq-eqb, ne_eqb}
use lib.Dec.{eqb, lit≤}
use lib.ListN.{length, take, get_or, length-append}
use lib.Seq.{take-suc, take_all}
use Rattle.meter.specs.Gauge.{reading_of}
use Rattle.meter.specs.declared.Meter.{Meter}
use Rattle.meter.specs.declared.gauge.Reading.{Reading}
use Rattle.gauge.specs.declared.line.Line.{Line}
use Rattle.gauge.specs.declared.line.Line.TheVariants.{Empty, Value, Bad}
use Rattle.gauge.specs.declared.run.State.{State}
use Rattle.gauge.specs.Line.{with_byte}
use Rattle.gauge.specs.Text.{reading_text, newline, Placed}
use Rattle.gauge.specs.Run.{after_line, answer_text, state_at, after_byte, said_at, Stepped, after_bytes, said_bytes, Ran, rest_of, rest_text}
use Rattle.gauge.proofs.Places.{reading-long}

-- ---- a byte

pub stepped_end : (s : State) (b : ℕ) (out after : List ℕ) (next : Meter) → b ≡ 10 → next ≡ after_line s.meter s.line → Placed (answer_text next s.line) out after
    → Stepped s b out (state_at Empty next) after
unfolding after_byte said_at
stepped_end s b out after next e n p = record {
  state = rw (eq-eqb b 10 e, n);
  said = rw (eq-eqb b 10 e) (subst (λ (m : Meter). Placed (answer_text m s.line) out after) n p);
}

pub stepped_on : (s : State) (b : ℕ) (out : List ℕ) (line : Line) → (b ≡ 10 → ⊥) → line ≡ with_byte s.line b → Stepped s b out (state_at line s.meter) out
unfolding after_byte said_at
stepped_on s b out line h e = record { state = rw (ne_eqb b 10 h, e); said = rw (ne_eqb b 10 h) (sym (append-nil out)) }

-- the answer by what the line is
pub answer_read : (m : Meter) (line : Line) (n : ℕ) (r : Reading) (out after : List ℕ) → line ≡ Value n → r ≡ reading_of m.gauge m.ticked → Placed (reading_text r ++ newline) out after
    → Placed (answer_text m line) out after
answer_read m line n r out after e f p = rw e (subst (λ (x : Reading). Placed (reading_text x ++ newline) out after) f p)

answer-long : (m : Meter) (line : Line) → length (answer_text m line) ≤ 42
answer-long m (Value n) =
    let r = reading_of m.gauge m.ticked in
    let a : length (reading_text r) ≤ 41 = reading-long r in
    let e : length (reading_text r ++ newline) ≡ length (reading_text r) + 1 = length-append (reading_text r) newline in
    omega arith
answer-long m Empty = lit≤ tt
answer-long m Bad = lit≤ tt

pub said-long : (s : State) (b : ℕ) → length (said_at s b) ≤ 42
unfolding said_at
said-long s b = go (eqb b 10)
  where
    go : (t : Bool) → length (cond t (answer_text (after_line s.meter s.line) s.line) []) ≤ 42
    go true = answer-long (after_line s.meter s.line) s.line
    go false = lit≤ tt

-- ---- the last line

pub rest-is : (m : Meter) (line : Line) → (line ≡ Empty → ⊥) → rest_of m line ≡ answer_text (after_line m line) line
rest-is m Empty h = absurd (h refl)
rest-is m (Value n) h = refl
rest-is m Bad h = refl

not-empty_value : (line : Line) (n : ℕ) → line ≡ Value n → line ≡ Empty → ⊥
not-empty_value line n e f = let z : ◌≡◌ {A = ℕ} 0 1 = cc in omega arith

not-empty-bad : (line : Line) → line ≡ Bad → line ≡ Empty → ⊥
not-empty-bad line e f = let z : ◌≡◌ {A = ℕ} 0 1 = cc in omega arith

rest-placed : (s : State) (next : Meter) (after : List ℕ) → (s.line ≡ Empty → ⊥) → next ≡ after_line s.meter s.line → Placed (answer_text next s.line) [] after
    → after ≡ rest_text s
rest-placed s next after h n p = rw (rest-is s.meter s.line h) (subst (λ (m : Meter). Placed (answer_text m s.line) [] after) n p)

pub rest_value : (s : State) (k : ℕ) (next : Meter) (out after : List ℕ) → s.line ≡ Value k → next ≡ after_line s.meter s.line → out ≡ [] → Placed (answer_text next s.line) out after
    → after ≡ rest_text s
rest_value s k next out after e n c p = rest-placed s next after (not-empty_value s.line k e) n (subst (λ (l : List ℕ). Placed (answer_text next s.line) l after) c p)

pub rest-bad : (s : State) (next : Meter) (out after : List ℕ) → s.line ≡ Bad → next ≡ after_line s.meter s.line → out ≡ [] → Placed (answer_text next s.line) out after
    → after ≡ rest_text s
rest-bad s next out after e n c p = rest-placed s next after (not-empty-bad s.line e) n (subst (λ (l : List ℕ). Placed (answer_text next s.line) l after) c p)

-- ---- bytes after bytes: how the input is cut into chunks does not matter

pub after-append : (s : State) (xs ys : List ℕ) → after_bytes s (xs ++ ys) ≡ after_bytes (after_bytes s xs) ys
unfolding after_bytes
after-append s [] ys = refl
after-append s (b ∷ xs) ys = after-append (after_byte s b) xs ys

pub said-append : (s : State) (xs ys : List ℕ) → said_bytes s (xs ++ ys) ≡ said_bytes s xs ++ said_bytes (after_bytes s xs) ys
unfolding after_bytes said_bytes
said-append s [] ys = refl
said-append s (b ∷ xs) ys =
    ap (λ (l : List ℕ). said_at s b ++ l) (said-append (after_byte s b) xs ys) ∙ sym (append_assoc (said_at s b) (said_bytes (after_byte s b) xs) (said_bytes (after_bytes (after_byte s b) xs) ys))

after_one : (s : State) (xs : List ℕ) (b : ℕ) → after_bytes s (xs ++ (b ∷ [])) ≡ after_byte (after_bytes s xs) b
unfolding after_bytes
after_one s xs b = after-append s xs (b ∷ [])

said-one : (s : State) (xs : List ℕ) (b : ℕ) → said_bytes s (xs ++ (b ∷ [])) ≡ said_bytes s xs ++ said_at (after_bytes s xs) b
unfolding said_bytes
said-one s xs b = said-append s xs (b ∷ []) ∙ ap (λ (l : List ℕ). said_bytes s xs ++ l) (append-nil (said_at (after_bytes s xs) b))

-- ---- a chunk: where the loop stands

pub record Taken (s : State) (chunk out : List ℕ) (now : State) (i : ℕ) : Type 0 where
  pub state : now ≡ after_bytes s (take i chunk)
  pub said : out ≡ said_bytes s (take i chunk)
  pub count : length out ≤ i * 42

pub taken_none : (s : State) (chunk out : List ℕ) → out ≡ [] → Taken s chunk out s 0
unfolding after_bytes said_bytes
taken_none s chunk out e = record { state = refl; said = e; count = let n : length out ≡ 0 = ap length e in omega arith }

pub taken-room : (room : ℕ) (s : State) (chunk out : List ℕ) (now : State) (i : ℕ) → length chunk * 42 ≤ room → i < length chunk → Taken s chunk out now i → length out + 42 ≤ room
taken-room room s chunk out now i r h t =
    let a : length out ≤ i * 42 = t.count in
    omega arith

pub taken_more : (s : State) (chunk out out' : List ℕ) (now now' : State) (i : ℕ) → i < length chunk → Taken s chunk out now i
    → Stepped now (get_or chunk i 0) out now' out' → Taken s chunk out' now' (i + 1)
taken_more s chunk out out' now now' i h t p =
    let b = get_or chunk i 0 in
    let xs = take i chunk in
    let e : take (i + 1) chunk ≡ xs ++ (b ∷ []) = ap (λ (n : ℕ). take n chunk) (add-one i) ∙ take-suc chunk i 0 h in
    let short : length (said_at now b) ≤ 42 = said-long now b in
    let long : length out' ≡ length out + length (said_at now b) = ap length p.said ∙ length-append out (said_at now b) in
    let count : length out ≤ i * 42 = t.count in
    record {
      state = p.state ∙ ap (λ (x : State). after_byte x b) t.state ∙ sym (after_one s xs b) ∙ ap (after_bytes s) (sym e);
      said =
          p.said
          ∙ ap₂ (λ (x y : List ℕ). x ++ y) t.said (ap (λ (x : State). said_at x b) t.state)
          ∙ sym (said-one s xs b)
          ∙ ap (said_bytes s) (sym e);
      count = omega arith;
    }

pub taken-all : (s : State) (chunk out : List ℕ) (now : State) (i : ℕ) → length chunk ≤ i → Taken s chunk out now i → Ran s chunk now out
taken-all s chunk out now i h t =
    let e : take i chunk ≡ chunk = take_all i chunk h in
    record { state = t.state ∙ ap (after_bytes s) e; said = t.said ∙ ap (said_bytes s) e }
