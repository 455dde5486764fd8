-- Bytes that are appended one after the other are appended together.
use Prim.Native.Nat.{ℕ, ◌+◌, ◌≤◌}
use mathlib.Core.List.{List, [], ◌∷◌, ◌++◌, append_assoc}
use mathlib.Core.Path.{◌≡◌, refl, sym, ap, ◌∙◌}
use native.Mathlib.Omega.{arith}
use lib.ListN.{length, length-append}
use lib.Dec.{lit≤}
use lib.Ieee.{Float}
use Rattle.wire.specs.Wire.{be64}
use Rattle.script.specs.Text.{appended}
use Rattle.script.specs.Hex.{hex_digits, hex_text}
use Rattle.script.proofs.Appended.{appended_fit}
use Rattle.meter.specs.Words.{level_bits}
use Rattle.meter.specs.declared.gauge.Reading.{Reading}
use Rattle.meter.specs.declared.gauge.Reading.TheVariants.{Quiet, Steady, Falling}
use Rattle.gauge.specs.Text.{level_text, reading_text, newline, Placed}

pub placed_one : (room : ℕ) (s out after : List ℕ) → length out + length s ≤ room → after ≡ appended room out s → Placed s out after
placed_one room s out after h e = e ∙ sym (appended_fit room out s h)

pub placed-then : (s t out mid after : List ℕ) → Placed s out mid → Placed t mid after → Placed (s ++ t) out after
placed-then s t out mid after p q = q ∙ ap (λ (l : List ℕ). l ++ t) p ∙ append_assoc out s t

-- there is room behind what is placed
pub placed-room : (room : ℕ) (s out mid : List ℕ) (k : ℕ) → length out + length s + k ≤ room → Placed s out mid → length mid + k ≤ room
placed-room room s out mid k h p =
    let e : length mid ≡ length out + length s = ap length p ∙ length-append out s in
    omega arith

-- ---- a float

pub level-placed : (room : ℕ) (x : Float) (bits : ℕ) (word out mid after : List ℕ) → length out + 17 ≤ room → bits ≡ level_bits x → word ≡ be64 bits
    → mid ≡ appended room out (32 ∷ []) → after ≡ appended room mid (hex_text word) → Placed (level_text x) out after
unfolding level_text hex_text hex_digits
level-placed room x bits word out mid after h e w m a =
    let p = placed_one room (32 ∷ []) out mid (omega arith) m in
    let t = hex_digits (be64 (level_bits x)) in
    let g : hex_text word ≡ t = ap hex_text (w ∙ ap be64 e) in
    placed-then (32 ∷ []) t out mid after p
    (placed_one room t mid after (placed-room room (32 ∷ []) out mid 16 (omega arith) p) (a ∙ ap (appended room mid) g))

pub level-long : (x : Float) → length (level_text x) ≡ 17
unfolding level_text hex_digits
level-long x = refl

-- ---- a reading, its name first

abbrev quiet : List ℕ
quiet = 113 ∷ 117 ∷ 105 ∷ 101 ∷ 116 ∷ []

abbrev steady : List ℕ
steady = 115 ∷ 116 ∷ 101 ∷ 97 ∷ 100 ∷ 121 ∷ []

abbrev falling : List ℕ
falling = 102 ∷ 97 ∷ 108 ∷ 108 ∷ 105 ∷ 110 ∷ 103 ∷ []

pub quiet-placed : (room : ℕ) (r : Reading) (out after : List ℕ) → r ≡ Quiet → length out + 41 ≤ room → after ≡ appended room out quiet → Placed (reading_text r) out after
unfolding reading_text
quiet-placed room r out after e h m = rw e (placed_one room quiet out after (omega arith) m)

-- the room behind a name
pub steady-room : (room : ℕ) (out mid : List ℕ) → length out + 41 ≤ room → mid ≡ appended room out steady → length mid + 17 ≤ room
steady-room room out mid h m = placed-room room steady out mid 17 (omega arith) (placed_one room steady out mid (omega arith) m)

pub falling-room : (room : ℕ) (out mid : List ℕ) → length out + 41 ≤ room → mid ≡ appended room out falling → length mid + 34 ≤ room
falling-room room out mid h m = placed-room room falling out mid 34 (omega arith) (placed_one room falling out mid (omega arith) m)

-- and behind the first float
pub level-room : (room : ℕ) (x : Float) (out mid : List ℕ) → length out + 34 ≤ room → Placed (level_text x) out mid → length mid + 17 ≤ room
level-room room x out mid h p = let e : length (level_text x) ≡ 17 = level-long x in placed-room room (level_text x) out mid 17 (omega arith) p

pub steady-placed : (room : ℕ) (r : Reading) (x : Float) (out mid after : List ℕ) → r ≡ Steady x → length out + 41 ≤ room → mid ≡ appended room out steady
    → Placed (level_text x) mid after → Placed (reading_text r) out after
unfolding reading_text
steady-placed room r x out mid after e h m p =
    rw e (placed-then steady (level_text x) out mid after (placed_one room steady out mid (omega arith) m) p)

pub falling-placed : (room : ℕ) (r : Reading) (x y : Float) (out mid on after : List ℕ) → r ≡ Falling x y → length out + 41 ≤ room → mid ≡ appended room out falling
    → Placed (level_text x) mid on → Placed (level_text y) on after → Placed (reading_text r) out after
unfolding reading_text
falling-placed room r x y out mid on after e h m p q =
    rw e
    (placed-then (falling ++ level_text x) (level_text y) out on after
    (placed-then falling (level_text x) out mid on (placed_one room falling out mid (omega arith) m) p) q)

-- ---- a line

pub reading-long : (r : Reading) → length (reading_text r) ≤ 41
unfolding reading_text level_text hex_digits
reading-long Quiet = lit≤ tt
reading-long (Steady x) = lit≤ tt
reading-long (Falling x y) = lit≤ tt

pub line_placed : (room : ℕ) (r : Reading) (out mid after : List ℕ) → length out + 42 ≤ room → Placed (reading_text r) out mid → after ≡ appended room mid newline
    → Placed (reading_text r ++ newline) out after
line_placed room r out mid after h p m =
    let l : length (reading_text r) ≤ 41 = reading-long r in
    placed-then (reading_text r) newline out mid after p
    (placed_one room newline mid after (placed-room room (reading_text r) out mid 1 (omega arith) p) m)
