-- The four bytes of the terms: what is written is read back, and what is read is what would be written.
-- Assumes nothing.
use Prim.Native.Nat.{ℕ, ◌+◌, ◌*◌, ◌/◌, ◌%◌, ◌≤◌, ◌<◌}
use mathlib.Core.Bool.{Bool, true, false}
use mathlib.Core.List.{List, ◌++◌}
use mathlib.Core.Path.{◌≡◌, refl, sym, ap, ap₂, ◌∙◌}
use native.Mathlib.Omega.{arith}
use lib.Dec.{leb}
use lib.ListN.{length}
use borrow.Author.Tests.{le-leb, lt-leb, leb-true}
use Rattle.wire.specs.Wire.{pick, part, be16, be16_at}
use Rattle.wire.proofs.Laws.{Bytes, be16_at-lt, be16-be16_at, part-add}
use Rattle.startup2.specs.declared.Terms.{Terms}
use Rattle.startup2.specs.Terms.{max_depth, kinds_of, said_of, first_half, second_half, terms_of, halves_terms, terms_at}
use Rattle.startup2.proofs.Fits.{Fit}

-- of the numbers themselves, by A
halves : (p : Bool) (k i o : ℕ) → k ≤ 7 → i ≤ max_depth → o ≤ max_depth →
    halves_terms (pick p 0x8000 0 + pick p k 0 / 4 * 0x4000 + i) (pick p k 0 % 4 * 0x4000 + o) ≡ record { peer = p; ird = i; ord = o; kinds = pick p k 0 }
halves true k i o hk hi ho =
    let f : ℕ = 0x8000 + k / 4 * 0x4000 + i in
    let s : ℕ = k % 4 * 0x4000 + o in
    let high : leb 0x8000 f ≡ true = le-leb 0x8000 f (omega arith) in
    let ei : f % 0x4000 ≡ i = omega arith in
    let eo : s % 0x4000 ≡ o = omega arith in
    let ef : f / 0x4000 ≡ 2 + k / 4 = omega arith in
    let es : s / 0x4000 ≡ k % 4 = omega arith in
    let eq : (2 + k / 4) % 2 ≡ k / 4 = omega arith in
    let ek : f / 0x4000 % 2 * 4 + s / 0x4000 ≡ k = ap₂ (λ (x y : ℕ). x % 2 * 4 + y) ef es ∙ ap (λ (x : ℕ). x * 4 + k % 4) eq ∙ omega arith in
    ap (λ (b : Bool). record { peer = b; ird = f % 0x4000; ord = s % 0x4000; kinds = pick b (f / 0x4000 % 2 * 4 + s / 0x4000) 0 }) high
    ∙ ap₂ (λ (x y : ℕ). record { peer = true; ird = x; ord = y; kinds = f / 0x4000 % 2 * 4 + s / 0x4000 }) ei eo
    ∙ ap (λ (z : ℕ). record { peer = true; ird = i; ord = o; kinds = z }) ek
halves false k i o hk hi ho =
    let f : ℕ = 0 + 0 / 4 * 0x4000 + i in
    let s : ℕ = 0 % 4 * 0x4000 + o in
    let low : leb 0x8000 f ≡ false = lt-leb 0x8000 f (omega arith) in
    let ei : f % 0x4000 ≡ i = omega arith in
    let eo : s % 0x4000 ≡ o = omega arith in
    ap (λ (b : Bool). record { peer = b; ird = f % 0x4000; ord = s % 0x4000; kinds = pick b (f / 0x4000 % 2 * 4 + s / 0x4000) 0 }) low
    ∙ ap₂ (λ (x y : ℕ). record { peer = false; ird = x; ord = y; kinds = 0 }) ei eo

-- the halves of terms that fit are halves
pub halves_small : (t : Terms) → Fit t → (first_half t < 65536) × (second_half t < 65536)
halves_small t f = go t.peer (kinds_of t) t.ird t.ord f.said f.ird f.ord
  where
    go : (p : Bool) (k i o : ℕ) → k ≤ 7 → i ≤ max_depth → o ≤ max_depth → (pick p 0x8000 0 + k / 4 * 0x4000 + i < 65536) × (k % 4 * 0x4000 + o < 65536)
    go true k i o hk hi ho = (omega arith, omega arith)
    go false k i o hk hi ho = (omega arith, omega arith)

-- what is written is read back, with no kinds where A is clear
pub halves_back : (t : Terms) → Fit t → halves_terms (first_half t) (second_half t) ≡ said_of t
halves_back t f = halves t.peer t.kinds t.ird t.ord f.kinds f.ird f.ord

-- B, C and D are clear where A is
pub record Idle (f s : ℕ) : Type 0 where
  pub b : f / 0x4000 ≡ 0
  pub cd : s / 0x4000 ≡ 0

-- the halves are those that the terms read would be written in
again : (b : Bool) (f s : ℕ) → leb 0x8000 f ≡ b → f < 65536 → s < 65536 → (b ≡ false → Idle f s) →
    let k : ℕ = pick b (pick b (f / 0x4000 % 2 * 4 + s / 0x4000) 0) 0 in
    (pick b 0x8000 0 + k / 4 * 0x4000 + f % 0x4000 ≡ f) × (k % 4 * 0x4000 + s % 0x4000 ≡ s)
again true f s e hf hs idle =
    let h : 0x8000 ≤ f = leb-true 0x8000 f e in
    (omega arith, omega arith)
again false f s e hf hs idle =
    let i : Idle f s = idle refl in
    (omega (arith, i.b), omega (arith, i.cd))

pub halves_again : (f s : ℕ) → f < 65536 → s < 65536 → (leb 0x8000 f ≡ false → Idle f s) → (first_half (halves_terms f s) ≡ f) × (second_half (halves_terms f s) ≡ s)
halves_again f s hf hs idle = again (leb 0x8000 f) f s refl hf hs idle

-- the four bytes from a place are those in which the terms read from them would be written
pub terms_again : (l : List ℕ) (at : ℕ) → Bytes l → at + 4 ≤ length l → (leb 0x8000 (be16_at l at) ≡ false → Idle (be16_at l at) (be16_at l (at + 2))) → terms_of (terms_at l at) ≡ part l at 4
unfolding terms_of terms_at
terms_again l at b h idle =
    let e = halves_again (be16_at l at) (be16_at l (at + 2)) (be16_at-lt l at b) (be16_at-lt l (at + 2) b) idle in
    ap₂ (λ (f s : ℕ). be16 f ++ be16 s) e.0 e.1
    ∙ ap₂ (λ (x y : List ℕ). x ++ y) (be16-be16_at l at b (omega arith)) (be16-be16_at l (at + 2) b (omega arith))
    ∙ sym (part-add l at 2 2)
