-- Laws of lists: what stands in a part of a list after words were put there or elsewhere, and lists by their elements.
use Prim.Native.Nat.{ℕ, zero, suc, ◌+◌, ◌-◌, ◌<◌, ◌≤◌}
use mathlib.Core.List.{List, [], ◌∷◌, ◌++◌, append_assoc}
use mathlib.Core.Path.{◌≡◌, refl, sym, ap, ap₂, subst, ◌∙◌}
use native.Mathlib.Nat.{le_of_suc-le-suc, not-suc-le-zero}
use native.Mathlib.Omega.{arith}
use lib.ListN.{length, get_or, take, drop, set, length-append, length-drop, take-append-drop}
use lib.Seq.{sets-eq, drop_at, drop-drop, length-take-le, drop-append-le, take-append-le}
use Rattle.wire.specs.Wire.{part, put}
use Rattle.wire.proofs.Laws.{part-one, part-put}
use Rattle.block.specs.Words.{sequence}

-- one store is one word put
pub set-put : (l : List ℕ) (i a : ℕ) → i < length l → set l i a ≡ put l i (a ∷ [])
set-put l i a h = sets-eq (a ∷ []) l i (omega arith) ∙ append_assoc (take i l) (a ∷ []) (drop (i + 1) l)

-- a word that is read is the part of one word there
pub word_read : {A : Type 0} (decode : List ℕ → A) (l : List ℕ) (i at : ℕ) → i ≡ at → at < length l → decode (get_or l i 0 ∷ []) ≡ decode (part l at 1)
word_read decode l i at e h = ap decode (ap (λ (k : ℕ). get_or l k 0 ∷ []) e ∙ sym (part-one l at 0 (omega arith)))

-- what was put is decoded
pub put_back : {A : Type 0} (decode : List ℕ → A) (l : List ℕ) (at : ℕ) (xs : List ℕ) (x : A) → at ≤ length l → decode xs ≡ x → decode (part (put l at xs) at (length xs)) ≡ x
put_back decode l at xs x h e = ap decode (part-put l at xs h) ∙ e

-- a part of a list depends on no element after it
part-front : (p r : List ℕ) (b k : ℕ) → b + k ≤ length p → part (p ++ r) b k ≡ part p b k
part-front p r b k h = rw (drop-append-le b p r (omega arith), take-append-le k (drop b p) r (simp length-drop (omega arith)))

-- a part before what was put, or after it, is as it was
pub part-before : (l : List ℕ) (at : ℕ) (xs : List ℕ) (b k : ℕ) → at ≤ length l → b + k ≤ at → part (put l at xs) b k ≡ part l b k
part-before l at xs b k h hb =
    let fits : b + k ≤ length (take at l) = subst (λ (n : ℕ). b + k ≤ n) (sym (length-take-le at l h)) hb in
    part-front (take at l) (xs ++ drop (at + length xs) l) b k fits
    ∙ sym (part-front (take at l) (drop at l) b k fits)
    ∙ ap (λ (r : List ℕ). part r b k) (take-append-drop at l)

pub drop-put : (l : List ℕ) (at : ℕ) (xs : List ℕ) (b : ℕ) → at ≤ length l → at + length xs ≤ b → drop b (put l at xs) ≡ drop b l
drop-put l at xs b h hb =
    let k = b - (at + length xs) in
    let e : b ≡ at + length xs + k = omega arith in
    let front : length (take at l ++ xs) ≡ at + length xs = length-append (take at l) xs ∙ ap (λ (n : ℕ). n + length xs) (length-take-le at l h) in
    rw (e, ← drop-drop k (at + length xs) (put l at xs), ← drop-drop k (at + length xs) l, ← append_assoc (take at l) xs (drop (at + length xs) l), drop_at (take at l ++ xs) (drop (at + length xs) l) (at + length xs) front)

pub part-after : (l : List ℕ) (at : ℕ) (xs : List ℕ) (b k : ℕ) → at ≤ length l → at + length xs ≤ b → part (put l at xs) b k ≡ part l b k
part-after l at xs b k h hb = ap (λ (r : List ℕ). take k r) (drop-put l at xs b h hb)

-- ---- lists by their elements

-- a list is its elements
pub listed-all : {A : Type 0} (n : ℕ) (l : List A) (d : A) → length l ≡ n → sequence n (λ i. get_or l i d) ≡ l
listed-all {A} n l d e = subst (λ (k : ℕ). sequence k (λ i. get_or l i d) ≡ l) e (go l)
  where
    go : (l : List A) → sequence (length l) (λ i. get_or l i d) ≡ l
    go [] = refl
    go (x ∷ xs) = ap (λ (r : List A). x ∷ r) (go xs)

pub listed_at : {A : Type 0} (n k : ℕ) (f : ℕ → A) (d : A) → k < n → get_or (sequence n f) k d ≡ f k
listed_at zero k f d h = absurd (not-suc-le-zero h)
listed_at (suc n) zero f d h = refl
listed_at (suc n) (suc k) f d h = listed_at n k (λ i. f (suc i)) d (le_of_suc-le-suc h)

-- two lists of eight elements
pub listed_8 : {A : Type 0} (f g : ℕ → A) → f 0 ≡ g 0 → f 1 ≡ g 1 → f 2 ≡ g 2 → f 3 ≡ g 3 → f 4 ≡ g 4 → f 5 ≡ g 5 → f 6 ≡ g 6 → f 7 ≡ g 7 → sequence 8 f ≡ sequence 8 g
listed_8 f g e₀ e₁ e₂ e₃ e₄ e₅ e₆ e₇ = cc

-- two lists of which no element differs, and a list of which one changed
pub listed_same : {A : Type 0} (n : ℕ) (f g : ℕ → A) → ((m : ℕ) → m < n → g m ≡ f m) → sequence n g ≡ sequence n f
listed_same zero f g e = refl
listed_same {A} (suc n) f g e =
    ap₂ (λ (y : A) (r : List A). y ∷ r) (e 0 (omega arith))
    (listed_same n (λ i. f (suc i)) (λ i. g (suc i)) (λ m h. e (suc m) (omega arith)))

pub listed-set : {A : Type 0} (n k : ℕ) (f g : ℕ → A) (x : A) → g k ≡ x → ((m : ℕ) → m < n → (m ≡ k → ⊥) → g m ≡ f m) → sequence n g ≡ set (sequence n f) k x
listed-set zero k f g x e o = refl
listed-set {A} (suc n) zero f g x e o =
    ap₂ (λ (y : A) (r : List A). y ∷ r) e
    (listed_same n (λ i. f (suc i)) (λ i. g (suc i)) (λ m h. o (suc m) (omega arith) (λ z. omega arith)))
listed-set {A} (suc n) (suc k) f g x e o =
    ap₂ (λ (y : A) (r : List A). y ∷ r) (o 0 (omega arith) (λ z. omega arith))
    (listed-set n k (λ i. f (suc i)) (λ i. g (suc i)) x e (λ m h ne. o (suc m) (omega arith) (λ z. ne (omega arith))))
