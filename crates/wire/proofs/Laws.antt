-- Laws of specs/Wire.antt, stated over lists: a number is what its bytes say, and its bytes are what stands there; what `put` leaves; what `same` says.
-- Each wider number is shown from the narrower one of which it is two.
use Prim.Native.Nat.{ℕ, zero, suc, ◌+◌, ◌*◌, ◌/◌, ◌%◌, ◌<◌, ◌≤◌}
use mathlib.Core.Bool.{Bool, true, false}
use mathlib.Core.List.{List, [], ◌∷◌, ◌++◌, append_assoc}
use mathlib.Core.Path.{◌≡◌, refl, sym, ap, ap₂, ◌∙◌}
use native.Mathlib.Nat.{zero-add, add-zero, add_assoc}
use native.Mathlib.Numerals.{add-one}
use native.Mathlib.Omega.{arith}
use lib.Dec.{eqb}
use lib.ListN.{length, get_or, take, drop, set, replicate, length-append, length-drop, length-replicate}
use lib.Seq.{sets-eq, take_at, drop_at, drop-drop, drop-cons, take-add, length-take-le, get_or-take, get_or-drop, get_or-append-add}
use borrow.Author.Tests.{eq-eqb, eqb-true}
use Rattle.wire.specs.Wire.{both, same, part, put, be16, be16_at, be32, be32_at, be64, be64_at, le32, le32_at}

-- a list of n zeros has n elements
pub zeros-long : (n : ℕ) → n ≡ length {0} {A = ℕ} (replicate {0} {A = ℕ} n 0)
zeros-long n = sym (length-replicate n 0)

-- each element is a byte
abbrev pub Bytes : List ℕ → Type 0
Bytes l = (i : ℕ) → get_or l i 0 < 256

pub bytes_take : (k : ℕ) (l : List ℕ) → Bytes l → Bytes (take k l)
bytes_take zero l b i = omega arith
bytes_take (suc k) [] b i = omega arith
bytes_take (suc k) (x ∷ l) b zero = b 0
bytes_take (suc k) (x ∷ l) b (suc i) = bytes_take k l (λ j. b (suc j)) i

pub bytes_drop : (k : ℕ) (l : List ℕ) → Bytes l → Bytes (drop k l)
bytes_drop k l b i = rw get_or-drop (b (k + i))

pub bytes-append : (xs ys : List ℕ) → Bytes xs → Bytes ys → Bytes (xs ++ ys)
bytes-append [] ys b c i = c i
bytes-append (x ∷ xs) ys b c zero = b 0
bytes-append (x ∷ xs) ys b c (suc i) = bytes-append xs ys (λ j. b (suc j)) c i

-- ---- a number read at a place depends on the bytes there alone

-- n bytes of l from i are those of m from j
abbrev pub Agree : ℕ → List ℕ → ℕ → List ℕ → ℕ → Type 0
Agree n l i m j = (k : ℕ) → k < n → get_or l (i + k) 0 ≡ get_or m (j + k) 0

-- the k bytes from the a-th of those on agree too
agree_from : (n a k : ℕ) (l : List ℕ) (i : ℕ) (m : List ℕ) (j : ℕ) → a + k ≤ n → Agree n l i m j → Agree k l (i + a) m (j + a)
agree_from n a k l i m j h all x hx = rw (add_assoc i a x, add_assoc j a x) (all (a + x) (omega arith))

agree_front : (n k : ℕ) (l : List ℕ) (i : ℕ) (m : List ℕ) (j : ℕ) → k ≤ n → Agree n l i m j → Agree k l i m j
agree_front n k l i m j h all x hx = all x (omega arith)

agree_first : (n : ℕ) (l : List ℕ) (i : ℕ) (m : List ℕ) (j : ℕ) → 0 < n → Agree n l i m j → get_or l i 0 ≡ get_or m j 0
agree_first n l i m j h all = simp add-zero at (all 0 h)

pub be16_at_agree : (l : List ℕ) (i : ℕ) (m : List ℕ) (j : ℕ) → Agree 2 l i m j → be16_at l i ≡ be16_at m j
be16_at_agree l i m j all = ap₂ (λ (x y : ℕ). x * 256 + y) (agree_first 2 l i m j (omega arith) all) (all 1 (omega arith))

pub be32_at_agree : (l : List ℕ) (i : ℕ) (m : List ℕ) (j : ℕ) → Agree 4 l i m j → be32_at l i ≡ be32_at m j
be32_at_agree l i m j all =
    ap₂ (λ (x y : ℕ). x * 65536 + y) (be16_at_agree l i m j (agree_front 4 2 l i m j (omega arith) all))
    (be16_at_agree l (i + 2) m (j + 2) (agree_from 4 2 2 l i m j (omega arith) all))

pub be64_at_agree : (l : List ℕ) (i : ℕ) (m : List ℕ) (j : ℕ) → Agree 8 l i m j → be64_at l i ≡ be64_at m j
be64_at_agree l i m j all =
    ap₂ (λ (x y : ℕ). x * 4294967296 + y) (be32_at_agree l i m j (agree_front 8 4 l i m j (omega arith) all))
    (be32_at_agree l (i + 4) m (j + 4) (agree_from 8 4 4 l i m j (omega arith) all))

pub le32_at_agree : (l : List ℕ) (i : ℕ) (m : List ℕ) (j : ℕ) → Agree 4 l i m j → le32_at l i ≡ le32_at m j
le32_at_agree l i m j all =
    let e₀ : get_or l i 0 ≡ get_or m j 0 = agree_first 4 l i m j (omega arith) all in
    let e₁ : get_or l (i + 1) 0 ≡ get_or m (j + 1) 0 = all 1 (omega arith) in
    let e₂ : get_or l (i + 2) 0 ≡ get_or m (j + 2) 0 = all 2 (omega arith) in
    let e₃ : get_or l (i + 3) 0 ≡ get_or m (j + 3) 0 = all 3 (omega arith) in
    omega arith

-- the bytes of a list agree with those of its first k, of the list after others, and of what is left once some are dropped
pub agree_take : (n k : ℕ) (l : List ℕ) (i : ℕ) → i + n ≤ k → Agree n (take k l) i l i
agree_take n k l i h x hx = get_or-take k l (i + x) 0 (omega arith)

pub agree_append : (n : ℕ) (xs ys : List ℕ) (i : ℕ) → Agree n (xs ++ ys) (length xs + i) ys i
agree_append n xs ys i x hx = rw add_assoc (get_or-append-add xs ys (i + x) 0)

pub agree_drop : (n k : ℕ) (l : List ℕ) (i : ℕ) → Agree n (drop k l) i l (k + i)
agree_drop n k l i x hx = get_or-drop k l (i + x) 0 ∙ ap (λ (p : ℕ). get_or l p 0) (sym (add_assoc k i x))

pub be16_at-take : (k : ℕ) (l : List ℕ) (i : ℕ) → i + 2 ≤ k → be16_at (take k l) i ≡ be16_at l i
be16_at-take k l i h = be16_at_agree (take k l) i l i (agree_take 2 k l i h)

pub be32_at-take : (k : ℕ) (l : List ℕ) (i : ℕ) → i + 4 ≤ k → be32_at (take k l) i ≡ be32_at l i
be32_at-take k l i h = be32_at_agree (take k l) i l i (agree_take 4 k l i h)

pub be64_at-take : (k : ℕ) (l : List ℕ) (i : ℕ) → i + 8 ≤ k → be64_at (take k l) i ≡ be64_at l i
be64_at-take k l i h = be64_at_agree (take k l) i l i (agree_take 8 k l i h)

pub le32_at-take : (k : ℕ) (l : List ℕ) (i : ℕ) → i + 4 ≤ k → le32_at (take k l) i ≡ le32_at l i
le32_at-take k l i h = le32_at_agree (take k l) i l i (agree_take 4 k l i h)

-- ---- what is written is read

pub be16_at-be16 : (v : ℕ) (rest : List ℕ) → v < 65536 → be16_at (be16 v ++ rest) 0 ≡ v
be16_at-be16 v rest h = omega arith

pub be32_at-be32 : (v : ℕ) (rest : List ℕ) → v < 4294967296 → be32_at (be32 v ++ rest) 0 ≡ v
be32_at-be32 v rest h = omega arith

pub be64_at-be64 : (v : ℕ) (rest : List ℕ) → v < 18446744073709551616 → be64_at (be64 v ++ rest) 0 ≡ v
be64_at-be64 v rest h =
    let hi : be32_at (be32 (v / 4294967296) ++ rest) 0 ≡ v / 4294967296 = be32_at-be32 (v / 4294967296) rest (omega arith) in
    let lo : be32_at (be32 (v % 4294967296) ++ rest) 0 ≡ v % 4294967296 = be32_at-be32 (v % 4294967296) rest (omega arith) in
    omega arith

pub le32_at-le32 : (v : ℕ) (rest : List ℕ) → v < 4294967296 → le32_at (le32 v ++ rest) 0 ≡ v
le32_at-le32 v rest h =
    let d₁ : v / 65536 * 256 + v / 256 % 256 ≡ v / 256 = omega arith in
    let d₂ : v / 16777216 * 256 + v / 65536 % 256 ≡ v / 65536 = omega arith in
    let d₃ : v / 16777216 % 256 ≡ v / 16777216 = omega arith in
    omega arith

-- ---- what is read is written

pub be16_at-lt : (l : List ℕ) (i : ℕ) → Bytes l → be16_at l i < 65536
be16_at-lt l i b = omega (arith, b i, b (i + 1))

pub be32_at-lt : (l : List ℕ) (i : ℕ) → Bytes l → be32_at l i < 4294967296
be32_at-lt l i b = omega (arith, be16_at-lt l i b, be16_at-lt l (i + 2) b)

pub be64_at-lt : (l : List ℕ) (i : ℕ) → Bytes l → be64_at l i < 18446744073709551616
be64_at-lt l i b = omega (arith, be32_at-lt l i b, be32_at-lt l (i + 4) b)

pub le32_at-lt : (l : List ℕ) (i : ℕ) → Bytes l → le32_at l i < 4294967296
le32_at-lt l i b = omega (arith, b i, b (i + 1), b (i + 2), b (i + 3))

-- a part of one byte and more
pub part-one : (l : List ℕ) (i n : ℕ) → i + suc n ≤ length l → part l i (suc n) ≡ get_or l i 0 ∷ part l (i + 1) n
part-one l i n h = rw (drop-cons l i 0 (omega arith), add-one)

part-four : (l : List ℕ) (i : ℕ) → i + 4 ≤ length l → part l i 4 ≡ get_or l i 0 ∷ get_or l (i + 1) 0 ∷ get_or l (i + 2) 0 ∷ get_or l (i + 3) 0 ∷ []
part-four l i h =
    let p₂ : part l (i + 1 + 1) 2 ≡ get_or l (i + 2) 0 ∷ part l (i + 2 + 1) 1 = rw (add_assoc i 1 1) (part-one l (i + 2) 1 (omega arith)) in
    let p₃ : part l (i + 2 + 1) 1 ≡ get_or l (i + 3) 0 ∷ [] = rw (add_assoc i 2 1) (part-one l (i + 3) 0 (omega arith)) in
    part-one l i 3 h ∙ rw (part-one l (i + 1) 2 (omega arith), p₂, p₃)

-- a part, as the two parts of which it is made
pub part-add : (l : List ℕ) (i n m : ℕ) → part l i (n + m) ≡ part l i n ++ part l (i + n) m
part-add l i n m = take-add n m (drop i l) ∙ ap (λ (r : List ℕ). part l i n ++ take m r) (drop-drop n i l)

pub be16-be16_at : (l : List ℕ) (i : ℕ) → Bytes l → i + 2 ≤ length l → be16 (be16_at l i) ≡ part l i 2
be16-be16_at l i b h =
    let hi : be16_at l i / 256 % 256 ≡ get_or l i 0 = omega (arith, b i, b (i + 1)) in
    let lo : be16_at l i % 256 ≡ get_or l (i + 1) 0 = omega (arith, b (i + 1)) in
    ap₂ (λ (x y : ℕ). x ∷ y ∷ []) hi lo
    ∙ sym (part-one l i 1 h ∙ ap (λ (r : List ℕ). get_or l i 0 ∷ r) (part-one l (i + 1) 0 (omega arith)))

pub be32-be32_at : (l : List ℕ) (i : ℕ) → Bytes l → i + 4 ≤ length l → be32 (be32_at l i) ≡ part l i 4
be32-be32_at l i b h =
    let hi : be32_at l i / 65536 ≡ be16_at l i = omega (arith, be16_at-lt l (i + 2) b) in
    let lo : be32_at l i % 65536 ≡ be16_at l (i + 2) = omega (arith, be16_at-lt l (i + 2) b) in
    ap₂ (λ (x y : ℕ). be16 x ++ be16 y) hi lo
    ∙ ap₂ (λ (x y : List ℕ). x ++ y) (be16-be16_at l i b (omega arith)) (be16-be16_at l (i + 2) b (omega arith))
    ∙ sym (part-add l i 2 2)

pub be64-be64_at : (l : List ℕ) (i : ℕ) → Bytes l → i + 8 ≤ length l → be64 (be64_at l i) ≡ part l i 8
be64-be64_at l i b h =
    let hi : be64_at l i / 4294967296 ≡ be32_at l i = omega (arith, be32_at-lt l (i + 4) b) in
    let lo : be64_at l i % 4294967296 ≡ be32_at l (i + 4) = omega (arith, be32_at-lt l (i + 4) b) in
    ap₂ (λ (x y : ℕ). be32 x ++ be32 y) hi lo
    ∙ ap₂ (λ (x y : List ℕ). x ++ y) (be32-be32_at l i b (omega arith)) (be32-be32_at l (i + 4) b (omega arith))
    ∙ sym (part-add l i 4 4)

pub le32-le32_at : (l : List ℕ) (i : ℕ) → Bytes l → i + 4 ≤ length l → le32 (le32_at l i) ≡ part l i 4
le32-le32_at l i b h =
    let v : ℕ = le32_at l i in
    let x₀ : ℕ = get_or l i 0 in
    let x₁ : ℕ = get_or l (i + 1) 0 in
    let x₂ : ℕ = get_or l (i + 2) 0 in
    let x₃ : ℕ = get_or l (i + 3) 0 in
    let q₁ : v / 256 ≡ x₁ + x₂ * 256 + x₃ * 65536 = omega (arith, b i) in
    let q₂ : v / 65536 ≡ x₂ + x₃ * 256 = omega (arith, b i, b (i + 1)) in
    let q₃ : v / 16777216 ≡ x₃ = omega (arith, b i, b (i + 1), b (i + 2)) in
    let b₀ : v % 256 ≡ x₀ = omega (arith, b i) in
    let b₁ : v / 256 % 256 ≡ x₁ = ap (λ (n : ℕ). n % 256) q₁ ∙ omega (arith, b (i + 1)) in
    let b₂ : v / 65536 % 256 ≡ x₂ = ap (λ (n : ℕ). n % 256) q₂ ∙ omega (arith, b (i + 2)) in
    let b₃ : v / 16777216 % 256 ≡ x₃ = ap (λ (n : ℕ). n % 256) q₃ ∙ omega (arith, b (i + 3)) in
    ap₂ (λ (x y : ℕ). x ∷ y ∷ v / 65536 % 256 ∷ v / 16777216 % 256 ∷ []) b₀ b₁
    ∙ ap₂ (λ (x y : ℕ). x₀ ∷ x₁ ∷ x ∷ y ∷ []) b₂ b₃
    ∙ sym (part-four l i h)

-- ---- put

pub length_part : (l : List ℕ) (i n : ℕ) → i + n ≤ length l → length (part l i n) ≡ n
length_part l i n h = length-take-le n (drop i l) (simp length-drop (omega arith))

pub length-put : (l : List ℕ) (at : ℕ) (xs : List ℕ) → at + length xs ≤ length l → length (put l at xs) ≡ length l
length-put l at xs h =
    let e : length (take at l) ≡ at = length-take-le at l (omega arith) in
    simp (length-append, length-drop, e) (omega arith)

module _ (l : List ℕ) (at : ℕ) (xs : List ℕ) (h : at ≤ length l) where
  front : length (take at l ++ xs) ≡ at + length xs
  front = length-append (take at l) xs ∙ ap (λ (n : ℕ). n + length xs) (length-take-le at l h)

  whole : put l at xs ≡ (take at l ++ xs) ++ drop (at + length xs) l
  whole = sym (append_assoc (take at l) xs (drop (at + length xs) l))

  -- what stands before the end of what was put, and after it
  pub take_put : take (at + length xs) (put l at xs) ≡ take at l ++ xs
  take_put =
      ap (λ (r : List ℕ). take (at + length xs) r) whole
      ∙ take_at (take at l ++ xs) (drop (at + length xs) l) (at + length xs) front

  pub drop-put : drop (at + length xs) (put l at xs) ≡ drop (at + length xs) l
  drop-put =
      ap (λ (r : List ℕ). drop (at + length xs) r) whole
      ∙ drop_at (take at l ++ xs) (drop (at + length xs) l) (at + length xs) front

-- two puts, the second where the first ends
pub put-put : (l : List ℕ) (at : ℕ) (xs ys : List ℕ) → at ≤ length l → put (put l at xs) (at + length xs) ys ≡ put l at (xs ++ ys)
put-put l at xs ys h =
    let rest : drop (at + length xs + length ys) (put l at xs) ≡ drop (at + length (xs ++ ys)) l =
    sym (drop-drop (length ys) (at + length xs) (put l at xs))
    ∙ ap (λ (r : List ℕ). drop (length ys) r) (drop-put l at xs h)
    ∙ drop-drop (length ys) (at + length xs) l
    ∙ ap (λ (n : ℕ). drop n l) (add_assoc at (length xs) (length ys) ∙ ap (λ (n : ℕ). at + n) (sym (length-append xs ys)))
    in
    ap₂ (λ (x y : List ℕ). x ++ (ys ++ y)) (take_put l at xs h) rest
    ∙ append_assoc (take at l) xs (ys ++ drop (at + length (xs ++ ys)) l)
    ∙ ap (λ (r : List ℕ). take at l ++ r) (sym (append_assoc xs ys (drop (at + length (xs ++ ys)) l)))

pub put-start : (l xs : List ℕ) → put l 0 xs ≡ xs ++ drop (length xs) l
put-start l xs = rw zero-add

pub part-put : (l : List ℕ) (at : ℕ) (xs : List ℕ) → at ≤ length l → part (put l at xs) at (length xs) ≡ xs
part-put l at xs h =
    ap (λ (r : List ℕ). take (length xs) r) (drop_at (take at l) (xs ++ drop (at + length xs) l) at (length-take-le at l h))
    ∙ take_at xs (drop (at + length xs) l) (length xs) refl

-- two stores in a row
pub set_2 : (l : List ℕ) (i a b : ℕ) → i + 2 ≤ length l → set (set l i a) (i + 1) b ≡ put l i (a ∷ b ∷ [])
set_2 l i a b h = rw add-one (sets-eq (a ∷ b ∷ []) l i h ∙ append_assoc (take i l) (a ∷ b ∷ []) (drop (i + 2) l))

-- ---- both

pub both_true : (a b : Bool) → both a b ≡ true → (a ≡ true) × (b ≡ true)
both_true true b e = (refl, e)
both_true false b e = let z : true ≡ false = sym e in (sym z, cc)

-- ---- same

pub same_refl : (l : List ℕ) → same l l ≡ true
same_refl [] = refl
same_refl (x ∷ xs) = rw (eq-eqb x x refl) (same_refl xs)

pub same-eq : (a b : List ℕ) → same a b ≡ true → a ≡ b
same-eq [] [] e = refl
same-eq [] (y ∷ ys) e = cc
same-eq (x ∷ xs) [] e = cc
same-eq (x ∷ xs) (y ∷ ys) e =
    let h = both_true (eqb x y) (same xs ys) e in
    ap₂ (λ (z : ℕ) (zs : List ℕ). z ∷ zs) (eqb-true x y h.0) (same-eq xs ys h.1)

pub same_true : (a b : List ℕ) → a ≡ b → same a b ≡ true
same_true a b e = ap (λ (r : List ℕ). same a r) (sym e) ∙ same_refl a

pub same_false : (a b : List ℕ) → (a ≡ b → ⊥) → same a b ≡ false
same_false a b apart = go (same a b) refl
  where
    go : (t : Bool) → same a b ≡ t → same a b ≡ false
    go true e = absurd (apart (same-eq a b e))
    go false e = e
