-- The rule of the eight tables, from one test that antt computes over all of their entries: each table is built from its eight
-- entries of a single bit, and those of the next table are eight bits further on.
-- Assumes nothing.
use mathlib.Core.Path.{◌≡◌, refl, sym, ap, ap₂, ◌∙◌, subst}
use mathlib.Core.Bool.{Bool, true, false, not}
use mathlib.Core.List.{List, [], ◌∷◌, ◌++◌}
use mathlib.Core.Logic.{◌⊎◌, inl, inr}
use Prim.Native.Nat.{ℕ, zero, suc, ◌+◌, ◌-◌, ◌*◌, ◌^◌, ◌≤◌, ◌<◌}
use native.Mathlib.Nat.{pow-suc, zero-add, add-zero, add-suc, suc-add, not-suc-le-zero, le_of_suc-le-suc}
use native.Mathlib.Omega.{arith}
use lib.Bits.{bit_xor, xor_self, xor_shifted}
use lib.Dec.{T, eqb, eqb→eq, ltb, ltb→lt, nltb→le, lit<, lit≤}
use lib.ListN.{length, length-append, get_or, get_or-append}
use lib.Pow.{pow-lt}
use lib.Seq.{get_or-append-add}
use Rattle.crc_bits.specs.Crc.{xor32}
use Rattle.crc_halves.specs.Tables.{after}
use Rattle.crc32c.specs.Tables.{Tables}
use Rattle.crc_bits.proofs.Xor.{xor32-is}
use Rattle.crc32c.proofs.Words.{after-lt, after-add, after_linear}

abbrev each : (ℕ → ℕ) → List ℕ → List ℕ
each f [] = []
each f (x ∷ xs) = f x ∷ each f xs

-- the entries so far, and those with one bit more
abbrev grown : List ℕ → List ℕ → List ℕ
grown l [] = l
grown l (v ∷ vs) = grown (l ++ each (xor32 v) l) vs

-- what n bits make of 2 ^ m and of the k - 1 powers after it
abbrev powers : ℕ → ℕ → ℕ → List ℕ
powers n m zero = []
powers n m (suc k) = after n (2 ^ m) ∷ powers n (suc m) k

-- k tables, from the entries of a single bit of the first
abbrev tables : ℕ → List ℕ → List ℕ
tables zero vs = []
tables (suc k) vs = grown (0 ∷ []) vs ++ tables k (each (after 8) vs)

abbrev both : Bool → Bool → Bool
both true b = b
both false b = false

both_left : (a b : Bool) → T (both a b) → T a
both_left true b t = tt
both_left false b t = t

both_right : (a b : Bool) → T (both a b) → T b
both_right true b t = t
both_right false b t = absurd t

abbrev same : List ℕ → List ℕ → Bool
same [] [] = true
same [] (y ∷ ys) = false
same (x ∷ xs) [] = false
same (x ∷ xs) (y ∷ ys) = both (eqb x y) (same xs ys)

same-eq : (xs ys : List ℕ) → T (same xs ys) → xs ≡ ys
same-eq [] [] t = refl
same-eq [] (y ∷ ys) t = absurd t
same-eq (x ∷ xs) [] t = absurd t
same-eq (x ∷ xs) (y ∷ ys) t =
    ap₂ (λ (z : ℕ) (zs : List ℕ). z ∷ zs) (eqb→eq x y (both_left (eqb x y) (same xs ys) t)) (same-eq xs ys (both_right (eqb x y) (same xs ys) t))

abbrev pub right : List ℕ → Bool
right xs = same xs (tables 8 (powers 136 0 8))

length-each : (f : ℕ → ℕ) (l : List ℕ) → length (each f l) ≡ length l
length-each f [] = refl
length-each f (x ∷ xs) = ap suc (length-each f xs)

get_d_each : (f : ℕ → ℕ) (l : List ℕ) (i : ℕ) → i < length l → get_or (each f l) i 0 ≡ f (get_or l i 0)
get_d_each f [] i h = absurd (not-suc-le-zero h)
get_d_each f (x ∷ xs) zero h = refl
get_d_each f (x ∷ xs) (suc i) h = get_d_each f xs i (le_of_suc-le-suc h)

-- a list has what n bits make of each number of m bits
abbrev Has : ℕ → ℕ → List ℕ → Type 0
Has n m l = (length l ≡ 2 ^ m) × ((j : ℕ) → j < 2 ^ m → get_or l j 0 ≡ after n j)

lt_or_le : (j k : ℕ) → (j < k) ⊎ (k ≤ j)
lt_or_le j k = go (ltb j k) refl
  where
    go : (b : Bool) → ltb j k ≡ b → (j < k) ⊎ (k ≤ j)
    go true e = inl (ltb→lt j k (subst T (sym e) tt))
    go false e = inr (nltb→le j k (subst (λ (b : Bool). T (not b)) (sym e) tt))

doubled : (n m : ℕ) (l : List ℕ) → 2 ^ m < 2 ^ 32 → Has n m l → Has n (suc m) (l ++ each (xor32 (after n (2 ^ m))) l)
doubled n m l small has =
    let v : ℕ = after n (2 ^ m) in
    let r : List ℕ = each (xor32 v) l in
    let e : length l ≡ 2 ^ m = has.0 in (
      length-append l r ∙ ap₂ (λ (x y : ℕ). x + y) e (length-each (xor32 v) l ∙ e) ∙ twice,
      λ j h. by j h (lt_or_le j (2 ^ m)),
    )
  where
    twice : 2 ^ m + 2 ^ m ≡ 2 ^ suc m
    twice = omega (arith, pow-suc 2 m)

    upper : (i : ℕ) → i < 2 ^ m → get_or (l ++ each (xor32 (after n (2 ^ m))) l) (length l + i) 0 ≡ after n (2 ^ m + i)
    upper i h =
        let v : ℕ = after n (2 ^ m) in
        let il : i < 2 ^ 32 = omega arith in
        let one : 1 * 2 ^ m ≡ 2 ^ m = omega arith in
        get_or-append-add l (each (xor32 v) l) i 0
        ∙ get_d_each (xor32 v) l i (subst (λ (k : ℕ). i < k) (sym has.0) h)
        ∙ ap (xor32 v) (has.1 i h)
        ∙ xor32-is v (after n i) (after-lt n (2 ^ m) small) (after-lt n i il)
        ∙ sym (after_linear n (2 ^ m) i small il)
        ∙ ap (after n) (ap (λ (k : ℕ). bit_xor k i) (sym one) ∙ xor_shifted 1 m i h ∙ ap (λ (k : ℕ). k + i) one)

    by : (j : ℕ) → j < 2 ^ suc m → (j < 2 ^ m) ⊎ (2 ^ m ≤ j) → get_or (l ++ each (xor32 (after n (2 ^ m))) l) j 0 ≡ after n j
    by j h (inl s) = get_or-append l (each (xor32 (after n (2 ^ m))) l) 0 j (subst (λ (k : ℕ). j < k) (sym has.0) s) ∙ has.1 j s
    by j h (inr g) =
        let i : ℕ = j - 2 ^ m in
        let at : j ≡ length l + i = omega (arith, has.0) in
        let back : 2 ^ m + i ≡ j = omega arith in
        let below : i < 2 ^ m = omega (arith, pow-suc 2 m) in
        ap (λ (k : ℕ). get_or (l ++ each (xor32 (after n (2 ^ m))) l) k 0) at ∙ upper i below ∙ ap (after n) back

grown_has : (n k m : ℕ) (l : List ℕ) → m + k ≤ 32 → Has n m l → Has n (m + k) (grown l (powers n m k))
grown_has n zero m l small has = subst (λ (t : ℕ). Has n t l) (sym (add-zero m)) has
grown_has n (suc k) m l small has =
    let e : suc m + k ≡ m + suc k = suc-add m k ∙ sym (add-suc m k) in
    subst (λ (t : ℕ). Has n t (grown l (powers n m (suc k)))) e
    (grown_has n k (suc m) (l ++ each (xor32 (after n (2 ^ m))) l) (subst (λ (t : ℕ). t ≤ 32) (sym e) small)
    (doubled n m l (pow-lt {i = m} {j = 32} (omega arith)) has))

zero-after : (n : ℕ) → after n 0 ≡ 0
zero-after n = ap (after n) (sym (xor_self 0)) ∙ after_linear n 0 0 (lit< tt) (lit< tt) ∙ xor_self (after n 0)

next-powers : (n k m : ℕ) → each (after 8) (powers n m k) ≡ powers (n + 8) m k
next-powers n zero m = refl
next-powers n (suc k) m = ap₂ (λ (z : ℕ) (zs : List ℕ). z ∷ zs) (after-add n 8 (2 ^ m)) (next-powers n k (suc m))

table : (n : ℕ) → Has n 8 (grown (0 ∷ []) (powers n 0 8))
table n = grown_has n 8 0 (0 ∷ []) (lit≤ tt) (refl, λ j h. ap (λ (i : ℕ). get_or (0 ∷ []) i 0) (none j h) ∙ sym (zero-after n) ∙ ap (after n) (sym (none j h)))
  where
    none : (j : ℕ) → j < 2 ^ 0 → j ≡ 0
    none j h = omega arith

all : (k n i j : ℕ) → i < k → j < 256 → get_or (tables k (powers n 0 8)) (256 * i + j) 0 ≡ after (n + 8 * i) j
all zero n i j h l = absurd (not-suc-le-zero h)
all (suc k) n zero j h l =
    let f : List ℕ = grown (0 ∷ []) (powers n 0 8) in
    ap (λ (i : ℕ). get_or (f ++ tables k (each (after 8) (powers n 0 8))) i 0) (zero-add j)
    ∙ get_or-append f (tables k (each (after 8) (powers n 0 8))) 0 j (subst (λ (m : ℕ). j < m) (sym (table n).0) l)
    ∙ (table n).1 j l
    ∙ ap (λ (m : ℕ). after m j) (sym (add-zero n))
all (suc k) n (suc i) j h l =
    let f : List ℕ = grown (0 ∷ []) (powers n 0 8) in
    let at : 256 * suc i + j ≡ length f + (256 * i + j) = omega (arith, (table n).0) in
    let bits : n + 8 + 8 * i ≡ n + 8 * suc i = omega arith in
    ap (λ (m : ℕ). get_or (f ++ tables k (each (after 8) (powers n 0 8))) m 0) at
    ∙ get_or-append-add f (tables k (each (after 8) (powers n 0 8))) (256 * i + j) 0
    ∙ ap (λ (vs : List ℕ). get_or (tables k vs) (256 * i + j) 0) (next-powers n 8 0)
    ∙ all k (n + 8) i j (le_of_suc-le-suc h) l
    ∙ ap (λ (m : ℕ). after m j) bits

pub are-tables : (xs : List ℕ) → T (right xs) → Tables xs
unfolding Tables
are-tables xs t k j hk hj = ap (λ (l : List ℕ). get_or l (256 * k + j) 0) (same-eq xs (tables 8 (powers 136 0 8)) t) ∙ all 8 136 k j hk hj
