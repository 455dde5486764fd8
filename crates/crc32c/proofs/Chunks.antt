-- Bytes taken off what is left, one at a time or in chunks of the slice.
use Rattle.std.proofs.Common.{◌≡◌, refl, sym, ap, ◌∙◌, ℕ, zero, suc, ◌+◌, ◌*◌, ◌≤◌, ◌<◌, List, [], length, get_or, take, drop, drop-cons, add-one, arith}
use lib.ListN.{drop_of_length-le}
use lib.Seq.{drop-drop}
use Rattle.std.specs.Simd.{first_chunks}
use Rattle.crc_bits.specs.Crc.{crc_byte, crc_run}
use Rattle.crc32c.specs.Tables.{eight}
use Rattle.crc32c.proofs.Words.{eight_off}

-- chunk i of n elements
pub chunk_at : {X : Type 0} (n k i : ℕ) (xs : List X) → i < k → get_or (first_chunks n k xs) i [] ≡ take n (drop (n * i) xs)
chunk_at n zero i xs h = absurd (omega arith)
chunk_at n (suc k) zero xs h =
    let e : n * 0 ≡ 0 = omega arith in
    rw e refl
chunk_at n (suc k) (suc i) xs h =
    let e : n * suc i ≡ n + n * i = omega arith in
    let l : i < k = omega arith in
    rw e (chunk_at n k i (drop n xs) l ∙ ap (take n) (drop-drop (n * i) n xs))

-- one byte
pub byte_off : (c i : ℕ) (s : List ℕ) → i < length s → crc_run c (drop i s) ≡ crc_run (crc_byte c (get_or s i 0)) (drop (i + 1) s)
unfolding crc_run
byte_off c i s h = ap (crc_run c) (drop-cons s i 0 h) ∙ ap (λ (n : ℕ). crc_run (crc_byte c (get_or s i 0)) (drop n s)) (sym (add-one i))

-- one chunk of eight bytes
pub chunk_off : (c i k : ℕ) (s : List ℕ) → i < k → crc_run c (drop (8 * i) s) ≡ crc_run (crc_run c (get_or (first_chunks 8 k s) i [])) (drop (8 * (i + 1)) s)
unfolding eight
chunk_off c i k s h =
    let e : 8 * (i + 1) ≡ 8 * i + 8 = omega arith in
    rw (chunk_at 8 k i s h, e) (eight_off c (8 * i) s)

-- nothing is left
pub none_left : (c i : ℕ) (s : List ℕ) → length s ≤ i → crc_run c (drop i s) ≡ c
unfolding crc_run
none_left c i s h = ap (crc_run c) (drop_of_length-le s h)
