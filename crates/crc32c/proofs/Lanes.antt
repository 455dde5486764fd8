-- Three running values at once: the second and the third are those of what is taken in eight and sixteen bytes further on, and
-- each goes 24 bytes at a step.
-- Assumes nothing.
use mathlib.Core.Path.{◌≡◌, sym, ap, ap₂, ◌∙◌}
use mathlib.Core.List.{List, []}
use Prim.Native.Nat.{ℕ, ◌+◌, ◌-◌, ◌*◌, ◌^◌, ◌≤◌, ◌<◌}
use native.Mathlib.Omega.{arith}
use lib.Bits.{bit_xor, xor_zero_r, xor_comm, xor_lt}
use lib.Dec.{lit<}
use lib.ListN.{length, take, drop, get_or, length-drop}
use lib.Seq.{length-take-le, take_all, drop-drop, get_or-take, get_or-drop}
use Rattle.std.specs.Simd.{first_chunks}
use Rattle.crc_bits.specs.Crc.{crc_bits_of, crc_run}
use Rattle.crc_halves.specs.Tables.{after}
use Rattle.crc32c.specs.Tables.{eight, word, Bytes}
use Rattle.crc_bits.proofs.Xor.{xor_assoc}
use Rattle.crc_bits.proofs.Carry.{run_range, run_linear}
use Rattle.crc32c.proofs.Chunks.{chunk_at}
use Rattle.crc32c.proofs.Words.{after-lt, after-add, after_linear, run_eight, eight_off}

-- the three values joined by the bytes from i on
abbrev pub joined : ℕ → ℕ → ℕ → List ℕ → ℕ → ℕ
joined a b c s i = crc_run (bit_xor (eight (bit_xor (eight a s i) b) s (i + 8)) c) (drop (i + 16) s)

-- eight bytes and then sixteen zero bytes, by two numbers of four bytes
pub lane_is : (c : ℕ) (s : List ℕ) → c < 2 ^ 32 → length s ≡ 8 → Bytes s 0 → Bytes s 4
    → after 128 (crc_run c s) ≡ bit_xor (after 192 (bit_xor c (word s 0))) (after 160 (word s 4))
lane_is c s hc h p q =
    let x : ℕ = bit_xor c (word s 0) in
    let y : ℕ = word s 4 in
    let lx : x < 2 ^ 32 = xor_lt 32 c (word s 0) hc (omega (arith, p.0, p.1, p.2, p.3)) in
    ap (after 128) (run_eight c s hc h p q)
    ∙ after_linear 128 (after 64 x) (after 32 y) (after-lt 64 x lx) (after-lt 32 y (omega (arith, q.0, q.1, q.2, q.3)))
    ∙ ap₂ bit_xor (after-add 64 128 x) (after-add 32 128 y)

eight-lt : (c : ℕ) (s : List ℕ) (i : ℕ) → c < 2 ^ 32 → eight c s i < 2 ^ 32
unfolding eight
eight-lt c s i h = run_range c (take 8 (drop i s)) h

eight_linear : (c d : ℕ) (s : List ℕ) (i : ℕ) → d < 2 ^ 32 → i + 8 ≤ length s → eight (bit_xor c d) s i ≡ bit_xor (eight c s i) (after 64 d)
unfolding eight after
eight_linear c d s i hd h =
    let l : length (take 8 (drop i s)) ≡ 8 = length-take-le 8 (drop i s) (omega (arith, length-drop i s)) in
    run_linear c d (take 8 (drop i s)) hd ∙ ap (λ (n : ℕ). bit_xor (crc_run c (take 8 (drop i s))) (crc_bits_of (8 * n) d)) l

pub lanes_start : (c : ℕ) (s : List ℕ) → crc_run c s ≡ joined c 0 0 s 0
lanes_start c s =
    eight_off c 0 s
    ∙ eight_off (eight c s 0) 8 s
    ∙ ap (λ (n : ℕ). crc_run (eight n s 8) (drop 16 s)) (sym (xor_zero_r (eight c s 0)))
    ∙ ap (λ (n : ℕ). crc_run n (drop 16 s)) (sym (xor_zero_r (eight (bit_xor (eight c s 0) 0) s 8)))

-- a value that goes in with what was taken in before it, eight bytes on
eight-both : (c d : ℕ) (s : List ℕ) (i : ℕ) → d < 2 ^ 32 → i + 8 ≤ length s → eight (bit_xor d c) s i ≡ bit_xor (eight c s i) (after 64 d)
eight-both c d s i hd h = ap (λ (n : ℕ). eight n s i) (xor_comm d c) ∙ eight_linear c d s i hd h

pub lanes_turn : (a b c : ℕ) (s : List ℕ) (i : ℕ) → a < 2 ^ 32 → b < 2 ^ 32 → c < 2 ^ 32 → i + 48 ≤ length s
    → joined a b c s i ≡ joined (after 128 (eight a s i)) (after 128 (eight b s (i + 8))) (after 128 (eight c s (i + 16))) s (i + 24)
lanes_turn a b c s i ha hb hc h =
    let A : ℕ = eight a s i in
    let B : ℕ = eight b s (i + 8) in
    let C : ℕ = eight c s (i + 16) in
    let lA : A < 2 ^ 32 = eight-lt a s i ha in
    let lB : B < 2 ^ 32 = eight-lt b s (i + 8) hb in
    let lC : C < 2 ^ 32 = eight-lt c s (i + 16) hc in
    let a2 : ℕ = after 128 A in
    let b2 : ℕ = after 128 B in
    let c2 : ℕ = after 128 C in
    let A1 : ℕ = after 64 A in
    let lA1 : A1 < 2 ^ 32 = after-lt 64 A lA in
    let B1 : ℕ = after 64 B in
    let lB1 : B1 < 2 ^ 32 = after-lt 64 B lB in
    let C1 : ℕ = after 64 C in
    let lC1 : C1 < 2 ^ 32 = after-lt 64 C lC in
    let j : ℕ = i + 24 in
    let E : ℕ = eight a2 s j in
    let to_j : i + 16 + 8 ≡ j = omega arith in
    let to_end : j + 8 + 8 ≡ j + 16 = omega arith in
    let two : after 64 (bit_xor B A1) ≡ bit_xor B1 a2 = after_linear 64 B A1 lB lA1 ∙ ap (bit_xor B1) (after-add 64 64 A) in
    let all : bit_xor C (bit_xor B1 a2) ≡ bit_xor a2 (bit_xor C B1) = sym (xor_assoc C B1 a2) ∙ xor_comm (bit_xor C B1) a2 in
    let rest : after 64 (bit_xor C B1) ≡ bit_xor b2 C1 = after_linear 64 C B1 lC lB1 ∙ ap (bit_xor C1) (after-add 64 64 B) ∙ xor_comm C1 b2 in
    ap (λ (n : ℕ). crc_run (bit_xor n c) (drop (i + 16) s)) (eight-both b A s (i + 8) lA (omega arith))
    ∙ eight_off (bit_xor (bit_xor B A1) c) (i + 16) s
    ∙ ap₂ (λ (n m : ℕ). crc_run n (drop m s)) (eight-both c (bit_xor B A1) s (i + 16) (xor_lt 32 B A1 lB lA1) (omega arith) ∙ ap (bit_xor C) two ∙ all) to_j
    ∙ eight_off (bit_xor a2 (bit_xor C B1)) j s
    ∙ ap (λ (n : ℕ). crc_run n (drop (j + 8) s))
    (eight_linear a2 (bit_xor C B1) s j (xor_lt 32 C B1 lC lB1) (omega arith) ∙ ap (bit_xor E) rest ∙ sym (xor_assoc E b2 C1))
    ∙ eight_off (bit_xor (bit_xor E b2) C1) (j + 8) s
    ∙ ap₂ (λ (n m : ℕ). crc_run n (drop m s)) (eight_linear (bit_xor E b2) C1 s (j + 8) lC1 (omega arith) ∙ ap (bit_xor (eight (bit_xor E b2) s (j + 8))) (after-add 64 64 C)) to_end

-- what three calls over the last bytes give: eight, eight, and all that is left
pub lanes_end : (a b c x y z n : ℕ) (s r : List ℕ) → r ≡ drop n s → x ≡ crc_run a (take 8 r) → y ≡ crc_run (bit_xor x b) (take 8 (drop 8 r))
    → z ≡ crc_run (bit_xor y c) (take (length r - 16) (drop 16 r)) → z ≡ joined a b c s n
unfolding eight
lanes_end a b c x y z n s r e ex ey ez =
    let all : length (drop 16 r) ≤ length r - 16 = omega (arith, length-drop 16 r) in
    let whole : take (length r - 16) (drop 16 r) ≡ drop (n + 16) s = take_all (length r - 16) (drop 16 r) all ∙ ap (drop 16) e ∙ drop-drop 16 n s in
    let second : take 8 (drop 8 r) ≡ take 8 (drop (n + 8) s) = ap (take 8) (ap (drop 8) e ∙ drop-drop 8 n s) in
    let ex2 : x ≡ crc_run a (take 8 (drop n s)) = ex ∙ ap (λ (l : List ℕ). crc_run a (take 8 l)) e in
    let ey2 : y ≡ crc_run (bit_xor (crc_run a (take 8 (drop n s))) b) (take 8 (drop (n + 8) s)) = ey ∙ ap₂ (λ (u : ℕ) (l : List ℕ). crc_run (bit_xor u b) l) ex2 second in
    ez ∙ ap₂ (λ (u : ℕ) (l : List ℕ). crc_run (bit_xor u c) l) ey2 whole

-- one turn, by three chunks of eight bytes each
pub lanes_chunk : (a b c x y z k m n : ℕ) (s : List ℕ) (threes : List (List (List ℕ))) → threes ≡ first_chunks 3 m (first_chunks 8 n s)
    → a < 2 ^ 32 → b < 2 ^ 32 → c < 2 ^ 32 → k < m - 1 → m * 3 ≤ n → n * 8 ≤ length s
    → x ≡ after 128 (crc_run a (get_or (get_or (take (m - 1) threes) k []) 0 []))
    → y ≡ after 128 (crc_run b (get_or (get_or (take (m - 1) threes) k []) 1 []))
    → z ≡ after 128 (crc_run c (get_or (get_or (take (m - 1) threes) k []) 2 []))
    → joined a b c s (24 * k) ≡ joined x y z s (24 * (k + 1))
unfolding eight
lanes_chunk a b c x y z k m n s threes e ha hb hc hk hm hn ex ey ez =
    let i : ℕ = 24 * k in
    let three : (j : ℕ) → j < 3 → get_or (get_or (take (m - 1) threes) k []) j [] ≡ take 8 (drop (i + 8 * j) s) = λ j h. chunk j h in
    let fx : x ≡ after 128 (crc_run a (take 8 (drop (i + 0) s))) = ex ∙ ap (λ (l : List ℕ). after 128 (crc_run a l)) (three 0 (lit< tt)) in
    let fy : y ≡ after 128 (crc_run b (take 8 (drop (i + 8) s))) = ey ∙ ap (λ (l : List ℕ). after 128 (crc_run b l)) (three 1 (lit< tt)) in
    let fz : z ≡ after 128 (crc_run c (take 8 (drop (i + 16) s))) = ez ∙ ap (λ (l : List ℕ). after 128 (crc_run c l)) (three 2 (lit< tt)) in
    let zero : i + 0 ≡ i = omega arith in
    let next : i + 24 ≡ 24 * (k + 1) = omega arith in
    lanes_turn a b c s i ha hb hc (omega arith)
    ∙ ap (λ (u : ℕ). joined u (after 128 (eight b s (i + 8))) (after 128 (eight c s (i + 16))) s (i + 24)) (sym (fx ∙ ap (λ (u : ℕ). after 128 (eight a s u)) zero))
    ∙ ap₂ (λ (u v : ℕ). joined x u v s (i + 24)) (sym fy) (sym fz)
    ∙ ap (joined x y z s) next
  where
    chunk : (j : ℕ) → j < 3 → get_or (get_or (take (m - 1) threes) k []) j [] ≡ take 8 (drop (24 * k + 8 * j) s)
    chunk j h =
        let E : List (List ℕ) = first_chunks 8 n s in
        let at : 8 * (3 * k + j) ≡ 24 * k + 8 * j = omega arith in
        ap (λ (l : List (List ℕ)). get_or l j []) (get_or-take (m - 1) threes k [] hk ∙ ap (λ (l : List (List (List ℕ))). get_or l k []) e ∙ chunk_at 3 m k E (omega arith))
        ∙ get_or-take 3 (drop (3 * k) E) j [] h
        ∙ get_or-drop (3 * k) E j []
        ∙ chunk_at 8 n (3 * k + j) s (omega arith)
        ∙ ap (λ (u : ℕ). take 8 (drop u s)) at
