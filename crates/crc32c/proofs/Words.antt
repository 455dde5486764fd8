-- Eight bytes at a time: two numbers of four bytes go in, and the bits of a number come from those of its half bytes or its bytes.
-- Assumes nothing.
use mathlib.Core.Path.{◌≡◌, refl, sym, ap, ap₂, ◌∙◌}
use mathlib.Core.List.{List, [], ◌∷◌}
use Prim.Native.Nat.{ℕ, suc, ◌+◌, ◌*◌, ◌/◌, ◌%◌, ◌^◌, ◌≤◌, ◌<◌}
use native.Mathlib.Omega.{arith}
use lib.Bits.{bit_xor, xor_comm, xor_lt, xor_shifted}
use lib.ListN.{length, get_or, take, drop, take-append-drop}
use lib.Seq.{drop-cons, drop-drop, take_all}
use Rattle.crc_bits.specs.Crc.{crc_bits_of, crc_byte, crc_run}
use Rattle.crc_halves.specs.Tables.{after}
use Rattle.crc32c.specs.Tables.{eight, word, Bytes}
use Rattle.crc_bits.proofs.Xor.{xor_assoc, xor32-is}
use Rattle.crc_bits.proofs.Linear.{bits_lt, bits_linear, bits_shift}
use Rattle.crc_bits.proofs.Carry.{bits_add, run-split}

pub after-lt : (n c : ℕ) → c < 2 ^ 32 → after n c < 2 ^ 32
unfolding after
after-lt n c h = bits_lt n c h

pub after-add : (m n c : ℕ) → after n (after m c) ≡ after (m + n) c
unfolding after
after-add m n c = bits_add m n c

pub after_linear : (n a b : ℕ) → a < 2 ^ 32 → b < 2 ^ 32 → after n (bit_xor a b) ≡ bit_xor (after n a) (after n b)
unfolding after
after_linear n a b ha hb = bits_linear n a b ha hb

after_shift : (n h : ℕ) → h * 2 ^ n < 2 ^ 32 → after n (h * 2 ^ n) ≡ h
unfolding after
after_shift n h l = bits_shift n h l

eight_more : (n y : ℕ) → crc_bits_of 8 (after n y) ≡ after (n + 8) y
unfolding after
eight_more n y = bits_add n 8 y

none : (c : ℕ) → c ≡ after 0 c
unfolding after
none c = refl

-- a byte that is taken in after n bits could as well have been there before them, n bits up
byte-up : (n x b : ℕ) → x < 2 ^ 32 → b < 256 → b * 2 ^ n < 2 ^ 32 → crc_byte (after n x) b ≡ after (n + 8) (bit_xor x (b * 2 ^ n))
unfolding crc_byte
byte-up n x b hx hb hn =
    ap (crc_bits_of 8) (xor32-is (after n x) b (after-lt n x hx) (omega arith) ∙ ap (bit_xor (after n x)) (sym (after_shift n b hn)) ∙ sym (after_linear n x (b * 2 ^ n) hx hn))
    ∙ eight_more n (bit_xor x (b * 2 ^ n))

-- four bytes as one number
abbrev four : ℕ → ℕ → ℕ → ℕ → ℕ
four b0 b1 b2 b3 = b0 + b1 * 256 + b2 * 65536 + b3 * 16777216

four-up : (x b0 b1 b2 b3 : ℕ) → b0 < 256 → b1 < 256 → b2 < 256 → b3 < 256
    → bit_xor (bit_xor (bit_xor (bit_xor x b0) (b1 * 2 ^ 8)) (b2 * 2 ^ 16)) (b3 * 2 ^ 24) ≡ bit_xor x (four b0 b1 b2 b3)
four-up x b0 b1 b2 b3 h0 h1 h2 h3 =
    ap (λ (n : ℕ). bit_xor (bit_xor n (b2 * 2 ^ 16)) (b3 * 2 ^ 24)) (one x b0 8 b1 h0)
    ∙ ap (λ (n : ℕ). bit_xor n (b3 * 2 ^ 24)) (one x (b1 * 2 ^ 8 + b0) 16 b2 (omega arith))
    ∙ one x (b2 * 2 ^ 16 + (b1 * 2 ^ 8 + b0)) 24 b3 (omega arith)
    ∙ ap (bit_xor x) (omega arith)
  where
    one : (x l k b : ℕ) → l < 2 ^ k → bit_xor (bit_xor x l) (b * 2 ^ k) ≡ bit_xor x (b * 2 ^ k + l)
    one x l k b h = xor_assoc x l (b * 2 ^ k) ∙ ap (bit_xor x) (xor_comm l (b * 2 ^ k) ∙ xor_shifted b k l h)

four-run : (c b0 b1 b2 b3 : ℕ) → c < 2 ^ 32 → b0 < 256 → b1 < 256 → b2 < 256 → b3 < 256
    → crc_byte (crc_byte (crc_byte (crc_byte c b0) b1) b2) b3 ≡ after 32 (bit_xor c (four b0 b1 b2 b3))
four-run c b0 b1 b2 b3 hc h0 h1 h2 h3 =
    let x0 : ℕ = bit_xor c (b0 * 2 ^ 0) in
    let l0 : x0 < 2 ^ 32 = xor_lt 32 c (b0 * 2 ^ 0) hc (omega arith) in
    let x1 : ℕ = bit_xor x0 (b1 * 2 ^ 8) in
    let l1 : x1 < 2 ^ 32 = xor_lt 32 x0 (b1 * 2 ^ 8) l0 (omega arith) in
    let x2 : ℕ = bit_xor x1 (b2 * 2 ^ 16) in
    let l2 : x2 < 2 ^ 32 = xor_lt 32 x1 (b2 * 2 ^ 16) l1 (omega arith) in
    let z : b0 * 2 ^ 0 ≡ b0 = omega arith in
    ap (λ (n : ℕ). crc_byte (crc_byte (crc_byte n b1) b2) b3) (ap (λ (n : ℕ). crc_byte n b0) (none c) ∙ byte-up 0 c b0 hc h0 (omega arith))
    ∙ ap (λ (n : ℕ). crc_byte (crc_byte n b2) b3) (byte-up 8 x0 b1 l0 h1 (omega arith))
    ∙ ap (λ (n : ℕ). crc_byte n b3) (byte-up 16 x1 b2 l1 h2 (omega arith))
    ∙ byte-up 24 x2 b3 l2 h3 (omega arith)
    ∙ ap (after 32) (ap (λ (n : ℕ). bit_xor (bit_xor (bit_xor (bit_xor c n) (b1 * 2 ^ 8)) (b2 * 2 ^ 16)) (b3 * 2 ^ 24)) z ∙ four-up c b0 b1 b2 b3 h0 h1 h2 h3)

eight-run : (c b0 b1 b2 b3 b4 b5 b6 b7 : ℕ) → c < 2 ^ 32 → b0 < 256 → b1 < 256 → b2 < 256 → b3 < 256 → b4 < 256 → b5 < 256 → b6 < 256 → b7 < 256
    → crc_run c (b0 ∷ b1 ∷ b2 ∷ b3 ∷ b4 ∷ b5 ∷ b6 ∷ b7 ∷ []) ≡ bit_xor (after 64 (bit_xor c (four b0 b1 b2 b3))) (after 32 (four b4 b5 b6 b7))
unfolding crc_run
eight-run c b0 b1 b2 b3 b4 b5 b6 b7 hc h0 h1 h2 h3 h4 h5 h6 h7 =
    let x : ℕ = bit_xor c (four b0 b1 b2 b3) in
    let y : ℕ = four b4 b5 b6 b7 in
    let lx : x < 2 ^ 32 = xor_lt 32 c (four b0 b1 b2 b3) hc (omega arith) in
    ap (λ (n : ℕ). crc_byte (crc_byte (crc_byte (crc_byte n b4) b5) b6) b7) (four-run c b0 b1 b2 b3 hc h0 h1 h2 h3)
    ∙ four-run (after 32 x) b4 b5 b6 b7 (after-lt 32 x lx) h4 h5 h6 h7
    ∙ after_linear 32 (after 32 x) y (after-lt 32 x lx) (omega arith)
    ∙ ap (λ (n : ℕ). bit_xor n (after 32 y)) (after-add 32 32 x)

-- the eight bytes from i, one by one
eight-bytes : (s : List ℕ) (i : ℕ) → i + 8 ≤ length s
    → take 8 (drop i s) ≡ get_or s i 0 ∷ get_or s (i + 1) 0 ∷ get_or s (i + 2) 0 ∷ get_or s (i + 3) 0 ∷ get_or s (i + 4) 0 ∷ get_or s (i + 4 + 1) 0 ∷ get_or s (i + 4 + 2) 0 ∷ get_or s (i + 4 + 3) 0 ∷ []
eight-bytes s i h =
    next 7 i (i + 1) (omega arith) (omega arith)
    ∙ ap (λ (r : List ℕ). get_or s i 0 ∷ r) (next 6 (i + 1) (i + 2) (omega arith) (omega arith))
    ∙ ap (λ (r : List ℕ). get_or s i 0 ∷ get_or s (i + 1) 0 ∷ r) (next 5 (i + 2) (i + 3) (omega arith) (omega arith))
    ∙ ap (λ (r : List ℕ). get_or s i 0 ∷ get_or s (i + 1) 0 ∷ get_or s (i + 2) 0 ∷ r) (next 4 (i + 3) (i + 4) (omega arith) (omega arith))
    ∙ ap (λ (r : List ℕ). get_or s i 0 ∷ get_or s (i + 1) 0 ∷ get_or s (i + 2) 0 ∷ get_or s (i + 3) 0 ∷ r) (next 3 (i + 4) (i + 4 + 1) (omega arith) (omega arith))
    ∙ ap (λ (r : List ℕ). get_or s i 0 ∷ get_or s (i + 1) 0 ∷ get_or s (i + 2) 0 ∷ get_or s (i + 3) 0 ∷ get_or s (i + 4) 0 ∷ r) (next 2 (i + 4 + 1) (i + 4 + 2) (omega arith) (omega arith))
    ∙ ap (λ (r : List ℕ). get_or s i 0 ∷ get_or s (i + 1) 0 ∷ get_or s (i + 2) 0 ∷ get_or s (i + 3) 0 ∷ get_or s (i + 4) 0 ∷ get_or s (i + 4 + 1) 0 ∷ r) (next 1 (i + 4 + 2) (i + 4 + 3) (omega arith) (omega arith))
    ∙ ap (λ (r : List ℕ). get_or s i 0 ∷ get_or s (i + 1) 0 ∷ get_or s (i + 2) 0 ∷ get_or s (i + 3) 0 ∷ get_or s (i + 4) 0 ∷ get_or s (i + 4 + 1) 0 ∷ get_or s (i + 4 + 2) 0 ∷ r) (next 0 (i + 4 + 3) (i + 8) (omega arith) (omega arith))
  where
    next : (n i j : ℕ) → j ≡ suc i → suc i ≤ length s → take (suc n) (drop i s) ≡ get_or s i 0 ∷ take n (drop j s)
    next n i j e h = ap (take (suc n)) (drop-cons s i 0 h) ∙ ap (λ (k : ℕ). get_or s i 0 ∷ take n (drop k s)) (sym e)

-- the running value after eight bytes, by two numbers of four bytes
pub eight_is : (c : ℕ) (s : List ℕ) (i : ℕ) → c < 2 ^ 32 → i + 8 ≤ length s → Bytes s i → Bytes s (i + 4)
    → eight c s i ≡ bit_xor (after 64 (bit_xor c (word s i))) (after 32 (word s (i + 4)))
unfolding eight
eight_is c s i hc h p q = ap (crc_run c) (eight-bytes s i h) ∙ eight-run c _ _ _ _ _ _ _ _ hc p.0 p.1 p.2 p.3 q.0 q.1 q.2 q.3

-- the same of a list of eight bytes
pub run_eight : (c : ℕ) (s : List ℕ) → c < 2 ^ 32 → length s ≡ 8 → Bytes s 0 → Bytes s 4
    → crc_run c s ≡ bit_xor (after 64 (bit_xor c (word s 0))) (after 32 (word s 4))
unfolding eight
run_eight c s hc h p q = ap (crc_run c) (sym (take_all 8 s (omega arith))) ∙ eight_is c s 0 hc (omega arith) p q

-- a number's lowest w bits are taken off: all else is w bits ahead
pub low : (w n x : ℕ) → x < 2 ^ 32 → x / 2 ^ w * 2 ^ w + x % 2 ^ w ≡ x → x % 2 ^ w < 2 ^ w → after (w + n) x ≡ bit_xor (after n (x / 2 ^ w)) (after (w + n) (x % 2 ^ w))
low w n x h e l =
    let u : ℕ = x / 2 ^ w * 2 ^ w in
    ap (after (w + n)) (sym (xor_shifted (x / 2 ^ w) w (x % 2 ^ w) l ∙ e))
    ∙ after_linear (w + n) u (x % 2 ^ w) (omega arith) (omega arith)
    ∙ ap (λ (m : ℕ). bit_xor m (after (w + n) (x % 2 ^ w))) (sym (after-add w n u) ∙ ap (after n) (after_shift w (x / 2 ^ w) (omega arith)))

-- the bits of a number come from those of its eight half bytes
pub by_halves : (m x : ℕ) → x < 2 ^ 32 → after (m + 32) x ≡ bit_xor (bit_xor (bit_xor (bit_xor (bit_xor (bit_xor (bit_xor (after (m + 4) (x / 268435456 % 16)) (after (m + 8) (x / 16777216 % 16))) (after (m + 12) (x / 1048576 % 16))) (after (m + 16) (x / 65536 % 16))) (after (m + 20) (x / 4096 % 16))) (after (m + 24) (x / 256 % 16))) (after (m + 28) (x / 16 % 16))) (after (m + 32) (x % 16))
by_halves m x h =
    off x (x / 16) (m + 32) (m + 28) (omega arith) (omega arith) (omega arith)
    ∙ ap (λ (t : ℕ). bit_xor t (after (m + 32) (x % 16))) (off (x / 16) (x / 256) (m + 28) (m + 24) (omega arith) (omega arith) (omega arith))
    ∙ ap (λ (t : ℕ). bit_xor (bit_xor t (after (m + 28) (x / 16 % 16))) (after (m + 32) (x % 16))) (off (x / 256) (x / 4096) (m + 24) (m + 20) (omega arith) (omega arith) (omega arith))
    ∙ ap (λ (t : ℕ). bit_xor (bit_xor (bit_xor t (after (m + 24) (x / 256 % 16))) (after (m + 28) (x / 16 % 16))) (after (m + 32) (x % 16))) (off (x / 4096) (x / 65536) (m + 20) (m + 16) (omega arith) (omega arith) (omega arith))
    ∙ ap (λ (t : ℕ). bit_xor (bit_xor (bit_xor (bit_xor t (after (m + 20) (x / 4096 % 16))) (after (m + 24) (x / 256 % 16))) (after (m + 28) (x / 16 % 16))) (after (m + 32) (x % 16))) (off (x / 65536) (x / 1048576) (m + 16) (m + 12) (omega arith) (omega arith) (omega arith))
    ∙ ap (λ (t : ℕ). bit_xor (bit_xor (bit_xor (bit_xor (bit_xor t (after (m + 16) (x / 65536 % 16))) (after (m + 20) (x / 4096 % 16))) (after (m + 24) (x / 256 % 16))) (after (m + 28) (x / 16 % 16))) (after (m + 32) (x % 16))) (off (x / 1048576) (x / 16777216) (m + 12) (m + 8) (omega arith) (omega arith) (omega arith))
    ∙ ap (λ (t : ℕ). bit_xor (bit_xor (bit_xor (bit_xor (bit_xor (bit_xor t (after (m + 12) (x / 1048576 % 16))) (after (m + 16) (x / 65536 % 16))) (after (m + 20) (x / 4096 % 16))) (after (m + 24) (x / 256 % 16))) (after (m + 28) (x / 16 % 16))) (after (m + 32) (x % 16))) (off (x / 16777216) (x / 268435456) (m + 8) (m + 4) (omega arith) (omega arith) (omega arith))
    ∙ ap (λ (t : ℕ). bit_xor (bit_xor (bit_xor (bit_xor (bit_xor (bit_xor (bit_xor (after (m + 4) t) (after (m + 8) (x / 16777216 % 16))) (after (m + 12) (x / 1048576 % 16))) (after (m + 16) (x / 65536 % 16))) (after (m + 20) (x / 4096 % 16))) (after (m + 24) (x / 256 % 16))) (after (m + 28) (x / 16 % 16))) (after (m + 32) (x % 16))) top
  where
    top : x / 268435456 ≡ x / 268435456 % 16
    top = omega arith

    off : (y z k n : ℕ) → y < 2 ^ 32 → y / 16 ≡ z → k ≡ 4 + n → after k y ≡ bit_xor (after n z) (after k (y % 16))
    off y z k n l e f =
        ap (λ (t : ℕ). after t y) f
        ∙ low 4 n y l (omega arith) (omega arith)
        ∙ ap₂ (λ (t u : ℕ). bit_xor (after n t) (after u (y % 16))) e (sym f)

-- the bits of a number come from those of its four bytes
pub by_bytes : (m x : ℕ) → x < 2 ^ 32 → after (m + 32) x ≡ bit_xor (bit_xor (bit_xor (after (m + 8) (x / 16777216 % 256)) (after (m + 16) (x / 65536 % 256))) (after (m + 24) (x / 256 % 256))) (after (m + 32) (x % 256))
by_bytes m x h =
    off x (x / 256) (m + 32) (m + 24) (omega arith) (omega arith) (omega arith)
    ∙ ap (λ (t : ℕ). bit_xor t (after (m + 32) (x % 256))) (off (x / 256) (x / 65536) (m + 24) (m + 16) (omega arith) (omega arith) (omega arith))
    ∙ ap (λ (t : ℕ). bit_xor (bit_xor t (after (m + 24) (x / 256 % 256))) (after (m + 32) (x % 256))) (off (x / 65536) (x / 16777216) (m + 16) (m + 8) (omega arith) (omega arith) (omega arith))
    ∙ ap (λ (t : ℕ). bit_xor (bit_xor (bit_xor (after (m + 8) t) (after (m + 16) (x / 65536 % 256))) (after (m + 24) (x / 256 % 256))) (after (m + 32) (x % 256))) top
  where
    top : x / 16777216 ≡ x / 16777216 % 256
    top = omega arith

    off : (y z k n : ℕ) → y < 2 ^ 32 → y / 256 ≡ z → k ≡ 8 + n → after k y ≡ bit_xor (after n z) (after k (y % 256))
    off y z k n l e f =
        ap (λ (t : ℕ). after t y) f
        ∙ low 8 n y l (omega arith) (omega arith)
        ∙ ap₂ (λ (t u : ℕ). bit_xor (after n t) (after u (y % 256))) e (sym f)

-- a byte taken in, by its half bytes
pub byte_halves : (c b : ℕ) → c < 2 ^ 32 → b < 256
    → crc_byte c b ≡ bit_xor (bit_xor (bit_xor c b / 256) (after 4 (bit_xor c b / 16 % 16))) (after 8 (bit_xor c b % 16))
unfolding crc_byte
byte_halves c b hc hb =
    let x : ℕ = bit_xor c b in
    let l : x < 2 ^ 32 = xor_lt 32 c b hc (omega arith) in
    let e : x / 16 / 16 ≡ x / 256 = omega arith in
    ap (crc_bits_of 8) (xor32-is c b hc (omega arith) ∙ none x)
    ∙ eight_more 0 x
    ∙ low 4 4 x l (omega arith) (omega arith)
    ∙ ap (λ (t : ℕ). bit_xor t (after 8 (x % 16)))
    (low 4 0 (x / 16) (omega arith) (omega arith) (omega arith) ∙ ap (λ (t : ℕ). bit_xor t (after 4 (x / 16 % 16))) (sym (none (x / 16 / 16)) ∙ e))

-- eight bytes taken off what is left
pub eight_off : (c i : ℕ) (s : List ℕ) → crc_run c (drop i s) ≡ crc_run (eight c s i) (drop (i + 8) s)
unfolding eight
eight_off c i s =
    ap (crc_run c) (sym (take-append-drop 8 (drop i s)))
    ∙ run-split c (take 8 (drop i s)) (drop 8 (drop i s))
    ∙ ap (crc_run (crc_run c (take 8 (drop i s)))) (drop-drop 8 i s)
