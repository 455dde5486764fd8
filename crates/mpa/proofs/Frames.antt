-- What the writers' stores, each where the one before ends, make together: one `put` of the whole frame at the start of the slice.
use Prim.Native.Nat.{ℕ, ◌+◌, ◌≤◌, zero-le}
use mathlib.Core.Bool.{Bool}
use mathlib.Core.List.{List, [], ◌∷◌, ◌++◌, append_assoc}
use mathlib.Core.Path.{◌≡◌, sym, ap, ◌∙◌}
use native.Mathlib.Nat.{zero-add}
use native.Mathlib.Omega.{arith}
use lib.ListN.{length, take, set, replicate, length-append, length-replicate}
use Rattle.wire.specs.Wire.{put, be16, le32}
use Rattle.wire.proofs.Laws.{put-put, put-start, take_put, set_2, length-put}
use Rattle.crc32c.specs.Crc.{crc_of}
use Rattle.mpa.specs.Fpdu.{pad_of, covered_of, total_of, covered, fpdu_of, out_after}
use Rattle.mpa.specs.Startup.{key_of, flags_of, startup_of}
use Rattle.std.specs.Prelude.{Ok, Result}
use Rattle.wire.specs.declared.refusal.LocalRefusal.{LocalRefusal}

pub length-covered : (u : List ℕ) → length (covered u) ≡ covered_of (length u)
unfolding covered
length-covered u = simp (length-append, length-replicate) (omega arith)

pub length_fpdu : (u : List ℕ) → length (fpdu_of u) ≡ total_of (length u)
unfolding fpdu_of
length_fpdu u = length-append (covered u) _ ∙ ap (λ (n : ℕ). n + 4) (length-covered u)

pub length_startup : (reply c r : Bool) (priv : List ℕ) → length (startup_of reply c r priv) ≡ 20 + length priv
unfolding startup_of
length_startup reply c r priv = omega arith

-- length, ULPDU and pad
pub covered-put : (l u : List ℕ) → put (put (put l 0 (be16 (length u))) 2 u) (2 + length u) (replicate (pad_of (length u)) 0) ≡ put l 0 (covered u)
unfolding covered
covered-put l u =
    let n : ℕ = length u in
    let zeros : List ℕ = replicate (pad_of n) 0 in
    let place : 2 + n ≡ 0 + length (be16 n ++ u) = omega arith in
    ap (λ (z : List ℕ). put z (2 + n) zeros) (put-put l 0 (be16 n) u zero-le)
    ∙ ap (λ (k : ℕ). put (put l 0 (be16 n ++ u)) k zeros) place
    ∙ put-put l 0 (be16 n ++ u) zeros zero-le
    ∙ ap (λ (z : List ℕ). put l 0 z) (append_assoc (be16 n) u zeros)

-- the CRC after what it is over
pub fpdu_put : (l u : List ℕ) (k : ℕ) → k ≡ covered_of (length u) → put (put l 0 (covered u)) k (le32 (crc_of (take k (put l 0 (covered u))))) ≡ put l 0 (fpdu_of u)
unfolding fpdu_of
fpdu_put l u k e =
    let place : k ≡ 0 + length (covered u) = e ∙ sym (length-covered u) ∙ sym (zero-add (length (covered u))) in
    let w : List ℕ = put l 0 (covered u) in
    ap (λ (m : ℕ). put w m (le32 (crc_of (take m w)))) place
    ∙ ap (λ (z : List ℕ). put w (0 + length (covered u)) (le32 (crc_of z))) (take_put l 0 (covered u) zero-le)
    ∙ put-put l 0 (covered u) (le32 (crc_of (covered u))) zero-le

-- key, flags and revision, private data length, private data
pub startup_put : (reply c r : Bool) (l priv : List ℕ) → 20 ≤ length l →
    put (put (set (set (put l 0 (key_of reply)) 16 (flags_of c r)) 17 1) 18 (be16 (length priv))) 20 priv ≡ put l 0 (startup_of reply c r priv)
unfolding startup_of
startup_put reply c r l priv h =
    let head : List ℕ = key_of reply ++ (flags_of c r ∷ 1 ∷ []) in
    let long : length (put l 0 (key_of reply)) ≡ length l = length-put l 0 (key_of reply) (omega arith) in
    ap (λ (z : List ℕ). put (put z 18 (be16 (length priv))) 20 priv) (set_2 (put l 0 (key_of reply)) 16 (flags_of c r) 1 (omega arith) ∙ put-put l 0 (key_of reply) (flags_of c r ∷ 1 ∷ []) zero-le)
    ∙ ap (λ (z : List ℕ). put z 20 priv) (put-put l 0 head (be16 (length priv)) zero-le)
    ∙ put-put l 0 (head ++ be16 (length priv)) priv zero-le

-- a frame's length, and with it the slice, at whose start the frame was put
pub written : (n : ℕ) (v : Result ℕ LocalRefusal) (out frame last : List ℕ) → last ≡ put out 0 frame → Ok n ≡ v → (Ok n ≡ v) × (last ≡ out_after v out frame)
written n v out frame last h e = (e, h ∙ put-start out frame ∙ ap (λ (w : Result ℕ LocalRefusal). out_after w out frame) e)
