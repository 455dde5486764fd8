-- What the writers' stores, each where the one before ends, make together.
-- Assumes nothing.
use Prim.Native.Nat.{ℕ, ◌+◌, ◌≤◌, zero-le}
use mathlib.Core.Bool.{Bool, true, false}
use mathlib.Core.List.{List, [], ◌∷◌, ◌++◌}
use mathlib.Core.Path.{◌≡◌, ap, ap₂, ◌∙◌}
use native.Mathlib.Omega.{arith}
use lib.ListN.{length, set}
use Rattle.wire.specs.Wire.{put, be16}
use Rattle.wire.proofs.Laws.{put-put, set_2, length-put}
use Rattle.mpa.specs.Startup.{key_of}
use Rattle.startup2.specs.declared.Terms.{Terms}
use Rattle.startup2.specs.Terms.{first_half, second_half, terms_of}
use Rattle.startup2.specs.Frame.{flags2_of, head_of, startup2_of}

-- key, flags and revision, length
pub head_put : (reply : Bool) (f n : ℕ) (l : List ℕ) → 20 ≤ length l → put (set (set (put l 0 (key_of reply)) 16 f) 17 2) 18 (be16 n) ≡ put l 0 (head_of reply f n)
head_put reply f n l h =
    let long : length (put l 0 (key_of reply)) ≡ length l = length-put l 0 (key_of reply) (omega arith) in
    ap (λ (z : List ℕ). put z 18 (be16 n)) (set_2 (put l 0 (key_of reply)) 16 f 2 (omega arith) ∙ put-put l 0 (key_of reply) (f ∷ 2 ∷ []) zero-le)
    ∙ put-put l 0 (key_of reply ++ (f ∷ 2 ∷ [])) (be16 n) zero-le

-- the two halves of the terms
pub terms_put : (t : Terms) (l : List ℕ) (at : ℕ) → at ≤ length l → put (put l at (be16 (first_half t))) (at + 2) (be16 (second_half t)) ≡ put l at (terms_of t)
unfolding terms_of
terms_put t l at h = put-put l at (be16 (first_half t)) (be16 (second_half t)) h

-- head and private data
pub second_put : (reply c r : Bool) (f : ℕ) (l priv : List ℕ) → f ≡ flags2_of c r false → put (put l 0 (head_of reply f (length priv))) 20 priv ≡ put l 0 (startup2_of reply c r false priv)
unfolding startup2_of
second_put reply c r f l priv e =
    ap (λ (x : ℕ). put (put l 0 (head_of reply x (length priv))) 20 priv) e ∙ put-put l 0 (head_of reply (flags2_of c r false) (length priv)) priv zero-le

-- head, terms and private data
pub enhanced_put : (reply c r : Bool) (f : ℕ) (t : Terms) (l priv : List ℕ) → f ≡ flags2_of c r true →
    put (put (put l 0 (head_of reply f (4 + length priv))) 20 (terms_of t)) 24 priv ≡ put l 0 (startup2_of reply c r true (terms_of t ++ priv))
unfolding startup2_of terms_of
enhanced_put reply c r f t l priv e =
    let n : ℕ = length (terms_of t ++ priv) in
    let size : 4 + length priv ≡ n = omega arith in
    ap₂ (λ (x m : ℕ). put (put (put l 0 (head_of reply x m)) 20 (terms_of t)) 24 priv) e size
    ∙ ap (λ (z : List ℕ). put z 24 priv) (put-put l 0 (head_of reply (flags2_of c r true) n) (terms_of t) zero-le)
    ∙ put-put l 0 (head_of reply (flags2_of c r true) n ++ terms_of t) priv zero-le
