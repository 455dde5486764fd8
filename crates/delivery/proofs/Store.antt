-- A domain's bytes in the store: taken out where they were put, put twice, and put with some of them exchanged.
use Prim.Native.Nat.{ℕ, ◌-◌, ◌+◌, ◌≤◌}
use mathlib.Core.Path.{◌≡◌, sym, ap, ap₂, ◌∙◌}
use mathlib.Core.List.{List, ◌++◌, append_assoc}
use native.Mathlib.Omega.{arith}
use lib.ListN.{length, take, take-append-drop}
use lib.ListN.{drop as drop_n}
use lib.Seq.{take_at, drop_at, length-take-le, drop-append-le, drop-drop, take-take, take-add}
use borrow.Rule.Slice.PartMut.{mid_of, put_mid, post_of, Post-is, mid_len}
use borrow.Rule.Slice.PartMut.{take_put as take-mid, drop_put as drop-mid}
use Rattle.wire.specs.Wire.{put}

module _ (s e : ℕ) (mem : List ℕ) (ordered : s ≤ e) (within : e ≤ length mem) where
  module _ (ys : List ℕ) (l : length ys ≡ e - s) where
    pub mid_self : mid_of s (e - s) (put_mid s (e - s) mem ys) ≡ ys
    mid_self =
        ap (λ (z : List ℕ). take (e - s) z) (drop_at (take s mem) (ys ++ post_of s (e - s) mem) s (length-take-le s mem (omega arith)))
        ∙ take_at ys (post_of s (e - s) mem) (e - s) l

    pub put-again : (zs : List ℕ) → put_mid s (e - s) (put_mid s (e - s) mem ys) zs ≡ put_mid s (e - s) mem zs
    put-again zs =
        ap₂ (λ (x y : List ℕ). x ++ (zs ++ y)) (take-mid s (e - s) mem ys (omega arith))
        (Post-is s e (put_mid s (e - s) mem ys) ordered ∙ drop-mid s e mem ys ordered within l ∙ sym (Post-is s e mem ordered))

  -- what is put in the domain's bytes is put in the store
  module _ (at : ℕ) (xs : List ℕ) (low : s ≤ at) (high : at + length xs ≤ e) where
    front : take s mem ++ take (at - s) (mid_of s (e - s) mem) ≡ take at mem
    front =
        let sum : s + (at - s) ≡ at = omega arith in
        ap (λ (z : List ℕ). take s mem ++ z) (take-take (at - s) (e - s) (drop_n s mem) (omega arith))
        ∙ sym (take-add s (at - s) mem)
        ∙ ap (λ (n : ℕ). take n mem) sum

    back : drop_n (at - s + length xs) (mid_of s (e - s) mem) ++ post_of s (e - s) mem ≡ drop_n (at + length xs) mem
    back =
        let sum : s + (at - s + length xs) ≡ at + length xs = omega arith in
        let short : at - s + length xs ≤ length (mid_of s (e - s) mem) = omega (arith, mid_len s e mem within) in
        sym (drop-append-le (at - s + length xs) (mid_of s (e - s) mem) (post_of s (e - s) mem) short)
        ∙ ap (λ (z : List ℕ). drop_n (at - s + length xs) z) (take-append-drop (e - s) (drop_n s mem))
        ∙ drop-drop (at - s + length xs) s mem
        ∙ ap (λ (n : ℕ). drop_n n mem) sum

    pub put_in_store : put_mid s (e - s) mem (put (mid_of s (e - s) mem) (at - s) xs) ≡ put mem at xs
    put_in_store =
        let mid : List ℕ = mid_of s (e - s) mem in
        ap (λ (z : List ℕ). take s mem ++ z)
        (append_assoc (take (at - s) mid) (xs ++ drop_n (at - s + length xs) mid) (post_of s (e - s) mem)
        ∙ ap (λ (z : List ℕ). take (at - s) mid ++ z) (append_assoc xs (drop_n (at - s + length xs) mid) (post_of s (e - s) mem)))
        ∙ sym (append_assoc (take s mem) (take (at - s) mid) (xs ++ (drop_n (at - s + length xs) mid ++ post_of s (e - s) mem)))
        ∙ ap₂ (λ (x y : List ℕ). x ++ (xs ++ y)) front back
