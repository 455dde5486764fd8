-- A part of a list exchanged: the part is what was put, and a part that lies before or after it stays. Of the second slice a room is such
-- a part.
use Prim.Native.Nat.{ℕ, ◌-◌, ◌+◌, ◌*◌, ◌≤◌, ◌<◌}
use mathlib.Core.Logic.{◌≢◌}
use mathlib.Core.Path.{◌≡◌, sym, ap, subst, ◌∙◌}
use mathlib.Core.List.{List, ◌++◌}
use native.Mathlib.Omega.{arith}
use native.Mathlib.Decide.{dec_lt}
use lib.ListN.{length, take, length-drop, take-append-drop}
use lib.ListN.{drop as drop_n}
use lib.Seq.{take_at, drop_at, length-take-le, take-append-le, drop-append-le, drop-drop}
use borrow.Rule.Slice.PartMut.{mid_of, put_mid, post_of, same_len_mid, mid_len, drop_put}
use Rattle.holding.specs.Pending.{room_bytes}
use Rattle.rnic.specs.Offer.{rooms_bytes, room_of, with_room}

front : (s t : ℕ) (p q : List ℕ) → s ≤ t → t ≤ length p → mid_of s (t - s) (p ++ q) ≡ mid_of s (t - s) p
front s t p q h k =
    let h₁ : s ≤ length p = omega arith in
    let h₂ : t - s ≤ length (drop_n s p) = simp length-drop (omega arith) in
    ap (λ (z : List ℕ). take (t - s) z) (drop-append-le s p q h₁) ∙ take-append-le (t - s) (drop_n s p) q h₂

pub mid_self : (a e : ℕ) (xs ys : List ℕ) → a ≤ e → e ≤ length xs → length ys ≡ e - a → mid_of a (e - a) (put_mid a (e - a) xs ys) ≡ ys
mid_self a e xs ys h k l =
    ap (λ (z : List ℕ). take (e - a) z) (drop_at (take a xs) (ys ++ post_of a (e - a) xs) a (length-take-le a xs (omega arith)))
    ∙ take_at ys (post_of a (e - a) xs) (e - a) l

pub mid_before : (s t a k : ℕ) (xs ys : List ℕ) → s ≤ t → t ≤ a → a ≤ length xs → mid_of s (t - s) (put_mid a k xs ys) ≡ mid_of s (t - s) xs
mid_before s t a k xs ys h₁ h₂ h₃ =
    let l : length (take a xs) ≡ a = length-take-le a xs h₃ in
    front s t (take a xs) (ys ++ post_of a k xs) h₁ (omega arith)
    ∙ sym (front s t (take a xs) (drop_n a xs) h₁ (omega arith))
    ∙ ap (λ (z : List ℕ). mid_of s (t - s) z) (take-append-drop a xs)

pub mid_after : (s k a e : ℕ) (xs ys : List ℕ) → a ≤ e → e ≤ s → e ≤ length xs → length ys ≡ e - a → mid_of s k (put_mid a (e - a) xs ys) ≡ mid_of s k xs
mid_after s k a e xs ys h₁ h₂ h₃ l =
    let sum : s ≡ e + (s - e) = omega arith in
    let far : (z : List ℕ) → drop_n s z ≡ drop_n (s - e) (drop_n e z) = λ z. ap (λ (n : ℕ). drop_n n z) sum ∙ sym (drop-drop (s - e) e z) in
    ap (λ (z : List ℕ). take k z) (far (put_mid a (e - a) xs ys) ∙ ap (λ (z : List ℕ). drop_n (s - e) z) (drop_put a e xs ys h₁ h₃ l) ∙ sym (far xs))

-- ---- the rooms

-- a part given by its end, and by its length
by_length : (P : ℕ → Type 0) (a k : ℕ) → P (a + k - a) → P k
by_length P a k p = subst P (let e : a + k - a ≡ k = omega arith in e) p

module _ (rooms : List ℕ) (long : length rooms ≡ rooms_bytes) (n : ℕ) (h : n < 16) where
  pub room-long : length (room_of rooms n) ≡ room_bytes
  room-long = by_length (λ k. length (mid_of (n * room_bytes) k rooms) ≡ k) (n * room_bytes) room_bytes (mid_len (n * room_bytes) (n * room_bytes + room_bytes) rooms (omega (arith, long, h)))

  module _ (room : List ℕ) (size : length room ≡ room_bytes) where
    pub rooms-long : length (with_room rooms n room) ≡ length rooms
    rooms-long = same_len_mid (n * room_bytes) room_bytes rooms room (size ∙ sym room-long)

    pub room-same : room_of (with_room rooms n room) n ≡ room
    room-same =
        by_length (λ k. length room ≡ k → mid_of (n * room_bytes) k (put_mid (n * room_bytes) k rooms room) ≡ room) (n * room_bytes) room_bytes
        (mid_self (n * room_bytes) (n * room_bytes + room_bytes) rooms room (omega arith) (omega (arith, long, h))) size

    pub room_other : (j : ℕ) → j ≢ n → room_of (with_room rooms n room) j ≡ room_of rooms j
    room_other j ne = go (dec_lt j n)
      where
        go : Dec (j < n) → room_of (with_room rooms n room) j ≡ room_of rooms j
        go (yes l) =
            by_length (λ k. mid_of (j * room_bytes) k (with_room rooms n room) ≡ mid_of (j * room_bytes) k rooms) (j * room_bytes) room_bytes
            (mid_before (j * room_bytes) (j * room_bytes + room_bytes) (n * room_bytes) room_bytes rooms room (omega arith) (omega (arith, l)) (omega (arith, long, h)))
        go (no l) =
            by_length (λ k. length room ≡ k → mid_of (j * room_bytes) room_bytes (put_mid (n * room_bytes) k rooms room) ≡ room_of rooms j) (n * room_bytes) room_bytes
            (mid_after (j * room_bytes) room_bytes (n * room_bytes) (n * room_bytes + room_bytes) rooms room (omega arith) (omega (arith, l, ne)) (omega (arith, long, h))) size
