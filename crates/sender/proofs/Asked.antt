-- Asking for one segment after the other: what is written are the segments of the list, in its order, and then there is none for ever. That more is written than there is never happens.
use Rattle.std.proofs.Common.{◌≡◌, ℕ, zero, suc, ◌<◌, ◌≤◌, Bool, true, false, eqb, leb, List, [], ◌∷◌, ◌++◌, length, take, drop, sym, refl, ap, ◌∙◌, ap₂, arith, take_at, eq-eqb, ne_eqb, le-leb}
use borrow.Author.Tests.{lt-leb}
use Rattle.wire.specs.Wire.{both, put}
use Rattle.wire.proofs.Laws.{put-start}
use Rattle.sender.specs.Message.{room_of, left_of, is_last, segment_bytes, segment_size, advanced, lent_as, next_answer, message_after, next_of, next_out, segments_of}
use Rattle.sender.specs.declared.Message.{Message}
use Rattle.sender.proofs.Cuts.{Enough, none-enough, enough-bytes}
use Rattle.sender.proofs.Writes.{refuses, ends, writes, answer_wrote}
use Rattle.sender.proofs.Began.{Began, room-some}
use Rattle.sender.proofs.Segments.{Lent, lent_began, advanced-done, advanced-len, advanced_limit, advanced-inside, advanced_lent, advanced-enough, segment_long, size_most, segments_done, segments_more}
use Rattle.std.specs.Prelude.{Err, None, Ok, Option, Result, Some}
use Rattle.wire.specs.declared.refusal.LocalRefusal.{LocalRefusal}
use Rattle.wire.specs.declared.refusal.LocalRefusal.TheVariants.{NoRoom, OutOfRange}

-- ---- one call

-- the next segment, where there is room for it
pub next_wrote :
    (m : Message) (bytes out : List ℕ) → Lent m bytes → m.done ≡ false → segment_size m ≤ length out →
    (◌≡◌ {A = (Result (Option ℕ) LocalRefusal × Message)} (Ok (Some (segment_size m)), advanced m) (next_of m (length bytes) (length out)))
    × (put out 0 (segment_bytes m bytes) ≡ next_out m bytes out)
next_wrote m bytes out l d h =
    writes m (advanced m) bytes out (put out 0 (segment_bytes m bytes)) (segment_size m) refl refl
    (answer_wrote m (length bytes) (length out) (segment_size m) l.0 l.1 d refl h)

-- 13 where there is not: the slice keeps its bytes, and the segment stays next
pub next_short :
    (m : Message) (bytes out : List ℕ) → Lent m bytes → m.done ≡ false → length out < segment_size m →
    (◌≡◌ {A = (Result (Option ℕ) LocalRefusal × Message)} (Err NoRoom, m) (next_of m (length bytes) (length out))) × (out ≡ next_out m bytes out)
unfolding next_answer
next_short m bytes out l d h = refuses m bytes out NoRoom (simp (eq-eqb _ _ l.0, le-leb _ _ l.1, d, lt-leb _ _ h))

-- none after the last
pub next-done :
    (m : Message) (bytes out : List ℕ) → Lent m bytes → m.done ≡ true →
    (◌≡◌ {A = (Result (Option ℕ) LocalRefusal × Message)} (Ok None, m) (next_of m (length bytes) (length out))) × (out ≡ next_out m bytes out)
unfolding next_answer
next-done m bytes out l d = ends m bytes out (simp (eq-eqb _ _ l.0, le-leb _ _ l.1, d))

-- 1 where the message lent is not as long as the one begun
pub next_other :
    (m : Message) (bytes out : List ℕ) → (length bytes ≡ m.len → ⊥) →
    (◌≡◌ {A = (Result (Option ℕ) LocalRefusal × Message)} (Err OutOfRange, m) (next_of m (length bytes) (length out))) × (out ≡ next_out m bytes out)
unfolding next_answer
next_other m bytes out h = refuses m bytes out OutOfRange (simp (ne_eqb _ _ h))

-- ---- any calls: lent messages and slices of any lengths

-- the message that n calls leave
abbrev pub later : ℕ → Message → (ℕ → ℕ) → (ℕ → ℕ) → Message
later zero m lent rooms = m
later (suc n) m lent rooms = later n (next_of m (lent 0) (rooms 0)).1 (λ i. lent (suc i)) (λ i. rooms (suc i))

-- no more is written than there is: one call, and so any number of them
after-inside : (m : Message) (a : Result (Option ℕ) LocalRefusal) → m.at ≤ m.len → (message_after m a).at ≤ (message_after m a).len
after-inside m (Ok (Some n)) h = advanced-inside m h
after-inside m (Ok None) h = h
after-inside m (Err n) h = h

pub next-inside : (m : Message) (size room : ℕ) → m.at ≤ m.len → (next_of m size room).1.at ≤ (next_of m size room).1.len
unfolding next_of
next-inside m size room h = after-inside m (next_answer m size room) h

pub later-inside : (n : ℕ) (m : Message) (lent rooms : ℕ → ℕ) → m.at ≤ m.len → (later n m lent rooms).at ≤ (later n m lent rooms).len
later-inside zero m lent rooms h = h
later-inside (suc n) m lent rooms h =
    later-inside n (next_of m (lent 0) (rooms 0)).1 (λ i. lent (suc i)) (λ i. rooms (suc i)) (next-inside m (lent 0) (rooms 0) h)

-- and it is as long as it was
after-len : (m : Message) (a : Result (Option ℕ) LocalRefusal) → (message_after m a).len ≡ m.len
after-len m (Ok (Some n)) = advanced-len m
after-len m (Ok None) = refl
after-len m (Err n) = refl

pub later-len : (n : ℕ) (m : Message) (lent rooms : ℕ → ℕ) → (later n m lent rooms).len ≡ m.len
unfolding next_of
later-len zero m lent rooms = refl
later-len (suc n) m lent rooms =
    later-len n (next_of m (lent 0) (rooms 0)).1 (λ i. lent (suc i)) (λ i. rooms (suc i))
    ∙ after-len m (next_answer m (lent 0) (rooms 0))

-- so a message that was begun is refused with 1 for another length alone
pub began_lent : (n : ℕ) (m : Message) (lent rooms : ℕ → ℕ) (size : ℕ) → Began m → lent_as (later n m lent rooms) size ≡ eqb size m.len
began_lent n m lent rooms size b =
    let h : (later n m lent rooms).at ≤ (later n m lent rooms).len = later-inside n m lent rooms (omega (arith, b.2)) in
    by (eqb size (later n m lent rooms).len) (leb (later n m lent rooms).at (later n m lent rooms).len) (le-leb _ _ h)
    ∙ ap (λ (k : ℕ). eqb size k) (later-len n m lent rooms)
  where
    by : (t u : Bool) → u ≡ true → both t u ≡ t
    by true u e = e
    by false u e = refl

-- ---- the calls that write it: the message's bytes, and slices of at least the limit

-- what a call's answer says is written
abbrev pub told : Result (Option ℕ) LocalRefusal → List ℕ → List (List ℕ)
told (Ok (Some n)) out = take n out ∷ []
told (Ok None) out = []
told (Err k) out = []

-- what n calls write, the i-th lent the i-th slice
abbrev pub asked : ℕ → Message → List ℕ → (ℕ → List ℕ) → List (List ℕ)
asked zero m bytes outs = []
asked (suc n) m bytes outs =
    told (next_of m (length bytes) (length (outs 0))).0 (next_out m bytes (outs 0))
    ++ asked n (next_of m (length bytes) (length (outs 0))).1 bytes (λ i. outs (suc i))

-- the message that they leave
abbrev pub left : ℕ → Message → List ℕ → (ℕ → List ℕ) → Message
left n m bytes outs = later n m (λ i. length bytes) (λ i. length (outs i))

abbrev pub Wide : Message → (ℕ → List ℕ) → Type 0
Wide m outs = (i : ℕ) → m.limit ≤ length (outs i)

-- a segment is at the start of the slice that it was put in
pub put-told : (m : Message) (bytes out : List ℕ) → Lent m bytes → take (segment_size m) (put out 0 (segment_bytes m bytes)) ≡ segment_bytes m bytes
put-told m bytes out l =
    ap (take (segment_size m)) (put-start out (segment_bytes m bytes))
    ∙ take_at (segment_bytes m bytes) (drop (length (segment_bytes m bytes)) out) (segment_size m) (segment_long m bytes l)

-- n calls write the segments of the list
pub asked_segments :
    (n : ℕ) (m : Message) (bytes : List ℕ) (outs : ℕ → List ℕ) → Lent m bytes → 19 ≤ m.limit → Wide m outs →
    asked n m bytes outs ≡ segments_of n m bytes
unfolding segments_of
asked_segments zero m bytes outs l r w = refl
asked_segments (suc n) m bytes outs l r w =
    go (asked_segments n m bytes (λ i. outs (suc i)) l r (λ i. w (suc i))) (λ a b c. asked_segments n (advanced m) bytes (λ i. outs (suc i)) a b c) m.done refl
  where
    go :
        asked n m bytes (λ i. outs (suc i)) ≡ segments_of n m bytes →
        (Lent (advanced m) bytes → 19 ≤ (advanced m).limit → Wide (advanced m) (λ i. outs (suc i)) → asked n (advanced m) bytes (λ i. outs (suc i)) ≡ segments_of n (advanced m) bytes) →
        (t : Bool) → m.done ≡ t → asked (suc n) m bytes outs ≡ segments_of (suc n) m bytes
    go stays more true d =
        ap (λ (x : Result (Option ℕ) LocalRefusal × Message). told x.0 (next_out m bytes (outs 0)) ++ asked n x.1 bytes (λ i. outs (suc i))) (sym (next-done m bytes (outs 0) l d).0)
        ∙ stays
        ∙ segments_done n m bytes d
        ∙ sym (segments_done (suc n) m bytes d)
    go stays more false d =
        let one = next_wrote m bytes (outs 0) l d (omega (arith, size_most m r, w 0)) in
        let rest : asked n (advanced m) bytes (λ i. outs (suc i)) ≡ segments_of n (advanced m) bytes =
        more (advanced_lent m bytes l) (omega (arith, advanced_limit m, r)) (λ i. omega (arith, advanced_limit m, w (suc i)))
        in
        ap₂ (λ (x : Result (Option ℕ) LocalRefusal × Message) (o : List ℕ). told x.0 o ++ asked n x.1 bytes (λ i. outs (suc i))) (sym one.0) (sym one.1)
        ∙ ap₂ (λ (s : List ℕ) (r : List (List ℕ)). s ∷ r) (put-told m bytes (outs 0) l) rest
        ∙ sym (segments_more n m bytes d)

-- once the last is written there is none for ever
pub done_stays : (n : ℕ) (m : Message) (bytes : List ℕ) (outs : ℕ → List ℕ) → Lent m bytes → m.done ≡ true → left n m bytes outs ≡ m
done_stays zero m bytes outs l d = refl
done_stays (suc n) m bytes outs l d =
    ap (λ (x : Result (Option ℕ) LocalRefusal × Message). left n x.1 bytes (λ i. outs (suc i))) (sym (next-done m bytes (outs 0) l d).0)
    ∙ done_stays n m bytes (λ i. outs (suc i)) l d

-- and enough calls write it
pub calls_end :
    (n : ℕ) (m : Message) (bytes : List ℕ) (outs : ℕ → List ℕ) → Lent m bytes → 19 ≤ m.limit → Wide m outs → m.done ≡ false → Enough n (room_of m) (left_of m) →
    (left n m bytes outs).done ≡ true
calls_end zero m bytes outs l r w d h = absurd (none-enough (room_of m) (left_of m) h)
calls_end (suc n) m bytes outs l r w d h =
    go (λ a b c e k. calls_end n (advanced m) bytes (λ i. outs (suc i)) a b c e k) (is_last m) refl
  where
    first : left (suc n) m bytes outs ≡ left n (advanced m) bytes (λ i. outs (suc i))
    first = ap (λ (x : Result (Option ℕ) LocalRefusal × Message). left n x.1 bytes (λ i. outs (suc i))) (sym (next_wrote m bytes (outs 0) l d (omega (arith, size_most m r, w 0))).0)

    go :
        (Lent (advanced m) bytes → 19 ≤ (advanced m).limit → Wide (advanced m) (λ i. outs (suc i)) → (advanced m).done ≡ false → Enough n (room_of (advanced m)) (left_of (advanced m)) →
        (left n (advanced m) bytes (λ i. outs (suc i))).done ≡ true) →
        (t : Bool) → is_last m ≡ t → (left (suc n) m bytes outs).done ≡ true
    go more true e =
        ap (λ (x : Message). x.done) (first ∙ done_stays n (advanced m) bytes (λ i. outs (suc i)) (advanced_lent m bytes l) (advanced-done m ∙ e))
        ∙ advanced-done m
        ∙ e
    go more false e =
        ap (λ (x : Message). x.done) first
        ∙ more (advanced_lent m bytes l) (omega (arith, advanced_limit m, r)) (λ i. omega (arith, advanced_limit m, w (suc i))) (advanced-done m ∙ e) (advanced-enough n m e h)

-- ---- of a message that was begun

-- any number of calls writes so many of its segments
pub began_asked :
    (n : ℕ) (m : Message) (bytes : List ℕ) (outs : ℕ → List ℕ) → Began m → length bytes ≡ m.len → Wide m outs →
    asked n m bytes outs ≡ segments_of n m bytes
began_asked n m bytes outs b e w = asked_segments n m bytes outs (lent_began m bytes b e) b.0 w

-- the message's bytes are still those that are to be lent
pub left_lent : (n : ℕ) (m : Message) (bytes : List ℕ) (outs : ℕ → List ℕ) → Lent m bytes → Lent (left n m bytes outs) bytes
unfolding next_of
left_lent zero m bytes outs l = l
left_lent (suc n) m bytes outs l = left_lent n (next_of m (length bytes) (length (outs 0))).1 bytes (λ i. outs (suc i)) (one (next_answer m (length bytes) (length (outs 0))))
  where
    one : (a : Result (Option ℕ) LocalRefusal) → Lent (message_after m a) bytes
    one (Ok (Some k)) = advanced_lent m bytes l
    one (Ok None) = l
    one (Err k) = l

-- more calls than it has bytes write all of them, and after them every call says that there is none and leaves its slice alone
pub began_done :
    (n : ℕ) (m : Message) (bytes : List ℕ) (outs : ℕ → List ℕ) (out : List ℕ) → Began m → length bytes ≡ m.len → Wide m outs → m.len < n →
    (◌≡◌ {A = (Result (Option ℕ) LocalRefusal × Message)} (Ok None, left n m bytes outs) (next_of (left n m bytes outs) (length bytes) (length out)))
    × (out ≡ next_out (left n m bytes outs) bytes out)
began_done n m bytes outs out b e w h =
    let l : Lent m bytes = lent_began m bytes b e in
    let k : Enough n (room_of m) (left_of m) = enough-bytes n (room_of m) (left_of m) (room-some m b.0) (omega (arith, h)) in
    next-done (left n m bytes outs) bytes out (left_lent n m bytes outs l) (calls_end n m bytes outs l b.0 w b.3 k)
