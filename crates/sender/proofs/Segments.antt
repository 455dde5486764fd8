-- The list of all segments of a message: their payloads are the message's bytes, cut into pieces; L is on the last only; none passes the limit.
use Rattle.std.proofs.Common.{◌≡◌, ℕ, zero, suc, ◌+◌, ◌-◌, ◌*◌, ◌/◌, ◌<◌, ◌≤◌, Bool, true, false, List, [], ◌∷◌, ◌++◌, length, get_or, take, drop, sym, refl, ap, ◌∙◌, ap₂, append-nil, suc-mul, zero-mul, arith, length-append, length-drop, take-append-drop, take_all, drop-drop, drop_at, le-leb}
use lib.Seq.{take-nil, drop-nil}
use Rattle.wire.specs.Wire.{pick, part}
use Rattle.wire.proofs.Laws.{length_part}
use Rattle.ddp.specs.Header.{last_bit, control_of, start_bytes, tagged_bytes, untagged_bytes}
use Rattle.sender.specs.Cut.{ends_in, piece_of, pieces}
use Rattle.sender.specs.Message.{header_size, room_of, left_of, payload_size, is_last, header_bytes, segment_bytes, segment_size, advanced, send_begun, segments_of}
use Rattle.sender.specs.declared.Message.{Message}
use Rattle.sender.proofs.Cuts.{Enough, none-enough, enough-next, enough-bytes, pieces-last, pieces_more, piece_left, piece_room, piece_last, piece_full, ends-false, pieces_count}
use Rattle.sender.proofs.Writes.{tagged_is, untagged_is, length_header}
use Rattle.sender.proofs.Began.{Began, write_of, send_of, header_most, room-some}
use Rattle.std.specs.Prelude.{Ok}

-- ---- one segment

-- the bytes are those of the message, and no more of them is written than there is
abbrev pub Lent : Message → List ℕ → Type 0
Lent m bytes = (length bytes ≡ m.len) × (m.at ≤ m.len)

pub lent_began : (m : Message) (bytes : List ℕ) → Began m → length bytes ≡ m.len → Lent m bytes
lent_began m bytes b e = (e, omega (arith, b.2))

-- the message after a segment: where it is, what is left, and all else as it was
pub advanced_at : (m : Message) → (advanced m).at ≡ m.at + payload_size m
unfolding advanced
advanced_at m = refl

pub advanced-done : (m : Message) → (advanced m).done ≡ is_last m
unfolding advanced
advanced-done m = refl

pub advanced-len : (m : Message) → (advanced m).len ≡ m.len
unfolding advanced
advanced-len m = refl

pub advanced_limit : (m : Message) → (advanced m).limit ≡ m.limit
unfolding advanced
advanced_limit m = refl

pub advanced_header : (m : Message) → header_size (advanced m) ≡ header_size m
unfolding advanced
advanced_header m = refl

pub advanced-room : (m : Message) → room_of (advanced m) ≡ room_of m
unfolding advanced
advanced-room m = refl

pub advanced-inside : (m : Message) → m.at ≤ m.len → (advanced m).at ≤ (advanced m).len
advanced-inside m h = omega (arith, advanced_at m, advanced-len m, piece_left (room_of m) (left_of m), h)

pub advanced-left : (m : Message) → is_last m ≡ false → left_of (advanced m) ≡ left_of m - room_of m
advanced-left m e = omega (arith, advanced_at m, advanced-len m, piece_full (room_of m) (left_of m) e, ends-false (room_of m) (left_of m) e)

pub advanced_lent : (m : Message) (bytes : List ℕ) → Lent m bytes → Lent (advanced m) bytes
advanced_lent m bytes l = (l.0 ∙ sym (advanced-len m), advanced-inside m l.1)

pub advanced-enough : (most : ℕ) (m : Message) → is_last m ≡ false → Enough (suc most) (room_of m) (left_of m) → Enough most (room_of (advanced m)) (left_of (advanced m))
advanced-enough most m e h =
    let k : Enough most (room_of m) (left_of m - room_of m) = enough-next most (room_of m) (left_of m) e h in
    rw (advanced-room m, advanced-left m e) k

-- a segment's payload, and its length
pub payload_is : (m : Message) (bytes : List ℕ) → drop (header_size m) (segment_bytes m bytes) ≡ part bytes m.at (payload_size m)
unfolding segment_bytes
payload_is m bytes = drop_at (header_bytes m) (part bytes m.at (payload_size m)) (header_size m) (length_header m)

pub payload_long : (m : Message) (bytes : List ℕ) → Lent m bytes → length (part bytes m.at (payload_size m)) ≡ payload_size m
payload_long m bytes l = length_part bytes m.at (payload_size m) (omega (arith, l.0, l.1, piece_left (room_of m) (left_of m)))

pub segment_long : (m : Message) (bytes : List ℕ) → Lent m bytes → length (segment_bytes m bytes) ≡ segment_size m
unfolding segment_bytes
segment_long m bytes l =
    length-append (header_bytes m) (part bytes m.at (payload_size m))
    ∙ ap₂ (λ (x y : ℕ). x + y) (length_header m) (payload_long m bytes l)

-- it does not pass the limit
pub size_most : (m : Message) → 19 ≤ m.limit → segment_size m ≤ m.limit
size_most m h = omega (arith, h, header_most m, piece_room (room_of m) (left_of m))

-- L is on it where nothing is left after it
l_bit : (t l : Bool) → last_bit (control_of t l) ≡ l
unfolding control_of
l_bit true true = refl
l_bit true false = refl
l_bit false true = refl
l_bit false false = refl

pub segment_last : (m : Message) (bytes : List ℕ) → last_bit (get_or (segment_bytes m bytes) 0 0) ≡ is_last m
unfolding segment_bytes tagged_bytes untagged_bytes start_bytes
segment_last m bytes = go m.tagged refl
  where
    go : (t : Bool) → m.tagged ≡ t → last_bit (get_or (segment_bytes m bytes) 0 0) ≡ is_last m
    go true e = ap (λ (h : List ℕ). last_bit (get_or (h ++ part bytes m.at (payload_size m)) 0 0)) (tagged_is m e) ∙ l_bit true (is_last m)
    go false e = ap (λ (h : List ℕ). last_bit (get_or (h ++ part bytes m.at (payload_size m)) 0 0)) (untagged_is m e) ∙ l_bit false (is_last m)

-- ---- all of them

-- the forms of the list
pub segments_done : (most : ℕ) (m : Message) (bytes : List ℕ) → m.done ≡ true → segments_of most m bytes ≡ []
unfolding segments_of
segments_done zero m bytes d = refl
segments_done (suc most) m bytes d = simp d

pub segments_more : (most : ℕ) (m : Message) (bytes : List ℕ) → m.done ≡ false → segments_of (suc most) m bytes ≡ segment_bytes m bytes ∷ segments_of most (advanced m) bytes
unfolding segments_of
segments_more most m bytes d = ap (λ (t : Bool). pick t [] (segment_bytes m bytes ∷ segments_of most (advanced m) bytes)) d

pub segments_last : (most : ℕ) (m : Message) (bytes : List ℕ) → m.done ≡ false → is_last m ≡ true → segments_of (suc most) m bytes ≡ segment_bytes m bytes ∷ []
segments_last most m bytes d e =
    segments_more most m bytes d
    ∙ ap (λ (l : List (List ℕ)). segment_bytes m bytes ∷ l) (segments_done most (advanced m) bytes (advanced-done m ∙ e))

-- the payloads, after headers of so many bytes; all of them joined; how long each is
abbrev pub payloads : ℕ → List (List ℕ) → List (List ℕ)
payloads h [] = []
payloads h (s ∷ l) = drop h s ∷ payloads h l

abbrev pub joined : List (List ℕ) → List ℕ
joined [] = []
joined (x ∷ l) = x ++ joined l

abbrev pub sizes : List (List ℕ) → List ℕ
sizes [] = []
sizes (x ∷ l) = length x ∷ sizes l

abbrev pub each : ℕ → List ℕ → List ℕ
each n [] = []
each n (x ∷ l) = (n + x) ∷ each n l

-- the payloads joined are the bytes that are left
pub joined-from :
    (most : ℕ) (m : Message) (bytes : List ℕ) → Lent m bytes → m.done ≡ false → Enough most (room_of m) (left_of m) →
    joined (payloads (header_size m) (segments_of most m bytes)) ≡ drop m.at bytes
joined-from zero m bytes l d h = absurd (none-enough (room_of m) (left_of m) h)
joined-from (suc most) m bytes l d h = go (λ a b k. joined-from most (advanced m) bytes a b k) (is_last m) refl
  where
    go :
        (Lent (advanced m) bytes → (advanced m).done ≡ false → Enough most (room_of (advanced m)) (left_of (advanced m)) →
        joined (payloads (header_size (advanced m)) (segments_of most (advanced m) bytes)) ≡ drop (advanced m).at bytes) →
        (t : Bool) → is_last m ≡ t → joined (payloads (header_size m) (segments_of (suc most) m bytes)) ≡ drop m.at bytes
    go more true e =
        let all : length (drop m.at bytes) ≤ payload_size m = omega (arith, length-drop m.at bytes, l.0, piece_last (room_of m) (left_of m) e) in
        ap (λ (s : List (List ℕ)). joined (payloads (header_size m) s)) (segments_last most m bytes d e)
        ∙ append-nil (drop (header_size m) (segment_bytes m bytes))
        ∙ payload_is m bytes
        ∙ take_all (payload_size m) (drop m.at bytes) all
    go more false e =
        let rest : joined (payloads (header_size m) (segments_of most (advanced m) bytes)) ≡ drop (m.at + payload_size m) bytes =
        ap (λ (n : ℕ). joined (payloads n (segments_of most (advanced m) bytes))) (sym (advanced_header m))
        ∙ more (advanced_lent m bytes l) (advanced-done m ∙ e) (advanced-enough most m e h)
        ∙ ap (λ (n : ℕ). drop n bytes) (advanced_at m)
        in
        ap (λ (s : List (List ℕ)). joined (payloads (header_size m) s)) (segments_more most m bytes d)
        ∙ ap₂ (λ (x y : List ℕ). x ++ y) (payload_is m bytes) (rest ∙ sym (drop-drop (payload_size m) m.at bytes))
        ∙ take-append-drop (payload_size m) (drop m.at bytes)

-- each is as long as its piece, and a segment longer by its header
pub payload_sizes :
    (most : ℕ) (m : Message) (bytes : List ℕ) → Lent m bytes → m.done ≡ false →
    sizes (payloads (header_size m) (segments_of most m bytes)) ≡ pieces most (room_of m) (left_of m)
unfolding pieces segments_of
payload_sizes zero m bytes l d = refl
payload_sizes (suc most) m bytes l d = go (λ a b. payload_sizes most (advanced m) bytes a b) (is_last m) refl
  where
    one : length (drop (header_size m) (segment_bytes m bytes)) ≡ payload_size m
    one = ap length (payload_is m bytes) ∙ payload_long m bytes l

    go :
        (Lent (advanced m) bytes → (advanced m).done ≡ false →
        sizes (payloads (header_size (advanced m)) (segments_of most (advanced m) bytes)) ≡ pieces most (room_of (advanced m)) (left_of (advanced m))) →
        (t : Bool) → is_last m ≡ t → sizes (payloads (header_size m) (segments_of (suc most) m bytes)) ≡ pieces (suc most) (room_of m) (left_of m)
    go more true e =
        ap (λ (s : List (List ℕ)). sizes (payloads (header_size m) s)) (segments_last most m bytes d e)
        ∙ ap (λ (n : ℕ). n ∷ []) (one ∙ piece_last (room_of m) (left_of m) e)
        ∙ sym (pieces-last most (room_of m) (left_of m) e)
    go more false e =
        let rest : sizes (payloads (header_size m) (segments_of most (advanced m) bytes)) ≡ pieces most (room_of m) (left_of m - room_of m) =
        ap (λ (n : ℕ). sizes (payloads n (segments_of most (advanced m) bytes))) (sym (advanced_header m))
        ∙ more (advanced_lent m bytes l) (advanced-done m ∙ e)
        ∙ ap₂ (λ (x y : ℕ). pieces most x y) (advanced-room m) (advanced-left m e)
        in
        ap (λ (s : List (List ℕ)). sizes (payloads (header_size m) s)) (segments_more most m bytes d)
        ∙ ap₂ (λ (n : ℕ) (r : List ℕ). n ∷ r) (one ∙ piece_full (room_of m) (left_of m) e) rest
        ∙ sym (pieces_more most (room_of m) (left_of m) e)

pub segment_sizes :
    (most : ℕ) (m : Message) (bytes : List ℕ) → Lent m bytes → m.done ≡ false →
    sizes (segments_of most m bytes) ≡ each (header_size m) (pieces most (room_of m) (left_of m))
unfolding pieces segments_of
segment_sizes zero m bytes l d = refl
segment_sizes (suc most) m bytes l d = go (λ a b. segment_sizes most (advanced m) bytes a b) (is_last m) refl
  where
    go :
        (Lent (advanced m) bytes → (advanced m).done ≡ false →
        sizes (segments_of most (advanced m) bytes) ≡ each (header_size (advanced m)) (pieces most (room_of (advanced m)) (left_of (advanced m)))) →
        (t : Bool) → is_last m ≡ t → sizes (segments_of (suc most) m bytes) ≡ each (header_size m) (pieces (suc most) (room_of m) (left_of m))
    go more true e =
        ap sizes (segments_last most m bytes d e)
        ∙ ap (λ (n : ℕ). n ∷ []) (segment_long m bytes l ∙ ap (λ (n : ℕ). header_size m + n) (piece_last (room_of m) (left_of m) e))
        ∙ ap (each (header_size m)) (sym (pieces-last most (room_of m) (left_of m) e))
    go more false e =
        let rest : sizes (segments_of most (advanced m) bytes) ≡ each (header_size m) (pieces most (room_of m) (left_of m - room_of m)) =
        more (advanced_lent m bytes l) (advanced-done m ∙ e)
        ∙ ap (λ (n : ℕ). each n (pieces most (room_of (advanced m)) (left_of (advanced m)))) (advanced_header m)
        ∙ ap₂ (λ (x y : ℕ). each (header_size m) (pieces most x y)) (advanced-room m) (advanced-left m e)
        in
        ap sizes (segments_more most m bytes d)
        ∙ ap₂ (λ (n : ℕ) (r : List ℕ). n ∷ r) (segment_long m bytes l ∙ ap (λ (n : ℕ). header_size m + n) (piece_full (room_of m) (left_of m) e)) rest
        ∙ ap (each (header_size m)) (sym (pieces_more most (room_of m) (left_of m) e))

-- none is longer than the limit
pub segments_fit :
    (most : ℕ) (m : Message) (bytes : List ℕ) (i : ℕ) → Lent m bytes → 19 ≤ m.limit →
    length (get_or (segments_of most m bytes) i []) ≤ m.limit
unfolding segments_of
segments_fit zero m bytes i l r = omega arith
segments_fit (suc most) m bytes i l r = go (λ j a b. segments_fit most (advanced m) bytes j a b) m.done i refl
  where
    go :
        ((j : ℕ) → Lent (advanced m) bytes → 19 ≤ (advanced m).limit → length (get_or (segments_of most (advanced m) bytes) j []) ≤ (advanced m).limit) →
        (t : Bool) (j : ℕ) → m.done ≡ t → length (get_or (segments_of (suc most) m bytes) j []) ≤ m.limit
    go more true j d = omega (arith, ap (λ (s : List (List ℕ)). length (get_or s j [])) (segments_done (suc most) m bytes d))
    go more false zero d = omega (arith, ap (λ (s : List (List ℕ)). length (get_or s 0 [])) (segments_more most m bytes d), segment_long m bytes l, size_most m r)
    go more false (suc j) d =
        let rest : length (get_or (segments_of most (advanced m) bytes) j []) ≤ (advanced m).limit = more j (advanced_lent m bytes l) (omega (arith, advanced_limit m, r)) in
        omega (arith, ap (λ (s : List (List ℕ)). length (get_or s (suc j) [])) (segments_more most m bytes d), rest, advanced_limit m)

-- there is one where the message is not done
pub segments_some : (most : ℕ) (m : Message) (bytes : List ℕ) → m.done ≡ false → 1 ≤ most → 1 ≤ length (segments_of most m bytes)
segments_some zero m bytes d h = absurd (omega (arith, h))
segments_some (suc most) m bytes d h = omega (arith, ap length (segments_more most m bytes d))

-- L is on the last only
abbrev pub last_of : List (List ℕ) → ℕ → Bool
last_of s i = last_bit (get_or (get_or s i []) 0 0)

pub last-only :
    (most : ℕ) (m : Message) (bytes : List ℕ) (i : ℕ) → m.done ≡ false → Enough most (room_of m) (left_of m) →
    (suc i < length (segments_of most m bytes) → last_of (segments_of most m bytes) i ≡ false)
    × (suc i ≡ length (segments_of most m bytes) → last_of (segments_of most m bytes) i ≡ true)
last-only zero m bytes i d h = absurd (none-enough (room_of m) (left_of m) h)
last-only (suc most) m bytes i d h = go (λ j a b. last-only most (advanced m) bytes j a b) (is_last m) i refl
  where
    go :
        ((j : ℕ) → (advanced m).done ≡ false → Enough most (room_of (advanced m)) (left_of (advanced m)) →
        (suc j < length (segments_of most (advanced m) bytes) → last_of (segments_of most (advanced m) bytes) j ≡ false)
        × (suc j ≡ length (segments_of most (advanced m) bytes) → last_of (segments_of most (advanced m) bytes) j ≡ true)) →
        (t : Bool) (j : ℕ) → is_last m ≡ t →
        (suc j < length (segments_of (suc most) m bytes) → last_of (segments_of (suc most) m bytes) j ≡ false)
        × (suc j ≡ length (segments_of (suc most) m bytes) → last_of (segments_of (suc most) m bytes) j ≡ true)
    go more true zero e =
        let n : length (segments_of (suc most) m bytes) ≡ 1 = ap length (segments_last most m bytes d e) in
        let b : last_of (segments_of (suc most) m bytes) 0 ≡ true = ap (λ (s : List (List ℕ)). last_of s 0) (segments_last most m bytes d e) ∙ segment_last m bytes ∙ e in
        (λ k. absurd (omega (arith, k, n)), λ k. b)
    go more true (suc j) e =
        let n : length (segments_of (suc most) m bytes) ≡ 1 = ap length (segments_last most m bytes d e) in
        (λ k. absurd (omega (arith, k, n)), λ k. absurd (omega (arith, k, n)))
    go more false zero e =
        let n : length (segments_of (suc most) m bytes) ≡ suc (length (segments_of most (advanced m) bytes)) = ap length (segments_more most m bytes d) in
        let some : 1 ≤ length (segments_of most (advanced m) bytes) = segments_some most (advanced m) bytes (advanced-done m ∙ e) (advanced-enough most m e h).0 in
        let b : last_of (segments_of (suc most) m bytes) 0 ≡ false = ap (λ (s : List (List ℕ)). last_of s 0) (segments_more most m bytes d) ∙ segment_last m bytes ∙ e in
        (λ k. b, λ k. absurd (omega (arith, k, n, some)))
    go more false (suc j) e =
        let n : length (segments_of (suc most) m bytes) ≡ suc (length (segments_of most (advanced m) bytes)) = ap length (segments_more most m bytes d) in
        let b : last_of (segments_of (suc most) m bytes) (suc j) ≡ last_of (segments_of most (advanced m) bytes) j = ap (λ (s : List (List ℕ)). last_of s (suc j)) (segments_more most m bytes d) in
        let rest = more j (advanced-done m ∙ e) (advanced-enough most m e h) in
        (λ k. b ∙ rest.0 (omega (arith, k, n)), λ k. b ∙ rest.1 (omega (arith, k, n)))

-- ---- the i-th of them

-- the message that so many segments leave
abbrev pub advances : ℕ → Message → Message
advances zero m = m
advances (suc i) m = advances i (advanced m)

-- what its header says besides L and the place is as it was: an STag to invalidate stands in every segment
pub advances-same :
    (i : ℕ) (m : Message) →
    ((advances i m).tagged ≡ m.tagged) × ((advances i m).opcode ≡ m.opcode) × ((advances i m).stag ≡ m.stag) × ((advances i m).to ≡ m.to) × ((advances i m).msn ≡ m.msn)
unfolding advanced
advances-same zero m = (refl, refl, refl, refl, refl)
advances-same (suc i) m = advances-same i (advanced m)

-- it is written of that message, which is i payloads on: so MO counts, and TO rises
pub segments_at :
    (most : ℕ) (m : Message) (bytes : List ℕ) (i : ℕ) → m.done ≡ false → i < length (segments_of most m bytes) →
    (get_or (segments_of most m bytes) i [] ≡ segment_bytes (advances i m) bytes) × ((advances i m).at ≡ m.at + i * room_of m)
unfolding segments_of
segments_at zero m bytes i d h = absurd (omega (arith, h))
segments_at (suc most) m bytes i d h = go (λ j a b. segments_at most (advanced m) bytes j a b) (is_last m) i h refl
  where
    go :
        ((j : ℕ) → (advanced m).done ≡ false → j < length (segments_of most (advanced m) bytes) →
        (get_or (segments_of most (advanced m) bytes) j [] ≡ segment_bytes (advances j (advanced m)) bytes)
        × ((advances j (advanced m)).at ≡ (advanced m).at + j * room_of (advanced m))) →
        (t : Bool) (j : ℕ) → j < length (segments_of (suc most) m bytes) → is_last m ≡ t →
        (get_or (segments_of (suc most) m bytes) j [] ≡ segment_bytes (advances j m) bytes) × ((advances j m).at ≡ m.at + j * room_of m)
    go more t zero k e = (ap (λ (s : List (List ℕ)). get_or s 0 []) (segments_more most m bytes d), omega (arith, zero-mul (room_of m)))
    go more true (suc j) k e = absurd (omega (arith, k, ap length (segments_last most m bytes d e)))
    go more false (suc j) k e =
        let n : length (segments_of (suc most) m bytes) ≡ suc (length (segments_of most (advanced m) bytes)) = ap length (segments_more most m bytes d) in
        let rest = more j (advanced-done m ∙ e) (omega (arith, k, n)) in
        let room : j * room_of (advanced m) ≡ j * room_of m = ap (λ (x : ℕ). j * x) (advanced-room m) in (
          ap (λ (s : List (List ℕ)). get_or s (suc j) []) (segments_more most m bytes d) ∙ rest.0,
          omega (arith, rest.1, room, advanced_at m, piece_full (room_of m) (left_of m) e, suc-mul j (room_of m)),
        )

-- ---- of a message that was begun

-- there are as many payloads as segments
as_many : (h : ℕ) (s : List (List ℕ)) → length (sizes (payloads h s)) ≡ length s
as_many h [] = refl
as_many h (x ∷ s) = ap suc (as_many h s)

-- an empty message gives one segment, which is a header
empty-last : (m : Message) → Began m → m.len ≡ 0 → is_last m ≡ true
unfolding ends_in
empty-last m b e = le-leb (left_of m) (room_of m) (omega (arith, e))

pub began_empty : (most : ℕ) (m : Message) → Began m → m.len ≡ 0 → segments_of (suc most) m [] ≡ header_bytes m ∷ []
unfolding segment_bytes
began_empty most m b e =
    let none : part [] m.at (payload_size m) ≡ [] = ap (take (payload_size m)) (drop-nil m.at) ∙ take-nil (payload_size m) in
    segments_last most m [] b.3 (empty-last m b e)
    ∙ ap (λ (s : List ℕ). s ∷ []) (ap (λ (p : List ℕ). header_bytes m ++ p) none ∙ append-nil (header_bytes m))

module _ (most : ℕ) (m : Message) (bytes : List ℕ) (b : Began m) (e : length bytes ≡ m.len) (h : m.len < most) where
  enough : Enough most (room_of m) (left_of m)
  enough = enough-bytes most (room_of m) (left_of m) (room-some m b.0) (omega (arith, h))

  -- the payloads joined are the message
  pub began_joined : joined (payloads (header_size m) (segments_of most m bytes)) ≡ bytes
  began_joined =
      joined-from most m bytes (lent_began m bytes b e) b.3 enough
      ∙ ap (λ (n : ℕ). drop n bytes) b.2

  -- each is as long as its piece of the message
  pub began_sizes : sizes (payloads (header_size m) (segments_of most m bytes)) ≡ pieces most (room_of m) m.len
  began_sizes =
      payload_sizes most m bytes (lent_began m bytes b e) b.3
      ∙ ap (λ (n : ℕ). pieces most (room_of m) n) (omega (arith, b.2))

  -- there are so many segments at most
  pub began_count : length (segments_of most m bytes) ≤ m.len / room_of m + 1
  began_count =
      let n : length (segments_of most m bytes) ≡ length (pieces most (room_of m) m.len) = sym (as_many (header_size m) (segments_of most m bytes)) ∙ ap length began_sizes in
      omega (arith, n, pieces_count most (room_of m) m.len (room-some m b.0))

  -- no segment is longer than the limit
  pub began_fit : (i : ℕ) → length (get_or (segments_of most m bytes) i []) ≤ m.limit
  began_fit i = segments_fit most m bytes i (lent_began m bytes b e) b.0

  -- L is on the last only
  pub began_more : (i : ℕ) → suc i < length (segments_of most m bytes) → last_of (segments_of most m bytes) i ≡ false
  began_more i k = (last-only most m bytes i b.3 enough).0 k

  pub began_last : (i : ℕ) → suc i ≡ length (segments_of most m bytes) → last_of (segments_of most m bytes) i ≡ true
  began_last i k = (last-only most m bytes i b.3 enough).1 k

-- ---- 2,048 bytes of a Send at 1,500 bytes a segment

pub example_begun : send_begun 1500 3 1 0 2048 ≡ Ok (send_of 1500 3 1 0 2048)
unfolding send_begun
example_begun = refl

pub example_sizes : (bytes : List ℕ) → length bytes ≡ 2048 → sizes (segments_of 3 (send_of 1500 3 1 0 2048) bytes) ≡ 1500 ∷ 584 ∷ []
unfolding pieces piece_of ends_in
example_sizes bytes e = segment_sizes 3 (send_of 1500 3 1 0 2048) bytes (e, omega arith) refl

-- an empty Write
pub example_empty : sizes (segments_of 3 (write_of 1500 5 0 0) []) ≡ 14 ∷ []
unfolding pieces piece_of ends_in
example_empty = segment_sizes 3 (write_of 1500 5 0 0) [] (refl, omega arith) refl
