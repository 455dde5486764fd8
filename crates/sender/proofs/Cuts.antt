-- Laws of how a message is cut: the pieces' sum is the whole, each is filled but the last, and how many there are.
use Rattle.std.proofs.Common.{◌≡◌, ℕ, zero, suc, ◌+◌, ◌-◌, ◌*◌, ◌/◌, ◌<◌, ◌≤◌, Bool, true, false, List, [], ◌∷◌, length, get_or, sym, refl, ap, ◌∙◌, suc-mul, le-div_iff_mul-le, zero-mul, le-mul_of_pos_right, add-one, arith, le-leb, leb-false, leb-true}
use native.Mathlib.Nat.{lt-div-mul-add}
use Rattle.sender.specs.Cut.{piece_of, ends_in, pieces}

-- ---- one piece

pub ends-true : (room left : ℕ) → ends_in room left ≡ true → left ≤ room
unfolding ends_in
ends-true room left e = leb-true left room e

pub ends-false : (room left : ℕ) → ends_in room left ≡ false → room < left
unfolding ends_in
ends-false room left e = leb-false left room e

-- all that is left where the piece is the last, else the room
pub piece_last : (room left : ℕ) → ends_in room left ≡ true → piece_of room left ≡ left
unfolding piece_of ends_in
piece_last room left e = simp e

pub piece_full : (room left : ℕ) → ends_in room left ≡ false → piece_of room left ≡ room
unfolding piece_of ends_in
piece_full room left e = simp e

-- it passes neither what is left nor the room
pub piece_left : (room left : ℕ) → piece_of room left ≤ left
piece_left room left = go (ends_in room left) refl
  where
    go : (t : Bool) → ends_in room left ≡ t → piece_of room left ≤ left
    go true e = omega (arith, piece_last room left e)
    go false e = omega (arith, piece_full room left e, ends-false room left e)

pub piece_room : (room left : ℕ) → piece_of room left ≤ room
piece_room room left = go (ends_in room left) refl
  where
    go : (t : Bool) → ends_in room left ≡ t → piece_of room left ≤ room
    go true e = omega (arith, piece_last room left e, ends-true room left e)
    go false e = omega (arith, piece_full room left e)

-- and has a byte where one is left and there is room
pub piece_some : (room left : ℕ) → 1 ≤ room → 1 ≤ left → 1 ≤ piece_of room left
piece_some room left r l = go (ends_in room left) refl
  where
    go : (t : Bool) → ends_in room left ≡ t → 1 ≤ piece_of room left
    go true e = omega (arith, piece_last room left e, l)
    go false e = omega (arith, piece_full room left e, r)

-- ---- enough pieces for what is left

abbrev pub Enough : ℕ → ℕ → ℕ → Type 0
Enough most room left = (1 ≤ most) × (left ≤ most * room)

pub enough-bytes : (most room left : ℕ) → 1 ≤ room → left < most → Enough most room left
enough-bytes most room left r h = (omega (arith, h), omega (arith, h, le-mul_of_pos_right {m = room} most r))

pub enough_count : (room left : ℕ) → 1 ≤ room → Enough (left / room + 1) room left
enough_count room left r =
    let e : (left / room + 1) * room ≡ left / room * room + room = ap (λ (n : ℕ). n * room) (add-one (left / room)) ∙ suc-mul (left / room) room in
    (omega arith, omega (arith, e, lt-div-mul-add {a = left} {b = room} r))

-- none is too few
pub none-enough : (room left : ℕ) → Enough zero room left → ⊥
none-enough room left h = omega (arith, h.0)

-- after a piece that is not the last there are enough for the rest
pub enough-next : (most room left : ℕ) → ends_in room left ≡ false → Enough (suc most) room left → Enough most room (left - room)
enough-next zero room left e h =
    let k : suc zero * room ≡ room = suc-mul zero room ∙ ap (λ (n : ℕ). n + room) (zero-mul room) ∙ omega arith in
    absurd (omega (arith, ends-false room left e, h.1, k))
enough-next (suc most) room left e h =
    (omega arith, omega (arith, h.1, suc-mul (suc most) room))

-- ---- the pieces

-- the two forms of the list
pub pieces-last : (most room left : ℕ) → ends_in room left ≡ true → pieces (suc most) room left ≡ left ∷ []
unfolding pieces
pieces-last most room left e = simp (e, piece_last room left e)

pub pieces_more : (most room left : ℕ) → ends_in room left ≡ false → pieces (suc most) room left ≡ room ∷ pieces most room (left - room)
unfolding pieces
pieces_more most room left e = simp (e, piece_full room left e)

abbrev pub total : List ℕ → ℕ
total [] = 0
total (x ∷ xs) = x + total xs

-- the pieces' sum is the whole
pub pieces-sum : (most room left : ℕ) → Enough most room left → total (pieces most room left) ≡ left
pieces-sum zero room left h = absurd (none-enough room left h)
pieces-sum (suc most) room left h = go (λ k. pieces-sum most room (left - room) k) (ends_in room left) refl
  where
    go : (Enough most room (left - room) → total (pieces most room (left - room)) ≡ left - room) → (t : Bool) → ends_in room left ≡ t → total (pieces (suc most) room left) ≡ left
    go more true e = ap total (pieces-last most room left e) ∙ omega arith
    go more false e =
        let rest : total (pieces most room (left - room)) ≡ left - room = more (enough-next most room left e h) in
        ap total (pieces_more most room left e) ∙ omega (arith, rest, ends-false room left e)

-- every piece is the room but the last
pub pieces-filled : (most room left i : ℕ) → suc i < length (pieces most room left) → get_or (pieces most room left) i 0 ≡ room
unfolding pieces
pieces-filled zero room left i h = absurd (omega (arith, h))
pieces-filled (suc most) room left i h = go (λ j k. pieces-filled most room (left - room) j k) (ends_in room left) i h refl
  where
    go : ((j : ℕ) → suc j < length (pieces most room (left - room)) → get_or (pieces most room (left - room)) j 0 ≡ room) → (t : Bool) (j : ℕ) → suc j < length (pieces (suc most) room left) → ends_in room left ≡ t → get_or (pieces (suc most) room left) j 0 ≡ room
    go more true j k e = absurd (omega (arith, k, ap length (pieces-last most room left e)))
    go more false zero k e = ap (λ (l : List ℕ). get_or l 0 0) (pieces_more most room left e)
    go more false (suc j) k e =
        let n : length (pieces (suc most) room left) ≡ suc (length (pieces most room (left - room))) = ap length (pieces_more most room left e) in
        ap (λ (l : List ℕ). get_or l (suc j) 0) (pieces_more most room left e) ∙ more j (omega (arith, k, n))

-- no piece passes the room, so neither does the last
pub pieces_fit : (most room left i : ℕ) → get_or (pieces most room left) i 0 ≤ room
unfolding pieces
pieces_fit zero room left i = omega arith
pieces_fit (suc most) room left i = go (λ j. pieces_fit most room (left - room) j) (ends_in room left) i refl
  where
    go : ((j : ℕ) → get_or (pieces most room (left - room)) j 0 ≤ room) → (t : Bool) (j : ℕ) → ends_in room left ≡ t → get_or (pieces (suc most) room left) j 0 ≤ room
    go more t zero e = piece_room room left
    go more true (suc j) e = omega (arith, ap (λ (l : List ℕ). get_or l (suc j) 0) (pieces-last most room left e))
    go more false (suc j) e = omega (arith, ap (λ (l : List ℕ). get_or l (suc j) 0) (pieces_more most room left e), more j)

-- and each has a byte, unless the whole is empty
pub pieces-some : (most room left i : ℕ) → 1 ≤ room → 1 ≤ left → i < length (pieces most room left) → 1 ≤ get_or (pieces most room left) i 0
unfolding pieces
pieces-some zero room left i r l h = absurd (omega (arith, h))
pieces-some (suc most) room left i r l h = go (λ j k n. pieces-some most room (left - room) j r k n) (ends_in room left) i h refl
  where
    go : ((j : ℕ) → 1 ≤ left - room → j < length (pieces most room (left - room)) → 1 ≤ get_or (pieces most room (left - room)) j 0) → (t : Bool) (j : ℕ) → j < length (pieces (suc most) room left) → ends_in room left ≡ t → 1 ≤ get_or (pieces (suc most) room left) j 0
    go more t zero k e = piece_some room left r l
    go more true (suc j) k e = absurd (omega (arith, k, ap length (pieces-last most room left e)))
    go more false (suc j) k e =
        let n : length (pieces (suc most) room left) ≡ suc (length (pieces most room (left - room))) = ap length (pieces_more most room left e) in
        let rest : 1 ≤ get_or (pieces most room (left - room)) j 0 = more j (omega (arith, ends-false room left e)) (omega (arith, k, n)) in
        omega (arith, ap (λ (l : List ℕ). get_or l (suc j) 0) (pieces_more most room left e), rest)

-- an empty message has one piece, of no bytes
pub pieces-empty : (most room : ℕ) → pieces (suc most) room 0 ≡ 0 ∷ []
unfolding ends_in
pieces-empty most room = pieces-last most room 0 (le-leb 0 room (omega arith))

-- there are at most left / room + 1
pieces_room : (most room left : ℕ) → length (pieces most room left) * room ≤ left + room
unfolding pieces
pieces_room zero room left = omega (arith, zero-mul room)
pieces_room (suc most) room left = go (pieces_room most room (left - room)) (ends_in room left) refl
  where
    go : length (pieces most room (left - room)) * room ≤ left - room + room → (t : Bool) → ends_in room left ≡ t → length (pieces (suc most) room left) * room ≤ left + room
    go more true e =
        let n : length (pieces (suc most) room left) * room ≡ 1 * room = ap (λ (l : List ℕ). length l * room) (pieces-last most room left e) in
        omega (arith, n)
    go more false e =
        let n : length (pieces (suc most) room left) * room ≡ suc (length (pieces most room (left - room))) * room = ap (λ (l : List ℕ). length l * room) (pieces_more most room left e) in
        omega (arith, n, suc-mul (length (pieces most room (left - room))) room, more, ends-false room left e)

pub pieces_count : (most room left : ℕ) → 1 ≤ room → length (pieces most room left) ≤ left / room + 1
pieces_count most room left r = go (length (pieces most room left)) (pieces_room most room left)
  where
    go : (n : ℕ) → n * room ≤ left + room → n ≤ left / room + 1
    go zero h = omega arith
    go (suc n) h =
        let k : n ≤ left / room = (le-div_iff_mul-le {k = room} {x = n} {y = left} r).1 (omega (arith, h, suc-mul n room)) in
        omega (arith, k)

-- more than enough changes nothing
pub pieces-same : (most more room left : ℕ) → Enough most room left → Enough more room left → pieces most room left ≡ pieces more room left
pieces-same zero more room left h k = absurd (none-enough room left h)
pieces-same (suc most) zero room left h k = absurd (none-enough room left k)
pieces-same (suc most) (suc more) room left h k = go (λ a b. pieces-same most more room (left - room) a b) (ends_in room left) refl
  where
    go : (Enough most room (left - room) → Enough more room (left - room) → pieces most room (left - room) ≡ pieces more room (left - room)) → (t : Bool) → ends_in room left ≡ t → pieces (suc most) room left ≡ pieces (suc more) room left
    go rest true e = pieces-last most room left e ∙ sym (pieces-last more room left e)
    go rest false e =
        pieces_more most room left e
        ∙ ap (λ (l : List ℕ). room ∷ l) (rest (enough-next most room left e h) (enough-next more room left e k))
        ∙ sym (pieces_more more room left e)

-- 2,048 bytes of a Send at 1,500 bytes a segment
pub pieces_example : pieces 2 (1500 - 18) 2048 ≡ 1482 ∷ 566 ∷ []
unfolding pieces piece_of ends_in
pieces_example = refl
