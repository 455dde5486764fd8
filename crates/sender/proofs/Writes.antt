-- What the writer's steps make together: a header and a payload put after it are one segment, and an answer says what is left of the message and of the slice.
use Rattle.std.proofs.Common.{◌≡◌, ℕ, ◌+◌, ◌%◌, ◌≤◌, Bool, true, false, not, leb, List, length, sym, refl, ap, ◌∙◌, ap₂, zero-le, arith, le-ltb, eq-eqb, le-leb, leb-true}
use borrow.Author.Tests.{not-true}
use Rattle.wire.specs.Wire.{pick, both, part, put}
use Rattle.wire.proofs.Laws.{both_true, put-put}
use Rattle.memory.specs.Window.{wraps}
use Rattle.ddp.specs.Header.{tagged_bytes, untagged_bytes, written_out}
use Rattle.ddp.proofs.Round.{tagged_length, untagged_length}
use Rattle.ddp.specs.declared.header.TaggedHeader.{TaggedHeader}
use Rattle.ddp.specs.declared.header.UntaggedHeader.{UntaggedHeader}
use Rattle.rdmap.specs.Message.{is_send}
use Rattle.sender.specs.Message.{max32, sized, header_size, payload_size, is_last, control_byte, header_bytes, segment_bytes, segment_size, advanced, next_answer, message_after, out_after, next_of, next_out}
use Rattle.sender.specs.declared.Message.{Message}
use Rattle.std.specs.Prelude.{Err, None, Ok, Option, Result, Some}
use Rattle.wire.specs.declared.refusal.LocalRefusal.{LocalRefusal}

-- ---- what is in range

pub sized-true : (limit len : ℕ) → sized limit len ≡ true → (19 ≤ limit) × (len ≤ max32)
sized-true limit len e =
    let b = both_true (leb 19 limit) (leb len max32) e in
    (leb-true _ _ b.0, leb-true _ _ b.1)

pub write_true :
    (limit stag to len : ℕ) → both (sized limit len) (both (leb stag max32) (not (wraps to len))) ≡ true →
    (19 ≤ limit) × (len ≤ max32) × (stag ≤ max32) × (wraps to len ≡ false)
write_true limit stag to len e =
    let b = both_true (sized limit len) (both (leb stag max32) (not (wraps to len))) e in
    let d = both_true (leb stag max32) (not (wraps to len)) b.1 in
    let s = sized-true limit len b.0 in
    (s.0, s.1, leb-true _ _ d.0, not-true _ d.1)

pub send_true :
    (limit opcode msn held len : ℕ) → both (sized limit len) (both (is_send opcode) (both (leb msn max32) (leb held max32))) ≡ true →
    (19 ≤ limit) × (len ≤ max32) × (3 ≤ opcode) × (opcode ≤ 6) × (msn ≤ max32) × (held ≤ max32)
send_true limit opcode msn held len e =
    let b = both_true (sized limit len) (both (is_send opcode) (both (leb msn max32) (leb held max32))) e in
    let d = both_true (is_send opcode) (both (leb msn max32) (leb held max32)) b.1 in
    let f = both_true (leb msn max32) (leb held max32) d.1 in
    let g = both_true (leb 3 opcode) (leb opcode 6) d.0 in
    let s = sized-true limit len b.0 in
    (s.0, s.1, leb-true _ _ g.0, leb-true _ _ g.1, leb-true _ _ f.0, leb-true _ _ f.1)

-- ---- a segment

-- its header, of either kind
abbrev pub tagged_of : Message → TaggedHeader
tagged_of m = record { last = is_last m; control = control_byte m; stag = m.stag; to = (m.to + m.at) % 18446744073709551616 }

abbrev pub untagged_of : Message → UntaggedHeader
untagged_of m = record { last = is_last m; control = control_byte m; stag = m.stag; qn = 0; msn = m.msn; mo = m.at }

-- which header it is
pub tagged_is : (m : Message) → m.tagged ≡ true → header_bytes m ≡ tagged_bytes (tagged_of m)
unfolding header_bytes
tagged_is m t = ap (λ (b : Bool). pick b (tagged_bytes (tagged_of m)) (untagged_bytes (untagged_of m))) t

pub untagged_is : (m : Message) → m.tagged ≡ false → header_bytes m ≡ untagged_bytes (untagged_of m)
unfolding header_bytes
untagged_is m t = ap (λ (b : Bool). pick b (tagged_bytes (tagged_of m)) (untagged_bytes (untagged_of m))) t

-- how long it is
pub length_header : (m : Message) → length (header_bytes m) ≡ header_size m
length_header m = go m.tagged refl
  where
    go : (t : Bool) → m.tagged ≡ t → length (header_bytes m) ≡ header_size m
    go true e = ap length (tagged_is m e) ∙ tagged_length (tagged_of m) ∙ ap (λ (b : Bool). pick b 14 18) (sym e)
    go false e = ap length (untagged_is m e) ∙ untagged_length (untagged_of m) ∙ ap (λ (b : Bool). pick b 14 18) (sym e)

-- what writing bytes leaves where there is room for them
has_room : (bytes out : List ℕ) → length bytes ≤ length out → written_out bytes out ≡ put out 0 bytes
unfolding written_out
has_room bytes out h = simp (le-ltb _ _ h)

-- what writing the header leaves, of either kind
pub tagged_header :
    (m : Message) (out : List ℕ) (last : Bool) (control to : ℕ) → m.tagged ≡ true → last ≡ is_last m → control ≡ control_byte m → to ≡ (m.to + m.at) % 18446744073709551616 →
    header_size m ≤ length out →
    written_out (tagged_bytes (record { last = last; control = control; stag = m.stag; to = to })) out ≡ put out 0 (header_bytes m)
tagged_header m out last control to t l k o room =
    let e : record { last = last; control = control; stag = m.stag; to = to } ≡ tagged_of m = λ i. record { last = l i; control = k i; stag = m.stag; to = o i } in
    let same : tagged_bytes (record { last = last; control = control; stag = m.stag; to = to }) ≡ header_bytes m = ap tagged_bytes e ∙ sym (tagged_is m t) in
    ap (λ (b : List ℕ). written_out b out) same
    ∙ has_room (header_bytes m) out (omega (arith, length_header m, room))

pub untagged_header :
    (m : Message) (out : List ℕ) (last : Bool) (control : ℕ) → m.tagged ≡ false → last ≡ is_last m → control ≡ control_byte m →
    header_size m ≤ length out →
    written_out (untagged_bytes (record { last = last; control = control; stag = m.stag; qn = 0; msn = m.msn; mo = m.at })) out ≡ put out 0 (header_bytes m)
untagged_header m out last control t l k room =
    let e : record { last = last; control = control; stag = m.stag; qn = 0; msn = m.msn; mo = m.at } ≡ untagged_of m = λ i. record { last = l i; control = k i; stag = m.stag; qn = 0; msn = m.msn; mo = m.at } in
    let same : untagged_bytes (record { last = last; control = control; stag = m.stag; qn = 0; msn = m.msn; mo = m.at }) ≡ header_bytes m = ap untagged_bytes e ∙ sym (untagged_is m t) in
    ap (λ (b : List ℕ). written_out b out) same
    ∙ has_room (header_bytes m) out (omega (arith, length_header m, room))

-- the payload after the header
pub segment_put :
    (m : Message) (message out : List ℕ) (header payload : ℕ) → header ≡ header_size m → payload ≡ payload_size m →
    put (put out 0 (header_bytes m)) header (part message m.at payload) ≡ put out 0 (segment_bytes m message)
unfolding segment_bytes
segment_put m message out header payload h p =
    let place : header ≡ 0 + length (header_bytes m) = omega (arith, h, length_header m) in
    ap₂ (λ (x y : ℕ). put (put out 0 (header_bytes m)) x (part message m.at y)) place p
    ∙ put-put out 0 (header_bytes m) (part message m.at (payload_size m)) zero-le

-- ---- an answer

-- the tests that lead to the next segment
pub answer_wrote :
    (m : Message) (size room n : ℕ) → size ≡ m.len → m.at ≤ m.len → m.done ≡ false → n ≡ segment_size m → n ≤ room →
    Ok (Some n) ≡ next_answer m size room
unfolding next_answer
answer_wrote m size room n s a d e h =
    let k : segment_size m ≤ room = omega (arith, e, h) in
    ap (λ (k : ℕ). Ok (Some k)) e ∙ simp (eq-eqb _ _ s, le-leb _ _ a, d, le-leb _ _ k)

-- what is answered, with the message and the slice that it leaves
pub refuses :
    (m : Message) (message out : List ℕ) (k : LocalRefusal) → Err k ≡ next_answer m (length message) (length out) →
    (◌≡◌ {A = (Result (Option ℕ) LocalRefusal × Message)} (Err k, m) (next_of m (length message) (length out))) × (out ≡ next_out m message out)
unfolding next_of next_out
refuses m message out k e =
    (ap (λ (v : Result (Option ℕ) LocalRefusal). (v, message_after m v)) e, ap (λ (v : Result (Option ℕ) LocalRefusal). out_after m message out v) e)

pub ends :
    (m : Message) (message out : List ℕ) → (Ok None) ≡ next_answer m (length message) (length out) →
    (◌≡◌ {A = (Result (Option ℕ) LocalRefusal × Message)} (Ok None, m) (next_of m (length message) (length out))) × (out ≡ next_out m message out)
unfolding next_of next_out
ends m message out e =
    (ap (λ (v : Result (Option ℕ) LocalRefusal). (v, message_after m v)) e, ap (λ (v : Result (Option ℕ) LocalRefusal). out_after m message out v) e)

pub writes :
    (m then : Message) (message out last : List ℕ) (n : ℕ) → then ≡ advanced m → last ≡ put out 0 (segment_bytes m message) →
    Ok (Some n) ≡ next_answer m (length message) (length out) →
    (◌≡◌ {A = (Result (Option ℕ) LocalRefusal × Message)} (Ok (Some n), then) (next_of m (length message) (length out))) × (last ≡ next_out m message out)
unfolding next_of next_out
writes m then message out last n a l e = (
  ap (λ (x : Message). (Ok (Some n), x)) a ∙ ap (λ (v : Result (Option ℕ) LocalRefusal). (v, message_after m v)) e,
  l ∙ ap (λ (v : Result (Option ℕ) LocalRefusal). out_after m message out v) e,
)
