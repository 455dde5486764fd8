-- A's book (the paper's word; A is a domain, the paper's branch): what A observes, fed nothing but the opening, the bytes of A's
-- part and A's own calls. What a call does with A's state and bytes is specs/Domain.antt of the crate `domain`.
use Rattle.std.specs.Prelude.{ℕ, ◌/◌, ◌%◌, ◌-◌, Bool, List, [], ◌∷◌, length, get_or, take, leb, eqb}
use borrow.Rule.Slice.PartMut.{mid_of}
use Rattle.wire.specs.Wire.{pick, both}
use Rattle.memory.specs.Window.{live_count, lowest_free}
use Rattle.domain.specs.Domain.{new_domain, domain_opened, domain_closed, domain_posted, domain_taken, domain_registered, domain_dropped, domain_ticked, domain_reading, domain_state, stream_at}
use Rattle.arrival.specs.declared.Answer.{Answer as ReceiveAnswer}
use Rattle.domain.specs.declared.Domain.{Domain}
use Rattle.holding.specs.Offer.{domain_receives, domain_receives_bytes, offer_answer, domain_offered, domain_offered_bytes, domain_offered_held}
use Rattle.holding.specs.declared.OfferAnswer.{OfferAnswer}
use Rattle.rnic.specs.Offer.{rooms_bytes}
use Rattle.rnic.specs.Rnic.{in_order}
use Rattle.rnic.specs.declared.Rnic.{Rnic}
use Rattle.std.specs.Prelude.{Err, Ok, Result, ⊤}
use Rattle.meter.specs.declared.gauge.Reading.{Reading}
use Rattle.rdmap.specs.declared.read.ReadRequest.{ReadRequest}
use Rattle.rdmap.specs.declared.stream.Left.{Left}
use Rattle.rdmap.specs.declared.stream.State.{State}
use Rattle.wire.specs.declared.refusal.LocalRefusal.{LocalRefusal}
use Rattle.wire.specs.declared.refusal.LocalRefusal.TheVariants.{OtherLength}

-- a call, with its numbers; `receive` with the bytes and the length of the slice lent as the store, `offer` also with that of the slice lent
-- as the second
pub data Call : Type 0 where
  open_stream : (n : ℕ) → (crc : Bool) → Call
  close_stream : (n : ℕ) → Call
  register : (w key base len place rights : ℕ) → Call
  drop_window : (w : ℕ) → Call
  post : (n start len : ℕ) → Call
  receive : (n : ℕ) → (input : List ℕ) → (k : ℕ) → Call
  offer : (n : ℕ) → (input : List ℕ) → (k m : ℕ) → Call
  take_read : (n : ℕ) → Call
  live : (d : ℕ) → Call
  free : (d : ℕ) → Call
  tick : (d : ℕ) → Call
  read_gauge : (d : ℕ) → Call
  ask_state : (n : ℕ) → Call

pub data Answer : Type 0 where
  done : Result ⊤ LocalRefusal → Answer
  closed : Result Left LocalRefusal → Answer
  received : Result ReceiveAnswer LocalRefusal → Answer
  offered : Result OfferAnswer LocalRefusal → Answer
  taken : Result ReadRequest LocalRefusal → Answer
  counted : Result ℕ LocalRefusal → Answer
  gauge_read : Result Reading LocalRefusal → Answer
  stated : Result State LocalRefusal → Answer

-- ---- whom a call is for, made on a device b; 4 is nobody. So far no call's owner turns on the device

-- "Domain d owns 4d to 4d+3"; "a number out of range is for none"
abbrev pub of_stream : ℕ → ℕ
of_stream n = pick (leb n 15) (n / 4) 4

-- "Domain d owns 16d to 16d+15"
abbrev pub of_window : ℕ → ℕ
of_window w = pick (leb w 63) (w / 16) 4

abbrev pub of_domain : ℕ → ℕ
of_domain d = pick (leb d 3) d 4

abbrev pub owner_in : Rnic → Call → ℕ
owner_in b (open_stream n crc) = of_stream n
owner_in b (close_stream n) = of_stream n
owner_in b (register w key base len place rights) = of_window w
owner_in b (drop_window w) = of_window w
owner_in b (post n start len) = of_stream n
owner_in b (receive n input k) = of_stream n
owner_in b (offer n input k m) = of_stream n
owner_in b (take_read n) = of_stream n
owner_in b (live d) = of_domain d
owner_in b (free d) = of_domain d
-- "A tick names one domain and is that domain's call, as is asking for its reading"
owner_in b (tick d) = of_domain d
owner_in b (read_gauge d) = of_domain d
-- asking for a stream's state is a call of the stream's domain
owner_in b (ask_state n) = of_stream n

-- ---- what A has and observes

-- A's view: the store's length, A's entry, its gauge included, A's bytes of the store, and the bytes that the stream of each slot holds. What
-- else the second slice contains is in nobody's view
pub record View : Type 0 where
  pub size : ℕ
  pub dom : Domain
  pub bytes : List ℕ
  pub held : ℕ → List ℕ

-- what A observes of a call of its own: the answer, in the form R in which it is given, and A's view afterwards
pub record Observation (R : Type 0) : Type 0 where
  pub answer : R
  pub after : View

-- ---- A's book: fed A's number, A's view and A's call alone

-- a stream holds as many bytes as its record says. No call but an offer adds to them; close empties them
abbrev pub held_by : Domain → (ℕ → List ℕ) → ℕ → List ℕ
held_by d held slot = take (stream_at d slot).framing.held (held slot)

-- a step that changes the entry, and no byte
abbrev pub entered : View → Answer → Domain → Observation Answer
entered v a d = record { answer = a; after = record { size = v.size; dom = d; bytes = v.bytes; held = held_by d v.held } }

-- a receive that is lent the store
abbrev pub book_receive : ℕ → View → ℕ → List ℕ → Observation Answer
book_receive A v n input = record {
  answer = received (domain_receives v.dom A (n % 4) input).0;
  after = record {
    size = v.size;
    dom = (domain_receives v.dom A (n % 4) input).1;
    bytes = domain_receives_bytes v.dom A (n % 4) input v.bytes;
    held = held_by (domain_receives v.dom A (n % 4) input).1 v.held;
  };
}

-- an offer that is lent the store and the second slice: it goes by the bytes that the stream holds, and changes no other stream's
abbrev pub book_offer : ℕ → View → ℕ → List ℕ → Observation Answer
book_offer A v n input =
    let h : List ℕ = v.held (n % 4) in
    record {
      answer = offered (offer_answer (length h) (length input) (domain_offered v.dom A (n % 4) h input).0);
      after = record {
        size = v.size;
        dom = (domain_offered v.dom A (n % 4) h input).1;
        bytes = domain_offered_bytes v.dom A (n % 4) h input v.bytes;
        held = λ slot. pick (eqb slot (n % 4)) (domain_offered_held v.dom A (n % 4) h input) (v.held slot);
      };
    }

abbrev pub book : ℕ → View → Call → Observation Answer
book A v (open_stream n crc) = entered v (done (domain_opened v.dom (n % 4) crc).0) (domain_opened v.dom (n % 4) crc).1
book A v (close_stream n) = entered v (closed (domain_closed v.dom (n % 4)).0) (domain_closed v.dom (n % 4)).1
book A v (register w key base len place rights) =
    entered v (done (domain_registered v.dom (w % 16) key base len place rights).0) (domain_registered v.dom (w % 16) key base len place rights).1
book A v (drop_window w) = entered v (done (domain_dropped v.dom (w % 16)).0) (domain_dropped v.dom (w % 16)).1
book A v (post n start len) =
    entered v (done (domain_posted v.dom (n % 4) start len).0) (domain_posted v.dom (n % 4) start len).1
book A v (receive n input k) = pick (eqb k v.size) (book_receive A v n input) (record { answer = received (Err OtherLength); after = v })
book A v (offer n input k m) = pick (both (eqb k v.size) (eqb m rooms_bytes)) (book_offer A v n input) (record { answer = offered (Err OtherLength); after = v })
book A v (take_read n) = entered v (taken (domain_taken v.dom (n % 4)).0) (domain_taken v.dom (n % 4)).1
book A v (live d) = record { answer = counted (Ok (live_count v.dom.windows)); after = v }
book A v (free d) = record { answer = counted (Ok (lowest_free v.dom.windows)); after = v }
book A v (tick d) = entered v (done (Ok tt)) (domain_ticked v.dom)
book A v (read_gauge d) = record { answer = gauge_read (Ok (domain_reading v.dom)); after = v }
book A v (ask_state n) = record { answer = stated (domain_state v.dom (n % 4)); after = v }

-- A's observations of a list of its calls, one after the other; f is the form in which answers are given
unfoldable pub book_trace : {R : Type 0} → (Answer → R) → ℕ → View → List Call → List (Observation R)
book_trace f A v [] = []
book_trace f A v (c ∷ cs) = record { answer = f (book A v c).answer; after = (book A v c).after } ∷ book_trace f A (book A v c).after cs

-- A's view after a list of its calls
unfoldable pub book_view : ℕ → View → List Call → View
book_view A v [] = v
book_view A v (c ∷ cs) = book_view A (book A v c).after cs

-- ---- the opening: its numbers
pub record Opening : Type 0 where
  pub len : ℕ
  pub s₀ : ℕ
  pub e₀ : ℕ
  pub s₁ : ℕ
  pub e₁ : ℕ
  pub s₂ : ℕ
  pub e₂ : ℕ
  pub s₃ : ℕ
  pub e₃ : ℕ

-- ---- the book of an opening

-- whether it is accepted
abbrev pub opens : Opening → Bool
opens o =
    both (both (leb 1 o.len) (leb o.len 16777216))
    (in_order 0 (o.s₀ ∷ o.e₀ ∷ o.s₁ ∷ o.e₁ ∷ o.s₂ ∷ o.e₂ ∷ o.s₃ ∷ o.e₃ ∷ []) o.len)

-- A's part, which is empty where the opening is refused
abbrev pub part_start : ℕ → Opening → ℕ
part_start A o = pick (opens o) (get_or (o.s₀ ∷ o.s₁ ∷ o.s₂ ∷ o.s₃ ∷ []) A 0) 0

abbrev pub part_end : ℕ → Opening → ℕ
part_end A o = pick (opens o) (get_or (o.e₀ ∷ o.e₁ ∷ o.e₂ ∷ o.e₃ ∷ []) A 0) 0

-- the bytes of A's part in the caller's store
abbrev pub first_bytes : ℕ → Opening → List ℕ → List ℕ
first_bytes A o mem = mid_of (part_start A o) (part_end A o - part_start A o) mem

-- A's first view, of those bytes
abbrev pub first_view : ℕ → Opening → List ℕ → View
first_view A o bytes = record { size = pick (opens o) o.len 0; dom = new_domain (part_start A o) (part_end A o); bytes = bytes; held = λ slot. [] }
