-- The device (the paper's box): what each call does. It is the owner's step of specs/Domain.antt of the crate `domain`, lifted: the owner's entry and bytes taken out, the step, and both put back.
use Rattle.std.specs.Prelude.{ℕ, ◌-◌, ◌/◌, ◌%◌, Bool, false, List, [], ◌∷◌, length, get_or, set, leb, eqb}
use Rattle.std.specs.Float.{nan}
use borrow.Rule.Slice.PartMut.{mid_of, put_mid}
use Rattle.wire.specs.Wire.{pick, both}
use Rattle.memory.specs.Part.{part_fits}
use Rattle.memory.specs.Window.{live_count, lowest_free}
use Rattle.domain.specs.Domain.{new_domain, domain_opened, domain_closed, domain_posted, domain_taken, domain_state, domain_registered, domain_dropped, domain_ticked, domain_reading}
use Rattle.domain.specs.declared.Domain.{Domain}
use Rattle.holding.specs.Offer.{domain_receives, domain_receives_bytes}
use Rattle.rnic.specs.declared.Rnic.{Rnic}
use Rattle.std.specs.Prelude.{Err, Ok, Result}
use Rattle.meter.specs.declared.gauge.Reading.{Reading}
use Rattle.rdmap.specs.declared.stream.State.{State}
use Rattle.wire.specs.declared.refusal.LocalRefusal.{LocalRefusal}
use Rattle.wire.specs.declared.refusal.LocalRefusal.TheVariants.{BadPlace, OtherLength, OutOfRange}
use Rattle.std.specs.Prelude.{⊤}
use Rattle.rdmap.specs.declared.stream.Left.{Left}
use Rattle.rdmap.specs.declared.read.ReadRequest.{ReadRequest}
use Rattle.arrival.specs.declared.Answer.{Answer}

-- past the last domain, of which nothing is asked: as an array's default
abbrev pub no_domain : Domain
no_domain = record { part = record { start = 0; end = 0 }; windows = []; streams = []; meter = record { count = 0; ticked = false; gauge = record { level = nan; peak = nan } } }

abbrev pub domain_at : Rnic → ℕ → Domain
domain_at b i = get_or b.domains i no_domain

abbrev pub with_domain : Rnic → ℕ → Domain → Rnic
with_domain b i d = record { len = b.len; domains = set b.domains i d }

-- a domain's own bytes of the store, and the store with them exchanged
abbrev pub bytes_of : Domain → List ℕ → List ℕ
bytes_of d mem = mid_of d.part.start (d.part.end - d.part.start) mem

abbrev pub with_bytes : Domain → List ℕ → List ℕ → List ℕ
with_bytes d mem ys = put_mid d.part.start (d.part.end - d.part.start) mem ys

-- ---- opening

-- "Each part, an empty one too, starts at or after the end of the one before; none ends past the store's end"
abbrev pub in_order : ℕ → List ℕ → ℕ → Bool
in_order from [] len = leb from len
in_order from (x ∷ xs) len = both (leb from x) (in_order x xs len)

-- a device of a length with four parts
abbrev pub new_rnic : ℕ → ℕ → ℕ → ℕ → ℕ → ℕ → ℕ → ℕ → ℕ → Rnic
new_rnic len s₀ e₀ s₁ e₁ s₂ e₂ s₃ e₃ = record { len = len; domains = new_domain s₀ e₀ ∷ new_domain s₁ e₁ ∷ new_domain s₂ e₂ ∷ new_domain s₃ e₃ ∷ [] }

-- "A refused opening gives a box of length 0 with empty parts and no stream open"
abbrev pub empty_rnic : Rnic
empty_rnic = new_rnic 0 0 0 0 0 0 0 0 0

-- "One state and one lent store of 1 to 16,777,216 bytes" (1); the parts (9)
unfoldable pub opened_rnic : ℕ → ℕ → ℕ → ℕ → ℕ → ℕ → ℕ → ℕ → ℕ → (Result ⊤ LocalRefusal × Rnic)
opened_rnic len s₀ e₀ s₁ e₁ s₂ e₂ s₃ e₃ =
    pick (both (leb 1 len) (leb len 16777216))
    (pick (in_order 0 (s₀ ∷ e₀ ∷ s₁ ∷ e₁ ∷ s₂ ∷ e₂ ∷ s₃ ∷ e₃ ∷ []) len)
    (Ok tt, new_rnic len s₀ e₀ s₁ e₁ s₂ e₂ s₃ e₃)
    (Err BadPlace, empty_rnic))
    (Err OutOfRange, empty_rnic)

-- ---- calls on a stream: "Streams 0 to 15. Domain d owns 4d to 4d+3"

unfoldable pub rnic_opened : Rnic → ℕ → Bool → (Result ⊤ LocalRefusal × Rnic)
rnic_opened b n crc =
    pick (leb n 15)
    ((domain_opened (domain_at b (n / 4)) (n % 4) crc).0, with_domain b (n / 4) (domain_opened (domain_at b (n / 4)) (n % 4) crc).1)
    (Err OutOfRange, b)

unfoldable pub rnic_closed : Rnic → ℕ → (Result Left LocalRefusal × Rnic)
rnic_closed b n =
    pick (leb n 15)
    ((domain_closed (domain_at b (n / 4)) (n % 4)).0, with_domain b (n / 4) (domain_closed (domain_at b (n / 4)) (n % 4)).1)
    (Err OutOfRange, b)

unfoldable pub rnic_posted : Rnic → ℕ → ℕ → ℕ → (Result ⊤ LocalRefusal × Rnic)
rnic_posted b n start len =
    pick (leb n 15)
    ((domain_posted (domain_at b (n / 4)) (n % 4) start len).0, with_domain b (n / 4) (domain_posted (domain_at b (n / 4)) (n % 4) start len).1)
    (Err OutOfRange, b)

unfoldable pub rnic_taken : Rnic → ℕ → (Result ReadRequest LocalRefusal × Rnic)
rnic_taken b n =
    pick (leb n 15)
    ((domain_taken (domain_at b (n / 4)) (n % 4)).0, with_domain b (n / 4) (domain_taken (domain_at b (n / 4)) (n % 4)).1)
    (Err OutOfRange, b)

-- a question, which changes nothing
unfoldable pub rnic_state : Rnic → ℕ → Result State LocalRefusal
rnic_state b n = pick (leb n 15) (domain_state (domain_at b (n / 4)) (n % 4)) (Err OutOfRange)

-- the owner's part lies in the store, or 9, which no device that was opened gives
unfoldable pub received_owned : Rnic → ℕ → ℕ → List ℕ → (Result Answer LocalRefusal × Rnic)
received_owned b size n input =
    pick (part_fits (domain_at b (n / 4)).part size)
    ((domain_receives (domain_at b (n / 4)) (n / 4) (n % 4) input).0, with_domain b (n / 4) (domain_receives (domain_at b (n / 4)) (n / 4) (n % 4) input).1)
    (Err BadPlace, b)

unfoldable pub received_owned_store : Rnic → ℕ → List ℕ → List ℕ → List ℕ
received_owned_store b n input mem =
    pick (part_fits (domain_at b (n / 4)).part (length mem))
    (with_bytes (domain_at b (n / 4)) mem (domain_receives_bytes (domain_at b (n / 4)) (n / 4) (n % 4) input (bytes_of (domain_at b (n / 4)) mem)))
    mem

-- receive is lent a store of some length: 1 the stream's number, 2 "lent store's length is not that of opening"
unfoldable pub rnic_received : Rnic → ℕ → ℕ → List ℕ → (Result Answer LocalRefusal × Rnic)
rnic_received b size n input =
    pick (leb n 15)
    (pick (eqb size b.len) (received_owned b size n input) (Err OtherLength, b))
    (Err OutOfRange, b)

-- and the store afterwards: the owner's bytes alone can differ
unfoldable pub rnic_received_store : Rnic → ℕ → List ℕ → List ℕ → List ℕ
rnic_received_store b n input mem = pick (leb n 15) (pick (eqb (length mem) b.len) (received_owned_store b n input mem) mem) mem

-- ---- calls on a window: "Windows 0 to 63. Domain d owns 16d to 16d+15"

unfoldable pub rnic_registered : Rnic → ℕ → ℕ → ℕ → ℕ → ℕ → ℕ → (Result ⊤ LocalRefusal × Rnic)
rnic_registered b w key base len place rights =
    pick (leb w 63)
    ((domain_registered (domain_at b (w / 16)) (w % 16) key base len place rights).0, with_domain b (w / 16) (domain_registered (domain_at b (w / 16)) (w % 16) key base len place rights).1)
    (Err OutOfRange, b)

unfoldable pub rnic_dropped : Rnic → ℕ → (Result ⊤ LocalRefusal × Rnic)
rnic_dropped b w =
    pick (leb w 63)
    ((domain_dropped (domain_at b (w / 16)) (w % 16)).0, with_domain b (w / 16) (domain_dropped (domain_at b (w / 16)) (w % 16)).1)
    (Err OutOfRange, b)

-- ---- questions of a domain

-- "how many windows of a domain are live"
unfoldable pub rnic_live : Rnic → ℕ → Result ℕ LocalRefusal
rnic_live b d = pick (leb d 3) (Ok (live_count (domain_at b d).windows)) (Err OutOfRange)

-- "which of its sixteen slots is the lowest free (16 if none)"
unfoldable pub rnic_free : Rnic → ℕ → Result ℕ LocalRefusal
rnic_free b d = pick (leb d 3) (Ok (lowest_free (domain_at b d).windows)) (Err OutOfRange)

-- ---- a domain's gauge

-- "A tick names one domain and is that domain's call, as is asking for its reading"
unfoldable pub rnic_ticked : Rnic → ℕ → (Result ⊤ LocalRefusal × Rnic)
rnic_ticked b d =
    pick (leb d 3)
    (Ok tt, with_domain b d (domain_ticked (domain_at b d)))
    (Err OutOfRange, b)

unfoldable pub rnic_reading : Rnic → ℕ → Result Reading LocalRefusal
rnic_reading b d = pick (leb d 3) (Ok (domain_reading (domain_at b d))) (Err OutOfRange)
