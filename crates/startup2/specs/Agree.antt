-- What the two sides agree (RFC 6581, section 9), asked in this order: 1 a number that its field cannot hold, 40, 41.
use Rattle.std.specs.Prelude.{ℕ, ◌/◌, ◌%◌, min, Bool, true, leb, eqb, Err, Ok, Result}
use Rattle.wire.specs.Wire.{pick, both}
use Rattle.startup2.specs.declared.Terms.{Terms}
use Rattle.startup2.specs.Terms.{max_depth, terms_fit, kinds_of}
use Rattle.startup2.specs.declared.Agreed.{Agreed}
use Rattle.wire.specs.declared.refusal.LocalRefusal.{LocalRefusal}
use Rattle.wire.specs.declared.refusal.LocalRefusal.TheVariants.{IrdTooSmall, NoKind, OutOfRange}

-- ---- what both sides ask

-- our IRD is at least the other side's ORD, or that is not negotiated
abbrev pub reaches : ℕ → ℕ → Bool
reaches ird ord = pick (eqb ord max_depth) true (leb ord ird)

-- our ORD is at most the other side's IRD, or, where that is not negotiated, unchanged
abbrev pub capped_of : ℕ → ℕ → ℕ
capped_of ord ird = pick (eqb ird max_depth) ord (min ord ird)

-- Send, Write and Read among the kinds
abbrev pub sends : ℕ → Bool
sends kinds = eqb (kinds / 4 % 2) 1

abbrev pub writes : ℕ → Bool
writes kinds = eqb (kinds / 2 % 2) 1

abbrev pub reads : ℕ → Bool
reads kinds = eqb (kinds % 2) 1

-- the first of Send, Write and Read that both have; 0 for none
abbrev pub kind_of : ℕ → ℕ → ℕ
kind_of a b = pick (both (sends a) (sends b)) 4 (pick (both (writes a) (writes b)) 2 (pick (both (reads a) (reads b)) 1 0))

-- ---- the responder

-- what a reply says of a depth: 0x3FFF where the request did not negotiate it
abbrev pub told_of : ℕ → ℕ → ℕ
told_of asked depth = pick (eqb asked max_depth) max_depth depth

-- the reply's terms: A as in the request and, with it, exactly one kind
abbrev pub reply_of : Terms → Terms → Terms
reply_of own request =
    record {
      peer = request.peer;
      ird = told_of request.ord own.ird;
      ord = told_of request.ird (capped_of own.ord request.ird);
      kinds = kind_of own.kinds (kinds_of request);
    }

-- a peer request for which there is no kind
abbrev pub unanswerable : Terms → Terms → Bool
unanswerable own request = both request.peer (eqb (kind_of own.kinds (kinds_of request)) 0)

-- what a responder of these terms answers to a request's; its own A is not looked at
unfoldable pub answered_of : Terms → Terms → Result Agreed LocalRefusal
answered_of own request =
    pick (both (terms_fit own) (terms_fit request))
    (pick (reaches own.ird request.ord)
    (pick (unanswerable own request) (Err NoKind) (Ok (record { reply = (reply_of own request); ord = (capped_of own.ord request.ird) })))
    (Err IrdTooSmall))
    (Err OutOfRange)

-- ---- the initiator

-- one of the two sides says peer to peer, and there is no kind that both say
abbrev pub unsettled : Terms → Terms → Bool
unsettled own reply = both (pick own.peer true reply.peer) (eqb (kind_of (kinds_of own) (kinds_of reply)) 0)

-- what the initiator keeps to: the kind is that of its first message
abbrev pub kept_of : Terms → Terms → Terms
kept_of own reply =
    record {
      peer = own.peer;
      ird = own.ird;
      ord = capped_of own.ord reply.ird;
      kinds = kind_of (kinds_of own) (kinds_of reply);
    }

-- what an initiator that said these terms makes of a reply's
unfoldable pub settled_of : Terms → Terms → Result Terms LocalRefusal
settled_of own reply =
    pick (both (terms_fit own) (terms_fit reply))
    (pick (reaches own.ird reply.ord)
    (pick (unsettled own reply) (Err NoKind) (Ok (kept_of own reply)))
    (Err IrdTooSmall))
    (Err OutOfRange)
