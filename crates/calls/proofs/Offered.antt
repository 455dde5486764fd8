-- The words of an offer's answer are those of receive's answer to the pending bytes, changed; and what the first of them tells.
use Prim.Native.Nat.{ℕ}
use mathlib.Core.Path.{◌≡◌, refl}
use native.Mathlib.Omega.{arith}
use lib.ListN.{get_or}
use Rattle.arrival.specs.declared.Answer.{Answer}
use Rattle.arrival.specs.declared.Answer.TheVariants.{Wait, Taken, Ended}
use Rattle.arrival.specs.declared.Event.TheVariants.{Sent, SentInvalidating, Terminated}
use Rattle.holding.specs.Offer.{offer_answer}
use Rattle.calls.specs.Words.{answer_words, offer_words, offered_words}
use Rattle.std.specs.Prelude.{Err, None, Ok, Result, Some}
use Rattle.wire.specs.declared.refusal.LocalRefusal.{LocalRefusal}

pub offered-words : (a : Result Answer LocalRefusal) (held count : ℕ) → offered_words (answer_words a) held count ≡ offer_words (offer_answer held count a)
unfolding offered_words
offered-words (Ok (Wait n)) held count = refl
offered-words (Ok (Taken total None)) held count = refl
offered-words (Ok (Taken total (Some (Sent start len opcode)))) held count = refl
offered-words (Ok (Taken total (Some (SentInvalidating start len opcode stag)))) held count = refl
offered-words (Ok (Taken total (Some (Terminated layer etype code)))) held count = refl
offered-words (Ok (Ended r)) held count = refl
offered-words (Err k) held count = refl

-- how many bytes an answer says to wait for
abbrev pub wait_of : Result Answer LocalRefusal → ℕ
wait_of (Ok (Wait n)) = n
wait_of (Ok (Taken total e)) = 0
wait_of (Ok (Ended r)) = 0
wait_of (Err k) = 0

abbrev pub kind_of : Result Answer LocalRefusal → ℕ
kind_of a = get_or (answer_words a) 0 0

-- 5 is Wait's kind alone
pub kind_waits : (a : Result Answer LocalRefusal) → kind_of a ≡ 5 → a ≡ Ok (Wait (wait_of a))
kind_waits (Ok (Wait n)) e = refl
kind_waits (Ok (Taken total None)) e = absurd (omega (arith, e))
kind_waits (Ok (Taken total (Some (Sent start len opcode)))) e = absurd (omega (arith, e))
kind_waits (Ok (Taken total (Some (SentInvalidating start len opcode stag)))) e = absurd (omega (arith, e))
kind_waits (Ok (Taken total (Some (Terminated layer etype code)))) e = absurd (omega (arith, e))
kind_waits (Ok (Ended r)) e = absurd (omega (arith, e))
kind_waits (Err k) e = absurd (omega (arith, e))
