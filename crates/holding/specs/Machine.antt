-- A domain that is offered bytes on one of its streams, as a machine of the crate `cuts`: there the held bytes stand beside the state, so that
-- the state's stream says that it holds none.
use Rattle.std.specs.Prelude.{ℕ, List}
use Rattle.rdmap.specs.Stream.{holding}
use Rattle.domain.specs.Domain.{stream_at, with_stream}
use Rattle.domain.specs.declared.Domain.{Domain}
use Rattle.cuts.specs.Cuts.{Answer}
use Rattle.cuts.specs.Cuts.Answer.{kept, done, ended, refused}
use Rattle.cuts.specs.Received.{Side, Report}
use Rattle.cuts.specs.Received.Report.{event, refusal}
use Rattle.holding.specs.declared.OfferAnswer.{OfferAnswer}
use Rattle.holding.specs.declared.OfferAnswer.TheVariants.{Kept, Completed, Ended}
use Rattle.std.specs.Prelude.{Err, Ok, Result}
use Rattle.wire.specs.declared.refusal.LocalRefusal.{LocalRefusal}
use Rattle.wire.specs.Refusal.{refusal_number}

-- the state: the domain, whose stream of the slot holds nothing, and its bytes of the store
abbrev pub side_of : ℕ → Domain → List ℕ → Side
side_of slot d bytes = record { domain = with_stream d slot (holding (stream_at d slot) 0); bytes = bytes }

-- the answer of a call, without the total of the FPDU
abbrev pub answer_of : Result OfferAnswer LocalRefusal → Answer Report
answer_of (Ok (Kept n)) = kept n
answer_of (Ok (Completed taken total e)) = done taken (event e)
answer_of (Ok (Ended r)) = ended (refusal r)
answer_of (Err k) = refused (refusal_number k)
