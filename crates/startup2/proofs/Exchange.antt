-- A whole startup: the responder reads the terms that the initiator wrote, and the initiator reads the reply that the responder answered to them.
-- Assumes nothing.
use Prim.Native.Nat.{ℕ, ◌+◌, ◌≤◌}
use mathlib.Core.Bool.{Bool, true, false}
use mathlib.Core.List.{List, ◌++◌}
use mathlib.Core.Path.{◌≡◌, ap, ◌∙◌}
use lib.ListN.{length}
use Rattle.mpa.specs.Startup.{max_private}
use Rattle.startup2.specs.declared.Terms.{Terms}
use Rattle.startup2.specs.declared.Form.{Form}
use Rattle.startup2.specs.declared.FrameRead.{FrameRead}
use Rattle.startup2.specs.Terms.{terms_fit, said_of}
use Rattle.startup2.specs.Frame.{frame_of, frame_read}
use Rattle.startup2.specs.Agree.{answered_of, settled_of}
use Rattle.startup2.proofs.Back.{frame_back}
use Rattle.startup2.proofs.Agreement.{reply_said, reply_fits, settles}
use Rattle.std.specs.Prelude.{Ok}

-- each side with its own C and private data, and with any bytes after its frame
module _ (initiator responder : Terms) (c d : Bool) (asked told after behind : List ℕ) (f : terms_fit initiator ≡ true) (h : 4 + length asked ≤ max_private) (l : 4 + length told ≤ max_private) where
  -- the terms that the responder answers are the initiator's
  pub request_read :
      frame_read false (frame_of false c false (Form.Enhanced initiator) asked ++ after)
      ≡ Ok (FrameRead.Taken (20 + (4 + length asked)) c false (Form.Enhanced (said_of initiator)) 24 (length asked))
  request_read = frame_back false c false (Form.Enhanced initiator) asked after f h

  module _ (reply : Terms) (ord : ℕ) (q : answered_of responder (said_of initiator) ≡ Ok (record { reply = reply; ord = ord })) where
    -- the terms that the initiator settles by are those that were answered, and it settles
    pub reply_read :
        (frame_read true (frame_of true d false (Form.Enhanced reply) told ++ behind) ≡ Ok (FrameRead.Taken (20 + (4 + length told)) d false (Form.Enhanced reply) 24 (length told)))
        × (settled_of initiator reply ≡ Ok (record { peer = initiator.peer; ird = initiator.ird; ord = initiator.ord; kinds = reply.kinds }))
    reply_read = (
      frame_back true d false (Form.Enhanced reply) told behind (reply_fits initiator responder reply ord f q) l
          ∙ ap (λ (t : Terms). Ok (FrameRead.Taken (20 + (4 + length told)) d false (Form.Enhanced t) 24 (length told))) (reply_said initiator responder reply ord f q),
      settles initiator responder reply ord f q,
    )
