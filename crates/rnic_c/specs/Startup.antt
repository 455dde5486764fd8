-- Startup frames, and what the two sides agree by their terms, in words that a caller holds.
use Rattle.std.specs.Prelude.{ℕ, ◌+◌, Bool, not, List, [], ◌∷◌, get_or, eqb, leb}
use Rattle.wire.specs.Wire.{pick, both}
use Rattle.sender.specs.Words.{flag_word}
use Rattle.startup2.specs.declared.Terms.{Terms}
use Rattle.startup2.specs.declared.Form.{Form}
use Rattle.startup2.specs.declared.Form.TheVariants.{First, Second, Enhanced}
use Rattle.startup2.specs.declared.FrameRead.{FrameRead}
use Rattle.startup2.specs.declared.FrameRead.TheVariants.{Wait, Taken}
use Rattle.startup2.specs.Frame.{frame_written, frame_out}
use Rattle.std.specs.Prelude.{Err, Ok, Result}
use Rattle.startup2.specs.declared.Agreed.{Agreed}
use Rattle.wire.specs.declared.refusal.LocalRefusal.{LocalRefusal}
use Rattle.wire.specs.declared.refusal.LocalRefusal.TheVariants.{OutOfRange}
use Rattle.wire.specs.Refusal.{refusal_number}

-- a flag that a caller gives in a word: 0 clear, anything else set; one that it is told is 0 or 1
abbrev pub is_set : ℕ → Bool
is_set x = not (eqb x 0)

-- ---- a side's terms in four words: A, IRD, ORD and the kinds

abbrev pub terms_words : Terms → List ℕ
terms_words t = flag_word t.peer ∷ t.ird ∷ t.ord ∷ t.kinds ∷ []

-- the terms in the four words from a place
abbrev pub terms_from : List ℕ → ℕ → Terms
terms_from w at = record { peer = is_set (get_or w at 0); ird = get_or w (at + 1) 0; ord = get_or w (at + 2) 0; kinds = get_or w (at + 3) 0 }

-- ---- a startup frame in nine words: kind, total, start, C, R, and the terms

-- the words of a frame that is there: its kind is that of its form, and its private data goes from start to total
abbrev pub taken_words : ℕ → ℕ → Bool → Bool → Form → List ℕ
taken_words total start c r First = 1 ∷ total ∷ start ∷ flag_word c ∷ flag_word r ∷ 0 ∷ 0 ∷ 0 ∷ 0 ∷ []
taken_words total start c r Second = 2 ∷ total ∷ start ∷ flag_word c ∷ flag_word r ∷ 0 ∷ 0 ∷ 0 ∷ 0 ∷ []
taken_words total start c r (Enhanced t) = 3 ∷ total ∷ start ∷ flag_word c ∷ flag_word r ∷ terms_words t

-- what reading a frame answers: 0 and a refusal's number, 5 and the number of bytes to wait for, or the frame
abbrev pub frame_words : Result FrameRead LocalRefusal → List ℕ
frame_words (Err k) = 0 ∷ refusal_number k ∷ 0 ∷ 0 ∷ 0 ∷ 0 ∷ 0 ∷ 0 ∷ 0 ∷ []
frame_words (Ok (Wait n)) = 5 ∷ n ∷ 0 ∷ 0 ∷ 0 ∷ 0 ∷ 0 ∷ 0 ∷ 0 ∷ []
frame_words (Ok (Taken total c r form start n)) = taken_words total start c r form

-- the kind in the words is that of a frame that can be written
abbrev pub is_form : ℕ → Bool
is_form kind = both (leb 1 kind) (leb kind 3)

-- the form in the words, of such a kind
abbrev pub form_at : List ℕ → Form
form_at w = pick (eqb (get_or w 0 0) 1) Form.First (pick (eqb (get_or w 0 0) 2) Form.Second (Form.Enhanced (terms_from w 5)))

-- writing the frame in the words, with n bytes of private data, into room bytes; total and start are not looked at
unfoldable pub form_written : Bool → List ℕ → ℕ → ℕ → Result ℕ LocalRefusal
form_written reply w n room = pick (is_form (get_or w 0 0)) (frame_written reply (is_set (get_or w 4 0)) (form_at w) n room) (Err OutOfRange)

unfoldable pub form_out : Bool → List ℕ → List ℕ → List ℕ → List ℕ
form_out reply w priv out =
    pick (is_form (get_or w 0 0)) (frame_out reply (is_set (get_or w 3 0)) (is_set (get_or w 4 0)) (form_at w) priv out) out

-- ---- what the two sides agree

-- a responder's answer: 0, or the refusal's number
abbrev pub answered_number : Result Agreed LocalRefusal → ℕ
answered_number (Ok a) = 0
answered_number (Err k) = refusal_number k

-- the words of its reply's terms, which a refusal leaves
abbrev pub reply_words : List ℕ → Result Agreed LocalRefusal → List ℕ
reply_words w (Ok a) = terms_words a.reply
reply_words w (Err k) = w

-- the words of the terms that it keeps to, in the same way: the reply's A and kind, its own IRD, and the ORD agreed
abbrev pub answered_words : List ℕ → ℕ → Result Agreed LocalRefusal → List ℕ
answered_words w ird (Ok a) = flag_word a.reply.peer ∷ ird ∷ a.ord ∷ a.reply.kinds ∷ []
answered_words w ird (Err k) = w

-- what an initiator makes of a reply, and the words of the terms that it keeps to
abbrev pub settled_number : Result Terms LocalRefusal → ℕ
settled_number (Ok t) = 0
settled_number (Err k) = refusal_number k

abbrev pub settled_words : List ℕ → Result Terms LocalRefusal → List ℕ
settled_words w (Ok t) = terms_words t
settled_words w (Err k) = w
