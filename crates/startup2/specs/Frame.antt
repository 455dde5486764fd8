-- Startup frames of both revisions (RFC 6581, section 6): those of revision 1 are as RFC 5044 has them.
use Rattle.std.specs.Prelude.{ℕ, ◌+◌, ◌-◌, ◌/◌, ◌%◌, Bool, true, false, List, ◌∷◌, ◌++◌, length, take, get_or, ltb, leb, eqb, Err, Ok, Result}
use Rattle.wire.specs.Wire.{pick, both, same, be16, be16_at}
use Rattle.mpa.specs.Fpdu.{out_after}
use Rattle.mpa.specs.Startup.{max_private, key_of, flags_of, flag_m, flag_c, flag_r, startup_of, startup_written, startup_read}
use Rattle.mpa.specs.declared.StartupRead.{StartupRead}
use Rattle.mpa.specs.declared.StartupRead.TheVariants.{Wait as Wait1, Taken as Taken1}
use Rattle.startup2.specs.declared.Form.{Form}
use Rattle.startup2.specs.declared.FrameRead.{FrameRead}
use Rattle.startup2.specs.Terms.{terms_fit, terms_of, terms_at, said_of}
use Rattle.wire.specs.declared.refusal.LocalRefusal.{LocalRefusal}
use Rattle.wire.specs.declared.refusal.LocalRefusal.TheVariants.{BadStartup, Markers, OutOfRange}

-- ---- what is written

-- the flags with S, 0x10
abbrev pub flags2_of : Bool → Bool → Bool → ℕ
flags2_of c r s = flags_of c r + pick s 0x10 0

-- key, flags, revision 2 and the length of all the private data
abbrev pub head_of : Bool → ℕ → ℕ → List ℕ
head_of reply flags n = key_of reply ++ (flags ∷ 2 ∷ be16 n)

-- a frame of revision 2 with all of its private data
unfoldable pub startup2_of : Bool → Bool → Bool → Bool → List ℕ → List ℕ
startup2_of reply c r s priv = head_of reply (flags2_of c r s) (length priv) ++ priv

-- the frame of a form, with the private data behind the terms
abbrev pub frame_of : Bool → Bool → Bool → Form → List ℕ → List ℕ
frame_of reply c r Form.First priv = startup_of reply c r priv
frame_of reply c r Form.Second priv = startup2_of reply c r false priv
frame_of reply c r (Form.Enhanced t) priv = startup2_of reply c r true (terms_of t ++ priv)

-- how many bytes of private data there are in all, with n behind the terms
abbrev pub data_of : Form → ℕ → ℕ
data_of Form.First n = n
data_of Form.Second n = n
data_of (Form.Enhanced t) n = 4 + n

-- the fields can hold the numbers of a form
abbrev pub form_fits : Form → Bool
form_fits Form.First = true
form_fits Form.Second = true
form_fits (Form.Enhanced t) = terms_fit t

-- writing one with n bytes of private data behind the terms into room bytes: 1 R asked for in a request, or a number that its field cannot hold; 12 and 13 as in revision 1, with the terms counted
unfoldable pub frame_written : Bool → Bool → Form → ℕ → ℕ → Result ℕ LocalRefusal
frame_written reply r form n room = pick (form_fits form) (startup_written reply r (data_of form n) room) (Err OutOfRange)

unfoldable pub frame_out : Bool → Bool → Bool → Form → List ℕ → List ℕ → List ℕ
frame_out reply c r form priv out = out_after (frame_written reply r form (length priv) (length out)) out (frame_of reply c r form priv)

-- ---- what is read

-- S of the flags
abbrev pub flag_s : ℕ → Bool
flag_s flags = eqb (flags / 0x10 % 2) 1

-- "Under four bytes with S is refusal 14": n bytes of private data are enough
abbrev pub terms_there : ℕ → ℕ → Bool
terms_there flags n = pick (flag_s flags) (leb 4 n) true

-- the first 20 bytes of a frame of revision 2 have the key expected, a length of at most 512, and room for the terms
abbrev pub head2_right : Bool → List ℕ → Bool
head2_right reply bytes =
    both (same (take 16 bytes) (key_of reply)) (both (leb (be16_at bytes 18) max_private) (terms_there (get_or bytes 16 0) (be16_at bytes 18)))

-- the frame of revision 2 found, with all of its bytes there
abbrev pub whole_of : Bool → List ℕ → FrameRead
whole_of reply bytes =
    pick (flag_s (get_or bytes 16 0))
    (FrameRead.Taken (20 + be16_at bytes 18) (flag_c (get_or bytes 16 0)) (both reply (flag_r (get_or bytes 16 0))) (Form.Enhanced (terms_at bytes 20)) 24 (be16_at bytes 18 - 4))
    (FrameRead.Taken (20 + be16_at bytes 18) (flag_c (get_or bytes 16 0)) (both reply (flag_r (get_or bytes 16 0))) Form.Second 20 (be16_at bytes 18))

-- the same, or Wait total
unfoldable pub taken2_of : Bool → List ℕ → FrameRead
taken2_of reply bytes = pick (ltb (length bytes) (20 + be16_at bytes 18)) (FrameRead.Wait (20 + be16_at bytes 18)) (whole_of reply bytes)

-- 14 and 15 as in revision 1
unfoldable pub second_read : Bool → List ℕ → Result FrameRead LocalRefusal
second_read reply bytes =
    pick (head2_right reply bytes)
    (pick (flag_m (get_or bytes 16 0)) (Err Markers) (Ok (taken2_of reply bytes)))
    (Err BadStartup)

-- "Revision 1 frames read as before"
abbrev pub first_read : StartupRead → FrameRead
first_read (Wait1 n) = FrameRead.Wait n
first_read (Taken1 total c r start n) = FrameRead.Taken total c r Form.First start n

abbrev pub first_found : Result StartupRead LocalRefusal → Result FrameRead LocalRefusal
first_found (Ok read) = Ok (first_read read)
first_found (Err k) = Err k

-- a frame of revision 2, or what the reader for revision 1 says
unfoldable pub frame_read : Bool → List ℕ → Result FrameRead LocalRefusal
frame_read reply bytes =
    pick (ltb (length bytes) 20) (Ok (FrameRead.Wait 20))
    (pick (eqb (get_or bytes 17 0) 2) (second_read reply bytes) (first_found (startup_read reply bytes)))

-- the form as the other side reads it
abbrev pub said_form : Form → Form
said_form Form.First = Form.First
said_form Form.Second = Form.Second
said_form (Form.Enhanced t) = Form.Enhanced (said_of t)
