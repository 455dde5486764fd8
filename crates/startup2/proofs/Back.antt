-- Startup frames of both revisions: what is written is read back as it was given, with no kinds where A is clear.
-- Assumes nothing.
use Prim.Native.Nat.{ℕ, ◌+◌, ◌-◌, ◌*◌, ◌/◌, ◌%◌, ◌≤◌}
use mathlib.Core.Bool.{Bool, true, false}
use mathlib.Core.List.{List, ◌++◌}
use mathlib.Core.Path.{◌≡◌, refl, ap, ap₂, ◌∙◌}
use native.Mathlib.Omega.{arith}
use lib.Dec.{leb, eqb}
use lib.ListN.{length, get_or, take, drop, length-append}
use lib.Seq.{take_at}
use borrow.Author.Tests.{le-ltb, le-leb}
use Rattle.wire.specs.Wire.{pick, both, same, part, be16_at}
use Rattle.wire.proofs.Laws.{same_refl}
use Rattle.mpa.specs.Fpdu.{out_after}
use Rattle.mpa.specs.Startup.{max_private, key_of, flag_m, flag_c, flag_r, startup_of, startup_written, startup_read}
use Rattle.mpa.proofs.Startups.{Admitted, admitted, startup_back}
use Rattle.startup2.specs.declared.Terms.{Terms}
use Rattle.startup2.specs.declared.Form.{Form}
use Rattle.startup2.specs.declared.FrameRead.{FrameRead}
use Rattle.startup2.specs.Terms.{terms_fit, first_half, second_half, terms_of, terms_at, halves_terms, said_of}
use Rattle.startup2.specs.Frame.{flags2_of, startup2_of, frame_of, data_of, form_fits, frame_written, frame_out, flag_s, terms_there, head2_right, whole_of, taken2_of, second_read, first_found, frame_read, said_form}
use Rattle.startup2.proofs.Fits.{Fit, fit}
use Rattle.startup2.proofs.Halves.{halves_small, halves_back}
use Rattle.std.specs.Prelude.{Err, Ok, Result}
use Rattle.wire.specs.declared.refusal.LocalRefusal.{LocalRefusal}
use Rattle.wire.specs.declared.refusal.LocalRefusal.TheVariants.{BadStartup, Markers, OutOfRange}

-- where the private data of a form starts
abbrev pub start_of : Form → ℕ
start_of Form.First = 20
start_of Form.Second = 20
start_of (Form.Enhanced t) = 24

-- the flags that are written are read back, and ask for no markers
record Flags (f : ℕ) (c r s : Bool) : Type 0 where
  pub unmarked : flag_m f ≡ false
  pub crc : flag_c f ≡ c
  pub declined : flag_r f ≡ r
  pub enhanced : flag_s f ≡ s

flags_read : (c r s : Bool) → Flags (flags2_of c r s) c r s
flags_read true true true = record { unmarked = refl; crc = refl; declined = refl; enhanced = refl }
flags_read true true false = record { unmarked = refl; crc = refl; declined = refl; enhanced = refl }
flags_read true false true = record { unmarked = refl; crc = refl; declined = refl; enhanced = refl }
flags_read true false false = record { unmarked = refl; crc = refl; declined = refl; enhanced = refl }
flags_read false true true = record { unmarked = refl; crc = refl; declined = refl; enhanced = refl }
flags_read false true false = record { unmarked = refl; crc = refl; declined = refl; enhanced = refl }
flags_read false false true = record { unmarked = refl; crc = refl; declined = refl; enhanced = refl }
flags_read false false false = record { unmarked = refl; crc = refl; declined = refl; enhanced = refl }

-- a frame of revision 2 with all of its private data, and any bytes after it
module _ (reply c r s : Bool) (priv rest : List ℕ) (h : length priv ≤ max_private) (l : pick s (leb 4 (length priv)) true ≡ true) where
  abbrev frame : List ℕ
  frame = startup2_of reply c r s priv ++ rest

  stated : be16_at frame 18 ≡ length priv
  unfolding startup2_of
  stated = omega arith

  long : 20 + length priv ≤ length frame
  unfolding startup2_of
  long = omega (arith, length-append priv rest)

  flags : get_or frame 16 0 ≡ flags2_of c r s
  unfolding startup2_of
  flags = refl

  revision : get_or frame 17 0 ≡ 2
  unfolding startup2_of
  revision = refl

  key : take 16 frame ≡ key_of reply
  unfolding startup2_of
  key = refl

  right : head2_right reply frame ≡ true
  right =
      ap₂ both (ap (λ (k : List ℕ). same k (key_of reply)) key ∙ same_refl (key_of reply))
      (ap₂ both (le-leb (be16_at frame 18) max_private (omega (arith, stated)))
      (ap₂ terms_there flags stated ∙ ap (λ (b : Bool). pick b (leb 4 (length priv)) true) (flags_read c r s).enhanced ∙ l))

  read : frame_read reply frame ≡ Ok (whole_of reply frame)
  unfolding frame_read second_read taken2_of
  read =
      ap (λ (b : Bool). pick b (Ok (FrameRead.Wait 20)) (pick (eqb (get_or frame 17 0) 2) (second_read reply frame) (first_found (startup_read reply frame)))) (le-ltb (length frame) 20 (omega (arith, long)))
      ∙ ap (λ (n : ℕ). pick (eqb n 2) (second_read reply frame) (first_found (startup_read reply frame))) revision
      ∙ ap (λ (b : Bool). pick b (pick (flag_m (get_or frame 16 0)) (Err Markers) (Ok (taken2_of reply frame))) (Err BadStartup)) right
      ∙ ap (λ (b : Bool). pick b (Err Markers) (Ok (taken2_of reply frame))) (ap flag_m flags ∙ (flags_read c r s).unmarked)
      ∙ ap (λ (b : Bool). Ok (pick b (FrameRead.Wait (20 + be16_at frame 18)) (whole_of reply frame))) (le-ltb (length frame) (20 + be16_at frame 18) (omega (arith, long, stated)))

  -- what is found of the flags and of the length
  found : whole_of reply frame ≡
      pick s (FrameRead.Taken (20 + length priv) c (both reply r) (Form.Enhanced (terms_at frame 20)) 24 (length priv - 4))
      (FrameRead.Taken (20 + length priv) c (both reply r) Form.Second 20 (length priv))
  found =
      let g : ℕ → ℕ → FrameRead = λ f n. pick (flag_s f) (FrameRead.Taken (20 + n) (flag_c f) (both reply (flag_r f)) (Form.Enhanced (terms_at frame 20)) 24 (n - 4)) (FrameRead.Taken (20 + n) (flag_c f) (both reply (flag_r f)) Form.Second 20 n) in
      ap₂ g flags stated
      ∙ simp ((flags_read c r s).crc, (flags_read c r s).declined, (flags_read c r s).enhanced)

-- the terms behind the head are read back
terms_back : (reply c r : Bool) (t : Terms) (priv rest : List ℕ) → Fit t → terms_at (startup2_of reply c r true (terms_of t ++ priv) ++ rest) 20 ≡ said_of t
unfolding startup2_of terms_of terms_at
terms_back reply c r t priv rest f =
    let small = halves_small t f in
    let x : first_half t / 256 % 256 * 256 + first_half t % 256 ≡ first_half t = omega (arith, small.0) in
    let y : second_half t / 256 % 256 * 256 + second_half t % 256 ≡ second_half t = omega (arith, small.1) in
    ap₂ halves_terms x y ∙ halves_back t f

-- a frame of revision 1
long1 : (reply c r : Bool) (priv rest : List ℕ) → 20 ≤ length (startup_of reply c r priv ++ rest)
unfolding startup_of
long1 reply c r priv rest = omega arith

revision1 : (reply c r : Bool) (priv rest : List ℕ) → get_or (startup_of reply c r priv ++ rest) 17 0 ≡ 1
unfolding startup_of
revision1 reply c r priv rest = refl

-- it is read as before
first_back : (reply c r : Bool) (priv rest : List ℕ) → length priv ≤ max_private →
    frame_read reply (startup_of reply c r priv ++ rest) ≡ Ok (FrameRead.Taken (20 + length priv) c (both reply r) Form.First 20 (length priv))
unfolding frame_read
first_back reply c r priv rest h =
    let f : List ℕ = startup_of reply c r priv ++ rest in
    ap (λ (b : Bool). pick b (Ok (FrameRead.Wait 20)) (pick (eqb (get_or f 17 0) 2) (second_read reply f) (first_found (startup_read reply f)))) (le-ltb (length f) 20 (long1 reply c r priv rest))
    ∙ ap (λ (n : ℕ). pick (eqb n 2) (second_read reply f) (first_found (startup_read reply f))) (revision1 reply c r priv rest)
    ∙ ap first_found (startup_back reply c r priv rest h)

-- the terms are four bytes
sized : (t : Terms) (priv : List ℕ) → length (terms_of t ++ priv) ≡ 4 + length priv
unfolding terms_of
sized t priv = omega arith

-- a frame with terms is read back with them
enhanced_back : (reply c r : Bool) (t : Terms) (priv rest : List ℕ) → terms_fit t ≡ true → 4 + length priv ≤ max_private →
    frame_read reply (startup2_of reply c r true (terms_of t ++ priv) ++ rest) ≡ Ok (FrameRead.Taken (20 + (4 + length priv)) c (both reply r) (Form.Enhanced (said_of t)) 24 (length priv))
enhanced_back reply c r t priv rest e h =
    let whole : List ℕ = terms_of t ++ priv in
    let size : length whole ≡ 4 + length priv = sized t priv in
    let less : length whole - 4 ≡ length priv = omega (arith, size) in
    let within : length whole ≤ max_private = omega (arith, size) in
    let there : leb 4 (length whole) ≡ true = le-leb 4 (length whole) (omega (arith, size)) in
    read reply c r true whole rest within there
    ∙ ap Ok (found reply c r true whole rest within there)
    ∙ ap (λ (x : Terms). Ok (FrameRead.Taken (20 + length whole) c (both reply r) (Form.Enhanced x) 24 (length whole - 4))) (terms_back reply c r t priv rest (fit t e))
    ∙ ap₂ (λ (x y : ℕ). Ok (FrameRead.Taken (20 + x) c (both reply r) (Form.Enhanced (said_of t)) 24 y)) size less

-- for any form whose numbers fit, any private data within the limit, and any bytes after the frame
pub frame_back : (reply c r : Bool) (form : Form) (priv rest : List ℕ) → form_fits form ≡ true → data_of form (length priv) ≤ max_private →
    frame_read reply (frame_of reply c r form priv ++ rest) ≡ Ok (FrameRead.Taken (20 + data_of form (length priv)) c (both reply r) (said_form form) (start_of form) (length priv))
frame_back reply c r Form.First priv rest e h = first_back reply c r priv rest h
frame_back reply c r Form.Second priv rest e h = read reply c r false priv rest h refl ∙ ap Ok (found reply c r false priv rest h refl)
frame_back reply c r (Form.Enhanced t) priv rest e h = enhanced_back reply c r t priv rest e h

-- the private data is there as given
pub data_back : (reply c r : Bool) (form : Form) (priv rest : List ℕ) → part (frame_of reply c r form priv ++ rest) (start_of form) (length priv) ≡ priv
unfolding startup_of startup2_of terms_of
data_back reply c r Form.First priv rest = take_at priv rest (length priv) refl
data_back reply c r Form.Second priv rest = take_at priv rest (length priv) refl
data_back reply c r (Form.Enhanced t) priv rest = take_at priv rest (length priv) refl

-- what a length that the writer answers tells
pub record Put (reply r : Bool) (form : Form) (n room k : ℕ) : Type 0 where
  pub fits : form_fits form ≡ true
  pub admits : Admitted reply r (data_of form n) room k

pub put_of : (reply r : Bool) (form : Form) (n room k : ℕ) → frame_written reply r form n room ≡ Ok k → Put reply r form n room k
unfolding frame_written
put_of reply r form n room k = go (form_fits form) refl
  where
    go : (b : Bool) → form_fits form ≡ b → pick b (startup_written reply r (data_of form n) room) (Err OutOfRange) ≡ Ok k → Put reply r form n room k
    go true f e = record { fits = f; admits = admitted reply r (data_of form n) room k e }
    go false f e = absurd (let z : ◌≡◌ {A = ℕ} 0 1 = cc in omega arith)

-- of the writer's own contract: where it answers a length, the slice that it leaves is read back as what was given
module _ (reply c r : Bool) (form : Form) (priv out : List ℕ) (n : ℕ) (q : frame_written reply r form (length priv) (length out) ≡ Ok n) where
  a : Put reply r form (length priv) (length out) n
  a = put_of reply r form (length priv) (length out) n q

  rest : List ℕ
  rest = drop (length (frame_of reply c r form priv)) out

  left : frame_out reply c r form priv out ≡ frame_of reply c r form priv ++ rest
  unfolding frame_out rest
  left = ap (λ (w : Result ℕ LocalRefusal). out_after w out (frame_of reply c r form priv)) q

  pub frame-written_back :
      (frame_read reply (frame_out reply c r form priv out) ≡ Ok (FrameRead.Taken n c r (said_form form) (start_of form) (length priv)))
      × (part (frame_out reply c r form priv out) (start_of form) (length priv) ≡ priv)
  frame-written_back = (
    ap (frame_read reply) left
        ∙ frame_back reply c r form priv rest a.fits a.admits.short
        ∙ ap₂ (λ (t : ℕ) (d : Bool). Ok (FrameRead.Taken t c d (said_form form) (start_of form) (length priv))) a.admits.total a.admits.told,
    ap (λ (l : List ℕ). part l (start_of form) (length priv)) left ∙ data_back reply c r form priv rest,
  )
