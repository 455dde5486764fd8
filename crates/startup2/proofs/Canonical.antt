-- Startup frames of both revisions: a frame that is taken, and whose reserved bits are zero, is the one that we would write of what was taken.
-- Assumes nothing.
use Prim.Native.Nat.{ℕ, zero, suc, ◌+◌, ◌-◌, ◌*◌, ◌/◌, ◌%◌, ◌≤◌, ◌<◌}
use mathlib.Core.Bool.{Bool, true, false, not}
use mathlib.Core.List.{List, [], ◌∷◌, ◌++◌}
use mathlib.Core.Path.{◌≡◌, refl, sym, ap, ap₂, ◌∙◌, subst}
use native.Mathlib.Omega.{arith}
use lib.Dec.{ltb, leb, eqb}
use lib.ListN.{length, get_or, take}
use borrow.Author.Tests.{ltb-false, leb-false, eqb-true}
use Rattle.wire.specs.Wire.{pick, both, part, be16, be16_at}
use Rattle.wire.proofs.Laws.{Bytes, be16-be16_at, part-add, part-one, length_part, same-eq}
use Rattle.mpa.specs.Startup.{key_of, flag_m, flag_c, flag_r, startup_read}
use Rattle.mpa.specs.declared.StartupRead.{StartupRead}
use Rattle.mpa.specs.declared.StartupRead.TheVariants.{Wait as Wait1, Taken as Taken1}
use Rattle.mpa.proofs.Startups.{counts, startup_canonical}
use Rattle.startup2.specs.declared.Terms.{Terms}
use Rattle.startup2.specs.declared.Form.{Form}
use Rattle.startup2.specs.declared.FrameRead.{FrameRead}
use Rattle.startup2.specs.Terms.{terms_of, terms_at}
use Rattle.startup2.specs.Frame.{flags2_of, startup2_of, frame_of, flag_s, head2_right, whole_of, taken2_of, second_read, first_found, frame_read}
use Rattle.startup2.proofs.Fits.{Head, head, terms_long}
use Rattle.startup2.proofs.Halves.{Idle, terms_again}
use Rattle.std.specs.Prelude.{Err, Ok, Result}
use Rattle.wire.specs.declared.refusal.LocalRefusal.{LocalRefusal}
use Rattle.wire.specs.declared.refusal.LocalRefusal.TheVariants.{BadStartup, Markers}

-- a whole frame of revision 2
pub record Second (reply : Bool) (bytes : List ℕ) : Type 0 where
  pub revision : get_or bytes 17 0 ≡ 2
  pub head : Head reply bytes
  pub unmarked : get_or bytes 16 0 < 128
  pub whole : 20 + be16_at bytes 18 ≤ length bytes

-- a frame that is taken is of revision 2, or one that the reader for revision 1 takes
pub data Found (reply : Bool) (bytes : List ℕ) (t : ℕ) (c r : Bool) (form : Form) (s n : ℕ) : Type 0 where
  older : form ≡ Form.First → startup_read reply bytes ≡ Ok (Taken1 t c r s n) → Found reply bytes t c r form s n
  newer : Second reply bytes → whole_of reply bytes ≡ FrameRead.Taken t c r form s n → Found reply bytes t c r form s n

module _ (reply : Bool) (bytes : List ℕ) (t : ℕ) (c r : Bool) (form : Form) (s n : ℕ) where
  abbrev f : ℕ
  f = get_or bytes 16 0

  abbrev m : ℕ
  m = be16_at bytes 18

  abbrev taken : Result FrameRead LocalRefusal
  taken = Ok (FrameRead.Taken t c r form s n)

  pub found : frame_read reply bytes ≡ taken → Found reply bytes t c r form s n
  unfolding frame_read second_read taken2_of
  found = enough (ltb (length bytes) 20) refl
    where
      there : (b : Bool) → ltb (length bytes) (20 + m) ≡ b → Ok (pick b (FrameRead.Wait (20 + m)) (whole_of reply bytes)) ≡ taken → get_or bytes 17 0 ≡ 2 → head2_right reply bytes ≡ true → f < 128 → Found reply bytes t c r form s n
      there true e q v h k = absurd (let z : ◌≡◌ {A = ℕ} 0 1 = cc in omega arith)
      there false e q v h k = newer (record { revision = v; head = head reply bytes h; unmarked = k; whole = ltb-false (length bytes) (20 + m) e }) (cc)

      clear : (b : Bool) → flag_m f ≡ b → pick b (Err Markers) (Ok (taken2_of reply bytes)) ≡ taken → get_or bytes 17 0 ≡ 2 → head2_right reply bytes ≡ true → Found reply bytes t c r form s n
      clear true e q v h = absurd (let z : ◌≡◌ {A = ℕ} 0 1 = cc in omega arith)
      clear false e q v h = there (ltb (length bytes) (20 + m)) refl q v h (leb-false 0x80 f e)

      headed : (b : Bool) → head2_right reply bytes ≡ b → pick b (pick (flag_m f) (Err Markers) (Ok (taken2_of reply bytes))) (Err BadStartup) ≡ taken → get_or bytes 17 0 ≡ 2 → Found reply bytes t c r form s n
      headed true e q v = clear (flag_m f) refl q v e
      headed false e q v = absurd (let z : ◌≡◌ {A = ℕ} 0 1 = cc in omega arith)

      first : (x : Result StartupRead LocalRefusal) → startup_read reply bytes ≡ x → first_found x ≡ taken → Found reply bytes t c r form s n
      first (Ok (Wait1 k)) e q = absurd (let z : ◌≡◌ {A = ℕ} 0 1 = cc in omega arith)
      first (Err k) e q = absurd (let z : ◌≡◌ {A = ℕ} 0 1 = cc in omega arith)
      first (Ok (Taken1 t' c' r' s' n')) e q =
          let d : form ≡ Form.First = cc in
          let z : ◌≡◌ {A = Result StartupRead LocalRefusal} (Ok (Taken1 t' c' r' s' n')) (Ok (Taken1 t c r s n)) = cc in
          older d (e ∙ z)

      revised : (b : Bool) → eqb (get_or bytes 17 0) 2 ≡ b → pick b (second_read reply bytes) (first_found (startup_read reply bytes)) ≡ taken → Found reply bytes t c r form s n
      revised true e q = headed (head2_right reply bytes) refl q (eqb-true (get_or bytes 17 0) 2 e)
      revised false e q = first (startup_read reply bytes) refl q

      enough : (b : Bool) → ltb (length bytes) 20 ≡ b → pick b (Ok (FrameRead.Wait 20)) (pick (eqb (get_or bytes 17 0) 2) (second_read reply bytes) (first_found (startup_read reply bytes))) ≡ taken → Found reply bytes t c r form s n
      enough true e q = absurd (let z : ◌≡◌ {A = ℕ} 0 1 = cc in omega arith)
      enough false e q = revised (eqb (get_or bytes 17 0) 2) refl q

-- flags with M and the reserved bits clear are C, R and S
flags_are : (f : ℕ) → f < 128 → f % 16 ≡ 0 → f ≡ flags2_of (flag_c f) (flag_r f) (flag_s f)
flags_are f h e = go (f / 16) (omega arith)
  where
    go : (q : ℕ) → f ≡ q * 16 → f ≡ flags2_of (flag_c f) (flag_r f) (flag_s f)
    go zero d = subst (λ (x : ℕ). x ≡ flags2_of (flag_c x) (flag_r x) (flag_s x)) (sym d) refl
    go (suc zero) d = subst (λ (x : ℕ). x ≡ flags2_of (flag_c x) (flag_r x) (flag_s x)) (sym d) refl
    go (suc (suc zero)) d = subst (λ (x : ℕ). x ≡ flags2_of (flag_c x) (flag_r x) (flag_s x)) (sym d) refl
    go (suc (suc (suc zero))) d = subst (λ (x : ℕ). x ≡ flags2_of (flag_c x) (flag_r x) (flag_s x)) (sym d) refl
    go (suc (suc (suc (suc zero)))) d = subst (λ (x : ℕ). x ≡ flags2_of (flag_c x) (flag_r x) (flag_s x)) (sym d) refl
    go (suc (suc (suc (suc (suc zero))))) d = subst (λ (x : ℕ). x ≡ flags2_of (flag_c x) (flag_r x) (flag_s x)) (sym d) refl
    go (suc (suc (suc (suc (suc (suc zero)))))) d = subst (λ (x : ℕ). x ≡ flags2_of (flag_c x) (flag_r x) (flag_s x)) (sym d) refl
    go (suc (suc (suc (suc (suc (suc (suc zero))))))) d = subst (λ (x : ℕ). x ≡ flags2_of (flag_c x) (flag_r x) (flag_s x)) (sym d) refl
    go (suc (suc (suc (suc (suc (suc (suc (suc q)))))))) d = absurd (omega arith)

-- a whole frame of revision 2 whose reserved bits are zero, R of a request among them
module _ (reply : Bool) (bytes : List ℕ) (b : Bytes bytes) (k : Second reply bytes) (reserved : get_or bytes 16 0 % 16 ≡ 0) (request : both (not reply) (flag_r (get_or bytes 16 0)) ≡ false) where
  abbrev g : ℕ
  g = get_or bytes 16 0

  abbrev l : ℕ
  l = be16_at bytes 18

  flags_there : g ≡ flags2_of (flag_c g) (both reply (flag_r g)) (flag_s g)
  flags_there = flags_are g k.unmarked reserved ∙ ap (λ (x : Bool). flags2_of (flag_c g) x (flag_s g)) (sym (counts reply (flag_r g) request))

  two : part bytes 16 2 ≡ flags2_of (flag_c g) (both reply (flag_r g)) (flag_s g) ∷ 2 ∷ []
  two =
      part-one bytes 16 1 (omega (arith, k.whole))
      ∙ ap₂ (λ (x : ℕ) (y : List ℕ). x ∷ y) flags_there (part-one bytes 17 0 (omega (arith, k.whole)) ∙ ap (λ (x : ℕ). x ∷ []) k.revision)

  -- it is the one of its flags and all of its private data
  second_canonical : take (20 + l) bytes ≡ startup2_of reply (flag_c g) (both reply (flag_r g)) (flag_s g) (part bytes 20 l)
  unfolding startup2_of
  second_canonical =
      part-add bytes 0 20 l
      ∙ ap (λ (x : List ℕ). x ++ part bytes 20 l) (part-add bytes 0 18 2 ∙ ap (λ (x : List ℕ). x ++ part bytes 18 2) (part-add bytes 0 16 2))
      ∙ ap (λ (x : List ℕ). x ++ part bytes 20 l)
      (ap₂ (λ (x y : List ℕ). x ++ y) (ap₂ (λ (x y : List ℕ). x ++ y) (same-eq (take 16 bytes) (key_of reply) k.head.key) two)
      (sym (be16-be16_at bytes 18 b (omega (arith, k.whole))) ∙ ap be16 (sym (length_part bytes 20 l k.whole))))

  -- with S, it is the one of the terms and of the private data behind them
  enhanced_canonical : flag_s g ≡ true → (leb 0x8000 (be16_at bytes 20) ≡ false → Idle (be16_at bytes 20) (be16_at bytes 22)) →
      take (20 + l) bytes ≡ startup2_of reply (flag_c g) (both reply (flag_r g)) true (terms_of (terms_at bytes 20) ++ part bytes 24 (l - 4))
  enhanced_canonical e idle =
      let four : 4 ≤ l = terms_long g l k.head.there e in
      let size : l ≡ 4 + (l - 4) = omega arith in
      second_canonical
      ∙ ap₂ (λ (x : Bool) (y : List ℕ). startup2_of reply (flag_c g) (both reply (flag_r g)) x y) e
      (ap (part bytes 20) size ∙ part-add bytes 20 4 (l - 4) ∙ ap (λ (x : List ℕ). x ++ part bytes 24 (l - 4)) (sym (terms_again bytes 20 b (omega (arith, k.whole)) idle)))

-- ---- of what was taken

-- the bits of the flags that a form leaves reserved: in revision 1 S is one of them
abbrev pub spare_of : Form → ℕ → ℕ
spare_of Form.First flags = flags % 32
spare_of Form.Second flags = flags % 16
spare_of (Form.Enhanced t) flags = flags % 16

-- what is reserved is zero: those bits, R of a request and, where A is clear, B, C and D
pub record Reserved (reply : Bool) (bytes : List ℕ) (form : Form) : Type 0 where
  pub bits : spare_of form (get_or bytes 16 0) ≡ 0
  pub request : both (not reply) (flag_r (get_or bytes 16 0)) ≡ false
  pub idle : (t : Terms) → form ≡ Form.Enhanced t → t.peer ≡ false → Idle (be16_at bytes 20) (be16_at bytes 22)

module _ (reply : Bool) (bytes : List ℕ) (b : Bytes bytes) where
  -- the bytes of a frame that is read, and those that we would write of it
  abbrev front : FrameRead → List ℕ
  front (FrameRead.Taken t c r form s n) = take t bytes
  front (FrameRead.Wait n) = []

  abbrev again : FrameRead → List ℕ
  again (FrameRead.Taken t c r form s n) = frame_of reply c r form (part bytes s n)
  again (FrameRead.Wait n) = []

  module _ (t : ℕ) (c r : Bool) (form : Form) (s n : ℕ) (z : Reserved reply bytes form) where
    abbrev whole : FrameRead
    whole = FrameRead.Taken t c r form s n

    -- of a frame of revision 2, by S
    by-s : Second reply bytes → (x : Bool) → flag_s (get_or bytes 16 0) ≡ x →
        pick x
        (FrameRead.Taken (20 + be16_at bytes 18) (flag_c (get_or bytes 16 0)) (both reply (flag_r (get_or bytes 16 0))) (Form.Enhanced (terms_at bytes 20)) 24 (be16_at bytes 18 - 4))
        (FrameRead.Taken (20 + be16_at bytes 18) (flag_c (get_or bytes 16 0)) (both reply (flag_r (get_or bytes 16 0))) Form.Second 20 (be16_at bytes 18)) ≡ whole →
        take t bytes ≡ frame_of reply c r form (part bytes s n)
    unfolding terms_at
    by-s k true e q =
        let d : Form.Enhanced (terms_at bytes 20) ≡ form = cc in
        let bits : get_or bytes 16 0 % 16 ≡ 0 = subst (λ (x : Form). spare_of x (get_or bytes 16 0) ≡ 0) (sym d) z.bits in
        sym (ap front q) ∙ enhanced_canonical reply bytes b k bits z.request e (z.idle (terms_at bytes 20) (sym d)) ∙ ap again q
    by-s k false e q =
        let d : Form.Second ≡ form = cc in
        let bits : get_or bytes 16 0 % 16 ≡ 0 = subst (λ (x : Form). spare_of x (get_or bytes 16 0) ≡ 0) (sym d) z.bits in
        sym (ap front q)
        ∙ second_canonical reply bytes b k bits z.request
        ∙ ap (λ (x : Bool). startup2_of reply (flag_c (get_or bytes 16 0)) (both reply (flag_r (get_or bytes 16 0))) x (part bytes 20 (be16_at bytes 18))) e
        ∙ ap again q

    pub frame_canonical : frame_read reply bytes ≡ Ok (FrameRead.Taken t c r form s n) → take t bytes ≡ frame_of reply c r form (part bytes s n)
    frame_canonical q = go (found reply bytes t c r form s n q)
      where
        go : Found reply bytes t c r form s n → take t bytes ≡ frame_of reply c r form (part bytes s n)
        go (older d e) =
            startup_canonical reply bytes b t c r s n e (subst (λ (x : Form). spare_of x (get_or bytes 16 0) ≡ 0) d z.bits) z.request
            ∙ ap (λ (x : Form). frame_of reply c r x (part bytes s n)) (sym d)
        go (newer k e) = by-s k (flag_s (get_or bytes 16 0)) refl e
