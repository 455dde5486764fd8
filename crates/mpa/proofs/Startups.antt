-- Startup frames: what is written is read back as it was given, and what is taken is what would be written where the reserved bits are zero.
-- Assumes nothing.
use mathlib.Core.Path.{◌≡◌, refl, sym, ap, ap₂, ◌∙◌, subst}
use mathlib.Core.Bool.{Bool, true, false, not}
use mathlib.Core.List.{List, [], ◌∷◌, ◌++◌}
use Prim.Native.Nat.{ℕ, zero, suc, ◌+◌, ◌*◌, ◌/◌, ◌%◌, ◌≤◌, ◌<◌}
use native.Mathlib.Omega.{arith}
use lib.Dec.{ltb, leb, eqb}
use lib.ListN.{length, get_or, take, drop, length-append}
use lib.Seq.{take_at}
use borrow.Author.Tests.{ltb-false, leb-true, leb-false, eqb-true, le-ltb, le-leb}
use Rattle.wire.specs.Wire.{pick, both, same, part, be16, be16_at}
use Rattle.wire.proofs.Laws.{Bytes, be16-be16_at, part-add, part-one, length_part, same_refl, same-eq, both_true}
use Rattle.mpa.specs.Startup.{max_private, key_of, flags_of, flag_m, flag_c, flag_r, startup_of, startup_written, startup_out, head_right, startup_taken, startup_read}
use Rattle.mpa.specs.Fpdu.{out_after}
use Rattle.mpa.specs.declared.StartupRead.{StartupRead}
use Rattle.mpa.specs.declared.StartupRead.TheVariants.{Wait, Taken}
use Rattle.std.specs.Prelude.{Err, Ok, Result}
use Rattle.wire.specs.declared.refusal.LocalRefusal.{LocalRefusal}
use Rattle.wire.specs.declared.refusal.LocalRefusal.TheVariants.{BadStartup, Markers, NoRoom, OutOfRange, OverLimit}

-- what `same` says of the key at hand it says of the key expected
pub key_test : (bytes key expected : List ℕ) (r t : Bool) → key ≡ expected → r ≡ same (take 16 bytes) key → r ≡ t → same (take 16 bytes) expected ≡ t
key_test bytes key expected r t k e h = ap (λ (x : List ℕ). same (take 16 bytes) x) (sym k) ∙ sym e ∙ h

-- the flags that are written are read back, and ask for no markers
flags_read : (c r : Bool) → (flag_m (flags_of c r) ≡ false) × (flag_c (flags_of c r) ≡ c) × (flag_r (flags_of c r) ≡ r)
flags_read true true = (refl, refl, refl)
flags_read true false = (refl, refl, refl)
flags_read false true = (refl, refl, refl)
flags_read false false = (refl, refl, refl)

module _ (reply c r : Bool) (priv rest : List ℕ) (h : length priv ≤ max_private) where
  abbrev frame : List ℕ
  frame = startup_of reply c r priv ++ rest

  stated : be16_at frame 18 ≡ length priv
  unfolding startup_of
  stated = omega arith

  long : 20 + length priv ≤ length frame
  unfolding startup_of
  long = omega (arith, length-append priv rest)

  right : head_right reply frame ≡ true
  unfolding startup_of
  right = ap₂ both (same_refl (key_of reply)) (le-leb (be16_at frame 18) max_private (omega arith))

  flags : get_or frame 16 0 ≡ flags_of c r
  unfolding startup_of
  flags = refl

  -- for any private data within the limit, and any bytes after the frame
  pub startup_back : startup_read reply (startup_of reply c r priv ++ rest) ≡ Ok (Taken (20 + length priv) c (both reply r) 20 (length priv))
  unfolding startup_read startup_taken
  startup_back =
      rw right
      (simp (
        le-ltb (length frame) 20 (omega (arith, long)),
        flags,
        (flags_read c r).0,
        (flags_read c r).1,
        (flags_read c r).2,
        stated,
        le-ltb (length frame) (20 + length priv) long,
      ))

  pub private_back : part (startup_of reply c r priv ++ rest) 20 (length priv) ≡ priv
  unfolding startup_of
  private_back = take_at priv rest (length priv) refl

-- what a length that the writer answers tells
pub record Admitted (reply r : Bool) (n room k : ℕ) : Type 0 where
  pub told : both reply r ≡ r
  pub short : n ≤ max_private
  pub total : 20 + n ≡ k
  pub within : k ≤ room

-- where R is not that of a request, it counts as it is
pub counts : (reply x : Bool) → both (not reply) x ≡ false → both reply x ≡ x
counts true x e = refl
counts false x e = sym e

pub admitted : (reply r : Bool) (n room k : ℕ) → startup_written reply r n room ≡ Ok k → Admitted reply r n room k
unfolding startup_written
admitted reply r n room k = asked (both (not reply) r) refl
  where
    held : (b : Bool) → ltb room (20 + n) ≡ b → pick b (Err NoRoom) (Ok (20 + n)) ≡ Ok k → both (not reply) r ≡ false → n ≤ max_private → Admitted reply r n room k
    held true h e d l = absurd (let z : ◌≡◌ {A = ℕ} 0 1 = cc in omega arith)
    held false h e d l =
        let t : 20 + n ≡ k = cc in
        record { told = counts reply r d; short = l; total = t; within = subst (λ (x : ℕ). x ≤ room) t (ltb-false room (20 + n) h) }

    over : (b : Bool) → ltb max_private n ≡ b → pick b (Err OverLimit) (pick (ltb room (20 + n)) (Err NoRoom) (Ok (20 + n))) ≡ Ok k → both (not reply) r ≡ false → Admitted reply r n room k
    over true h e d = absurd (let z : ◌≡◌ {A = ℕ} 0 1 = cc in omega arith)
    over false h e d = held (ltb room (20 + n)) refl e d (ltb-false max_private n h)

    asked : (b : Bool) → both (not reply) r ≡ b → pick b (Err OutOfRange) (pick (ltb max_private n) (Err OverLimit) (pick (ltb room (20 + n)) (Err NoRoom) (Ok (20 + n)))) ≡ Ok k → Admitted reply r n room k
    asked true d e = absurd (let z : ◌≡◌ {A = ℕ} 0 1 = cc in omega arith)
    asked false d e = over (ltb max_private n) refl e d

-- of the writer's own contract: where it answers a length, the slice that it leaves is read back as what was given
module _ (reply c r : Bool) (priv out : List ℕ) (n : ℕ) (q : startup_written reply r (length priv) (length out) ≡ Ok n) where
  a : Admitted reply r (length priv) (length out) n
  a = admitted reply r (length priv) (length out) n q

  left : startup_out reply c r priv out ≡ startup_of reply c r priv ++ drop (length (startup_of reply c r priv)) out
  unfolding startup_out
  left = ap (λ (w : Result ℕ LocalRefusal). out_after w out (startup_of reply c r priv)) q

  pub startup_written_back : (startup_read reply (startup_out reply c r priv out) ≡ Ok (Taken n c r 20 (length priv))) × (part (startup_out reply c r priv out) 20 (length priv) ≡ priv)
  startup_written_back =
      let rest : List ℕ = drop (length (startup_of reply c r priv)) out in (
        ap (startup_read reply) left ∙ startup_back reply c r priv rest a.short ∙ ap₂ (λ (t : ℕ) (d : Bool). Ok (Taken t c d 20 (length priv))) a.total a.told,
        ap (λ (l : List ℕ). part l 20 (length priv)) left ∙ private_back reply c r priv rest a.short,
      )

-- what a taken frame tells
pub record Started (reply : Bool) (bytes : List ℕ) (t : ℕ) (c r : Bool) (s n : ℕ) : Type 0 where
  pub key : take 16 bytes ≡ key_of reply
  pub unmarked : get_or bytes 16 0 < 128
  pub crc : flag_c (get_or bytes 16 0) ≡ c
  pub declined : both reply (flag_r (get_or bytes 16 0)) ≡ r
  pub revision : get_or bytes 17 0 ≡ 1
  pub stated : be16_at bytes 18 ≡ n
  pub within : n ≤ max_private
  pub total : 20 + n ≡ t
  pub start : s ≡ 20
  pub whole : 20 + n ≤ length bytes

module _ (reply : Bool) (bytes : List ℕ) (t : ℕ) (c r : Bool) (s n : ℕ) where
  abbrev f : ℕ
  f = get_or bytes 16 0

  abbrev m : ℕ
  m = be16_at bytes 18

  pub started : startup_read reply bytes ≡ Ok (Taken t c r s n) → Started reply bytes t c r s n
  unfolding startup_read startup_taken
  started = enough (ltb (length bytes) 20) refl
    where
      there : (b : Bool) → ltb (length bytes) (20 + m) ≡ b → ◌≡◌ {A = Result StartupRead LocalRefusal} (Ok (pick b (Wait (20 + m)) (Taken (20 + m) (flag_c f) (both reply (flag_r f)) 20 m))) (Ok (Taken t c r s n)) → head_right reply bytes ≡ true → f < 128 → Started reply bytes t c r s n
      there true e q h k = absurd (let z : ◌≡◌ {A = ℕ} 0 1 = cc in omega arith)
      there false e q h k =
          let a = both_true (same (take 16 bytes) (key_of reply)) (both (eqb (get_or bytes 17 0) 1) (leb m max_private)) h in
          let d = both_true (eqb (get_or bytes 17 0) 1) (leb m max_private) a.1 in
          let v : m ≡ n = cc in
          record {
            key = same-eq (take 16 bytes) (key_of reply) a.0;
            unmarked = k;
            crc = cc;
            declined = cc;
            revision = eqb-true (get_or bytes 17 0) 1 d.0;
            stated = v;
            within = subst (λ (x : ℕ). x ≤ max_private) v (leb-true m max_private d.1);
            total = ap (λ (x : ℕ). 20 + x) (sym v) ∙ cc;
            start = cc;
            whole = subst (λ (x : ℕ). 20 + x ≤ length bytes) v (ltb-false (length bytes) (20 + m) e);
          }

      clear : (b : Bool) → flag_m f ≡ b → pick b (Err Markers) (Ok (startup_taken reply bytes)) ≡ Ok (Taken t c r s n) → head_right reply bytes ≡ true → Started reply bytes t c r s n
      clear true e q h = absurd (let z : ◌≡◌ {A = ℕ} 0 1 = cc in omega arith)
      clear false e q h = there (ltb (length bytes) (20 + m)) refl q h (leb-false 0x80 f e)

      headed : (b : Bool) → head_right reply bytes ≡ b → pick b (pick (flag_m f) (Err Markers) (Ok (startup_taken reply bytes))) (Err BadStartup) ≡ Ok (Taken t c r s n) → Started reply bytes t c r s n
      headed true e q = clear (flag_m f) refl q e
      headed false e q = absurd (let z : ◌≡◌ {A = ℕ} 0 1 = cc in omega arith)

      enough : (b : Bool) → ltb (length bytes) 20 ≡ b → pick b (Ok (Wait 20)) (pick (head_right reply bytes) (pick (flag_m f) (Err Markers) (Ok (startup_taken reply bytes))) (Err BadStartup)) ≡ Ok (Taken t c r s n) → Started reply bytes t c r s n
      enough true e q = absurd (let z : ◌≡◌ {A = ℕ} 0 1 = cc in omega arith)
      enough false e q = headed (head_right reply bytes) refl q

-- the private data lies in the bytes
pub private_inside : (reply : Bool) (bytes : List ℕ) (t : ℕ) (c r : Bool) (s n : ℕ) → startup_read reply bytes ≡ Ok (Taken t c r s n) → s + n ≤ length bytes
private_inside reply bytes t c r s n q = let k = started reply bytes t c r s n q in omega (arith, k.start, k.whole)

-- flags with M and the reserved bits clear are C and R
flags_are : (f : ℕ) → f < 128 → f % 32 ≡ 0 → f ≡ flags_of (flag_c f) (flag_r f)
flags_are f h e = go (f / 32) (omega arith)
  where
    go : (q : ℕ) → f ≡ q * 32 → f ≡ flags_of (flag_c f) (flag_r f)
    go zero d = subst (λ (x : ℕ). x ≡ flags_of (flag_c x) (flag_r x)) (sym d) refl
    go (suc zero) d = subst (λ (x : ℕ). x ≡ flags_of (flag_c x) (flag_r x)) (sym d) refl
    go (suc (suc zero)) d = subst (λ (x : ℕ). x ≡ flags_of (flag_c x) (flag_r x)) (sym d) refl
    go (suc (suc (suc zero))) d = subst (λ (x : ℕ). x ≡ flags_of (flag_c x) (flag_r x)) (sym d) refl
    go (suc (suc (suc (suc q)))) d = absurd (omega arith)

-- a taken frame whose reserved bits are zero, R of a request among them, is the one that we would write of what was taken
module _ (reply : Bool) (bytes : List ℕ) (b : Bytes bytes) (t : ℕ) (c r : Bool) (s n : ℕ) (q : startup_read reply bytes ≡ Ok (Taken t c r s n)) where
  k : Started reply bytes t c r s n
  k = started reply bytes t c r s n q

  module _ (reserved : get_or bytes 16 0 % 32 ≡ 0) (request : both (not reply) (flag_r (get_or bytes 16 0)) ≡ false) where
    size : length (part bytes 20 n) ≡ n
    size = length_part bytes 20 n k.whole

    flags_there : get_or bytes 16 0 ≡ flags_of c r
    flags_there = flags_are (get_or bytes 16 0) k.unmarked reserved ∙ ap₂ flags_of k.crc (sym (counts reply (flag_r (get_or bytes 16 0)) request) ∙ k.declined)

    two : part bytes 16 2 ≡ flags_of c r ∷ 1 ∷ []
    two =
        part-one bytes 16 1 (omega (arith, k.whole))
        ∙ ap₂ (λ (x : ℕ) (y : List ℕ). x ∷ y) flags_there (part-one bytes 17 0 (omega (arith, k.whole)) ∙ ap (λ (x : ℕ). x ∷ []) k.revision)

    pub startup_canonical : take t bytes ≡ startup_of reply c r (part bytes s n)
    unfolding startup_of
    startup_canonical =
        ap (λ (x : ℕ). take x bytes) (sym k.total)
        ∙ part-add bytes 0 20 n
        ∙ ap (λ (x : List ℕ). x ++ part bytes 20 n) (part-add bytes 0 18 2 ∙ ap (λ (x : List ℕ). x ++ part bytes 18 2) (part-add bytes 0 16 2))
        ∙ ap₂ (λ (x y : List ℕ). x ++ y)
        (ap₂ (λ (x y : List ℕ). x ++ y) (ap₂ (λ (x y : List ℕ). x ++ y) k.key two)
        (sym (be16-be16_at bytes 18 b (omega (arith, k.whole))) ∙ ap be16 (k.stated ∙ sym (ap (λ (x : ℕ). length (part bytes x n)) k.start ∙ size))))
        (ap (λ (x : ℕ). part bytes x n) (sym k.start))
