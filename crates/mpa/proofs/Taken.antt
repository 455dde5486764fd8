-- FPDUs: a taken frame's CRC bytes are the definition's, and with zero padding it is the frame that would be written of its ULPDU.
-- Assumes nothing.
use mathlib.Core.Path.{◌≡◌, refl, sym, ap, ap₂, ◌∙◌, subst}
use mathlib.Core.Bool.{Bool, true, false, not}
use mathlib.Core.List.{List, ◌++◌}
use Prim.Native.Nat.{ℕ, ◌+◌, ◌≤◌}
use native.Mathlib.Nat.{zero-add}
use native.Mathlib.Omega.{arith}
use lib.Dec.{ltb}
use lib.ListN.{length, take, replicate}
use borrow.Author.Tests.{ltb-false, eqb-true, not-false}
use Rattle.wire.specs.Wire.{pick, both, part, be16, be16_at, le32, le32_at}
use Rattle.wire.proofs.Laws.{Bytes, be16-be16_at, le32-le32_at, part-add, length_part}
use Rattle.crc32c.specs.Crc.{crc_of}
use Rattle.mpa.specs.Fpdu.{max_ulpdu, pad_of, covered_of, total_of, covered, fpdu_of, fpdu_read_of, fpdu_read, crc_right}
use Rattle.mpa.specs.declared.FpduRead.{FpduRead}
use Rattle.mpa.specs.declared.FpduRead.TheVariants.{Wait, Taken}
use Rattle.std.specs.Prelude.{Err, Ok, Result}
use Rattle.mpa.specs.declared.FpduFault.{FpduFault}
use Rattle.mpa.specs.declared.FpduFault.TheVariants.{CrcError, UlpduTooLong}

-- what a taken frame tells
pub record Took (on : Bool) (bytes : List ℕ) (t s n : ℕ) : Type 0 where
  pub stated : be16_at bytes 0 ≡ n
  pub within : n ≤ max_ulpdu
  pub total : total_of n ≡ t
  pub start : s ≡ 2
  pub whole : total_of n ≤ length bytes
  pub crc : on ≡ true → le32_at bytes (covered_of n) ≡ crc_of (take (covered_of n) bytes)

module _ (on : Bool) (bytes : List ℕ) (t s n : ℕ) where
  abbrev m : ℕ
  m = be16_at bytes 0

  pub took : fpdu_read on bytes ≡ Ok (Taken t s n) → Took on bytes t s n
  unfolding fpdu_read fpdu_read_of
  took = two (ltb (length bytes) 2) refl
    where
      done : ◌≡◌ {A = Result FpduRead FpduFault} (Ok (Taken (total_of m) 2 m)) (Ok (Taken t s n)) → m ≤ max_ulpdu → total_of m ≤ length bytes → (on ≡ true → crc_right bytes m ≡ true) → Took on bytes t s n
      done q h l k =
          let e : m ≡ n = cc in
          record {
            stated = e;
            within = subst (λ (x : ℕ). x ≤ max_ulpdu) e h;
            total = ap total_of (sym e) ∙ cc;
            start = cc;
            whole = subst (λ (x : ℕ). total_of x ≤ length bytes) e l;
            crc = λ o. eqb-true _ _ (subst (λ (x : ℕ). crc_right bytes x ≡ true) e (k o));
          }

      checked : (b c : Bool) → both on (not c) ≡ b → crc_right bytes m ≡ c → pick b (Err CrcError) (Ok (Taken (total_of m) 2 m)) ≡ Ok (Taken t s n) → m ≤ max_ulpdu → total_of m ≤ length bytes → Took on bytes t s n
      checked true c e d q h l = absurd (let z : ◌≡◌ {A = ℕ} 0 1 = cc in omega arith)
      checked false c e d q h l = done q h l (λ o. d ∙ not-false c (subst (λ (x : Bool). both x (not c) ≡ false) o e))

      there : (b : Bool) → ltb (length bytes) (total_of m) ≡ b → pick b (Ok (Wait (total_of m))) (pick (both on (not (crc_right bytes m))) (Err CrcError) (Ok (Taken (total_of m) 2 m))) ≡ Ok (Taken t s n) → m ≤ max_ulpdu → Took on bytes t s n
      there true e q h = absurd (let z : ◌≡◌ {A = ℕ} 0 1 = cc in omega arith)
      there false e q h = checked (both on (not (crc_right bytes m))) (crc_right bytes m) refl refl q h (ltb-false (length bytes) (total_of m) e)

      short : (b : Bool) → ltb max_ulpdu m ≡ b → pick b (Err UlpduTooLong) (pick (ltb (length bytes) (total_of m)) (Ok (Wait (total_of m))) (pick (both on (not (crc_right bytes m))) (Err CrcError) (Ok (Taken (total_of m) 2 m)))) ≡ Ok (Taken t s n) → Took on bytes t s n
      short true e q = absurd (let z : ◌≡◌ {A = ℕ} 0 1 = cc in omega arith)
      short false e q = there (ltb (length bytes) (total_of m)) refl q (ltb-false max_ulpdu m e)

      two : (b : Bool) → ltb (length bytes) 2 ≡ b → pick b (Ok (Wait 2)) (fpdu_read_of on bytes m) ≡ Ok (Taken t s n) → Took on bytes t s n
      two true e q = absurd (let z : ◌≡◌ {A = ℕ} 0 1 = cc in omega arith)
      two false e q = short (ltb max_ulpdu m) refl q

-- the ULPDU lies in the bytes
pub ulpdu_inside : (on : Bool) (bytes : List ℕ) (t s n : ℕ) → fpdu_read on bytes ≡ Ok (Taken t s n) → s + n ≤ length bytes
ulpdu_inside on bytes t s n q = let k = took on bytes t s n q in omega (arith, k.start, k.whole)

-- with the CRC on, the four CRC bytes of a taken frame are the definition's, the least significant first
module _ (bytes : List ℕ) (b : Bytes bytes) (t s n : ℕ) (q : fpdu_read true bytes ≡ Ok (Taken t s n)) where
  k : Took true bytes t s n
  k = took true bytes t s n q

  pub crc_bytes : part bytes (covered_of n) 4 ≡ le32 (crc_of (take (covered_of n) bytes))
  crc_bytes = sym (le32-le32_at bytes (covered_of n) b k.whole) ∙ ap le32 (k.crc refl)

  -- any FPDU that is taken is, byte for byte, the one that we would write of that ULPDU
  module _ (zeros : part bytes (2 + n) (pad_of n) ≡ replicate (pad_of n) 0) where
    size : length (part bytes 2 n) ≡ n
    size = length_part bytes 2 n (omega (arith, k.whole))

    front : take (covered_of n) bytes ≡ covered (part bytes 2 n)
    unfolding covered
    front =
        part-add bytes 0 (2 + n) (pad_of n)
        ∙ ap₂ (λ (x y : List ℕ). x ++ y)
        (part-add bytes 0 2 n ∙ ap (λ (x : List ℕ). x ++ part bytes 2 n) (sym (be16-be16_at bytes 0 b (omega (arith, k.whole))) ∙ ap be16 (k.stated ∙ sym size)))
        (ap (λ (x : ℕ). part bytes x (pad_of n)) (zero-add (2 + n)) ∙ zeros ∙ ap (λ (x : ℕ). replicate (pad_of x) 0) (sym size))

    pub canonical : take t bytes ≡ fpdu_of (part bytes s n)
    unfolding fpdu_of
    canonical =
        ap (λ (x : ℕ). take x bytes) (sym k.total)
        ∙ part-add bytes 0 (covered_of n) 4
        ∙ ap₂ (λ (x y : List ℕ). x ++ y) front
        (ap (λ (x : ℕ). part bytes x 4) (zero-add (covered_of n)) ∙ crc_bytes ∙ ap (λ (x : List ℕ). le32 (crc_of x)) front)
        ∙ ap (λ (x : ℕ). fpdu_of (part bytes x n)) (sym k.start)
