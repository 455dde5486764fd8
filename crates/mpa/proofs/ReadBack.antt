-- FPDUs: what is written is read back as it was given.
-- Assumes nothing.
use mathlib.Core.Path.{◌≡◌, refl, sym, ap, ◌∙◌, subst}
use mathlib.Core.Bool.{Bool, true, false, not}
use mathlib.Core.List.{List, ◌++◌, append_assoc}
use Prim.Native.Nat.{ℕ, ◌+◌, ◌≤◌, ◌<◌}
use native.Mathlib.Nat.{add-zero}
use native.Mathlib.Omega.{arith}
use lib.Dec.{ltb}
use lib.ListN.{length, take, drop, replicate, length-append}
use lib.Seq.{take_at}
use borrow.Author.Tests.{ltb-false, le-ltb, eq-eqb}
use Rattle.wire.specs.Wire.{pick, both, part, be16_at, le32, le32_at}
use Rattle.crc32c.specs.Crc.{crc_of}
use Rattle.mpa.specs.Fpdu.{max_ulpdu, pad_of, covered_of, total_of, covered, fpdu_of, fpdu_written, out_after, fpdu_out, fpdu_read_of, fpdu_read, crc_right}
use Rattle.mpa.specs.declared.FpduRead.TheVariants.{Wait, Taken}
use Rattle.wire.proofs.Laws.{le32_at_agree, agree_append, le32_at-le32}
use Rattle.crc_bits.proofs.Range.{crc_lt}
use Rattle.mpa.proofs.Frames.{length-covered, length_fpdu}
use Rattle.std.specs.Prelude.{Err, Ok, Result}
use Rattle.wire.specs.declared.refusal.LocalRefusal.{LocalRefusal}
use Rattle.wire.specs.declared.refusal.LocalRefusal.TheVariants.{NoRoom, OverLimit}

module _ (u rest : List ℕ) where
  -- the frame: what the CRC covers, the CRC, and what comes after
  split : fpdu_of u ++ rest ≡ covered u ++ (le32 (crc_of (covered u)) ++ rest)
  unfolding fpdu_of
  split = append_assoc (covered u) (le32 (crc_of (covered u))) rest

  long : total_of (length u) ≤ length (fpdu_of u ++ rest)
  long = omega (arith, length-append (fpdu_of u) rest, length_fpdu u)

  -- under any limit that the two bytes of the length hold
  stated : (limit : ℕ) → limit < 65536 → length u ≤ limit → be16_at (fpdu_of u ++ rest) 0 ≡ length u
  unfolding fpdu_of covered
  stated limit two h = omega arith

  -- the four bytes after what the CRC covers
  crc_read : le32_at (covered u ++ (le32 (crc_of (covered u)) ++ rest)) (covered_of (length u)) ≡ crc_of (covered u)
  crc_read =
      let tail = le32 (crc_of (covered u)) ++ rest in
      ap (le32_at (covered u ++ tail)) (sym (length-covered u) ∙ sym (add-zero (length (covered u))))
      ∙ le32_at_agree (covered u ++ tail) (length (covered u) + 0) tail 0 (agree_append 4 (covered u) tail 0)
      ∙ le32_at-le32 (crc_of (covered u)) rest (crc_lt (covered u))

  crc_there : crc_right (fpdu_of u ++ rest) (length u) ≡ true
  crc_there =
      eq-eqb _ _
      (ap (λ (l : List ℕ). le32_at l (covered_of (length u))) split
      ∙ crc_read
      ∙ ap crc_of (sym (ap (take (covered_of (length u))) split ∙ take_at (covered u) _ (covered_of (length u)) (length-covered u))))

  -- for every ULPDU within the limit, CRC on or off, and any bytes after the frame
  pub read_back : (on : Bool) → length u ≤ max_ulpdu → fpdu_read on (fpdu_of u ++ rest) ≡ Ok (Taken (total_of (length u)) 2 (length u))
  unfolding fpdu_read fpdu_read_of
  read_back on h =
      let n = length u in
      let bytes = fpdu_of u ++ rest in
      ap (λ (b : Bool). pick b (Ok (Wait 2)) (fpdu_read_of on bytes (be16_at bytes 0))) (le-ltb (length bytes) 2 (omega (arith, long)))
      ∙ ap (fpdu_read_of on bytes) (stated max_ulpdu (omega arith) h)
      ∙ simp (le-ltb max_ulpdu n h, le-ltb (length bytes) (total_of n) long, crc_there, passes on)
    where
      passes : (b : Bool) → both b (not true) ≡ false
      passes true = refl
      passes false = refl

  pub given_back : part (fpdu_of u ++ rest) 2 (length u) ≡ u
  unfolding fpdu_of covered
  given_back =
      ap (take (length u)) (append_assoc (u ++ replicate (pad_of (length u)) 0) _ rest ∙ append_assoc u (replicate (pad_of (length u)) 0) _)
      ∙ take_at u _ (length u) refl

-- what a length that the writer answers tells
pub record Accepted (n room k : ℕ) : Type 0 where
  pub short : n ≤ max_ulpdu
  pub total : total_of n ≡ k
  pub within : k ≤ room

pub accepted : (n room k : ℕ) → fpdu_written n room ≡ Ok k → Accepted n room k
unfolding fpdu_written
accepted n room k = over (ltb max_ulpdu n) refl
  where
    held : (b : Bool) → ltb room (total_of n) ≡ b → pick b (Err NoRoom) (Ok (total_of n)) ≡ Ok k → n ≤ max_ulpdu → Accepted n room k
    held true h e l = absurd (let z : ◌≡◌ {A = ℕ} 0 1 = cc in omega arith)
    held false h e l =
        let t : total_of n ≡ k = cc in
        record { short = l; total = t; within = subst (λ (x : ℕ). x ≤ room) t (ltb-false room (total_of n) h) }

    over : (b : Bool) → ltb max_ulpdu n ≡ b → pick b (Err OverLimit) (pick (ltb room (total_of n)) (Err NoRoom) (Ok (total_of n))) ≡ Ok k → Accepted n room k
    over true h e = absurd (let z : ◌≡◌ {A = ℕ} 0 1 = cc in omega arith)
    over false h e = held (ltb room (total_of n)) refl e (ltb-false max_ulpdu n h)

-- of the writer's own contract: where it answers a length, the slice that it leaves is read back as what was given
module _ (u out : List ℕ) (n : ℕ) (q : fpdu_written (length u) (length out) ≡ Ok n) where
  a : Accepted (length u) (length out) n
  a = accepted (length u) (length out) n q

  left : fpdu_out u out ≡ fpdu_of u ++ drop (length (fpdu_of u)) out
  unfolding fpdu_out
  left = ap (λ (w : Result ℕ LocalRefusal). out_after w out (fpdu_of u)) q

  pub written_back : (on : Bool) → (fpdu_read on (fpdu_out u out) ≡ Ok (Taken n 2 (length u))) × (part (fpdu_out u out) 2 (length u) ≡ u)
  written_back on = (
    ap (fpdu_read on) left ∙ read_back u (drop (length (fpdu_of u)) out) on a.short ∙ ap (λ (t : ℕ). Ok (Taken t 2 (length u))) a.total,
    ap (λ (l : List ℕ). part l 2 (length u)) left ∙ given_back u (drop (length (fpdu_of u)) out),
  )
