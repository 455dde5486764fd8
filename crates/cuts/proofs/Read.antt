-- The first FPDU of some bytes: which of four kinds they are, what is read of each, and that of a whole FPDU nothing is read but its own bytes.
use Prim.Native.Nat.{ℕ, ◌+◌, ◌-◌, ◌≤◌, ◌<◌}
use mathlib.Core.Path.{◌≡◌, refl, sym, ap, ap₂, ◌∙◌}
use mathlib.Core.Bool.{Bool, true, false, not}
use mathlib.Core.List.{List}
use native.Mathlib.Omega.{arith}
use lib.ListN.{length, take, drop}
use lib.Seq.{drop_at, take-take, take-add, length-take-le}
use lib.Dec.{ltb, eqb}
use borrow.Author.Tests.{ltb-true, ltb-false, lt-ltb, le-ltb}
use Rattle.wire.specs.Wire.{pick, both, part, be16_at}
use Rattle.wire.proofs.Laws.{be16_at-take, le32_at-take}
use Rattle.crc32c.specs.Crc.{crc_of}
use Rattle.mpa.specs.Fpdu.{max_ulpdu, covered_of, total_of, crc_right, fpdu_read_of, fpdu_read}
use Rattle.mpa.specs.declared.FpduRead.{FpduRead}
use Rattle.mpa.specs.declared.FpduRead.TheVariants.{Wait as FpduWait, Taken}
use Rattle.ddp.specs.Refusal.{ulpdu_too_long}
use Rattle.ddp.specs.Header.{header_read}
use Rattle.ddp.specs.Segment.{segment_of, segment_from, segment_read}
use Rattle.ddp.specs.declared.segment.SegmentRead.TheVariants.{Wait}
use Rattle.std.specs.Prelude.{Err, Ok, Result}
use Rattle.mpa.specs.declared.FpduFault.{FpduFault}
use Rattle.mpa.specs.declared.FpduFault.TheVariants.{CrcError}

-- the FPDU's total, as its first two bytes say
abbrev pub size_of : List ℕ → ℕ
size_of p = total_of (be16_at p 0)

-- a ULPDU that is too long, whatever else is there
pub record Long (p : List ℕ) : Type 0 where
  pub begun : 2 ≤ length p
  pub high : max_ulpdu < be16_at p 0

-- a part of an FPDU
pub record Begun (p : List ℕ) : Type 0 where
  pub begun : 2 ≤ length p
  pub low : be16_at p 0 ≤ max_ulpdu
  pub less : length p < size_of p

-- a whole one
pub record Whole (p : List ℕ) : Type 0 where
  pub low : be16_at p 0 ≤ max_ulpdu
  pub all : size_of p ≤ length p

pub data Kind (p : List ℕ) : Type 0 where
  few : length p < 2 → Kind p
  long : Long p → Kind p
  begun : Begun p → Kind p
  whole : Whole p → Kind p

pub kind_of : (p : List ℕ) → Kind p
kind_of p = go (ltb (length p) 2) (ltb max_ulpdu (be16_at p 0)) (ltb (length p) (size_of p)) refl refl refl
  where
    go : (a b c : Bool) → ltb (length p) 2 ≡ a → ltb max_ulpdu (be16_at p 0) ≡ b → ltb (length p) (size_of p) ≡ c → Kind p
    go true b c u v w = few (ltb-true _ _ u)
    go false true c u v w = long (record { begun = ltb-false _ _ u; high = ltb-true _ _ v })
    go false false true u v w = begun (record { begun = ltb-false _ _ u; low = ltb-false _ _ v; less = ltb-true _ _ w })
    go false false false u v w = whole (record { low = ltb-false _ _ v; all = ltb-false _ _ w })

module _ (crc : Bool) (p : List ℕ) where
  pub few_read : length p < 2 → segment_read crc p ≡ Ok (Wait 2)
  unfolding segment_read fpdu_read
  few_read h = ap (λ (b : Bool). segment_from p (pick b (Ok (FpduWait 2)) (fpdu_read_of crc p (be16_at p 0)))) (lt-ltb (length p) 2 h)

  there : 2 ≤ length p → fpdu_read crc p ≡ fpdu_read_of crc p (be16_at p 0)
  unfolding fpdu_read
  there h = ap (λ (b : Bool). pick b (Ok (FpduWait 2)) (fpdu_read_of crc p (be16_at p 0))) (le-ltb (length p) 2 h)

  pub long_read : Long p → segment_read crc p ≡ Err ulpdu_too_long
  unfolding segment_read fpdu_read_of
  long_read k = ap (segment_from p) (there k.begun) ∙ simp (lt-ltb max_ulpdu (be16_at p 0) k.high)

  pub begun_read : Begun p → segment_read crc p ≡ Ok (Wait (size_of p))
  unfolding segment_read fpdu_read_of
  begun_read k = ap (segment_from p) (there k.begun) ∙ simp (le-ltb max_ulpdu (be16_at p 0) k.low, lt-ltb (length p) (size_of p) k.less)

  -- of a whole FPDU of n bytes of ULPDU: its CRC is asked, and then its header
  abbrev pub checked_read : ℕ → Result FpduRead FpduFault
  checked_read n = pick (both crc (not (crc_right p n))) (Err CrcError) (Ok (Taken (total_of n) 2 n))

  pub whole_read : Whole p → fpdu_read crc p ≡ checked_read (be16_at p 0)
  unfolding fpdu_read_of
  whole_read k =
      there (omega (arith, k.all)) ∙ simp (le-ltb max_ulpdu (be16_at p 0) k.low, le-ltb (length p) (size_of p) k.all)

-- ---- a whole FPDU, and others that begin with it

-- some of the first bytes
pub part-take : (m : ℕ) (p : List ℕ) (start len : ℕ) → start + len ≤ m → m ≤ length p → part (take m p) start len ≡ part p start len
part-take m p start len h l =
    let sum : start + (m - start) ≡ m = omega (arith, h) in
    ap (λ (k : ℕ). part (take k p) start len) (sym sum)
    ∙ ap (λ (x : List ℕ). part x start len) (take-add start (m - start) p)
    ∙ ap (take len) (drop_at (take start p) (take (m - start) (drop start p)) start (length-take-le start p (omega (arith, h, l))))
    ∙ take-take len (m - start) (drop start p) (omega (arith, h))

module _ (p : List ℕ) (k : Whole p) where
  abbrev pub own : List ℕ
  own = take (size_of p) p

  pub own-long : length own ≡ size_of p
  own-long = length-take-le (size_of p) p k.all

  pub own-size : be16_at own 0 ≡ be16_at p 0
  own-size = be16_at-take (size_of p) p 0 (omega arith)

  pub own-whole : Whole own
  own-whole = record { low = rw own-size k.low; all = rw (own-size, own-long) (omega arith) }

  crc_same : crc_right own (be16_at p 0) ≡ crc_right p (be16_at p 0)
  crc_same =
      ap₂ (λ (a : ℕ) (l : List ℕ). eqb a (crc_of l)) (le32_at-take (size_of p) p (covered_of (be16_at p 0)) (omega arith))
      (take-take (covered_of (be16_at p 0)) (size_of p) p (omega arith))

  pub own_read : (crc : Bool) → segment_read crc own ≡ segment_read crc p
  unfolding segment_read
  own_read crc =
      let n : ℕ = be16_at p 0 in
      ap (segment_from own) (whole_read crc own own-whole ∙ ap (checked_read crc own) own-size ∙ ap (λ (b : Bool). pick (both crc (not b)) (Err CrcError) (Ok (Taken (total_of n) 2 n))) crc_same)
      ∙ go (both crc (not (crc_right p n)))
      ∙ ap (segment_from p) (sym (whole_read crc p k))
    where
      go : (b : Bool) → segment_from own (pick b (Err CrcError) (Ok (Taken (size_of p) 2 (be16_at p 0)))) ≡ segment_from p (pick b (Err CrcError) (Ok (Taken (size_of p) 2 (be16_at p 0))))
      go true = refl
      go false = ap (λ (l : List ℕ). segment_of (size_of p) 2 (be16_at p 0) (header_read l)) (part-take (size_of p) p 2 (be16_at p 0) (omega arith) k.all)
