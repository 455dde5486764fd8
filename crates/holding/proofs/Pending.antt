-- What an open stream makes of pending bytes: it waits exactly where they are too few, and of more than are needed the needed ones alone count.
-- By the four kinds of bytes that proofs/Read.antt of the crate `cuts` has.
use Prim.Native.Nat.{ℕ, ◌≤◌, ◌<◌}
use mathlib.Core.Path.{◌≡◌, refl, sym, ap, subst, ◌∙◌}
use mathlib.Core.Bool.{Bool, true, false}
use mathlib.Core.List.{List}
use native.Mathlib.Nat.{le_refl}
use native.Mathlib.Omega.{arith}
use lib.ListN.{length, take}
use lib.Seq.{length-take-le}
use lib.Dec.{ltb}
use borrow.Author.Tests.{ltb-true, ltb-false, lt-ltb, le-ltb}
use Rattle.wire.specs.Wire.{pick, be16_at}
use Rattle.wire.proofs.Laws.{be16_at-take}
use Rattle.mpa.specs.Fpdu.{max_ulpdu, needed_for}
use Rattle.mpa.proofs.Length.{total-two, needed-low, needed_limit}
use Rattle.memory.specs.declared.part.Part.{Part}
use Rattle.memory.specs.declared.window.Window.{Window}
use Rattle.ddp.specs.Segment.{segment_read}
use Rattle.ddp.specs.declared.segment.SegmentRead.{SegmentRead}
use Rattle.ddp.specs.declared.segment.SegmentRead.TheVariants.{Wait as SegmentWait}
use Rattle.rdmap.specs.declared.stream.Stream.{Stream}
use Rattle.arrival.specs.Parts.{parts_applied, parts_judged, parts_placed, parts_answered, parts_unchanged}
use Rattle.arrival.specs.declared.Answer.{Answer}
use Rattle.arrival.specs.declared.Answer.TheVariants.{Wait, Taken, Ended}
use Rattle.arrival.specs.declared.parts.PartsReceived.{PartsReceived}
use Rattle.arrival.proofs.Inside.{segment_inside}
use Rattle.arrival.proofs.Inside.{ends as end_of}
use Rattle.cuts.proofs.Read.{size_of, Long, Begun, Whole, Kind, kind_of, few_read, long_read, begun_read, own_read}
use Rattle.cuts.proofs.Read.Kind.{few, long, begun, whole}
use Rattle.cuts.proofs.Received.{Judges, same_payload, whole_judges}
use Rattle.holding.specs.Pending.{room_bytes, needed_of, is_short}
use Rattle.std.specs.Prelude.{Err, Ok, Result}
use Rattle.ddp.specs.declared.refusal.Refusal.{Refusal}
use Rattle.wire.specs.declared.refusal.LocalRefusal.{LocalRefusal}

-- ---- how many bytes are needed, by the kind

module _ (p : List ℕ) where
  needed_few : length p < 2 → needed_of p ≡ 2
  unfolding needed_of
  needed_few h = ap (λ (b : Bool). pick b 2 (needed_for (be16_at p 0))) (lt-ltb (length p) 2 h)

  needed-there : 2 ≤ length p → needed_of p ≡ needed_for (be16_at p 0)
  unfolding needed_of
  needed-there h = ap (λ (b : Bool). pick b 2 (needed_for (be16_at p 0))) (le-ltb (length p) 2 h)

  needed-long : Long p → needed_of p ≡ 2
  needed-long k = needed-there k.begun ∙ ap (λ (b : Bool). pick b 2 (size_of p)) (lt-ltb max_ulpdu (be16_at p 0) k.high)

  needed-size : 2 ≤ length p → be16_at p 0 ≤ max_ulpdu → needed_of p ≡ size_of p
  needed-size h low = needed-there h ∙ ap (λ (b : Bool). pick b 2 (size_of p)) (le-ltb max_ulpdu (be16_at p 0) low)

  -- at least two, and at most the longest FPDU
  pub needed_bounds : (2 ≤ needed_of p) × (needed_of p ≤ room_bytes)
  unfolding needed_of
  needed_bounds = go (ltb (length p) 2)
    where
      go : (b : Bool) → (2 ≤ pick b 2 (needed_for (be16_at p 0))) × (pick b 2 (needed_for (be16_at p 0)) ≤ room_bytes)
      go true = (le_refl 2, total-two max_ulpdu)
      go false = (needed-low max_ulpdu (be16_at p 0), needed_limit max_ulpdu (be16_at p 0))

  -- too few: none of an FPDU's length, or a part of one
  pub data Few : Type 0 where
    under : length p < 2 → Few
    part : Begun p → Few

  -- enough: a length over the limit, or a whole FPDU
  pub data Enough : Type 0 where
    over : Long p → Enough
    all : Whole p → Enough

  pub short_few : is_short p ≡ true → Few
  unfolding is_short
  short_few e = go (kind_of p)
    where
      less : length p < needed_of p
      less = ltb-true (length p) (needed_of p) e

      go : Kind p → Few
      go (few h) = under h
      go (long k) = absurd (omega (arith, less, needed-long k, k.begun))
      go (begun k) = part k
      go (whole k) = absurd (omega (arith, less, needed-size (omega (arith, k.all)) k.low, k.all))

  pub long-enough : is_short p ≡ false → Enough
  unfolding is_short
  long-enough e = go (kind_of p)
    where
      more : needed_of p ≤ length p
      more = ltb-false (length p) (needed_of p) e

      go : Kind p → Enough
      go (few h) = absurd (omega (arith, more, needed_few h, h))
      go (long k) = over k
      go (begun k) = absurd (omega (arith, more, needed-size k.begun k.low, k.less))
      go (whole k) = all k

  pub short_read : (crc : Bool) → is_short p ≡ true → segment_read crc p ≡ Ok (SegmentWait (needed_of p))
  short_read crc e = go (short_few e)
    where
      go : Few → segment_read crc p ≡ Ok (SegmentWait (needed_of p))
      go (under h) = few_read crc p h ∙ ap (λ (n : ℕ). Ok (SegmentWait n)) (sym (needed_few h))
      go (part k) = begun_read crc p k ∙ ap (λ (n : ℕ). Ok (SegmentWait n)) (sym (needed-size k.begun k.low))

  -- enough: the segment is that of the needed bytes
  pub enough_read : (crc : Bool) → is_short p ≡ false → segment_read crc (take (needed_of p) p) ≡ segment_read crc p
  enough_read crc e = go (long-enough e)
    where
      go : Enough → segment_read crc (take (needed_of p) p) ≡ segment_read crc p
      go (over k) =
          let q : List ℕ = take 2 p in
          let same : be16_at q 0 ≡ be16_at p 0 = be16_at-take 2 p 0 (omega arith) in
          let long-q : Long q = record { begun = omega (arith, length-take-le 2 p k.begun); high = rw same k.high } in
          ap (λ (n : ℕ). segment_read crc (take n p)) (needed-long k) ∙ long_read crc q long-q ∙ sym (long_read crc p k)
      go (all k) = ap (λ (n : ℕ). segment_read crc (take n p)) (needed-size (omega (arith, k.all)) k.low) ∙ own_read p k crc

-- ---- what an open stream makes of them

-- an FPDU was taken, or the stream ended
abbrev pub Decided : Result Answer LocalRefusal → Type 0
Decided (Ok (Wait n)) = ⊥
Decided (Ok (Taken total e)) = Unit {0}
Decided (Ok (Ended r)) = Unit {0}
Decided (Err k) = ⊥

judged_decided : (total : ℕ) (a : Result Answer LocalRefusal) → Judges total a → Decided a
judged_decided total (Ok (Wait n)) j = j
judged_decided total (Ok (Taken m e)) j = tt
judged_decided total (Ok (Ended r)) j = tt
judged_decided total (Err k) j = j

module _ (part : Part) (ws : List Window) (number : ℕ) (s : Stream) (crc : Bool) (bytes p : List ℕ) where
  abbrev pub answered_of : List ℕ → PartsReceived
  answered_of q = parts_answered s (parts_judged ws number s q (segment_read crc q))

  abbrev pub placed_of : List ℕ → List ℕ
  placed_of q = parts_placed part ws number s q bytes (segment_read crc q)

  -- too few: it waits, and nothing changes
  pub short_waits : is_short p ≡ true → (answered_of p ≡ parts_unchanged s (Ok (Wait (needed_of p)))) × (placed_of p ≡ bytes)
  short_waits e =
      let r = short_read p crc e in
      (ap (λ (x : Result SegmentRead Refusal). parts_answered s (parts_judged ws number s p x)) r, ap (parts_placed part ws number s p bytes) r)

  -- enough: an FPDU is taken, or ends the stream
  pub enough_judges : is_short p ≡ false → Decided (answered_of p).answer
  unfolding parts_applied
  enough_judges e = go (long-enough p e)
    where
      go : Enough p → Decided (answered_of p).answer
      go (over k) = subst Decided (sym (ap (λ (x : Result SegmentRead Refusal). (parts_answered s (parts_judged ws number s p x)).answer) (long_read crc p k))) tt
      go (all k) = judged_decided (size_of p) (answered_of p).answer (whole_judges ws number s p k crc)

  -- so it waits where they are too few, and nowhere else
  pub waits_short : (n : ℕ) → (answered_of p).answer ≡ Ok (Wait n) → is_short p ≡ true
  waits_short n w = go (is_short p) refl
    where
      go : (b : Bool) → is_short p ≡ b → b ≡ true
      go true e = refl
      go false e = absurd (subst Decided w (enough_judges e))

  pub decided_enough : Decided (answered_of p).answer → is_short p ≡ false
  decided_enough d = go (is_short p) refl
    where
      go : (b : Bool) → is_short p ≡ b → b ≡ false
      go true e = absurd (subst Decided (ap (λ (r : PartsReceived). r.answer) (short_waits e).0) d)
      go false e = refl

  -- and a local refusal it never answers
  pub never_refused : (k : LocalRefusal) → (answered_of p).answer ≡ Err k → ⊥
  never_refused k w = go (is_short p) refl
    where
      go : (b : Bool) → is_short p ≡ b → ⊥
      go true e = let r : Ok (Wait (needed_of p)) ≡ Err k = sym (ap (λ (r : PartsReceived). r.answer) (short_waits e).0) ∙ w in let no : ◌≡◌ {A = ℕ} 0 1 = cc in omega arith
      go false e = subst Decided w (enough_judges e)

  -- enough: the needed bytes alone count
  pub enough-own : is_short p ≡ false → (answered_of (take (needed_of p) p) ≡ answered_of p) × (placed_of (take (needed_of p) p) ≡ placed_of p)
  unfolding is_short
  enough-own e =
      let m : ℕ = needed_of p in
      let x : (Result SegmentRead Refusal) = segment_read crc p in
      let more : m ≤ length p = ltb-false (length p) m e in
      let r : segment_read crc (take m p) ≡ x = enough_read p crc e in
      let inside : end_of x ≤ m = subst (λ (z : Result SegmentRead Refusal). end_of z ≤ m) r (omega (arith, segment_inside crc (take m p), length-take-le m p more)) in
      let same = same_payload part ws number s bytes m p x more inside in
      (ap (λ (z : Result SegmentRead Refusal). parts_answered s (parts_judged ws number s (take m p) z)) r ∙ same.answered, ap (parts_placed part ws number s (take m p) bytes) r ∙ same.placed)
