-- A line on offers: it lies in its buffer and is none on messages; and what is asked, from the answer that says it.
-- Assumes nothing.
use Prim.Native.Nat.{ℕ, ◌≤◌}
use mathlib.Core.Bool.{Bool, true, false, false≢true}
use mathlib.Core.Path.{◌≡◌, refl, sym, ap, ◌∙◌}
use mathlib.Core.List.{List}
use lib.Dec.{leb}
use lib.ListN.{length, take}
use borrow.Author.Tests.{leb-true}
use Rattle.std.specs.Prelude.{Some, None}
use Rattle.wire.specs.Wire.{pick, both, same}
use Rattle.wire.proofs.Laws.{same-eq}
use Rattle.command.specs.Args.{line_words, word_of}
use Rattle.sending.specs.Sending.{is_order}
use Rattle.offering.specs.Offering.{Offering, offer_name, held_name, is_offering, Says}
use Rattle.offering.specs.Offering.Offering.{offer, holds, bad}
use Rattle.offering.specs.declared.Asked.{Asked}
use Rattle.running.specs.Run.{line_offers, line_sends}

-- ---- a line of `count` bytes, which a buffer starts with

both_true : (t u : Bool) → both t u ≡ true → (t ≡ true) × (u ≡ true)
both_true true u e = (refl, e)
both_true false u e = absurd (false≢true e)

-- no word is a name of both kinds
offer_unsent : (name : List ℕ) → is_offering name ≡ true → is_order name ≡ false
unfolding is_offering is_order
offer_unsent name h = go (same name offer_name) refl
  where
    go : (t : Bool) → same name offer_name ≡ t → is_order name ≡ false
    go true e = rw (same-eq name offer_name e)
    go false e = rw (same-eq name held_name (sym (ap (λ (t : Bool). pick t true (same name held_name)) e) ∙ h))

module _ (buffer : List ℕ) (count : ℕ) (h : line_offers buffer count ≡ true) where
  abbrev name : List ℕ
  name = word_of (line_words (take count buffer)) 0

  pub offers_fit : count ≤ length buffer
  offers_fit = leb-true count (length buffer) (both_true (leb count (length buffer)) (is_offering name) h).0

  pub offers_unsent : line_sends buffer count ≡ false
  offers_unsent =
      let p = both_true (leb count (length buffer)) (is_offering name) h in
      rw (p.0, offer_unsent name p.1)

-- ---- what is asked, from the answer that says it

pub offer_asked : (q : Offering) (buffer : List ℕ) (n k lent held : ℕ) → Says q (Some (Asked.Offer n k lent held)) buffer → offer n (take k buffer) lent held ≡ q
offer_asked (offer m bytes l h) buffer n k lent held s =
    let a : Some (Asked.Offer n k lent held) ≡ Some (Asked.Offer m (length bytes) l h) = s.asked in
    let b : take k buffer ≡ bytes = s.bytes in
    cc
offer_asked (holds m) buffer n k lent held s = let a : Some (Asked.Offer n k lent held) ≡ Some (Asked.Held m) = s.asked in cc
offer_asked bad buffer n k lent held s = let a : Some (Asked.Offer n k lent held) ≡ None = s.asked in cc

pub held_asked : (q : Offering) (buffer : List ℕ) (n : ℕ) → Says q (Some (Asked.Held n)) buffer → holds n ≡ q
held_asked (offer m bytes l h) buffer n s = let a : Some (Asked.Held n) ≡ Some (Asked.Offer m (length bytes) l h) = s.asked in cc
held_asked (holds m) buffer n s = let a : Some (Asked.Held n) ≡ Some (Asked.Held m) = s.asked in cc
held_asked bad buffer n s = let a : Some (Asked.Held n) ≡ None = s.asked in cc

pub bad_asked : (q : Offering) (buffer : List ℕ) → Says q None buffer → bad ≡ q
bad_asked (offer m bytes l h) buffer s = let a : None ≡ Some (Asked.Offer m (length bytes) l h) = s.asked in cc
bad_asked (holds m) buffer s = let a : None ≡ Some (Asked.Held m) = s.asked in cc
bad_asked bad buffer s = refl
