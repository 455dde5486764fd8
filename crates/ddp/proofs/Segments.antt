-- What a header that was read says of the bytes: by cases on the tests of the definition, of which only one way
-- gives that answer.
use Rattle.std.proofs.Common.{◌≡◌, ℕ, ◌≤◌, Bool, true, false, ltb, List, length, get_or, refl, arith, ltb-false}
use Rattle.wire.specs.Wire.{pick}
use Rattle.ddp.specs.Refusal.{segment_too_short, tagged_version, untagged_version}
use Rattle.ddp.specs.Header.{tagged_bit, version_one, tagged_fields, untagged_fields, tagged_read, untagged_read, header_read}
use Rattle.ddp.specs.declared.header.TaggedHeader.{TaggedHeader}
use Rattle.ddp.specs.declared.header.UntaggedHeader.{UntaggedHeader}
use Rattle.std.specs.Prelude.{Err, Ok}
use Rattle.ddp.specs.declared.header.Header.TheVariants.{Tagged, Untagged}

-- a tagged header has 14 bytes, and an untagged one 18
module _ (u : List ℕ) where
  pub tagged_from : (h : TaggedHeader) → header_read u ≡ Ok (Tagged h) → 14 ≤ length u
  unfolding header_read
  tagged_from h e = go (ltb (length u) 14) refl e
    where
      go :
          (a : Bool) → ltb (length u) 14 ≡ a →
          pick a (Err segment_too_short) (pick (tagged_bit (get_or u 0 0)) (tagged_read u) (untagged_read u)) ≡ Ok (Tagged h) → 14 ≤ length u
      go true q e = let no : ◌≡◌ {A = ℕ} 0 1 = cc in omega arith
      go false q e = ltb-false _ _ q

  -- and a tagged one has the fields that stand there
  pub tagged_fields_lem : (h : TaggedHeader) → header_read u ≡ Ok (Tagged h) → h ≡ tagged_fields u
  unfolding header_read tagged_read untagged_read
  tagged_fields_lem h e = go (ltb (length u) 14) (tagged_bit (get_or u 0 0)) (version_one (get_or u 0 0)) (ltb (length u) 18) e
    where
      go :
          (a b v d : Bool) →
          pick a (Err segment_too_short)
          (pick b (pick v (Ok (Tagged (tagged_fields u))) (Err tagged_version)) (pick d (Err segment_too_short) (pick v (Ok (Untagged (untagged_fields u))) (Err untagged_version))))
          ≡ Ok (Tagged h) →
          h ≡ tagged_fields u
      go true b v d e = cc
      go false true true d e = cc
      go false true false d e = cc
      go false false v true e = cc
      go false false true false e = cc
      go false false false false e = cc

  pub untagged_from : (h : UntaggedHeader) → header_read u ≡ Ok (Untagged h) → 18 ≤ length u
  unfolding header_read tagged_read untagged_read
  untagged_from h e = go (ltb (length u) 14) (tagged_bit (get_or u 0 0)) (version_one (get_or u 0 0)) (ltb (length u) 18) refl e
    where
      go :
          (a b v d : Bool) → ltb (length u) 18 ≡ d →
          pick a (Err segment_too_short)
          (pick b (pick v (Ok (Tagged (tagged_fields u))) (Err tagged_version)) (pick d (Err segment_too_short) (pick v (Ok (Untagged (untagged_fields u))) (Err untagged_version))))
          ≡ Ok (Untagged h) →
          18 ≤ length u
      go true b v d q e = let no : ◌≡◌ {A = ℕ} 0 1 = cc in omega arith
      go false true true d q e = let no : ◌≡◌ {A = ℕ} 0 1 = cc in omega arith
      go false true false d q e = let no : ◌≡◌ {A = ℕ} 0 1 = cc in omega arith
      go false false v true q e = let no : ◌≡◌ {A = ℕ} 0 1 = cc in omega arith
      go false false v false q e = ltb-false _ _ q
