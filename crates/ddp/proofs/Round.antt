-- The bytes of a header: what the writers leave is one `put` of them, and reading them, whatever comes after, gives the header
-- back. Each field is read where its bytes were written, and what `wire` shows of a number's bytes does the rest.
use Rattle.std.proofs.Common.{◌≡◌, ℕ, ◌<◌, ◌≤◌, Bool, true, false, List, ◌++◌, length, get_or, refl, ap, ◌∙◌, zero-le, arith, length-append, le-ltb}
use Rattle.wire.specs.Wire.{put, be32, be64}
use Rattle.wire.proofs.Laws.{put-put, be32_at-be32, be64_at-be64}
use Rattle.ddp.specs.Header.{tagged_bit, last_bit, version_one, control_of, start_bytes, tagged_bytes, untagged_bytes, tagged_fields, untagged_fields, tagged_read, untagged_read, header_read}
use Rattle.ddp.specs.declared.header.TaggedHeader.{TaggedHeader}
use Rattle.ddp.specs.declared.header.UntaggedHeader.{UntaggedHeader}
use Rattle.std.specs.Prelude.{Ok}
use Rattle.ddp.specs.declared.header.Header.TheVariants.{Tagged, Untagged}

-- how long the headers are
pub tagged_length : (h : TaggedHeader) → length (tagged_bytes h) ≡ 14
unfolding tagged_bytes start_bytes
tagged_length h = refl

pub untagged_length : (h : UntaggedHeader) → length (untagged_bytes h) ≡ 18
unfolding untagged_bytes start_bytes
untagged_length h = refl

-- what the writers' stores, each where the one before ends, make together: one `put` of the header
pub tagged_put :
    (l : List ℕ) (h : TaggedHeader) →
    put (put l 0 (start_bytes true h.last h.control h.stag)) 6 (be64 h.to) ≡ put l 0 (tagged_bytes h)
unfolding tagged_bytes start_bytes
tagged_put l h = put-put l 0 (start_bytes true h.last h.control h.stag) (be64 h.to) zero-le

pub untagged_put :
    (l : List ℕ) (h : UntaggedHeader) →
    put (put (put (put l 0 (start_bytes false h.last h.control h.stag)) 6 (be32 h.qn)) 10 (be32 h.msn)) 14 (be32 h.mo)
    ≡ put l 0 (untagged_bytes h)
unfolding untagged_bytes start_bytes
untagged_put l h =
    let s : List ℕ = start_bytes false h.last h.control h.stag in
    ap (λ (r : List ℕ). put (put r 10 (be32 h.msn)) 14 (be32 h.mo)) (put-put l 0 s (be32 h.qn) zero-le)
    ∙ ap (λ (r : List ℕ). put r 14 (be32 h.mo)) (put-put l 0 (s ++ be32 h.qn) (be32 h.msn) zero-le)
    ∙ put-put l 0 (s ++ be32 h.qn ++ be32 h.msn) (be32 h.mo) zero-le

-- the flags and the version of the first byte
t_bit : (t l : Bool) → tagged_bit (control_of t l) ≡ t
unfolding control_of
t_bit true true = refl
t_bit true false = refl
t_bit false true = refl
t_bit false false = refl

l_bit : (t l : Bool) → last_bit (control_of t l) ≡ l
unfolding control_of
l_bit true true = refl
l_bit true false = refl
l_bit false true = refl
l_bit false false = refl

version : (t l : Bool) → version_one (control_of t l) ≡ true
unfolding control_of
version true true = refl
version true false = refl
version false true = refl
version false false = refl

module _ (h : TaggedHeader) (payload : List ℕ) where
  tagged_long : 14 ≤ length (tagged_bytes h ++ payload)
  tagged_long = simp (length-append, tagged_length) (omega arith)

  tagged_first : get_or (tagged_bytes h ++ payload) 0 0 ≡ control_of true h.last
  unfolding tagged_bytes start_bytes
  tagged_first = refl

  tagged_fields_lem : h.stag < 4294967296 → h.to < 18446744073709551616 → tagged_fields (tagged_bytes h ++ payload) ≡ h
  unfolding tagged_fields tagged_bytes start_bytes
  tagged_fields_lem s t i = record {
    last = l_bit true h.last i;
    control = h.control;
    stag = be32_at-be32 h.stag (be64 h.to ++ payload) s i;
    to = be64_at-be64 h.to payload t i;
  }

  pub tagged_round : h.stag < 4294967296 → h.to < 18446744073709551616 → header_read (tagged_bytes h ++ payload) ≡ Ok (Tagged h)
  unfolding header_read tagged_read
  tagged_round s t =
      simp (le-ltb _ _ tagged_long, tagged_first, t_bit true h.last, version true h.last)
      (ap (λ (x : TaggedHeader). Ok (Tagged x)) (tagged_fields_lem s t))

module _ (h : UntaggedHeader) (payload : List ℕ) where
  untagged_long : 18 ≤ length (untagged_bytes h ++ payload)
  untagged_long = simp (length-append, untagged_length) (omega arith)

  untagged_first : get_or (untagged_bytes h ++ payload) 0 0 ≡ control_of false h.last
  unfolding untagged_bytes start_bytes
  untagged_first = refl

  untagged_fields_lem :
      h.stag < 4294967296 → h.qn < 4294967296 → h.msn < 4294967296 → h.mo < 4294967296 →
      untagged_fields (untagged_bytes h ++ payload) ≡ h
  unfolding untagged_fields untagged_bytes start_bytes
  untagged_fields_lem s q m o i = record {
    last = l_bit false h.last i;
    control = h.control;
    stag = be32_at-be32 h.stag (be32 h.qn ++ be32 h.msn ++ be32 h.mo ++ payload) s i;
    qn = be32_at-be32 h.qn (be32 h.msn ++ be32 h.mo ++ payload) q i;
    msn = be32_at-be32 h.msn (be32 h.mo ++ payload) m i;
    mo = be32_at-be32 h.mo payload o i;
  }

  pub untagged_round :
      h.stag < 4294967296 → h.qn < 4294967296 → h.msn < 4294967296 → h.mo < 4294967296 →
      header_read (untagged_bytes h ++ payload) ≡ Ok (Untagged h)
  unfolding header_read untagged_read
  untagged_round s q m o =
      let long : 14 ≤ length (untagged_bytes h ++ payload) = omega (arith, untagged_long) in
      simp (le-ltb _ _ long, le-ltb _ _ untagged_long, untagged_first, t_bit false h.last, version false h.last)
      (ap (λ (x : UntaggedHeader). Ok (Untagged x)) (untagged_fields_lem s q m o))
