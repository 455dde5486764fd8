-- One segment in its FPDU, whatever bytes come after it: it is read as its header and its payload, CRC on or off.
use Prim.Native.Nat.{ℕ, ◌+◌, ◌-◌, ◌≤◌, ◌<◌}
use mathlib.Core.Path.{◌≡◌, refl, sym, ap, ◌∙◌}
use mathlib.Core.Bool.{Bool}
use mathlib.Core.List.{List, ◌++◌, append_assoc}
use native.Mathlib.Omega.{arith}
use lib.ListN.{length, take, drop, replicate, length-append}
use lib.Seq.{take_at, drop_at, drop-drop}
use Rattle.wire.specs.Wire.{part, le32}
use Rattle.crc32c.specs.Crc.{crc_of}
use Rattle.mpa.specs.Fpdu.{max_ulpdu, pad_of, total_of, covered, fpdu_of}
use Rattle.mpa.proofs.ReadBack.{read_back, given_back}
use Rattle.ddp.specs.Header.{tagged_bytes, untagged_bytes, header_read}
use Rattle.ddp.specs.Segment.{segment_of, segment_from, segment_read}
use Rattle.ddp.specs.declared.header.TaggedHeader.{TaggedHeader}
use Rattle.ddp.specs.declared.header.UntaggedHeader.{UntaggedHeader}
use Rattle.ddp.specs.declared.segment.SegmentRead.TheVariants.{Tagged as TaggedSegment, Untagged as UntaggedSegment}
use Rattle.ddp.proofs.Round.{tagged_length, untagged_length, tagged_round, untagged_round}
use Rattle.std.specs.Prelude.{Ok, Result}
use Rattle.ddp.specs.declared.header.Header.{Header}
use Rattle.ddp.specs.declared.header.Header.TheVariants.{Tagged, Untagged}
use Rattle.ddp.specs.declared.refusal.Refusal.{Refusal}

-- what stands after a header of k bytes is the payload
payload_there : (k : ℕ) (header payload rest : List ℕ) → length header ≡ k → part (fpdu_of (header ++ payload) ++ rest) (2 + k) (length payload) ≡ payload
unfolding fpdu_of covered
payload_there k header payload rest e =
    let u : List ℕ = header ++ payload in
    let pad : List ℕ = replicate (pad_of (length u)) 0 in
    let tail : List ℕ = pad ++ (le32 (crc_of (covered u)) ++ rest) in
    let bytes : List ℕ = fpdu_of u ++ rest in
    let split : drop 2 bytes ≡ header ++ (payload ++ tail) =
    append_assoc (u ++ pad) (le32 (crc_of (covered u))) rest ∙ append_assoc u pad _ ∙ append_assoc header payload tail
    in
    ap (take (length payload)) (sym (drop-drop k 2 bytes) ∙ ap (drop k) split ∙ drop_at header (payload ++ tail) k e)
    ∙ take_at payload tail (length payload) refl

-- a ULPDU whose header is read
headed : (crc : Bool) (u rest : List ℕ) (r : Result Header Refusal) → length u ≤ max_ulpdu → header_read u ≡ r → segment_read crc (fpdu_of u ++ rest) ≡ segment_of (total_of (length u)) 2 (length u) r
unfolding segment_read
headed crc u rest r h e =
    ap (segment_from (fpdu_of u ++ rest)) (read_back u rest crc h)
    ∙ ap (λ (b : List ℕ). segment_of (total_of (length u)) 2 (length u) (header_read b)) (given_back u rest)
    ∙ ap (segment_of (total_of (length u)) 2 (length u)) e

module _ (crc : Bool) (h : TaggedHeader) (payload rest : List ℕ) where
  pub tagged_framed :
      h.stag < 4294967296 → h.to < 18446744073709551616 → 14 + length payload ≤ max_ulpdu →
      segment_read crc (fpdu_of (tagged_bytes h ++ payload) ++ rest) ≡ Ok (TaggedSegment (total_of (14 + length payload)) h 16 (length payload))
  tagged_framed s t l =
      let long : length (tagged_bytes h ++ payload) ≡ 14 + length payload = length-append (tagged_bytes h) payload ∙ ap (λ (n : ℕ). n + length payload) (tagged_length h) in
      let less : 14 + length payload - 14 ≡ length payload = omega arith in
      headed crc (tagged_bytes h ++ payload) rest (Ok (Tagged h)) (rw long l) (tagged_round h payload s t)
      ∙ ap (λ (n : ℕ). Ok (TaggedSegment (total_of n) h 16 (n - 14))) long
      ∙ ap (λ (n : ℕ). Ok (TaggedSegment (total_of (14 + length payload)) h 16 n)) less

  pub tagged_payload : part (fpdu_of (tagged_bytes h ++ payload) ++ rest) 16 (length payload) ≡ payload
  tagged_payload = payload_there 14 (tagged_bytes h) payload rest (tagged_length h)

module _ (crc : Bool) (h : UntaggedHeader) (payload rest : List ℕ) where
  pub untagged_framed :
      h.stag < 4294967296 → h.qn < 4294967296 → h.msn < 4294967296 → h.mo < 4294967296 → 18 + length payload ≤ max_ulpdu →
      segment_read crc (fpdu_of (untagged_bytes h ++ payload) ++ rest) ≡ Ok (UntaggedSegment (total_of (18 + length payload)) h 20 (length payload))
  untagged_framed s q m o l =
      let long : length (untagged_bytes h ++ payload) ≡ 18 + length payload = length-append (untagged_bytes h) payload ∙ ap (λ (n : ℕ). n + length payload) (untagged_length h) in
      let less : 18 + length payload - 18 ≡ length payload = omega arith in
      headed crc (untagged_bytes h ++ payload) rest (Ok (Untagged h)) (rw long l) (untagged_round h payload s q m o)
      ∙ ap (λ (n : ℕ). Ok (UntaggedSegment (total_of n) h 20 (n - 18))) long
      ∙ ap (λ (n : ℕ). Ok (UntaggedSegment (total_of (18 + length payload)) h 20 n)) less

  pub untagged_payload : part (fpdu_of (untagged_bytes h ++ payload) ++ rest) 20 (length payload) ≡ payload
  untagged_payload = payload_there 18 (untagged_bytes h) payload rest (untagged_length h)
