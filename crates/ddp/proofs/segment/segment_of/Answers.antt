-- `segment_of` meets its contract: a ULPDU that has a header is as long as it.
use Rattle.std.proofs.Common.{◌≡◌, ℕ, ◌+◌, ◌-◌, List, take, drop, sym, ap, ◌∙◌, arith}
use native.Mathlib.Nat.{add-sub_cancel_left}
use Rattle.wire.specs.Wire.{part}
use Rattle.wire.proofs.Laws.{length_part}
use Rattle.ddp.specs.Header.{header_read}
use Rattle.ddp.proofs.Segments.{tagged_from, untagged_from}
use Rattle.ddp.proofs.segment.segment_of.Goals as goal
use Rattle.std.specs.Prelude.{Ok}

-- what `read_header` gives is the header of the ULPDU
read : (bytes : List ℕ) (start len : ℕ) → header_read (take (start + len - start) (drop start bytes)) ≡ header_read (part bytes start len)
read bytes start len = ap (λ (n : ℕ). header_read (take n (drop start bytes))) (add-sub_cancel_left start len)

pub overflow_sub-result : goal.overflow_sub-result
overflow_sub-result c =
    let a = c.args in
    let long = tagged_from (part a.bytes.now a.start a.len) c.in-Tagged.header (sym (ap Ok (sym c.in-Tagged.is)
    ∙ c.in_ok-header.ensures
    ∙ read a.bytes.now a.start a.len)) in
    omega (arith, long, length_part a.bytes.now a.start a.len c.requires)

pub overflow_sub-result-in-Untagged : goal.overflow_sub-result-in-Untagged
overflow_sub-result-in-Untagged c =
    let a = c.args in
    let long = untagged_from (part a.bytes.now a.start a.len) c.in-Untagged.header (sym (ap Ok (sym c.in-Untagged.is)
    ∙ c.in_ok-header.ensures
    ∙ read a.bytes.now a.start a.len)) in
    omega (arith, long, length_part a.bytes.now a.start a.len c.requires)
