-- `read_by_fields` meets its contract: the fields are read at the start of the slice and past the header's start, and the header of
-- these fields is the ULPDU's (`header_turn`).
use mathlib.Core.Path.{ap₂, ◌∙◌}
use Prim.Native.Nat.{ℕ}
use mathlib.Core.List.{List}
use denote.Ref.{Bor}
use Rattle.segment_reader.specs.Field.{be64_field, place_after}
use Rattle.segment_reader.specs.Header.{start_at, queue_at, header_of}
use Rattle.segment_reader.proofs.InTurn.{header_turn}
use Rattle.segment_reader.proofs.ulpdu.read_by_fields.Goals as goal

pub returns : goal.returns
returns c =
    let r = c.new-r.ensures in
    let m = c.skipped-r1.ensures in
    let at = m.1 ∙ ap₂ (λ (t : Bor (List ℕ)) (n : ℕ). place_after t.now n 6) r.0 r.1 in
    let begin = c.start-begin.ensures ∙ ap₂ (λ (t : Bor (List ℕ)) (n : ℕ). start_at t.now n) r.0 r.1 in
    let to = c.be64-to.ensures ∙ ap₂ (λ (t : Bor (List ℕ)) (n : ℕ). be64_field t.now n) (m.0 ∙ r.0) at in
    let more = c.queue-more.ensures ∙ ap₂ (λ (t : Bor (List ℕ)) (n : ℕ). queue_at t.now n) (m.0 ∙ r.0) at in
    c.header_of.ensures ∙ (λ i. header_of (begin i) (to i) (more i)) ∙ header_turn c.args.ulpdu.now
