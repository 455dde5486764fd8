-- The bytes that are left give from here what was to be given.
use Rattle.std.proofs.Common.{◌≡◌, sym, ap, ◌∙◌, ℕ, ◌+◌, ◌*◌, ◌/◌, List, get_or, drop, length, [], arith}
use Rattle.crc_bits.specs.Crc.{crc_run}
use Rattle.crc32c.proofs.Chunks.{chunk_off, byte_off, none_left}
use Rattle.crc32c.proofs.short.carry.Goals as goal

pub loop-eight-preserved : goal.loop-eight-preserved
loop-eight-preserved c =
    let i : ℕ = c.loop-eight.eight-index in
    let s : List ℕ = c.args.s.now in
    c.loop-eight.invariant
    ∙ chunk_off c.loop-eight.c i (length s / 8) s (omega (arith, c.as_chunks.ensures.front_len))
    ∙ ap (λ (xs : List (List ℕ)). crc_run (crc_run c.loop-eight.c (get_or xs i [])) (drop (8 * (i + 1)) s)) (sym c.as_chunks.ensures.front)
    ∙ ap (λ (n : ℕ). crc_run n (drop (8 * (i + 1)) s)) (sym c.over_eight-c.ensures)

pub loop-b-init : goal.loop-b-init
loop-b-init c =
    let e : 8 * c.loop-eight.eight-index ≡ length c.args.s.now / 8 * 8 = omega (arith, c.as_chunks.ensures.front_len) in
    c.loop-eight.invariant
    ∙ ap (λ (n : ℕ). crc_run c.loop-eight.c (drop n c.args.s.now)) e
    ∙ ap (crc_run c.loop-eight.c) (sym c.as_chunks.ensures.back)

pub loop-b-preserved : goal.loop-b-preserved
loop-b-preserved c =
    c.loop-b.invariant
    ∙ byte_off c.loop-b.c c.loop-b.b-index c.as_chunks.result.1.now c.loop-b-test.true
    ∙ ap (λ (n : ℕ). crc_run n (drop (c.loop-b.b-index + 1) c.as_chunks.result.1.now)) (sym c.over_byte-c.ensures)

pub returns : goal.returns
returns c = sym (c.loop-b.invariant ∙ none_left c.loop-b.c c.loop-b.b-index c.as_chunks.result.1.now c.loop-b-test.false)
