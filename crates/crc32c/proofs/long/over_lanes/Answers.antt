-- The three values, joined by the bytes from here on, give what was to be given from the start.
use Rattle.std.proofs.Common.{rules, arith, ◌≡◌, sym, ap, ap₂, ◌∙◌, ℕ, ◌-◌, ◌*◌, ◌/◌, ◌≤◌, List, length, take, drop}
use lib.Dec.{lit<}
use lib.Seq.{take_all, length-take-le}
use lib.ListN.{length-drop}
use Rattle.std.specs.Simd.{first_chunks}
use Rattle.crc32c.proofs.Lanes.{joined, lanes_start, lanes_chunk, lanes_end}
use Rattle.crc32c.proofs.long.over_lanes.Goals as goal

pub loop-x-init : goal.loop-x-init
loop-x-init c = record { a_fits = search rules; b_fits = lit< tt; c_fits = lit< tt; joined = lanes_start c.args.start c.args.s.now }

pub loop-x-preserved : goal.loop-x-preserved
loop-x-preserved c =
    let s : List ℕ = c.args.s.now in
    let n : ℕ = length s / 8 in
    let m : ℕ = length c.as_chunks-2.result.0.now in
    let turns : length (take (m - 1) c.as_chunks-2.result.0.now) ≡ m - 1 = length-take-le (m - 1) c.as_chunks-2.result.0.now (omega arith) in
    let many : m ≡ n / 3 = omega (arith, c.as_chunks.ensures.front_len, c.as_chunks-2.ensures.front_len) in
    record {
      a_fits = search rules;
      b_fits = search rules;
      c_fits = search rules;
      joined = c.loop-x.invariant.joined
          ∙ lanes_chunk c.loop-x.a c.loop-x.b c.loop-x.c c.lane-a.result c.lane-b.result c.lane-c.result c.loop-x.x-index m n s c.as_chunks-2.result.0.now
          (c.as_chunks-2.ensures.front ∙ ap₂ (λ (k : ℕ) (l : List (List ℕ)). first_chunks 3 k l) (sym c.as_chunks-2.ensures.front_len) c.as_chunks.ensures.front)
          c.loop-x.invariant.a_fits c.loop-x.invariant.b_fits c.loop-x.invariant.c_fits (omega arith) (omega arith) (omega arith)
          c.lane-a.ensures c.lane-b.ensures c.lane-c.ensures;
    }

pub returns : goal.returns
returns c =
    let s : List ℕ = c.args.s.now in
    let n : ℕ = (length c.as_chunks-2.result.0.now - 1) * 24 in
    let m : ℕ = length c.as_chunks-2.result.0.now in
    let turns : length (take (m - 1) c.as_chunks-2.result.0.now) ≡ m - 1 = length-take-le (m - 1) c.as_chunks-2.result.0.now (omega arith) in
    let at : 24 * c.loop-x.x-index ≡ n = omega arith in
    let all : length (drop n s) ≤ length s - n = omega (arith, length-drop n s) in
    lanes_end c.loop-x.a c.loop-x.b c.loop-x.c c.carry-x.result c.carry-y.result c.carry.result n s (take (length s - n) (drop n s))
    (take_all (length s - n) (drop n s) all) c.carry-x.ensures c.carry-y.ensures c.carry.ensures
    ∙ sym (c.loop-x.invariant.joined ∙ ap (joined c.loop-x.a c.loop-x.b c.loop-x.c s) at)
