-- A turn of the loop writes the next byte of `pairs`.
use Rattle.std.proofs.Common.{arith, sym, ap₂, ◌∙◌, ℕ, ◌+◌, ◌*◌}
use Rattle.script.proofs.Pairs.{pair_at, length_pairs}
use Rattle.script.specs.Hex.{pairs}
use Rattle.script.proofs.Placed.{turn_front}
use Rattle.script.proofs.hex.write_bytes.Goals as goal

pub loop-j-preserved : goal.loop-j-preserved
loop-j-preserved c =
    let e = ap₂ (λ (h l : ℕ). h * 16 + l) c.digit_value-high.ensures.value c.digit_value-low.ensures.value in
    turn_front c.args.out.now (pairs c.args.w.now) _ c.loop-j.j _ (omega arith) (omega (arith, length_pairs c.args.w.now)) c.loop-j.invariant (e ∙ sym (pair_at c.args.w.now c.loop-j.j (omega arith)))
