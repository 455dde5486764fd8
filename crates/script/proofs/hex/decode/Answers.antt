-- Where the length is told and there is room, the pairs are all written (`Decoding`).
use Rattle.std.proofs.Common.{arith, sym, ◌∙◌}
use Rattle.script.proofs.Decoding.{told, decoded, all-pairs, front}
use Rattle.script.proofs.hex.decode.Goals as goal

pub write_bytes-requires-clause-digits : goal.write_bytes-requires-clause-digits
write_bytes-requires-clause-digits c =
    let t = told _ c.in_ok-n.n (sym c.hex_length.ensures ∙ c.in_ok-n.was) in
    (omega arith, t.digits)

pub returns-clause-bytes : goal.returns-clause-bytes
returns-clause-bytes c =
    let e = sym c.hex_length.ensures ∙ c.in_ok-n.was in
    c.write_bytes.ensures ∙ all-pairs _ _ c.in_ok-n.n (told _ _ e).half ∙ (decoded _ _ c.in_ok-n.n e c.if-n-out.false).1

pub returns-clause-front : goal.returns-clause-front
returns-clause-front c =
    rw c.write_bytes.ensures (front c.args.w.now c.args.out.now c.in_ok-n.n (told _ _ (sym c.hex_length.ensures ∙ c.in_ok-n.was)).half)
