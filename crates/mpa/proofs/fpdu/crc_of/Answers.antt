-- `crc_of` meets its contract: the three pieces follow each other.
use Prim.Native.Nat.{ℕ, ◌+◌, ◌-◌}
use mathlib.Core.Path.{sym, ap, ◌∙◌}
use native.Mathlib.Omega.{arith}
use lib.ListN.{length, take, drop}
use lib.Seq.{length-take-le}
use Rattle.crc32c.specs.Crc.{crc_run, crc_of, all_ones}
use Rattle.mpa.proofs.Apart.{three_pieces}
use Rattle.mpa.proofs.fpdu.crc_of.Goals as goal

pub slice_bounds-update-end : goal.slice_bounds-update-end
slice_bounds-update-end c = sym (length-take-le 2 c.args.bytes.now (omega arith))

pub returns : goal.returns
unfolding crc_of
returns c =
    let a = c.args in
    let s = a.bytes.now in
    let k : ℕ = 2 + a.n in
    ap (λ (n : ℕ). all_ones - n)
    (c.update.ensures
    ∙ ap (λ (n : ℕ). crc_run n (take (length s - k) (drop k s)))
    (c.update-ulpdu.ensures ∙ ap (λ (n : ℕ). crc_run n (take (k - 2) (drop 2 s))) c.update-head.ensures)
    ∙ three_pieces all_ones 2 k s (omega arith) (omega (arith, c.requires)))
