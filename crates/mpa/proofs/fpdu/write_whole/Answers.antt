-- `write_whole` meets its contract: the CRC is of what `write_covered` wrote, and stands where that ends.
use Prim.Native.Nat.{ℕ, ◌+◌, ◌≤◌}
use mathlib.Core.List.{List}
use mathlib.Core.Path.{sym, ap, ◌∙◌, subst}
use native.Mathlib.Omega.{arith}
use lib.Seq.{length-take-le}
use lib.ListN.{length, take}
use Rattle.wire.specs.Wire.{put, le32}
use Rattle.crc32c.specs.Crc.{crc_of}
use Rattle.mpa.proofs.Frames.{fpdu_put}
use Rattle.mpa.proofs.fpdu.write_whole.Goals as goal

pub slice_bounds-crc_of-end-2 : goal.slice_bounds-crc_of-end-2
slice_bounds-crc_of-end-2 c = sym (length-take-le c.covered_length-c.result c.write_covered.new.out (omega arith))

pub crc_of-crc-requires : goal.crc_of-crc-requires
crc_of-crc-requires c =
    let n : ℕ = length c.args.ulpdu.now in
    let h : 2 + n ≤ c.covered_length-c.result = omega (arith, c.covered_length-c.ensures.0) in
    subst (λ (m : ℕ). 2 + n ≤ m) (sym (length-take-le c.covered_length-c.result c.write_covered.new.out (omega arith))) h

pub returns : goal.returns
returns c =
    let a = c.args in
    c.put_le32.ensures
    ∙ ap (λ (v : ℕ). put c.write_covered.new.out c.covered_length-c.result (le32 v)) c.crc_of-crc.ensures
    ∙ ap (λ (z : List ℕ). put z c.covered_length-c.result (le32 (crc_of (take c.covered_length-c.result z)))) c.write_covered.ensures
    ∙ fpdu_put a.out.now a.ulpdu.now c.covered_length-c.result c.covered_length-c.ensures.0
