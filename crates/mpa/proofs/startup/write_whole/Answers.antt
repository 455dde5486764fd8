-- `write_whole` meets its contract: the writes, each where the one before ends, are one.
use Prim.Native.Nat.{ℕ}
use mathlib.Core.List.{List}
use mathlib.Core.Path.{◌≡◌, ap, ap₂, ◌∙◌}
use native.Mathlib.Omega.{arith}
use lib.ListN.{length, set, length-set}
use Rattle.wire.specs.Wire.{put, be16}
use Rattle.mpa.proofs.Frames.{startup_put}
use Rattle.mpa.proofs.startup.write_whole.Goals as goal

pub bounds-out-17 : goal.bounds-out-17
bounds-out-17 c = simp length-set (omega arith)

pub put_be16-requires : goal.put_be16-requires
put_be16-requires c = (omega arith, simp length-set (omega arith))

pub copy-requires-2 : goal.copy-requires-2
copy-requires-2 c =
    let k : length c.put_be16.new.out ≡ length c.copy.new.dst = c.put_be16.auto.out ∙ simp length-set in
    omega (arith, c.requires)

pub shape_of-out : goal.shape_of-out
shape_of-out c =
    let k : length c.put_be16.new.out ≡ length c.copy.new.dst = c.put_be16.auto.out ∙ simp length-set in
    c.copy-2.auto.dst ∙ k ∙ c.copy.auto.dst

pub returns : goal.returns
returns c =
    let a = c.args in
    let n = length a.private_data.now in
    c.copy-2.ensures
    ∙ ap (λ (z : List ℕ). put z 20 a.private_data.now) c.put_be16.ensures
    ∙ ap₂ (λ (z : List ℕ) (f : ℕ). put (put (set (set z 16 f) 17 1) 18 (be16 n)) 20 a.private_data.now) (c.copy.ensures ∙ ap (λ (k : List ℕ). put a.out.now 0 k) c.key_of-key.ensures) c.flags_of.ensures
    ∙ startup_put a.reply a.crc a.declined a.out.now a.private_data.now (omega (arith, c.requires))
