-- A CRC that is carried on over pieces of a list, one after the other, is that of the list.
use Prim.Native.Nat.{ℕ, ◌+◌, ◌-◌, ◌≤◌}
use mathlib.Core.List.{List}
use mathlib.Core.Path.{◌≡◌, sym, ap, ◌∙◌}
use native.Mathlib.Omega.{arith}
use lib.ListN.{length, take, drop, length-drop, take-append-drop}
use lib.Seq.{take_all, drop-drop}
use Rattle.crc32c.specs.Crc.{crc_run}
use Rattle.crc_bits.proofs.Carry.{run-split}

two-pieces : (c n : ℕ) (s : List ℕ) → crc_run (crc_run c (take n s)) (drop n s) ≡ crc_run c s
two-pieces c n s = sym (run-split c (take n s) (drop n s)) ∙ ap (crc_run c) (take-append-drop n s)

-- what is before m, from there to k, and the rest
pub three_pieces : (c m k : ℕ) (s : List ℕ) → m ≤ k → k ≤ length s
    → crc_run (crc_run (crc_run c (take m s)) (take (k - m) (drop m s))) (take (length s - k) (drop k s)) ≡ crc_run c s
three_pieces c m k s h l =
    let x : ℕ = crc_run c (take m s) in
    let y : ℕ = crc_run x (take (k - m) (drop m s)) in
    let at : m + (k - m) ≡ k = omega arith in
    let all : length (drop k s) ≤ length s - k = omega (arith, length-drop k s) in
    ap (crc_run y) (take_all (length s - k) (drop k s) all ∙ ap (λ (n : ℕ). drop n s) (sym at) ∙ sym (drop-drop (k - m) m s))
    ∙ two-pieces x (k - m) (drop m s)
    ∙ two-pieces c m s
