-- Bytes counted one payload after the other are counted at once.
use Prim.Native.Nat.{ℕ, ◌+◌, ◌≤◌, ◌<◌}
use mathlib.Core.Path.{◌≡◌, refl, ap, ◌∙◌}
use mathlib.Core.Bool.{Bool, true, false, cond}
use native.Mathlib.Omega.{arith}
use lib.Dec.{leb}
use borrow.Author.Tests.{leb-true, leb-false, le-leb, lt-leb}
use Rattle.meter.specs.Gauge.{counted_bytes, counted_meter}
use Rattle.meter.specs.declared.Meter.{Meter}

-- a count that has stopped stays
stopped : (b : ℕ) → counted_bytes 4294967295 b ≡ 4294967295
stopped b = go (leb (4294967295 + b) 4294967295) refl
  where
    go : (t : Bool) → leb (4294967295 + b) 4294967295 ≡ t → cond t (4294967295 + b) 4294967295 ≡ 4294967295
    go true e = let h : 4294967295 + b ≤ 4294967295 = leb-true (4294967295 + b) 4294967295 e in omega (arith, h)
    go false e = refl

counted-sum : (count a b : ℕ) → counted_bytes (counted_bytes count a) b ≡ counted_bytes count (a + b)
counted-sum count a b = go (leb (count + a) 4294967295) (leb (count + (a + b)) 4294967295) refl refl
  where
    go :
        (x y : Bool) → leb (count + a) 4294967295 ≡ x → leb (count + (a + b)) 4294967295 ≡ y →
        counted_bytes (cond x (count + a) 4294967295) b ≡ cond y (count + (a + b)) 4294967295
    go true true e f =
        let h : count + (a + b) ≤ 4294967295 = leb-true (count + (a + b)) 4294967295 f in
        rw (le-leb (count + a + b) 4294967295 (omega (arith, h))) (omega arith)
    go true false e f =
        let h : 4294967295 < count + (a + b) = leb-false (count + (a + b)) 4294967295 f in
        rw (lt-leb (count + a + b) 4294967295 (omega (arith, h))) refl
    go false true e f =
        let h : count + (a + b) ≤ 4294967295 = leb-true (count + (a + b)) 4294967295 f in
        let g : 4294967295 < count + a = leb-false (count + a) 4294967295 e in
        absurd (omega (arith, h, g))
    go false false e f = stopped b

pub counted_twice : (m : Meter) (a b n : ℕ) → a + b ≡ n → counted_meter (counted_meter m a) b ≡ counted_meter m n
counted_twice m a b n e i = record { count = (counted-sum m.count a b ∙ ap (counted_bytes m.count) e) i; ticked = m.ticked; gauge = m.gauge }
