-- What the tests of terms, of flags and of a head tell.
-- Assumes nothing.
use Prim.Native.Nat.{ℕ, ◌≤◌}
use mathlib.Core.Bool.{Bool, true, false}
use mathlib.Core.List.{List}
use mathlib.Core.Path.{◌≡◌, sym, ap, ◌∙◌}
use native.Mathlib.Omega.{arith}
use lib.Dec.{leb}
use lib.ListN.{take, get_or}
use borrow.Author.Tests.{leb-true}
use Rattle.wire.specs.Wire.{pick, both, same, be16_at}
use Rattle.wire.proofs.Laws.{both_true}
use Rattle.mpa.specs.Startup.{max_private, key_of, flags_of}
use Rattle.startup2.specs.declared.Terms.{Terms}
use Rattle.startup2.specs.Terms.{max_depth, terms_fit, kinds_of}
use Rattle.startup2.specs.Frame.{flag_s, terms_there, head2_right}

-- terms whose numbers fit their fields
pub record Fit (t : Terms) : Type 0 where
  pub ird : t.ird ≤ max_depth
  pub ord : t.ord ≤ max_depth
  pub kinds : t.kinds ≤ 7
  pub said : kinds_of t ≤ 7

-- the kinds that are said are no more than those there are
fewer : (peer : Bool) (k : ℕ) → k ≤ 7 → pick peer k 0 ≤ 7
fewer true k h = h
fewer false k h = omega arith

pub fit : (t : Terms) → terms_fit t ≡ true → Fit t
fit t e =
    let a = both_true (leb t.ird max_depth) (both (leb t.ord max_depth) (leb t.kinds 7)) e in
    let b = both_true (leb t.ord max_depth) (leb t.kinds 7) a.1 in
    let k = leb-true t.kinds 7 b.1 in
    record { ird = leb-true t.ird max_depth a.0; ord = leb-true t.ord max_depth b.0; kinds = k; said = fewer t.peer t.kinds k }

-- with S there is room in a byte for the flags
pub flags_small : (c r : Bool) → flags_of c r ≤ 96
flags_small true true = omega arith
flags_small true false = omega arith
flags_small false true = omega arith
flags_small false false = omega arith

-- a right head of revision 2
pub record Head (reply : Bool) (bytes : List ℕ) : Type 0 where
  pub key : same (take 16 bytes) (key_of reply) ≡ true
  pub within : be16_at bytes 18 ≤ max_private
  pub there : terms_there (get_or bytes 16 0) (be16_at bytes 18) ≡ true

pub head : (reply : Bool) (bytes : List ℕ) → head2_right reply bytes ≡ true → Head reply bytes
head reply bytes e =
    let a = both_true (same (take 16 bytes) (key_of reply)) (both (leb (be16_at bytes 18) max_private) (terms_there (get_or bytes 16 0) (be16_at bytes 18))) e in
    let b = both_true (leb (be16_at bytes 18) max_private) (terms_there (get_or bytes 16 0) (be16_at bytes 18)) a.1 in
    record { key = a.0; within = leb-true (be16_at bytes 18) max_private b.0; there = b.1 }

-- with S the private data has the four bytes
pub terms_long : (flags n : ℕ) → terms_there flags n ≡ true → flag_s flags ≡ true → 4 ≤ n
terms_long flags n e s = leb-true 4 n (sym (ap (λ (b : Bool). pick b (leb 4 n) true) s) ∙ e)
