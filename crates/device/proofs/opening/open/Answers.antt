-- `open` meets its contract: the two tests pick the case of `opened_rnic`. The numbers fit their fields, since each is at most the length.
use Rattle.rnic.proofs.Order.{Ordered, ordered}
use Rattle.rnic.specs.Rnic.{in_order, opened_rnic}
use Rattle.wire.proofs.Laws.{both_true}
use borrow.Author.Tests.{leb-true}
use lib.Dec.{leb}
use native.Mathlib.Omega.{arith}
use Prim.Native.Nat.{ℕ, ◌≤◌}
use mathlib.Core.Bool.{true}
use mathlib.Core.List.{[], ◌∷◌}
use mathlib.Core.Path.{◌≡◌, sym, ◌∙◌}
use Rattle.wire.specs.Wire.{both}
use Rattle.device.proofs.opening.open.Goals as goal

-- what the two tests give: each number is at most the length
small :
    (len s₀ e₀ s₁ e₁ s₂ e₂ s₃ e₃ : ℕ) → both (leb 1 len) (leb len 16777216) ≡ true → in_order 0 (s₀ ∷ e₀ ∷ s₁ ∷ e₁ ∷ s₂ ∷ e₂ ∷ s₃ ∷ e₃ ∷ []) len ≡ true →
    (len ≤ 16777216) × Ordered len s₀ e₀ s₁ e₁ s₂ e₂ s₃ e₃
small len s₀ e₀ s₁ e₁ s₂ e₂ s₃ e₃ h k = (leb-true len 16777216 (both_true (leb 1 len) (leb len 16777216) h).1, ordered len s₀ e₀ s₁ e₁ s₂ e₂ s₃ e₃ k)

pub overflow_cast-len : goal.overflow_cast-len
overflow_cast-len c = let a = c.args in omega (arith, small a.len a.s0 a.e0 a.s1 a.e1 a.s2 a.e2 a.s3 a.e3 (sym c.length_in_range.ensures ∙ c.if-length_in_range.true) (sym c.in_order.ensures ∙ c.if-in_order.true))

pub overflow_cast-s0 : goal.overflow_cast-s0
overflow_cast-s0 c = let a = c.args in omega (arith, small a.len a.s0 a.e0 a.s1 a.e1 a.s2 a.e2 a.s3 a.e3 (sym c.length_in_range.ensures ∙ c.if-length_in_range.true) (sym c.in_order.ensures ∙ c.if-in_order.true))

pub overflow_cast-e0 : goal.overflow_cast-e0
overflow_cast-e0 c = let a = c.args in omega (arith, small a.len a.s0 a.e0 a.s1 a.e1 a.s2 a.e2 a.s3 a.e3 (sym c.length_in_range.ensures ∙ c.if-length_in_range.true) (sym c.in_order.ensures ∙ c.if-in_order.true))

pub overflow_cast-s1 : goal.overflow_cast-s1
overflow_cast-s1 c = let a = c.args in omega (arith, small a.len a.s0 a.e0 a.s1 a.e1 a.s2 a.e2 a.s3 a.e3 (sym c.length_in_range.ensures ∙ c.if-length_in_range.true) (sym c.in_order.ensures ∙ c.if-in_order.true))

pub overflow_cast-e1 : goal.overflow_cast-e1
overflow_cast-e1 c = let a = c.args in omega (arith, small a.len a.s0 a.e0 a.s1 a.e1 a.s2 a.e2 a.s3 a.e3 (sym c.length_in_range.ensures ∙ c.if-length_in_range.true) (sym c.in_order.ensures ∙ c.if-in_order.true))

pub overflow_cast-s2 : goal.overflow_cast-s2
overflow_cast-s2 c = let a = c.args in omega (arith, small a.len a.s0 a.e0 a.s1 a.e1 a.s2 a.e2 a.s3 a.e3 (sym c.length_in_range.ensures ∙ c.if-length_in_range.true) (sym c.in_order.ensures ∙ c.if-in_order.true))

pub overflow_cast-e2 : goal.overflow_cast-e2
overflow_cast-e2 c = let a = c.args in omega (arith, small a.len a.s0 a.e0 a.s1 a.e1 a.s2 a.e2 a.s3 a.e3 (sym c.length_in_range.ensures ∙ c.if-length_in_range.true) (sym c.in_order.ensures ∙ c.if-in_order.true))

pub overflow_cast-s3 : goal.overflow_cast-s3
overflow_cast-s3 c = let a = c.args in omega (arith, small a.len a.s0 a.e0 a.s1 a.e1 a.s2 a.e2 a.s3 a.e3 (sym c.length_in_range.ensures ∙ c.if-length_in_range.true) (sym c.in_order.ensures ∙ c.if-in_order.true))

pub overflow_cast-e3 : goal.overflow_cast-e3
overflow_cast-e3 c = let a = c.args in omega (arith, small a.len a.s0 a.e0 a.s1 a.e1 a.s2 a.e2 a.s3 a.e3 (sym c.length_in_range.ensures ∙ c.if-length_in_range.true) (sym c.in_order.ensures ∙ c.if-in_order.true))

pub returns-then-in_order : goal.returns-then-in_order
unfolding opened_rnic
returns-then-in_order c =
    let h = sym c.length_in_range.ensures ∙ c.if-length_in_range.true in
    let k = sym c.in_order.ensures ∙ c.if-in_order.true in
    (simp (h, k), simp (h, k) c.store_opened.ensures)

pub returns-then-length_in_range : goal.returns-then-length_in_range
unfolding opened_rnic
returns-then-length_in_range c =
    let h = sym c.length_in_range.ensures ∙ c.if-length_in_range.true in
    let k = sym c.in_order.ensures ∙ c.if-in_order.false in
    (simp (h, k), simp (h, k) c.clear_block.ensures)

pub returns : goal.returns
unfolding opened_rnic
returns c =
    let h = sym c.length_in_range.ensures ∙ c.if-length_in_range.false in
    (simp h, simp h c.clear_block-2.ensures)
