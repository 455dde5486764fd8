-- Digits that are written from the last to the first: a turn of the loop, its last store, and how far it can go. Assumes nothing.
use mathlib.Core.Path.{◌≡◌, refl, sym, ap, ◌∙◌}
use mathlib.Core.List.{List, [], ◌∷◌, ◌++◌, append_assoc, append-nil}
use Prim.Native.Nat.{ℕ, zero, suc, ◌+◌, ◌-◌, ◌/◌, ◌%◌, ◌^◌, ◌≤◌, ◌<◌}
use native.Mathlib.Nat.{not-suc-le-zero, le_of_suc-le-suc, pow-suc}
use native.Mathlib.Omega.{arith}
use lib.ListN.{length, drop, set, drop_of_length-le}
use borrow.Author.Tests.{lt-ltb, le-ltb}
use Rattle.script.specs.Number.{digits_of, decimal}

-- what stands from k on after a store at k
stored : (d : List ℕ) (k b : ℕ) → k < length d → drop k (set d k b) ≡ b ∷ drop (suc k) d
stored [] k b h = absurd (not-suc-le-zero h)
stored (x ∷ d) zero b h = refl
stored (x ∷ d) (suc k) b h = stored d k b (le_of_suc-le-suc h)

pred_suc : (k : ℕ) → suc k - 1 ≡ k
pred_suc k = omega arith

module _ (d : List ℕ) (v b : ℕ) (e : b ≡ 48 + v % 10) where
  pub digit_turn : (k : ℕ) → 1 ≤ k → k ≤ length d → 10 ≤ v
      → digits_of k v ++ drop k d ≡ digits_of (k - 1) (v / 10) ++ drop (k - 1) (set d (k - 1) b)
  unfolding digits_of
  digit_turn zero h l n = absurd (not-suc-le-zero h)
  digit_turn (suc k) h l n = rw (pred_suc k, le-ltb v 10 n, stored d k b l, e) (append_assoc (digits_of k (v / 10)) ((48 + v % 10) ∷ []) (drop (suc k) d))

  pub digit-last : (k : ℕ) → 1 ≤ k → k ≤ length d → v < 10 → digits_of k v ++ drop k d ≡ drop (k - 1) (set d (k - 1) b)
  unfolding digits_of
  digit-last zero h l n = absurd (not-suc-le-zero h)
  digit-last (suc k) h l n =
      let f : 48 + v ≡ b = omega arith in
      rw (pred_suc k, lt-ltb v 10 n, stored d k b l, f)

-- a number of two digits or more has room for one digit more before the last
pub room : (k v : ℕ) → 1 ≤ k → 10 ≤ v → v < 10 ^ k → (1 ≤ k - 1) × (v / 10 < 10 ^ (k - 1))
room zero v h n l = absurd (not-suc-le-zero h)
room (suc zero) v h n l = absurd (omega arith)
room (suc (suc k)) v h n l = rw (pred_suc (suc k)) (omega arith, omega (arith, pow-suc 10 (suc k)))

-- before the first turn
pub digits_none : (d : List ℕ) (v : ℕ) → length d ≡ 20 → decimal v ≡ digits_of 20 v ++ drop 20 d
unfolding decimal
digits_none d v h = sym (ap (λ (l : List ℕ). digits_of 20 v ++ l) (drop_of_length-le d {i = 20} (omega arith)) ∙ append-nil (digits_of 20 v))
