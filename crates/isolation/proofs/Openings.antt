-- The opening, accepted or refused: it gives a well-formed world, in which each domain's view is the first of its book.
use Prim.Native.Nat.{ℕ, zero, suc, ◌+◌, ◌-◌, ◌*◌, ◌≤◌, ◌<◌}
use mathlib.Core.Path.{◌≡◌, refl, sym, ap, subst, ◌∙◌}
use mathlib.Core.Bool.{Bool, true, false}
use mathlib.Core.List.{List, [], ◌∷◌}
use native.Mathlib.Omega.{arith}
use lib.ListN.{length, get_or, take, replicate}
use lib.Dec.{leb}
use borrow.Author.Tests.{leb-true}
use borrow.Rule.Slice.PartMut.{mid_of}
use Rattle.wire.specs.Wire.{pick, both}
use Rattle.wire.proofs.Laws.{both_true}
use Rattle.rdmap.specs.Stream.{closed_stream, no_stream}
use Rattle.domain.specs.Domain.{new_domain}
use Rattle.domain.specs.declared.Domain.{Domain}
use Rattle.rnic.specs.Rnic.{domain_at, bytes_of, in_order, new_rnic, empty_rnic, opened_rnic}
use Rattle.rnic.specs.Offer.{rooms_bytes, room_of}
use Rattle.rnic.specs.declared.Rnic.{Rnic}
use Rattle.isolation.specs.Book.{View, Opening, opens, first_bytes, first_view}
use Rattle.isolation.proofs.Calls.{World, Opened, held_in, view, accepted}
use Rattle.isolation.proofs.WellFormed.{Fit, view_path, world_path}
use Rattle.std.specs.Prelude.{Err, Ok}
use Rattle.wire.specs.declared.refusal.LocalRefusal.TheVariants.{BadPlace, OutOfRange}
use Rattle.std.specs.Prelude.{Result, ⊤}
use Rattle.wire.specs.declared.refusal.LocalRefusal.{LocalRefusal}

-- what the contract's definition says of an opening that is accepted, and of one that is not
abbrev opened_by : Opening → (Result ⊤ LocalRefusal × Rnic)
opened_by o = opened_rnic o.len o.s₀ o.e₀ o.s₁ o.e₁ o.s₂ o.e₂ o.s₃ o.e₃

abbrev new_by : Opening → Rnic
new_by o = new_rnic o.len o.s₀ o.e₀ o.s₁ o.e₁ o.s₂ o.e₂ o.s₃ o.e₃

pick-both : (t u : Bool) (x y z : Result ⊤ LocalRefusal × Rnic) → both t u ≡ true → pick t (pick u x y) z ≡ x
pick-both true true x y z e = refl
pick-both true false x y z e = cc
pick-both false u x y z e = cc

abbrev Turned : (Result ⊤ LocalRefusal × Rnic) → Type 0
Turned r = (accepted r.0 ≡ false) × (r.1 ≡ empty_rnic)

pick_turned : (t u : Bool) (x y z : Result ⊤ LocalRefusal × Rnic) → both t u ≡ false → Turned y → Turned z → Turned (pick t (pick u x y) z)
pick_turned true true x y z e p q = ((cc), (cc))
pick_turned true false x y z e p q = p
pick_turned false u x y z e p q = q

module _ (o : Opening) where
  open_in : opens o ≡ true → opened_by o ≡ (Ok tt, new_by o)
  unfolding opened_rnic
  open_in e = pick-both (both (leb 1 o.len) (leb o.len 16777216)) (in_order 0 (o.s₀ ∷ o.e₀ ∷ o.s₁ ∷ o.e₁ ∷ o.s₂ ∷ o.e₂ ∷ o.s₃ ∷ o.e₃ ∷ []) o.len) _ _ _ e

  open_out : opens o ≡ false → Turned (opened_by o)
  unfolding opened_rnic
  open_out e =
      pick_turned (both (leb 1 o.len) (leb o.len 16777216)) (in_order 0 (o.s₀ ∷ o.e₀ ∷ o.s₁ ∷ o.e₁ ∷ o.s₂ ∷ o.e₂ ∷ o.s₃ ∷ o.e₃ ∷ []) o.len)
      _ (Err BadPlace, empty_rnic) (Err OutOfRange, empty_rnic) e (refl, refl) (refl, refl)

  -- the parts of an opening in order
  record Ordered : Type 0 where
    p₀ : o.s₀ ≤ o.e₀
    q₀ : o.e₀ ≤ o.s₁
    p₁ : o.s₁ ≤ o.e₁
    q₁ : o.e₁ ≤ o.s₂
    p₂ : o.s₂ ≤ o.e₂
    q₂ : o.e₂ ≤ o.s₃
    p₃ : o.s₃ ≤ o.e₃
    q₃ : o.e₃ ≤ o.len

  in_order_lem : opens o ≡ true → Ordered
  in_order_lem e =
      let x₀ = both_true (leb 0 o.s₀) _ (both_true (both (leb 1 o.len) (leb o.len 16777216)) _ e).1 in
      let x₁ = both_true _ _ x₀.1 in
      let x₂ = both_true _ _ x₁.1 in
      let x₃ = both_true _ _ x₂.1 in
      let x₄ = both_true _ _ x₃.1 in
      let x₅ = both_true _ _ x₄.1 in
      let x₆ = both_true _ _ x₅.1 in
      let x₇ = both_true _ _ x₆.1 in
      record {
        p₀ = leb-true o.s₀ o.e₀ x₁.0;
        q₀ = leb-true o.e₀ o.s₁ x₂.0;
        p₁ = leb-true o.s₁ o.e₁ x₃.0;
        q₁ = leb-true o.e₁ o.s₂ x₄.0;
        p₂ = leb-true o.s₂ o.e₂ x₅.0;
        q₂ = leb-true o.e₂ o.s₃ x₆.0;
        p₃ = leb-true o.s₃ o.e₃ x₇.0;
        q₃ = leb-true o.e₃ o.len x₇.1;
      }

  module _ (k : Ordered) where
    new_ordered : (i : ℕ) → i < 4 → (domain_at (new_by o) i).part.start ≤ (domain_at (new_by o) i).part.end
    new_ordered zero h = k.p₀
    new_ordered (suc zero) h = k.p₁
    new_ordered (suc (suc zero)) h = k.p₂
    new_ordered (suc (suc (suc zero))) h = k.p₃
    new_ordered (suc (suc (suc (suc i)))) h = absurd (omega arith)

    new_within : (i : ℕ) → i < 4 → (domain_at (new_by o) i).part.end ≤ o.len
    new_within zero h = omega arith
    new_within (suc zero) h = omega arith
    new_within (suc (suc zero)) h = omega arith
    new_within (suc (suc (suc zero))) h = k.q₃
    new_within (suc (suc (suc (suc i)))) h = absurd (omega arith)

    new_apart : (i j : ℕ) → i < j → j < 4 → (domain_at (new_by o) i).part.end ≤ (domain_at (new_by o) j).part.start
    new_apart i zero h hj = absurd (omega arith)
    new_apart zero (suc zero) h hj = omega arith
    new_apart (suc i) (suc zero) h hj = absurd (omega arith)
    new_apart zero (suc (suc zero)) h hj = omega arith
    new_apart (suc zero) (suc (suc zero)) h hj = omega arith
    new_apart (suc (suc i)) (suc (suc zero)) h hj = absurd (omega arith)
    new_apart zero (suc (suc (suc zero))) h hj = omega arith
    new_apart (suc zero) (suc (suc (suc zero))) h hj = omega arith
    new_apart (suc (suc zero)) (suc (suc (suc zero))) h hj = omega arith
    new_apart (suc (suc (suc i))) (suc (suc (suc zero))) h hj = absurd (omega arith)
    new_apart i (suc (suc (suc (suc j)))) h hj = absurd (omega arith)

    new_fit : (mem rooms : List ℕ) → length mem ≡ o.len → length rooms ≡ rooms_bytes → Fit (record { dev = new_by o; mem = mem; rooms = rooms })
    new_fit mem rooms e r = record {
      four = refl;
      long = e;
      apart = new_apart;
      ordered = new_ordered;
      within = λ i h. rw e (new_within i h);
      roomy = r;
    }

-- a refused opening is one of length 0 with empty parts
abbrev no_opening : Opening
no_opening = record { len = 0; s₀ = 0; e₀ = 0; s₁ = 0; e₁ = 0; s₂ = 0; e₂ = 0; s₃ = 0; e₃ = 0 }

empty_fit : (rooms : List ℕ) → length rooms ≡ rooms_bytes → Fit (record { dev = empty_rnic; mem = []; rooms = rooms })
empty_fit rooms = new_fit no_opening (record {
  p₀ = omega arith;
  q₀ = omega arith;
  p₁ = omega arith;
  q₁ = omega arith;
  p₂ = omega arith;
  q₂ = omega arith;
  p₃ = omega arith;
  q₃ = omega arith;
}) [] rooms refl

-- no stream of a new domain holds a byte
pub none-held : (n slot : ℕ) → (get_or (replicate n closed_stream) slot no_stream).framing.held ≡ 0
none-held zero slot = refl
none-held (suc n) zero = refl
none-held (suc n) (suc slot) = none-held n slot

new_holds : (A start end : ℕ) (rooms : List ℕ) (slot : ℕ) → held_in A (new_domain start end) rooms slot ≡ []
new_holds A start end rooms slot = ap (λ (n : ℕ). pick (leb slot 3) (take n (room_of rooms (4 * A + slot))) []) (none-held 4 slot) ∙ go (leb slot 3)
  where
    go : (t : Bool) → ◌≡◌ {A = List ℕ} (pick t [] []) []
    go true = refl
    go false = refl

module _ (o : Opening) (mem rooms : List ℕ) (w : World) (s : Opened o mem rooms w) where
  opened-long : opens o ≡ true → length mem ≡ o.len
  opened-long e = s.2 (ap (λ x. accepted x.0) (s.1 ∙ open_in o e))

  opened_world : opens o ≡ true → w ≡ record { dev = new_by o; mem = mem; rooms = rooms }
  opened_world e =
      let r = s.1 ∙ open_in o e in
      s.4 ∙ world_path (ap (λ x. x.1) r) (ap (λ x. pick (accepted x.0) mem []) r) refl

  refused_world : opens o ≡ false → w ≡ record { dev = empty_rnic; mem = []; rooms = rooms }
  refused_world e =
      let r = open_out o e in
      s.4 ∙ world_path (ap (λ x. x.1) s.1 ∙ r.1) (ap (λ x. pick (accepted x.0) mem []) s.1 ∙ ap (λ (t : Bool). pick t mem []) r.0) refl

  -- an opening, accepted or refused, gives a well-formed device
  pub opened_fit : Fit w
  opened_fit = go (opens o) refl
    where
      go : (t : Bool) → opens o ≡ t → Fit w
      go true e = subst Fit (sym (opened_world e)) (new_fit o (in_order_lem o e) mem rooms (opened-long e) s.3)
      go false e = subst Fit (sym (refused_world e)) (empty_fit rooms s.3)

  -- and A's first view is its book's: the new domain with its part, the bytes of its part, and nothing held
  pub opened_view : (A : ℕ) → A < 4 → view A w ≡ first_view A o (first_bytes A o mem)
  opened_view A h = go (opens o) refl
    where
      new : (i : ℕ) → i < 4 → domain_at (new_by o) i ≡ new_domain (get_or (o.s₀ ∷ o.s₁ ∷ o.s₂ ∷ o.s₃ ∷ []) i 0) (get_or (o.e₀ ∷ o.e₁ ∷ o.e₂ ∷ o.e₃ ∷ []) i 0)
      new zero l = refl
      new (suc zero) l = refl
      new (suc (suc zero)) l = refl
      new (suc (suc (suc zero))) l = refl
      new (suc (suc (suc (suc i)))) l = absurd (omega arith)

      none : (i : ℕ) → i < 4 → domain_at empty_rnic i ≡ new_domain 0 0
      none zero l = refl
      none (suc zero) l = refl
      none (suc (suc zero)) l = refl
      none (suc (suc (suc zero))) l = refl
      none (suc (suc (suc (suc i)))) l = absurd (omega arith)

      first : Bool → List ℕ → List ℕ → View
      first t ss es =
          record {
            size = pick t o.len 0;
            dom = new_domain (pick t (get_or ss A 0) 0) (pick t (get_or es A 0) 0);
            bytes = mid_of (pick t (get_or ss A 0) 0) (pick t (get_or es A 0) 0 - pick t (get_or ss A 0) 0) mem;
            held = λ slot. [];
          }

      held : (x : Domain) (start end : ℕ) → x ≡ new_domain start end → (slot : ℕ) → held_in A x rooms slot ≡ []
      held x start end e slot = ap (λ (y : Domain). held_in A y rooms slot) e ∙ new_holds A start end rooms slot

      go : (t : Bool) → opens o ≡ t → view A w ≡ first t (o.s₀ ∷ o.s₁ ∷ o.s₂ ∷ o.s₃ ∷ []) (o.e₀ ∷ o.e₁ ∷ o.e₂ ∷ o.e₃ ∷ [])
      go true e = ap (view A) (opened_world e) ∙ view_path refl (new A h) (ap (λ x. bytes_of x mem) (new A h)) (held _ _ _ (new A h))
      go false e = ap (view A) (refused_world e) ∙ view_path refl (none A h) (ap (λ x. bytes_of x []) (none A h)) (held _ _ _ (none A h))
