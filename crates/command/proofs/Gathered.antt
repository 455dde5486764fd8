-- Words read as numbers one after the other, and what the words are then.
-- Assumes nothing.
use Rattle.std.proofs.Common.{◌≡◌, ℕ, zero, suc, ◌+◌, ◌-◌, ◌<◌, Bool, true, false, List, ◌∷◌, ◌++◌, Option, Some, None, refl, sym, ap, ap₂, ◌∙◌, add-one, length, replicate, set, eqb, ltb, length-append, append_assoc, append-nil, arith}
use Rattle.std.specs.Prelude.{is_some, unwrap_or}
use borrow.Author.Tests.{ltb-true, ltb-false, eq-eqb, ne_eqb}
use lib.Seq.{set_at}
use Rattle.wire.specs.Wire.{pick, both}
use Rattle.command.specs.Args.{listed, number_at, all_numbers, numbers_of}

length-listed : {A : Type 0} (n : ℕ) (f : ℕ → A) → length (listed n f) ≡ n
unfolding listed
length-listed zero f = refl
length-listed (suc n) f = simp length-append (omega (arith, length-listed n f))

module _ (f : ℕ → Option ℕ) where
  abbrev pub values : ℕ → List ℕ
  values n = listed n (λ i. unwrap_or (f i) 0)

  -- number i joins, where nine have room
  pub value_joins : (l : List ℕ) (i v : ℕ) → i < 9 → l ≡ values i ++ replicate (9 - i) 0 → f i ≡ Some v → set l i v ≡ values (i + 1) ++ replicate (9 - (i + 1)) 0
  unfolding listed
  value_joins l i v h e g = go (9 - (i + 1)) (omega arith)
    where
      go : (k : ℕ) → 9 - i ≡ suc k → set l i v ≡ values (i + 1) ++ replicate k 0
      go k q =
          ap (λ xs. set xs i v) (e ∙ ap (λ m. values i ++ replicate m 0) q)
          ∙ set_at (values i) 0 (replicate k 0) v i (length-listed i (λ j. unwrap_or (f j) 0))
          ∙ rw (add-one, append_assoc) (ap (λ (x : Option ℕ). values i ++ (unwrap_or x 0 ∷ replicate k 0)) (sym g))

  pub number_joins : (i v : ℕ) → all_numbers i f ≡ true → f i ≡ Some v → all_numbers (i + 1) f ≡ true
  unfolding all_numbers
  number_joins i v e g = rw add-one (ap₂ both e (ap is_some g))

  -- one that is no number
  pub not-all : (n i : ℕ) → i < n → f i ≡ None → all_numbers n f ≡ false
  unfolding all_numbers
  not-all zero i h g = absurd (omega arith)
  not-all (suc n) i h g = go (ltb i n) refl (λ l. not-all n i l g)
    where
      last : (t : Bool) → both t false ≡ false
      last true = refl
      last false = refl

      go : (t : Bool) → ltb i n ≡ t → (i < n → all_numbers n f ≡ false) → both (all_numbers n f) (is_some (f n)) ≡ false
      go true e later = ap (λ b. both b (is_some (f n))) (later (ltb-true i n e))
      go false e later =
          let same : i ≡ n = omega (arith, ltb-false i n e) in
          ap (λ b. both (all_numbers n f) b) (ap (λ j. is_some (f j)) (sym same) ∙ ap is_some g) ∙ last (all_numbers n f)

-- what the words are as numbers
module _ (ws : List (List ℕ)) (count : ℕ) where
  abbrev after : ℕ → Option ℕ
  after i = number_at ws (i + 1)

  pub none-counted : (length ws ≡ count → ⊥) → None ≡ numbers_of ws count
  unfolding numbers_of
  none-counted e = rw (ne_eqb (length ws) count e)

  pub none_read : (i : ℕ) → i < 9 → after i ≡ None → None ≡ numbers_of ws count
  unfolding numbers_of
  none_read i h e = rw (not-all after 9 i h e) (go (eqb (length ws) count))
    where
      go : (t : Bool) → ◌≡◌ {A = Option (List ℕ)} None (pick (both t false) (Some (values after 9)) None)
      go true = refl
      go false = refl

  pub all_read : (l : List ℕ) (i : ℕ) → i ≡ 9 → length ws ≡ count → l ≡ values after i ++ replicate (9 - i) 0 → all_numbers i after ≡ true → Some l ≡ numbers_of ws count
  unfolding numbers_of
  all_read l i n e h g =
      rw (eq-eqb (length ws) count e, sym (ap (λ m. all_numbers m after) n) ∙ g)
      (ap (λ xs. Some xs) (h ∙ ap (λ m. values after m ++ replicate (9 - m) 0) n ∙ append-nil (values after 9)))
