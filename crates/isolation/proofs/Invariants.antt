-- What every call of A's book keeps, and A's first view has, A's view has in every world that a run reaches: at a run's end it is the
-- book's.
use Prim.Native.Nat.{ℕ, ◌<◌}
use mathlib.Core.Path.{sym, ap, subst, ◌∙◌}
use mathlib.Core.List.{List, [], ◌∷◌}
use Rattle.isolation.specs.Book.{Call, View, Opening, book, book_view, first_bytes, first_view}
use Rattle.isolation.proofs.Calls.{World, Opened, view}
use Rattle.isolation.proofs.Induction.{end_is}
use Rattle.isolation.proofs.Openings.{opened_fit, opened_view}
use Rattle.isolation.proofs.Runs.{Interface, Run, calls_of}

module _ (P : View → Type 0) (A : ℕ) (kept : (v : View) (c : Call) → P v → P (book A v c).after) where
  -- over a list of A's calls
  book-kept : (cs : List Call) (v : View) → P v → P (book_view A v cs)
  unfolding book_view
  book-kept [] v p = p
  book-kept (c ∷ cs) v p = book-kept cs (book A v c).after (kept v c p)

  -- over a run from an opening
  pub reached :
      (o : Opening) (mem rooms : List ℕ) {I : Interface} {w w₁ : World} {cs : List I.Request} → Opened o mem rooms w → Run I w cs w₁ →
      A < 4 → P (first_view A o (first_bytes A o mem)) → P (view A w₁)
  reached o mem rooms {I = I} {w = w} s r h_a first =
      subst P (sym (end_is I A h_a (opened_fit o mem rooms w s) r ∙ ap (λ (v : View). book_view A v (calls_of A r)) (opened_view o mem rooms w s A h_a)))
      (book-kept (calls_of A r) (first_view A o (first_bytes A o mem)) first)
