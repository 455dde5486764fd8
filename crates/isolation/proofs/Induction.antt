-- A whole run from a well-formed world, made through any interface: what it shows A is what A's book says, fed A's calls alone.
-- The argument: at each call A's view goes where the book's does, `moved` and `traced`, and a run is that folded.
use Prim.Native.Nat.{ℕ, ◌<◌}
use mathlib.Core.Path.{◌≡◌, refl, sym, ap, ap₂, fun_ext, ◌∙◌}
use mathlib.Core.Bool.{Bool, true, false}
use mathlib.Core.List.{List, [], ◌∷◌, map, map-map}
use borrow.Author.Tests.{eqb-true, eqb-false}
use Rattle.isolation.specs.Book.{Call, Answer, View, Observation, owner_in, book, book_trace, book_view}
use Rattle.isolation.proofs.Calls.{World, view}
use Rattle.isolation.proofs.Runs.{Interface, Run, is_for, keep_if, calls_of, trace, views, calls_up_to}
use Rattle.isolation.proofs.Runs.Run.{stop, next}
use Rattle.isolation.proofs.Steps.{step_fit, own, alien}
use Rattle.isolation.proofs.WellFormed.{Fit}

module _ (I : Interface) where
  -- one call keeps a world well-formed, and so does a run
  pub made_fit : {w w₁ : World} {c : I.Request} {x : I.Reply} → Fit w → I.Made w c x w₁ → Fit w₁
  made_fit {w} {w₁} {c} {x} f s = let n = I.is_step w c x w₁ s in step_fit w n.0 w₁ (I.call c) f n.1

  pub run_fit : {w w₁ : World} {cs : List I.Request} → Fit w → Run I w cs w₁ → Fit w₁
  run_fit f stop = f
  run_fit f (next x w₁ s r) = run_fit (made_fit f s) r

  module _ (A : ℕ) (h_a : A < 4) where
    -- ---- one call
    module _ {w w₁ : World} {c : I.Request} {x : I.Reply} (f : Fit w) (s : I.Made w c x w₁) where
      -- A's own call: the reply and A's view are the book's
      own-call : is_for A w (I.call c) ≡ true → ◌≡◌ {A = Observation I.Reply} (record { answer = x; after = view A w₁ }) (record { answer = I.reply (book A (view A w) (I.call c)).answer; after = (book A (view A w) (I.call c)).after })
      own-call e =
          let n = I.is_step w c x w₁ s in
          let o = own A h_a w (I.call c) n.0 w₁ f (eqb-true (owner_in w.dev (I.call c)) A e) n.1 in
          λ i. record { answer = (n.2 ∙ ap (λ (y : Observation Answer). I.reply y.answer) o) i; after = (o i).after }

      -- another's leaves it
      other_call : is_for A w (I.call c) ≡ false → view A w₁ ≡ view A w
      other_call e =
          let n = I.is_step w c x w₁ s in
          alien A h_a w (I.call c) n.0 w₁ f (eqb-false (owner_in w.dev (I.call c)) A e) n.1

      -- so the book goes on from A's view after the call, whatever calls of A's come
      moved : (l : List Call) → book_view A (view A w) (keep_if (is_for A w (I.call c)) (I.call c) l) ≡ book_view A (view A w₁) l
      unfolding book_view
      moved l = go (is_for A w (I.call c)) refl
        where
          go : (t : Bool) → is_for A w (I.call c) ≡ t → book_view A (view A w) (keep_if t (I.call c) l) ≡ book_view A (view A w₁) l
          go true e = ap (λ (o : Observation I.Reply). book_view A o.after l) (sym (own-call e))
          go false e = ap (λ (v : View). book_view A v l) (sym (other_call e))

      traced :
          (l : List Call) →
          book_trace I.reply A (view A w) (keep_if (is_for A w (I.call c)) (I.call c) l)
          ≡ keep_if (is_for A w (I.call c)) (record { answer = x; after = view A w₁ }) (book_trace I.reply A (view A w₁) l)
      unfolding book_trace
      traced l = go (is_for A w (I.call c)) refl
        where
          go :
              (t : Bool) → is_for A w (I.call c) ≡ t →
              book_trace I.reply A (view A w) (keep_if t (I.call c) l) ≡ keep_if t (record { answer = x; after = view A w₁ }) (book_trace I.reply A (view A w₁) l)
          go true e = ap (λ (o : Observation I.Reply). o ∷ book_trace I.reply A o.after l) (sym (own-call e))
          go false e = ap (λ (v : View). book_trace I.reply A v l) (sym (other_call e))

    -- ---- a run
    pub trace-is : {w w₁ : World} {cs : List I.Request} → Fit w → (r : Run I w cs w₁) → trace A r ≡ book_trace I.reply A (view A w) (calls_of A r)
    unfolding trace calls_of book_trace
    trace-is f stop = refl
    trace-is f (next {w = w} {c = c} x w₁ s r) =
        ap (keep_if (is_for A w (I.call c)) (record { answer = x; after = view A w₁ })) (trace-is (made_fit f s) r) ∙ sym (traced f s (calls_of A r))

    pub views-are : {w w₁ : World} {cs : List I.Request} → Fit w → (r : Run I w cs w₁) → views A r ≡ map (book_view A (view A w)) (calls_up_to A r)
    unfolding views calls_up_to book_view
    views-are f stop = refl
    views-are f (next {w = w} {c = c} x w₁ s r) =
        ap₂ (λ (v : View) (l : List View). v ∷ l) (sym (moved f s []))
        (views-are (made_fit f s) r
        ∙ ap (λ (g : List Call → View). map g (calls_up_to A r)) (sym (fun_ext (moved f s)))
        ∙ sym (map-map (book_view A (view A w)) (keep_if (is_for A w (I.call c)) (I.call c)) (calls_up_to A r)))

    pub end_is : {w w₁ : World} {cs : List I.Request} → Fit w → (r : Run I w cs w₁) → view A w₁ ≡ book_view A (view A w) (calls_of A r)
    unfolding calls_of book_view
    end_is f stop = refl
    end_is f (next x w₁ s r) = end_is (made_fit f s) r ∙ sym (moved f s (calls_of A r))
