-- A run of the C entries is a run of calls by number and of offers of the crate `isolation`, and shows A the same.
use Prim.Native.Nat.{ℕ}
use mathlib.Core.Path.{◌≡◌, refl}
use mathlib.Core.List.{List, [], ◌∷◌, map}
use Rattle.isolation.specs.Book.{Call, Opening}
use Rattle.isolation.proofs.Numbers.{numbers}
use Rattle.isolation.proofs.Runs.{is_for, keep_if}
use Rattle.isolation.proofs.Runs as by_number_lem
use Rattle.isolation_c.specs.Request.{Request}
use Rattle.isolation_c.proofs.Calls.{Host, world_of, view_in}
use Rattle.isolation_c.proofs.Openings.{opened}
use Rattle.isolation_c.proofs.Runs.{Run, OpenedRun, calls_of, trace, views, calls_up_to}
use Rattle.isolation_c.proofs.Runs.Run.{stop, next}
use Rattle.isolation_c.proofs.Steps.{numbered, call_same, made}

pub mapped : {h h₁ : Host} {cs : List Request} → Run h cs h₁ → by_number_lem.Run numbers (world_of h) (map numbered cs) (world_of h₁)
mapped stop = by_number_lem.Run.stop
mapped (next {h = h} {c = c} x h₁ s r) = by_number_lem.Run.next x (world_of h₁) (made h c x h₁ s) (mapped r)

-- it shows A the same
module _ (A : ℕ) where
  pub calls_same : {h h₁ : Host} {cs : List Request} (r : Run h cs h₁) → calls_of A r ≡ by_number_lem.calls_of A (mapped r)
  unfolding calls_of by_number_lem.calls_of mapped
  calls_same stop = refl
  calls_same (next {h = h} {c = c} x h₁ s r) = λ i. keep_if (is_for A (world_of h) (call_same c i)) (call_same c i) (calls_same r i)

  pub trace-same : {h h₁ : Host} {cs : List Request} (r : Run h cs h₁) → trace A r ≡ by_number_lem.trace A (mapped r)
  unfolding trace by_number_lem.trace mapped
  trace-same stop = refl
  trace-same (next {h = h} {c = c} x h₁ s r) =
      λ i. keep_if (is_for A (world_of h) (call_same c i)) (record { answer = x; after = view_in A h₁ }) (trace-same r i)

  pub views_same : {h h₁ : Host} {cs : List Request} (r : Run h cs h₁) → views A r ≡ by_number_lem.views A (mapped r)
  unfolding views by_number_lem.views mapped
  views_same stop = refl
  views_same (next x h₁ s r) = λ i. view_in A h₁ ∷ views_same r i

  pub calls_up-to-same : {h h₁ : Host} {cs : List Request} (r : Run h cs h₁) → calls_up_to A r ≡ by_number_lem.calls_up_to A (mapped r)
  unfolding calls_up_to by_number_lem.calls_up_to mapped
  calls_up-to-same stop = refl
  calls_up-to-same (next {h = h} {c = c} x h₁ s r) =
      λ i. let put_first : List Call → List Call = keep_if (is_for A (world_of h) (call_same c i)) (call_same c i) in
      put_first [] ∷ map put_first (calls_up-to-same r i)

-- a whole run
abbrev pub mapped_opened : (o : Opening) (mem rooms : List ℕ) → OpenedRun o mem rooms → by_number_lem.OpenedRun numbers o mem rooms
mapped_opened o mem rooms r = record {
  start = world_of r.start;
  opened = opened o mem rooms r.start r.opened;
  calls = map numbered r.requests;
  end = world_of r.end;
  run = mapped r.run;
}
