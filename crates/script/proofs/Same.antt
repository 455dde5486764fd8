-- `==` at slices of bytes, as `same` says it. Assumes nothing.
use Rattle.std.proofs.Common.{◌≡◌, ℕ, Bool, true, false, ◌&&◌, List, [], ◌∷◌, eqb, refl, ap, ◌∙◌}
use Rattle.std.specs.Cmp.Lexicographic.{pointwise}
use Rattle.wire.specs.Wire.{both, same}

and_both : (t u : Bool) → (t && u) ≡ both t u
and_both true u = refl
and_both false u = refl

pub equal_same : (a b : List ℕ) → pointwise eqb a b ≡ same a b
equal_same [] [] = refl
equal_same [] (y ∷ ys) = refl
equal_same (x ∷ xs) [] = refl
equal_same (x ∷ xs) (y ∷ ys) = and_both (eqb x y) (pointwise eqb xs ys) ∙ ap (λ (t : Bool). both (eqb x y) t) (equal_same xs ys)
