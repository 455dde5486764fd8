-- What a writer of frames answers, in two words: 0 and a refusal's number, or 1 and the length.
use Rattle.std.specs.Prelude.{ℕ, List, [], ◌∷◌}
use Rattle.std.specs.Prelude.{Err, Ok, Result}
use Rattle.wire.specs.declared.refusal.LocalRefusal.{LocalRefusal}
use Rattle.wire.specs.Refusal.{refusal_number}

abbrev pub written_words : Result ℕ LocalRefusal → List ℕ
written_words (Err k) = 0 ∷ refusal_number k ∷ []
written_words (Ok n) = 1 ∷ n ∷ []
