-- Where every live window lies in its domain's part, a payload that is judged to go through a window goes into the part. By cases
-- on the tests of the definition.
use Rattle.std.proofs.Common.{◌≡◌, ℕ, Bool, true, false, eqb, refl, arith}
use Rattle.wire.specs.Wire.{pick}
use Rattle.memory.specs.Window.{found_in, spanned}
use Rattle.memory.specs.declared.part.Part.{Part}
use Rattle.memory.specs.declared.window.Window.{Window}
use Rattle.memory.proofs.Inside.{Lies, WindowIn, span_in_lem, found-live}
use Rattle.ddp.specs.Tagged.{tagged_in, tagged_at, tagged_of}
use Rattle.std.specs.Prelude.{Err, None, Ok, Result, Some}
use Rattle.memory.specs.declared.window.SpanFault.{SpanFault}
use Rattle.memory.specs.declared.window.SpanFault.TheVariants.{Outside, Wrap}
use Rattle.memory.specs.declared.window.StagFault.{StagFault}
use Rattle.memory.specs.declared.window.StagFault.TheVariants.{Foreign, Missing}

-- a payload that is judged to go somewhere goes into the part
pub tagged_in_lem :
    (p : Part) (w : Window) (domain stag to len at : ℕ) → WindowIn p w →
    tagged_of w domain stag to len ≡ Ok (Some at) → Lies p at len
unfolding tagged_of
tagged_in_lem p w domain stag to len at one e = go (eqb len 0) (found_in w domain stag) refl e
  where
    inner : w.live ≡ true → (x : Result ℕ SpanFault) → spanned w to len ≡ x → tagged_in x ≡ Ok (Some at) → Lies p at len
    inner l (Err Wrap) q e = let no : ◌≡◌ {A = ℕ} 0 1 = cc in omega arith
    inner l (Err Outside) q e = let no : ◌≡◌ {A = ℕ} 0 1 = cc in omega arith
    inner l (Ok y) q e =
        let same : y ≡ at = cc in
        let a = span_in_lem w to len y q in
        let b = one l in
        omega arith

    go : (t : Bool) (f : Result ℕ StagFault) → found_in w domain stag ≡ f → pick t (Ok None) (tagged_at w f to len) ≡ Ok (Some at) → Lies p at len
    go true f q e = let no : ◌≡◌ {A = ℕ} 0 1 = cc in omega arith
    go false (Err Foreign) q e = let no : ◌≡◌ {A = ℕ} 0 1 = cc in omega arith
    go false (Err Missing) q e = let no : ◌≡◌ {A = ℕ} 0 1 = cc in omega arith
    go false (Ok s) q e = inner (found-live w domain stag s q) (spanned w to len) refl e
