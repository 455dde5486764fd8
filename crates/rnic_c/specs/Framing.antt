-- What the reader of FPDUs answers, in words that a caller holds.
use Rattle.std.specs.Prelude.{ℕ, List, [], ◌∷◌}
use Rattle.mpa.specs.declared.FpduRead.{FpduRead}
use Rattle.mpa.specs.declared.FpduRead.TheVariants.{Wait, Taken}
use Rattle.std.specs.Prelude.{Err, Ok, Result}
use Rattle.mpa.specs.declared.FpduFault.{FpduFault}
use Rattle.mpa.specs.Fpdu.{fault_number}

-- 0 and a refusal's number, 5 and the number of bytes to wait for, or 6 and a whole FPDU: its total, and where its ULPDU starts and how long it is
abbrev pub fpdu_words : Result FpduRead FpduFault → List ℕ
fpdu_words (Err fault) = 0 ∷ fault_number fault ∷ 0 ∷ 0 ∷ []
fpdu_words (Ok (Wait n)) = 5 ∷ n ∷ 0 ∷ 0 ∷ []
fpdu_words (Ok (Taken total start len)) = 6 ∷ total ∷ start ∷ len ∷ []
