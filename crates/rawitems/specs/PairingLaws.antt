-- Two answers of the pairs that are one in document 01's own numbers are one. Assumes nothing.
use Rattle.std.specs.Prelude.{ℕ, ◌≡◌}
use Rattle.std.proofs.Common.{ap, ap₂}
use Rattle.std.specs.declared.result.Result.{Result}
use Rattle.std.specs.declared.result.Result.TheVariants.{Ok, Err}
use Rattle.refusals.specs.Refusal.{number_of}
use Rattle.scan.specs.declared.Scan.{Scan}
use Rattle.reader.specs.declared.Refused.{Refused}
use Rattle.reader.specs.StepLaws.{refused_inj}
use Rattle.rawitems.specs.Pairing.{pairing_of}

pub pairing_inj : (a b : Result (ℕ × Scan) Refused) → pairing_of a ≡ pairing_of b → a ≡ b
pairing_inj (Ok x) (Ok y) e =
    let count : x.0 ≡ y.0 = cc in
    let scan : x.1 ≡ y.1 = cc in
    ap₂ (λ (n : ℕ) (s : Scan). Ok (n, s)) count scan
pairing_inj (Err x) (Err y) e =
    let number : number_of x.refusal ≡ number_of y.refusal = cc in
    let place : x.place ≡ y.place = cc in
    ap (λ (r : Refused). Err r) (refused_inj x y number place)
pairing_inj (Ok x) (Err y) e = cc
pairing_inj (Err x) (Ok y) e = cc
