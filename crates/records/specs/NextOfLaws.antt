-- Two answers of one reading on are one. Assumes nothing.
use Rattle.std.specs.Prelude.{ℕ, ◌≡◌}
use Rattle.std.proofs.Common.{ap, ap₂}
use Rattle.std.specs.declared.result.Result.{Result}
use Rattle.std.specs.declared.result.Result.TheVariants.{Ok, Err}
use Rattle.refusals.specs.Refusal.{number_of}
use Rattle.scan.specs.declared.Scan.{Scan}
use Rattle.reader.specs.declared.Refused.{Refused}
use Rattle.reader.specs.StepLaws.{refused_inj}
use Rattle.records.specs.declared.answer.Record.{Record}
use Rattle.records.specs.declared.answer.Next.{Next}
use Rattle.records.specs.declared.answer.Next.TheVariants as V
use Rattle.records.specs.NextOf.{next_of}

pub next_inj : (a b : Result Next Refused) → next_of a ≡ next_of b → a ≡ b
next_inj (Ok (V.Took x u)) (Ok (V.Took y v)) e =
    let record_same : x ≡ y = cc in
    let scan : u ≡ v = cc in
    ap₂ (λ (z : Record) (w : Scan). Ok (V.Took z w)) record_same scan
next_inj (Ok (V.End m)) (Ok (V.End n)) e =
    let words : m ≡ n = cc in
    ap (λ (k : ℕ). Ok (V.End k)) words
next_inj (Err x) (Err y) e =
    let number : number_of x.refusal ≡ number_of y.refusal = cc in
    let place : x.place ≡ y.place = cc in
    ap (λ (r : Refused). Err r) (refused_inj x y number place)
next_inj (Ok (V.Took x u)) (Ok (V.End n)) e = cc
next_inj (Ok (V.Took x u)) (Err y) e = cc
next_inj (Ok (V.End m)) (Ok (V.Took y v)) e = cc
next_inj (Ok (V.End m)) (Err y) e = cc
next_inj (Err x) (Ok (V.Took y v)) e = cc
next_inj (Err x) (Ok (V.End n)) e = cc
