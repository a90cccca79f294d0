-- Two answers of one step are one. Assumes nothing.
use Rattle.std.specs.Prelude.{◌≡◌, refl, Option, Some, None}
use Rattle.std.proofs.Common.{ap, ap₂}
use Rattle.std.specs.declared.result.Result.{Result}
use Rattle.std.specs.declared.result.Result.TheVariants.{Ok, Err}
use Rattle.refusals.specs.Refusal.{number_of}
use Rattle.refusals.specs.RefusalLaws.{number_inj}
use Rattle.items.specs.declared.Form.{Form}
use Rattle.items.specs.declared.Item.{Item}
use Rattle.scan.specs.declared.Scan.{Scan}
use Rattle.reader.specs.declared.Refused.{Refused}
use Rattle.reader.specs.Step.{step_of}
use Rattle.reader.specs.Judged.{judged_of}

pub refused_inj : (a b : Refused) → number_of a.refusal ≡ number_of b.refusal → a.place ≡ b.place → a ≡ b
refused_inj a b e f = λ i. record { refusal = number_inj a.refusal b.refusal e i; place = f i }

pub step_inj : (a b : Result (Option (Form × Scan)) Refused) → step_of a ≡ step_of b → a ≡ b
step_inj (Ok (Some x)) (Ok (Some y)) e =
    let form : x.0 ≡ y.0 = cc in
    let scan : x.1 ≡ y.1 = cc in
    ap₂ (λ (f : Form) (s : Scan). Ok (Some (f, s))) form scan
step_inj (Ok None) (Ok None) e = refl
step_inj (Err x) (Err y) e =
    let number : number_of x.refusal ≡ number_of y.refusal = cc in
    let place : x.place ≡ y.place = cc in
    ap (λ (r : Refused). Err r) (refused_inj x y number place)
step_inj (Ok (Some x)) (Ok None) e = cc
step_inj (Ok (Some x)) (Err y) e = cc
step_inj (Ok None) (Ok (Some y)) e = cc
step_inj (Ok None) (Err y) e = cc
step_inj (Err x) (Ok (Some y)) e = cc
step_inj (Err x) (Ok None) e = cc

pub judged_inj : (a b : Result (Option (Item × Scan)) Refused) → judged_of a ≡ judged_of b → a ≡ b
judged_inj (Ok (Some x)) (Ok (Some y)) e =
    let item : x.0 ≡ y.0 = cc in
    let scan : x.1 ≡ y.1 = cc in
    ap₂ (λ (f : Item) (s : Scan). Ok (Some (f, s))) item scan
judged_inj (Ok None) (Ok None) e = refl
judged_inj (Err x) (Err y) e =
    let number : number_of x.refusal ≡ number_of y.refusal = cc in
    let place : x.place ≡ y.place = cc in
    ap (λ (r : Refused). Err r) (refused_inj x y number place)
judged_inj (Ok (Some x)) (Ok None) e = cc
judged_inj (Ok (Some x)) (Err y) e = cc
judged_inj (Ok None) (Ok (Some y)) e = cc
judged_inj (Ok None) (Err y) e = cc
judged_inj (Err x) (Ok (Some y)) e = cc
judged_inj (Err x) (Ok None) e = cc
