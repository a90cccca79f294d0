-- What is told of a call is told of what it answers and leaves; an answer is known by that. Assumes nothing.
use Rattle.std.specs.Prelude.{ℕ, ◌≡◌, refl}
use Rattle.std.proofs.Common.{sym, ap, ◌∙◌}
use Rattle.std.specs.declared.result.Result.{Result}
use Rattle.std.specs.declared.result.Result.TheVariants.{Ok, Err}
use Rattle.refusals.specs.declared.Refusal.{Refusal}
use Rattle.refusals.specs.Refusal.{told}
use Rattle.refusals.specs.RefusalLaws.{answer_inj}
use Rattle.state.specs.declared.State.{State}
use Rattle.writer.specs.Answer.{Answer, Finished, made, finished}

pub told_made : (r : Result State Refusal) → told (made r).refusal ≡ told r
told_made (Ok state) = refl
told_made (Err refusal) = refl

pub told_finished : (r : Result ℕ Refusal) (s : State) → told (finished r s).refusal ≡ told r
told_finished (Ok length) s = refl
told_finished (Err refusal) s = refl

pub made_inj : (a b : Result State Refusal) → made a ≡ made b → a ≡ b
made_inj a b e =
    let same : told a ≡ told b = sym (told_made a) ∙ ap (λ (x : Answer). told x.refusal) e ∙ told_made b in
    answer_inj (λ r. (made r).state) (λ x. refl) a b same (ap (λ (x : Answer). x.state) e)

left : (r : Result ℕ Refusal) (s : State) → (finished r s).state ≡ s
left (Ok length) s = refl
left (Err refusal) s = refl

size : (r : Result ℕ Refusal) (s t : State) → (finished r s).length ≡ (finished r t).length
size (Ok length) s t = refl
size (Err refusal) s t = refl

pub finished_inj : (a b : Result ℕ Refusal) (s t : State) → finished a s ≡ finished b t → (a ≡ b) × (s ≡ t)
finished_inj a b s t e =
    let same : told a ≡ told b = sym (told_finished a s) ∙ ap (λ (x : Finished). told x.refusal) e ∙ told_finished b t in
    let long : (finished a s).length ≡ (finished b s).length = ap (λ (x : Finished). x.length) e ∙ size b t s in
    (answer_inj (λ r. (finished r s).length) (λ x. refl) a b same long, sym (left a s) ∙ ap (λ (x : Finished). x.state) e ∙ left b t)
