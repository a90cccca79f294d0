-- No two refusals have one number, and no refusal has that of none; no later refusal. Assumes nothing.
use Rattle.std.specs.Prelude.{ℕ, ◌≡◌, refl, Bool, true, false, cond, List, [], ◌∷◌, eqb, get_or}
use Rattle.std.proofs.Common.{sym, ap, ◌∙◌, eqb-true}
use Rattle.std.specs.declared.result.Result.{Result}
use Rattle.std.specs.declared.result.Result.TheVariants.{Ok, Err}
use Rattle.refusals.specs.declared.Refusal.{Refusal}
use Rattle.refusals.specs.declared.Refusal.TheVariants.{Setting, Store, Sample, Channel, Length, Posted, Turn, Number, Room, State, Missing, Unallowed, Bits, Count, Slot, Bytes, Frames}
use Rattle.refusals.specs.Refusal.{Outcome, number_of, told, or_else}

-- in the order of their numbers; 17 and 18 are none's
abbrev outcomes : List Outcome
outcomes = Ok tt ∷ Err Setting ∷ Err Store ∷ Err Sample ∷ Err Channel ∷ Err Length ∷ Err Posted ∷ Err Turn ∷ Err Number ∷ Err Room ∷ Err State ∷ Err Missing ∷ Err Unallowed ∷ Err Bits ∷ Err Count ∷ Err Slot ∷ Err Bytes ∷ Err Frames ∷ Err Frames ∷ Err Frames ∷ []

abbrev outcome_at : ℕ → Outcome
outcome_at n = get_or outcomes n (Ok tt)

outcome_back : (r : Outcome) → outcome_at (told r) ≡ r
outcome_back (Ok tt) = refl
outcome_back (Err Setting) = refl
outcome_back (Err Store) = refl
outcome_back (Err Sample) = refl
outcome_back (Err Channel) = refl
outcome_back (Err Length) = refl
outcome_back (Err Posted) = refl
outcome_back (Err Turn) = refl
outcome_back (Err Number) = refl
outcome_back (Err Room) = refl
outcome_back (Err State) = refl
outcome_back (Err Missing) = refl
outcome_back (Err Unallowed) = refl
outcome_back (Err Bits) = refl
outcome_back (Err Count) = refl
outcome_back (Err Slot) = refl
outcome_back (Err Bytes) = refl
outcome_back (Err Frames) = refl

pub told_inj : (a b : Outcome) → told a ≡ told b → a ≡ b
told_inj a b e = sym (outcome_back a) ∙ ap outcome_at e ∙ outcome_back b

-- the refusal of an answer that is refused
abbrev refusal_in : Outcome → Refusal
refusal_in (Ok x) = Setting
refusal_in (Err r) = r

pub number_inj : (a b : Refusal) → number_of a ≡ number_of b → a ≡ b
number_inj a b e = ap refusal_in (told_inj (Err a) (Err b) e)

-- a refusal's number is not that of none
pub number_some : (r : Refusal) → eqb (number_of r) 0 ≡ false
number_some r = go (eqb (number_of r) 0) refl
  where
    go : (b : Bool) → eqb (number_of r) 0 ≡ b → b ≡ false
    go true e =
        let same : ◌≡◌ {A = Outcome} (Err r) (Ok tt) = told_inj (Err r) (Ok tt) (eqb-true _ _ e) in
        cc
    go false e = refl

-- an answer of that value where it is not refused
abbrev with_value : {A : Type 0} → A → Outcome → Result A Refusal
with_value x (Ok u) = Ok x
with_value x (Err r) = Err r

-- an answer is known by what is told of it and its value
pub answer_inj : {A : Type 0} (value : Result A Refusal → A) → ((x : A) → value (Ok x) ≡ x) → (a b : Result A Refusal) → told a ≡ told b → value a ≡ value b → a ≡ b
answer_inj value ok (Ok x) (Ok y) e v = ap Ok (sym (ok x) ∙ v ∙ ok y)
answer_inj value ok (Ok x) (Err r) e v = ap (with_value x) (told_inj (Ok tt) (Err r) e)
answer_inj value ok (Err r) (Ok y) e v = ap (with_value y) (told_inj (Err r) (Ok tt) e)
answer_inj value ok (Err r) (Err q) e v = ap Err (number_inj r q e)

-- no later refusal
pub none_later : (k : ℕ) → or_else k 0 ≡ k
none_later k = go (eqb k 0) refl
  where
    go : (b : Bool) → eqb k 0 ≡ b → cond b 0 k ≡ k
    go true e = sym (eqb-true k 0 e)
    go false e = refl
