-- A call on a state that the host lends as numbers: those after it are of the state that it gives. Assumes nothing.
use Rattle.std.specs.Prelude.{ℕ, ◌+◌, ◌≡◌, Bool, List, ◌++◌, eqb, length, drop}
use Rattle.std.proofs.Math.Path.{refl, ap}
use Rattle.std.proofs.Common.{sym, ap₂, ◌∙◌, arith, eqb-true}
use Rattle.std.proofs.Math.Bool.{true, false, cond}
use Rattle.ground.specs.Splice.{splice}
use Rattle.copies.specs.CopiesLaws.{pasted_fits}
use Rattle.settings.specs.declared.Settings.{Settings}
use Rattle.scalers.specs.declared.Scalers.{Scalers}
use Rattle.refusals.specs.Refusal.{number_of, if_accepted}
use Rattle.refusals.specs.declared.Refusal.TheVariants as R
use Rattle.state.specs.declared.State.{State}
use Rattle.state.specs.State.{blank, with_scalers}
use Rattle.places.specs.Places.{head_count, front_count, is_state}
use Rattle.places.specs.PlacesLaws.{state_count_lem, state_settings_held}
use Rattle.numbers.specs.Numbers.{state_from, state_or_none, settings_numbers, head_of, scaler_numbers, numbers_of, head_stored, scalers_stored}
use Rattle.numbers.specs.On.{on_state}
use Rattle.numbers.specs.StoreLaws.{head_over}
use Rattle.numbers.specs.BackLaws.{settings_back, head_back, behind_back}

-- the head of a state with these counts and settings, over the numbers
head_numbers : (n : List ℕ) (s : State) → is_state n ≡ true → s.settings ≡ (state_from n).settings → s.scalers ≡ (state_from n).scalers → head_stored n s ≡ numbers_of s
unfolding numbers_of
head_numbers n s e f g =
    head_over n s (omega (arith, state_count_lem n e))
    ∙ ap (λ (l : List ℕ). head_of s ++ l) (sym (ap₂ (λ (c : Scalers) (x : Settings). scaler_numbers c ++ settings_numbers x) g f ∙ behind_back n e))

-- what is counted, over its places
scalers_numbers : (n : List ℕ) (c : Scalers) → is_state n ≡ true → length (scaler_numbers c) ≡ 38 → scalers_stored n c ≡ numbers_of (with_scalers (state_from n) c)
unfolding numbers_of with_scalers head_of splice state_from
scalers_numbers n c e z =
    let cs = scaler_numbers c in
    let at : head_count + length cs ≡ front_count = omega (arith, z) in
    pasted_fits n head_count cs (omega (arith, z, state_count_lem n e))
    ∙ ap₂ (λ (x y : List ℕ). x ++ (cs ++ y)) (sym (head_back n e)) (ap (λ (i : ℕ). drop i n) at ∙ sym (settings_loaded_back n e))
  where
    settings_loaded_back : (n : List ℕ) → is_state n ≡ true → settings_numbers (state_from n).settings ≡ drop front_count n
    settings_loaded_back n e = settings_back (drop front_count n) (state_settings_held n e)

-- ---- a call on a state: its number, the numbers after it, and what was lent; numbers that are no state are refused as what stands for none

module _ (n : List ℕ) (number : State → ℕ) (none : number blank ≡ number_of R.State) {s : State} {r : ℕ} (f : s ≡ state_or_none n) (g : r ≡ number s) where
  pub call_number : r ≡ on_state n (number (state_from n))
  call_number = g ∙ ap number f ∙ go (is_state n)
    where
      go : (b : Bool) → number (cond b (state_from n) blank) ≡ cond b (number (state_from n)) (number_of R.State)
      go true = refl
      go false = none

  pub call_lent : {A : Type 0} (new : State → A) (old : A) {left : A} → left ≡ if_accepted (number s) (new s) old → left ≡ if_accepted r (new (state_from n)) old
  call_lent new old h = h ∙ ap₂ (λ (k : ℕ) (x : State). if_accepted k (new x) old) (sym g) f ∙ go (is_state n) (g ∙ ap number f)
    where
      go : (b : Bool) → r ≡ number (cond b (state_from n) blank) → if_accepted r (new (cond b (state_from n) blank)) old ≡ if_accepted r (new (state_from n)) old
      go true p = refl
      go false p = rw (p ∙ none)

  pub call_numbers : (new : State → State) {u : State} {n' : List ℕ} → ((x : State) → ((new x).settings ≡ x.settings) × ((new x).scalers ≡ x.scalers))
      → u ≡ if_accepted (number s) (new s) s → n' ≡ if_accepted r (head_stored n u) n → n' ≡ if_accepted r (numbers_of (new (state_from n))) n
  call_numbers new {u = u} same h k = k ∙ go (is_state n) refl (g ∙ ap number f) f
    where
      put : is_state n ≡ true → (b : Bool) → u ≡ cond b (new (state_from n)) (state_from n) → cond b (head_stored n u) n ≡ cond b (numbers_of (new (state_from n))) n
      put e true p = ap (head_stored n) p ∙ head_numbers n (new (state_from n)) e (same (state_from n)).0 (same (state_from n)).1
      put e false p = refl

      go : (b : Bool) → is_state n ≡ b → r ≡ number (cond b (state_from n) blank) → s ≡ cond b (state_from n) blank → if_accepted r (head_stored n u) n ≡ if_accepted r (numbers_of (new (state_from n))) n
      go true e p q = put e (eqb r 0) (h ∙ ap₂ (λ (j : ℕ) (x : State). if_accepted j (new x) x) (sym g) q)
      go false e p q = rw (p ∙ none)

  -- only a state is accepted
  pub call_accepted : r ≡ 0 → is_state n ≡ true
  call_accepted e = go (is_state n) (sym e ∙ g ∙ ap number f)
    where
      go : (b : Bool) → 0 ≡ number (cond b (state_from n) blank) → b ≡ true
      go true p = refl
      go false p = absurd (omega (arith, p, none))

  -- the same where what the call changes is put in place
  pub call_placed : (new : State → State) (put : List ℕ) {n' : List ℕ} → (is_state n ≡ true → number (state_from n) ≡ 0 → numbers_of (new (state_from n)) ≡ put)
      → n' ≡ if_accepted r put n → n' ≡ if_accepted r (numbers_of (new (state_from n))) n
  call_placed new put same k = k ∙ go (is_state n) refl (g ∙ ap number f)
    where
      placed : is_state n ≡ true → (b : Bool) → eqb r 0 ≡ b → r ≡ number (state_from n) → cond b put n ≡ cond b (numbers_of (new (state_from n))) n
      placed e true p q = sym (same e (sym q ∙ eqb-true r 0 p))
      placed e false p q = refl

      go : (b : Bool) → is_state n ≡ b → r ≡ number (cond b (state_from n) blank) → if_accepted r put n ≡ if_accepted r (numbers_of (new (state_from n))) n
      go true e p = placed e (eqb r 0) refl p
      go false e p = rw (p ∙ none)

  -- the same where what is counted is stored
  pub call_scalers : (new : State → Scalers) {u : State} {n' : List ℕ} → (is_state n ≡ true → length (scaler_numbers (new (state_from n))) ≡ 38)
      → u ≡ if_accepted (number s) (with_scalers s (new s)) s → n' ≡ if_accepted r (scalers_stored n u.scalers) n → n' ≡ if_accepted r (numbers_of (with_scalers (state_from n) (new (state_from n)))) n
  unfolding with_scalers
  call_scalers new {u = u} size h k = k ∙ go (is_state n) refl (g ∙ ap number f) f
    where
      put : is_state n ≡ true → (b : Bool) → u ≡ cond b (with_scalers (state_from n) (new (state_from n))) (state_from n) → cond b (scalers_stored n u.scalers) n ≡ cond b (numbers_of (with_scalers (state_from n) (new (state_from n)))) n
      put e true p = ap (λ (x : State). scalers_stored n x.scalers) p ∙ scalers_numbers n (new (state_from n)) e (size e)
      put e false p = refl

      go : (b : Bool) → is_state n ≡ b → r ≡ number (cond b (state_from n) blank) → s ≡ cond b (state_from n) blank → if_accepted r (scalers_stored n u.scalers) n ≡ if_accepted r (numbers_of (with_scalers (state_from n) (new (state_from n)))) n
      go true e p q = put e (eqb r 0) (h ∙ ap₂ (λ (j : ℕ) (x : State). if_accepted j (with_scalers x (new x)) x) (sym g) q)
      go false e p q = rw (p ∙ none)
