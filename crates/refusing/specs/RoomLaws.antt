-- A close asks for room last. Assumes nothing.
use Rattle.std.specs.Prelude.{ℕ, ◌+◌, ◌≤◌, ◌<◌, ◌≡◌, Bool, true, cond, List, [], ◌∷◌, ◌++◌, eqb, take}
use Rattle.std.proofs.Math.Path.{refl}
use Rattle.std.proofs.Common.{ap, ◌∙◌, lt-ltb, le-ltb}
use Rattle.std.proofs.Math.Bool.{false}
use Rattle.std.proofs.lemmas.Bool.{eqb-false}
use Rattle.std.proofs.Math.Dec.{ltb}
use Rattle.std.proofs.Math.ListN.{length}
use Rattle.ground.specs.Tests.{first_of}
use Rattle.ground.specs.TestsLaws.{AllOff, none}
use Rattle.state.specs.declared.State.{State}
use Rattle.refusing.specs.Tables.{closing_items, close_table, close_number, before_room}

-- a row behind the others counts only where none of them holds
early : (rs : List (ℕ × Bool)) (r : ℕ × Bool) → (first_of rs ≡ 0 → ⊥) → first_of (rs ++ (r ∷ [])) ≡ first_of rs
unfolding first_of
early [] r h = absurd (h refl)
early (x ∷ rs) r h = go x.1 h (early rs r)
  where
    go : (b : Bool) → (cond b x.0 (first_of rs) ≡ 0 → ⊥) → ((first_of rs ≡ 0 → ⊥) → first_of (rs ++ (r ∷ [])) ≡ first_of rs)
        → cond b x.0 (first_of (rs ++ (r ∷ []))) ≡ cond b x.0 (first_of rs)
    go true h f = refl
    go false h f = f h

late : (rs : List (ℕ × Bool)) (r : ℕ × Bool) → AllOff rs → first_of (rs ++ (r ∷ [])) ≡ cond r.1 r.0 0
unfolding first_of
late [] r o = refl
late (x ∷ rs) r o = rw o.0 (late rs r o.1)

module _ (s : State) (wanted : Bool) (store : List ℕ) (room : ℕ) where
  pub refused_before : eqb (before_room s store) 0 ≡ false → close_number s wanted store room ≡ before_room s store
  unfolding before_room close_number close_table
  refused_before h = early (take 4 (close_table s false store 0)) (9, ltb room (s.words + length (closing_items s wanted store))) (eqb-false (before_room s store) 0 h)

  module _ (asked : before_room s store ≡ 0) where
    behind : close_number s wanted store room ≡ cond (ltb room (s.words + length (closing_items s wanted store))) 9 0
    unfolding before_room close_number close_table
    behind = late (take 4 (close_table s false store 0)) (9, ltb room (s.words + length (closing_items s wanted store))) (none (take 4 (close_table s false store 0)) refl asked)

    pub close_fits : s.words + length (closing_items s wanted store) ≤ room → close_number s wanted store room ≡ 0
    close_fits h = behind ∙ ap (λ (b : Bool). cond {A = ℕ} b 9 0) (le-ltb _ _ h)

    pub close_short : room < s.words + length (closing_items s wanted store) → close_number s wanted store room ≡ 9
    close_short h = behind ∙ ap (λ (b : Bool). cond {A = ℕ} b 9 0) (lt-ltb _ _ h)
