-- The rows as chunks of the store: a fold that tests them all.
use Rattle.std.specs.Prelude.{ℕ, zero, suc, ◌+◌, ◌*◌, ◌/◌, ◌≤◌, ◌<◌, ◌≡◌, Bool, true, not, ◌&&◌, ◌||◌, List, [], ◌∷◌, length, take, drop, fold}
use Rattle.std.specs.List.{zip}
use Rattle.std.proofs.Common.{sym, ap, ◌∙◌, arith, zero-mul, suc-mul, drop-drop}
use Rattle.std.proofs.Math.Bool.{and_assoc, and-true}
use Rattle.std.proofs.lemmas.Nat.{le-div}
use Rattle.ground.specs.Chunks.{chunks}
use Rattle.limits.specs.Limits.{channels}
use Rattle.settings.specs.declared.Settings.{Settings}
use Rattle.settings.specs.RangesLaws.{settings_in_range}
use Rattle.samples.specs.Sample.{samples_ok}
use Rattle.rows.specs.Rows.{row, rows_ok}
use Rattle.rows.specs.Inner.{Lent}

next_row : (nw c : ℕ) (store : List ℕ) → drop nw (drop (c * nw) store) ≡ drop ((c + 1) * nw) store
next_row nw c store = drop-drop nw (c * nw) store ∙ ap (λ (n : ℕ). drop n store) (omega (arith, suc-mul c nw))

rows_from : (nw : ℕ) (store : List ℕ) (good : Bool) (c count : ℕ) (posted : List Bool) → length posted ≤ count
    → fold (λ b p. b && (not p.0 || samples_ok p.1)) good (zip posted (chunks count nw (drop (c * nw) store))) ≡ good && rows_ok nw store c posted
unfolding rows_ok row chunks
rows_from nw store good c count [] h = sym (and-true good)
rows_from nw store good c zero (m ∷ ms) h = absurd (omega arith)
rows_from nw store good c (suc count) (m ∷ ms) h =
    let this : Bool = not m || samples_ok (take nw (drop (c * nw) store)) in
    ap (λ (l : List ℕ). fold (λ b p. b && (not p.0 || samples_ok p.1)) (good && this) (zip ms (chunks count nw l))) (next_row nw c store)
    ∙ rows_from nw store (good && this) (c + 1) count ms (omega arith)
    ∙ and_assoc good this (rows_ok nw store (c + 1) ms)

module _ (s : Settings) (posted : List Bool) (store : List ℕ) (lent : Lent s posted store) where
  pub some_samples : 0 < s.nw
  some_samples = (settings_in_range s lent.settings).nw.0

  pub rows_fold : fold (λ b p. b && (not p.0 || samples_ok p.1)) true (zip posted (chunks (length store / s.nw) s.nw store)) ≡ rows_ok s.nw store 0 posted
  rows_fold =
      let enough : channels ≤ length store / s.nw = le-div channels (length store) s.nw some_samples lent.rows in
      rw (zero-mul s.nw) at (rows_from s.nw store true 0 (length store / s.nw) posted (omega (arith, lent.marks, enough)))
