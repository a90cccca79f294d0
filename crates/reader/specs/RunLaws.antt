-- A run's laws: one word of it, and what it answers without records. Assumes nothing.
use Rattle.std.specs.Prelude.{ℕ, suc, ◌≤◌, ◌<◌, ◌≡◌, refl, Bool, true, false, cond, List, [], ◌∷◌, length, get_or, drop}
use Rattle.std.proofs.Common.{ap, sym, ◌∙◌, arith, drop-cons}
use Rattle.ground.specs.Tests.{first_of}
use Rattle.items.specs.declared.Item.{Item}
use Rattle.scan.specs.declared.Scan.{Scan}
use Rattle.meaning.specs.Meaning.{unfinished}
use Rattle.questions.specs.Questions.{at_limit}
use Rattle.reader.specs.Judged.{Judged}
use Rattle.reader.specs.Judged as J
use Rattle.reader.specs.Step.{Step}
use Rattle.reader.specs.Step as S
use Rattle.reader.specs.Reader.{Reading, then, step_at, with_item, judge_at, Whole, Broken, end_of, end_number, out_of, on_judged, read_from, on_step, check_from}
use Rattle.reader.specs.ReaderLaws.{refused}

-- the list from i on, where it has not ended
pub cons_at : (xs : List ℕ) (i j : ℕ) → i < length xs → suc i ≡ j → drop i xs ≡ get_or xs i 0 ∷ drop j xs
cons_at xs i j h e = drop-cons xs i 0 h ∙ ap (λ (n : ℕ). get_or xs i 0 ∷ drop n xs) e

-- records before those of a run
abbrev pub before : List Item → Reading → Reading
before [] r = r
before (x ∷ xs) r = then x (before xs r)

-- how a run ends does not depend on whether its records are made
pub check_reads : (s : Scan) (words : List ℕ) → (read_from s words).out ≡ check_from s words
unfolding read_from check_from judge_at
check_reads s [] = refl
check_reads s (word ∷ words) = go (step_at s word) (λ t. check_reads t words)
  where
    go : (x : Step) → ((t : Scan) → (read_from t words).out ≡ check_from t words) → (on_judged (with_item word x) s.place (λ t. read_from t words)).out ≡ on_step x s.place (λ t. check_from t words)
    go (S.Went f t) r = r t
    go (S.Refused n p) r = refl
    go S.Ended r = refl

-- the run at a word that was taken, refused, or ends the block
pub read_at : (s : Scan) (word : ℕ) (words : List ℕ) {j : Judged} → judge_at s word ≡ j → read_from s (word ∷ words) ≡ on_judged j s.place (λ u. read_from u words)
unfolding read_from
read_at s word words e = ap (λ (x : Judged). on_judged x s.place (λ u. read_from u words)) e

-- the run at a word of which t was said
pub check_at : (s : Scan) (word : ℕ) (words : List ℕ) {t : Step} → t ≡ step_at s word → check_from s (word ∷ words) ≡ on_step t s.place (λ u. check_from u words)
unfolding check_from
check_at s word words e = ap (λ (x : Step). on_step x s.place (λ u. check_from u words)) (sym e)

-- a record for each word read
pub items_le : (s : Scan) (words : List ℕ) → length (read_from s words).items ≤ length words
unfolding read_from
items_le s [] = omega arith
items_le s (word ∷ words) = go (judge_at s word) (λ t. items_le t words)
  where
    go : (j : Judged) → ((t : Scan) → length (read_from t words).items ≤ length words) → length (on_judged j s.place (λ t. read_from t words)).items ≤ suc (length words)
    go (J.Took x t) r = omega (arith, r t)
    go (J.Refused n p) r = omega arith
    go J.Ended r = omega arith

-- a refusal has a number
pub refused_some : (s : Scan) (word : ℕ) {n p : ℕ} → J.Refused n p ≡ judge_at s word → Broken n p ≡ out_of n p
unfolding judge_at
refused_some s word {n} {p} e = go (step_at s word) refl e
  where
    go : (t : Step) → step_at s word ≡ t → J.Refused n p ≡ with_item word t → Broken n p ≡ out_of n p
    go (S.Went f t) i e = let z : ◌≡◌ {A = ℕ} 0 1 = cc in absurd (omega arith)
    go (S.Refused k q) i e =
        let m : k ≡ n = cc in
        rw (rw m at (refused s word i).some)
    go S.Ended i e = let z : ◌≡◌ {A = ℕ} 0 1 = cc in absurd (omega arith)

-- the input's end as a number: 0 says that the block is whole
pub end_by : (s : Scan) → end_of s ≡ out_of (end_number s) s.place
unfolding end_of end_number first_of
end_by s = go (at_limit s) (unfinished s)
  where
    go : (a b : Bool) → cond a (Broken 14 s.place) (cond b (Broken 11 s.place) (Whole s.place)) ≡ out_of (cond a 14 (cond b 11 0)) s.place
    go true b = refl
    go false true = refl
    go false false = refl

-- no block ends before its trailer
pub unfinished_end : (s : Scan) → unfinished s ≡ true → end_number s ≡ 0 → ⊥
unfolding end_number first_of
unfinished_end s h = rw h (go (at_limit s))
  where
    go : (a : Bool) → ◌≡◌ {A = ℕ} (cond a 14 11) 0 → ⊥
    go true e = absurd (omega arith)
    go false e = absurd (omega arith)
