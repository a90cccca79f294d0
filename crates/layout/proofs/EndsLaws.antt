-- Where a block ends: behind its trailer, by the fillers that may still come and the word that follows. Assumes nothing.
use Rattle.std.specs.Prelude.{ℕ, zero, suc, ◌-◌, ◌<◌, ◌≡◌, refl, Bool, true, false, cond, List, [], ◌∷◌, ◌++◌, map, eqb, length, drop}
use Rattle.std.proofs.Common.{sym, ap, ◌∙◌, subst, true≢false, arith, eqb-true, eq-eqb}
use Rattle.std.proofs.lemmas.Bool.{eqb-false}
use Rattle.fields.specs.Word.{read}
use Rattle.fields.proofs.WordLaws.{field_lt}
use Rattle.fields.specs.Tag.{is_defining}
use Rattle.framing.specs.declared.filler.Filler.{Filler}
use Rattle.items.specs.declared.Form.TheVariants as F
use Rattle.items.specs.declared.Item.{Item}
use Rattle.items.specs.declared.Item.TheVariants as I
use Rattle.scan.specs.declared.Stage.TheVariants as P
use Rattle.scan.specs.declared.Scan.{Scan}
use Rattle.scan.specs.After.{filled_by, after, start_of}
use Rattle.meaning.specs.declared.Meaning.TheVariants as M
use Rattle.meaning.specs.Meaning.{allowed_in, other_in, meaning_in, meaning_at, is_end}
use Rattle.meaning.specs.MeaningLaws.{meaning_type}
use Rattle.questions.specs.Questions.{at_limit}
use Rattle.reader.specs.Reader.{step_at, judge_at, Whole, Broken, end_of, Reading, just, read_from}
use Rattle.layout.specs.LayoutLaws.{behind}
use Rattle.layout.proofs.WrongLaws.{At, ends, stops, goes, at}
use Rattle.layout.specs.Grammar.{Tree, block, empty, body_of, records_of, TreeOk, NoFiller, Ends, third, no_filler, one_word}

-- ---- how many fillers may still come behind a tree's records

behind_append : (s : Scan) (xs ys : List Item) → behind s (xs ++ ys) ≡ behind (behind s xs) ys
behind_append s [] ys = refl
behind_append s (x ∷ xs) ys = behind_append (after s x) xs ys

behind_fillers : (n : ℕ) (fs : List Filler) (s : Scan) → s.stage ≡ P.Tail n → (behind s (map (λ f. I.Filler f) fs)).stage ≡ P.Tail (n - length fs)
unfolding after
behind_fillers n [] s e = e ∙ ap P.Tail (omega arith)
behind_fillers n (f ∷ fs) s e = behind_fillers (n - 1) fs (after s (I.Filler f)) (ap filled_by e) ∙ ap P.Tail (omega arith)

abbrev left_behind : Tree → ℕ
left_behind (block b) = 3 - length b.fillers
left_behind (empty r) = 0

behind_tree : (t : Tree) → (behind start_of (records_of t)).stage ≡ P.Tail (left_behind t)
unfolding after
behind_tree (block b) = ap (λ (u : Scan). u.stage) (behind_append start_of (body_of b) _) ∙ behind_fillers 3 b.fillers _ refl
behind_tree (empty r) = refl

-- ---- the word that follows

-- no filler may come, or none does
data Over (n : ℕ) (rest : List ℕ) : Type 0 where
  none_left : n ≡ 0 → Over n rest
  other : NoFiller rest → Over n rest

bit_one : (n : ℕ) → n < 2 → (n ≡ 0 → ⊥) → n ≡ 1
bit_one zero h z = absurd (z refl)
bit_one (suc n) h z = omega arith

tail_end : (s : Scan) (n w : ℕ) (ws : List ℕ) → s.stage ≡ P.Tail n → Over n (w ∷ ws) → meaning_at s w ≡ M.End
unfolding meaning_at is_defining
tail_end s n w ws e o = rw e (go (eqb (read 31 31 w) 0) refl o)
  where
    none : (b : Bool) → meaning_in M.End (cond b [] (F.Filler ∷ [])) (read 30 27 w) ≡ cond b M.End (cond (eqb (read 30 27 w) 15) (M.Form F.Filler) M.End)
    none true = refl
    none false = refl

    same : (b : Bool) → cond b M.End M.End ≡ M.End
    same true = refl
    same false = refl

    go : (b : Bool) → eqb (read 31 31 w) 0 ≡ b → Over n (w ∷ ws) → cond b M.End (meaning_in M.End (cond (eqb n 0) [] (F.Filler ∷ [])) (read 30 27 w)) ≡ M.End
    go true z o = refl
    go false z (none_left m) = rw m
    go false z (other h) =
        let one : eqb (read 31 31 w) 1 ≡ true = eq-eqb _ 1 (bit_one _ (field_lt w 31 1) (eqb-false _ 0 z)) in
        let off : eqb (read 30 27 w) 15 ≡ false = rw one at h in
        none (eqb n 0) ∙ rw off (same (eqb n 0))

-- then the block ends there
closed : (s : Scan) (n : ℕ) (rest : List ℕ) → s.stage ≡ P.Tail n → Over n rest → read_from s rest ≡ just (Whole s.place)
unfolding read_from end_of at_limit judge_at step_at
closed s n [] e o = rw e
closed s n (w ∷ ws) e o = rw (tail_end s n w ws e o)

-- and where it ends, none may come or none does
over : (s : Scan) (n k : ℕ) (rest : List ℕ) → s.stage ≡ P.Tail n → read_from s rest ≡ just (Whole k) → Over n rest
over s n k [] e q = other tt
over s n k (w ∷ ws) e q = go (at s w ws)
  where
    by_form : (a b : Bool) → eqb n 0 ≡ a → is_defining 15 w ≡ b → meaning_at s w ≡ M.End → Over n (w ∷ ws)
    by_form true b z d h = none_left (eqb-true n 0 z)
    by_form false false z d h = other d
    by_form false true z d h =
        let f : meaning_in (other_in s) (allowed_in s) 15 ≡ M.Form F.Filler = rw (e, z) in
        absurd (true≢false (sym (ap is_end h) ∙ ap is_end (meaning_type s w 15 d ∙ f)))

    go : At s w ws → Over n (w ∷ ws)
    go (ends h p) = by_form (eqb n 0) (is_defining 15 w) refl refl h
    go (stops m f z p) = let y : Broken m s.place ≡ Whole k = ap (λ (r : Reading). r.out) (sym p ∙ q) in let x : ◌≡◌ {A = ℕ} 0 1 = cc in absurd (omega arith)
    go (goes f r p) = let y : length (read_from s (w ∷ ws)).items ≡ 0 = ap (λ (r : Reading). length r.items) q in absurd (omega (arith, y, ap (λ (r : Reading). length r.items) p))

-- ---- of a tree's records

tree_over : (t : Tree) (rest : List ℕ) → Ends t rest → Over (left_behind t) rest
tree_over (block b) rest (third h) = none_left (omega (arith, h))
tree_over (block b) rest (no_filler h) = other h
tree_over (empty r) rest one_word = none_left refl

over_tree : (t : Tree) (rest : List ℕ) → TreeOk t → Over (left_behind t) rest → Ends t rest
over_tree (block b) rest k (none_left h) = third {b = b} (omega (arith, h, k.few))
over_tree (block b) rest k (other h) = no_filler h
over_tree (empty r) rest k o = one_word

-- behind them the run ends exactly if the block does
pub ends_there : (t : Tree) (rest : List ℕ) → Ends t rest → read_from (behind start_of (records_of t)) rest ≡ just (Whole (behind start_of (records_of t)).place)
ends_there t rest e = closed _ (left_behind t) rest (behind_tree t) (tree_over t rest e)

pub there_ends : (t : Tree) (rest : List ℕ) (n : ℕ) → TreeOk t → read_from (behind start_of (records_of t)) rest ≡ just (Whole n) → Ends t rest
there_ends t rest n k e = over_tree t rest k (over _ (left_behind t) n rest (behind_tree t) e)

-- ---- behind a run's records

-- a whole run's records, and the run behind them
pub whole_behind : (s : Scan) (ws : List ℕ) (n : ℕ) → (read_from s ws).out ≡ Whole n → read_from (behind s (read_from s ws).items) (drop (length (read_from s ws).items) ws) ≡ just (Whole n)
unfolding read_from
whole_behind s [] n e = ap just e
whole_behind s (w ∷ ws) n e = go (at s w ws) (λ t. whole_behind t ws n)
  where
    Goal : Reading → Type 0
    Goal r = read_from (behind s r.items) (drop (length r.items) (w ∷ ws)) ≡ just (Whole n)

    go : At s w ws
        → ((t : Scan) → (read_from t ws).out ≡ Whole n → read_from (behind t (read_from t ws).items) (drop (length (read_from t ws).items) ws) ≡ just (Whole n))
        → Goal (read_from s (w ∷ ws))
    go (ends h p) again = subst Goal (sym p) (p ∙ ap just (sym (ap (λ (r : Reading). r.out) p) ∙ e))
    go (stops m f z p) again =
        let y : Broken m s.place ≡ Whole n = sym (ap (λ (r : Reading). r.out) p) ∙ e in
        let x : ◌≡◌ {A = ℕ} 0 1 = cc in
        absurd (omega arith)
    go (goes f r p) again = subst Goal (sym p) (again _ (sym (ap (λ (r : Reading). r.out) p) ∙ e))
