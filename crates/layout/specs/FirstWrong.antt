-- Demand 2: "A block that breaks the layout is refused at its first wrong word": a refusal at place p depends on the words up to p alone, and the
-- records before it are those of the words before p (which word that is, `WrongLaws` says). Assumes nothing.
use Rattle.std.specs.Prelude.{ℕ, zero, suc, ◌+◌, ◌-◌, ◌^◌, ◌≤◌, ◌<◌, ◌≡◌, refl, Bool, true, false, cond, List, [], ◌∷◌, eqb, leb, length, take}
use Rattle.std.proofs.Common.{sym, ap, ◌∙◌, true≢false, arith, ne_eqb}
use Rattle.std.proofs.lemmas.Bool.{eqb-false}
use Rattle.fields.specs.Word.{read}
use Rattle.items.specs.Items.{item_from}
use Rattle.items.specs.declared.Form.{Form}
use Rattle.items.specs.declared.Form.TheVariants as F
use Rattle.items.specs.declared.Item.{Item}
use Rattle.items.specs.declared.Item.TheVariants as I
use Rattle.scan.specs.declared.Stage.{Stage}
use Rattle.scan.specs.declared.Stage.TheVariants as P
use Rattle.scan.specs.declared.Scan.{Scan}
use Rattle.scan.specs.After.{onward, paired_by, filled_by, scaled_by, stage_after, after, start_of}
use Rattle.meaning.specs.declared.Meaning.TheVariants as M
use Rattle.meaning.specs.Meaning.{meaning_in, meaning_at, is_end, unfinished_by, unfinished}
use Rattle.questions.specs.Questions.{at_limit}
use Rattle.reader.specs.Step.{Step}
use Rattle.reader.specs.Step as S
use Rattle.reader.specs.Judged.{Judged}
use Rattle.reader.specs.Judged as J
use Rattle.reader.specs.Reader.{step_at, with_item, judge_at, Out, Whole, Broken, end_of, then, on_judged, read_from}
use Rattle.reader.specs.ReaderLaws.{Accepted, accepted, refused}

-- a run is the same on every input that begins alike, up to the word where it stops; where it stops at the input's end, that ends there too
same_start : (s : Scan) (x y : List ℕ) → take (suc (length (read_from s x).items)) y ≡ take (suc (length (read_from s x).items)) x → read_from s y ≡ read_from s x
unfolding read_from
same_start s [] [] e = refl
same_start s [] (v ∷ y) e = let z : ◌≡◌ {A = ℕ} 0 1 = cc in absurd (omega arith)
same_start s (w ∷ x) [] e = let z : ◌≡◌ {A = ℕ} 0 1 = cc in absurd (omega arith)
same_start s (w ∷ x) (v ∷ y) e =
    let q : v ≡ w = cc in
    let r : take (length (read_from s (w ∷ x)).items) y ≡ take (length (read_from s (w ∷ x)).items) x = cc in
    ap (λ (u : ℕ). on_judged (judge_at s u) s.place (λ t. read_from t y)) q ∙ go (judge_at s w) r (λ t. same_start t x y)
  where
    go : (j : Judged) → take (length (on_judged j s.place (λ t. read_from t x)).items) y ≡ take (length (on_judged j s.place (λ t. read_from t x)).items) x
        → ((t : Scan) → take (suc (length (read_from t x).items)) y ≡ take (suc (length (read_from t x).items)) x → read_from t y ≡ read_from t x)
        → on_judged j s.place (λ t. read_from t y) ≡ on_judged j s.place (λ t. read_from t x)
    go (J.Took a t) r n = ap (then a) (n t r)
    go (J.Refused k p) r n = refl
    go J.Ended r n = refl

-- ---- places count the words

-- fillers that may come
abbrev cap : Stage → ℕ
cap P.Start = 3
cap P.Head = 3
cap P.Front = 3
cap P.Opened = 3
cap (P.Timed d) = 3
cap P.Items = 3
cap (P.Window n odd) = 3
cap (P.Raw n some) = 3
cap (P.Tail n) = n
cap (P.Scalers n) = 3

-- no trailer was read and the place is within the limit, or it was and at most three words came after
abbrev Placed : Scan → Type 0
Placed s = s.place + cap s.stage ≤ 4194306

cap_three : (p : Stage) → unfinished_by p ≡ true → cap p ≡ 3
cap_three P.Start h = refl
cap_three P.Head h = refl
cap_three P.Front h = refl
cap_three P.Opened h = refl
cap_three (P.Timed d) h = refl
cap_three P.Items h = refl
cap_three (P.Window n odd) h = refl
cap_three (P.Raw n some) h = refl
cap_three (P.Tail n) h = absurd (true≢false (sym h))
cap_three (P.Scalers n) h = refl

cap_window : (b : Bool) (n : ℕ) (odd : Bool) → cap (cond b P.Items (P.Window n odd)) ≡ 3
cap_window true n odd = refl
cap_window false n odd = refl

cap_paired : (p : Stage) (flag : ℕ) → cap (paired_by p flag) ≡ cap p
cap_paired P.Start flag = refl
cap_paired P.Head flag = refl
cap_paired P.Front flag = refl
cap_paired P.Opened flag = refl
cap_paired (P.Timed d) flag = refl
cap_paired P.Items flag = refl
cap_paired (P.Window n odd) flag = cap_window (leb n 1) (n - 1) odd
cap_paired (P.Raw n some) flag = refl
cap_paired (P.Tail n) flag = refl
cap_paired (P.Scalers n) flag = refl

cap_filled : (p : Stage) → unfinished_by p ≡ true → cap (filled_by p) ≡ cap p
cap_filled P.Start h = refl
cap_filled P.Head h = refl
cap_filled P.Front h = refl
cap_filled P.Opened h = refl
cap_filled (P.Timed d) h = refl
cap_filled P.Items h = refl
cap_filled (P.Window n odd) h = refl
cap_filled (P.Raw n some) h = refl
cap_filled (P.Tail n) h = absurd (true≢false (sym h))
cap_filled (P.Scalers n) h = refl

cap_scaled : (p : Stage) → cap (scaled_by p) ≡ cap p
cap_scaled P.Start = refl
cap_scaled P.Head = refl
cap_scaled P.Front = refl
cap_scaled P.Opened = refl
cap_scaled (P.Timed d) = refl
cap_scaled P.Items = refl
cap_scaled (P.Window n odd) = refl
cap_scaled (P.Raw n some) = refl
cap_scaled (P.Tail n) = refl
cap_scaled (P.Scalers n) = refl

cap_after : (s : Scan) (x : Item) → unfinished s ≡ true → cap (stage_after s x) ≤ 3
cap_after s (I.Block r) h = omega arith
cap_after s (I.Parameters r) h = omega arith
cap_after s (I.Trailer r) h = omega arith
cap_after s (I.Event r) h = omega arith
cap_after s (I.Clock r) h = omega arith
cap_after s (I.ClockHigh r) h = omega arith
cap_after s (I.Window r) h = omega arith
cap_after s (I.Raw r) h = omega arith
cap_after s (I.Pair r) h = omega (arith, cap_paired s.stage r.nosecond, cap_three s.stage h)
cap_after s (I.Integral r) h = omega arith
cap_after s (I.Time r) h = omega arith
cap_after s (I.Pedestal r) h = omega arith
cap_after s (I.Empty r) h = omega arith
cap_after s (I.Filler r) h = omega (arith, cap_filled s.stage h, cap_three s.stage h)
cap_after s (I.Scalers r) h = omega arith
cap_after s (I.Scaler r) h = omega (arith, cap_scaled s.stage, cap_three s.stage h)

-- in the tail only a filler stands, where one may
tail_in : (n k : ℕ) (f : Form) → meaning_in M.End (cond (eqb n 0) [] (F.Filler ∷ [])) k ≡ M.Form f → (f ≡ F.Filler) × (0 < n)
tail_in zero k f e = absurd (true≢false (ap is_end e))
tail_in (suc n) k f e = go (eqb k 15) (rw (ne_eqb (suc n) 0 (λ z. omega arith)) at e)
  where
    go : (b : Bool) → cond b (M.Form F.Filler) M.End ≡ M.Form f → (f ≡ F.Filler) × (0 < suc n)
    go true e = let same : f ≡ F.Filler = cc in (same, omega arith)
    go false e = absurd (true≢false (ap is_end e))

tail_only : (s : Scan) (n word : ℕ) (f : Form) → s.stage ≡ P.Tail n → meaning_at s word ≡ M.Form f → (f ≡ F.Filler) × (0 < n)
unfolding meaning_at
tail_only s n word f p e = go (eqb (read 31 31 word) 0) (rw p at e)
  where
    go : (b : Bool) → cond b M.End (meaning_in M.End (cond (eqb n 0) [] (F.Filler ∷ [])) (read 30 27 word)) ≡ M.Form f → (f ≡ F.Filler) × (0 < n)
    go true e = absurd (true≢false (ap is_end e))
    go false e = tail_in n (read 30 27 word) f e

-- below the limit, where no trailer was read
not_limit : (s : Scan) → at_limit s ≡ false → unfinished s ≡ true → s.place ≡ 4194303 → ⊥
unfolding at_limit
not_limit s h u e = eqb-false s.place 4194303 (rw u at h) e

-- an accepted word keeps to it
placed_after : (s : Scan) (word : ℕ) (f : Form) (u : Scan) → Placed s → Accepted s word f u → Placed u
unfolding after onward
placed_after s word f u p a =
    let next : u.place ≡ s.place + 1 = ap (λ (t : Scan). t.place) a.scan ∙ omega arith in
    let stage : u.stage ≡ stage_after s (item_from f word) = ap (λ (t : Scan). t.stage) a.scan in
    go s.stage refl next stage
  where
    open_stage : (q : Stage) → s.stage ≡ q → unfinished_by q ≡ true → u.place ≡ s.place + 1 → u.stage ≡ stage_after s (item_from f word) → Placed u
    open_stage q e v next stage =
        let o : unfinished s ≡ true = ap unfinished_by e ∙ v in
        let n : s.place ≡ 4194303 → ⊥ = not_limit s a.off.0 o in
        omega (arith, next, ap cap stage, cap_after s (item_from f word) o, cap_three s.stage o, n)

    go : (q : Stage) → s.stage ≡ q → u.place ≡ s.place + 1 → u.stage ≡ stage_after s (item_from f word) → Placed u
    go P.Start e next stage = open_stage P.Start e refl next stage
    go P.Head e next stage = open_stage P.Head e refl next stage
    go P.Front e next stage = open_stage P.Front e refl next stage
    go P.Opened e next stage = open_stage P.Opened e refl next stage
    go (P.Timed d) e next stage = open_stage (P.Timed d) e refl next stage
    go P.Items e next stage = open_stage P.Items e refl next stage
    go (P.Window n odd) e next stage = open_stage (P.Window n odd) e refl next stage
    go (P.Raw n some) e next stage = open_stage (P.Raw n some) e refl next stage
    go (P.Tail n) e next stage =
        let t = tail_only s n word f e a.form in
        let d : cap u.stage ≡ n - 1 = ap cap (stage ∙ ap (λ (g : Form). stage_after s (item_from g word)) t.0 ∙ ap filled_by e) in
        omega (arith, next, d, ap cap e, t.1)
    go (P.Scalers n) e next stage = open_stage (P.Scalers n) e refl next stage

abbrev pub place_of : Out → ℕ
place_of (Whole n) = n
place_of (Broken n p) = p

place_end : (s : Scan) → place_of (end_of s) ≡ s.place
unfolding end_of
place_end s = go (at_limit s) (unfinished s)
  where
    go : (a b : Bool) → place_of (cond a (Broken 14 s.place) (cond b (Broken 11 s.place) (Whole s.place))) ≡ s.place
    go true b = refl
    go false true = refl
    go false false = refl

-- no run from such a scan ends beyond the last filler that may come
place_within : (s : Scan) (ws : List ℕ) → Placed s → place_of (read_from s ws).out ≤ 4194306
unfolding read_from judge_at
place_within s [] p = omega (arith, place_end s)
place_within s (w ∷ ws) p = go (step_at s w) refl (λ t. place_within t ws)
  where
    go : (j : Step) → step_at s w ≡ j → ((t : Scan) → Placed t → place_of (read_from t ws).out ≤ 4194306) → place_of (on_judged (with_item w j) s.place (λ t. read_from t ws)).out ≤ 4194306
    go (S.Went f t) e n = n t (placed_after s w f t p (accepted s w e))
    go (S.Refused k q) e n = omega (arith, (refused s w e).place)
    go S.Ended e n = omega arith

-- the place where a run ends, refused or not, is the number of the records read before it; from any scan, if it is not the largest place
pub place_counts : (s : Scan) (ws : List ℕ) → place_of (read_from s ws).out < 2 ^ 32 - 1 → place_of (read_from s ws).out ≡ s.place + length (read_from s ws).items
unfolding read_from judge_at after onward
place_counts s [] p = place_end s ∙ omega arith
place_counts s (w ∷ ws) p = go (step_at s w) refl (λ t. place_counts t ws) p
  where
    go : (j : Step) → step_at s w ≡ j → ((t : Scan) → place_of (read_from t ws).out < 2 ^ 32 - 1 → place_of (read_from t ws).out ≡ t.place + length (read_from t ws).items)
        → place_of (on_judged (with_item w j) s.place (λ t. read_from t ws)).out < 2 ^ 32 - 1
        → place_of (on_judged (with_item w j) s.place (λ t. read_from t ws)).out ≡ s.place + length (on_judged (with_item w j) s.place (λ t. read_from t ws)).items
    go (S.Went f t) e n p = omega (arith, n t p, ap (λ (u : Scan). u.place) (accepted s w e).scan)
    go (S.Refused k q) e n p = omega (arith, (refused s w e).place)
    go S.Ended e n p = omega arith

-- below the largest place from a block's start on
pub place_small : (x : List ℕ) → place_of (read_from start_of x).out < 2 ^ 32 - 1
place_small x = omega (arith, place_within start_of x (omega arith))

-- a record is a word: the records before a refusal, or of a whole block, are as many as the words before it
pub records_before : (x : List ℕ) → place_of (read_from start_of x).out ≡ length (read_from start_of x).items
records_before x = place_counts start_of x (place_small x) ∙ omega arith

-- "refused at its first wrong word": every input with the same first p + 1 words has the same records before and the same number at p
pub first_wrong_word : (x y : List ℕ) (n p : ℕ) → (read_from start_of x).out ≡ Broken n p → take (suc p) y ≡ take (suc p) x → read_from start_of y ≡ read_from start_of x
first_wrong_word x y n p e q =
    let c : p ≡ length (read_from start_of x).items = sym (ap place_of e) ∙ records_before x in
    same_start start_of x y (ap (λ (k : ℕ). take (suc k) y) (sym c) ∙ q ∙ ap (λ (k : ℕ). take (suc k) x) c)
