-- Demand 2: "A block that breaks the layout is refused at its first wrong word", both ways, for a run over words. Assumes nothing.
use Rattle.std.specs.Prelude.{ℕ, suc, ◌≡◌, refl, Bool, true, false, cond, List, [], ◌∷◌, ◌↔◌, eqb, length, drop}
use Rattle.std.proofs.Common.{sym, ap, ◌∙◌, subst, true≢false, arith, eqb-true, ne_eqb}
use Rattle.std.proofs.lemmas.Bool.{eqb-false}
use Rattle.ground.specs.Tests.{first_of, FirstIs}
use Rattle.ground.specs.TestsLaws.{first_is, is_first}
use Rattle.items.specs.Items.{item_from}
use Rattle.items.specs.declared.Form.{Form}
use Rattle.scan.specs.declared.Scan.{Scan}
use Rattle.scan.specs.After.{start_of, after}
use Rattle.meaning.specs.declared.Meaning.{Meaning}
use Rattle.meaning.specs.declared.Meaning.TheVariants as M
use Rattle.meaning.specs.Meaning.{meaning_at, is_end}
use Rattle.questions.specs.Questions.{refusals, refusal_of}
use Rattle.reader.specs.Reader.{step_at, judge_at, Whole, Broken, end_number, out_of, Reading, then, just, read_from}
use Rattle.reader.specs.ReaderLaws.{unallowed}
use Rattle.reader.specs.RunLaws.{end_by}
use Rattle.layout.specs.FirstWrong.{place_of, records_before}
use Rattle.layout.specs.Wrong.{questions, stop_by, stop_of, Right, Upto, here, on, WrongAt, WrongBy}

-- ---- one word

number : (s : Scan) (m : Meaning) (w : ℕ) → refusal_of s m w ≡ first_of (refusals s m w)
unfolding refusal_of
number s m w = refl

-- what a run does at a word: the block ends before it, it is wrong, or it stands and the run goes on behind it
pub data At (s : Scan) (w : ℕ) (ws : List ℕ) : Type 0 where
  ends : meaning_at s w ≡ M.End → read_from s (w ∷ ws) ≡ just (Whole s.place) → At s w ws
  stops : (n : ℕ) → FirstIs (questions s (w ∷ ws)) n → (n ≡ 0 → ⊥) → read_from s (w ∷ ws) ≡ just (Broken n s.place) → At s w ws
  goes : (f : Form) → Right s w f → read_from s (w ∷ ws) ≡ then (item_from f w) (read_from (after s (item_from f w)) ws) → At s w ws

pub at : (s : Scan) (w : ℕ) (ws : List ℕ) → At s w ws
unfolding read_from judge_at step_at
at s w ws = go (meaning_at s w) refl
  where
    is : (m : Meaning) → FirstIs (refusals s m w) (refusal_of s m w)
    is m = rw (number s m w) (first_is (refusals s m w))

    go : (m : Meaning) → meaning_at s w ≡ m → At s w ws
    go (M.Form f) h = by (eqb (refusal_of s (M.Form f) w) 0) refl
      where
        by : (b : Bool) → eqb (refusal_of s (M.Form f) w) 0 ≡ b → At s w ws
        by true z = goes f (record { form = h; none = rw h (subst (FirstIs (refusals s (M.Form f) w)) (eqb-true _ 0 z) (is (M.Form f))) }) (rw (h, z))
        by false z = stops (refusal_of s (M.Form f) w) (rw h (is (M.Form f))) (eqb-false _ 0 z) (rw (h, z))
    go M.Unallowed h = stops (refusal_of s M.Unallowed w) (rw h (is M.Unallowed)) (eqb-false _ 0 (unallowed s w)) (rw h)
    go M.End h = ends h (rw h)

-- the first question that refuses stops the run, at a word as at the input's end
stopped : (s : Scan) (ws : List ℕ) (n : ℕ) → FirstIs (questions s ws) n → (n ≡ 0 → ⊥) → read_from s ws ≡ just (Broken n s.place)
unfolding read_from end_number first_of
stopped s [] n f z =
    let e : end_number s ≡ n = is_first f in
    ap just (end_by s ∙ ap (λ (i : ℕ). out_of i s.place) e ∙ rw (ne_eqb n 0 z))
stopped s (w ∷ ws) n f z = go (at s w ws)
  where
    go : At s w ws → read_from s (w ∷ ws) ≡ just (Broken n s.place)
    go (ends h e) =
        let none : first_of (questions s (w ∷ ws)) ≡ 0 = rw h in
        absurd (z (sym (is_first f) ∙ none))
    go (stops m g y e) = e ∙ ap (λ (i : ℕ). just (Broken i s.place)) (sym (is_first g) ∙ is_first f)
    go (goes g r e) = absurd (z (sym (is_first f) ∙ is_first r.none))

-- a word that stands is taken
stands : (s : Scan) (w : ℕ) (ws : List ℕ) (f : Form) → Right s w f → read_from s (w ∷ ws) ≡ then (item_from f w) (read_from (after s (item_from f w)) ws)
stands s w ws f r = go (at s w ws)
  where
    go : At s w ws → read_from s (w ∷ ws) ≡ then (item_from f w) (read_from (after s (item_from f w)) ws)
    go (ends h e) = absurd (true≢false (sym (ap is_end h) ∙ ap is_end r.form))
    go (stops m g z e) = absurd (z (sym (is_first g) ∙ is_first r.none))
    go (goes g q e) =
        let i : M.Form g ≡ M.Form f = sym q.form ∙ r.form in
        let same : g ≡ f = cc in
        subst (λ (h : Form). read_from s (w ∷ ws) ≡ then (item_from h w) (read_from (after s (item_from h w)) ws)) same e

-- ---- a run

-- the run stops there, with as many records as words before
record Stopped (s : Scan) (ws : List ℕ) (n k place : ℕ) : Type 0 where
  out : (read_from s ws).out ≡ Broken n place
  count : length (read_from s ws).items ≡ k

upto_stopped : {s t : Scan} {ws : List ℕ} {k : ℕ} → Upto s ws k t → (n : ℕ) → FirstIs (questions t (drop k ws)) n → (n ≡ 0 → ⊥) → Stopped s ws n k t.place
upto_stopped {s} {t} {ws} here n f z =
    let e = stopped s ws n f z in
    record { out = ap (λ (r : Reading). r.out) e; count = ap (λ (r : Reading). length r.items) e }
upto_stopped (on {s} {t} {w} {f} {ws} r u) n g z =
    let e = stands s w ws f r in
    let i = upto_stopped u n g z in
    record { out = ap (λ (r : Reading). r.out) e ∙ i.out; count = ap (λ (r : Reading). length r.items) e ∙ ap suc i.count }

wrong_stops : (s : Scan) (ws : List ℕ) (n k : ℕ) (a : WrongAt s ws n k) → Stopped s ws n k a.to.place
wrong_stops s ws n k a = upto_stopped a.before n a.first a.some

-- wrong at once
wrong_here : (s : Scan) (ws : List ℕ) (m n p : ℕ) → FirstIs (questions s ws) m → (m ≡ 0 → ⊥) → Broken m s.place ≡ Broken n p → WrongBy s ws n p
wrong_here s ws m n p f z e =
    let i : m ≡ n = cc in
    let l : s.place ≡ p = cc in
    record { words = 0; wrong = record { to = s; before = here; first = subst (FirstIs (questions s ws)) i f; some = λ k. z (i ∙ k) }; place = l }

stops_wrong : (s : Scan) (ws : List ℕ) (n p : ℕ) → (read_from s ws).out ≡ Broken n p → WrongBy s ws n p
unfolding read_from end_number
stops_wrong s [] n p e = go (eqb (end_number s) 0) refl (sym (end_by s) ∙ e)
  where
    go : (b : Bool) → eqb (end_number s) 0 ≡ b → cond b (Whole s.place) (Broken (end_number s) s.place) ≡ Broken n p → WrongBy s [] n p
    go true h q = let z : ◌≡◌ {A = ℕ} 0 1 = cc in absurd (omega arith)
    go false h q = wrong_here s [] (end_number s) n p (first_is (questions s [])) (eqb-false (end_number s) 0 h) q
stops_wrong s (w ∷ ws) n p e = go (at s w ws) (λ t. stops_wrong t ws n p)
  where
    go : At s w ws → ((t : Scan) → (read_from t ws).out ≡ Broken n p → WrongBy t ws n p) → WrongBy s (w ∷ ws) n p
    go (ends h q) again =
        let y : Whole s.place ≡ Broken n p = sym (ap (λ (r : Reading). r.out) q) ∙ e in
        let z : ◌≡◌ {A = ℕ} 0 1 = cc in
        absurd (omega arith)
    go (stops m f z q) again = wrong_here s (w ∷ ws) m n p f z (sym (ap (λ (r : Reading). r.out) q) ∙ e)
    go (goes f r q) again =
        let a = again _ (sym (ap (λ (r : Reading). r.out) q) ∙ e) in
        let b = a.wrong in
        record { words = suc a.words; wrong = record { to = b.to; before = on r b.before; first = b.first; some = b.some }; place = a.place }

-- from any scan, a forged one too
pub wrong_from : (s : Scan) (ws : List ℕ) (n p : ℕ) → ((read_from s ws).out ≡ Broken n p) ↔ WrongBy s ws n p
wrong_from s ws n p = (stops_wrong s ws n p, λ a. (wrong_stops s ws n a.words a.wrong).out ∙ ap (Broken n) a.place)

-- from a block's start: refused with n at p exactly if p words stand where they are and the next, or its absence, is wrong with n
pub first_wrong : (ws : List ℕ) (n p : ℕ) → ((read_from start_of ws).out ≡ Broken n p) ↔ WrongAt start_of ws n p
first_wrong ws n p = (
  λ e. let a = stops_wrong start_of ws n p e in subst (WrongAt start_of ws n) (sym (counted a.words a.wrong) ∙ a.place) a.wrong,
  λ a. (wrong_from start_of ws n p).1 (record { words = p; wrong = a; place = counted p a }),
)
  where
    counted : (k : ℕ) (a : WrongAt start_of ws n k) → a.to.place ≡ k
    counted k a = let i = wrong_stops start_of ws n k a in sym (ap place_of i.out) ∙ records_before ws ∙ i.count

-- ---- where it stops

-- how a run ends, by what is asked where it stops
pub stop_says : (s : Scan) (ws : List ℕ) → let t = stop_of s ws in (read_from s ws).out ≡ out_of (first_of (questions t.0 t.1)) t.0.place
unfolding read_from end_number first_of stop_of
stop_says s [] = end_by s
stop_says s (w ∷ ws) = go (at s w ws) (λ t. stop_says t ws)
  where
    Ended : Scan × List ℕ → Type 0
    Ended t = (read_from s (w ∷ ws)).out ≡ out_of (first_of (questions t.0 t.1)) t.0.place

    here_by : (m : Meaning) → meaning_at s w ≡ m → eqb (first_of (questions s (w ∷ ws))) 0 ≡ false → stop_by s w ws m (λ t. stop_of t ws) ≡ (s, w ∷ ws)
    here_by (M.Form f) h z =
        let q : eqb (first_of (refusals s (M.Form f) w)) 0 ≡ false = rw h at z in
        rw q
    here_by M.Unallowed h z = refl
    here_by M.End h z = refl

    go : At s w ws → ((t : Scan) → let u = stop_of t ws in (read_from t ws).out ≡ out_of (first_of (questions u.0 u.1)) u.0.place) → Ended (stop_by s w ws (meaning_at s w) (λ t. stop_of t ws))
    go (ends h e) r =
        let t : stop_by s w ws (meaning_at s w) (λ t. stop_of t ws) ≡ (s, w ∷ ws) = rw h in
        let i : first_of (questions s (w ∷ ws)) ≡ 0 = rw h in
        subst Ended (sym t) (ap (λ (x : Reading). x.out) e ∙ rw i)
    go (stops n f z e) r =
        let i : first_of (questions s (w ∷ ws)) ≡ n = is_first f in
        let t = here_by (meaning_at s w) refl (rw i (ne_eqb n 0 z)) in
        subst Ended (sym t) (ap (λ (x : Reading). x.out) e ∙ rw (i, ne_eqb n 0 z))
    go (goes f k e) r =
        let i : first_of (refusals s (M.Form f) w) ≡ 0 = is_first (rw k.form at k.none) in
        let t : stop_by s w ws (meaning_at s w) (λ t. stop_of t ws) ≡ stop_of (after s (item_from f w)) ws = rw (k.form, i) in
        subst Ended (sym t) (ap (λ (x : Reading). x.out) e ∙ r (after s (item_from f w)))
