-- A word that is known at a glance is judged so. Assumes nothing.
use Rattle.std.specs.Prelude.{ℕ, Some, None, ◌-◌, ◌≤◌, ◌<◌, ◌≡◌, Bool, true, false, cond, not, ◌&&◌, List, [], ◌∷◌, ltb, drop}
use Rattle.std.proofs.Math.Path.{refl, ap}
use Rattle.std.proofs.Common.{sym, ◌∙◌, arith}
use borrow.Author.Tests.{ltb-true, lt-leb, ne_eqb}
use Rattle.ground.specs.Tests.{first_of}
use Rattle.ground.specs.TestsLaws.{and_left, and_right}
use Rattle.fields.specs.Tag.{is_defining}
use Rattle.raw.specs.Words.{pair_of}
use Rattle.measures.specs.Words.{integral_of, time_of, time_fixed, pedestal_of}
use Rattle.items.specs.Items.{item_from}
use Rattle.items.specs.declared.Form.{Form}
use Rattle.items.specs.declared.Form.TheVariants as F
use Rattle.items.specs.declared.Item.{Item}
use Rattle.items.specs.declared.Item.TheVariants as I
use Rattle.scan.specs.declared.Scan.{Scan}
use Rattle.scan.specs.declared.Stage.{Stage}
use Rattle.scan.specs.declared.Stage.TheVariants as P
use Rattle.scan.specs.After.{after, paired_by}
use Rattle.meaning.specs.declared.Meaning.TheVariants as M
use Rattle.meaning.specs.Meaning.{meaning_at, meaning_in, more_by, allowed_by, other_by}
use Rattle.meaning.specs.MeaningLaws.{meaning_more, meaning_type}
use Rattle.questions.specs.Questions.{at_limit, refusals}
use Rattle.reader.specs.Judged as J
use Rattle.reader.specs.Step as S
use Rattle.reader.specs.Reader.{step_at, judge_at}
use Rattle.reader.specs.ReaderLaws.{step_form, judge_by}
use Rattle.entries.specs.Entries.{record_lines, filler_in}
use Rattle.fields.specs.Bytes.{words_of_bytes}
use Rattle.reader.specs.Reader.{read_from}
use Rattle.written.specs.Page.{Page, put}
use Rattle.written.specs.Line.{line_text, text_of}
use Rattle.written.specs.LineLaws.{say_one}
use Rattle.glance.specs.declared.Kind.{Kind}
use Rattle.glance.specs.declared.Kind.TheVariants as K
use Rattle.raw.specs.Plain.{plain}
use Rattle.raw.specs.PlainLaws.{plain_bits}
use Rattle.glance.specs.Quick.{Quick, Known, quick_item, quick_line, behind_at, measure_of, quick_by, quick_of, QuickSays, known_of}

-- its record has that line, whatever follows, and is no filler
pub quick_line_lem : (kind : Kind) (word : ℕ) (behind : List Item) → record_lines (quick_item kind word) behind ≡ quick_line kind word ∷ []
quick_line_lem K.Pair word behind = refl
quick_line_lem K.Integral word behind = refl
quick_line_lem K.Time word behind = refl
quick_line_lem K.Pedestal word behind = refl

pub quick_filler : (kind : Kind) (word : ℕ) → filler_in (quick_item kind word) ≡ 0
quick_filler K.Pair word = refl
quick_filler K.Integral word = refl
quick_filler K.Time word = refl
quick_filler K.Pedestal word = refl

module _ (s : Scan) (word : ℕ) (h : at_limit s ≡ false) where
  went : (f : Form) (p : Stage) → meaning_at s word ≡ M.Form f → first_of (drop 2 (refusals s (M.Form f) word)) ≡ 0 → after s (item_from f word) ≡ behind_at s p
      → J.Took (item_from f word) (behind_at s p) ≡ judge_at s word
  went f p e z a =
      let step : step_at s word ≡ S.Went f (after s (item_from f word)) = step_form s word (sym e) h ∙ rw z in
      sym (judge_by s word step ∙ ap (J.Took (item_from f word)) a)

  -- ---- behind an item of an event

  module _ (p : s.stage ≡ P.Items) where
    typed : (type : ℕ) → is_defining type word ≡ true → meaning_at s word ≡ meaning_in M.Unallowed (allowed_by P.Items) type
    typed type d = meaning_type s word type d ∙ ap (λ (q : Stage). meaning_in (other_by q) (allowed_by q) type) p

    pub integral_quick : is_defining 7 word ≡ true → J.Took (I.Integral (integral_of word)) (behind_at s P.Items) ≡ judge_at s word
    unfolding first_of after
    integral_quick d = went F.Integral P.Items (typed 7 d) refl refl

    pub pedestal_quick : is_defining 10 word ≡ true → J.Took (I.Pedestal (pedestal_of word)) (behind_at s P.Items) ≡ judge_at s word
    unfolding first_of after
    pedestal_quick d = went F.Pedestal P.Items (typed 10 d) refl refl

    pub time_quick : is_defining 8 word && time_fixed word ≡ true → J.Took (I.Time (time_of word)) (behind_at s P.Items) ≡ judge_at s word
    unfolding first_of after
    time_quick d = went F.Time P.Items (typed 8 (and_left _ (time_fixed word) d)) (rw (and_right (is_defining 8 word) _ d)) refl

  -- ---- in a raw item

  module _ (n : ℕ) where
    pub window_quick : {odd : Bool} → s.stage ≡ P.Window n odd → ltb 1 n && plain word ≡ true → J.Took (I.Pair (pair_of word)) (behind_at s (P.Window (n - 1) odd)) ≡ judge_at s word
    unfolding first_of after
    window_quick {odd} p d =
        let b = plain_bits word (and_right (ltb 1 n) _ d) in
        let m : 1 < n = ltb-true 1 n (and_left _ (plain word) d) in
        went F.Pair (P.Window (n - 1) odd) (meaning_more s word b.more ∙ ap more_by p) (rw (b.fixed, b.first, b.second, p, ne_eqb n 1 (omega arith))) (ap (behind_at s) (ap (λ (q : Stage). paired_by q (pair_of word).nosecond) p ∙ rw (lt-leb n 1 m)))

    pub raw_quick : {some : Bool} → s.stage ≡ P.Raw n some → ltb 0 n && plain word ≡ true → J.Took (I.Pair (pair_of word)) (behind_at s (P.Raw (n - 1) true)) ≡ judge_at s word
    unfolding first_of after
    raw_quick p d =
        let b = plain_bits word (and_right (ltb 0 n) _ d) in
        let m : 0 < n = ltb-true 0 n (and_left _ (plain word) d) in
        went F.Pair (P.Raw (n - 1) true) (meaning_more s word b.more ∙ ap more_by p ∙ rw (ne_eqb n 0 (omega arith))) (rw (b.fixed, b.first, b.second, p)) (ap (behind_at s) (ap (λ (q : Stage). paired_by q (pair_of word).nosecond) p ∙ rw b.second))

-- ---- a word that is known is judged so

measure_says : (s : Scan) (word : ℕ) → at_limit s ≡ false → s.stage ≡ P.Items → QuickSays s word (measure_of (behind_at s P.Items) word)
measure_says s word h p = integral (is_defining 7 word) refl
  where
    time : (b : Bool) → is_defining 8 word && time_fixed word ≡ b → QuickSays s word (cond b (Some (K.Time, (behind_at s P.Items))) None)
    time true d = time_quick s word h p d
    time false d = tt

    pedestal : (b : Bool) → is_defining 10 word ≡ b → QuickSays s word (cond b (Some (K.Pedestal, (behind_at s P.Items))) (cond (is_defining 8 word && time_fixed word) (Some (K.Time, (behind_at s P.Items))) None))
    pedestal true d = pedestal_quick s word h p d
    pedestal false d = time (is_defining 8 word && time_fixed word) refl

    integral : (b : Bool) → is_defining 7 word ≡ b → QuickSays s word (cond b (Some (K.Integral, (behind_at s P.Items))) (cond (is_defining 10 word) (Some (K.Pedestal, (behind_at s P.Items))) (cond (is_defining 8 word && time_fixed word) (Some (K.Time, (behind_at s P.Items))) None)))
    integral true d = integral_quick s word h p d
    integral false d = pedestal (is_defining 10 word) refl

stage_says : (s : Scan) (word : ℕ) → at_limit s ≡ false → (p : Stage) → s.stage ≡ p → QuickSays s word (quick_by s p word)
stage_says s word h P.Start e = tt
stage_says s word h P.Head e = tt
stage_says s word h P.Front e = tt
stage_says s word h P.Opened e = tt
stage_says s word h (P.Timed bits) e = tt
stage_says s word h P.Items e = measure_says s word h e
stage_says s word h (P.Window n odd) e = go (ltb 1 n && plain word) refl
  where
    go : (b : Bool) → ltb 1 n && plain word ≡ b → QuickSays s word (cond (not b) None (Some (K.Pair, (behind_at s (P.Window (n - 1) odd)))))
    go true d = window_quick s word h n e d
    go false d = tt
stage_says s word h (P.Raw n some) e = go (ltb 0 n && plain word) refl
  where
    go : (b : Bool) → ltb 0 n && plain word ≡ b → QuickSays s word (cond (not b) None (Some (K.Pair, (behind_at s (P.Raw (n - 1) true)))))
    go true d = raw_quick s word h n e d
    go false d = tt
stage_says s word h (P.Tail n) e = tt
stage_says s word h (P.Scalers n) e = tt

pub quick_says : (s : Scan) (word : ℕ) → QuickSays s word (quick_of s word)
unfolding quick_of
quick_says s word = go (at_limit s) refl
  where
    go : (b : Bool) → at_limit s ≡ b → QuickSays s word (cond b None (quick_by s s.stage word))
    go true h = tt
    go false h = stage_says s word h s.stage refl

-- ---- what a caller learns

-- the record of the word was put, from place at of text to place k of text'
pub record Went (s : Scan) (word : ℕ) (behind text : List ℕ) (at : ℕ) (k : ℕ) (t : Scan) (m : ℕ) (text' : List ℕ) : Type 0 where
  pub item : Item
  pub judged : J.Took item t ≡ judge_at s word
  pub page : ◌≡◌ {A = Page} (text', k) (put (text, at) (text_of (record_lines item (read_from t (words_of_bytes behind)).items)))
  pub filler : m ≡ filler_in item
  pub most : m ≤ 1

module _ (s : Scan) (word : ℕ) (text : List ℕ) (at : ℕ) {text' : List ℕ} {r : Known} (e : ◌≡◌ {A = List ℕ × Known} (text', r) (known_of (text, at) (quick_of s word) word)) where
  pub known_took : {k : ℕ} {t : Scan} → r ≡ Some (k, t) → (behind : List ℕ) → Went s word behind text at k t 0 text'
  known_took {k} {t} g behind = go (quick_of s word) (quick_says s word) e
    where
      go : (q : Quick) → QuickSays s word q → ◌≡◌ {A = List ℕ × Known} (text', r) (known_of (text, at) q word) → Went s word behind text at k t 0 text'
      go (Some q) f h =
          let p : Page = put (text, at) (line_text (quick_line q.0 word)) in
          let d : ◌≡◌ {A = Known} (Some (k, t)) (Some (p.1, q.1)) = sym g ∙ ap (λ (y : List ℕ × Known). y.1) h in
          let same : ◌≡◌ {A = ℕ × Scan} (k, t) (p.1, q.1) = cc in
          let v : q.1 ≡ t = sym (ap (λ (y : ℕ × Scan). y.1) same) in
          let a : text' ≡ p.0 = ap (λ (y : List ℕ × Known). y.0) h in
          let b : k ≡ p.1 = ap (λ (y : ℕ × Scan). y.0) same in
          let c : ◌≡◌ {A = Page} (text', k) p = ap (λ (l : List ℕ). (l, k)) a ∙ ap (λ (n : ℕ). (p.0, n)) b in
          record { item = quick_item q.0 word; judged = rw v at f; page = say_one _ _ _ (quick_line q.0 word) c (quick_line_lem q.0 word _); filler = sym (quick_filler q.0 word); most = omega arith }
      go None f h = let d : ◌≡◌ {A = Known} (Some (k, t)) None = sym g ∙ ap (λ (y : List ℕ × Known). y.1) h in let z : ◌≡◌ {A = ℕ} 0 1 = cc in absurd (omega arith)

  pub known_other : r ≡ None → text' ≡ text
  known_other g = go (quick_of s word) e
    where
      go : (q : Quick) → ◌≡◌ {A = List ℕ × Known} (text', r) (known_of (text, at) q word) → text' ≡ text
      go (Some q) h =
          let p : Page = put (text, at) (line_text (quick_line q.0 word)) in
          let d : ◌≡◌ {A = Known} None (Some (p.1, q.1)) = sym g ∙ ap (λ (y : List ℕ × Known). y.1) h in
          let z : ◌≡◌ {A = ℕ} 0 1 = cc in
          absurd (omega arith)
      go None h = ap (λ (y : List ℕ × Known). y.0) h
