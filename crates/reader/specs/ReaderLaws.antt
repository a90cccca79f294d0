-- What follows from the reader's definitions. Assumes nothing.
use Rattle.std.specs.Prelude.{ℕ, ◌≡◌, refl, Bool, true, false, cond, eqb, drop}
use Rattle.std.proofs.Common.{ap, true≢false, arith, eqb-true}
use Rattle.ground.specs.Tests.{first_of}
use Rattle.ground.specs.TestsLaws.{and_left, AllOff, none}
use Rattle.items.specs.Items.{item_from}
use Rattle.items.specs.declared.Form.{Form}
use Rattle.scan.specs.declared.Scan.{Scan}
use Rattle.scan.specs.After.{after}
use Rattle.meaning.specs.declared.Meaning.{Meaning}
use Rattle.meaning.specs.declared.Meaning.TheVariants as M
use Rattle.meaning.specs.Meaning.{meaning_at, is_end, unfinished}
use Rattle.meaning.specs.MeaningLaws.{no_end, end_tail}
use Rattle.questions.specs.Questions.{at_limit, refusals, refusal_of}
use Rattle.reader.specs.Step.{Step}
use Rattle.reader.specs.Step as S
use Rattle.reader.specs.Reader.{step_by, step_at, with_item, judge_at}

-- ---- one word, question by question

-- before the trailer no block ends, so the limit may be asked first
pub step_limit : (s : Scan) (word : ℕ) → at_limit s ≡ true → step_at s word ≡ S.Refused 14 s.place
unfolding step_at refusal_of first_of at_limit
step_limit s word h = rw h (go (meaning_at s word) (no_end s word (and_left (unfinished s) (eqb s.place 4194303) h)))
  where
    go : (m : Meaning) → is_end m ≡ false → step_by s m word 14 ≡ S.Refused 14 s.place
    go (M.Form f) e = refl
    go M.Unallowed e = refl
    go M.End e = absurd (true≢false e)

-- elsewhere the questions behind it decide: of a record those of its form, any other word is refused or ends the block
pub step_form : (s : Scan) (word : ℕ) {f : Form} → M.Form f ≡ meaning_at s word → at_limit s ≡ false → step_at s word ≡ step_by s (M.Form f) word (first_of (drop 2 (refusals s (M.Form f) word)))
unfolding step_at refusal_of first_of
step_form s word e h = rw (← e, h)

pub step_unallowed : (s : Scan) (word : ℕ) → M.Unallowed ≡ meaning_at s word → at_limit s ≡ false → step_at s word ≡ S.Refused 12 s.place
unfolding step_at refusal_of first_of
step_unallowed s word e h = rw (← e, h)

pub step_end : (s : Scan) (word : ℕ) → M.End ≡ meaning_at s word → step_at s word ≡ S.Ended
unfolding step_at
step_end s word e = rw (← e)

-- with the record
pub judge_by : (s : Scan) (word : ℕ) {t : Step} → step_at s word ≡ t → judge_at s word ≡ with_item word t
unfolding judge_at
judge_by s word e = ap (with_item word) e

-- ---- what an accepted word says

-- a word that may not stand here is refused
pub unallowed : (s : Scan) (word : ℕ) → eqb (refusal_of s M.Unallowed word) 0 ≡ false
unfolding refusal_of first_of
unallowed s word = go (at_limit s)
  where
    go : (a : Bool) → eqb (cond a 14 12) 0 ≡ false
    go true = refl
    go false = refl

pub record Accepted (s : Scan) (word : ℕ) (f : Form) (u : Scan) : Type 0 where
  pub form : meaning_at s word ≡ M.Form f
  pub off : AllOff (refusals s (M.Form f) word)
  pub scan : u ≡ after s (item_from f word)

pub accepted : (s : Scan) (word : ℕ) {f : Form} {u : Scan} → step_at s word ≡ S.Went f u → Accepted s word f u
unfolding step_at refusal_of
accepted s word {f} {u} e = go (meaning_at s word) refl e
  where
    go : (m : Meaning) → meaning_at s word ≡ m → step_by s m word (first_of (refusals s m word)) ≡ S.Went f u → Accepted s word f u
    go M.Unallowed i e = let x : ◌≡◌ {A = ℕ} 0 1 = cc in absurd (omega arith)
    go M.End i e = let x : ◌≡◌ {A = ℕ} 0 1 = cc in absurd (omega arith)
    go (M.Form g) i e = by (eqb n 0) refl e
      where
        n : ℕ
        n = first_of (refusals s (M.Form g) word)

        by : (d : Bool) → eqb n 0 ≡ d → cond d (S.Went g (after s (item_from g word))) (S.Refused n s.place) ≡ S.Went f u → Accepted s word f u
        by false z e = let x : ◌≡◌ {A = ℕ} 0 1 = cc in absurd (omega arith)
        by true z e =
            let same : g ≡ f = cc in
            let off : AllOff (refusals s (M.Form g) word) = none (refusals s (M.Form g) word) refl (eqb-true n 0 z) in
            record { form = rw same at i; off = rw same at off; scan = cc }

-- a refusal is at the scan's place, and its number is that of the first question that refuses
pub record RefusedHere (s : Scan) (word n p : ℕ) : Type 0 where
  pub place : p ≡ s.place
  pub number : n ≡ refusal_of s (meaning_at s word) word
  pub some : eqb n 0 ≡ false

pub refused : (s : Scan) (word : ℕ) {n p : ℕ} → step_at s word ≡ S.Refused n p → RefusedHere s word n p
unfolding step_at
refused s word {n} {p} e = go (meaning_at s word) refl e
  where
    by : (m : Meaning) → meaning_at s word ≡ m → eqb (refusal_of s m word) 0 ≡ false → S.Refused (refusal_of s m word) s.place ≡ S.Refused n p → RefusedHere s word n p
    by m i z e =
        let k : n ≡ refusal_of s m word = cc in
        record { place = cc; number = rw i k; some = rw k z }

    go : (m : Meaning) → meaning_at s word ≡ m → step_by s m word (refusal_of s m word) ≡ S.Refused n p → RefusedHere s word n p
    go (M.Form f) i e = some (eqb (refusal_of s (M.Form f) word) 0) refl e
      where
        some : (b : Bool) → eqb (refusal_of s (M.Form f) word) 0 ≡ b
            → cond b (S.Went f (after s (item_from f word))) (S.Refused (refusal_of s (M.Form f) word) s.place) ≡ S.Refused n p → RefusedHere s word n p
        some true z e = let x : ◌≡◌ {A = ℕ} 0 1 = cc in absurd (omega arith)
        some false z e = by (M.Form f) i z e
    go M.Unallowed i e = by M.Unallowed i (unallowed s word) e
    go M.End i e = let x : ◌≡◌ {A = ℕ} 0 1 = cc in absurd (omega arith)

-- the block ends behind its trailer
pub ended : (s : Scan) (word : ℕ) → step_at s word ≡ S.Ended → unfinished s ≡ false
unfolding step_at
ended s word e = go (meaning_at s word) refl e
  where
    go : (m : Meaning) → meaning_at s word ≡ m → step_by s m word (refusal_of s m word) ≡ S.Ended → unfinished s ≡ false
    go (M.Form f) i e = went (eqb (refusal_of s (M.Form f) word) 0) e
      where
        went : (b : Bool) → cond b (S.Went f (after s (item_from f word))) (S.Refused (refusal_of s (M.Form f) word) s.place) ≡ S.Ended → unfinished s ≡ false
        went true e = let x : ◌≡◌ {A = ℕ} 0 1 = cc in absurd (omega arith)
        went false e = let x : ◌≡◌ {A = ℕ} 0 1 = cc in absurd (omega arith)
    go M.Unallowed i e = let x : ◌≡◌ {A = ℕ} 0 1 = cc in absurd (omega arith)
    go M.End i e = end_tail s word i
