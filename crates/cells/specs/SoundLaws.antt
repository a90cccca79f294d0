-- The times of the records that reading on gives are those of the layout, so that their numbers say all of them. Assumes nothing.
use Rattle.std.specs.Prelude.{ℕ, ◌%◌, ◌^◌, ◌<◌, ◌≡◌, refl, Bool, true, false, cond, not, List, [], ◌∷◌, eqb, drop}
use Rattle.std.proofs.Common.{sym, ap, ◌∙◌, subst, arith, eqb-true}
use Rattle.std.proofs.lemmas.Bool.{not-false}
use Rattle.ground.specs.TestsLaws.{or_none}
use Rattle.fields.specs.Word.{field_at}
use Rattle.framing.specs.declared.trigger_time.TriggerTime.{TriggerTime}
use Rattle.framing.specs.Words.{trigger_time_of, trigger_time_high_of}
use Rattle.raw.specs.Words.{window_of, pulse_raw_of}
use Rattle.items.specs.Items.{item_from, fixed_in}
use Rattle.items.specs.declared.Form.{Form}
use Rattle.items.specs.declared.Form.TheVariants as F
use Rattle.scan.specs.After.{after}
use Rattle.scan.specs.declared.Stage.{Stage}
use Rattle.scan.specs.declared.Stage.TheVariants as P
use Rattle.scan.specs.declared.Scan.{Scan}
use Rattle.questions.specs.Questions.{time_by}
use Rattle.reader.specs.Step.{Step}
use Rattle.reader.specs.Step as S
use Rattle.reader.specs.Reader.{step_at, with_item, judge_at, end_number}
use Rattle.reader.specs.ReaderLaws.{accepted}
use Rattle.rawitems.specs.declared.Pairs.{Pairs}
use Rattle.rawitems.specs.Pairing.{Pairing}
use Rattle.rawitems.specs.Pairing as G
use Rattle.rawitems.specs.Pairs.{pairs_from}
use Rattle.follow.specs.Follow.{on_high, high_from}
use Rattle.records.specs.declared.answer.Record.{Record}
use Rattle.records.specs.declared.answer.Record.TheVariants as R
use Rattle.records.specs.NextOf.{Next}
use Rattle.records.specs.NextOf as N
use Rattle.records.specs.Next.{with_pairs, with_high, time_from, record_from, from_judged, next_from, next_at}
use Rattle.cells.specs.CellsLaws.{TimeSound}

abbrev Sound : Next → Type 0
Sound (N.Took x u) = TimeSound x
Sound (N.End n) = Unit {0}
Sound (N.Refused n place) = Unit {0}

-- bits 23-0 of a word
low_part : (word : ℕ) → (trigger_time_of word).low < 2 ^ 24
unfolding trigger_time_of field_at
low_part word = omega arith

-- "13 .. time bits 26-24 unequal": they are equal where the second word is taken
high_part : (t : Scan) (word d : ℕ) {u : Scan} → t.stage ≡ P.Timed d → step_at t word ≡ S.Went F.ClockHigh u → d ≡ (trigger_time_high_of word).high % 8
high_part t word d at e =
    let fine : time_by t.stage (trigger_time_high_of word).high ≡ false = (or_none (not (fixed_in F.ClockHigh word)) _ (accepted t word e).off.1.1.1.0).1 in
    sym (eqb-true _ _ (not-false _ (sym (ap (λ (p : Stage). time_by p (trigger_time_high_of word).high) at) ∙ fine)))

time_sound : (r : TriggerTime) (t : Scan) (words : List ℕ) → r.low < 2 ^ 24 → t.stage ≡ P.Timed r.middle → Sound (time_from r t words)
unfolding high_from judge_at
time_sound r t [] low at = low
time_sound r t (word ∷ words) low at = by_step (step_at t word) refl
  where
    by_form : (f : Form) (u : Scan) → step_at t word ≡ S.Went f u → Sound (with_high r t (on_high (with_item word (S.Went f u))))
    by_form F.Block u e = low
    by_form F.Parameters u e = low
    by_form F.Trailer u e = low
    by_form F.Event u e = low
    by_form F.Clock u e = low
    by_form F.ClockHigh u e = (low, high_part t word r.middle at e)
    by_form F.Window u e = low
    by_form F.Raw u e = low
    by_form F.Pair u e = low
    by_form F.Integral u e = low
    by_form F.Time u e = low
    by_form F.Pedestal u e = low
    by_form F.Empty u e = low
    by_form F.Filler u e = low
    by_form F.Scalers u e = low
    by_form F.Scaler u e = low

    by_step : (y : Step) → step_at t word ≡ y → Sound (with_high r t (on_high (with_item word y)))
    by_step (S.Went f u) e = by_form f u e
    by_step (S.Refused n p) e = low
    by_step S.Ended e = low

pairs_sound : (make : Pairs → Record) (place : ℕ) → ((p : Pairs) → TimeSound (make p)) → (q : Pairing) → Sound (with_pairs make place q)
pairs_sound make place h (G.All n u) = h _
pairs_sound make place h (G.Bad n at) = tt

clock_stage : (s t : Scan) (word : ℕ) → t ≡ after s (item_from F.Clock word) → t.stage ≡ P.Timed (trigger_time_of word).middle
unfolding after
clock_stage s t word e = ap (λ (x : Scan). x.stage) e

-- for every scan and all words
next_sound : (s : Scan) (words : List ℕ) → Sound (next_from s words)
unfolding next_from judge_at
next_sound s [] = go (eqb (end_number s) 0)
  where
    go : (b : Bool) → Sound (cond b (N.End s.place) (N.Refused (end_number s) s.place))
    go true = tt
    go false = tt
next_sound s (word ∷ words) = by_step (step_at s word) refl
  where
    by_form : (f : Form) (t : Scan) → step_at s word ≡ S.Went f t → Sound (record_from (item_from f word) t words)
    by_form F.Block t e = tt
    by_form F.Parameters t e = tt
    by_form F.Trailer t e = tt
    by_form F.Event t e = tt
    by_form F.Clock t e = time_sound (trigger_time_of word) t words (low_part word) (clock_stage s t word (accepted s word e).scan)
    by_form F.ClockHigh t e = tt
    by_form F.Window t e = pairs_sound (λ (p : Pairs). R.Window (window_of word) p) t.place (λ p. tt) (pairs_from t 0 words)
    by_form F.Raw t e = pairs_sound (λ (p : Pairs). R.Raw (pulse_raw_of word) p) t.place (λ p. tt) (pairs_from t 0 words)
    by_form F.Pair t e = tt
    by_form F.Integral t e = tt
    by_form F.Time t e = tt
    by_form F.Pedestal t e = tt
    by_form F.Empty t e = tt
    by_form F.Filler t e = tt
    by_form F.Scalers t e = pairs_sound (λ (p : Pairs). R.Scalers p) t.place (λ p. tt) (pairs_from t 0 words)
    by_form F.Scaler t e = tt

    by_step : (y : Step) → step_at s word ≡ y → Sound (from_judged (with_item word y) s.place words)
    by_step (S.Went f t) e = by_form f t e
    by_step (S.Refused n p) e = tt
    by_step S.Ended e = tt

pub took_sound : (words : List ℕ) (s : Scan) {x : Record} {u : Scan} → next_at words s ≡ N.Took x u → TimeSound x
unfolding next_at
took_sound words s e = subst Sound e (next_sound s (drop s.place words))
