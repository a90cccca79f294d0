-- The check at one word that may be passed. Assumes nothing.
use Rattle.std.specs.Prelude.{ℕ, ◌+◌, ◌-◌, ◌/◌, ◌%◌, ◌^◌, ◌≤◌, ◌<◌, ◌≡◌, Bool, cond, ◌&&◌, ◌||◌, List, ◌∷◌, eqb, leb, drop}
use Rattle.std.proofs.Math.Path.{refl, ap}
use Rattle.std.proofs.Common.{sym, ◌∙◌, arith}
use Rattle.std.proofs.Math.Bool.{true, false, and-false}
use borrow.Author.Tests.{eqb-true, eqb-false, eq-eqb, ne_eqb}
use Rattle.ground.specs.Tests.{first_of}
use Rattle.ground.specs.TestsLaws.{and_left, and_right}
use Rattle.fields.specs.Word.{field_at, read}
use Rattle.fields.proofs.WordLaws.{field_lt}
use Rattle.fields.specs.Tag.{is_defining, is_continuation}
use Rattle.limits.specs.Limits.{pairs_of}
use Rattle.framing.specs.Words.{event_header_of, trigger_time_of, trigger_time_high_of, trigger_time_high_fixed}
use Rattle.measures.specs.Words.{time_fixed}
use Rattle.limits.proofs.LimitsLaws.{most_pairs_lem}
use Rattle.raw.specs.Words.{window_of, window_fixed, window_within, pulse_raw_fixed, pair_of, pair_fixed}
use Rattle.items.specs.Items.{item_from}
use Rattle.items.specs.declared.Form.{Form}
use Rattle.items.specs.declared.Form.TheVariants as F
use Rattle.scan.specs.declared.Stage.{Stage}
use Rattle.scan.specs.declared.Stage.TheVariants as P
use Rattle.scan.specs.declared.Scan.{Scan}
use Rattle.scan.specs.After.{onward, after}
use Rattle.meaning.specs.declared.Meaning.{Meaning}
use Rattle.meaning.specs.declared.Meaning.TheVariants as M
use Rattle.meaning.specs.Meaning.{inner, meaning_in, meaning_at, unfinished_by, unfinished}
use Rattle.meaning.specs.MeaningLaws.{meaning_type, meaning_more}
use Rattle.questions.specs.Questions.{at_limit, refusals, refusal_of}
use Rattle.reader.specs.Reader.{step_by, step_at, on_step, check_from}
use Rattle.reader.specs.ReaderLaws.{step_form}
use Rattle.reader.specs.RunLaws.{check_at}
use Rattle.reader.specs.Step.{Step}
use Rattle.raw.specs.Plain.{plain}
use Rattle.raw.specs.PlainLaws.{plain_bits}
use Rattle.stretches.specs.Stretches.{single, measure}
use Rattle.runs.specs.Runs.{window_head, raw_head, standing}

onward_is : (place : ℕ) → place < 4194303 → onward place ≡ place + 1
unfolding onward
onward_is place h = omega arith

not_limit : (s : Scan) → s.place < 4194303 → at_limit s ≡ false
unfolding at_limit
not_limit s h = rw (ne_eqb s.place 4194303 (omega arith)) (and-false (unfinished s))

record SingleBits (word : ℕ) : Type 0 where
  more : is_continuation word ≡ true
  fixed : pair_fixed word ≡ true
  first : (pair_of word).nofirst ≡ 0
  second : (pair_of word).nosecond ≡ 1
  none : (pair_of word).second ≡ 0

single_bits : (word : ℕ) → single word ≡ true → SingleBits word
unfolding single is_continuation pair_fixed pair_of field_at
single_bits word d =
    let hi : word / 2 ^ 29 % 2 ^ 3 ≡ 0 = eqb-true _ 0 (and_left _ _ d) in
    let lo : word / 2 ^ 0 % 2 ^ 16 ≡ 8192 = eqb-true _ 8192 (and_right (eqb (word / 2 ^ 29 % 2 ^ 3) 0) _ d) in
    let b31 : word / 2 ^ 31 % 2 ^ 1 ≡ 0 = omega arith in
    let b30 : word / 2 ^ 30 % 2 ^ 1 ≡ 0 = omega arith in
    let b29 : word / 2 ^ 29 % 2 ^ 1 ≡ 0 = omega arith in
    let b14 : word / 2 ^ 14 % 2 ^ 2 ≡ 0 = omega arith in
    let b13 : word / 2 ^ 13 % 2 ^ 1 ≡ 1 = omega arith in
    let b0 : word / 2 ^ 0 % 2 ^ 13 ≡ 0 = omega arith in
    record { more = rw b31; fixed = rw (b30, b14); first = b29; second = b13; none = b0 }

module _ (place slot left : ℕ) (words : List ℕ) (h : place < 4194303) where
  -- a word of which nothing is refused
  went : (p : Stage) (rest : ℕ) (q : Stage) (word : ℕ) (f : Form)
      → meaning_at (standing place slot left p) word ≡ M.Form f
      → first_of (drop 2 (refusals (standing place slot left p) (M.Form f) word)) ≡ 0
      → after (standing place slot left p) (item_from f word) ≡ standing (onward place) slot rest q
      → check_from (standing place slot left p) (word ∷ words) ≡ check_from (standing (place + 1) slot rest q) words
  went p rest q word f m n a =
      let s = standing place slot left p in
      check_at s word words (sym (step_form s word (sym m) (not_limit s h) ∙ ap (step_by s (M.Form f) word) n))
      ∙ ap (λ (t : Scan). check_from t words) (a ∙ ap (λ (k : ℕ). standing k slot rest q) (onward_is place h))

  integral_passed : (word : ℕ) → is_defining 7 word ≡ true → check_from (standing place slot left P.Items) (word ∷ words) ≡ check_from (standing (place + 1) slot left P.Items) words
  unfolding first_of after
  integral_passed word d = went P.Items left P.Items word F.Integral (meaning_type _ word 7 d) refl refl

  pedestal_passed : (word : ℕ) → is_defining 10 word ≡ true → check_from (standing place slot left P.Items) (word ∷ words) ≡ check_from (standing (place + 1) slot left P.Items) words
  unfolding first_of after
  pedestal_passed word d = went P.Items left P.Items word F.Pedestal (meaning_type _ word 10 d) refl refl

  time_passed : (word : ℕ) → is_defining 8 word && time_fixed word ≡ true → check_from (standing place slot left P.Items) (word ∷ words) ≡ check_from (standing (place + 1) slot left P.Items) words
  unfolding first_of after
  time_passed word d = went P.Items left P.Items word F.Time (meaning_type _ word 8 (and_left _ (time_fixed word) d)) (rw (and_right (is_defining 8 word) _ d)) refl

  pub measure_passed : (word : ℕ) → measure word ≡ true → check_from (standing place slot left P.Items) (word ∷ words) ≡ check_from (standing (place + 1) slot left P.Items) words
  unfolding measure
  measure_passed word d = go (is_defining 7 word) (is_defining 10 word) refl refl d
    where
      go : (x y : Bool) → is_defining 7 word ≡ x → is_defining 10 word ≡ y → (x || y) || (is_defining 8 word && time_fixed word) ≡ true
          → check_from (standing place slot left P.Items) (word ∷ words) ≡ check_from (standing (place + 1) slot left P.Items) words
      go true y e f d = integral_passed word e
      go false true e f d = pedestal_passed word f
      go false false e f d = time_passed word d

  pub window_passed : (word : ℕ) → window_head word ≡ true
      → check_from (standing place slot left P.Items) (word ∷ words)
      ≡ check_from (standing (place + 1) slot left (P.Window (pairs_of (read 11 0 word)) (eqb (read 11 0 word % 2) 1))) words
  unfolding window_head first_of after window_of
  window_passed word d =
      let e : is_defining 4 word && window_fixed word ≡ true = and_left _ (window_within (window_of word)) d in
      went P.Items left _ word F.Window (meaning_type _ word 4 (and_left _ (window_fixed word) e)) (rw (and_right (is_defining 4 word) _ e, and_right (is_defining 4 word && window_fixed word) _ d)) refl

  pub raw_passed : (word : ℕ) → raw_head word ≡ true
      → check_from (standing place slot left P.Items) (word ∷ words) ≡ check_from (standing (place + 1) slot left (P.Raw 250 false)) words
  unfolding raw_head first_of after
  raw_passed word d =
      went P.Items left (P.Raw 250 false) word F.Raw (meaning_type _ word 6 (and_left _ (pulse_raw_fixed word) d)) (rw (and_right (is_defining 6 word) _ d)) (rw most_pairs_lem)

  -- ---- an event's head

  pub event_passed : (word : ℕ) → is_defining 2 word ≡ true → read 26 22 word ≡ slot → 1 ≤ left
      → check_from (standing place slot left P.Items) (word ∷ words) ≡ check_from (standing (place + 1) slot (left - 1) P.Opened) words
  unfolding first_of after event_header_of
  event_passed word d e l = went P.Items (left - 1) P.Opened word F.Event (meaning_type _ word 2 d) (rw (eq-eqb (read 26 22 word) slot e, ne_eqb left 0 (omega arith))) refl

  pub clock_passed : (word : ℕ) → is_defining 3 word ≡ true
      → check_from (standing place slot left P.Opened) (word ∷ words) ≡ check_from (standing (place + 1) slot left (P.Timed (read 26 24 word))) words
  unfolding first_of after trigger_time_of
  clock_passed word d = went P.Opened left (P.Timed (read 26 24 word)) word F.Clock (meaning_type _ word 3 d) refl refl

  pub high_passed : (middle word : ℕ) → is_continuation word ≡ true → trigger_time_high_fixed word ≡ true → read 23 0 word % 8 ≡ middle
      → check_from (standing place slot left (P.Timed middle)) (word ∷ words) ≡ check_from (standing (place + 1) slot left P.Items) words
  unfolding first_of after trigger_time_high_of
  high_passed middle word d f e = went (P.Timed middle) left P.Items word F.ClockHigh (meaning_more _ word d) (rw (f, eq-eqb (read 23 0 word % 8) middle e)) refl

  -- ---- pairs, in a window and in a data set

  module _ (word : ℕ) (d : plain word ≡ true) where
    -- where it is not the last of an odd width
    pub plain_passed : (n : ℕ) (odd : Bool) → eqb n 1 && odd ≡ false
        → check_from (standing place slot left (P.Window n odd)) (word ∷ words) ≡ check_from (standing (place + 1) slot left (cond (leb n 1) P.Items (P.Window (n - 1) odd))) words
    unfolding first_of after
    plain_passed n odd e =
        let b = plain_bits word d in
        went (P.Window n odd) left (cond (leb n 1) P.Items (P.Window (n - 1) odd)) word F.Pair (meaning_more _ word b.more) (rw (b.fixed, b.first, b.second, e)) refl

    pub plain_raw : (n : ℕ) (some : Bool) → 1 ≤ n
        → check_from (standing place slot left (P.Raw n some)) (word ∷ words) ≡ check_from (standing (place + 1) slot left (P.Raw (n - 1) true)) words
    unfolding first_of after
    plain_raw n some l =
        let b = plain_bits word d in
        went (P.Raw n some) left (P.Raw (n - 1) true) word F.Pair (meaning_more _ word b.more ∙ rw (ne_eqb n 0 (omega arith))) (rw (b.fixed, b.first, b.second)) (rw b.second)

  module _ (word : ℕ) (d : single word ≡ true) where
    -- the last of an odd width
    pub single_passed : check_from (standing place slot left (P.Window 1 true)) (word ∷ words) ≡ check_from (standing (place + 1) slot left P.Items) words
    unfolding first_of after
    single_passed =
        let b = single_bits word d in
        went (P.Window 1 true) left P.Items word F.Pair (meaning_more _ word b.more) (rw (b.fixed, b.first, b.second, b.none)) refl

    pub single_raw : (n : ℕ) (some : Bool) → 1 ≤ n
        → check_from (standing place slot left (P.Raw n some)) (word ∷ words) ≡ check_from (standing (place + 1) slot left (P.Raw 0 true)) words
    unfolding first_of after
    single_raw n some l =
        let b = single_bits word d in
        went (P.Raw n some) left (P.Raw 0 true) word F.Pair (meaning_more _ word b.more ∙ rw (ne_eqb n 0 (omega arith))) (rw (b.fixed, b.first, b.second, b.none)) (rw b.second)

-- ---- where a defining word stands as behind an item

module _ (place slot left word : ℕ) (p : Stage) (u : unfinished_by p ≡ true) where
  judged : Stage → Meaning → Step
  judged q m = step_by (standing place slot left q) m word (refusal_of (standing place slot left q) m word)

  either : (window raw integral time pedestal scalers event trailer : Bool)
      → let m = cond window (M.Form F.Window) (cond raw (M.Form F.Raw) (cond integral (M.Form F.Integral) (cond time (M.Form F.Time) (cond pedestal (M.Form F.Pedestal) (cond scalers (M.Form F.Scalers) (cond event (M.Form F.Event) (cond trailer (M.Form F.Trailer) M.Unallowed))))))) in
      judged p m ≡ judged P.Items m
  unfolding judged refusal_of first_of at_limit after
  either true raw integral time pedestal scalers event trailer = rw u
  either false true integral time pedestal scalers event trailer = rw u
  either false false true time pedestal scalers event trailer = rw u
  either false false false true pedestal scalers event trailer = rw u
  either false false false false true scalers event trailer = rw u
  either false false false false false true event trailer = rw u
  either false false false false false false true trailer = rw u
  either false false false false false false false true = rw u
  either false false false false false false false false = rw u

  same_step : meaning_at (standing place slot left p) word ≡ meaning_in M.Unallowed inner (read 30 27 word) → is_continuation word ≡ false
      → step_at (standing place slot left p) word ≡ step_at (standing place slot left P.Items) word
  unfolding step_at meaning_at is_continuation judged
  same_step m d = rw (m, d) (let k = read 30 27 word in either (eqb k 4) (eqb k 6) (eqb k 7) (eqb k 8) (eqb k 10) (eqb k 12) (eqb k 2) (eqb k 1))

  same_check : (words : List ℕ) → meaning_at (standing place slot left p) word ≡ meaning_in M.Unallowed inner (read 30 27 word) → is_continuation word ≡ false
      → check_from (standing place slot left p) (word ∷ words) ≡ check_from (standing place slot left P.Items) (word ∷ words)
  unfolding check_from
  same_check words m d = ap (λ (t : Step). on_step t place (λ v. check_from v words)) (same_step m d)

module _ (place slot left word : ℕ) (words : List ℕ) (d : is_continuation word ≡ false) where
  pub raw_end : (n : ℕ) → check_from (standing place slot left (P.Raw n true)) (word ∷ words) ≡ check_from (standing place slot left P.Items) (word ∷ words)
  unfolding meaning_at is_continuation
  raw_end n = same_check place slot left word (P.Raw n true) refl words (rw d) d

  pub timed_end : (middle : ℕ) → check_from (standing place slot left (P.Timed middle)) (word ∷ words) ≡ check_from (standing place slot left P.Items) (word ∷ words)
  unfolding meaning_at is_continuation
  timed_end middle = same_check place slot left word (P.Timed middle) refl words (rw d) d

  -- a time word alone stands behind an event header as behind nothing else
  pub opened_end : is_defining 3 word ≡ false → check_from (standing place slot left P.Opened) (word ∷ words) ≡ check_from (standing place slot left P.Items) (word ∷ words)
  unfolding meaning_at is_continuation is_defining
  opened_end e =
      let some : read 31 31 word ≡ 0 → ⊥ = eqb-false (read 31 31 word) 0 d in
      let bit : read 31 31 word ≡ 1 = omega (arith, field_lt word 31 1) in
      same_check place slot left word P.Opened refl words (rw (d, rw bit at e)) d
