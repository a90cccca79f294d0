-- Demand 2: "Reading a block .. gives back every field as written". Records that stand as the layout asks are read back as they were written.
-- Assumes nothing.
use Rattle.std.specs.Prelude.{ℕ, ◌≡◌, refl, true, ◌&&◌, List, [], ◌∷◌, T, eqb, length, get_or, drop}
use Rattle.std.proofs.Common.{ap, ◌∙◌, eq-eqb}
use Rattle.ground.specs.Tests.{first_of}
use Rattle.fields.specs.Word.{Field, read, pack, fit}
use Rattle.fields.specs.Tag.{defining, is_defining, continuation, is_continuation}
use Rattle.fields.proofs.WordLaws.{tiles, taken, true_T}
use Rattle.framing.specs.Words as W
use Rattle.framing.specs.WordsLaws.{block_header_there, parameters_there, trailer_there, event_header_there, trigger_time_there, trigger_time_high_there, scalers_there, scaler_there, empty_there, filler_there}
use Rattle.raw.specs.Words as R
use Rattle.raw.specs.WordsLaws.{window_there, pulse_raw_there, pair_there}
use Rattle.measures.specs.Words as N
use Rattle.measures.specs.WordsLaws.{integral_there, time_there, pedestal_there}
use Rattle.items.specs.Items.{word_of, words_of, fits, form_of, item_from, fixed_in, is_of}
use Rattle.items.specs.declared.Item.{Item}
use Rattle.items.specs.declared.Item.TheVariants as I
use Rattle.scan.specs.declared.Scan.{Scan}
use Rattle.scan.specs.After.{start_of, after}
use Rattle.meaning.specs.declared.Meaning.TheVariants as M
use Rattle.meaning.specs.Meaning.{meaning_at}
use Rattle.meaning.specs.MeaningLaws.{meaning_alike}
use Rattle.questions.specs.Questions.{at_limit, refusal_of}
use Rattle.reader.specs.Step as S
use Rattle.reader.specs.Reader.{then, Whole, step_at, end_of, read_from}
use Rattle.reader.specs.Judged as J
use Rattle.reader.specs.ReaderLaws.{judge_by}
use Rattle.reader.specs.RunLaws.{read_at}
use Rattle.layout.specs.FirstWrong.{records_before}
use Rattle.layout.specs.Layout.{Stands, Follow, IsBlock}

-- ---- one record's word

-- the word shows the record's form and its fixed bits, and holds the record
pub record WordSays (x : Item) (w : ℕ) : Type 0 where
  pub tag : is_of (form_of x) w ≡ true
  pub fixed : fixed_in (form_of x) w ≡ true
  pub item : item_from (form_of x) w ≡ x

-- a defining word, and a continuation, of any layout
by_type : (type : ℕ) (fs : List Field) → T (tiles 32 (defining type fs)) → fit (defining type fs) ≡ true → is_defining type (pack (defining type fs)) ≡ true
unfolding is_defining
by_type type fs t h =
    let b : read 31 31 (pack (defining type fs)) ≡ 1 = taken (defining type fs) (λ vs. get_or vs 0 0) refl t (true_T h) in
    let k : read 30 27 (pack (defining type fs)) ≡ type = taken (defining type fs) (λ vs. get_or vs 1 0) refl t (true_T h) in
    rw b (eq-eqb _ type k)

by_bit : (fs : List Field) → T (tiles 32 (continuation fs)) → fit (continuation fs) ≡ true → is_continuation (pack (continuation fs)) ≡ true
unfolding is_continuation
by_bit fs t h =
    let b : read 31 31 (pack (continuation fs)) ≡ 0 = taken (continuation fs) (λ vs. get_or vs 0 0) refl t (true_T h) in
    rw b

pub says : (x : Item) → fits x ≡ true → WordSays x (word_of x)
unfolding fits word_of W.block_header W.block_header_fixed W.parameters W.parameters_fixed W.trailer W.event_header W.trigger_time W.trigger_time_high W.trigger_time_high_fixed W.scalers W.scalers_fixed W.scaler W.empty W.filler R.window R.window_fixed R.pulse_raw R.pulse_raw_fixed R.pair R.pair_fixed N.integral N.time N.time_fixed N.pedestal
says (I.Block r) h = record { tag = by_type 0 (drop 2 (W.block_header r)) tt h; fixed = taken (W.block_header r) (λ vs. eqb (get_or vs 3 0) 1) refl tt (true_T h); item = ap I.Block (block_header_there r h) }
says (I.Parameters r) h = record { tag = by_bit (drop 1 (W.parameters r)) tt h; fixed = taken (W.parameters r) (λ vs. eqb (get_or vs 1 0) 0) refl tt (true_T h); item = ap I.Parameters (parameters_there r h) }
says (I.Trailer r) h = record { tag = by_type 1 (drop 2 (W.trailer r)) tt h; fixed = refl; item = ap I.Trailer (trailer_there r h) }
says (I.Event r) h = record { tag = by_type 2 (drop 2 (W.event_header r)) tt h; fixed = refl; item = ap I.Event (event_header_there r h) }
says (I.Clock r) h = record { tag = by_type 3 (drop 2 (W.trigger_time r)) tt h; fixed = refl; item = ap I.Clock (trigger_time_there r h) }
says (I.ClockHigh r) h = record { tag = by_bit (drop 1 (W.trigger_time_high r)) tt h; fixed = taken (W.trigger_time_high r) (λ vs. eqb (get_or vs 1 0) 0) refl tt (true_T h); item = ap I.ClockHigh (trigger_time_high_there r h) }
says (I.Window r) h = record { tag = by_type 4 (drop 2 (R.window r)) tt h; fixed = taken (R.window r) (λ vs. eqb (get_or vs 3 0) 0) refl tt (true_T h); item = ap I.Window (window_there r h) }
says (I.Raw r) h = record { tag = by_type 6 (drop 2 (R.pulse_raw r)) tt h; fixed = taken (R.pulse_raw r) (λ vs. eqb (get_or vs 4 0) 0) refl tt (true_T h); item = ap I.Raw (pulse_raw_there r h) }
says (I.Pair r) h = record { tag = by_bit (drop 1 (R.pair r)) tt h; fixed = taken (R.pair r) (λ vs. eqb (get_or vs 1 0) 0 && eqb (get_or vs 4 0) 0) refl tt (true_T h); item = ap I.Pair (pair_there r h) }
says (I.Integral r) h = record { tag = by_type 7 (drop 2 (N.integral r)) tt h; fixed = refl; item = ap I.Integral (integral_there r h) }
says (I.Time r) h = record { tag = by_type 8 (drop 2 (N.time r)) tt h; fixed = taken (N.time r) (λ vs. eqb (get_or vs 5 0) 0) refl tt (true_T h); item = ap I.Time (time_there r h) }
says (I.Pedestal r) h = record { tag = by_type 10 (drop 2 (N.pedestal r)) tt h; fixed = refl; item = ap I.Pedestal (pedestal_there r h) }
says (I.Empty r) h = record { tag = by_type 14 (drop 2 (W.empty r)) tt h; fixed = refl; item = ap I.Empty (empty_there r h) }
says (I.Filler r) h = record { tag = by_type 15 (drop 2 (W.filler r)) tt h; fixed = refl; item = ap I.Filler (filler_there r h) }
says (I.Scalers r) h = record { tag = by_type 12 (drop 2 (W.scalers r)) tt h; fixed = taken (W.scalers r) (λ vs. eqb (get_or vs 2 0) 0) refl tt (true_T h); item = ap I.Scalers (scalers_there r h) }
says (I.Scaler r) h = record { tag = refl; fixed = refl; item = ap I.Scaler (scaler_there r h) }

-- ---- one step

-- a word that shows the record's bits is what the record's own word is
form_of_lem : (s : Scan) (x : Item) (w : ℕ) → WordSays x w → Stands s x → meaning_at s w ≡ M.Form (form_of x)
form_of_lem s x w a h = meaning_alike s (form_of x) w (word_of x) a.tag h.form

step_there : (s : Scan) (x : Item) (w : ℕ) → WordSays x w → Stands s x → step_at s w ≡ S.Went (form_of x) (after s x)
unfolding step_at refusal_of first_of
step_there s x w a h = rw (form_of_lem s x w a h, a.item, a.fixed, h.limit, h.slot, h.fields, h.count)

-- ---- all records

pub read_step : (s : Scan) (x : Item) (w : ℕ) (words : List ℕ) → WordSays x w → Stands s x → read_from s (w ∷ words) ≡ then x (read_from (after s x) words)
read_step s x w words a h = read_at s w words (judge_by s w (step_there s x w a h) ∙ ap (λ (y : Item). J.Took y (after s x)) a.item)

-- where the reading stands behind the records
abbrev pub behind : Scan → List Item → Scan
behind s [] = s
behind s (x ∷ xs) = behind (after s x) xs

read_there : (s : Scan) (xs : List Item) → Follow s xs → read_from s (words_of xs) ≡ record { items = xs; out = Whole (behind s xs).place }
unfolding read_from end_of at_limit
read_there s [] h = rw h
read_there s (x ∷ xs) h = read_step s x (word_of x) (words_of xs) (says x h.0.widths) h.0 ∙ ap (then x) (read_there (after s x) xs h.1)

-- a block of records, written, is read back record by record, to its last word
pub round_trip : (xs : List Item) → IsBlock xs → read_from start_of (words_of xs) ≡ record { items = xs; out = Whole (length xs) }
round_trip xs h =
    let r : read_from start_of (words_of xs) ≡ record { items = xs; out = Whole (behind start_of xs).place } = read_there start_of xs h in
    let n : (behind start_of xs).place ≡ length xs = rw r at (records_before (words_of xs)) in
    r ∙ ap (λ (k : ℕ). record { items = xs; out = Whole k }) n
