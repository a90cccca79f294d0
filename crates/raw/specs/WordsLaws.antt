-- Both round trips of each record type, a line from the one law over layouts. Assumes nothing.
use Rattle.std.specs.Prelude.{ℕ, ◌^◌, ◌<◌, ◌≡◌, refl, true, eqb, get_or}
use Rattle.std.proofs.Common.{eqb-true}
use Rattle.ground.specs.TestsLaws.{and_left, and_right}
use Rattle.fields.specs.Word.{read, pack, fit}
use Rattle.fields.proofs.WordLaws.{taken, built, true_T}
use Rattle.fields.specs.Tag.{is_defining, is_continuation}
use Rattle.fields.specs.TagLaws.{defined, continued}
use Rattle.raw.specs.declared.window.WindowRaw.{WindowRaw}
use Rattle.raw.specs.declared.pulse_raw.PulseRaw.{PulseRaw}
use Rattle.raw.specs.declared.pair.SamplePair.{SamplePair}
use Rattle.raw.specs.Words.{window, window_of, window_fixed, pulse_raw, pulse_raw_of, pulse_raw_fixed, pair, pair_of, pair_fixed}

-- ---- 4 window

pub window_there : (r : WindowRaw) → fit (window r) ≡ true → window_of (pack (window r)) ≡ r
unfolding window window_of
window_there r h = taken (window r) (λ vs. record { channel = get_or vs 2 0; width = get_or vs 4 0 }) refl tt (true_T h)

pub window_back : (word : ℕ) → word < 2 ^ 32 → is_defining 4 word ≡ true → window_fixed word ≡ true → pack (window (window_of word)) ≡ word
unfolding window window_of window_fixed
window_back word l d z =
    let a = defined 4 word d in
    let f = eqb-true (read 22 12 word) 0 z in
    built (window (window_of word)) word l tt (cc)

-- ---- 6 pulse raw

pub pulse_raw_there : (r : PulseRaw) → fit (pulse_raw r) ≡ true → pulse_raw_of (pack (pulse_raw r)) ≡ r
unfolding pulse_raw pulse_raw_of
pulse_raw_there r h = taken (pulse_raw r) (λ vs. record { channel = get_or vs 2 0; pulse = get_or vs 3 0; tc = get_or vs 5 0 }) refl tt (true_T h)

pub pulse_raw_back : (word : ℕ) → word < 2 ^ 32 → is_defining 6 word ≡ true → pulse_raw_fixed word ≡ true → pack (pulse_raw (pulse_raw_of word)) ≡ word
unfolding pulse_raw pulse_raw_of pulse_raw_fixed
pulse_raw_back word l d z =
    let a = defined 6 word d in
    let f = eqb-true (read 20 10 word) 0 z in
    built (pulse_raw (pulse_raw_of word)) word l tt (cc)

-- ---- Pairs after 4 and 6

pub pair_there : (r : SamplePair) → fit (pair r) ≡ true → pair_of (pack (pair r)) ≡ r
unfolding pair pair_of
pair_there r h = taken (pair r) (λ vs. record { nofirst = get_or vs 2 0; first = get_or vs 3 0; nosecond = get_or vs 5 0; second = get_or vs 6 0 }) refl tt (true_T h)

pub pair_back : (word : ℕ) → word < 2 ^ 32 → is_continuation word ≡ true → pair_fixed word ≡ true → pack (pair (pair_of word)) ≡ word
unfolding pair pair_of pair_fixed
pair_back word l d z =
    let a = continued word d in
    let f = eqb-true (read 30 30 word) 0 (and_left (eqb (read 30 30 word) 0) (eqb (read 15 14 word) 0) z) in
    let g = eqb-true (read 15 14 word) 0 (and_right (eqb (read 30 30 word) 0) (eqb (read 15 14 word) 0) z) in
    built (pair (pair_of word)) word l tt (cc)
