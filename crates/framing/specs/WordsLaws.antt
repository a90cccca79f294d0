-- Both round trips of each record type, a line from the one law over layouts. Assumes nothing.
use Rattle.std.specs.Prelude.{ℕ, ◌*◌, ◌/◌, ◌^◌, ◌<◌, ◌≡◌, refl, true, [], ◌∷◌, get_or}
use Rattle.std.proofs.Common.{arith, eqb-true}
use Rattle.fields.specs.Word.{field_at, read, pack, fit, bits}
use Rattle.fields.proofs.WordLaws.{taken, built, true_T}
use Rattle.fields.specs.Tag.{defining, is_defining, is_continuation}
use Rattle.fields.specs.TagLaws.{defined, continued}
use Rattle.framing.specs.declared.block_header.BlockHeader.{BlockHeader}
use Rattle.framing.specs.declared.parameters.Parameters.{Parameters}
use Rattle.framing.specs.declared.trailer.BlockTrailer.{BlockTrailer}
use Rattle.framing.specs.declared.event_header.EventHeader.{EventHeader}
use Rattle.framing.specs.declared.trigger_time.TriggerTime.{TriggerTime}
use Rattle.framing.specs.declared.trigger_time_high.TriggerTimeHigh.{TriggerTimeHigh}
use Rattle.framing.specs.declared.scalers.ScalerHeader.{ScalerHeader}
use Rattle.framing.specs.declared.scaler.ScalerWord.{ScalerWord}
use Rattle.framing.specs.declared.empty.ModuleEmpty.{ModuleEmpty}
use Rattle.framing.specs.declared.filler.Filler.{Filler}
use Rattle.framing.specs.Words.{block_header, block_header_of, block_header_fixed, parameters, parameters_of, parameters_fixed, trailer, trailer_of, event_header, event_header_of, trigger_time, trigger_time_of, trigger_time_high, trigger_time_high_of, trigger_time_high_fixed, scalers, scalers_of, scalers_fixed, scaler, scaler_of, empty, empty_of, filler, filler_of}

-- ---- 0 block header

pub block_header_there : (r : BlockHeader) → fit (block_header r) ≡ true → block_header_of (pack (block_header r)) ≡ r
unfolding block_header block_header_of
block_header_there r h = taken (block_header r) (λ vs. record { slot = get_or vs 2 0; number = get_or vs 4 0; events = get_or vs 5 0 }) refl tt (true_T h)

pub block_header_back : (word : ℕ) → word < 2 ^ 32 → is_defining 0 word ≡ true → block_header_fixed word ≡ true → pack (block_header (block_header_of word)) ≡ word
unfolding block_header block_header_of block_header_fixed
block_header_back word l d z =
    let a = defined 0 word d in
    let f = eqb-true (read 21 18 word) 1 z in
    built (block_header (block_header_of word)) word l tt (cc)

-- ---- 0, parameters (continuation)

pub parameters_there : (r : Parameters) → fit (parameters r) ≡ true → parameters_of (pack (parameters r)) ≡ r
unfolding parameters parameters_of
parameters_there r h = taken (parameters r) (λ vs. record { pl = get_or vs 2 0; nsb = get_or vs 3 0; nsa = get_or vs 4 0 }) refl tt (true_T h)

pub parameters_back : (word : ℕ) → word < 2 ^ 32 → is_continuation word ≡ true → parameters_fixed word ≡ true → pack (parameters (parameters_of word)) ≡ word
unfolding parameters parameters_of parameters_fixed
parameters_back word l d z =
    let a = continued word d in
    let f = eqb-true (read 30 29 word) 0 z in
    built (parameters (parameters_of word)) word l tt (cc)

-- ---- 1 trailer

pub trailer_there : (r : BlockTrailer) → fit (trailer r) ≡ true → trailer_of (pack (trailer r)) ≡ r
unfolding trailer trailer_of
trailer_there r h = taken (trailer r) (λ vs. record { slot = get_or vs 2 0; words = get_or vs 3 0 }) refl tt (true_T h)

pub trailer_back : (word : ℕ) → word < 2 ^ 32 → is_defining 1 word ≡ true → pack (trailer (trailer_of word)) ≡ word
unfolding trailer trailer_of
trailer_back word l d =
    let a = defined 1 word d in
    built (trailer (trailer_of word)) word l tt (cc)

-- ---- 2 event header

pub event_header_there : (r : EventHeader) → fit (event_header r) ≡ true → event_header_of (pack (event_header r)) ≡ r
unfolding event_header event_header_of
event_header_there r h = taken (event_header r) (λ vs. record { slot = get_or vs 2 0; number = get_or vs 3 0 }) refl tt (true_T h)

pub event_header_back : (word : ℕ) → word < 2 ^ 32 → is_defining 2 word ≡ true → pack (event_header (event_header_of word)) ≡ word
unfolding event_header event_header_of
event_header_back word l d =
    let a = defined 2 word d in
    built (event_header (event_header_of word)) word l tt (cc)

-- ---- 3 trigger time

pub trigger_time_there : (r : TriggerTime) → fit (trigger_time r) ≡ true → trigger_time_of (pack (trigger_time r)) ≡ r
unfolding trigger_time trigger_time_of
trigger_time_there r h = taken (trigger_time r) (λ vs. record { middle = get_or vs 2 0; low = get_or vs 3 0 }) refl tt (true_T h)

pub trigger_time_back : (word : ℕ) → word < 2 ^ 32 → is_defining 3 word ≡ true → pack (trigger_time (trigger_time_of word)) ≡ word
unfolding trigger_time trigger_time_of
trigger_time_back word l d =
    let a = defined 3 word d in
    built (trigger_time (trigger_time_of word)) word l tt (cc)

-- ---- 3, second (continuation)

pub trigger_time_high_there : (r : TriggerTimeHigh) → fit (trigger_time_high r) ≡ true → trigger_time_high_of (pack (trigger_time_high r)) ≡ r
unfolding trigger_time_high trigger_time_high_of
trigger_time_high_there r h = taken (trigger_time_high r) (λ vs. record { high = get_or vs 2 0 }) refl tt (true_T h)

pub trigger_time_high_back : (word : ℕ) → word < 2 ^ 32 → is_continuation word ≡ true → trigger_time_high_fixed word ≡ true → pack (trigger_time_high (trigger_time_high_of word)) ≡ word
unfolding trigger_time_high trigger_time_high_of trigger_time_high_fixed
trigger_time_high_back word l d z =
    let a = continued word d in
    let f = eqb-true (read 30 24 word) 0 z in
    built (trigger_time_high (trigger_time_high_of word)) word l tt (cc)

-- ---- 12 scalers

pub scalers_there : (r : ScalerHeader) → fit (scalers r) ≡ true → scalers_of (pack (scalers r)) ≡ r
unfolding scalers scalers_of
scalers_there r h = taken (scalers r) (λ vs. record { count = get_or vs 3 0 }) refl tt (true_T h)

pub scalers_back : (word : ℕ) → word < 2 ^ 32 → is_defining 12 word ≡ true → scalers_fixed word ≡ true → pack (scalers (scalers_of word)) ≡ word
unfolding scalers scalers_of scalers_fixed
scalers_back word l d z =
    let a = defined 12 word d in
    let f = eqb-true (read 26 6 word) 0 z in
    built (scalers (scalers_of word)) word l tt (cc)

-- ---- the scalers' words

pub scaler_there : (r : ScalerWord) → fit (scaler r) ≡ true → scaler_of (pack (scaler r)) ≡ r
unfolding scaler scaler_of
scaler_there r h = taken (scaler r) (λ vs. record { value = get_or vs 0 0 }) refl tt (true_T h)

-- every word is one
pub scaler_back : (word : ℕ) → word < 2 ^ 32 → pack (scaler (scaler_of word)) ≡ word
unfolding scaler scaler_of
scaler_back word l = built (scaler (scaler_of word)) word l tt refl

-- ---- 14 module empty

pub empty_there : (r : ModuleEmpty) → fit (empty r) ≡ true → empty_of (pack (empty r)) ≡ r
unfolding empty empty_of
empty_there r h = taken (empty r) (λ vs. record { slot = get_or vs 2 0 }) refl tt (true_T h)

-- what the undefined bits held is lost, and nothing else
pub empty_back : (word : ℕ) → word < 2 ^ 32 → is_defining 14 word ≡ true → pack (empty (empty_of word)) ≡ word / 2 ^ 22 * 2 ^ 22
unfolding empty empty_of field_at
empty_back word l d =
    let a = defined 14 word d in
    let e = built (defining 14 (bits 26 22 (read 26 22 word) ∷ bits 21 0 (read 21 0 word) ∷ [])) word l tt (cc) in
    omega (arith, e)

-- ---- 15 filler

pub filler_there : (r : Filler) → fit (filler r) ≡ true → filler_of (pack (filler r)) ≡ r
unfolding filler filler_of
filler_there r h = taken (filler r) (λ vs. record { slot = get_or vs 2 0 }) refl tt (true_T h)

-- what the undefined bits held is lost, and nothing else
pub filler_back : (word : ℕ) → word < 2 ^ 32 → is_defining 15 word ≡ true → pack (filler (filler_of word)) ≡ word / 2 ^ 22 * 2 ^ 22
unfolding filler filler_of field_at
filler_back word l d =
    let a = defined 15 word d in
    let e = built (defining 15 (bits 26 22 (read 26 22 word) ∷ bits 21 0 (read 21 0 word) ∷ [])) word l tt (cc) in
    omega (arith, e)
