-- Both round trips of each record type, a line from the one law over layouts. Assumes nothing.
use Rattle.std.specs.Prelude.{ℕ, ◌^◌, ◌<◌, ◌≡◌, refl, true, get_or}
use Rattle.std.proofs.Common.{eqb-true}
use Rattle.fields.specs.Word.{read, pack, fit}
use Rattle.fields.proofs.WordLaws.{taken, built, true_T}
use Rattle.fields.specs.Tag.{is_defining}
use Rattle.fields.specs.TagLaws.{defined}
use Rattle.measures.specs.declared.integral.PulseIntegral.{PulseIntegral}
use Rattle.measures.specs.declared.time.PulseTime.{PulseTime}
use Rattle.measures.specs.declared.pedestal.PulsePedestal.{PulsePedestal}
use Rattle.measures.specs.Words.{integral, integral_of, time, time_of, time_fixed, pedestal, pedestal_of}

-- ---- 7 integral

pub integral_there : (r : PulseIntegral) → fit (integral r) ≡ true → integral_of (pack (integral r)) ≡ r
unfolding integral integral_of
integral_there r h = taken (integral r) (λ vs. record { channel = get_or vs 2 0; pulse = get_or vs 3 0; quality = get_or vs 4 0; sum = get_or vs 5 0 }) refl tt (true_T h)

pub integral_back : (word : ℕ) → word < 2 ^ 32 → is_defining 7 word ≡ true → pack (integral (integral_of word)) ≡ word
unfolding integral integral_of
integral_back word l d =
    let a = defined 7 word d in
    built (integral (integral_of word)) word l tt (cc)

-- ---- 8 time

pub time_there : (r : PulseTime) → fit (time r) ≡ true → time_of (pack (time r)) ≡ r
unfolding time time_of
time_there r h = taken (time r) (λ vs. record { channel = get_or vs 2 0; pulse = get_or vs 3 0; quality = get_or vs 4 0; coarse = get_or vs 6 0; fine = get_or vs 7 0 }) refl tt (true_T h)

pub time_back : (word : ℕ) → word < 2 ^ 32 → is_defining 8 word ≡ true → time_fixed word ≡ true → pack (time (time_of word)) ≡ word
unfolding time time_of time_fixed
time_back word l d z =
    let a = defined 8 word d in
    let f = eqb-true (read 18 15 word) 0 z in
    built (time (time_of word)) word l tt (cc)

-- ---- 10 pedestal

pub pedestal_there : (r : PulsePedestal) → fit (pedestal r) ≡ true → pedestal_of (pack (pedestal r)) ≡ r
unfolding pedestal pedestal_of
pedestal_there r h = taken (pedestal r) (λ vs. record { channel = get_or vs 2 0; pulse = get_or vs 3 0; vmin = get_or vs 4 0; vpeak = get_or vs 5 0 }) refl tt (true_T h)

pub pedestal_back : (word : ℕ) → word < 2 ^ 32 → is_defining 10 word ≡ true → pack (pedestal (pedestal_of word)) ≡ word
unfolding pedestal pedestal_of
pedestal_back word l d =
    let a = defined 10 word d in
    built (pedestal (pedestal_of word)) word l tt (cc)
