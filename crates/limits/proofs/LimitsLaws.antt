-- What is known of the largest counts: their numbers, and how each follows from the one before. Assumes nothing.
use Rattle.std.specs.Prelude.{ℕ, ◌+◌, ◌*◌, ◌/◌, ◌≤◌, ◌≡◌, refl}
use Rattle.std.proofs.Common.{arith}
use Rattle.limits.specs.Limits.{most_samples, pairs_of, most_pairs, most_raw, most_pulse, most_channel, channels, tail_words, most_event}

-- ---- the numbers, as the code has them

pub most_samples_lem : most_samples ≡ 500
unfolding most_samples
most_samples_lem = refl

pub most_pairs_lem : most_pairs ≡ 250
unfolding most_samples pairs_of most_pairs
most_pairs_lem = refl

pub most_raw_lem : most_raw ≡ 251
unfolding most_raw
most_raw_lem = rw most_pairs_lem

pub most_pulse_lem : most_pulse ≡ 254
unfolding most_pulse
most_pulse_lem = rw most_raw_lem

pub most_channel_lem : most_channel ≡ 753
unfolding most_channel
most_channel_lem = rw most_raw_lem

pub tail_words_lem : tail_words ≡ 19
unfolding tail_words
tail_words_lem = refl

pub most_event_lem : most_event ≡ 12070
unfolding most_event
most_event_lem = rw (most_channel_lem, tail_words_lem)

-- ---- how they follow

pub raw_is : most_raw ≡ 1 + most_pairs
unfolding most_raw
raw_is = refl

pub pulse_is : most_pulse ≡ most_raw + 3
unfolding most_pulse
pulse_is = refl

pub channel_is : most_channel ≡ 3 * most_raw
unfolding most_channel
channel_is = refl

pub event_is : most_event ≡ 3 + channels * most_channel + tail_words
unfolding most_event
event_is = refl

-- ---- pairs

pub pairs_is : (n : ℕ) → pairs_of n ≡ (n + 1) / 2
unfolding pairs_of
pairs_is n = refl

pub pairs_most : (n : ℕ) → n ≤ most_samples → pairs_of n ≤ most_pairs
unfolding pairs_of most_pairs
pairs_most n h = omega arith
