-- The largest counts of document 01, and of 02 with scalers: one is given, the others follow. Assumes nothing.
use Rattle.std.specs.Prelude.{ℕ, ◌+◌, ◌*◌, ◌/◌}

-- "NW, samples per window, 1 to 500"
unfoldable pub most_samples : ℕ
most_samples = 500

-- "Type 4 has ceil(width/2) pairs"
unfoldable pub pairs_of : ℕ → ℕ
pairs_of samples = (samples + 1) / 2

-- "type 6 has 1 to 250": a data set lies in its window
unfoldable pub most_pairs : ℕ
most_pairs = pairs_of most_samples

-- a window, or a pulse's data set: a word and its pairs
unfoldable pub most_raw : ℕ
most_raw = 1 + most_pairs

-- a pulse, whatever is written of it: its data set, integral, time and pedestal
unfoldable pub most_pulse : ℕ
most_pulse = most_raw + 3

-- a channel: "Pulse limit 1 to 3", and no mode writes more than data sets of three, or a window with less behind it
unfoldable pub most_channel : ℕ
most_channel = 3 * most_raw

-- "The host lends the store, 16 rows"
abbrev pub channels : ℕ
channels = 16

-- 02: "Latch copies eighteen counts at once": those of the channels, the timer, the triggers
abbrev pub latched_counts : ℕ
latched_counts = channels + 2

-- 02: "On request a closed event ends with type 12 .. and the latched words"
unfoldable pub tail_words : ℕ
tail_words = 1 + latched_counts

-- 02: "An event is then at most 12,070 words in the state's bound.": its header, two time words, sixteen channels, its scalers
unfoldable pub most_event : ℕ
most_event = 3 + channels * most_channel + tail_words

-- a proof that computes opens this file by one name
unfoldable pub all_open : Unit {0}
unfolding most_samples pairs_of most_pairs most_raw most_pulse most_channel tail_words most_event
all_open = tt
