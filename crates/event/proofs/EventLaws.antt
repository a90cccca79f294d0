-- The posted channels, in turn. Assumes nothing.
use Rattle.std.specs.Prelude.{ℕ, zero, suc, ◌+◌, ◌*◌, ◌/◌, ◌%◌, ◌^◌, ◌≤◌, ◌<◌, ◌≡◌, refl, Bool, true, false, cond, List, [], ◌∷◌, ◌++◌, length, get_or, drop, leb}
use Rattle.std.proofs.Common.{ap₂, ◌∙◌, arith, le_trans, mul-le-mul_right, length-append, length-take, drop_of_length-le}
use Rattle.ground.specs.Splice.{Written}
use Rattle.ground.specs.WritingLaws.{Left}
use Rattle.settings.specs.declared.Settings.{Settings}
use Rattle.limits.specs.Limits.{most_channel, channels, tail_words, most_event}
use Rattle.limits.proofs.LimitsLaws.{event_is}
use Rattle.settings.specs.Ranges.{settings_ok}
use Rattle.settings.specs.RangesLaws.{settings_in_range}
use Rattle.finder.specs.FindLaws.{searched, range_searches}
use Rattle.items.specs.Items.{words_of, item_if}
use Rattle.items.specs.declared.Item.{Item}
use Rattle.items.specs.declared.Item.TheVariants as I
use Rattle.items.specs.ItemsLaws.{loop_room, loop_less, loop_none}
use Rattle.modes.specs.Channel.{common_of, channel_items, mode_most}
use Rattle.modes.specs.InnerLaws.{length_channel, any_channel}
use Rattle.modes.specs.BoundLaws.{channel_within, mode_le, mode_most_lem}
use Rattle.rows.specs.Rows.{row}
use Rattle.rows.specs.RowsLaws.{marks_step}
use Rattle.event.specs.Event.{time_items, channels_items, event_items}
use Rattle.event.specs.Inner.{event_length}

-- ---- channels written in turn

-- what channel c writes
abbrev pub channel_at : Settings → List ℕ → List Bool → ℕ → List Item
channel_at s store posted c = cond (get_or posted c false) (channel_items (common_of s) (get_or s.thresholds c 0) c (row s.nw c store)) []

pub channels_step : (s : Settings) (store : List ℕ) (posted : List Bool) (c : ℕ) → c < length posted
    → channels_items s store c (drop c posted) ≡ channel_at s store posted c ++ channels_items s store (c + 1) (drop (c + 1) posted)
unfolding channels_items
channels_step s store posted c h = rw (marks_step posted c h)

pub channels_end : (s : Settings) (store : List ℕ) (posted : List Bool) (c : ℕ) → length posted ≤ c → channels_items s store c (drop c posted) ≡ []
unfolding channels_items
channels_end s store posted c h = rw (drop_of_length-le posted h)

module _ (buf₀ : List ℕ) (at : ℕ) (s : Settings) (store : List ℕ) (posted : List Bool)
    (fits : at + length (channels_items s store 0 posted) ≤ length buf₀) where
  -- the channels from c on are still to be written, from place k of buf
  abbrev pub ToCome : List ℕ → ℕ → ℕ → Type 0
  ToCome buf k c = Left buf₀ at (words_of (channels_items s store 0 posted)) buf k (words_of (channels_items s store c (drop c posted)))

  pub channel_room : (buf : List ℕ) (k c : ℕ) → c < length posted → ToCome buf k c → k + length (channel_at s store posted c) ≤ length buf
  channel_room buf k c h l =
      loop_room buf₀ at (channels_items s store 0 posted) fits buf k (channel_at s store posted c) (channels_items s store (c + 1) (drop (c + 1) posted))
      (rw (channels_step s store posted c h) at l)

  pub channel_less : (buf : List ℕ) (k c k' : ℕ) (buf' : List ℕ) → Written buf k (words_of (channel_at s store posted c)) k' buf' → c < length posted
      → ToCome buf k c → ToCome buf' k' (c + 1)
  channel_less buf k c k' buf' w h l =
      loop_less buf₀ at (channels_items s store 0 posted) fits buf k (channel_at s store posted c) (channels_items s store (c + 1) (drop (c + 1) posted)) k' buf'
      (rw (channels_step s store posted c h) at l) w

  pub channel_none : (buf : List ℕ) (k c : ℕ) → length posted ≤ c → ToCome buf k c → Written buf₀ at (words_of (channels_items s store 0 posted)) k buf
  channel_none buf k c h l = loop_none buf₀ at (channels_items s store 0 posted) fits buf k (rw (channels_end s store posted c h) at l)

-- ---- channels counted in turn

-- a channel's number does not count
length_posted : (s : Settings) (t c : ℕ) (w : List ℕ) (b : Bool) → settings_ok s ≡ true
    → length (cond b (channel_items (common_of s) t c w) []) ≡ cond b (length (channel_items (common_of s) t 0 w)) 0
length_posted s t c w true ok = any_channel (common_of s) t c 0 w (settings_in_range s ok).nsa.0
length_posted s t c w false ok = refl

module _ (s : Settings) (store : List ℕ) (posted : List Bool) (ok : settings_ok s ≡ true) (n c : ℕ)
    (so_far : n + length (channels_items s store c (drop c posted)) ≡ length (channels_items s store 0 posted)) where
  pub count_turn : (r : ℕ) → r ≡ cond (get_or posted c false) (length (channel_items (common_of s) (get_or s.thresholds c 0) 0 (row s.nw c store))) 0 → c < length posted
      → n + r + length (channels_items s store (c + 1) (drop (c + 1) posted)) ≡ length (channels_items s store 0 posted)
  count_turn r e h =
      let k = rw (channels_step s store posted c h) at so_far in
      let p = length_posted s (get_or s.thresholds c 0) c (row s.nw c store) (get_or posted c false) ok in
      omega (arith, k, e, p, length-append (channel_at s store posted c) (channels_items s store (c + 1) (drop (c + 1) posted)))

  pub count_end : length posted ≤ c → n ≡ length (channels_items s store 0 posted)
  count_end h = let k = rw (channels_end s store posted c h) at so_far in omega (arith, k)

-- a posted channel is no longer than the longest in its mode
posted_most : (s : Settings) (t : ℕ) (w : List ℕ) (b : Bool) → settings_ok s ≡ true → length w ≤ s.nw
    → cond b (length (channel_items (common_of s) t 0 w)) 0 ≤ mode_most s.mode s.nw
posted_most s t w true ok h =
    let r = settings_in_range s ok in
    let can = searched (length w) s.nsa s.limit (range_searches s (length w) r (le_trans h r.nw.1)) in
    rw (length_channel (common_of s) t 0 w r.nsa.0) (le_trans (channel_within (common_of s) t w can) (mode_le s.mode (length w) s.nw h))
posted_most s t w false ok h = omega arith

-- ---- an event

pub length_times : (times time : ℕ) → times ≤ 2 → length (time_items times time) ≡ times
unfolding time_items
length_times times time h =
    length-append (item_if (leb 1 times) (I.Clock (record { middle = time / 2 ^ 24 % 2 ^ 3; low = time % 2 ^ 24 }))) (item_if (leb 2 times) (I.ClockHigh (record { high = time / 2 ^ 24 })))
    ∙ ap₂ (λ (a b : ℕ). a + b) (one (leb 1 times) _) (one (leb 2 times) _)
    ∙ by times h
  where
    one : (b : Bool) (x : Item) → length (item_if b x) ≡ cond b 1 0
    one true x = refl
    one false x = refl

    by : (n : ℕ) → n ≤ 2 → cond (leb 1 n) 1 0 + cond (leb 2 n) 1 0 ≡ n
    by zero h = refl
    by (suc zero) h = refl
    by (suc (suc zero)) h = refl
    by (suc (suc (suc n))) h = absurd (omega arith)

pub length_event : (s : Settings) (number time : ℕ) (posted : List Bool) (store : List ℕ) → settings_ok s ≡ true
    → length (event_items s number time posted store) ≡ event_length s posted store
unfolding event_items event_length
length_event s number time posted store ok =
    omega (arith, length-append (time_items s.times time) (channels_items s store 0 posted), length_times s.times time (settings_in_range s ok).times)

length_channels : (s : Settings) (store : List ℕ) (c : ℕ) (posted : List Bool) → settings_ok s ≡ true
    → length (channels_items s store c posted) ≤ length posted * mode_most s.mode s.nw
unfolding channels_items row
length_channels s store c [] ok = omega arith
length_channels s store c (m ∷ ms) ok =
    let w = row s.nw c store in
    let short : length w ≤ s.nw = simp length-take (omega arith) in
    let t = get_or s.thresholds c 0 in
    omega (
      arith,
      posted_most s t w m ok short,
      length_posted s t c w m ok,
      length_channels s store (c + 1) ms ok,
      length-append (cond m (channel_items (common_of s) t c w) []) (channels_items s store (c + 1) ms),
    )

pub channels_most : (s : Settings) (posted : List Bool) (store : List ℕ) → settings_ok s ≡ true → length posted ≤ channels
    → length (channels_items s store 0 posted) ≤ channels * most_channel
channels_most s posted store ok h =
    omega (arith, length_channels s store 0 posted ok, mul-le-mul_right (mode_most s.mode s.nw) h, mode_most_lem s.mode s.nw (settings_in_range s ok).nw.1)

-- no event is longer in its mode
pub event_within : (s : Settings) (posted : List Bool) (store : List ℕ) → settings_ok s ≡ true → length posted ≤ channels
    → event_length s posted store ≤ 3 + channels * mode_most s.mode s.nw
unfolding event_length
event_within s posted store ok h =
    omega (arith, length_channels s store 0 posted ok, mul-le-mul_right (mode_most s.mode s.nw) h, (settings_in_range s ok).times)

-- an event is at most 12,070 words with its scalers, and at least its header and time words
pub event_most : (s : Settings) (posted : List Bool) (store : List ℕ) → settings_ok s ≡ true → length posted ≤ channels → event_length s posted store + tail_words ≤ most_event
unfolding event_length
event_most s posted store ok h = omega (arith, event_is, channels_most s posted store ok h, (settings_in_range s ok).times)

pub event_least : (s : Settings) (posted : List Bool) (store : List ℕ) → 1 + s.times ≤ event_length s posted store
unfolding event_length
event_least s posted store = omega arith
