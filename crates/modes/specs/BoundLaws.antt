-- A channel is at most as long as its mode allows, and that is at most `most_channel` words: by the mode table's rows. Assumes nothing.
use Rattle.std.specs.Prelude.{ℕ, ◌+◌, ◌-◌, ◌*◌, ◌≤◌, ◌≡◌, Bool, true, false, cond, ◌&&◌, List, [], ◌∷◌, eqb, length}
use Rattle.std.proofs.Common.{arith, le_trans, mul-le-mul_right}
use Rattle.settings.specs.declared.Settings.{Settings}
use Rattle.limits.specs.Limits.{most_samples, pairs_of, most_pulse, most_channel}
use Rattle.limits.proofs.LimitsLaws.{most_raw_lem, raw_is, pulse_is, channel_is, pairs_is, pairs_most}
use Rattle.finder.specs.declared.Pulse.{Pulse}
use Rattle.finder.specs.declared.Pulses.{Pulses}
use Rattle.search.specs.Search.{any_over}
use Rattle.finder.specs.Find.{searchable}
use Rattle.finder.specs.FindLaws.{Searched, searched}
use Rattle.finder.specs.RangeLaws.{PulseFits, EachFits, pulses_fit, pulses_count}
use Rattle.pulse.specs.declared.Parts.{Parts}
use Rattle.pulse.specs.Pulse.{set_length, pulse_length}
use Rattle.modes.specs.declared.Common.{Common}
use Rattle.modes.specs.Channel.{mode_table, row_of_mode, parts_of, common_of, pulses_of, parts_most, mode_most}
use Rattle.modes.specs.Inner.{listed, InWindow, pulses_length, channel_length}
use Rattle.modes.specs.InnerLaws.{length_listed}

cond_le : (b : Bool) (x y : ℕ) → x ≤ y → cond b x 0 ≤ cond b y 0
cond_le true x y h = h
cond_le false x y h = omega arith

cond_most : (b : Bool) (y : ℕ) → cond b y 0 ≤ y
cond_most true y = omega arith
cond_most false y = omega arith

-- ---- as its mode allows

pairs_le : (k n : ℕ) → k ≤ n → 1 + pairs_of k ≤ 1 + pairs_of n
pairs_le k n h = omega (arith, pairs_is k, pairs_is n)

-- a longer data set takes no fewer words
set_le : (m : Parts) (k n : ℕ) → k ≤ n → set_length m k ≤ set_length m n
unfolding set_length
set_le m k n h = omega (arith, cond_le m.raw (1 + pairs_of k) (1 + pairs_of n) (pairs_le k n h))

pulse_most : (m : Parts) (n : ℕ) (p : Pulse) → PulseFits n p → pulse_length m p ≤ set_length m n
unfolding pulse_length
pulse_most m n p o = set_le m (p.last + 1 - p.first) n (omega (arith, o.first.0, o.last.1))

pulses_most : (m : Parts) (n : ℕ) (l : List Pulse) → EachFits n l → pulses_length m l ≤ length l * set_length m n
unfolding pulses_length
pulses_most m n [] o = omega arith
pulses_most m n (p ∷ l) o = omega (arith, pulse_most m n p o.0, pulses_most m n l o.1)

pub channel_within : (s : Common) (t : ℕ) (w : List ℕ) → Searched (length w) s.nsa s.limit → channel_length s t w ≤ mode_most s.mode (length w)
unfolding channel_length mode_most
channel_within s t w r =
    let m : Parts = parts_of s.mode in
    let l = pulses_of s t w in
    let few : length l * set_length m (length w) ≤ 3 * set_length m (length w) = mul-le-mul_right (set_length m (length w)) (le_trans (pulses_count w t s.nsb s.nsa s.limit 0) r.few) in
    omega (arith, few, fewer m.window (any_over w t) (1 + pairs_of (length w)), pulses_most m (length w) l (pulses_fit w t s.nsb s.nsa s.limit 0 r.some))
  where
    fewer : (x y : Bool) (n : ℕ) → cond (x && y) n 0 ≤ cond x n 0
    fewer true true n = omega arith
    fewer true false n = omega arith
    fewer false y n = omega arith

-- a longer window takes no fewer words
parts_le : (m : Parts) (k n : ℕ) → k ≤ n → parts_most m k ≤ parts_most m n
parts_le m k n h = omega (arith, set_le m k n h, cond_le m.window (1 + pairs_of k) (1 + pairs_of n) (pairs_le k n h))

pub mode_le : (mode k n : ℕ) → k ≤ n → mode_most mode k ≤ mode_most mode n
unfolding mode_most
mode_le mode k n h = parts_le (parts_of mode) k n h

-- ---- whatever the mode

AllMost : List (ℕ × Parts) → Type 0
AllMost [] = Unit {0}
AllMost (r ∷ rs) = (parts_most r.1 most_samples ≤ most_channel) × AllMost rs

row_most : (mode : ℕ) (rs : List (ℕ × Parts)) → AllMost rs → parts_most (row_of_mode rs mode) most_samples ≤ most_channel
unfolding AllMost
row_most mode [] h = unfold set_length in omega (arith, channel_is)
row_most mode (r ∷ rs) h = pick (eqb mode r.0) h.0 (row_most mode rs h.1)
  where
    pick : (b : Bool) → parts_most r.1 most_samples ≤ most_channel → parts_most (row_of_mode rs mode) most_samples ≤ most_channel → parts_most (cond b r.1 (row_of_mode rs mode)) most_samples ≤ most_channel
    pick true x y = x
    pick false x y = y

table_most : AllMost mode_table
unfolding AllMost set_length
table_most =
    let most = channel_is in
    let raw = most_raw_lem in
    let pairs = raw_is in
    let few = pairs_most most_samples (omega arith) in
    (omega arith, (omega arith, (omega arith, (omega arith, (omega arith, (omega arith, tt))))))

-- of the pulses in the three places
pub found_most : (m : Parts) (n : ℕ) (found : Pulses) → n ≤ most_samples → InWindow n found → pulses_length m (listed found) ≤ 3 * most_pulse
unfolding set_length
found_most m n found h r =
    let few : length (listed found) * set_length m n ≤ 3 * set_length m n = mul-le-mul_right (set_length m n) (rw (length_listed found r.stored) r.few) in
    omega (
      arith,
      few,
      pulses_most m n (listed found) r.each,
      pulse_is,
      raw_is,
      pairs_most n h,
      cond_most m.raw (1 + pairs_of n),
      cond_most m.integral 1,
      cond_most m.time 1,
      cond_most m.pedestal 1,
    )

pub mode_most_lem : (mode n : ℕ) → n ≤ most_samples → mode_most mode n ≤ most_channel
unfolding mode_most parts_of
mode_most_lem mode n h = le_trans (parts_le (row_of_mode mode_table mode) n most_samples h) (row_most mode mode_table table_most)

-- a channel is at most 753 words
pub channel_most : (s : Settings) (t : ℕ) (w : List ℕ) → searchable (length w) s.nsa s.limit ≡ true → channel_length (common_of s) t w ≤ most_channel
channel_most s t w ok =
    let r = searched _ _ _ ok in
    le_trans (channel_within (common_of s) t w r) (mode_most_lem s.mode (length w) r.short)
