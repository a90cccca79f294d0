-- Where each number of settings and of a state stands, and which numbers are settings, which a state. Assumes nothing.
use Rattle.std.specs.Prelude.{ℕ, ◌+◌, Bool, true, false, ◌&&◌, List, [], ◌∷◌, ◌++◌, leb, length, take, drop, replicate}

-- ---- where the settings stand, and the greatest number of each

abbrev pub mode_at : ℕ
mode_at = 0

abbrev pub nw_at : ℕ
nw_at = 1

abbrev pub pl_at : ℕ
pl_at = 2

abbrev pub nsb_at : ℕ
nsb_at = 3

abbrev pub nsa_at : ℕ
nsa_at = 4

abbrev pub limit_at : ℕ
limit_at = 5

abbrev pub slot_at : ℕ
slot_at = 6

abbrev pub parameters_at : ℕ
parameters_at = 7

abbrev pub times_at : ℕ
times_at = 8

abbrev pub multiple_at : ℕ
multiple_at = 9

-- the first of the sixteen thresholds
abbrev pub thresholds_at : ℕ
thresholds_at = 10

-- the greatest number of a 32-bit field, and of a 64-bit one
abbrev pub most32 : ℕ
most32 = 4294967295

abbrev pub most64 : ℕ
most64 = 18446744073709551615

-- of each settings field, in the order of their places
abbrev pub settings_limits : List ℕ
settings_limits =
    most32 ∷ most64 ∷ most32 ∷ most64 ∷ most64 ∷ most64 ∷ most32 ∷ 1 ∷ most32 ∷ most32 ∷ replicate 16 most32

-- how many they are
abbrev pub settings_count : ℕ
settings_count = length settings_limits

-- ---- the same of a state's own numbers, the head

abbrev pub phase_at : ℕ
phase_at = 0

abbrev pub block_at : ℕ
block_at = 1

abbrev pub events_at : ℕ
events_at = 2

abbrev pub event_at : ℕ
event_at = 3

abbrev pub trigger_time_at : ℕ
trigger_time_at = 4

abbrev pub marks_at : ℕ
marks_at = 5

abbrev pub closed_at : ℕ
closed_at = 6

abbrev pub words_at : ℕ
words_at = 7

abbrev pub head_limits : List ℕ
head_limits = 2 ∷ most32 ∷ most32 ∷ most32 ∷ most64 ∷ 65535 ∷ most32 ∷ most64 ∷ []

abbrev pub head_count : ℕ
head_count = length head_limits

-- ---- what is counted, behind the head: the channels' counts, timer, triggers, part group, who was over, and the eighteen latched counts

abbrev pub counts_at : ℕ
counts_at = 8

abbrev pub timer_at : ℕ
timer_at = 24

abbrev pub triggers_at : ℕ
triggers_at = 25

abbrev pub part_at : ℕ
part_at = 26

abbrev pub over_at : ℕ
over_at = 27

abbrev pub latched_at : ℕ
latched_at = 28

abbrev pub scaler_limits : List ℕ
scaler_limits = replicate 19 most32 ++ (65535 ∷ replicate 18 most32)

abbrev pub scaler_count : ℕ
scaler_count = length scaler_limits

-- all that stands before the settings, which stand last in a state
abbrev pub front_limits : List ℕ
front_limits = head_limits ++ scaler_limits

abbrev pub front_count : ℕ
front_count = length front_limits

abbrev pub state_count : ℕ
state_count = front_count + settings_count

-- ---- which numbers are settings, which are a state

-- as many numbers as limits, and each at most its limit
unfoldable pub held_in : List ℕ → List ℕ → Bool
held_in [] [] = true
held_in [] (n ∷ ns) = false
held_in (m ∷ ms) [] = false
held_in (m ∷ ms) (n ∷ ns) = leb n m && held_in ms ns

-- settings: each number held by its field
unfoldable pub is_settings : List ℕ → Bool
is_settings n = held_in settings_limits n

-- a state: its head and what is counted, then the settings
unfoldable pub is_state : List ℕ → Bool
is_state n = held_in front_limits (take front_count n) && is_settings (drop front_count n)
