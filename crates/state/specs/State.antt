-- The state of a run and its ranges: document 01, "One event, one store"; what is counted stands beside it (document 02). Assumes nothing.
use Rattle.std.specs.Prelude.{ℕ, ◌+◌, ◌-◌, ◌*◌, ◌^◌, Bool, true, false, not, ◌&&◌, cond, List, [], ◌∷◌, replicate, eqb, leb, ltb}
use Rattle.ground.specs.Tests.{all_of}
use Rattle.limits.specs.Limits.{most_event}
use Rattle.settings.specs.declared.Settings.{Settings}
use Rattle.settings.specs.Ranges.{settings_ok}
use Rattle.scalers.specs.declared.Scalers.{Scalers}
use Rattle.scalers.specs.Scalers.{group_frames, nothing_counted, triggered}
use Rattle.state.specs.declared.Phase.{Phase}
use Rattle.state.specs.declared.Phase.TheVariants.{Idle, Block, Event}
use Rattle.state.specs.declared.State.{State}

-- ---- refusal 8's ranges

-- "block number over 1,023, events not 1-255"
unfoldable pub block_ok : ℕ → ℕ → Bool
block_ok number events = all_of (leb number 1023 ∷ leb 1 events ∷ leb events 255 ∷ [])

-- "event number over 4,194,303, time over 2^48 - 1"
unfoldable pub event_ok : ℕ → ℕ → Bool
event_ok number time = all_of (leb number 4194303 ∷ leb time (2 ^ 48 - 1) ∷ [])

-- ---- the words counted

-- a block's header and any parameters word
abbrev pub head_words : Settings → ℕ
head_words s = cond s.parameters 2 1

-- an event's header and time words
abbrev pub least_event : Settings → ℕ
least_event s = 1 + s.times

-- "words at least the header words plus, for each event closed, its header and time words, and at most 2 + 12,051 x events closed"; 02: "An event is then at
-- most 12,070 words in the state's bound."
unfoldable pub words_ok : ℕ → ℕ → ℕ → ℕ → Bool
words_ok head event closed words = leb (head + closed * event) words && leb words (2 + closed * most_event)

-- ---- the ranges

-- no channel is posted
unfoldable pub no_marks : List Bool → Bool
no_marks [] = true
no_marks (m ∷ ms) = not m && no_marks ms

-- "In a block: block number and events to come within 8's ranges; .. words .."
abbrev pub in_block_ok : State → Bool
in_block_ok s = block_ok s.block s.events && words_ok (head_words s.settings) (least_event s.settings) s.closed s.words

-- "Idle: all else is zero."
-- "events closed at most the events to come, fewer while an event is open"
-- "Event number and time are within 8's ranges while an event is open; they and the marks are zero otherwise."
abbrev pub phase_tests : Phase → State → List Bool
phase_tests Idle s =
    eqb s.block 0 ∷ eqb s.events 0 ∷ eqb s.event 0 ∷ eqb s.time 0 ∷ no_marks s.posted ∷ eqb s.closed 0 ∷ eqb s.words 0 ∷ []
phase_tests Block s = in_block_ok s ∷ leb s.closed s.events ∷ eqb s.event 0 ∷ eqb s.time 0 ∷ no_marks s.posted ∷ []
phase_tests Event s = in_block_ok s ∷ ltb s.closed s.events ∷ event_ok s.event s.time ∷ []

unfoldable pub phase_ok : Phase → State → Bool
phase_ok p s = all_of (phase_tests p s)

-- 02: "The state holds all this beside 01's fields, in every phase and kept through idle; its part group is under 512."
unfoldable pub scalers_ok : Scalers → Bool
scalers_ok c = ltb c.part group_frames

-- what is no matter of the phase: "settings as above", and what is counted
unfoldable pub common_ok : State → Bool
common_ok s = settings_ok s.settings && scalers_ok s.scalers

-- the state keeps its ranges: these, and those of its phase
unfoldable pub state_ok : State → Bool
state_ok s = common_ok s && phase_ok s.phase s

abbrev pub is_idle : Phase → Bool
is_idle Idle = true
is_idle Block = false
is_idle Event = false

abbrev pub is_block : Phase → Bool
is_block Idle = false
is_block Block = true
is_block Event = false

abbrev pub is_event : Phase → Bool
is_event Idle = false
is_event Block = false
is_event Event = true

-- ---- the states that calls give

-- idle: all but the settings and what is counted is zero
unfoldable pub idle : Settings → Scalers → State
idle s c = record { settings = s; phase = Idle; block = 0; events = 0; event = 0; time = 0; posted = replicate 16 false; closed = 0; words = 0; scalers = c }

-- "returns no state": settings out of range stand for it, so that every call refuses it with 10
unfoldable pub blank : State
blank =
    idle
    (record { mode = 0; nw = 0; pl = 0; nsb = 0; nsa = 0; limit = 0; thresholds = replicate 16 0; slot = 0; parameters = false; times = 0; multiple = 0 })
    nothing_counted

-- a block is open
unfoldable pub with_block : State → ℕ → ℕ → ℕ → State
with_block s number events words =
    record {
      settings = s.settings;
      phase = Block;
      block = number;
      events = events;
      event = 0;
      time = 0;
      posted = replicate 16 false;
      closed = 0;
      words = words;
      scalers = s.scalers;
    }

-- an event is open: 02, "a trigger counter counts opened events"
unfoldable pub with_event : State → ℕ → ℕ → State
with_event s number time =
    record {
      settings = s.settings;
      phase = Event;
      block = s.block;
      events = s.events;
      event = number;
      time = time;
      posted = s.posted;
      closed = s.closed;
      words = s.words;
      scalers = triggered s.scalers;
    }

-- a channel is posted
unfoldable pub with_mark : State → List Bool → State
with_mark s posted =
    record {
      settings = s.settings;
      phase = s.phase;
      block = s.block;
      events = s.events;
      event = s.event;
      time = s.time;
      posted = posted;
      closed = s.closed;
      words = s.words;
      scalers = s.scalers;
    }

-- the event is closed, at the words then counted
unfoldable pub with_closed : State → ℕ → State
with_closed s words =
    record {
      settings = s.settings;
      phase = Block;
      block = s.block;
      events = s.events;
      event = 0;
      time = 0;
      posted = replicate 16 false;
      closed = s.closed + 1;
      words = words;
      scalers = s.scalers;
    }

-- frames, a latch or a reset: only what is counted changes
unfoldable pub with_scalers : State → Scalers → State
with_scalers s c =
    record {
      settings = s.settings;
      phase = s.phase;
      block = s.block;
      events = s.events;
      event = s.event;
      time = s.time;
      posted = s.posted;
      closed = s.closed;
      words = s.words;
      scalers = c;
    }

-- a proof that computes opens this file and what it leans on by one name
unfoldable pub all_open : Unit {0}
unfolding block_ok event_ok words_ok no_marks phase_ok scalers_ok common_ok state_ok idle blank with_block with_event with_mark with_closed with_scalers Rattle.ground.specs.Tests.all_open Rattle.limits.specs.Limits.all_open Rattle.settings.specs.Ranges.all_open Rattle.scalers.specs.Scalers.all_open
all_open = tt
