-- Demand 3, what is said: "If the event then closes, a channel's words depend on its own posted window, its own threshold and the common settings, and
-- on nothing in other channels or left in the store before. A channel with no posted window has no words."; 02: "Type 12 and its words are the event's and
-- no channel's in demand 3, which holds with the latched counts as one more common input." Assumes nothing.
use Rattle.std.specs.Prelude.{ℕ, zero, suc, ◌-◌, ◌<◌, ◌≡◌, Bool, true, false, ◌&&◌, cond, List, [], ◌∷◌, ◌++◌, eqb, length, get_or, take, drop}
use Rattle.ground.specs.Tests.{one_of}
use Rattle.fields.specs.Word.{read}
use Rattle.fields.specs.Tag.{is_defining, is_continuation}
use Rattle.settings.specs.declared.Settings.{Settings}
use Rattle.modes.specs.Channel.{common_of}
use Rattle.refusals.specs.Refusal.{told as number_told}
use Rattle.state.specs.declared.State.{State}
use Rattle.writer.specs.Answer.{Answer}
use Rattle.writer.specs.Calls.{OpenEventSays}
use Rattle.closing.specs.Closing.{CloseSays}
use Rattle.owners.specs.Order.{Bench, Post, Aside, PostRun, Apart}

-- ---- one event, by the contracts of its calls

-- "In one event, just opened": the state is one that an accepted opening gave; its marks and counts are as many as the state's arrays hold
pub record JustOpened (s : State) : Type 0 where
  pub before : State
  pub number : ℕ
  pub time : ℕ
  pub answer : Answer
  pub says : OpenEventSays before number time answer
  pub accepted : number_told answer.refusal ≡ 0
  pub sixteen : length before.posted ≡ 16
  pub counts : length before.scalers.counts ≡ 16
  pub eighteen : length before.scalers.latched ≡ 18
  pub gave : s ≡ answer.state

-- the event opened, a store lent, whatever it holds; posts for different channels, calls that count between any two calls; an accepted close of what they
-- leave, its scalers asked for or not
pub record EventRun : Type 0 where
  pub start : Bench
  pub opened : JustOpened start.state
  pub posts : List Post
  pub apart : Apart posts
  pub answers : List (Post × ℕ)
  pub asides : List Aside
  pub told : List ℕ
  pub end : Bench
  pub posted : PostRun start posts answers asides told end
  pub words : List ℕ
  pub asked : Bool
  pub answer : Answer
  pub words' : List ℕ
  pub says : CloseSays end.state end.store words asked answer words'
  pub accepted : number_told answer.refusal ≡ 0

abbrev pub settings_in : EventRun → Settings
settings_in e = e.start.state.settings

-- the latched counts when the event closes
abbrev pub latched_in : EventRun → List ℕ
latched_in e = e.end.state.scalers.latched

-- channel c's posted window: that of its post with number 0; none where there is none
unfoldable pub posted_window : List (Post × ℕ) → ℕ → List (List ℕ)
posted_window [] c = []
posted_window (a ∷ ns) c = cond (eqb a.0.channel c && eqb a.1 0) (a.0.window ∷ []) (posted_window ns c)

-- ---- a channel's words

-- the words of the buffer that the close wrote: behind those counted before it, up to those counted after it
abbrev pub closed_words : EventRun → List ℕ
closed_words e = take (e.answer.state.words - e.end.state.words) (drop e.end.state.words e.words')

-- the channel stands in bits 26-23 of types 4, 6, 7, 8 and 10
abbrev pub channel_types : List ℕ
channel_types = 4 ∷ 6 ∷ 7 ∷ 8 ∷ 10 ∷ []

abbrev pub names : ℕ → ℕ → Bool
names c word = one_of (read 30 27 word) channel_types && eqb (read 26 23 word) c

-- whether a word is channel c's: a defining word that names c; a continuation goes with the defining word before it, which is c's or not (`own`)
unfoldable pub is_own : ℕ → Bool → ℕ → Bool
is_own c own word = cond (is_continuation word) own (names c word)

-- the scaler words behind a word: as many as bits 5-0 of type 12 state; none behind another
unfoldable pub to_come : ℕ → ℕ
to_come word = cond (is_defining 12 word) (read 5 0 word) 0

-- channel c's of these words, behind a word that is c's or not (`own`); the first n are scaler words, whatever their bits: "Type 12 and its words are the
-- event's and no channel's"
unfoldable pub of_channel : ℕ → Bool → ℕ → List ℕ → List ℕ
of_channel c own n [] = []
of_channel c own zero (w ∷ ws) = cond (is_own c own w) (w ∷ []) [] ++ of_channel c (is_own c own w) (to_come w) ws
of_channel c own (suc n) (w ∷ ws) = of_channel c false n ws

-- channel c's words of the event
abbrev pub words_for : EventRun → ℕ → List ℕ
words_for e c = of_channel c false 0 (closed_words e)

-- ---- events alike

-- what fixes an event's words: the common settings, its number and time, each channel's own threshold and posted window; "with the latched counts as one more
-- common input", where they are asked for
pub record Alike (e f : EventRun) : Type 0 where
  pub common : common_of (settings_in e) ≡ common_of (settings_in f)
  pub slot : (settings_in e).slot ≡ (settings_in f).slot
  pub times : (settings_in e).times ≡ (settings_in f).times
  pub number : e.opened.number ≡ f.opened.number
  pub time : e.opened.time ≡ f.opened.time
  pub thresholds : (c : ℕ) → c < 16 → get_or (settings_in e).thresholds c 0 ≡ get_or (settings_in f).thresholds c 0
  pub windows : (c : ℕ) → c < 16 → posted_window e.answers c ≡ posted_window f.answers c
  pub asked : e.asked ≡ f.asked
  pub latched : e.asked ≡ true → latched_in e ≡ latched_in f
