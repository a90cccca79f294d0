-- Demands 1 to 3 from C, what is said: runs of the C calls, over the numbers that the host lends; and when a C call is the library's. Assumes nothing.
use Rattle.std.specs.Prelude.{ℕ, ◌*◌, ◌-◌, ◌^◌, ◌≤◌, ◌<◌, ◌≡◌, Bool, true, false, List, [], ◌∷◌, ◌++◌, get_or, take, drop}
use Rattle.ground.specs.Splice.{splice}
use Rattle.settings.specs.declared.Settings.{Settings}
use Rattle.refusals.specs.Refusal.{told as number_told}
use Rattle.std.specs.declared.result.Result.{Result}
use Rattle.refusals.specs.declared.Refusal.{Refusal}
use Rattle.finder.specs.declared.Pulses.{Pulses}
use Rattle.find.specs.Call.{found_in, FindSays}
use Rattle.items.specs.declared.Item.{Item}
use Rattle.writer.specs.Answer.{Answer}
use Rattle.writer.specs.Answer.{Finished}
use Rattle.writer.specs.Calls.{SetUpSays, FinishSays}
use Rattle.block.specs.Block.{block_items}
use Rattle.refusing.specs.Tables.{closing_items}
use Rattle.places.specs.Places.{is_state}
use Rattle.numbers.specs.Numbers.{settings_from, state_from}
use Rattle.hostfind.specs.Found.{found_numbers}
use Rattle.host.specs.Face.{in_high, OpenBlockFace, OpenEventFace, PostFace, CloseFace, FinishFace}
use Rattle.hostcount.specs.Face.{CountFace, LatchFace, ResetFace}
use Rattle.numbers.specs.BackLaws.{Loads}
use Rattle.claims.specs.Run.{Run}
use Rattle.owners.specs.Order.{Post, Apart, Aside, frames, latch, reset}
use Rattle.owners.specs.Own.{posted_window, of_channel}
use Rattle.modes.specs.Channel.{common_of}

-- ---- one call

-- a C call is the library's: one of its answers, with the number that C gets, and the numbers left are a state and load as the answer's
pub record Call (says : Answer → Type 0) (r : ℕ) (n' : List ℕ) : Type 0 where
  pub answer : Answer
  pub said : says answer
  pub number : number_told answer.refusal ≡ r
  pub state : Loads n' answer.state

-- the same of a set up, which gives no state where it refuses
pub record SetUpCall (settings : List ℕ) (r : ℕ) (n' : List ℕ) : Type 0 where
  pub answer : Answer
  pub said : SetUpSays (settings_from settings) answer
  pub number : number_told answer.refusal ≡ r
  pub state : r ≡ 0 → Loads n' answer.state

-- and of a finish, which answers the refusal times 2^32, or the block's length in words
pub record FinishCall (n words : List ℕ) (r : ℕ) (n' words' : List ℕ) : Type 0 where
  pub answer : Finished
  pub said : FinishSays (state_from n) words answer words'
  pub number : in_high (number_told answer.refusal) answer.length ≡ r
  pub state : Loads n' answer.state

-- and of the finder: the numbers of the pulses that it answers, which are none where it refuses
pub record FindCall (settings : List ℕ) (c : ℕ) (w out : List ℕ) (r : ℕ) (out' : List ℕ) : Type 0 where
  pub answer : Result Pulses Refusal
  pub said : FindSays (settings_from settings) c w answer
  pub number : number_told answer ≡ r
  pub found : out' ≡ splice out 0 (found_numbers (found_in answer))

-- the calls that count
abbrev pub AsideFace : Aside → List ℕ → ℕ → List ℕ → Type 0
AsideFace (frames samples) n r n' = CountFace n samples r n'
AsideFace latch n r n' = LatchFace n r n'
AsideFace reset n r n' = ResetFace n r n'

-- numbers that no call takes for a state: each refuses them with 10
pub record TakenByNone (n : List ℕ) : Type 0 where
  pub open_block : (words : List ℕ) (block events r : ℕ) (n' words' : List ℕ) → OpenBlockFace n words block events r n' words' → r ≡ 10
  pub open_event : (event time r : ℕ) (n' : List ℕ) → OpenEventFace n event time r n' → r ≡ 10
  pub post : (store : List ℕ) (c : ℕ) (w : List ℕ) (r : ℕ) (n' store' : List ℕ) → PostFace n store c w r n' store' → r ≡ 10
  pub close : (store words : List ℕ) (asked : Bool) (r : ℕ) (n' words' : List ℕ) → CloseFace n store words asked r n' words' → r ≡ 10
  pub finish : (words : List ℕ) (r : ℕ) (n' words' : List ℕ) → FinishFace n words r n' words' → r ≡ 10 * 2 ^ 32
  pub counted : (k : Aside) (r : ℕ) (n' : List ℕ) → AsideFace k n r n' → r ≡ 10

-- ---- a run of C calls

-- since a block was opened, as `Run` of the library's: every call on the numbers that the last one left and with the same buffer, any store at each,
-- refused calls and calls that count between. Beside it stand the records written so far
pub data CRun : List ℕ → List ℕ → List Item → Type 0 where
  opened : (n words : List ℕ) (block events : ℕ) (n' words' : List ℕ) → OpenBlockFace n words block events 0 n' words'
      → CRun n' words' (block_items (state_from n).settings block events)
  begun : {n words : List ℕ} {xs : List Item} → CRun n words xs → (event time r : ℕ) (n' : List ℕ) → OpenEventFace n event time r n' → CRun n' words xs
  posted : {n words : List ℕ} {xs : List Item} → CRun n words xs → (store : List ℕ) (c : ℕ) (w : List ℕ) (r : ℕ) (n' store' : List ℕ) → PostFace n store c w r n' store'
      → CRun n' words xs
  counted : {n words : List ℕ} {xs : List Item} → CRun n words xs → (k : Aside) (r : ℕ) (n' : List ℕ) → AsideFace k n r n' → CRun n' words xs
  closed : {n words : List ℕ} {xs : List Item} → CRun n words xs → (store : List ℕ) (asked : Bool) (n' words' : List ℕ) → CloseFace n store words asked 0 n' words'
      → CRun n' words' (xs ++ closing_items (state_from n) asked store)
  not_closed : {n words : List ℕ} {xs : List Item} → CRun n words xs → (store : List ℕ) (asked : Bool) (r : ℕ) (n' words' : List ℕ) → CloseFace n store words asked r n' words'
      → (r ≡ 0 → ⊥) → CRun n' words' xs
  not_opened : {n words : List ℕ} {xs : List Item} → CRun n words xs → (block events r : ℕ) (n' words' : List ℕ) → OpenBlockFace n words block events r n' words'
      → (r ≡ 0 → ⊥) → CRun n' words' xs
  not_finished : {n words : List ℕ} {xs : List Item} → CRun n words xs → (r : ℕ) (n' words' : List ℕ) → FinishFace n words r n' words'
      → 2 ^ 32 ≤ r → CRun n' words' xs

-- which is a run of the library's: the numbers are a state, and the library's calls led to it, with the same words and records
abbrev pub IsRun : List ℕ → List ℕ → List Item → Type 0
IsRun n words xs = (is_state n ≡ true) × Run (state_from n) words xs

-- ---- one event from C

-- posts one after the other, from the numbers and the store that the last one left; calls that count between; each with the number that C gets
pub data CPostRun : (n store : List ℕ) → List Post → List (Post × ℕ) → List Aside → List ℕ → (n' store' : List ℕ) → Type 0 where
  none : {n store : List ℕ} → CPostRun n store [] [] [] [] n store
  one : {n store m rows : List ℕ} (p : Post) {l : List Post} {ns : List (Post × ℕ)} {ks : List Aside} {is : List ℕ} (r : ℕ) (n' store' : List ℕ)
      → PostFace n store p.channel p.window r n' store' → CPostRun n' store' l ns ks is m rows → CPostRun n store (p ∷ l) ((p, r) ∷ ns) ks is m rows
  aside : {n store m rows : List ℕ} (k : Aside) {l : List Post} {ns : List (Post × ℕ)} {ks : List Aside} {is : List ℕ} (r : ℕ) (n' : List ℕ)
      → AsideFace k n r n' → CPostRun n' store l ns ks is m rows → CPostRun n store l ns (k ∷ ks) (r ∷ is) m rows

-- as `EventRun`: an accepted opening, a store lent, posts for different channels and calls that count, an accepted close
pub record CEventRun : Type 0 where
  pub before : List ℕ
  pub number : ℕ
  pub time : ℕ
  pub start : List ℕ
  pub opened : OpenEventFace before number time 0 start
  pub store : List ℕ
  pub posts : List Post
  pub apart : Apart posts
  pub answers : List (Post × ℕ)
  pub asides : List Aside
  pub told : List ℕ
  pub end : List ℕ
  pub store' : List ℕ
  pub posted : CPostRun start store posts answers asides told end store'
  pub words : List ℕ
  pub asked : Bool
  pub after : List ℕ
  pub words' : List ℕ
  pub closed : CloseFace end store' words asked 0 after words'

abbrev pub event_settings : CEventRun → Settings
event_settings e = (state_from e.start).settings

-- the words that the close wrote
abbrev pub c_closed_words : CEventRun → List ℕ
c_closed_words e = take ((state_from e.after).words - (state_from e.end).words) (drop (state_from e.end).words e.words')

-- channel c's of them
abbrev pub c_words_for : CEventRun → ℕ → List ℕ
c_words_for e c = of_channel c false 0 (c_closed_words e)

-- as `Alike`: what fixes an event's words, with the latched counts where they are asked for
pub record CAlike (e f : CEventRun) : Type 0 where
  pub common : common_of (event_settings e) ≡ common_of (event_settings f)
  pub slot : (event_settings e).slot ≡ (event_settings f).slot
  pub times : (event_settings e).times ≡ (event_settings f).times
  pub number : e.number ≡ f.number
  pub time : e.time ≡ f.time
  pub thresholds : (c : ℕ) → c < 16 → get_or (event_settings e).thresholds c 0 ≡ get_or (event_settings f).thresholds c 0
  pub windows : (c : ℕ) → c < 16 → posted_window e.answers c ≡ posted_window f.answers c
  pub asked : e.asked ≡ f.asked
  pub latched : e.asked ≡ true → (state_from e.end).scalers.latched ≡ (state_from f.end).scalers.latched
