-- Demand 1: "A refusal has the number our table gives, is given exactly when the table says". One law for all tables, a line for each call; the tables read in the order
-- that documents 01 and 02 name; and what an accepted call gives is never refused for its ranges. Assumes nothing.
use Rattle.std.specs.Prelude.{ℕ, ◌≤◌, ◌≡◌, refl, Bool, true, false, not, cond, List, [], ◌∷◌, map, eqb, length}
use Rattle.std.proofs.Common.{sym, ap, ◌∙◌}
use Rattle.ground.specs.Tests.{first_of, FirstIs}
use Rattle.ground.specs.TestsLaws.{first_is, is_first}
use Rattle.settings.specs.declared.Settings.{Settings}
use Rattle.settings.specs.Ranges.{settings_ok}
use Rattle.refusals.specs.Refusal.{told, if_accepted}
use Rattle.find.specs.Call.{find_table, find_number, FindSays}
use Rattle.std.specs.declared.result.Result.{Result}
use Rattle.refusals.specs.declared.Refusal.{Refusal}
use Rattle.finder.specs.declared.Pulses.{Pulses}
use Rattle.scan.specs.declared.Scan.{Scan}
use Rattle.reader.specs.Step.{Step}
use Rattle.reader.specs.Judged.{Judged}
use Rattle.reader.specs.Reader.{end_number}
use Rattle.meaning.specs.Meaning.{meaning_at, is_end}
use Rattle.questions.specs.Questions.{refusals, refusal_of}
use Rattle.reader.specs.Answers.{step_number, judged_number, number_at, StepSays, JudgedSays}
use Rattle.state.specs.declared.State.{State}
use Rattle.writer.specs.Answer.{Answer}
use Rattle.writer.specs.Answer.{Finished}
use Rattle.state.specs.State.{state_ok}
use Rattle.writer.specs.Calls.{SetUpSays, OpenBlockSays, OpenEventSays, PostSays, FinishSays}
use Rattle.closing.specs.Closing.{CloseSays}
use Rattle.refusing.specs.Tables.{set_up_number, open_block_table, open_block_number, open_event_table, open_event_number, post_table, post_number, close_table, close_number, finish_table, finish_number}
use Rattle.writer.specs.CallsLaws.{done}
use Rattle.writer.specs.KeptLaws.{set_up_kept, open_block_kept, open_event_kept, post_kept, closing_kept, finish_kept}
use Rattle.counting.specs.Counting.{count_table, count_number, latch_table, latch_number, reset_table, reset_number}
use Rattle.counting.specs.CountingLaws.{count_kept, latch_kept, reset_kept}
use Rattle.owners.specs.Order.{Aside, frames, latch, reset, AsideSays}
use Rattle.layout.specs.Wrong.{questions}

-- ---- in the paper's order

-- "Order: 10, 7, 8, 4, 5, 6, 2, 3, 9."
abbrev pub paper_order : List ℕ
paper_order = 10 ∷ 7 ∷ 8 ∷ 4 ∷ 5 ∷ 6 ∷ 2 ∷ 3 ∷ 9 ∷ []

-- the numbers of a table's rows
abbrev pub row_numbers : List (ℕ × Bool) → List ℕ
row_numbers rows = map (λ r. r.0) rows

-- they come in that order, each at most once, some left out
abbrev pub in_order : List ℕ → List ℕ → Bool
in_order [] os = true
in_order (n ∷ ns) [] = false
in_order (n ∷ ns) (o ∷ os) = cond (eqb n o) (in_order ns os) (in_order (n ∷ ns) os)

abbrev pub Ordered : List (ℕ × Bool) → Type 0
Ordered rows = in_order (row_numbers rows) paper_order ≡ true

pub open_block_order : (s : State) (room number events : ℕ) → Ordered (open_block_table s room number events)
unfolding open_block_table
open_block_order s room number events = refl

pub open_event_order : (s : State) (number time : ℕ) → Ordered (open_event_table s number time)
unfolding open_event_table
open_event_order s number time = refl

pub post_order : (s : State) (room c : ℕ) (w : List ℕ) → Ordered (post_table s room c w)
unfolding post_table
post_order s room c w = refl

pub close_order : (s : State) (asked : Bool) (store : List ℕ) (room : ℕ) → Ordered (close_table s asked store room)
unfolding close_table
close_order s asked store room = refl

pub finish_order : (s : State) (room : ℕ) → Ordered (finish_table s room)
unfolding finish_table
finish_order s room = refl

-- the table of a call that counts
abbrev pub aside_table : State → Aside → List (ℕ × Bool)
aside_table s (frames samples) = count_table s samples
aside_table s latch = latch_table s
aside_table s reset = reset_table s

-- the calls that count: 10, as at every call on a state; 02: "3, 19 frame data not a multiple of sixteen"
pub aside_order : (s : State) (k : Aside) → in_order (row_numbers (aside_table s k)) (10 ∷ 3 ∷ 19 ∷ []) ≡ true
unfolding count_table latch_table reset_table
aside_order s (frames samples) = refl
aside_order s latch = refl
aside_order s reset = refl

-- "refusals 1, 4, 5, 3 in that order"
pub find_order : (s : Settings) (c : ℕ) (w : List ℕ) → row_numbers (find_table s c w) ≡ 1 ∷ 4 ∷ 5 ∷ 3 ∷ []
unfolding find_table
find_order s c w = refl

-- the reader: "At each word, in this order: 14 ..; 11 no word left; 12 ..; 15 ..; 13 ..; 14 .."
pub end_order : (s : Scan) → row_numbers (questions s []) ≡ 14 ∷ 11 ∷ []
end_order s = refl

pub read_order : (s : Scan) (word : ℕ) (words : List ℕ) → is_end (meaning_at s word) ≡ false → row_numbers (questions s (word ∷ words)) ≡ 14 ∷ 12 ∷ 15 ∷ 13 ∷ 14 ∷ []
read_order s word words h = rw h

-- ---- exactly when

-- the number n is given if, and only if, its row holds and none before it; 0 if, and only if, no row holds (`FirstIs`)
pub record Exactly (rows : List (ℕ × Bool)) (said : ℕ) : Type 0 where
  pub only : (n : ℕ) → said ≡ n → FirstIs rows n
  pub always : (n : ℕ) → FirstIs rows n → said ≡ n

-- one law for all tables
pub exactly : (rows : List (ℕ × Bool)) {said : ℕ} → said ≡ first_of rows → Exactly rows said
exactly rows e = record { only = λ n h. rw (sym e ∙ h) at (first_is rows); always = λ n h. e ∙ is_first h }

pub set_up_exactly : (s : Settings) (r : Answer) → SetUpSays s r → Exactly ((1, not (settings_ok s)) ∷ []) (told r.refusal)
unfolding set_up_number
set_up_exactly s r h = exactly _ h.refusal

pub open_block_exactly : (s : State) (words : List ℕ) (number events : ℕ) (r : Answer) (words' : List ℕ) → OpenBlockSays s words number events r words'
    → Exactly (open_block_table s (length words) number events) (told r.refusal)
unfolding open_block_number
open_block_exactly s words number events r words' h = exactly _ h.refusal

pub open_event_exactly : (s : State) (number time : ℕ) (r : Answer) → OpenEventSays s number time r → Exactly (open_event_table s number time) (told r.refusal)
unfolding open_event_number
open_event_exactly s number time r h = exactly _ h.refusal

pub post_exactly : (s : State) (store : List ℕ) (c : ℕ) (w : List ℕ) (r : Answer) (store' : List ℕ) → PostSays s store c w r store'
    → Exactly (post_table s (length store) c w) (told r.refusal)
unfolding post_number
post_exactly s store c w r store' h = exactly _ h.refusal

pub close_exactly : (s : State) (store words : List ℕ) (asked : Bool) (r : Answer) (words' : List ℕ) → CloseSays s store words asked r words'
    → Exactly (close_table s asked store (length words)) (told r.refusal)
unfolding close_number
close_exactly s store words asked r words' h = exactly _ h.refusal

pub finish_exactly : (s : State) (words : List ℕ) (r : Finished) (words' : List ℕ) → FinishSays s words r words' → Exactly (finish_table s (length words)) (told r.refusal)
unfolding finish_number
finish_exactly s words r words' h = exactly _ h.refusal

pub aside_exactly : (k : Aside) (s : State) (r : Answer) → AsideSays k s r → Exactly (aside_table s k) (told r.refusal)
unfolding count_number latch_number reset_number
aside_exactly (frames samples) s r h = exactly _ h.refusal
aside_exactly latch s r h = exactly _ h.refusal
aside_exactly reset s r h = exactly _ h.refusal

pub find_exactly : (s : Settings) (c : ℕ) (w : List ℕ) (r : Result Pulses Refusal) → FindSays s c w r → Exactly (find_table s c w) (told r)
unfolding find_number
find_exactly s c w r h = exactly _ h.refusal

-- a word, from any scan
asked : (s : Scan) (word : ℕ) (words : List ℕ) → number_at s word ≡ first_of (questions s (word ∷ words))
unfolding number_at refusal_of first_of
asked s word words = go (is_end (meaning_at s word))
  where
    go : (b : Bool) → cond b 0 (first_of (refusals s (meaning_at s word) word)) ≡ first_of (cond b [] (refusals s (meaning_at s word) word))
    go true = refl
    go false = refl

-- what `step` answers of it
pub step_exactly : (s : Scan) (word : ℕ) (words : List ℕ) (r : Step) → StepSays s word r → Exactly (questions s (word ∷ words)) (step_number r)
step_exactly s word words r h = exactly _ (h.number ∙ asked s word words)

-- what `judge` answers
pub judge_exactly : (s : Scan) (word : ℕ) (words : List ℕ) (r : Judged) → JudgedSays s word r → Exactly (questions s (word ∷ words)) (judged_number r)
judge_exactly s word words r h = exactly _ (h.number ∙ asked s word words)

-- what `at_end` answers of the input's end
pub end_exactly : (s : Scan) (r : ℕ) → r ≡ end_number s → Exactly (questions s []) r
unfolding end_number
end_exactly s r e = exactly _ e

-- ---- kept in range

-- an accepted call's state is in its ranges: no later call refuses it with 10
kept : {s : State} {said n : ℕ} (new old : State) → said ≡ n → said ≡ 0 → s ≡ if_accepted n new old → (n ≡ 0 → state_ok new ≡ true) → state_ok s ≡ true
kept new old e z is k = ap state_ok (is ∙ done new old (sym e ∙ z)) ∙ k (sym e ∙ z)

pub set_up_in_range : (s : Settings) (r : Answer) → SetUpSays s r → told r.refusal ≡ 0 → state_ok r.state ≡ true
set_up_in_range s r h z = kept _ _ h.refusal z h.state (set_up_kept s)

pub open_block_in_range : (s : State) (words : List ℕ) (number events : ℕ) (r : Answer) (words' : List ℕ) → OpenBlockSays s words number events r words'
    → told r.refusal ≡ 0 → state_ok r.state ≡ true
open_block_in_range s words number events r words' h z = kept _ _ h.refusal z h.state (open_block_kept s (length words) number events)

pub open_event_in_range : (s : State) (number time : ℕ) (r : Answer) → OpenEventSays s number time r → told r.refusal ≡ 0 → state_ok r.state ≡ true
open_event_in_range s number time r h z = kept _ _ h.refusal z h.state (open_event_kept s number time)

pub post_in_range : (s : State) (store : List ℕ) (c : ℕ) (w : List ℕ) (r : Answer) (store' : List ℕ) → PostSays s store c w r store'
    → told r.refusal ≡ 0 → state_ok r.state ≡ true
post_in_range s store c w r store' h z = kept _ _ h.refusal z h.state (post_kept s (length store) c w)

-- the marks are the sixteen, and the latched counts the eighteen, of the state's arrays
pub close_in_range : (s : State) (store words : List ℕ) (asked : Bool) (r : Answer) (words' : List ℕ) → CloseSays s store words asked r words' → length s.posted ≤ 16
    → length s.scalers.latched ≡ 18 → told r.refusal ≡ 0 → state_ok r.state ≡ true
close_in_range s store words asked r words' h m l z = kept _ _ h.refusal z h.state (closing_kept s asked store (length words) m l)

pub finish_in_range : (s : State) (words : List ℕ) (r : Finished) (words' : List ℕ) → FinishSays s words r words' → told r.refusal ≡ 0
    → state_ok r.state ≡ true
finish_in_range s words r words' h z = kept _ _ h.refusal z h.state (finish_kept s (length words))

pub aside_in_range : (k : Aside) (s : State) (r : Answer) → AsideSays k s r → told r.refusal ≡ 0 → state_ok r.state ≡ true
aside_in_range (frames samples) s r h z = kept _ _ h.refusal z h.state (count_kept s samples)
aside_in_range latch s r h z = kept _ _ h.refusal z h.state (latch_kept s)
aside_in_range reset s r h z = kept _ _ h.refusal z h.state (reset_kept s)
