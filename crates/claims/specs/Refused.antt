-- Demand 1: "A refusal .. returns the state it was handed and alters no sample or word." The contracts
-- say the number; here is the rest, for every call and every input. Assumes nothing.
use Rattle.std.specs.Prelude.{ℕ, ◌≡◌, Bool, List}
use Rattle.std.proofs.Common.{◌∙◌}
use Rattle.settings.specs.declared.Settings.{Settings}
use Rattle.refusals.specs.Refusal.{told, if_accepted}
use Rattle.state.specs.declared.State.{State}
use Rattle.writer.specs.Answer.{Answer}
use Rattle.writer.specs.Answer.{Finished}
use Rattle.state.specs.State.{blank}
use Rattle.writer.specs.Calls.{SetUpSays, OpenBlockSays, OpenEventSays, PostSays, FinishSays}
use Rattle.closing.specs.Closing.{CloseSays}
use Rattle.writer.specs.CallsLaws.{refused}
use Rattle.counting.specs.Counting.{CountSays, LatchSays, ResetSays}
use Rattle.owners.specs.Order.{Aside, frames, latch, reset, AsideSays}

-- what a refused call leaves is what came in
kept : {A : Type 0} {said n : ℕ} {x old : A} → said ≡ n → (said ≡ 0 → ⊥) → (new : A) → x ≡ if_accepted n new old → x ≡ old
kept {n = n} {old = old} e ne new is = is ∙ refused n new old (λ z. ne (e ∙ z))

-- "Set up can give only 1, and returns no state."
pub set_up_refused : (s : Settings) (r : Answer) → SetUpSays s r → (told r.refusal ≡ 0 → ⊥) → r.state ≡ blank
set_up_refused s r h ne = kept h.refusal ne _ h.state

-- "Every other refusal hands back the same state; store and words stay as lent."
pub open_block_refused : (s : State) (words : List ℕ) (number events : ℕ) (r : Answer) (words' : List ℕ) → OpenBlockSays s words number events r words'
    → (told r.refusal ≡ 0 → ⊥) → (r.state ≡ s) × (words' ≡ words)
open_block_refused s words number events r words' h ne = (kept h.refusal ne _ h.state, kept h.refusal ne _ h.buffer)

pub open_event_refused : (s : State) (number time : ℕ) (r : Answer) → OpenEventSays s number time r → (told r.refusal ≡ 0 → ⊥) → r.state ≡ s
open_event_refused s number time r h ne = kept h.refusal ne _ h.state

pub post_refused : (s : State) (store : List ℕ) (c : ℕ) (w : List ℕ) (r : Answer) (store' : List ℕ) → PostSays s store c w r store'
    → (told r.refusal ≡ 0 → ⊥) → (r.state ≡ s) × (store' ≡ store)
post_refused s store c w r store' h ne = (kept h.refusal ne _ h.state, kept h.refusal ne _ h.rows)

pub close_refused : (s : State) (store words : List ℕ) (asked : Bool) (r : Answer) (words' : List ℕ) → CloseSays s store words asked r words'
    → (told r.refusal ≡ 0 → ⊥) → (r.state ≡ s) × (words' ≡ words)
close_refused s store words asked r words' h ne = (kept h.refusal ne _ h.state, kept h.refusal ne _ h.buffer)

pub finish_refused : (s : State) (words : List ℕ) (r : Finished) (words' : List ℕ) → FinishSays s words r words'
    → (told r.refusal ≡ 0 → ⊥) → (r.state ≡ s) × (words' ≡ words)
finish_refused s words r words' h ne = (kept h.refusal ne _ h.state, kept h.refusal ne _ h.buffer)

-- 02: refused, frames count nothing; nor does a latch or a reset change a count
pub count_refused : (s : State) (samples : List ℕ) (r : Answer) → CountSays s samples r → (told r.refusal ≡ 0 → ⊥) → r.state ≡ s
count_refused s samples r h ne = kept h.refusal ne _ h.state

pub latch_refused : (s : State) (r : Answer) → LatchSays s r → (told r.refusal ≡ 0 → ⊥) → r.state ≡ s
latch_refused s r h ne = kept h.refusal ne _ h.state

pub reset_refused : (s : State) (r : Answer) → ResetSays s r → (told r.refusal ≡ 0 → ⊥) → r.state ≡ s
reset_refused s r h ne = kept h.refusal ne _ h.state

-- any of the three
pub aside_refused : (k : Aside) (s : State) (r : Answer) → AsideSays k s r → (told r.refusal ≡ 0 → ⊥) → r.state ≡ s
aside_refused (frames samples) s r h ne = count_refused s samples r h ne
aside_refused latch s r h ne = latch_refused s r h ne
aside_refused reset s r h ne = reset_refused s r h ne
