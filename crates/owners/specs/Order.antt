-- Demand 3, what is said: "In one event, just opened, let windows for different channels be posted in any order into one store that nobody else writes."
-- Frames, latches and resets may come between any two calls (document 02). Assumes nothing.
use Rattle.std.specs.Prelude.{ℕ, ◌≢◌, List, [], ◌∷◌}
use Rattle.ground.specs.Order.{Pairwise}
use Rattle.refusals.specs.Refusal.{told}
use Rattle.state.specs.declared.State.{State}
use Rattle.writer.specs.Answer.{Answer}
use Rattle.writer.specs.Calls.{PostSays}
use Rattle.counting.specs.Counting.{CountSays, LatchSays, ResetSays}

-- the state and the store then lent
pub record Bench : Type 0 where
  pub state : State
  pub store : List ℕ

pub record Post : Type 0 where
  pub channel : ℕ
  pub window : List ℕ

-- a call that counts, as the host makes it between any two others
pub data Aside : Type 0 where
  frames : List ℕ → Aside
  latch : Aside
  reset : Aside

-- what it answers and leaves, by its contract
abbrev pub AsideSays : Aside → State → Answer → Type 0
AsideSays (frames samples) s r = CountSays s samples r
AsideSays latch s r = LatchSays s r
AsideSays reset s r = ResetSays s r

-- posts one after the other, and calls that count between any two, each as its contract says, from the state and store that the last one left: each post
-- with the number that it is answered, and the numbers that the calls that count are answered, in their order
pub data PostRun : Bench → List Post → List (Post × ℕ) → List Aside → List ℕ → Bench → Type 0 where
  none : {b : Bench} → PostRun b [] [] [] [] b
  one : {b e : Bench} (p : Post) {l : List Post} {ns : List (Post × ℕ)} {ks : List Aside} {is : List ℕ} (r : Answer) (store' : List ℕ)
      → PostSays b.state b.store p.channel p.window r store'
      → PostRun (record { state = r.state; store = store' }) l ns ks is e → PostRun b (p ∷ l) ((p, told r.refusal) ∷ ns) ks is e
  aside : {b e : Bench} (k : Aside) {l : List Post} {ns : List (Post × ℕ)} {ks : List Aside} {is : List ℕ} (r : Answer)
      → AsideSays k b.state r
      → PostRun (record { state = r.state; store = b.store }) l ns ks is e → PostRun b l ns (k ∷ ks) (told r.refusal ∷ is) e

-- no two posts are for one channel
abbrev pub Differ : Post → Post → Type 0
Differ p q = p.channel ≢ q.channel

abbrev pub Apart : List Post → Type 0
Apart ps = Pairwise Differ ps
