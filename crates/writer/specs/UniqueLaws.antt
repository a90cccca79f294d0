-- Two results that a call's statement allows are equal: the answer, the state in it, and the store or the words then lent. Assumes nothing.
use Rattle.std.specs.Prelude.{ℕ, ◌≡◌, List}
use Rattle.ground.specs.ResultLaws.{one_result}
use Rattle.settings.specs.declared.Settings.{Settings}
use Rattle.refusals.specs.Refusal.{Outcome, told}
use Rattle.refusals.specs.RefusalLaws.{told_inj}
use Rattle.state.specs.declared.State.{State}
use Rattle.writer.specs.Answer.{Answer}
use Rattle.writer.specs.Answer.{Finished}
use Rattle.writer.specs.Calls.{SetUpSays, OpenBlockSays, OpenEventSays, PostSays, FinishSays}

-- a refusal said by its number, and an answer by its refusal and its state
pub one_refusal : (a b : Outcome) {number : ℕ} → told a ≡ number → told b ≡ number → a ≡ b
one_refusal a b p q = told_inj a b (one_result p q)

pub one_answer : (a b : Answer) {number : ℕ} {state : State} → told a.refusal ≡ number → told b.refusal ≡ number
    → a.state ≡ state → b.state ≡ state → a ≡ b
one_answer a b p q s t =
    let refusal = one_refusal a.refusal b.refusal p q in
    let state = one_result s t in
    λ i. record { refusal = refusal i; state = state i }

pub set_up_unique : (s : Settings) (a b : Answer) → SetUpSays s a → SetUpSays s b → a ≡ b
set_up_unique s a b p q = one_answer a b p.refusal q.refusal p.state q.state

pub open_block_unique : (s : State) (words : List ℕ) (number events : ℕ) (a b : Answer) (x y : List ℕ)
    → OpenBlockSays s words number events a x → OpenBlockSays s words number events b y → (a ≡ b) × (x ≡ y)
open_block_unique s words number events a b x y p q =
    (one_answer a b p.refusal q.refusal p.state q.state, one_result p.buffer q.buffer)

pub open_event_unique : (s : State) (number time : ℕ) (a b : Answer) → OpenEventSays s number time a → OpenEventSays s number time b → a ≡ b
open_event_unique s number time a b p q = one_answer a b p.refusal q.refusal p.state q.state

pub post_unique : (s : State) (store : List ℕ) (c : ℕ) (w : List ℕ) (a b : Answer) (x y : List ℕ)
    → PostSays s store c w a x → PostSays s store c w b y → (a ≡ b) × (x ≡ y)
post_unique s store c w a b x y p q = (one_answer a b p.refusal q.refusal p.state q.state, one_result p.rows q.rows)

pub finish_unique : (s : State) (words : List ℕ) (a b : Finished) (x y : List ℕ) → FinishSays s words a x → FinishSays s words b y → (a ≡ b) × (x ≡ y)
finish_unique s words a b x y p q =
    let refusal = one_refusal a.refusal b.refusal p.refusal q.refusal in
    let state = one_result p.state q.state in
    let size = one_result p.size q.size in
    (λ i. record { refusal = refusal i; state = state i; length = size i }, one_result p.buffer q.buffer)
