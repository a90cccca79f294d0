-- The calls that count, by equations: each changes only what is counted, and is answered alike wherever the state is in its ranges. Assumes nothing.
use Rattle.std.specs.Prelude.{ℕ, zero, suc, ◌≡◌, refl, Bool, true, false, cond, List, [], ◌∷◌, map, eqb}
use Rattle.std.proofs.Common.{sym, ap, ap₂, ◌∙◌, arith}
use Rattle.ground.specs.Order.{steps}
use Rattle.refusals.specs.Refusal.{told, if_accepted}
use Rattle.scalers.specs.declared.Scalers.{Scalers}
use Rattle.scalers.specs.Scalers.{frames_of, count_frames, latched_now, reset_now}
use Rattle.state.specs.declared.State.{State}
use Rattle.state.specs.State.{state_ok, with_scalers}
use Rattle.writer.specs.Answer.{Answer}
use Rattle.writer.specs.CallsLaws.{done, refused}
use Rattle.counting.specs.Counting.{count_table, count_number, latch_table, latch_number, reset_table, reset_number}
use Rattle.counting.specs.CountingLaws.{count_accepted, latch_accepted, reset_accepted, count_kept, latch_kept, reset_kept}
use Rattle.owners.specs.Order.{Bench, Aside, frames, latch, reset, AsideSays}

-- a number is 0 or it is not
pub zero_or : {X : Type 0} (n : ℕ) → (n ≡ 0 → X) → ((n ≡ 0 → ⊥) → X) → X
zero_or zero f g = f refl
zero_or (suc n) f g = g (λ e. omega arith)

-- the number that a call is answered
unfoldable pub aside_number : State → Aside → ℕ
aside_number s (frames samples) = count_number s samples
aside_number s latch = latch_number s
aside_number s reset = reset_number s

-- what it makes of what was counted, by the thresholds
unfoldable pub counted : List ℕ → Scalers → Aside → Scalers
counted ts c (frames samples) = count_frames ts c (frames_of samples)
counted ts c latch = latched_now c
counted ts c reset = reset_now c

-- what is counted behind it, accepted or refused
unfoldable pub scalers_after : State → Aside → Scalers
scalers_after s k = if_accepted (aside_number s k) (counted s.settings.thresholds s.scalers k) s.scalers

-- what it leaves
unfoldable pub beside : Bench → Aside → Bench
beside b k = record { state = with_scalers b.state (scalers_after b.state k); store = b.store }

abbrev pub asides : Bench → List Aside → Bench
asides b ks = steps beside b ks

-- ---- the contract of a call leaves exactly that

only_scalers : (n : ℕ) (s : State) (c : Scalers) → if_accepted n (with_scalers s c) s ≡ with_scalers s (if_accepted n c s.scalers)
unfolding with_scalers
only_scalers n s c = go (eqb n 0)
  where
    go : (b : Bool) → cond b (with_scalers s c) s ≡ with_scalers s (cond b c s.scalers)
    go true = refl
    go false = refl

aside_state : (k : Aside) (s : State) (r : Answer) → AsideSays k s r → (told r.refusal ≡ aside_number s k) × (r.state ≡ with_scalers s (scalers_after s k))
unfolding aside_number scalers_after counted
aside_state (frames samples) s r h = (h.refusal, h.state ∙ only_scalers (count_number s samples) s (count_frames s.settings.thresholds s.scalers (frames_of samples)))
aside_state latch s r h = (h.refusal, h.state ∙ only_scalers (latch_number s) s (latched_now s.scalers))
aside_state reset s r h = (h.refusal, h.state ∙ only_scalers (reset_number s) s (reset_now s.scalers))

pub aside_after : (b : Bench) (k : Aside) (r : Answer) → AsideSays k b.state r
    → (told r.refusal ≡ aside_number b.state k) × (record { state = r.state; store = b.store } ≡ beside b k)
unfolding beside
aside_after b k r h =
    let a = aside_state k b.state r h in
    (a.0, ap (λ (s : State). record { state = s; store = b.store }) a.1)

-- ---- ranges

-- the answer depends on the state's ranges alone
pub number_by : (s t : State) (k : Aside) → state_ok s ≡ state_ok t → aside_number s k ≡ aside_number t k
unfolding aside_number count_number count_table latch_number latch_table reset_number reset_table
number_by s t (frames samples) e = rw e
number_by s t latch e = rw e
number_by s t reset e = rw e

-- an accepted call came on a state in its ranges, and left one
had_ranges : (s : State) (k : Aside) → aside_number s k ≡ 0 → state_ok s ≡ true
unfolding aside_number
had_ranges s (frames samples) e = (count_accepted s samples e).state
had_ranges s latch e = latch_accepted s e
had_ranges s reset e = reset_accepted s e

left_ranges : (s : State) (k : Aside) → aside_number s k ≡ 0 → state_ok (with_scalers s (counted s.settings.thresholds s.scalers k)) ≡ true
unfolding aside_number counted
left_ranges s (frames samples) e = count_kept s samples e
left_ranges s latch e = latch_kept s e
left_ranges s reset e = reset_kept s e

-- a call leaves a state in its ranges exactly where it came on one
pub same_ranges : (s : State) (k : Aside) → state_ok (with_scalers s (scalers_after s k)) ≡ state_ok s
unfolding scalers_after with_scalers
same_ranges s k =
    zero_or (aside_number s k)
    (λ e. ap (λ (c : Scalers). state_ok (with_scalers s c)) (done _ _ e) ∙ left_ranges s k e ∙ sym (had_ranges s k e))
    (λ e. ap (λ (c : Scalers). state_ok (with_scalers s c)) (refused (aside_number s k) _ _ e))

-- so each call is answered as if it came first
pub numbers_beside : (b : Bench) (k : Aside) (ks : List Aside) → map (aside_number (beside b k).state) ks ≡ map (aside_number b.state) ks
unfolding beside
numbers_beside b k [] = refl
numbers_beside b k (j ∷ ks) =
    ap₂ (λ (n : ℕ) (l : List ℕ). n ∷ l) (number_by (with_scalers b.state (scalers_after b.state k)) b.state j (same_ranges b.state k)) (numbers_beside b k ks)
