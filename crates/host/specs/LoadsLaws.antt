-- What an accepted call from C leaves loads as the state that the library's call gives: calls from C chain as those do. Assumes nothing.
use Rattle.std.specs.Prelude.{ℕ, ◌+◌, ◌^◌, ◌≤◌, ◌<◌, ◌≡◌, refl, Bool, true, false, cond, ◌||◌, List, [], ◌∷◌, eqb, length, drop}
use Rattle.std.proofs.Common.{sym, ◌∙◌, arith, eq-eqb, eqb-true, length-set}
use Rattle.std.proofs.lemmas.Bool.{false≢true}
use Rattle.ground.specs.Tests.{one_of}
use Rattle.settings.specs.RangesLaws.{settings_in_range}
use Rattle.refusals.specs.Refusal.{number_of, bad_array, or_else}
use Rattle.refusals.specs.declared.Refusal.TheVariants as R
use Rattle.scalers.specs.Scalers.{nothing_counted}
use Rattle.state.specs.declared.State.{State}
use Rattle.state.specs.State.{state_ok, idle, with_block, with_event, with_mark, with_closed}
use Rattle.state.specs.StateLaws.{state_settings, trailer_fits}
use Rattle.block.specs.Block.{end_items}
use Rattle.refusing.specs.TablesLaws.{finish_accepted}
use Rattle.writer.specs.KeptLaws.{open_block_kept, open_event_kept, post_kept, closing_kept, finish_kept, set_up_kept}
use Rattle.block.specs.BlockLaws.{end_length, multiple_positive, fillers_lt}
use Rattle.places.specs.Places.{front_count, state_count, is_settings, is_state}
use Rattle.numbers.specs.Numbers.{settings_from, table, marks_from, state_from, numbers_of}
use Rattle.places.specs.PlacesLaws.{state_settings_held}
use Rattle.numbers.specs.BackLaws.{Loads, state_back}
use Rattle.numbers.specs.ScalersLaws.{Sized}
use Rattle.numbers.specs.SizedLaws.{sized_loaded, sized_none, sized_triggered}
use Rattle.host.specs.Face.{block_opened, posted, event_closed, finish_on, SetUpFace, OpenBlockFace, OpenEventFace, PostFace, CloseFace, FinishFace}

sixteen : (n : List ℕ) → length (state_from n).posted ≡ 16
unfolding state_from marks_from table
sixteen n = refl

no_none : (b : Bool) (number : ℕ) → 0 ≡ cond b number (number_of R.State) → (b ≡ true) × (number ≡ 0)
no_none true number e = (refl, sym e)
no_none false number e = absurd (omega arith)

-- what is counted is of its sizes
counted : (n : List ℕ) → is_state n ≡ true → Sized (state_from n).scalers
unfolding state_from
counted n e = sized_loaded n e

-- a call on a state that keeps the settings
call_loads : (n : List ℕ) (s : State) → is_state n ≡ true → s.settings ≡ (state_from n).settings → state_ok s ≡ true → length s.posted ≡ 16 → Sized s.scalers → Loads (numbers_of s) s
unfolding state_from
call_loads n s e f h k z = state_back s (drop front_count n) h k z (state_settings_held n e) f

pub open_event_loads : (n : List ℕ) (event time : ℕ) (n' : List ℕ) → OpenEventFace n event time 0 n' → Loads n' (with_event (state_from n) event time)
unfolding with_event
open_event_loads n event time n' f =
    let a = no_none (is_state n) _ f.number in
    rw f.numbers (call_loads n _ a.0 refl (open_event_kept (state_from n) event time a.1) (sixteen n) (sized_triggered (state_from n).scalers (counted n a.0)))

pub open_block_loads : (n words : List ℕ) (block events : ℕ) (n' words' : List ℕ) → OpenBlockFace n words block events 0 n' words'
    → Loads n' (block_opened (state_from n) block events)
unfolding with_block
open_block_loads n words block events n' words' f =
    let a = no_none (is_state n) _ f.number in
    rw f.numbers (call_loads n _ a.0 refl (open_block_kept (state_from n) (length words) block events a.1) refl (counted n a.0))

pub post_loads : (n store : List ℕ) (c : ℕ) (w n' store' : List ℕ) → PostFace n store c w 0 n' store' → Loads n' (posted (state_from n) c)
unfolding with_mark
post_loads n store c w n' store' f =
    let a = no_none (is_state n) _ f.number in
    rw f.numbers (call_loads n _ a.0 refl (post_kept (state_from n) (length store) c w a.1) (length-set (state_from n).posted c true ∙ sixteen n) (counted n a.0))

pub close_loads : (n store words : List ℕ) (asked : Bool) (n' words' : List ℕ) → CloseFace n store words asked 0 n' words' → Loads n' (event_closed (state_from n) asked store)
unfolding with_closed
close_loads n store words asked n' words' f =
    let a = no_none (is_state n) _ f.number in
    let z = counted n a.0 in
    rw f.numbers (call_loads n _ a.0 refl (closing_kept (state_from n) asked store (length words) (omega (arith, sixteen n)) z.latched.0 a.1) refl z)

pub finish_loads : (n words : List ℕ) (r : ℕ) (n' words' : List ℕ) → FinishFace n words r n' words' → finish_on n (length words) ≡ 0 → Loads n' (idle (state_from n).settings (state_from n).scalers)
unfolding idle
finish_loads n words r n' words' f e =
    let a = no_none (is_state n) _ (sym e) in
    rw (f.numbers, e) (call_loads n _ a.0 refl (finish_kept (state_from n) (length words) a.1) refl (counted n a.0))

pub set_up_loads : (m n n' : List ℕ) → SetUpFace m n 0 n' → Loads n' (idle (settings_from m) nothing_counted)
unfolding idle
set_up_loads m n n' f =
    let z = both_zero _ _ f.number in
    let a = no_one (is_settings m) _ z.0 in
    rw (f.numbers, no_other (eqb (length n) state_count) z.1) (state_back _ m (set_up_kept (settings_from m) a.1) refl sized_none a.0 refl)
  where
    no_one : (b : Bool) (number : ℕ) → cond b number (number_of R.Setting) ≡ 0 → (b ≡ true) × (number ≡ 0)
    no_one true number e = (refl, e)
    no_one false number e = absurd (omega arith)

    no_other : (b : Bool) → cond b 0 bad_array ≡ 0 → b ≡ true
    no_other true e = refl
    no_other false e = absurd (omega arith)

    both_zero : (number later : ℕ) → 0 ≡ or_else number later → (number ≡ 0) × (later ≡ 0)
    both_zero number later e = go (eqb number 0) refl e
      where
        go : (b : Bool) → eqb number 0 ≡ b → 0 ≡ cond b later number → (number ≡ 0) × (later ≡ 0)
        go true h f = (eqb-true number 0 h, sym f)
        go false h f = absurd (false≢true (sym h ∙ eq-eqb number 0 (sym f)))

-- the length that a finish answers is below 2^32, so that no refusal can be taken for one
pub finish_below : (n : List ℕ) (room : ℕ) → finish_on n room ≡ 0
    → (state_from n).words + length (end_items (state_from n).settings (state_from n).words) < 2 ^ 32
finish_below n room e =
    let s = state_from n in
    let ok = (finish_accepted s room (no_none (is_state n) _ (sym e)).1).state in
    let good = state_settings s ok in
    omega (arith, trailer_fits s ok, end_length s.settings s.words, fillers_lt s.settings.multiple (s.words + 1) (multiple_positive s.settings good), most-4 s.settings.multiple (settings_in_range s.settings good).multiple)
  where
    most-4 : (m : ℕ) → one_of m (1 ∷ 2 ∷ 4 ∷ []) ≡ true → m ≤ 4
    most-4 m h = go (eqb m 1) (eqb m 2) (eqb m 4) refl refl refl h
      where
        go : (a b c : Bool) → eqb m 1 ≡ a → eqb m 2 ≡ b → eqb m 4 ≡ c → (a || b) || c ≡ true → m ≤ 4
        go true b c p q r e = omega (arith, eqb-true m 1 p)
        go false true c p q r e = omega (arith, eqb-true m 2 q)
        go false false true p q r e = omega (arith, eqb-true m 4 r)
        go false false false p q r e = absurd (false≢true e)
