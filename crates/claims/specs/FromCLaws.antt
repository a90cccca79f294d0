-- One C call: refused exactly when its table says, and nothing altered or nothing old left then; on the numbers of a state it is the library's call. Assumes nothing.
use Rattle.std.specs.Prelude.{ℕ, ◌+◌, ◌*◌, ◌/◌, ◌^◌, ◌≤◌, ◌<◌, ◌≡◌, refl, Bool, true, false, not, cond, ◌&&◌, List, [], ◌∷◌, ◌++◌, eqb, ltb, length, get_or, replicate}
use Rattle.std.proofs.Common.{sym, ap, ap₂, ◌∙◌, subst, arith, ltb-true, le-ltb, eq-eqb, ne_eqb, eqb-true}
use Rattle.ground.specs.Splice.{splice}
use Rattle.ground.specs.Tests.{first_of, this_row}
use Rattle.ground.specs.TestsLaws.{and_left, and_right, numbered}
use Rattle.std.specs.declared.result.Result.{Result}
use Rattle.std.specs.declared.result.Result.TheVariants.{Ok, Err}
use Rattle.refusals.specs.declared.Refusal.{Refusal}
use Rattle.refusals.specs.declared.Refusal.TheVariants as F
use Rattle.settings.specs.Ranges.{settings_ok}
use Rattle.refusals.specs.Refusal.{Outcome, told, bad_array, if_accepted, or_else}
use Rattle.finder.specs.Find.{packed}
use Rattle.finder.specs.declared.Pulses.{Pulses}
use Rattle.find.specs.Call.{find_table, find_number, found_pulses, found_in}
use Rattle.find.specs.CallLaws.{found_none}
use Rattle.find.proofs.RulesLaws.{find_says}
use Rattle.state.specs.declared.State.{State}
use Rattle.writer.specs.Answer.{Answer}
use Rattle.scalers.specs.Scalers.{nothing_counted, latched_now, reset_now}
use Rattle.state.specs.State.{state_ok, idle, blank, with_event, with_scalers}
use Rattle.writer.specs.Calls.{OpenBlockSays, OpenEventSays, PostSays}
use Rattle.closing.specs.Closing.{CloseSays}
use Rattle.refusing.specs.Tables.{set_up_number, open_block_table, open_block_number, open_event_table, open_event_number, post_table, post_number, close_table, close_number, finish_table, finish_number}
use Rattle.counting.specs.Counting.{count_table, count_number, with_frames, latch_table, latch_number, reset_table, reset_number}
use Rattle.block.specs.Block.{end_items}
use Rattle.writer.specs.CallsLaws.{done, refused}
use Rattle.places.specs.Places.{state_count, held_in, is_settings, is_state}
use Rattle.numbers.specs.Numbers.{settings_from, table, marks_from, state_from, numbers_of}
use Rattle.numbers.specs.On.{on_state, on_settings}
use Rattle.host.specs.Face.{block_opened, posted, event_closed, finish_on, in_high, SetUpFace, OpenBlockFace, OpenEventFace, PostFace, CloseFace, FinishFace}
use Rattle.hostcount.specs.Face.{CountFace, LatchFace, ResetFace}
use Rattle.hostfind.specs.Found.{found_count, found_numbers, FindFace}
use Rattle.refusals.specs.RefusalLaws.{none_later, number_some}
use Rattle.hostfind.specs.FoundLaws.{found_or_zeros}
use Rattle.numbers.specs.BackLaws.{Loads, numbers_back}
use Rattle.host.specs.LoadsLaws.{set_up_loads, open_block_loads, open_event_loads, post_loads, close_loads, finish_loads, finish_below}
use Rattle.hostcount.specs.LoadsLaws.{count_loads, latch_loads, reset_loads}
use Rattle.claims.specs.Tables.{aside_table, Exactly, exactly}
use Rattle.owners.specs.Order.{Aside, frames, latch, reset, AsideSays}
use Rattle.owners.specs.AsideLaws.{zero_or}
use Rattle.claims.specs.FromC.{Call, SetUpCall, FinishCall, FindCall, AsideFace, TakenByNone}

-- ---- "exactly when the table says"

-- numbers that are no state: 10, before the call's own rows
ten : (n : List ℕ) (rows : List (ℕ × Bool)) → on_state n (first_of rows) ≡ first_of ((10, not (is_state n)) ∷ rows)
unfolding first_of
ten n rows = go (is_state n)
  where
    go : (b : Bool) → cond b (first_of rows) 10 ≡ cond (not b) 10 (first_of rows)
    go true = refl
    go false = refl

pub c_open_block_exactly : (n words : List ℕ) (block events r : ℕ) (n' words' : List ℕ) → OpenBlockFace n words block events r n' words'
    → Exactly ((10, not (is_state n)) ∷ open_block_table (state_from n) (length words) block events) r
unfolding open_block_number
c_open_block_exactly n words block events r n' words' f = exactly _ (f.number ∙ ten n _)

pub c_open_event_exactly : (n : List ℕ) (event time r : ℕ) (n' : List ℕ) → OpenEventFace n event time r n'
    → Exactly ((10, not (is_state n)) ∷ open_event_table (state_from n) event time) r
unfolding open_event_number
c_open_event_exactly n event time r n' f = exactly _ (f.number ∙ ten n _)

pub c_post_exactly : (n store : List ℕ) (c : ℕ) (w : List ℕ) (r : ℕ) (n' store' : List ℕ) → PostFace n store c w r n' store'
    → Exactly ((10, not (is_state n)) ∷ post_table (state_from n) (length store) c w) r
unfolding post_number
c_post_exactly n store c w r n' store' f = exactly _ (f.number ∙ ten n _)

pub c_close_exactly : (n store words : List ℕ) (asked : Bool) (r : ℕ) (n' words' : List ℕ) → CloseFace n store words asked r n' words'
    → Exactly ((10, not (is_state n)) ∷ close_table (state_from n) asked store (length words)) r
unfolding close_number
c_close_exactly n store words asked r n' words' f = exactly _ (f.number ∙ ten n _)

pub c_aside_exactly : (n : List ℕ) (k : Aside) (r : ℕ) (n' : List ℕ) → AsideFace k n r n' → Exactly ((10, not (is_state n)) ∷ aside_table (state_from n) k) r
unfolding count_number latch_number reset_number
c_aside_exactly n (frames samples) r n' f = exactly _ (f.number ∙ ten n _)
c_aside_exactly n latch r n' f = exactly _ (f.number ∙ ten n _)
c_aside_exactly n reset r n' f = exactly _ (f.number ∙ ten n _)

-- the refusal of a finish stands above 2^32, where no length reaches
high : (k size : ℕ) → (k ≡ 0 → size < 2 ^ 32) → in_high k size / 2 ^ 32 ≡ k
high k size h =
    zero_or k (λ z. let l : size < 4294967296 = h z in ap (λ (i : ℕ). i / 4294967296) (done size _ z) ∙ omega arith)
    (λ ne. ap (λ (i : ℕ). i / 4294967296) (refused k size (k * 4294967296) ne) ∙ omega arith)

pub c_finish_exactly : (n words : List ℕ) (r : ℕ) (n' words' : List ℕ) → FinishFace n words r n' words'
    → Exactly ((10, not (is_state n)) ∷ finish_table (state_from n) (length words)) (r / 2 ^ 32)
unfolding finish_number
c_finish_exactly n words r n' words' f =
    exactly _ (ap (λ (k : ℕ). k / 2 ^ 32) f.number ∙ (high (finish_on n (length words)) _ (finish_below n (length words)) ∙ ten n _))

-- rows, and behind them others
first_append : (rows more : List (ℕ × Bool)) → numbered rows ≡ true → or_else (first_of rows) (first_of more) ≡ first_of (rows ++ more)
unfolding first_of
first_append [] more h = refl
first_append (x ∷ rows) more h = go x.1 (first_append rows more (and_right (ltb 0 x.0) _ h))
  where
    go : (b : Bool) → or_else (first_of rows) (first_of more) ≡ first_of (rows ++ more) → or_else (cond b x.0 (first_of rows)) (first_of more) ≡ cond b x.0 (first_of (rows ++ more))
    go true e = let k : 0 < x.0 = ltb-true 0 x.0 (and_left _ (numbered rows) h) in rw (ne_eqb x.0 0 (λ z. omega arith))
    go false e = e

-- numbers that are no settings: 1, before them
setting : (m : List ℕ) (rows more : List (ℕ × Bool)) → numbered rows ≡ true
    → or_else (on_settings m (first_of rows)) (first_of more) ≡ first_of ((1, not (is_settings m)) ∷ (rows ++ more))
unfolding first_of
setting m rows more h = go (is_settings m)
  where
    go : (b : Bool) → or_else (cond b (first_of rows) 1) (first_of more) ≡ cond (not b) 1 (first_of (rows ++ more))
    go true = first_append rows more h
    go false = refl

pub c_set_up_exactly : (m n : List ℕ) (r : ℕ) (n' : List ℕ) → SetUpFace m n r n'
    → Exactly ((1, not (is_settings m)) ∷ (1, not (settings_ok (settings_from m))) ∷ (bad_array, not (eqb (length n) state_count)) ∷ []) r
unfolding set_up_number first_of
c_set_up_exactly m n r n' f =
    exactly _ (f.number ∙ (ap (or_else (on_settings m (set_up_number (settings_from m)))) (go (eqb (length n) state_count))
    ∙ setting m ((1, not (settings_ok (settings_from m))) ∷ []) ((bad_array, not (eqb (length n) state_count)) ∷ []) refl))
  where
    go : (b : Bool) → cond {A = ℕ} b 0 bad_array ≡ cond (not b) bad_array 0
    go true = refl
    go false = refl

pub c_find_exactly : (m : List ℕ) (c : ℕ) (w out : List ℕ) (r : ℕ) (out' : List ℕ) → FindFace m c w out r out'
    → Exactly ((1, not (is_settings m)) ∷ (find_table (settings_from m) c w ++ ((bad_array, ltb (length out) found_count) ∷ []))) r
unfolding find_number find_table first_of
c_find_exactly m c w out r out' f = exactly _ (f.number ∙ setting m (find_table (settings_from m) c w) ((bad_array, ltb (length out) found_count) ∷ []) refl)

-- "10" for numbers that are no state
pub no_state : (n : List ℕ) (rows : List (ℕ × Bool)) (r : ℕ) → is_state n ≡ false → Exactly ((10, not (is_state n)) ∷ rows) r → r ≡ 10
no_state n rows r e x = x.always 10 (this_row (10, not (is_state n)) rows (ap not e))

-- ---- "returns the state it was handed and alters no sample or word"

pub c_open_block_refused : (n words : List ℕ) (block events r : ℕ) (n' words' : List ℕ) → OpenBlockFace n words block events r n' words' → (r ≡ 0 → ⊥)
    → (n' ≡ n) × (words' ≡ words)
c_open_block_refused n words block events r n' words' f ne = (f.numbers ∙ refused r _ _ ne, f.buffer ∙ refused r _ _ ne)

pub c_open_event_refused : (n : List ℕ) (event time r : ℕ) (n' : List ℕ) → OpenEventFace n event time r n' → (r ≡ 0 → ⊥) → n' ≡ n
c_open_event_refused n event time r n' f ne = f.numbers ∙ refused r _ _ ne

pub c_post_refused : (n store : List ℕ) (c : ℕ) (w : List ℕ) (r : ℕ) (n' store' : List ℕ) → PostFace n store c w r n' store' → (r ≡ 0 → ⊥)
    → (n' ≡ n) × (store' ≡ store)
c_post_refused n store c w r n' store' f ne = (f.numbers ∙ refused r _ _ ne, f.rows ∙ refused r _ _ ne)

pub c_close_refused : (n store words : List ℕ) (asked : Bool) (r : ℕ) (n' words' : List ℕ) → CloseFace n store words asked r n' words' → (r ≡ 0 → ⊥)
    → (n' ≡ n) × (words' ≡ words)
c_close_refused n store words asked r n' words' f ne = (f.numbers ∙ refused r _ _ ne, f.buffer ∙ refused r _ _ ne)

pub c_aside_refused : (n : List ℕ) (k : Aside) (r : ℕ) (n' : List ℕ) → AsideFace k n r n' → (r ≡ 0 → ⊥) → n' ≡ n
c_aside_refused n (frames samples) r n' f ne = f.numbers ∙ refused r _ _ ne
c_aside_refused n latch r n' f ne = f.numbers ∙ refused r _ _ ne
c_aside_refused n reset r n' f ne = f.numbers ∙ refused r _ _ ne

-- a finish is refused where its answer is 2^32 or more, and nowhere else
pub over : (n words : List ℕ) (r : ℕ) (n' words' : List ℕ) → FinishFace n words r n' words' → 2 ^ 32 ≤ r → finish_on n (length words) ≡ 0 → ⊥
over n words r n' words' f l z =
    let b = finish_below n (length words) z in
    let e = f.number ∙ done _ _ z in
    omega arith

pub below : (n words : List ℕ) (r : ℕ) (n' words' : List ℕ) → FinishFace n words r n' words' → r < 2 ^ 32 → finish_on n (length words) ≡ 0
below n words r n' words' f l =
    let k : ℕ = finish_on n (length words) in
    zero_or k (λ z. z) (λ ne. let e : r ≡ k * 2 ^ 32 = f.number ∙ refused k _ _ ne in absurd (omega arith))

pub c_finish_refused : (n words : List ℕ) (r : ℕ) (n' words' : List ℕ) → FinishFace n words r n' words' → 2 ^ 32 ≤ r → (n' ≡ n) × (words' ≡ words)
c_finish_refused n words r n' words' f l = let ne = over n words r n' words' f l in (f.numbers ∙ refused _ _ _ ne, f.buffer ∙ refused _ _ _ ne)

-- ---- nothing old is left

-- a refused set up leaves as many zeros as a state has; an array of another length stays
pub c_set_up_refused : (m n : List ℕ) (r : ℕ) (n' : List ℕ) → SetUpFace m n r n' → (r ≡ 0 → ⊥) → n' ≡ cond (eqb (length n) state_count) (replicate state_count 0) n
c_set_up_refused m n r n' f ne = f.numbers ∙ ap (λ (l : List ℕ). cond (eqb (length n) state_count) l n) (refused r (numbers_of (idle (settings_from m) nothing_counted)) _ ne)

-- which are the numbers of a state, but of one whose mode, 0, is none
zeros_state : is_state (replicate state_count 0) ≡ true
unfolding is_state is_settings held_in
zeros_state = refl

zeros_out : state_ok (state_from (replicate state_count 0)) ≡ false
unfolding Rattle.state.specs.State.all_open state_from settings_from marks_from table
zeros_out = refl

zeros_ten : (rows : List (ℕ × Bool)) → on_state (replicate state_count 0) (first_of ((10, not (state_ok (state_from (replicate state_count 0)))) ∷ rows)) ≡ 10
unfolding first_of
zeros_ten rows = rw (zeros_state, zeros_out)

zeros_not_counted : (k : Aside) (r : ℕ) (n' : List ℕ) → AsideFace k (replicate state_count 0) r n' → r ≡ 10
unfolding count_number count_table latch_number latch_table reset_number reset_table
zeros_not_counted (frames samples) r n' f = f.number ∙ zeros_ten _
zeros_not_counted latch r n' f = f.number ∙ zeros_ten _
zeros_not_counted reset r n' f = f.number ∙ zeros_ten _

pub zeros_taken_by_none : TakenByNone (replicate state_count 0)
unfolding open_block_number open_block_table open_event_number open_event_table post_number post_table close_number close_table finish_number finish_table
zeros_taken_by_none =
    record {
      open_block = λ words block events r n' words' f. f.number ∙ zeros_ten _;
      open_event = λ event time r n' f. f.number ∙ zeros_ten _;
      post = λ store c w r n' store' f. f.number ∙ zeros_ten _;
      close = λ store words asked r n' words' f. f.number ∙ zeros_ten _;
      finish = λ words r n' words' f. f.number ∙ in_high_lem _ _ (zeros_ten _);
      counted = zeros_not_counted;
    }
  where
    in_high_lem : (k size : ℕ) → k ≡ 10 → in_high k size ≡ 10 * 2 ^ 32
    in_high_lem k size e = rw e

-- a refused set up leaves no state that a call takes
pub c_set_up_leaves_none : (m n : List ℕ) (r : ℕ) (n' : List ℕ) → SetUpFace m n r n' → (r ≡ 0 → ⊥) → length n ≡ state_count → TakenByNone n'
c_set_up_leaves_none m n r n' f ne l = rw (c_set_up_refused m n r n' f ne, eq-eqb (length n) state_count l) zeros_taken_by_none

-- a refused find leaves zeros, no pulses, and what is past them; an array that is too short stays
pub c_find_refused : (m : List ℕ) (c : ℕ) (w out : List ℕ) (r : ℕ) (out' : List ℕ) → FindFace m c w out r out' → (r ≡ 0 → ⊥)
    → out' ≡ cond (ltb (length out) found_count) out (splice out 0 (replicate found_count 0))
c_find_refused m c w out r out' f ne = f.numbers ∙ ap (λ (l : List ℕ). cond (ltb (length out) found_count) out (splice out 0 l)) (refused r _ _ ne)

-- so that it tells of no pulse: the count is 0
pub c_find_tells_none : (m : List ℕ) (c : ℕ) (w out : List ℕ) (r : ℕ) (out' : List ℕ) → FindFace m c w out r out' → (r ≡ 0 → ⊥) → found_count ≤ length out → get_or out' 0 0 ≡ 0
unfolding splice
c_find_tells_none m c w out r out' f ne l = rw (c_find_refused m c w out r out' f ne, le-ltb (length out) found_count l)

-- ---- a C call on a state is the library's call

-- the refusals at their numbers; 17 and 18 are no call's
abbrev refusals : List Outcome
refusals =
    Ok tt ∷ Err F.Setting ∷ Err F.Store ∷ Err F.Sample ∷ Err F.Channel ∷ Err F.Length ∷ Err F.Posted ∷ Err F.Turn ∷ Err F.Number ∷ Err F.Room ∷ Err F.State
    ∷ Err F.Missing ∷ Err F.Unallowed ∷ Err F.Bits ∷ Err F.Count ∷ Err F.Slot ∷ Err F.Bytes ∷ Ok tt ∷ Ok tt ∷ Err F.Frames ∷ []

abbrev refusal_at : ℕ → Outcome
refusal_at n = get_or refusals n (Ok tt)

-- every row's number is a refusal's
abbrev named : List (ℕ × Bool) → Bool
named [] = true
named (r ∷ rows) = eqb (told (refusal_at r.0)) r.0 && named rows

-- the refusal that a table gives
abbrev refusal_in : List (ℕ × Bool) → Outcome
refusal_in rows = refusal_at (first_of rows)

number_in : (rows : List (ℕ × Bool)) → named rows ≡ true → told (refusal_in rows) ≡ first_of rows
unfolding first_of
number_in [] h = refl
number_in (r ∷ rows) h = go r.1 (number_in rows (and_right (eqb (told (refusal_at r.0)) r.0) _ h))
  where
    go : (b : Bool) → told (refusal_in rows) ≡ first_of rows → told (refusal_at (cond b r.0 (first_of rows))) ≡ cond b r.0 (first_of rows)
    go true e = eqb-true _ _ (and_left _ (named rows) h)
    go false e = e

-- an accepted call's numbers load as the new state, a refused one's as the old
either_loads : {n n' : List ℕ} (k : ℕ) (new : State) → is_state n ≡ true → (k ≡ 0 → Loads n' new) → ((k ≡ 0 → ⊥) → n' ≡ n) → Loads n' (if_accepted k new (state_from n))
either_loads {n} {n'} k new e f g =
    zero_or k (λ z. subst (Loads n') (sym (done new (state_from n) z)) (f z))
    (λ ne. subst (λ (m : List ℕ). Loads m (if_accepted k new (state_from n))) (sym (g ne)) (record { state = e; back = sym (refused k new (state_from n) ne) }))

lent : {A : Type 0} {x : A} {i k : ℕ} (new old : A) → i ≡ k → x ≡ if_accepted i new old → x ≡ if_accepted k new old
lent new old e h = h ∙ ap (λ (j : ℕ). if_accepted j new old) e

-- one law for the calls on a state: the call's table, the state that it gives, and what its contract says
made : (n : List ℕ) (rows : List (ℕ × Bool)) (new : State) {says : Answer → Type 0} {r : ℕ} {n' : List ℕ} → is_state n ≡ true → named rows ≡ true
    → r ≡ on_state n (first_of rows) → n' ≡ if_accepted r (numbers_of new) n → (0 ≡ r → Loads n' new)
    → (told (refusal_in rows) ≡ first_of rows → r ≡ first_of rows → says (record { refusal = refusal_in rows; state = if_accepted (first_of rows) new (state_from n) }))
    → Call says r n'
made n rows new {r = r} e ok h p f g =
    let same : r ≡ first_of rows = h ∙ ap (λ (b : Bool). cond b (first_of rows) 10) e in
    record {
      answer = record { refusal = refusal_in rows; state = if_accepted (first_of rows) new (state_from n) };
      said = g (number_in rows ok) same;
      number = number_in rows ok ∙ sym same;
      state = either_loads (first_of rows) new e (λ z. f (sym (same ∙ z))) (λ ne. p ∙ refused r _ _ (λ z. ne (sym same ∙ z)));
    }

-- so the numbers left are those of the answer's state
pub call_leaves : {says : Answer → Type 0} {r : ℕ} {n' : List ℕ} (k : Call says r n') → n' ≡ numbers_of k.answer.state
call_leaves {n' = n'} k = sym (numbers_back n' k.state.state) ∙ ap numbers_of k.state.back

pub open_block_call : (n words : List ℕ) (block events r : ℕ) (n' words' : List ℕ) → is_state n ≡ true → OpenBlockFace n words block events r n' words'
    → Call (λ a. OpenBlockSays (state_from n) words block events a words') r n'
unfolding open_block_number open_block_table
open_block_call n words block events r n' words' e f =
    made n (open_block_table (state_from n) (length words) block events) (block_opened (state_from n) block events) e refl f.number f.numbers
    (λ z. open_block_loads n words block events n' words' (subst (λ (i : ℕ). OpenBlockFace n words block events i n' words') (sym z) f))
    (λ z same. record { refusal = z; state = refl; buffer = lent _ _ same f.buffer })

pub open_event_call : (n : List ℕ) (event time r : ℕ) (n' : List ℕ) → is_state n ≡ true → OpenEventFace n event time r n'
    → Call (λ a. OpenEventSays (state_from n) event time a) r n'
unfolding open_event_number open_event_table
open_event_call n event time r n' e f =
    made n (open_event_table (state_from n) event time) (with_event (state_from n) event time) e refl f.number f.numbers
    (λ z. open_event_loads n event time n' (subst (λ (i : ℕ). OpenEventFace n event time i n') (sym z) f))
    (λ z same. record { refusal = z; state = refl })

pub post_call : (n store : List ℕ) (c : ℕ) (w : List ℕ) (r : ℕ) (n' store' : List ℕ) → is_state n ≡ true → PostFace n store c w r n' store'
    → Call (λ a. PostSays (state_from n) store c w a store') r n'
unfolding post_number post_table
post_call n store c w r n' store' e f =
    made n (post_table (state_from n) (length store) c w) (posted (state_from n) c) e refl f.number f.numbers
    (λ z. post_loads n store c w n' store' (subst (λ (i : ℕ). PostFace n store c w i n' store') (sym z) f))
    (λ z same. record { refusal = z; state = refl; rows = lent _ _ same f.rows })

pub close_call : (n store words : List ℕ) (asked : Bool) (r : ℕ) (n' words' : List ℕ) → is_state n ≡ true → CloseFace n store words asked r n' words'
    → Call (λ a. CloseSays (state_from n) store words asked a words') r n'
unfolding close_number close_table
close_call n store words asked r n' words' e f =
    made n (close_table (state_from n) asked store (length words)) (event_closed (state_from n) asked store) e refl f.number f.numbers
    (λ z. close_loads n store words asked n' words' (subst (λ (i : ℕ). CloseFace n store words asked i n' words') (sym z) f))
    (λ z same. record { refusal = z; state = refl; buffer = lent _ _ same f.buffer })

-- frames, latch and reset
pub aside_call : (n : List ℕ) (k : Aside) (r : ℕ) (n' : List ℕ) → is_state n ≡ true → AsideFace k n r n' → Call (AsideSays k (state_from n)) r n'
unfolding count_number count_table latch_number latch_table reset_number reset_table
aside_call n (frames samples) r n' e f =
    made n (count_table (state_from n) samples) (with_frames (state_from n) samples) e refl f.number f.numbers
    (λ z. count_loads n samples n' (subst (λ (i : ℕ). CountFace n samples i n') (sym z) f))
    (λ z same. record { refusal = z; state = refl })
aside_call n latch r n' e f =
    made n (latch_table (state_from n)) (with_scalers (state_from n) (latched_now (state_from n).scalers)) e refl f.number f.numbers
    (λ z. latch_loads n n' (subst (λ (i : ℕ). LatchFace n i n') (sym z) f))
    (λ z same. record { refusal = z; state = refl })
aside_call n reset r n' e f =
    made n (reset_table (state_from n)) (with_scalers (state_from n) (reset_now (state_from n).scalers)) e refl f.number f.numbers
    (λ z. reset_loads n n' (subst (λ (i : ℕ). ResetFace n i n') (sym z) f))
    (λ z same. record { refusal = z; state = refl })

pub finish_call : (n words : List ℕ) (r : ℕ) (n' words' : List ℕ) → is_state n ≡ true → FinishFace n words r n' words' → FinishCall n words r n' words'
unfolding finish_number finish_table
finish_call n words r n' words' e f =
    let rows = finish_table (state_from n) (length words) in
    let k : ℕ = first_of rows in
    let size : ℕ = (state_from n).words + length (end_items (state_from n).settings (state_from n).words) in
    let same : finish_on n (length words) ≡ k = ap (λ (b : Bool). cond b k 10) e in
    record {
      answer = record { refusal = refusal_in rows; state = if_accepted k (idle (state_from n).settings (state_from n).scalers) (state_from n); length = if_accepted k size 0 };
      said = record { refusal = number_in rows refl; state = refl; size = refl; buffer = lent _ _ same f.buffer };
      number = ap (λ (i : ℕ). in_high i (if_accepted k size 0)) (number_in rows refl) ∙ (twice (eqb k 0) size (k * 2 ^ 32) ∙ sym (f.number ∙ ap (λ (i : ℕ). in_high i size) same));
      state =
          either_loads k (idle (state_from n).settings (state_from n).scalers) e (λ z. finish_loads n words r n' words' f (same ∙ z)) (λ ne. f.numbers ∙ refused _ _ _ (λ z. ne (sym same ∙ z)));
    }
  where
    twice : (b : Bool) (size other : ℕ) → cond b (cond b size 0) other ≡ cond b size other
    twice true size other = refl
    twice false size other = refl

-- a set up with the numbers of settings, into as many numbers as a state has
pub set_up_call : (m n : List ℕ) (r : ℕ) (n' : List ℕ) → is_settings m ≡ true → length n ≡ state_count → SetUpFace m n r n' → SetUpCall m r n'
unfolding set_up_number
set_up_call m n r n' e l f =
    let rows : List (ℕ × Bool) = (1, not (settings_ok (settings_from m))) ∷ [] in
    let k : ℕ = first_of rows in
    let same : r ≡ k =
    f.number ∙ (ap₂ (λ (a b : Bool). or_else (cond a k 1) (cond b 0 bad_array)) e (eq-eqb (length n) state_count l) ∙ none_later k) in
    record {
      answer = record { refusal = refusal_in rows; state = if_accepted k (idle (settings_from m) nothing_counted) blank };
      said = record { refusal = number_in rows refl; state = refl };
      number = number_in rows refl ∙ sym same;
      state = λ z. subst (Loads n') (sym (done _ _ (sym same ∙ z))) (set_up_loads m n n' (subst (λ (i : ℕ). SetUpFace m n i n') z f));
    }

-- the finder's answer of an outcome
abbrev with_found : Outcome → Pulses → Result Pulses Refusal
with_found (Ok u) found = Ok found
with_found (Err r) found = Err r

told_with : (o : Outcome) (found : Pulses) → told (with_found o found) ≡ told o
told_with (Ok u) found = refl
told_with (Err r) found = refl

found_with : (o : Outcome) (found : Pulses) → (eqb (told o) 0 ≡ false → found ≡ packed []) → found_in (with_found o found) ≡ found
found_with (Ok u) found h = refl
found_with (Err r) found h = sym (h (number_some r))

-- the finder with the numbers of settings, and room for what it tells
pub find_call : (m : List ℕ) (c : ℕ) (w out : List ℕ) (r : ℕ) (out' : List ℕ) → is_settings m ≡ true → found_count ≤ length out → FindFace m c w out r out' → FindCall m c w out r out'
unfolding find_number find_table
find_call m c w out r out' e l f =
    let s = settings_from m in
    let rows = find_table s c w in
    let k : ℕ = first_of rows in
    let numbers = found_numbers (packed (found_pulses s c w)) in
    let same : r ≡ k = f.number ∙ (ap₂ (λ (a b : Bool). or_else (cond a k 1) (cond b bad_array 0)) e (le-ltb (length out) found_count l) ∙ none_later k) in
    let found : Pulses = packed (found_pulses s c w) in
    let number : told (with_found (refusal_in rows) found) ≡ k = told_with (refusal_in rows) found ∙ number_in rows refl in
    let none : eqb (told (refusal_in rows)) 0 ≡ false → found ≡ packed [] = λ h. ap packed (found_none s c w (ap (λ (i : ℕ). eqb i 0) (sym (number_in rows refl)) ∙ h)) in
    let g : found_in (with_found (refusal_in rows) found) ≡ found = found_with (refusal_in rows) found none in
    record {
      answer = with_found (refusal_in rows) found;
      said = find_says s c w number g;
      number = number ∙ sym same;
      found = f.numbers ∙ rw (le-ltb (length out) found_count l) (ap (splice out 0) (ap (λ (i : ℕ). if_accepted i numbers (replicate found_count 0)) same ∙ found_or_zeros s c w)) ∙ ap (λ (x : Pulses). splice out 0 (found_numbers x)) (sym g);
    }
