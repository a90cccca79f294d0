-- The numbers that a call leaves are those of the state that it gives. Assumes nothing.
use Rattle.std.specs.Prelude.{ℕ, ◌+◌, ◌*◌, ◌^◌, ◌≤◌, ◌≡◌, refl, Bool, false, eqb, length, replicate}
use Rattle.std.proofs.Math.Path.{sym, ap}
use Rattle.std.proofs.Common.{◌∙◌, arith}
use Rattle.std.proofs.Math.Bool.{true, cond}
use mathlib.Core.List.{List, ◌++◌}
use borrow.Author.Tests.{eq-eqb, ne_eqb, eqb-true}
use Rattle.std.proofs.lemmas.List.{length-replicate}
use Rattle.ground.specs.Splice.{splice}
use Rattle.ground.specs.SpliceLaws.{splice_all}
use Rattle.ground.specs.Tests.{first_of}
use Rattle.copies.specs.Copies.{pasted}
use Rattle.copies.specs.CopiesLaws.{pasted_fits}
use Rattle.settings.specs.declared.Settings.{Settings}
use Rattle.refusals.specs.Refusal.{number_of, told, bad_array, if_accepted, or_else}
use Rattle.refusals.specs.RefusalLaws.{none_later}
use Rattle.refusals.specs.declared.Refusal.TheVariants as R
use Rattle.items.specs.Items.{words_of}
use Rattle.scalers.specs.Scalers.{nothing_counted}
use Rattle.state.specs.declared.State.{State}
use Rattle.state.specs.State.{idle, blank, with_block, with_event, with_closed}
use Rattle.state.specs.StateLaws.{blank_out}
use Rattle.writer.specs.Answer.{Answer}
use Rattle.writer.specs.Answer.{Finished}
use Rattle.writer.specs.Calls.{SetUpSays, OpenBlockSays, OpenEventSays, row_start, PostSays, FinishSays}
use Rattle.closing.specs.Closing.{CloseSays}
use Rattle.refusing.specs.Tables.{set_up_number, open_block_table, open_block_number, open_event_table, open_event_number, post_table, post_number, closing_items, close_table, close_number, finish_table, finish_number}
use Rattle.refusing.specs.TablesLaws.{post_accepted}
use Rattle.block.specs.Block.{block_items, end_items}
use Rattle.writer.specs.CallsLaws.{done}
use Rattle.places.specs.Places.{marks_at, front_count, state_count, is_settings, is_state}
use Rattle.numbers.specs.Numbers.{settings_from, state_from, settings_or_none, state_or_none, head_of, scaler_numbers, numbers_of, head_stored, state_stored}
use Rattle.numbers.specs.On.{on_settings}
use Rattle.numbers.specs.OnLaws.{none_out, settings_number, settings_accepted}
use Rattle.places.specs.PlacesLaws.{settings_count_lem, state_count_lem, front_held}
use Rattle.numbers.specs.CallLaws.{call_number, call_lent, call_numbers, call_accepted, call_placed}
use Rattle.numbers.specs.BackLaws.{settings_back, event_stored, mark_stored}
use Rattle.host.specs.Face.{block_opened, posted, event_closed, finish_on, in_high, SetUpFace, OpenBlockFace, OpenEventFace, PostFace, CloseFace, FinishFace}
use Rattle.host.specs.Inner.{Kept, event_placed, MarkFits, mark_placed}

-- the numbers of an answer, told by the number that C gets
left : {n : List ℕ} {number : ℕ} {s : State} {r : ℕ} {n' : List ℕ} → Kept n number s r n' → n' ≡ if_accepted r (head_stored n s) n
left {n = n} {s = s} k = k.left ∙ ap (λ (j : ℕ). if_accepted j (head_stored n s) n) (sym k.answer)

pub kept_done : (n : List ℕ) (number : ℕ) (s : State) (n' : List ℕ) → eqb number 0 ≡ true → n' ≡ head_stored n s → Kept n number s 0 n'
kept_done n number s n' e f = record { answer = sym (eqb-true number 0 e); left = rw e f }

pub kept_refused : (n : List ℕ) (number : ℕ) (s : State) (r : ℕ) → eqb number 0 ≡ false → r ≡ number → Kept n number s r n
kept_refused n number s r e f = record { answer = f; left = rw e }

-- ---- set up

set_up_out : set_up_number blank.settings ≡ number_of R.Setting
unfolding set_up_number first_of
set_up_out = rw none_out

module _ (m n : List ℕ) {s : Settings} {a : Answer} (f : s ≡ settings_or_none m) (d : SetUpSays s a) where
  first_number : (later : ℕ) → or_else (on_settings m (set_up_number (settings_from m))) later ≡ or_else (told a.refusal) later
  first_number later = ap (λ (k : ℕ). or_else k later) (sym (d.refusal ∙ ap set_up_number f ∙ settings_number m set_up_number set_up_out))

  pub set_up_other : {r : ℕ} → r ≡ or_else (told a.refusal) bad_array → (length n ≡ state_count → ⊥) → SetUpFace m n r n
  set_up_other g k = record { number = rw (ne_eqb _ _ k) (g ∙ sym (first_number bad_array)); numbers = rw (ne_eqb _ _ k) }

  pub set_up_refused : {r : ℕ} {n' : List ℕ} → length n ≡ state_count → eqb (told a.refusal) 0 ≡ false → n' ≡ pasted n 0 (replicate state_count 0) → r ≡ told a.refusal → SetUpFace m n r n'
  set_up_refused k h e g =
      let zeros : List ℕ = replicate state_count 0 in
      let whole : length zeros ≡ length n = length-replicate {A = ℕ} state_count 0 ∙ sym k in
      record {
        number = rw (eq-eqb _ _ k) (g ∙ sym (first_number 0 ∙ none_later (told a.refusal)));
        numbers = rw (eq-eqb _ _ k, ap (λ (j : ℕ). eqb j 0) g ∙ h) (e ∙ pasted_fits n 0 zeros (omega arith) ∙ splice_all n zeros whole);
      }

  pub set_up_face : {n' : List ℕ} → eqb (told a.refusal) 0 ≡ true → length n ≡ state_count → n' ≡ state_stored n a.state m → SetUpFace m n 0 n'
  unfolding numbers_of idle
  set_up_face h k g =
      let accepted : set_up_number s ≡ 0 = sym d.refusal ∙ eqb-true _ 0 h in
      let e : is_settings m ≡ true = settings_accepted m set_up_number set_up_out (ap set_up_number (sym f) ∙ accepted) in
      let same : s ≡ settings_from m = f ∙ ap (λ (b : Bool). cond b (settings_from m) blank.settings) e in
      let state : a.state ≡ idle s nothing_counted = d.state ∙ done (idle s nothing_counted) blank accepted in
      let whole : state_stored n a.state m ≡ head_of a.state ++ (scaler_numbers a.state.scalers ++ m) = rw (eq-eqb _ _ k, eq-eqb _ _ (settings_count_lem m e)) in
      record {
        number = rw (eq-eqb _ _ k) (sym (first_number 0 ∙ rw h));
        numbers = rw (eq-eqb _ _ k) (g ∙ whole ∙ ap (λ (x : State). head_of x ++ (scaler_numbers x.scalers ++ m)) (state ∙ ap (λ (x : Settings). idle x nothing_counted) same) ∙ ap (λ (l : List ℕ). head_of (idle (settings_from m) nothing_counted) ++ (scaler_numbers nothing_counted ++ l)) (sym (settings_back m e)));
      }

-- ---- open a block

block_out : (room block events : ℕ) → open_block_number blank room block events ≡ number_of R.State
unfolding open_block_number open_block_table first_of
block_out room block events = rw blank_out

block_same : (block events : ℕ) (s : State) → ((block_opened s block events).settings ≡ s.settings) × ((block_opened s block events).scalers ≡ s.scalers)
unfolding with_block
block_same block events s = (refl, refl)

pub open_block_face : (n words : List ℕ) (block events : ℕ) {s : State} {a : Answer} {r : ℕ} {n' words' : List ℕ} → s ≡ state_or_none n
    → OpenBlockSays s words block events a words' → Kept n (told a.refusal) a.state r n' → OpenBlockFace n words block events r n' words'
open_block_face n words block events f d k =
    let number : State → ℕ = λ x. open_block_number x (length words) block events in
    let g = k.answer ∙ d.refusal in
    record {
      number = call_number n number (block_out (length words) block events) f g;
      numbers = call_numbers n number (block_out (length words) block events) f g (λ (x : State). block_opened x block events) (block_same block events) d.state (left k);
      buffer = call_lent n number (block_out (length words) block events) f g (λ (x : State). splice words x.words (words_of (block_items x.settings block events))) words d.buffer;
    }

-- ---- open an event

event_out : (event time : ℕ) → open_event_number blank event time ≡ number_of R.State
unfolding open_event_number open_event_table first_of
event_out event time = rw blank_out

pub event_room : (n : List ℕ) (event time : ℕ) {s : State} {a : Answer} → s ≡ state_or_none n → OpenEventSays s event time a → told a.refusal ≡ 0 → front_count ≤ length n
event_room n event time f d e = omega (arith, state_count_lem n (call_accepted n (λ x. open_event_number x event time) (event_out event time) f d.refusal e))

pub open_event_face : (n : List ℕ) (event time : ℕ) {s : State} {a : Answer} {r : ℕ} {n' : List ℕ} → s ≡ state_or_none n
    → OpenEventSays s event time a → r ≡ told a.refusal → n' ≡ if_accepted r (event_placed n event time a.state.scalers.triggers) n → OpenEventFace n event time r n'
open_event_face n event time {s} {a} f d h k =
    let number : State → ℕ = λ x. open_event_number x event time in
    let new : State → State = λ x. with_event x event time in
    let g = h ∙ d.refusal in
    let same : is_state n ≡ true → s ≡ state_from n = λ e. f ∙ ap (λ (b : Bool). cond b (state_from n) blank) e in
    let opened : is_state n ≡ true → number (state_from n) ≡ 0 → new (state_from n) ≡ a.state =
    λ e o. ap new (sym (same e)) ∙ sym (d.state ∙ done (new s) s (ap number (same e) ∙ o)) in
    record {
      number = call_number n number (event_out event time) f g;
      numbers = call_placed n number (event_out event time) f g new (event_placed n event time a.state.scalers.triggers) (λ e o. event_stored n event time e ∙ ap (λ (x : State). event_placed n event time x.scalers.triggers) (opened e o)) k;
    }

-- ---- post a channel

mark_out : (room c : ℕ) (w : List ℕ) → post_number blank room c w ≡ number_of R.State
unfolding post_number post_table first_of
mark_out room c w = rw blank_out

pub mark_room : (n store : List ℕ) (c : ℕ) (w : List ℕ) {s : State} {a : Answer} {store' : List ℕ} → s ≡ state_or_none n
    → PostSays s store c w a store' → told a.refusal ≡ 0 → MarkFits n c
mark_room n store c w f d e =
    let state = call_accepted n (λ x. post_number x (length store) c w) (mark_out (length store) c w) f d.refusal e in
    let a = post_accepted _ (length store) c w (sym d.refusal ∙ e) in
    record { long = omega (arith, state_count_lem n state); small = omega (arith, front_held n state marks_at (omega arith)); channel = omega (arith, a.channel) }

pub post_face : (n store : List ℕ) (c : ℕ) (w : List ℕ) {s : State} {a : Answer} {r : ℕ} {n' store' : List ℕ} → s ≡ state_or_none n
    → PostSays s store c w a store' → r ≡ told a.refusal → n' ≡ if_accepted r (mark_placed n c) n → PostFace n store c w r n' store'
post_face n store c w f d h k =
    let number : State → ℕ = λ x. post_number x (length store) c w in
    let g = h ∙ d.refusal in
    record {
      number = call_number n number (mark_out (length store) c w) f g;
      numbers =
          call_placed n number (mark_out (length store) c w) f g (λ (x : State). posted x c) (mark_placed n c)
          (λ e o. (let a = post_accepted (state_from n) (length store) c w o in mark_stored n c e (omega (arith, a.channel)) a.fresh))
          k;
      rows = call_lent n number (mark_out (length store) c w) f g (λ (x : State). splice store (row_start x c) w) store d.rows;
    }

-- ---- close the event

close_out : (asked : Bool) (store : List ℕ) (room : ℕ) → close_number blank asked store room ≡ number_of R.State
unfolding close_number close_table first_of
close_out asked store room = rw blank_out

close_same : (asked : Bool) (store : List ℕ) (s : State) → ((event_closed s asked store).settings ≡ s.settings) × ((event_closed s asked store).scalers ≡ s.scalers)
unfolding with_closed
close_same asked store s = (refl, refl)

pub close_face : (n store words : List ℕ) (asked : Bool) {s : State} {a : Answer} {r : ℕ} {n' words' : List ℕ} → s ≡ state_or_none n
    → CloseSays s store words asked a words' → Kept n (told a.refusal) a.state r n' → CloseFace n store words asked r n' words'
close_face n store words asked f d k =
    let number : State → ℕ = λ x. close_number x asked store (length words) in
    let out = close_out asked store (length words) in
    let g = k.answer ∙ d.refusal in
    record {
      number = call_number n number out f g;
      numbers = call_numbers n number out f g (λ (x : State). event_closed x asked store) (close_same asked store) d.state (left k);
      buffer = call_lent n number out f g (λ (x : State). splice words x.words (words_of (closing_items x asked store))) words d.buffer;
    }

-- ---- finish the block

idle_out : (room : ℕ) → finish_number blank room ≡ number_of R.State
unfolding finish_number finish_table first_of
idle_out room = rw blank_out

idle_same : (s : State) → ((idle s.settings s.scalers).settings ≡ s.settings) × ((idle s.settings s.scalers).scalers ≡ s.scalers)
unfolding idle
idle_same s = (refl, refl)

-- the number, the state and the words; j is the number of the refusal
pub finish_face : (n words : List ℕ) {s : State} {a : Finished} {j r : ℕ} {n' words' : List ℕ} → s ≡ state_or_none n
    → FinishSays s words a words' → Kept n (told a.refusal) a.state j n' → r ≡ in_high j a.length → FinishFace n words r n' words'
finish_face n words {a = a} {j = j} f d k h =
    let number : State → ℕ = λ x. finish_number x (length words) in
    let g = k.answer ∙ d.refusal in
    let same : j ≡ finish_on n (length words) = call_number n number (idle_out (length words)) f g in
    let size : State → ℕ = λ x. x.words + length (end_items x.settings x.words) in
    let new : State → List ℕ = λ x. splice words x.words (words_of (end_items x.settings x.words)) in
    record {
      number = h ∙ high (eqb j 0) a.length (size (state_from n)) (j * 2 ^ 32) (call_lent n number (idle_out (length words)) f g size 0 d.size) ∙ ap (λ (i : ℕ). in_high i (size (state_from n))) same;
      numbers = call_numbers n number (idle_out (length words)) f g (λ (x : State). idle x.settings x.scalers) idle_same d.state (left k) ∙ ap (λ (i : ℕ). if_accepted i (numbers_of (idle (state_from n).settings (state_from n).scalers)) n) same;
      buffer = call_lent n number (idle_out (length words)) f g new words d.buffer ∙ ap (λ (i : ℕ). if_accepted i (new (state_from n)) words) same;
    }
  where
    high : (b : Bool) (l size number : ℕ) → l ≡ cond b size 0 → cond b l number ≡ cond b size number
    high true l size number p = p
    high false l size number p = refl
