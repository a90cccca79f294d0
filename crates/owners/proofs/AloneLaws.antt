-- Demand 3 over the calls: channel c's words in the buffer, after the close, are those of its own posted window, and all words are fixed by the windows and
-- what is common to them. Assumes nothing.
use Prim.Native.Nat.{ℕ, zero, suc, ◌+◌, ◌-◌, ◌*◌, ◌/◌, ◌%◌, ◌≤◌, ◌<◌, min}
use Rattle.std.specs.Prelude.{◌≡◌, Bool, ◌&&◌, eqb, leb, ltb, length, take, drop}
use Rattle.std.proofs.Math.Path.{refl, sym, ap, ap₂}
use Rattle.std.proofs.Common.{◌∙◌, subst, arith, eqb-true, ne_eqb}
use Rattle.std.proofs.Math.Bool.{true, false, cond}
use mathlib.Core.List.{List, [], ◌∷◌, ◌++◌, append_assoc, append-nil}
use Rattle.std.proofs.Math.Decide.{dec_lt}
use Rattle.std.proofs.lemmas.Bool.{eqb-false}
use Rattle.std.proofs.Math.ListN.{get_or}
use Rattle.ground.specs.Tests.{one_of}
use Rattle.ground.specs.SpliceLaws.{row_same}
use Rattle.fields.specs.Word.{field_at}
use Rattle.fields.specs.Tag.{is_defining, is_continuation}
use Rattle.settings.specs.declared.Settings.{Settings}
use Rattle.finder.specs.declared.Pulse.{Pulse}
use Rattle.search.specs.Search.{any_over}
use Rattle.framing.specs.Words as W
use Rattle.raw.specs.declared.pair.SamplePair.{SamplePair}
use Rattle.raw.specs.Words as R
use Rattle.measures.specs.Words as M
use Rattle.items.specs.Items.{word_of, words_of}
use Rattle.items.specs.ItemsLaws.{length_words, words_append}
use Rattle.items.specs.declared.Item.{Item}
use Rattle.items.specs.declared.Item.TheVariants as I
use Rattle.pulse.specs.declared.Parts.{Parts}
use Rattle.pairs.specs.Pairs.{pair_items}
use Rattle.modes.specs.declared.Common.{Common}
use Rattle.modes.specs.Channel.{window_items, parts_of, pulses_items, common_of, pulses_of, channel_items, channel_words}
use Rattle.pulse.specs.Pulse.{set_of, raw_items, integral_item, time_item, pedestal_item, pulse_items}
use Rattle.event.specs.Event.{time_items}
use Rattle.tail.specs.Tail.{word_items, scaler_items, tail_items}
use Rattle.tail.specs.TailLaws.{length_items}
use Rattle.state.specs.declared.State.{State}
use Rattle.state.specs.State.{with_closed}
use Rattle.refusing.specs.Tables.{closing_items, close_number}
use Rattle.writer.specs.CallsLaws.{done}
use Rattle.refusing.specs.TablesLaws.{close_accepted}
use Rattle.owners.specs.Order.{Bench, Post}
use Rattle.owners.proofs.OrderLaws.{posts, run_posts}
use Rattle.owners.specs.Own.{EventRun, settings_in, latched_in, posted_window, closed_words, channel_types, is_own, to_come, of_channel, words_for, Alike}
use Rattle.owners.proofs.OwnLaws.{window_for, items_for, own_items, own_event, records_of, window_out, own_records, records_asides, opened_as, latched_le}

-- ---- whose a word is

-- a word picked or not, and no scaler words behind it
record Picked (c : ℕ) (own on : Bool) (word : ℕ) : Type 0 where
  mine : is_own c own word ≡ on
  next : to_come word ≡ 0

pick_one : (c : ℕ) (own on : Bool) (w : ℕ) (ws : List ℕ) → Picked c own on w → of_channel c own 0 (w ∷ ws) ≡ cond on (w ∷ []) [] ++ of_channel c on 0 ws
unfolding of_channel
pick_one c own on w ws p = rw (p.mine, p.next)

-- a defining word: bit 31, the type, the channel, and what stands below
defined : (c : ℕ) (own : Bool) (t d low : ℕ) {word : ℕ} → word ≡ 2147483648 + (t * 134217728 + (d * 8388608 + low)) → t ≤ 15 → d ≤ 15 → low < 8388608
    → eqb t 12 ≡ false → Picked c own (one_of t channel_types && eqb d c) word
unfolding is_own to_come is_defining is_continuation field_at
defined c own t d low {word} e h k l other =
    let bit : word / 2147483648 % 2 ≡ 1 = omega arith in
    let tag : word / 134217728 % 16 ≡ t = omega arith in
    let channel : word / 8388608 % 16 ≡ d = omega arith in
    record { mine = rw (bit, tag, channel); next = rw (bit, tag, other) }

continued : (c : ℕ) (own : Bool) {word : ℕ} → word < 2147483648 → Picked c own own word
unfolding is_own to_come is_defining is_continuation field_at
continued c own {word} l =
    let bit : word / 2147483648 % 2 ≡ 0 = omega arith in
    record { mine = rw bit; next = rw bit }

own_pair : (c : ℕ) (own : Bool) (r : SamplePair) → Picked c own own (word_of (I.Pair r))
unfolding word_of R.pair
own_pair c own r = continued c own (omega arith)

module _ (c : ℕ) (own : Bool) (d : ℕ) (h : d ≤ 15) where
  own_window : (width : ℕ) → Picked c own (eqb d c) (word_of (I.Window (record { channel = d; width = width })))
  unfolding word_of R.window
  own_window width = defined c own 4 d (width % 4096) (omega arith) (omega arith) h (omega arith) refl

  own_raw : (pulse tc : ℕ) → Picked c own (eqb d c) (word_of (I.Raw (record { channel = d; pulse = pulse; tc = tc })))
  unfolding word_of R.pulse_raw
  own_raw pulse tc = defined c own 6 d (pulse % 4 * 2097152 + tc % 1024) (omega arith) (omega arith) h (omega arith) refl

  own_integral : (i : ℕ) (p : Pulse) → Picked c own (eqb d c) (word_of (integral_item d i p))
  unfolding word_of M.integral integral_item
  own_integral i p = let q : ℕ = cond (ltb 524287 p.sum) 1 0 in defined c own 7 d (i % 4 * 2097152 + (q % 4 * 524288 + min p.sum 524287 % 524288)) (omega arith) (omega arith) h (omega arith) refl

  own_time : (high : Bool) (i : ℕ) (p : Pulse) → Picked c own (eqb d c) (word_of (time_item high d i p))
  unfolding word_of M.time time_item
  own_time high i p =
      let coarse : ℕ = cond high p.time.coarse p.tc in
      let fine : ℕ = cond high p.time.fine 0 in
      defined c own 8 d (i % 4 * 2097152 + (coarse % 512 * 64 + fine % 64)) (omega arith) (omega arith) h (omega arith) refl

  own_pedestal : (i : ℕ) (p : Pulse) → Picked c own (eqb d c) (word_of (pedestal_item d i p))
  unfolding word_of M.pedestal pedestal_item
  own_pedestal i p = defined c own 10 d (i % 4 * 2097152 + (min p.time.vmin 511 % 512 * 4096 + p.time.vpeak % 4096)) (omega arith) (omega arith) h (omega arith) refl

-- ---- words that are all one channel's

-- no continuation stands first: what is picked does not depend on the word before
abbrev Fresh : ℕ → List ℕ → Type 0
Fresh c rest = of_channel c true 0 rest ≡ of_channel c false 0 rest

-- the words of the records are all picked, or none
record Part (c : ℕ) (on : Bool) (xs : List Item) : Type 0 where
  pick : (own : Bool) (rest : List ℕ) → Fresh c rest → of_channel c own 0 (words_of xs ++ rest) ≡ cond on (words_of xs) [] ++ of_channel c false 0 rest

part_fresh : {c : ℕ} {on : Bool} {xs : List Item} (rest : List ℕ) → Part c on xs → Fresh c rest → Fresh c (words_of xs ++ rest)
part_fresh rest p f = p.pick true rest f ∙ sym (p.pick false rest f)

part_none : {c : ℕ} (on : Bool) → Part c on []
part_none {c} on = record { pick = λ own rest f. go own on rest f }
  where
    go : (own on : Bool) (rest : List ℕ) → Fresh c rest → of_channel c own 0 rest ≡ cond {A = List ℕ} on [] [] ++ of_channel c false 0 rest
    go true true rest f = f
    go true false rest f = f
    go false true rest f = refl
    go false false rest f = refl

part_append : {c : ℕ} {on : Bool} {xs ys : List Item} → Part c on xs → Part c on ys → Part c on (xs ++ ys)
part_append {c} {on} {xs} {ys} p q =
    record {
      pick = λ own rest f.
          ap (λ (l : List ℕ). of_channel c own 0 (l ++ rest)) (words_append xs ys)
          ∙ (ap (of_channel c own 0) (append_assoc (words_of xs) (words_of ys) rest)
          ∙ (p.pick own (words_of ys ++ rest) (part_fresh rest q f) ∙ (ap (λ (l : List ℕ). cond on (words_of xs) [] ++ l) (q.pick false rest f) ∙ both on rest)));
    }
  where
    both : (b : Bool) (rest : List ℕ) → cond b (words_of xs) [] ++ (cond b (words_of ys) [] ++ of_channel c false 0 rest) ≡ cond b (words_of (xs ++ ys)) [] ++ of_channel c false 0 rest
    both true rest = sym (append_assoc (words_of xs) (words_of ys) (of_channel c false 0 rest)) ∙ ap (λ (l : List ℕ). l ++ of_channel c false 0 rest) (sym (words_append xs ys))
    both false rest = refl

part_if : {c : ℕ} {on : Bool} (b : Bool) {xs : List Item} → Part c on xs → Part c on (cond b xs [])
part_if true p = p
part_if {on = on} false p = part_none on

-- a word picked or not, before words that are
both_picked : (on : Bool) (w : ℕ) (ws rest : List ℕ) → cond on (w ∷ []) [] ++ (cond on ws [] ++ rest) ≡ cond on (w ∷ ws) [] ++ rest
both_picked true w ws rest = refl
both_picked false w ws rest = refl

-- a pair before words that are all picked, or none
pair_go : (c : ℕ) (on : Bool) (r : SamplePair) (xs : List Item) (rest : List ℕ) → of_channel c on 0 (words_of xs ++ rest) ≡ cond on (words_of xs) [] ++ of_channel c false 0 rest
    → of_channel c on 0 (words_of (I.Pair r ∷ xs) ++ rest) ≡ cond on (words_of (I.Pair r ∷ xs)) [] ++ of_channel c false 0 rest
pair_go c on r xs rest h =
    pick_one c on on (word_of (I.Pair r)) (words_of xs ++ rest) (own_pair c on r)
    ∙ (ap (λ (l : List ℕ). cond on (word_of (I.Pair r) ∷ []) [] ++ l) h ∙ both_picked on (word_of (I.Pair r)) (words_of xs) (of_channel c false 0 rest))

-- pairs behind a word that is picked or not
pairs_go : (c : ℕ) (on : Bool) (w rest : List ℕ) → Fresh c rest → of_channel c on 0 (words_of (pair_items w) ++ rest) ≡ cond on (words_of (pair_items w)) [] ++ of_channel c false 0 rest
pairs_go c on [] rest f = (part_none {c = c} on).pick on rest f
pairs_go c on (x ∷ []) rest f = pair_go c on _ [] rest ((part_none {c = c} on).pick on rest f)
pairs_go c on (x ∷ y ∷ w) rest f = pair_go c on _ (pair_items w) rest (pairs_go c on w rest f)

-- a word that names a channel, and the pairs behind it
part_raw : {c : ℕ} {on : Bool} (x : Item) (w : List ℕ) → ((own : Bool) → Picked c own on (word_of x)) → Part c on (x ∷ pair_items w)
part_raw {c} {on} x w h =
    record {
      pick = λ own rest f.
          pick_one c own on (word_of x) (words_of (pair_items w) ++ rest) (h own)
          ∙ (ap (λ (l : List ℕ). cond on (word_of x ∷ []) [] ++ l) (pairs_go c on w rest f) ∙ both_picked on (word_of x) (words_of (pair_items w)) (of_channel c false 0 rest));
    }

-- ---- a channel's words

module _ (c d : ℕ) (h : d ≤ 15) where
  pulse_part : (m : Parts) (w : List ℕ) (i : ℕ) (p : Pulse) → Part c (eqb d c) (pulse_items m d w i p)
  unfolding pulse_items raw_items
  pulse_part m w i p =
      part_append (part_if m.raw (part_raw _ (set_of w p) (λ own. own_raw c own d h i p.tc)))
      (part_append (part_if m.integral (part_raw _ [] (λ own. own_integral c own d h i p)))
      (part_append (part_if m.time (part_raw _ [] (λ own. own_time c own d h m.high i p))) (part_if m.pedestal (part_raw _ [] (λ own. own_pedestal c own d h i p)))))

  pulses_part : (m : Parts) (w : List ℕ) (i : ℕ) (l : List Pulse) → Part c (eqb d c) (pulses_items m d w i l)
  unfolding pulses_items
  pulses_part m w i [] = part_none (eqb d c)
  pulses_part m w i (p ∷ l) = part_append (pulse_part m w i p) (pulses_part m w (i + 1) l)

  items_part : (s : Settings) (ws : List (List ℕ)) → Part c (eqb d c) (items_for s d ws)
  unfolding channel_items window_items
  items_part s [] = part_none (eqb d c)
  items_part s (w ∷ ws) =
      let t : ℕ = get_or s.thresholds d 0 in
      part_append (part_if ((parts_of s.mode).window && any_over w t) (part_raw _ w (λ own. own_window c own d h (length w))))
      (pulses_part (parts_of s.mode) w 0 (pulses_of (common_of s) t w))

-- ---- all channels

-- behind them stand words that are no channel's and begin with no continuation
module _ (s : Settings) (windows : ℕ → List (List ℕ)) (c : ℕ) (rest : List ℕ) (others : (own : Bool) → of_channel c own 0 rest ≡ []) where
  -- the words of n channels from d on, and the others
  abbrev words_from : ℕ → ℕ → List ℕ
  words_from d n = words_of (own_items s windows d n) ++ rest

  words_step : (d n : ℕ) → words_from d (suc n) ≡ words_of (items_for s d (windows d)) ++ words_from (d + 1) n
  unfolding own_items
  words_step d n =
      ap (λ (l : List ℕ). l ++ rest) (words_append (items_for s d (windows d)) (own_items s windows (d + 1) n))
      ∙ append_assoc (words_of (items_for s d (windows d))) (words_of (own_items s windows (d + 1) n)) rest

  own_fresh : (d n : ℕ) → d + n ≤ 16 → Fresh c (words_from d n)
  unfolding own_items
  own_fresh d zero h = others true ∙ sym (others false)
  own_fresh d (suc n) h = rw (words_step d n) (part_fresh (words_from (d + 1) n) (items_part c d (omega arith) s (windows d)) (own_fresh (d + 1) n (omega arith)))

  own_step : (d n : ℕ) → d + suc n ≤ 16
      → of_channel c false 0 (words_from d (suc n)) ≡ cond (eqb d c) (words_of (items_for s d (windows d))) [] ++ of_channel c false 0 (words_from (d + 1) n)
  own_step d n h = rw (words_step d n) ((items_part c d (omega arith) s (windows d)).pick false (words_from (d + 1) n) (own_fresh (d + 1) n (omega arith)))

  -- c is none of them
  own_none : (d n : ℕ) → d + n ≤ 16 → ((i : ℕ) → i < n → d + i ≡ c → ⊥) → of_channel c false 0 (words_from d n) ≡ []
  unfolding own_items
  own_none d zero k h = others false
  own_none d (suc n) k h =
      let m : (d ≡ c → ⊥) = λ e. h 0 (omega arith) (omega arith) in
      own_step d n k ∙ rw (ne_eqb d c m) (own_none (d + 1) n (omega arith) (λ i l e. h (suc i) (omega arith) (omega arith)))

  own_at : (d n : ℕ) → d + n ≤ 16 → d ≤ c → c < d + n → of_channel c false 0 (words_from d n) ≡ words_of (items_for s c (windows c))
  own_at d zero k h l = absurd (omega arith)
  own_at d (suc n) k h l = own_step d n k ∙ go (eqb d c) refl (λ j. own_at (d + 1) n (omega arith) j (omega arith))
    where
      go : (b : Bool) → eqb d c ≡ b → (d + 1 ≤ c → of_channel c false 0 (words_from (d + 1) n) ≡ words_of (items_for s c (windows c)))
          → cond b (words_of (items_for s d (windows d))) [] ++ of_channel c false 0 (words_from (d + 1) n) ≡ words_of (items_for s c (windows c))
      go true e r =
          let j : d ≡ c = eqb-true d c e in
          ap (λ (l : List ℕ). words_of (items_for s d (windows d)) ++ l) (own_none (d + 1) n (omega arith) (λ i k z. omega arith))
          ∙ (append-nil (words_of (items_for s d (windows d))) ∙ ap (λ (i : ℕ). words_of (items_for s i (windows i))) j)
      go false e r = r (omega (arith, eqb-false d c e))

  own_picked : (16 ≤ c → windows c ≡ []) → of_channel c false 0 (words_from 0 16) ≡ words_of (items_for s c (windows c))
  own_picked w =
      elim (dec_lt c 16) [
        | yes k ↦ own_at 0 16 (omega arith) (omega arith) k
        | no k ↦ own_none 0 16 (omega arith) (λ i l z. omega (arith, k)) ∙ sym (ap (λ (ws : List (List ℕ)). words_of (items_for s c ws)) (w (omega (arith, k))))
      ]

-- ---- what is no channel's

-- the event's header and time words
head_part : (c slot number times time : ℕ) (xs : List Item) (rest : List ℕ)
    → of_channel c false 0 (words_of (I.Event (record { slot = slot; number = number }) ∷ (time_items times time ++ xs)) ++ rest) ≡ of_channel c false 0 (words_of xs ++ rest)
unfolding time_items word_of W.event_header W.trigger_time W.trigger_time_high
head_part c slot number times time xs rest =
    let e : Picked c false false (word_of (I.Event (record { slot = slot; number = number }))) =
    defined c false 2 (slot % 32 / 2) (slot % 2 * 4194304 + number % 4194304) (omega arith) (omega arith) (omega arith) (omega arith) refl in
    let m : ℕ = time / 16777216 % 8 in
    let l : ℕ = time % 16777216 in
    let x : Picked c false false (word_of (I.Clock (record { middle = m; low = l }))) =
    defined c false 3 (m * 2 + l / 8388608) (l % 8388608) (omega arith) (omega arith) (omega arith) (omega arith) refl in
    let y : Picked c false false (word_of (I.ClockHigh (record { high = time / 16777216 }))) = continued c false (omega arith) in
    pick_one c false false (word_of (I.Event (record { slot = slot; number = number }))) _ e ∙ go (leb 1 times) (leb 2 times) (I.Clock _) (I.ClockHigh _) x y
  where
    go : (a b : Bool) (x y : Item) → Picked c false false (word_of x) → Picked c false false (word_of y)
        → of_channel c false 0 (words_of ((cond a (x ∷ []) [] ++ cond b (y ∷ []) []) ++ xs) ++ rest) ≡ of_channel c false 0 (words_of xs ++ rest)
    go true true x y h k = pick_one c false false (word_of x) (word_of y ∷ (words_of xs ++ rest)) h ∙ pick_one c false false (word_of y) (words_of xs ++ rest) k
    go true false x y h k = pick_one c false false (word_of x) (words_of xs ++ rest) h
    go false true x y h k = pick_one c false false (word_of y) (words_of xs ++ rest) k
    go false false x y h k = refl

-- scaler words, as many as are to come or fewer
passed : (c : ℕ) (own : Bool) (n : ℕ) (ws : List ℕ) → length ws ≤ n → of_channel c own n ws ≡ []
unfolding of_channel
passed c own n [] h = refl
passed c own zero (w ∷ ws) h = absurd (omega arith)
passed c own (suc n) (w ∷ ws) h = passed c false n ws (omega arith)

-- type 12 and its words
scalers_part : (c : ℕ) (own : Bool) (latched : List ℕ) → length latched ≤ 18 → of_channel c own 0 (words_of (scaler_items latched)) ≡ []
unfolding of_channel scaler_items word_of W.scalers is_own to_come is_defining is_continuation field_at
scalers_part c own latched h = passed c false 18 (words_of (word_items latched)) (omega (arith, length_words (word_items latched), length_items latched))

tail_part : (c : ℕ) (asked : Bool) (latched : List ℕ) → length latched ≤ 18 → (own : Bool) → of_channel c own 0 (words_of (tail_items asked latched)) ≡ []
unfolding tail_items of_channel
tail_part c true latched h own = scalers_part c own latched h
tail_part c false latched h own = refl

-- ---- what the close wrote

-- the words between the two counts are those of the event's records
closed_words_lem : (e : EventRun) → closed_words e ≡ words_of (closing_items e.end.state e.asked e.end.store)
unfolding with_closed
closed_words_lem e =
    let s = e.end.state in
    let xs : List Item = closing_items s e.asked e.end.store in
    let n : close_number s e.asked e.end.store (length e.words) ≡ 0 = sym e.says.refusal ∙ e.accepted in
    let a = close_accepted s e.asked e.end.store (length e.words) n in
    let count : e.answer.state.words ≡ s.words + length xs = ap (λ (t : State). t.words) (e.says.state ∙ done _ _ n) in
    let size : e.answer.state.words - s.words ≡ length (words_of xs) = omega (arith, length_words xs) in
    ap₂ (λ (k : ℕ) (l : List ℕ). take k (drop s.words l)) size (e.says.buffer ∙ done _ _ n)
    ∙ row_same e.words s.words (words_of xs) (omega (arith, a.fit))

-- the records of an event but its scalers: of its number and time, the settings and the windows posted
abbrev pub records_in : EventRun → List Item
records_in e = own_event (settings_in e) e.opened.number e.opened.time (posted_window e.answers)

pub event_records : (e : EventRun) → records_of e.end ≡ records_in e
event_records e =
    let b = e.start in
    let r = run_posts e.apart e.posted in
    let o = opened_as e.opened in
    ap records_of r.end
    ∙ (records_asides (posts b e.posts) e.asides
    ∙ (own_records b e.posts e.opened e.apart
    ∙ (ap₂ (λ (number time : ℕ). own_event (settings_in e) number time (window_for b e.posts)) o.0 o.1
    ∙ ap (λ (ns : List (Post × ℕ)). own_event (settings_in e) e.opened.number e.opened.time (posted_window ns)) (sym r.posted))))

-- the scalers, where asked for, stand last: "On request a closed event ends with type 12 .. and the latched words"
pub tail_last : (e : EventRun) → closed_words e ≡ words_of (records_in e) ++ words_of (tail_items e.asked (latched_in e))
tail_last e =
    closed_words_lem e
    ∙ (words_append (records_of e.end) (tail_items e.asked (latched_in e)) ∙ ap (λ (xs : List Item). words_of xs ++ words_of (tail_items e.asked (latched_in e))) (event_records e))

latched_in_lem : (e : EventRun) → length (latched_in e) ≤ 18
latched_in_lem e =
    let r = run_posts e.apart e.posted in
    subst (λ (t : Bench). length t.state.scalers.latched ≤ 18) (sym r.end) (latched_le e.start e.posts e.asides e.opened)

-- no post for a channel over 15 is accepted
none_out : (e : EventRun) (c : ℕ) → 16 ≤ c → posted_window e.answers c ≡ []
none_out e c h = ap (λ (ns : List (Post × ℕ)). posted_window ns c) (run_posts e.apart e.posted).posted ∙ window_out e.start e.posts c h

-- channel c's words are those of its own posted window
own_by : (e : EventRun) (c : ℕ) → words_for e c ≡ words_of (items_for (settings_in e) c (posted_window e.answers c))
own_by e c =
    let s = settings_in e in
    let windows = posted_window e.answers in
    let rest : List ℕ = words_of (tail_items e.asked (latched_in e)) in
    ap (of_channel c false 0) (tail_last e)
    ∙ (head_part c s.slot e.opened.number s.times e.opened.time (own_items s windows 0 16) rest
    ∙ own_picked s windows c rest (tail_part c e.asked (latched_in e) (latched_in_lem e)) (none_out e c))

-- ---- the demand

-- "a channel's words depend on its own posted window, its own threshold and the common settings": they are the words of these
pub own_words : (e : EventRun) (c : ℕ) (w : List ℕ) → posted_window e.answers c ≡ w ∷ []
    → words_for e c ≡ channel_words (common_of (settings_in e)) (get_or (settings_in e).thresholds c 0) c w
own_words e c w k = own_by e c ∙ ap (λ (ws : List (List ℕ)). words_of (items_for (settings_in e) c ws)) k

-- "A channel with no posted window has no words."
pub no_window : (e : EventRun) (c : ℕ) → posted_window e.answers c ≡ [] → words_for e c ≡ []
no_window e c k = own_by e c ∙ ap (λ (ws : List (List ℕ)). words_of (items_for (settings_in e) c ws)) k

-- ".. and on nothing in other channels or left in the store before": two events that agree on these have the same words for c, and may differ in all
-- else: other windows and thresholds, the store before, the order and number of posts, the event's number and time, the other settings, the buffer,
-- what was counted and latched, and whether that was asked for
pub own_alone : (e f : EventRun) (c : ℕ)
    → common_of (settings_in e) ≡ common_of (settings_in f)
    → get_or (settings_in e).thresholds c 0 ≡ get_or (settings_in f).thresholds c 0
    → posted_window e.answers c ≡ posted_window f.answers c
    → words_for e c ≡ words_for f c
own_alone e f c s t k =
    own_by e c ∙ (ap (λ (ws : List (List ℕ)). words_of (items_for (settings_in e) c ws)) k ∙ (go (posted_window f.answers c) ∙ sym (own_by f c)))
  where
    go : (ws : List (List ℕ)) → words_of (items_for (settings_in e) c ws) ≡ words_of (items_for (settings_in f) c ws)
    go [] = refl
    go (x ∷ ws) = ap₂ (λ (common : Common) (threshold : ℕ). channel_words common threshold c x) s t

-- ---- the whole event

-- channels of the same thresholds and windows have the same records
module _ (s t : Settings) (v w : ℕ → List (List ℕ)) (common : common_of s ≡ common_of t) (thresholds : (c : ℕ) → c < 16 → get_or s.thresholds c 0 ≡ get_or t.thresholds c 0)
    (windows : (c : ℕ) → c < 16 → v c ≡ w c) where
  items_same : (c : ℕ) → c < 16 → items_for s c (v c) ≡ items_for t c (w c)
  items_same c h = ap (items_for s c) (windows c h) ∙ go (w c)
    where
      go : (ws : List (List ℕ)) → items_for s c ws ≡ items_for t c ws
      go [] = refl
      go (x ∷ ws) = ap₂ (λ (m : Common) (threshold : ℕ). channel_items m threshold c x) common (thresholds c h)

  own_same : (c n : ℕ) → c + n ≤ 16 → own_items s v c n ≡ own_items t w c n
  unfolding own_items
  own_same c zero h = refl
  own_same c (suc n) h = ap₂ (λ (x y : List Item). x ++ y) (items_same c (omega arith)) (own_same (c + 1) n (omega arith))

event_same : (e f : EventRun) → Alike e f → records_in e ≡ records_in f
event_same e f a =
    let own = own_same (settings_in e) (settings_in f) (posted_window e.answers) (posted_window f.answers) a.common a.thresholds a.windows 0 16 (omega arith) in
    let head = ap₂ (λ (slot number : ℕ). I.Event (record { slot = slot; number = number })) a.slot a.number in
    let clock = ap₂ time_items a.times a.time in
    ap₂ (λ (x : Item) (xs : List Item). x ∷ xs) head (ap₂ (λ (x y : List Item). x ++ y) clock own)

tail_same : (asked : Bool) (l m : List ℕ) → (asked ≡ true → l ≡ m) → tail_items asked l ≡ tail_items asked m
unfolding tail_items
tail_same true l m h = ap scaler_items (h refl)
tail_same false l m h = refl

-- "Type 12 and its words are the event's and no channel's in demand 3, which holds with the latched counts as one more common input": two events that agree on
-- number, time, the common settings, each channel's own threshold and posted window, and, where asked for, the latched counts, have the same words
pub whole_event : (e f : EventRun) → Alike e f → closed_words e ≡ closed_words f
whole_event e f a =
    let tail = tail_same e.asked (latched_in e) (latched_in f) a.latched ∙ ap (λ (asked : Bool). tail_items asked (latched_in f)) a.asked in
    tail_last e ∙ (ap₂ (λ (xs ys : List Item). words_of xs ++ words_of ys) (event_same e f a) tail ∙ sym (tail_last f))
