-- Demand 2 over samples: "Reading a block .. gives back every field as written", in modes 1, 2 and 8 every sample. Assumes nothing.
use Rattle.std.specs.Prelude.{ℕ, zero, suc, ◌+◌, ◌≡◌, refl, Bool, true, false, not, cond, ◌&&◌, ◌||◌, List, [], ◌∷◌, ◌++◌, map, eqb, leb, length, get_or, drop, replicate}
use Rattle.std.proofs.Common.{sym, ap, ap₂, ◌∙◌, subst, append_assoc, append-nil, le-leb, eqb-true}
use Rattle.ground.specs.Tests.{one_of}
use Rattle.ground.specs.TestsLaws.{Under, under, and_left, and_right}
use Rattle.settings.specs.declared.Settings.{Settings}
use Rattle.refusals.specs.Refusal.{told}
use Rattle.samples.specs.Sample.{samples_ok}
use Rattle.finder.specs.declared.Pulse.{Pulse}
use Rattle.search.specs.Search.{any_over}
use Rattle.raw.specs.declared.pair.SamplePair.{SamplePair}
use Rattle.raw.specs.Words.{pair, pair_of}
use Rattle.raw.specs.WordsLaws.{pair_there}
use Rattle.items.specs.Items.{word_of, words_of, item_if}
use Rattle.items.specs.declared.Item.{Item}
use Rattle.items.specs.declared.Item.TheVariants as I
use Rattle.scan.specs.declared.Scan.{Scan}
use Rattle.rawitems.specs.declared.Pairs.{Pairs}
use Rattle.records.specs.declared.answer.Record.{Record}
use Rattle.records.specs.declared.answer.Record.TheVariants as R
use Rattle.rawitems.specs.Pairs.{part_of}
use Rattle.rawsamples.specs.RawSamples.{if_valid, samples_of}
use Rattle.records.specs.Next.{filler_at, AllAre, is_pair, starts_pair, PairsMade, Made, OfRaw}
use Rattle.pulse.specs.declared.Parts.{Parts}
use Rattle.pairs.specs.Pairs.{pair_items}
use Rattle.modes.specs.Channel.{window_items, mode_table, row_of_mode, parts_of, pulses_items, common_of, pulses_of, channel_items}
use Rattle.pulse.specs.Pulse.{set_of, raw_items, integral_item, time_item, pedestal_item, pulse_items}
use Rattle.rows.specs.Rows.{row, rows_ok}
use Rattle.event.specs.Event.{time_items, channels_items, event_items}
use Rattle.tail.specs.Tail.{scaler_items, tail_items}
use Rattle.state.specs.declared.State.{State}
use Rattle.writer.specs.Answer.{Finished}
use Rattle.block.specs.Block.{block_items, fillers_to, end_items}
use Rattle.refusing.specs.Tables.{closing_items, close_number}
use Rattle.writer.specs.Calls.{FinishSays}
use Rattle.refusing.specs.TablesLaws.{close_accepted}
use Rattle.layout.specs.PassLaws.{both}
use Rattle.layout.specs.Grammar.{Each}
use Rattle.claims.specs.WrittenLaws.{under_set, pairs}
use Rattle.claims.specs.Reads.{PartRead, Reads, at_end, took}
use Rattle.claims.proofs.ReadsLaws.{run_next}
use Rattle.claims.specs.Run.{Run, opened, begun, posted, counted, closed, not_closed, not_opened, not_finished}
use Rattle.owners.specs.Order.{Bench, Post}
use Rattle.owners.proofs.OrderLaws.{answer_of, has, run_posts}
use Rattle.owners.specs.Own.{EventRun, settings_in, posted_window}
use Rattle.owners.proofs.OwnLaws.{window_for, items_for, own_items}
use Rattle.owners.proofs.AloneLaws.{event_records}
use Rattle.claims.specs.Samples.{record_samples, samples_read, sets_sent, channel_sent, rows_sent, window_sent, windows_sent, samples_sent}

-- ---- pairs of samples

-- a pair's word gives its fields back
pair_samples : (r : SamplePair) (words : List ℕ) → leb r.nofirst 1 ≡ true → leb r.first 8191 ≡ true → leb r.nosecond 1 ≡ true → leb r.second 8191 ≡ true
    → samples_of (word_of (I.Pair r) ∷ words) ≡ (if_valid r.nofirst r.first ++ if_valid r.nosecond r.second) ++ samples_of words
unfolding samples_of word_of pair_of pair
pair_samples r words a b c d =
    ap (λ (p : SamplePair). (if_valid p.nofirst p.first ++ if_valid p.nosecond p.second) ++ samples_of words) (pair_there r (both a (both b (both c d))))

-- "A sample is 0 to 8,191": written in pairs and read again
pub samples_back : (w : List ℕ) → Under 8191 w → samples_of (words_of (pair_items w)) ≡ w
unfolding samples_of
samples_back [] u = refl
samples_back (x ∷ []) u = pair_samples _ [] refl (le-leb x 8191 u.0) refl refl
samples_back (x ∷ y ∷ w) u =
    pair_samples _ (words_of (pair_items w)) refl (le-leb x 8191 u.0) refl (le-leb y 8191 u.1.0)
    ∙ ap (λ (l : List ℕ). x ∷ y ∷ l) (samples_back w u.1.1)

-- ---- the samples among records

-- the pairs that stand first
abbrev pairs_at : List Item → List Item
pairs_at [] = []
pairs_at (x ∷ xs) = cond (is_pair x) (x ∷ pairs_at xs) []

-- a record that is none, alone; a window or a pulse raw, with the samples of the pairs behind it
abbrev headed : Item → List Item → List (Item × List ℕ)
headed (I.Block r) xs = []
headed (I.Parameters r) xs = []
headed (I.Trailer r) xs = []
headed (I.Event r) xs = []
headed (I.Clock r) xs = []
headed (I.ClockHigh r) xs = []
headed (I.Window r) xs = (I.Window r, samples_of (words_of (pairs_at xs))) ∷ []
headed (I.Raw r) xs = (I.Raw r, samples_of (words_of (pairs_at xs))) ∷ []
headed (I.Pair r) xs = []
headed (I.Integral r) xs = []
headed (I.Time r) xs = []
headed (I.Pedestal r) xs = []
headed (I.Empty r) xs = []
headed (I.Filler r) xs = []
headed (I.Scalers r) xs = []
headed (I.Scaler r) xs = []

unfoldable among : List Item → List (Item × List ℕ)
among [] = []
among (x ∷ xs) = headed x xs ++ among xs

-- ---- read back: the samples among the records read

-- items that head no samples
pass : {A : Type 0} (item : A → Item) → ((x : A) (xs : List Item) → headed (item x) xs ≡ []) → (l : List A) (rest : List Item) → among (map item l ++ rest) ≡ among rest
unfolding among
pass item h [] rest = refl
pass item h (x ∷ l) rest = ap₂ (λ (a b : List (Item × List ℕ)). a ++ b) (h x (map item l ++ rest)) (pass item h l rest)

pairs_pass : (ps : List SamplePair) (rest : List Item) → among (map (λ x. I.Pair x) ps ++ rest) ≡ among rest
pairs_pass ps rest = pass (λ x. I.Pair x) (λ x xs. refl) ps rest

pairs_first : (ps : List SamplePair) (rest : List Item) → starts_pair rest ≡ false → pairs_at (map (λ x. I.Pair x) ps ++ rest) ≡ map (λ x. I.Pair x) ps
pairs_first [] [] h = refl
pairs_first [] (x ∷ rest) h = rw h
pairs_first (p ∷ ps) rest h = ap (λ (l : List Item). I.Pair p ∷ l) (pairs_first ps rest h)

fillers_pass : (slot : ℕ) (items rest : List Item) → AllAre (filler_at slot) items → among (items ++ rest) ≡ among rest
unfolding among
fillers_pass slot [] rest h = refl
fillers_pass slot (x ∷ items) rest h = rw h.0 (fillers_pass slot items rest h.1)

-- a raw item
raw_among : (words : List ℕ) (head : Item) (items rest : List Item) (place : ℕ) (p : Pairs) → ((xs : List Item) → headed head xs ≡ (head, samples_of (words_of (pairs_at xs))) ∷ [])
    → PairsMade head place p items → PartRead words items rest p → among (items ++ rest) ≡ (head, samples_of (part_of words p)) ∷ among rest
unfolding among
raw_among words head items rest place p h m r =
    let ps : List Item = map (λ x. I.Pair x) m.pairs in
    let k : part_of words p ≡ words_of (pairs_at (ps ++ rest)) = r.part ∙ (ap (λ (l : List Item). words_of (drop 1 l)) m.all ∙ ap words_of (sym (pairs_first m.pairs rest r.all))) in
    ap (λ (l : List Item). among (l ++ rest)) m.all
    ∙ ap₂ (λ (a b : List (Item × List ℕ)). a ++ b) (h (ps ++ rest) ∙ ap (λ (l : List ℕ). (head, samples_of l) ∷ []) (sym k)) (pairs_pass m.pairs rest)

record_among : (words : List ℕ) (place : ℕ) (r : Record) (items rest : List Item) → Made place r items → OfRaw r (PartRead words items rest) → among (items ++ rest) ≡ record_samples words r ++ among rest
unfolding among
record_among words place (R.Block r) items rest m o = rw m
record_among words place (R.Parameters r) items rest m o = rw m
record_among words place (R.Event r) items rest m o = rw m
record_among words place (R.Time27 r) items rest m o = rw m
record_among words place (R.Time48 r high) items rest m o = rw m
record_among words place (R.TimeHigh r) items rest m o = rw m
record_among words place (R.Window r p) items rest m o = raw_among words (I.Window r) items rest place p (λ xs. refl) m o
record_among words place (R.Raw r p) items rest m o = raw_among words (I.Raw r) items rest place p (λ xs. refl) m o
record_among words place (R.Pair r) items rest m o = rw m
record_among words place (R.Integral r) items rest m o = rw m
record_among words place (R.Time r) items rest m o = rw m
record_among words place (R.Pedestal r) items rest m o = rw m
record_among words place (R.Trailer r) items rest m o = rw m
record_among words place (R.Fillers slot n) items rest m o = fillers_pass slot items rest m.all
record_among words place (R.Empty r) items rest m o = rw m
record_among words place (R.Scalers p) items rest m o = ap (λ (l : List Item). among (l ++ rest)) m.all ∙ pass (λ x. I.Scaler x) (λ x xs. refl) m.words rest
record_among words place (R.Scaler r) items rest m o = rw m

read_among : {words : List ℕ} {s : Scan} {xs : List Item} {n : ℕ} (read : Reads words s xs n) → samples_read read ≡ among xs
unfolding samples_read among
read_among (at_end n e) = refl
read_among {words} (took {s} r items {rest} e m p q more) =
    ap (λ (l : List (Item × List ℕ)). record_samples words r ++ l) (read_among more) ∙ sym (record_among words _ r items rest m p)

-- ---- sent: the samples among the records written

-- records with these samples, whatever follows, if that is no pair
record Carry (xs : List Item) (sent : List (Item × List ℕ)) : Type 0 where
  first : (ys : List Item) → starts_pair ys ≡ false → starts_pair (xs ++ ys) ≡ false
  all : (ys : List Item) → starts_pair ys ≡ false → among (xs ++ ys) ≡ sent ++ among ys

carry_none : Carry [] []
carry_none = record { first = λ ys h. h; all = λ ys h. refl }

carry_append : {xs ys : List Item} {a b : List (Item × List ℕ)} → Carry xs a → Carry ys b → Carry (xs ++ ys) (a ++ b)
carry_append {xs} {ys} {a} {b} p q =
    record {
      first = λ zs h. ap starts_pair (append_assoc xs ys zs) ∙ p.first (ys ++ zs) (q.first zs h);
      all = λ zs h.
          ap among (append_assoc xs ys zs)
          ∙ (p.all (ys ++ zs) (q.first zs h) ∙ (ap (λ (l : List (Item × List ℕ)). a ++ l) (q.all zs h) ∙ sym (append_assoc a b (among zs))));
    }

carry_if : (on : Bool) {xs : List Item} {a : List (Item × List ℕ)} → Carry xs a → Carry (cond on xs []) (cond on a [])
carry_if true p = p
carry_if false p = carry_none

-- a record without samples
carry_bare : (x : Item) → is_pair x ≡ false → ((xs : List Item) → headed x xs ≡ []) → Carry (x ∷ []) []
unfolding among
carry_bare x n h = record { first = λ ys k. n; all = λ ys k. rw (h ys) }

-- a record with its pairs
carry_raw : (x : Item) (w : List ℕ) → is_pair x ≡ false → ((xs : List Item) → headed x xs ≡ (x, samples_of (words_of (pairs_at xs))) ∷ []) → Under 8191 w → Carry (x ∷ pair_items w) ((x, w) ∷ [])
unfolding among
carry_raw x w n h u =
    let q = pairs w u in
    let ps : List Item = map (λ z. I.Pair z) q.tree in
    let back : samples_of (words_of ps) ≡ w = ap (λ (l : List Item). samples_of (words_of l)) q.are ∙ samples_back w u in
    subst (λ (l : List Item). Carry (x ∷ l) ((x, w) ∷ [])) q.are
    (record {
      first = λ ys k. n;
      all = λ ys k.
          ap₂ (λ (a b : List (Item × List ℕ)). a ++ b)
          (h (ps ++ ys) ∙ ap (λ (l : List ℕ). (x, l) ∷ []) (ap (λ (l : List Item). samples_of (words_of l)) (pairs_first q.tree ys k) ∙ back))
          (pairs_pass q.tree ys);
    })

-- ---- what a channel sends

-- a mark of the mode's row, by a test of the mode's number
by_rows : (test : ℕ → Bool) (mark : Parts → Bool) (mode : ℕ) (rs : List (ℕ × Parts)) → Each (λ r. mark r.1 ≡ test r.0) rs
    → (Each (λ r. eqb mode r.0 ≡ false) rs → mark (row_of_mode [] mode) ≡ test mode) → mark (row_of_mode rs mode) ≡ test mode
by_rows test mark mode [] h none = none tt
by_rows test mark mode (r ∷ rs) h none = go (eqb mode r.0) refl (λ e. by_rows test mark mode rs h.1 (λ n. none (e, n)))
  where
    go : (b : Bool) → eqb mode r.0 ≡ b → (eqb mode r.0 ≡ false → mark (row_of_mode rs mode) ≡ test mode) → mark (cond b r.1 (row_of_mode rs mode)) ≡ test mode
    go true e more = h.0 ∙ ap test (sym (eqb-true mode r.0 e))
    go false e more = more e

window_mode : (mode : ℕ) → (parts_of mode).window ≡ one_of mode (1 ∷ 8 ∷ [])
unfolding parts_of
window_mode mode = by_rows (λ n. one_of n (1 ∷ 8 ∷ [])) (λ p. p.window) mode mode_table (refl, (refl, (refl, (refl, (refl, (refl, tt)))))) (λ n. rw (n.0, n.1.1.1.1.1.0))

raw_mode : (mode : ℕ) → (parts_of mode).raw ≡ eqb mode 2
unfolding parts_of
raw_mode mode = by_rows (λ n. eqb n 2) (λ p. p.raw) mode mode_table (refl, (refl, (refl, (refl, (refl, (refl, tt)))))) (λ n. rw n.1.0)

-- a pulse's other records have none
carry_item : (on : Bool) (x : Item) → is_pair x ≡ false → ((xs : List Item) → headed x xs ≡ []) → Carry (item_if on x) []
carry_item true x n h = carry_bare x n h
carry_item false x n h = carry_none

pulse_sends : (m : Parts) (c : ℕ) (w : List ℕ) (i : ℕ) (p : Pulse) → Under 8191 w
    → Carry (pulse_items m c w i p) (cond m.raw ((I.Raw (record { channel = c; pulse = i; tc = p.tc }), set_of w p) ∷ []) [])
unfolding pulse_items raw_items integral_item time_item pedestal_item
pulse_sends m c w i p u =
    let sent : List (Item × List ℕ) = cond m.raw ((I.Raw (record { channel = c; pulse = i; tc = p.tc }), set_of w p) ∷ []) [] in
    subst (λ (l : List (Item × List ℕ)). Carry (pulse_items m c w i p) l) (append-nil sent)
    (carry_append (carry_if m.raw (carry_raw _ (set_of w p) refl (λ xs. refl) (under_set w p u)))
    (carry_append (carry_item m.integral _ refl (λ xs. refl)) (carry_append (carry_item m.time _ refl (λ xs. refl)) (carry_item m.pedestal _ refl (λ xs. refl)))))

pulses_send : (m : Parts) (c : ℕ) (w : List ℕ) (i : ℕ) (l : List Pulse) → Under 8191 w → Carry (pulses_items m c w i l) (cond m.raw (sets_sent c w i l) [])
unfolding pulses_items sets_sent
pulses_send m c w i [] u = go m.raw
  where
    go : (b : Bool) → Carry [] (cond b [] [])
    go true = carry_none
    go false = carry_none
pulses_send m c w i (p ∷ l) u = subst (λ (a : List (Item × List ℕ)). Carry (pulse_items m c w i p ++ pulses_items m c w (i + 1) l) a) (go m.raw) (carry_append (pulse_sends m c w i p u) (pulses_send m c w (i + 1) l u))
  where
    go : (b : Bool) → cond b ((I.Raw (record { channel = c; pulse = i; tc = p.tc }), set_of w p) ∷ []) [] ++ cond b (sets_sent c w (i + 1) l) []
        ≡ cond b ((I.Raw (record { channel = c; pulse = i; tc = p.tc }), set_of w p) ∷ sets_sent c w (i + 1) l) []
    go true = refl
    go false = refl

channel_sends : (s : Settings) (c : ℕ) (w : List ℕ) → Under 8191 w → Carry (channel_items (common_of s) (get_or s.thresholds c 0) c w) (channel_sent s c w)
unfolding channel_items channel_sent window_items
channel_sends s c w u =
    let t : ℕ = get_or s.thresholds c 0 in
    rw (← window_mode s.mode, ← raw_mode s.mode)
    (carry_append (carry_if ((parts_of s.mode).window && any_over w t) (carry_raw _ w refl (λ xs. refl) u)) (pulses_send (parts_of s.mode) c w 0 (pulses_of (common_of s) t w) u))

-- ---- an event, a run

channels_send : (s : Settings) (store : List ℕ) (c : ℕ) (marks : List Bool) → rows_ok s.nw store c marks ≡ true → Carry (channels_items s store c marks) (rows_sent s store c marks)
unfolding channels_items rows_sent rows_ok samples_ok
channels_send s store c [] h = carry_none
channels_send s store c (b ∷ marks) h = carry_append (here b (and_left (not b || samples_ok (row s.nw c store)) _ h)) (channels_send s store (c + 1) marks (and_right (not b || samples_ok (row s.nw c store)) _ h))
  where
    here : (b : Bool) → (not b || samples_ok (row s.nw c store)) ≡ true
        → Carry (cond b (channel_items (common_of s) (get_or s.thresholds c 0) c (row s.nw c store)) []) (cond b (channel_sent s c (row s.nw c store)) [])
    here true e = channel_sends s c (row s.nw c store) (under 8191 (row s.nw c store) e)
    here false e = carry_none

-- an event's header and time words have none
event_sends : (slot number times time : ℕ) {xs : List Item} {sent : List (Item × List ℕ)} → Carry xs sent → Carry (I.Event (record { slot = slot; number = number }) ∷ (time_items times time ++ xs)) sent
unfolding time_items
event_sends slot number times time c =
    carry_append (carry_bare _ refl (λ xs. refl)) (carry_append (carry_append (carry_item (leb 1 times) _ refl (λ xs. refl)) (carry_item (leb 2 times) _ refl (λ xs. refl))) c)

-- so its records carry the posted rows
records_send : (s : State) (store : List ℕ) → rows_ok s.settings.nw store 0 s.posted ≡ true
    → Carry (event_items s.settings s.event s.time s.posted store) (rows_sent s.settings store 0 s.posted)
unfolding event_items
records_send s store h = event_sends s.settings.slot s.event s.settings.times s.time (channels_send s.settings store 0 s.posted h)

-- its scalers have none
tail_sends : (asked : Bool) (latched : List ℕ) → Carry (tail_items asked latched) []
unfolding tail_items scaler_items among
tail_sends true latched = record { first = λ ys h. refl; all = λ ys h. pass (λ n. I.Scaler (record { value = n })) (λ n xs. refl) latched ys }
tail_sends false latched = carry_none

-- so a close sends the posted rows, whether scalers were asked for or not
close_sends : (s : State) (asked : Bool) (store : List ℕ) (room : ℕ) → close_number s asked store room ≡ 0 → Carry (closing_items s asked store) (rows_sent s.settings store 0 s.posted)
close_sends s asked store room e =
    subst (λ (l : List (Item × List ℕ)). Carry (closing_items s asked store) l) (append-nil (rows_sent s.settings store 0 s.posted))
    (carry_append (records_send s store (close_accepted s asked store room e).samples) (tail_sends asked s.scalers.latched))

open_sends : (c : Settings) (number events : ℕ) → Carry (block_items c number events) []
unfolding block_items
open_sends c number events = carry_append (carry_bare _ refl (λ xs. refl)) (carry_item c.parameters _ refl (λ xs. refl))

end_sends : (c : Settings) (words : ℕ) → Carry (end_items c words) []
unfolding end_items
end_sends c words = carry_append (carry_bare _ refl (λ xs. refl)) (go (fillers_to c.multiple (words + 1)))
  where
    go : (n : ℕ) → Carry (replicate n (filler_at c.slot)) []
    go zero = carry_none
    go (suc n) = carry_append (carry_bare _ refl (λ xs. refl)) (go n)

run_sends : {s : State} {words : List ℕ} {xs : List Item} (run : Run s words xs) → Carry xs (samples_sent run)
unfolding samples_sent
run_sends (opened s words number events r words' t c h e) = open_sends s.settings number events
run_sends (begun run number time r h) = run_sends run
run_sends (posted run store c w r store' h) = run_sends run
run_sends (counted run k r h) = run_sends run
run_sends (closed {s} {words} run store asked r words' h e) = carry_append (run_sends run) (close_sends s asked store (length words) (sym h.refusal ∙ e))
run_sends (not_closed run store asked r words' h e) = run_sends run
run_sends (not_opened run number events r words' h e) = run_sends run
run_sends (not_finished run r words' h e) = run_sends run

-- any run of calls, then an accepted finish: the samples that `next` and `part` give, window by window and pulse by pulse, are those that were sent
pub run_samples : {s : State} {words : List ℕ} {xs : List Item} (run : Run s words xs) (f : Finished) (words' : List ℕ) (h : FinishSays s words f words') (e : told f.refusal ≡ 0)
    → samples_read (run_next run f words' h e) ≡ samples_sent run
unfolding among
run_samples {s} {words} {xs} run f words' h e =
    let c : Carry (xs ++ end_items s.settings s.words) (samples_sent run ++ []) = carry_append (run_sends run) (end_sends s.settings s.words) in
    read_among (run_next run f words' h e)
    ∙ (ap among (sym (append-nil (xs ++ end_items s.settings s.words))) ∙ (c.all [] refl ∙ (append-nil (samples_sent run ++ []) ∙ append-nil (samples_sent run))))

-- ---- an event that is opened, posted and closed over one store

own_sends : (s : Settings) (windows : ℕ → List (List ℕ)) → ((c : ℕ) → Each (λ w. Under 8191 w) (windows c)) → (c n : ℕ) → Carry (own_items s windows c n) (windows_sent s windows c n)
unfolding own_items windows_sent
own_sends s windows u c zero = carry_none
own_sends s windows u c (suc n) = carry_append (go (windows c) (u c)) (own_sends s windows u (c + 1) n)
  where
    go : (ws : List (List ℕ)) → Each (λ w. Under 8191 w) ws → Carry (items_for s c ws) (window_sent s c ws)
    go [] h = carry_none
    go (w ∷ ws) h = channel_sends s c w h.0

-- an accepted window's samples are in range
window_under : (b : Bench) (l : List Post) (c : ℕ) → Each (λ w. Under 8191 w) (window_for b l c)
unfolding posted_window samples_ok
window_under b [] c = tt
window_under b (p ∷ l) c = go (eqb p.channel c && eqb (answer_of b p) 0) refl (window_under b l c)
  where
    go : (t : Bool) → eqb p.channel c && eqb (answer_of b p) 0 ≡ t → Each (λ w. Under 8191 w) (window_for b l c) → Each (λ w. Under 8191 w) (cond t (p.window ∷ []) (window_for b l c))
    go true e more = (under 8191 p.window (has b p (eqb-true (answer_of b p) 0 (and_right (eqb p.channel c) _ e))).samples, tt)
    go false e more = more

-- the same records carry the same samples
carry_same : {xs ys : List Item} {a b : List (Item × List ℕ)} → xs ≡ ys → Carry xs a → Carry ys b → a ≡ b
unfolding among
carry_same {xs} {ys} {a} {b} e p q = sym (append-nil a) ∙ (sym (p.all [] refl) ∙ (ap (λ (l : List Item). among (l ++ [])) e ∙ (q.all [] refl ∙ append-nil b)))

-- what the close sends are the windows posted
pub event_samples : (e : EventRun) → rows_sent e.end.state.settings e.end.store 0 e.end.state.posted ≡ windows_sent (settings_in e) (posted_window e.answers) 0 16
event_samples e =
    let s : Settings = settings_in e in
    let n : close_number e.end.state e.asked e.end.store (length e.words) ≡ 0 = sym e.says.refusal ∙ e.accepted in
    let a = close_accepted e.end.state e.asked e.end.store (length e.words) n in
    let u : (c : ℕ) → Each (λ w. Under 8191 w) (posted_window e.answers c) =
    subst (λ (ns : List (Post × ℕ)). (c : ℕ) → Each (λ w. Under 8191 w) (posted_window ns c)) (sym (run_posts e.apart e.posted).posted) (window_under e.start e.posts) in
    carry_same (event_records e) (records_send e.end.state e.end.store a.samples)
    (event_sends s.slot e.opened.number s.times e.opened.time (own_sends s (posted_window e.answers) u 0 16))
