-- Demand 2: "Reading a block .. gives back every field as written". Assumes nothing.
use Rattle.std.specs.Prelude.{ℕ, zero, suc, ◌+◌, ◌≤◌, ◌≡◌, refl, Bool, true, false, cond, ◌||◌, List, [], ◌∷◌, ◌++◌, map, eqb, leb, length, take, replicate, set}
use Rattle.std.proofs.Common.{sym, ap, ap₂, ◌∙◌, subst, true≢false, append_assoc, append-nil, arith, le-leb, eqb-true, length-append, length-set}
use Rattle.std.proofs.lemmas.List.{length-replicate}
use Rattle.ground.specs.Tests.{one_of}
use Rattle.ground.specs.TestsLaws.{every}
use Rattle.ground.specs.Splice.{splice}
use Rattle.ground.specs.SpliceLaws.{take_splice, length_splice}
use Rattle.settings.specs.declared.Settings.{Settings}
use Rattle.settings.specs.Ranges.{settings_ok}
use Rattle.settings.specs.RangesLaws.{InRange, settings_in_range}
use Rattle.refusals.specs.Refusal.{told, if_accepted}
use Rattle.framing.specs.declared.filler.Filler.{Filler}
use Rattle.framing.specs.declared.parameters.Parameters.{Parameters}
use Rattle.framing.specs.Words as W
use Rattle.items.specs.Items.{words_of, fits}
use Rattle.items.specs.ItemsLaws.{length_words, words_append}
use Rattle.items.specs.declared.Item.{Item}
use Rattle.items.specs.declared.Item.TheVariants as I
use Rattle.reader.specs.RunLaws.{check_reads}
use Rattle.reader.specs.Reader.{check_from, Reading, Whole, read_from}
use Rattle.scan.specs.After.{start_of}
use Rattle.state.specs.declared.State.{State}
use Rattle.writer.specs.Answer.{Answer}
use Rattle.writer.specs.Answer.{Finished}
use Rattle.state.specs.State.{block_ok, state_ok, with_block, with_event, with_mark, with_closed, with_scalers}
use Rattle.writer.specs.Calls.{FinishSays}
use Rattle.block.specs.Block.{block_items, fillers_to, end_items}
use Rattle.refusing.specs.Tables.{open_block_number, open_event_number, post_number, closing_items, close_number, finish_number}
use Rattle.writer.specs.CallsLaws.{done, refused}
use Rattle.refusing.specs.TablesLaws.{OpenBlockAccepted, open_block_accepted, CloseAccepted, close_accepted, FinishAccepted, finish_accepted}
use Rattle.state.specs.StateLaws.{state_settings, IdleSays, idle_says, BlockSays, block_says, EventSays, event_says, trailer_fits}
use Rattle.writer.specs.KeptLaws.{open_block_kept, open_event_kept, post_kept, closing_kept}
use Rattle.block.specs.BlockLaws.{fillers_lt}
use Rattle.layout.specs.Layout.{IsBlock}
use Rattle.layout.specs.LayoutLaws.{round_trip}
use Rattle.layout.specs.PassLaws.{both}
use Rattle.layout.specs.Grammar.{EventTree, no_setup, setup, BlockTree, block, event_of, events_of, setup_of, body_of, Each, EventOk, BlockOk, Widths}
use Rattle.layout.proofs.GrammarLaws.{tree_is_block}
use Rattle.layout.proofs.ParseLaws.{Parsed}
use Rattle.numbers.specs.ScalersLaws.{Sized}
use Rattle.numbers.specs.SizedLaws.{sized_triggered, sized_reset, sized_latched, sized_counted}
use Rattle.owners.specs.Order.{Bench, Aside, frames, latch, reset, AsideSays}
use Rattle.owners.specs.AsideLaws.{zero_or, aside_number, scalers_after, beside, aside_after, same_ranges}
use Rattle.owners.specs.AsideLaws as A
use Rattle.claims.specs.WrittenLaws.{TreeOf, each_append, event_made}
use Rattle.claims.specs.Refused.{open_block_refused, close_refused, finish_refused}
use Rattle.claims.specs.Run.{Run, opened, begun, posted, counted, closed, not_closed, not_opened, not_finished}

-- ---- a block's head and end

head_fits : (c : Settings) (number events : ℕ) → settings_ok c ≡ true → block_ok number events ≡ true → Widths (block_items c number events)
unfolding block_items block_ok fits W.block_header W.parameters
head_fits c number events ok h = (both (le-leb c.slot 31 r.slot) (both n.0 n.1.1.0), go c.parameters)
  where
    r : InRange c
    r = settings_in_range c ok

    n : (leb number 1023 ≡ true) × ((leb 1 events ≡ true) × ((leb events 255 ≡ true) × Unit {0}))
    n = every (leb number 1023 ∷ leb 1 events ∷ leb events 255 ∷ []) h

    go : (b : Bool) → Widths (cond b (I.Parameters (record { pl = c.pl; nsb = c.nsb; nsa = c.nsa }) ∷ []) [])
    go true = (both (le-leb c.pl 2047 r.pl) (both (le-leb c.nsb 511 r.nsb) (le-leb c.nsa 511 r.nsa.1)), tt)
    go false = tt

setup_items : (b : Bool) (r : Parameters) → setup_of (cond b (setup r) no_setup) ≡ cond b (I.Parameters r ∷ []) []
setup_items true r = refl
setup_items false r = refl

-- "Filler multiple 1, 2 or 4": fewer than four fillers
few : (multiple count : ℕ) → one_of multiple (1 ∷ 2 ∷ 4 ∷ []) ≡ true → fillers_to multiple count ≤ 3
few multiple count h = by (eqb multiple 1) refl (eqb multiple 2) refl (eqb multiple 4) refl h
  where
    by : (a : Bool) → eqb multiple 1 ≡ a → (b : Bool) → eqb multiple 2 ≡ b → (c : Bool) → eqb multiple 4 ≡ c → ((a || b) || c) ≡ true → fillers_to multiple count ≤ 3
    by true e b f c g h = omega (arith, eqb-true multiple 1 e, fillers_lt multiple count (omega (arith, eqb-true multiple 1 e)))
    by false e true f c g h = omega (arith, eqb-true multiple 2 f, fillers_lt multiple count (omega (arith, eqb-true multiple 2 f)))
    by false e false f true g h = omega (arith, eqb-true multiple 4 g, fillers_lt multiple count (omega (arith, eqb-true multiple 4 g)))
    by false e false f false g h = absurd (true≢false (sym h))

each_replicate : {A : Type 0} (P : A → Type 0) (n : ℕ) (x : A) → P x → Each P (replicate n x)
each_replicate P zero x p = tt
each_replicate P (suc n) x p = (p, each_replicate P n x p)

filler_items : (n : ℕ) (f : Filler) → map (λ (g : Filler). I.Filler g) (replicate n f) ≡ replicate n (I.Filler f)
filler_items zero f = refl
filler_items (suc n) f = ap (λ (l : List Item). I.Filler f ∷ l) (filler_items n f)

end_fits : (c : Settings) (words : ℕ) → settings_ok c ≡ true → words + 1 ≤ 4194303 → Widths (end_items c words)
unfolding end_items fits W.trailer W.filler
end_fits c words ok l =
    let k : leb c.slot 31 ≡ true = le-leb c.slot 31 (settings_in_range c ok).slot in
    (both k (le-leb (words + 1) 4194303 l), each_replicate _ (fillers_to c.multiple (words + 1)) _ (both k refl))

-- the records of a block's head and of the events closed so far
abbrev Begun : Settings → ℕ → ℕ → ℕ → List Item → Type 0
Begun c number events n xs = TreeOf (λ es. block_items c number events ++ events_of es) (λ es. (length es ≡ n) × Each (EventOk c.slot) es) xs

-- one event more
events_more : (es : List EventTree) (e : EventTree) → events_of (es ++ (e ∷ [])) ≡ events_of es ++ event_of e
events_more [] e = append-nil (event_of e)
events_more (f ∷ es) e = ap (λ (l : List Item). event_of f ++ l) (events_more es e) ∙ sym (append_assoc (event_of f) (events_of es) (event_of e))

begun_more : (c : Settings) (number events n : ℕ) (xs ys : List Item) → Begun c number events n xs → TreeOf event_of (EventOk c.slot) ys → Begun c number events (n + 1) (xs ++ ys)
begun_more c number events n xs ys a b =
    let h : List Item = block_items c number events in
    record {
      tree = a.tree ++ (b.tree ∷ []);
      fine = (omega (arith, length-append a.tree (b.tree ∷ []), a.fine.0), each_append _ a.tree (b.tree ∷ []) a.fine.1 (b.fine, tt));
      are = ap (λ (l : List Item). h ++ l) (events_more a.tree b.tree) ∙ (sym (append_assoc h (events_of a.tree) (event_of b.tree)) ∙ ap₂ (λ (l m : List Item). l ++ m) a.are b.are);
      widths = each_append _ xs ys a.widths b.widths;
    }

-- all events closed, and the end
whole : (c : Settings) (number events : ℕ) (xs : List Item) → settings_ok c ≡ true → 1 ≤ events → length xs + 1 ≤ 4194303 → Begun c number events events xs → Parsed (xs ++ end_items c (length xs))
unfolding block_items end_items
whole c number events xs ok o l a =
    let n : ℕ = fillers_to c.multiple (length xs + 1) in
    let f : Filler = record { slot = c.slot } in
    let p : Parameters = record { pl = c.pl; nsb = c.nsb; nsa = c.nsa } in
    let t : BlockTree =
    record {
      header = record { slot = c.slot; number = number; events = events };
      setup = cond c.parameters (setup p) no_setup;
      events = a.tree;
      trailer = record { slot = c.slot; words = length xs + 1 };
      fillers = replicate n f;
    } in
    let e : body_of t ≡ xs = ap (λ (l : List Item). I.Block t.header ∷ (l ++ events_of a.tree)) (setup_items c.parameters p) ∙ a.are in
    let are : body_of t ++ (I.Trailer t.trailer ∷ map (λ g. I.Filler g) t.fillers) ≡ xs ++ end_items c (length xs) =
    ap₂ (λ (l m : List Item). l ++ (I.Trailer t.trailer ∷ m)) e (filler_items n f) in
    let k : BlockOk t =
    record {
      some = o;
      stated = a.fine.0;
      events = a.fine.1;
      count = ap (λ (l : List Item). length l + 1) (sym e);
      slot = refl;
      few = omega (arith, length-replicate n f, few c.multiple (length xs + 1) (settings_in_range c ok).multiple);
      fillers = each_replicate _ n f refl;
    } in
    record {
      tree = block t;
      formed = record { tree = k; widths = subst Widths (sym are) (each_append _ xs _ a.widths (end_fits c (length xs) ok l)) };
      are = are;
    }

-- ---- a run

-- what a run leaves: the state in its ranges and of its types' sizes, the words written so far, and their records
record Inv (s : State) (words : List ℕ) (xs : List Item) : Type 0 where
  ok : state_ok s ≡ true
  marks : length s.posted ≡ 16
  thresholds : length s.settings.thresholds ≡ 16
  sized : Sized s.scalers
  count : s.words ≡ length xs
  room : s.words ≤ length words
  front : take s.words words ≡ words_of xs
  body : Begun s.settings s.block s.events s.closed xs

-- words put behind those that are there
front_more : (words : List ℕ) (k : ℕ) (xs ys : List Item) → k ≤ length words → take k words ≡ words_of xs → take (k + length ys) (splice words k (words_of ys)) ≡ words_of (xs ++ ys)
front_more words k xs ys h e =
    ap (λ (n : ℕ). take (k + n) (splice words k (words_of ys))) (sym (length_words ys))
    ∙ (take_splice words k (words_of ys) h ∙ (ap (λ (l : List ℕ). l ++ words_of ys) e ∙ sym (words_append xs ys)))

inv_opened : (s : State) (words : List ℕ) (number events : ℕ) → length s.settings.thresholds ≡ 16 → Sized s.scalers → open_block_number s (length words) number events ≡ 0
    → Inv (with_block s number events (s.words + length (block_items s.settings number events))) (splice words s.words (words_of (block_items s.settings number events))) (block_items s.settings number events)
unfolding with_block
inv_opened s words number events t c e =
    let a : OpenBlockAccepted s (length words) number events = open_block_accepted s (length words) number events e in
    let i : IdleSays s = idle_says s a.state a.turn in
    let xs : List Item = block_items s.settings number events in
    let n : length (words_of xs) ≡ length xs = length_words xs in
    let l : length (splice words s.words (words_of xs)) ≡ length words = length_splice words s.words (words_of xs) (omega (arith, n, a.fit)) in
    let z : take s.words words ≡ [] = ap (λ (k : ℕ). take k words) i.words in
    record {
      ok = open_block_kept s (length words) number events e;
      marks = refl;
      thresholds = t;
      sized = c;
      count = omega (arith, i.words);
      room = omega (arith, l, a.fit);
      front = front_more words s.words [] xs (omega (arith, a.fit)) z;
      body = record { tree = []; fine = (refl, tt); are = append-nil xs; widths = head_fits s.settings number events (state_settings s a.state) a.named };
    }

inv_begun : (s : State) (words : List ℕ) (xs : List Item) (number time : ℕ) → Inv s words xs → open_event_number s number time ≡ 0 → Inv (with_event s number time) words xs
unfolding with_event
inv_begun s words xs number time v e =
    record {
      ok = open_event_kept s number time e;
      marks = v.marks;
      thresholds = v.thresholds;
      sized = sized_triggered s.scalers v.sized;
      count = v.count;
      room = v.room;
      front = v.front;
      body = v.body;
    }

inv_posted : (s : State) (words : List ℕ) (xs : List Item) (room c : ℕ) (w : List ℕ) → Inv s words xs → post_number s room c w ≡ 0 → Inv (with_mark s (set s.posted c true)) words xs
unfolding with_mark
inv_posted s words xs room c w v e =
    record {
      ok = post_kept s room c w e;
      marks = length-set s.posted c true ∙ v.marks;
      thresholds = v.thresholds;
      sized = v.sized;
      count = v.count;
      room = v.room;
      front = v.front;
      body = v.body;
    }

-- a call that counts changes only what is counted
only_counts : (k : Aside) (s : State) (r : Answer) → AsideSays k s r → r.state ≡ with_scalers s (scalers_after s k)
unfolding beside
only_counts k s r h = ap (λ (b : Bench). b.state) (aside_after (record { state = s; store = [] }) k r h).1

-- which keeps its sizes, accepted or refused
sized_after : (s : State) (k : Aside) → length s.settings.thresholds ≡ 16 → Sized s.scalers → Sized (scalers_after s k)
unfolding scalers_after A.counted
sized_after s k t z = zero_or (aside_number s k) (λ e. subst Sized (sym (done _ _ e)) (go k)) (λ e. subst Sized (sym (refused (aside_number s k) _ _ e)) z)
  where
    go : (k : Aside) → Sized (A.counted s.settings.thresholds s.scalers k)
    go (frames samples) = sized_counted s.settings.thresholds s.scalers samples t z
    go latch = sized_latched s.scalers z
    go reset = sized_reset s.scalers z

-- so a call that counts leaves what was left before it
inv_counted : (s : State) (words : List ℕ) (xs : List Item) (k : Aside) → Inv s words xs → Inv (with_scalers s (scalers_after s k)) words xs
unfolding with_scalers
inv_counted s words xs k v =
    record {
      ok = same_ranges s k ∙ v.ok;
      marks = v.marks;
      thresholds = v.thresholds;
      sized = sized_after s k v.thresholds v.sized;
      count = v.count;
      room = v.room;
      front = v.front;
      body = v.body;
    }

inv_closed : (s : State) (words : List ℕ) (xs : List Item) (asked : Bool) (store : List ℕ) → Inv s words xs → close_number s asked store (length words) ≡ 0
    → Inv (with_closed s (s.words + length (closing_items s asked store))) (splice words s.words (words_of (closing_items s asked store))) (xs ++ closing_items s asked store)
unfolding with_closed
inv_closed s words xs asked store v e =
    let a : CloseAccepted s asked store (length words) = close_accepted s asked store (length words) e in
    let o : EventSays s = event_says s a.state a.turn in
    let ys : List Item = closing_items s asked store in
    let latched = v.sized.latched in
    let n : length (words_of ys) ≡ length ys = length_words ys in
    let l : length (splice words s.words (words_of ys)) ≡ length words = length_splice words s.words (words_of ys) (omega (arith, n, a.fit)) in
    let k : state_ok (with_closed s (s.words + length ys)) ≡ true = closing_kept s asked store (length words) (omega (arith, v.marks)) latched.0 e in
    let w = event_made s.settings s.event s.time s.posted store asked s.scalers.latched (state_settings s a.state) o.number o.time (omega (arith, v.marks)) a.wide a.samples latched.0 latched.1 in
    record {
      ok = k;
      marks = refl;
      thresholds = v.thresholds;
      sized = v.sized;
      count = omega (arith, v.count, length-append xs ys);
      room = omega (arith, l, a.fit);
      front = front_more words s.words xs ys v.room v.front;
      body = begun_more s.settings s.block s.events s.closed xs ys v.body w;
    }

inv_same : {s t : State} {words more : List ℕ} {xs : List Item} → t ≡ s → more ≡ words → Inv s words xs → Inv t more xs
inv_same {s} {t} {words} {more} {xs} e f v = subst (λ (u : State). Inv u more xs) (sym e) (subst (λ (l : List ℕ). Inv s l xs) (sym f) v)

-- a call that is accepted or not
inv_either : {s t u : State} {words : List ℕ} {xs : List Item} (n : ℕ) → t ≡ if_accepted n u s → Inv s words xs → (n ≡ 0 → Inv u words xs) → Inv t words xs
inv_either zero h v f = inv_same h refl (f refl)
inv_either (suc n) h v f = inv_same (h ∙ refused (suc n) _ _ (λ z. omega (arith, z))) refl v

run_leaves : {s : State} {words : List ℕ} {xs : List Item} → Run s words xs → Inv s words xs
run_leaves (opened s words number events r words' t c h e) =
    let n : open_block_number s (length words) number events ≡ 0 = sym h.refusal ∙ e in
    inv_same (h.state ∙ done _ _ n) (h.buffer ∙ done _ _ n) (inv_opened s words number events t c n)
run_leaves (begun {s} {words} {xs} run number time r h) = let v = run_leaves run in inv_either (open_event_number s number time) h.state v (inv_begun s words xs number time v)
run_leaves (posted {s} {words} {xs} run store c w r store' h) =
    let v = run_leaves run in inv_either (post_number s (length store) c w) h.state v (inv_posted s words xs (length store) c w v)
run_leaves (counted {s} {words} {xs} run k r h) = inv_same (only_counts k s r h) refl (inv_counted s words xs k (run_leaves run))
run_leaves (closed {s} {words} {xs} run store asked r words' h e) =
    let n : close_number s asked store (length words) ≡ 0 = sym h.refusal ∙ e in
    inv_same (h.state ∙ done _ _ n) (h.buffer ∙ done _ _ n) (inv_closed s words xs asked store (run_leaves run) n)
run_leaves (not_closed {s} {words} {xs} run store asked r words' h e) = let k = close_refused s store words asked r words' h e in inv_same k.0 k.1 (run_leaves run)
run_leaves (not_opened {s} {words} {xs} run number events r words' h e) = let k = open_block_refused s words number events r words' h e in inv_same k.0 k.1 (run_leaves run)
run_leaves (not_finished {s} {words} {xs} run r words' h e) = let k = finish_refused s words r words' h e in inv_same k.0 k.1 (run_leaves run)

-- ---- the round trip

-- what any run of calls and an accepted finish write is a block of the layout
pub run_is_tree : {s : State} {words : List ℕ} {xs : List Item} → Run s words xs → (f : Finished) (words' : List ℕ) → FinishSays s words f words' → told f.refusal ≡ 0
    → Parsed (xs ++ end_items s.settings s.words)
run_is_tree {s} {words} {xs} run f words' h e =
    let v : Inv s words xs = run_leaves run in
    let a : FinishAccepted s (length words) = finish_accepted s (length words) (sym h.refusal ∙ e) in
    let o : BlockSays s = block_says s a.state a.turn in
    let b : Begun s.settings s.block s.events s.events xs = subst (λ (n : ℕ). Begun s.settings s.block s.events n xs) a.all v.body in
    rw v.count (whole s.settings s.block s.events xs (state_settings s v.ok) o.inside.events.0 (omega (arith, v.count, trailer_fits s v.ok)) b)

-- the block's words are those of its records, and the reader gives them back: every field as written, to the block's last word
pub record ReadBack (xs : List Item) (n : ℕ) (words : List ℕ) : Type 0 where
  pub written : take n words ≡ words_of xs
  pub read : read_from start_of (take n words) ≡ record { items = xs; out = Whole n }

-- any run of calls, then an accepted finish
pub run_reads_back : {s : State} {words : List ℕ} {xs : List Item} → Run s words xs → (f : Finished) (words' : List ℕ) → FinishSays s words f words' → told f.refusal ≡ 0
    → ReadBack (xs ++ end_items s.settings s.words) f.length words'
run_reads_back {s} {words} {xs} run f words' h e =
    let v : Inv s words xs = run_leaves run in
    let n : finish_number s (length words) ≡ 0 = sym h.refusal ∙ e in
    let ys : List Item = end_items s.settings s.words in
    let t : Parsed (xs ++ ys) = run_is_tree run f words' h e in
    let stands : IsBlock (xs ++ ys) = subst IsBlock t.are (tree_is_block t.tree t.formed) in
    let size : f.length ≡ s.words + length ys = h.size ∙ done _ _ n in
    let front : take (s.words + length ys) (splice words s.words (words_of ys)) ≡ words_of (xs ++ ys) = front_more words s.words xs ys v.room v.front in
    let words_are : take f.length words' ≡ words_of (xs ++ ys) = ap (λ (l : List ℕ). take f.length l) (h.buffer ∙ done _ _ n) ∙ (ap (λ (k : ℕ). take k (splice words s.words (words_of ys))) size ∙ front) in
    let long : length (xs ++ ys) ≡ f.length = omega (arith, length-append xs ys, v.count, size) in
    record {
      written = words_are;
      read = ap (read_from start_of) words_are ∙ (round_trip (xs ++ ys) stands ∙ ap (λ (k : ℕ). record { items = xs ++ ys; out = Whole k }) long);
    }

-- the C check of the same words: the block's length, no refusal
pub run_checks : {s : State} {words : List ℕ} {xs : List Item} → Run s words xs → (f : Finished) (words' : List ℕ) → FinishSays s words f words' → told f.refusal ≡ 0
    → check_from start_of (take f.length words') ≡ Whole f.length
run_checks run f words' h e = sym (check_reads start_of (take f.length words')) ∙ ap (λ (r : Reading). r.out) (run_reads_back run f words' h e).read
