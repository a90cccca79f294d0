-- Demand 2: "Reading a block .. gives back every field as written", record by record. Assumes nothing.
use Rattle.std.specs.Prelude.{ℕ, zero, suc, ◌+◌, ◌-◌, ◌^◌, ◌≤◌, ◌<◌, ◌≡◌, refl, Bool, false}
use Rattle.std.proofs.Math.Path.{sym, ap, subst}
use Rattle.std.proofs.Common.{ap₂, ◌∙◌, true≢false, arith, le-leb, drop-drop}
use Rattle.std.proofs.Math.Bool.{cond}
use mathlib.Core.List.{List, [], ◌∷◌, ◌++◌, map}
use Rattle.std.proofs.Math.ListN.{length, take, drop, length-append, length-drop, length-map}
use Rattle.refusals.specs.Refusal.{told}
use Rattle.framing.specs.Words.{empty, filler}
use Rattle.items.specs.Items.{word_of, words_of, form_of, clean_of}
use Rattle.items.specs.declared.Item.{Item}
use Rattle.items.specs.declared.Item.TheVariants as I
use Rattle.scan.specs.After.{onward, start_of}
use Rattle.reader.specs.Reader.{Whole, Broken, Out, Reading, read_from}
use Rattle.reader.specs.RunLaws.{before}
use Rattle.scan.specs.declared.Scan.{Scan}
use Rattle.rawitems.specs.declared.Pairs.{Pairs}
use Rattle.records.specs.declared.answer.Record.{Record}
use Rattle.records.specs.declared.answer.Record.TheVariants as R
use Rattle.records.specs.NextOf.{Next}
use Rattle.records.specs.NextOf as N
use Rattle.rawitems.specs.Pairs.{part_of}
use Rattle.records.specs.Next.{starts_pair, PairsMade, ScalersMade, Made, OfRaw, next_from, next_at}
use Rattle.records.specs.NextLaws.{SaysNext, next_says}
use Rattle.state.specs.declared.State.{State}
use Rattle.writer.specs.Answer.{Finished}
use Rattle.block.specs.Block.{end_items}
use Rattle.writer.specs.Calls.{FinishSays}
use Rattle.layout.specs.NothingLost.{AllWords, Spell, nothing_lost}
use Rattle.layout.specs.FirstWrong.{place_of, place_counts, place_small}
use Rattle.claims.specs.Run.{Run}
use Rattle.claims.proofs.RunLaws.{run_reads_back}
use Rattle.claims.specs.Reads.{PartRead, ScalersRead, Reads, at_end, took}

-- ---- a record is made of one item at least

one_item : {items : List Item} (x : Item) (xs : List Item) → items ≡ x ∷ xs → 1 ≤ length items
one_item x xs e = omega (arith, ap length e)

pub made_some : (place : ℕ) (r : Record) (items : List Item) → Made place r items → 1 ≤ length items
made_some place (R.Block r) items m = one_item _ _ m
made_some place (R.Parameters r) items m = one_item _ _ m
made_some place (R.Event r) items m = one_item _ _ m
made_some place (R.Time27 r) items m = one_item _ _ m
made_some place (R.Time48 r high) items m = one_item _ _ m
made_some place (R.TimeHigh r) items m = one_item _ _ m
made_some place (R.Window r p) items m = one_item _ _ m.all
made_some place (R.Raw r p) items m = one_item _ _ m.all
made_some place (R.Pair r) items m = one_item _ _ m
made_some place (R.Integral r) items m = one_item _ _ m
made_some place (R.Time r) items m = one_item _ _ m
made_some place (R.Pedestal r) items m = one_item _ _ m
made_some place (R.Trailer r) items m = one_item _ _ m
made_some place (R.Fillers slot n) items m = m.some
made_some place (R.Empty r) items m = one_item _ _ m
made_some place (R.Scalers p) items m = one_item _ _ m.all
made_some place (R.Scaler r) items m = one_item _ _ m

-- ---- the part of a raw item, and of an event's scalers

-- a record's word as it is written has no undefined bit set
clean_word : (x : Item) → word_of x ≡ clean_of (form_of x) (word_of x)
unfolding word_of empty filler
clean_word (I.Block r) = refl
clean_word (I.Parameters r) = refl
clean_word (I.Trailer r) = refl
clean_word (I.Event r) = refl
clean_word (I.Clock r) = refl
clean_word (I.ClockHigh r) = refl
clean_word (I.Window r) = refl
clean_word (I.Raw r) = refl
clean_word (I.Pair r) = refl
clean_word (I.Integral r) = refl
clean_word (I.Time r) = refl
clean_word (I.Pedestal r) = refl
clean_word (I.Empty r) = omega arith
clean_word (I.Filler r) = omega arith
clean_word (I.Scalers r) = refl
clean_word (I.Scaler r) = refl

spell_words : (xs : List Item) → Spell xs (words_of xs)
spell_words [] = tt
spell_words (x ∷ xs) = (clean_word x, spell_words xs)

spell_drop : (xs ys : List Item) (ws : List ℕ) → Spell (xs ++ ys) ws → Spell ys (drop (length xs) ws)
spell_drop [] ys ws h = h
spell_drop (x ∷ xs) ys [] h = absurd h
spell_drop (x ∷ xs) ys (w ∷ ws) h = spell_drop xs ys ws h.1

spell_long : (xs : List Item) (ws : List ℕ) → Spell xs ws → length xs ≤ length ws
spell_long [] ws h = omega arith
spell_long (x ∷ xs) [] h = absurd h
spell_long (x ∷ xs) (w ∷ ws) h = omega (arith, spell_long xs ws h.1)

-- pairs and scaler words have no undefined bits
module _ {A : Type 0} (item : A → Item) (plain : (x : A) (w : ℕ) → clean_of (form_of (item x)) w ≡ w) where
  -- so the words read are theirs, bit for bit
  spell_plain : (xs : List A) (rest : List Item) (ws : List ℕ) → Spell (map item xs ++ rest) ws → take (length xs) ws ≡ words_of (map item xs)
  spell_plain [] rest ws h = refl
  spell_plain (x ∷ xs) rest [] h = absurd h
  spell_plain (x ∷ xs) rest (w ∷ ws) h = ap₂ (λ (v : ℕ) (l : List ℕ). v ∷ l) (sym (h.0 ∙ plain x w)) (spell_plain xs rest ws h.1)

  -- they lie in the words, from the place behind the head on
  part_words : (words : List ℕ) (place : ℕ) (head : Item) (xs : List A) (items rest : List Item) (p : Pairs) → items ≡ head ∷ map item xs → p.place ≡ onward place
      → p.count ≡ length xs → place + length items < 2 ^ 32 - 1 → Spell (items ++ rest) (drop place words) → part_of words p ≡ words_of (drop 1 items)
  unfolding part_of onward
  part_words words place head xs items rest p all at n small h =
      let ys : List Item = map item xs in
      let m : length ys ≡ length xs = length-map xs item in
      let size : length items ≡ 1 + length xs = ap length all ∙ omega (arith, m) in
      let k : p.place ≡ place + 1 = omega (arith, at, small, size) in
      let spelt : Spell (head ∷ (ys ++ rest)) (drop place words) = subst (λ (l : List Item). Spell (l ++ rest) (drop place words)) all h in
      let l : p.place + p.count ≤ length words = omega (arith, k, n, m, spell_long (head ∷ (ys ++ rest)) (drop place words) spelt, length-append ys rest, length-drop place words) in
      let e : drop p.place words ≡ drop 1 (drop place words) = ap (λ (i : ℕ). drop i words) k ∙ sym (drop-drop 1 place words) in
      ap (λ (b : Bool). cond b (take p.count (drop p.place words)) []) (le-leb (p.place + p.count) (length words) l)
      ∙ (ap₂ (λ (i : ℕ) (ws : List ℕ). take i ws) n e ∙ spell_plain xs rest (drop 1 (drop place words)) (spell_drop (head ∷ []) (ys ++ rest) (drop place words) spelt))
      ∙ sym (ap (λ (l : List Item). words_of (drop 1 l)) all)

-- what is said of a raw item from how it is made
of_raw : (place : ℕ) (r : Record) (items : List Item) (P Q : Pairs → Type 0) → Made place r items → OfRaw r P → ((head : Item) (p : Pairs) → PairsMade head place p items → P p → Q p) → OfRaw r Q
of_raw place (R.Block r) items P Q m o f = tt
of_raw place (R.Parameters r) items P Q m o f = tt
of_raw place (R.Event r) items P Q m o f = tt
of_raw place (R.Time27 r) items P Q m o f = tt
of_raw place (R.Time48 r high) items P Q m o f = tt
of_raw place (R.TimeHigh r) items P Q m o f = tt
of_raw place (R.Window r p) items P Q m o f = f (I.Window r) p m o
of_raw place (R.Raw r p) items P Q m o f = f (I.Raw r) p m o
of_raw place (R.Pair r) items P Q m o f = tt
of_raw place (R.Integral r) items P Q m o f = tt
of_raw place (R.Time r) items P Q m o f = tt
of_raw place (R.Pedestal r) items P Q m o f = tt
of_raw place (R.Trailer r) items P Q m o f = tt
of_raw place (R.Fillers slot n) items P Q m o f = tt
of_raw place (R.Empty r) items P Q m o f = tt
of_raw place (R.Scalers p) items P Q m o f = tt
of_raw place (R.Scaler r) items P Q m o f = tt

-- the part of a raw item, by how that is made
part_read : (words : List ℕ) (place : ℕ) (items rest : List Item) (head : Item) (p : Pairs) → place + length items < 2 ^ 32 - 1 → Spell (items ++ rest) (drop place words)
    → PairsMade head (onward place) p items → starts_pair rest ≡ false → PartRead words items rest p
part_read words place items rest head p small h m stop =
    let n : length items ≡ 1 + length m.pairs = ap length m.all ∙ omega (arith, length-map m.pairs (λ x. I.Pair x)) in
    let many : p.count ≡ length m.pairs = omega (arith, m.many, n, small) in
    record { part = part_words (λ x. I.Pair x) (λ x w. refl) words place head m.pairs items rest p m.all m.at many small h; all = stop }

-- and that of scalers
scalers_read : (words : List ℕ) (place : ℕ) (items rest : List Item) (r : Record) → place + length items < 2 ^ 32 - 1 → Spell (items ++ rest) (drop place words)
    → Made (onward place) r items → ScalersRead words items r
scalers_read words place items rest r small h made p e =
    let m : ScalersMade (onward place) p items = subst (λ (x : Record). Made (onward place) x items) e made in
    part_words (λ x. I.Scaler x) (λ x w. refl) words place _ m.words items rest p m.all m.at m.many small h

-- ---- a whole run, record by record

pub before_items : (xs : List Item) (r : Reading) → (before xs r).items ≡ xs ++ r.items
before_items [] r = refl
before_items (x ∷ xs) r = ap (λ (l : List Item). x ∷ l) (before_items xs r)

pub before_out : (xs : List Item) (r : Reading) → (before xs r).out ≡ r.out
before_out [] r = refl
before_out (x ∷ xs) r = before_out xs r

-- from any scan of the block, which ends below the largest place
reads_from : (most : ℕ) (words : List ℕ) (s : Scan) (xs : List Item) (n : ℕ) → n < 2 ^ 32 - 1 → length xs < most → Spell xs (drop s.place words) → read_from s (drop s.place words) ≡ record { items = xs; out = Whole n }
    → Reads words s xs n
unfolding next_at
reads_from zero words s xs n small h spell e = absurd (omega arith)
reads_from (suc most) words s xs n small h spell e = go (next_from s (drop s.place words)) refl (next_says s (drop s.place words)) (λ t rest. reads_from most words t rest n small)
  where
    counted : (t : Scan) (ws : List ℕ) (ys : List Item) → read_from t ws ≡ record { items = ys; out = Whole n } → n ≡ t.place + length ys
    counted t ws ys q =
        let o : place_of (read_from t ws).out ≡ n = ap (λ (r : Reading). place_of r.out) q in
        let l : length (read_from t ws).items ≡ length ys = ap (λ (r : Reading). length r.items) q in
        omega (arith, place_counts t ws (omega (arith, o)), o, l)

    go : (x : Next) → next_from s (drop s.place words) ≡ x → SaysNext s (drop s.place words) x
        → ((t : Scan) (rest : List Item) → length rest < most → Spell rest (drop t.place words) → read_from t (drop t.place words) ≡ record { items = rest; out = Whole n } → Reads words t rest n) → Reads words s xs n
    go (N.Took r t) f k again =
        let on : Reading = read_from t (drop (length k.items) (drop s.place words)) in
        let all : record { items = xs; out = Whole n } ≡ before k.items on = sym e ∙ k.run in
        let parts : xs ≡ k.items ++ on.items = ap (λ (r : Reading). r.items) all ∙ before_items k.items on in
        let out : on.out ≡ Whole n = sym (ap (λ (r : Reading). r.out) all ∙ before_out k.items on) in
        let rest : on ≡ record { items = on.items; out = Whole n } = ap (λ (o : Out). record { items = on.items; out = o }) out in
        let size : length xs ≡ length k.items + length on.items = ap length parts ∙ length-append k.items on.items in
        let place : s.place + length k.items ≡ t.place = omega (arith, counted s _ xs e, counted t _ on.items rest, size) in
        let at : drop (length k.items) (drop s.place words) ≡ drop t.place words = drop-drop (length k.items) s.place words ∙ ap (λ (i : ℕ). drop i words) place in
        let some : 1 ≤ length k.items = made_some _ r k.items k.made in
        let spelt : Spell (k.items ++ on.items) (drop s.place words) = subst (λ (l : List Item). Spell l (drop s.place words)) parts spell in
        let below : s.place + length k.items < 2 ^ 32 - 1 = omega (arith, size, small, counted s _ xs e) in
        let part : OfRaw r (PartRead words k.items on.items) = of_raw _ r k.items _ _ k.made k.stop (λ head p. part_read words s.place k.items on.items head p below spelt) in
        let scalers : ScalersRead words k.items r = scalers_read words s.place k.items on.items r below spelt k.made in
        let more : Spell on.items (drop t.place words) = subst (λ (l : List ℕ). Spell on.items l) at (spell_drop k.items on.items (drop s.place words) spelt) in
        subst (λ (l : List Item). Reads words s l n) (sym parts) (took r k.items f k.made part scalers (again t on.items (omega (arith, size, some)) more (ap (read_from t) (sym at) ∙ rest)))
    go (N.End m) f k again =
        let none : [] ≡ xs = ap (λ (r : Reading). r.items) (sym k ∙ e) in
        let same : m ≡ n = ap (λ (r : Reading). place_of r.out) (sym k ∙ e) in
        subst (λ (l : List Item). Reads words s l n) none (at_end n (f ∙ ap (λ (i : ℕ). N.End i) same))
    go (N.Refused r place) f k again =
        let both : Whole n ≡ Broken r place = sym (ap (λ (r : Reading). r.out) e) ∙ k in
        absurd (true≢false cc)

-- a run over words that ends whole is what `next` and `part` answer
reads_spelt : (words : List ℕ) (xs : List Item) (n : ℕ) → Spell xs words → read_from start_of words ≡ record { items = xs; out = Whole n } → Reads words start_of xs n
reads_spelt words xs n spell e = reads_from (suc (length xs)) words start_of xs n (omega (arith, place_small words, ap (λ (r : Reading). place_of r.out) e)) (omega arith) spell e

-- whoever wrote them
pub reads_whole : (words : List ℕ) (xs : List Item) (n : ℕ) → AllWords words → read_from start_of words ≡ record { items = xs; out = Whole n } → Reads words start_of xs n
reads_whole words xs n a e = reads_spelt words xs n (subst (λ (r : Reading). Spell r.items words) e (nothing_lost start_of words a)) e

-- any run of calls, then an accepted finish: `next` gives the records as they were written, and the block's length
pub run_next : {s : State} {words : List ℕ} {xs : List Item} → Run s words xs → (f : Finished) (words' : List ℕ) → FinishSays s words f words' → told f.refusal ≡ 0
    → Reads (take f.length words') start_of (xs ++ end_items s.settings s.words) f.length
run_next {s} {words} {xs} run f words' h e =
    let b = run_reads_back run f words' h e in
    reads_spelt _ _ _ (rw b.written (spell_words (xs ++ end_items s.settings s.words))) b.read
