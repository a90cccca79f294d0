-- The records of a well-formed tree stand as the layout asks. Assumes nothing.
use Rattle.std.specs.Prelude.{ℕ, zero, suc, ◌+◌, ◌-◌, ◌%◌, ◌≤◌, ◌<◌, ◌≡◌, refl, Bool, true, false, not, cond, List, [], ◌∷◌, ◌++◌, map, eqb, leb, length}
use Rattle.std.proofs.Common.{sym, ap, ◌∙◌, subst, arith, le-leb, leb-true, eq-eqb, ne_eqb, length-append}
use Rattle.std.proofs.lemmas.Bool.{lt-leb}
use Rattle.ground.specs.TestsLaws.{and_right}
use Rattle.limits.specs.Limits.{most_samples, pairs_of, most_pairs}
use Rattle.fields.specs.Word.{read}
use Rattle.fields.specs.Tag.{is_defining, is_continuation}
use Rattle.framing.specs.declared.block_header.BlockHeader.{BlockHeader}
use Rattle.framing.specs.declared.trailer.BlockTrailer.{BlockTrailer}
use Rattle.framing.specs.declared.scaler.ScalerWord.{ScalerWord}
use Rattle.framing.specs.declared.filler.Filler.{Filler}
use Rattle.raw.specs.declared.window.WindowRaw.{WindowRaw}
use Rattle.raw.specs.declared.pair.SamplePair.{SamplePair}
use Rattle.framing.specs.Words as W
use Rattle.raw.specs.Words as R
use Rattle.items.specs.Items.{word_of, fits, form_of, is_of}
use Rattle.items.specs.declared.Form.{Form}
use Rattle.items.specs.declared.Form.TheVariants as F
use Rattle.items.specs.declared.Item.{Item}
use Rattle.items.specs.declared.Item.TheVariants as I
use Rattle.scan.specs.declared.Stage.{Stage}
use Rattle.scan.specs.declared.Stage.TheVariants as P
use Rattle.scan.specs.declared.Scan.{Scan}
use Rattle.scan.specs.After.{onward, paired_by, filled_by, scaled_by, slot_after, after, start_of}
use Rattle.meaning.specs.declared.Meaning.TheVariants as M
use Rattle.meaning.specs.Meaning.{more_by, more_in, allowed_in, other_in, meaning_in, meaning_at, unfinished_by}
use Rattle.meaning.specs.MeaningLaws.{meaning_more, meaning_type}
use Rattle.questions.specs.Questions.{at_limit, slot_wrong, flag_by, flag_wrong, item_wrong, count_wrong}
use Rattle.layout.specs.Layout.{Stands, Follow, IsBlock}
use Rattle.layout.specs.LayoutLaws.{says}
use Rattle.layout.specs.PassLaws.{Inside, inside_none, inside_append, Inner, Edge, inner_edge, not_limit, both, onward_one}
use Rattle.layout.specs.Grammar.{Piece, window, raw, integral, time, pedestal, Clock, no_clock, clock27, clock48, Tail, no_scalers, scalers, EventTree, Setup, no_setup, setup, BlockTree, Tree, block, empty, each_pair, piece_of, pieces_of, clock_of, each_scaler, tail_of, event_of, events_of, setup_of, body_of, records_of, Each, LastPair, full, short, WindowPairs, RawPairs, PieceOk, ClockOk, TailOk, EventOk, BlockOk, WellFormed, Widths}

widths_split : (xs ys : List Item) → Widths (xs ++ ys) → Widths xs × Widths ys
widths_split [] ys w = (tt, w)
widths_split (x ∷ xs) ys w = let p = widths_split xs ys w.1 in ((w.0, p.0), p.1)

-- a word that shows the bits of that form is of it here
abbrev Known : Scan → Form → Type 0
Known s f = (w : ℕ) → is_of f w ≡ true → meaning_at s w ≡ M.Form f

by_type : (s : Scan) (type : ℕ) {f : Form} → meaning_in (other_in s) (allowed_in s) type ≡ M.Form f → (w : ℕ) → is_defining type w ≡ true → meaning_at s w ≡ M.Form f
by_type s type e w d = meaning_type s w type d ∙ e

by_more : (s : Scan) {f : Form} → more_in s ≡ M.Form f → (w : ℕ) → is_continuation w ≡ true → meaning_at s w ≡ M.Form f
by_more s e w d = meaning_more s w d ∙ e

-- so is the record's own word
own : (s : Scan) (x : Item) → Known s (form_of x) → fits x ≡ true → meaning_at s (word_of x) ≡ M.Form (form_of x)
own s x k h = k (word_of x) (says x h).tag

-- one record that stands here, and what comes behind it
step : (s : Scan) (x : Item) (xs : List Item) (left : ℕ) (ok : Scan → Type 0) → s.place < 4194303 → Known s (form_of x) → slot_wrong s x ≡ false
    → item_wrong s x ≡ false → count_wrong s x ≡ false → fits x ≡ true → slot_after s x ≡ s.slot → (onward s.place ≡ s.place + 1 → Inside (after s x) xs left ok)
    → Inside s (x ∷ xs) left ok
unfolding after
step s x xs left ok l form slot fields count widths e rest =
    let r = rest (onward_one s.place l) in
    let here : Stands s x = record { limit = not_limit s l; form = own s x form widths; slot = slot; fields = fields; count = count; widths = widths } in
    record {
      to = r.to;
      passes = λ ys q. (here, r.passes ys q);
      place = r.place ∙ omega (arith, onward_one s.place l);
      slot = r.slot ∙ e;
      rest = r.rest;
      stage = r.stage;
    }

-- ---- pairs

pair_step : (s : Scan) (p : SamplePair) (xs : List Item) → LastPair p → more_in s ≡ M.Form F.Pair → flag_wrong s p.nosecond ≡ false → s.place < 4194303 → fits (I.Pair p) ≡ true
    → (onward s.place ≡ s.place + 1 → Inside (after s (I.Pair p)) xs s.left Inner) → Inside s (I.Pair p ∷ xs) s.left Inner
pair_step s p xs k m f l w = step s (I.Pair p) xs s.left Inner l (by_more s m) refl (clean k) refl w refl
  where
    clean : LastPair p → item_wrong s (I.Pair p) ≡ false
    clean (full v) = rw (v.first, f, v.second)
    clean (short v) = rw (v.first, f, v.second, v.zero)

-- where the reading stands with w samples of a window to come
abbrev window_at : ℕ → Stage
window_at zero = P.Items
window_at (suc w) = P.Window (pairs_of (suc w)) (eqb (suc w % 2) 1)

window_inside : (w : ℕ) (ps : List SamplePair) (s : Scan) → WindowPairs w ps → s.stage ≡ window_at w → s.place + length (each_pair ps) < 4194303 → Widths (each_pair ps)
    → Inside s (each_pair ps) s.left Inner
unfolding pairs_of after
window_inside zero [] s v e l f = inside_none s Inner (rw e (λ i n. refl))
window_inside zero (p ∷ ps) s v e l f = absurd v
window_inside (suc zero) [] s v e l f = absurd v
window_inside (suc zero) (p ∷ []) s v e l f = pair_step s p [] (short v) (ap more_by e) (rw (e, v.second)) (omega arith) f.0 (λ k. inside_none _ Inner (rw e (λ i n. refl)))
window_inside (suc zero) (p ∷ q ∷ ps) s v e l f = absurd v
window_inside (suc (suc n)) [] s v e l f = absurd v
window_inside (suc (suc n)) (p ∷ ps) s v e l f =
    pair_step s p (each_pair ps) (full v.0) (ap more_by e) (rw (e, v.0.second) (calm n)) (omega arith) f.0
    (λ k. window_inside n ps _ v.1 (rw e (next n)) (omega arith) f.1)
  where
    calm : (n : ℕ) → flag_by (window_at (suc (suc n))) 0 ≡ false
    calm zero = refl
    calm (suc n) = rw (ne_eqb (pairs_of (suc (suc (suc n)))) 1 (λ q. omega arith))

    next : (n : ℕ) → paired_by (window_at (suc (suc n))) 0 ≡ window_at n
    next zero = refl
    next (suc n) =
        let m : pairs_of (suc (suc (suc n))) - 1 ≡ pairs_of (suc n) = omega arith in
        let o : suc (suc (suc n)) % 2 ≡ suc n % 2 = omega arith in
        rw (lt-leb (pairs_of (suc (suc (suc n)))) 1 (omega arith), m, o)

raw_inside : (n : ℕ) (some : Bool) (ps : List SamplePair) (s : Scan) → RawPairs ps → length ps ≤ n → s.stage ≡ P.Raw n some → s.place + length (each_pair ps) < 4194303
    → Widths (each_pair ps) → Inside s (each_pair ps) s.left Inner
unfolding after
raw_inside n some [] s v c e l f = absurd v
raw_inside n some (p ∷ []) s v c e l f =
    pair_step s p [] v (rw (e, ne_eqb n 0 (λ q. omega arith))) (rw e) (omega arith) f.0 (λ k. inside_none _ Inner (rw e (λ k i. refl)))
raw_inside n some (p ∷ q ∷ ps) s v c e l f =
    pair_step s p (each_pair (q ∷ ps)) (full v.0) (rw (e, ne_eqb n 0 (λ q. omega arith))) (rw e) (omega arith) f.0
    (λ k. raw_inside (n - 1) true (q ∷ ps) _ v.1 (omega arith) (rw (e, v.0.second)) (omega arith) f.1)

-- ---- an event

width_within : (r : WindowRaw) → 1 ≤ r.width → r.width ≤ most_samples → R.window_within r ≡ true
unfolding R.window_within
width_within r a b = both (le-leb 1 r.width a) (le-leb r.width most_samples b)

-- records that may stand wherever an item may, and leave the reading where the next may stand
abbrev Fine : List Item → Type 0
Fine xs = (s : Scan) → Inner s → s.place + length xs < 4194303 → Inside s xs s.left Inner

piece_fine : (x : Piece) → PieceOk x → Widths (piece_of x) → Fine (piece_of x)
unfolding after
piece_fine (window r ps) v f s h l =
    step s _ (each_pair ps) s.left Inner (omega arith) (by_type s 4 (h 4 refl)) refl (ap not (width_within r v.0 v.1.0)) refl f.0 refl
    (λ k. window_inside r.width ps _ v.1.1 (start r.width v.0) (omega arith) f.1)
  where
    start : (w : ℕ) → 1 ≤ w → P.Window (pairs_of w) (eqb (w % 2) 1) ≡ window_at w
    start zero h = absurd (omega arith)
    start (suc w) h = refl
piece_fine (raw r ps) v f s h l =
    step s _ (each_pair ps) s.left Inner (omega arith) (by_type s 6 (h 6 refl)) refl refl refl f.0 refl
    (λ k. raw_inside most_pairs false ps _ v.1 v.0 refl (omega arith) f.1)
piece_fine (integral r) v f s h l = step s _ [] s.left Inner (omega arith) (by_type s 7 (h 7 refl)) refl refl refl f.0 refl (λ k. inside_none _ Inner (λ i n. refl))
piece_fine (time r) v f s h l = step s _ [] s.left Inner (omega arith) (by_type s 8 (h 8 refl)) refl refl refl f.0 refl (λ k. inside_none _ Inner (λ i n. refl))
piece_fine (pedestal r) v f s h l = step s _ [] s.left Inner (omega arith) (by_type s 10 (h 10 refl)) refl refl refl f.0 refl (λ k. inside_none _ Inner (λ i n. refl))

inside_fine : (s : Scan) (xs ys : List Item) (left : ℕ) → s.place + length (xs ++ ys) < 4194303 → Inside s xs left Inner → Fine ys → Inside s (xs ++ ys) left Inner
inside_fine s xs ys left l a b =
    inside_append s xs ys left left Inner Inner a (λ t p q r e. subst (λ (n : ℕ). Inside t ys n Inner) r (b t e (omega (arith, p, length-append xs ys))))

pieces_fine : (xs : List Piece) → Each PieceOk xs → Widths (pieces_of xs) → Fine (pieces_of xs)
pieces_fine [] v f s h l = inside_none s Inner h
pieces_fine (x ∷ xs) v f s h l =
    let w = widths_split (piece_of x) (pieces_of xs) f in
    inside_fine s (piece_of x) (pieces_of xs) s.left l (piece_fine x v.0 w.0 s h (omega (arith, length-append (piece_of x) (pieces_of xs)))) (pieces_fine xs v.1 w.1)

clock_inside : (c : Clock) (s : Scan) → ClockOk c → s.stage ≡ P.Opened → s.place + length (clock_of c) < 4194303 → Widths (clock_of c) → Inside s (clock_of c) s.left Inner
unfolding after
clock_inside no_clock s v e l f = inside_none s Inner (rw e (λ i n. rw n))
clock_inside (clock27 r) s v e l f = step s _ [] s.left Inner (omega arith) (by_type s 3 (rw e)) refl refl refl f.0 refl (λ k. inside_none _ Inner (λ i n. refl))
clock_inside (clock48 r high) s v e l f =
    step s _ _ s.left Inner (omega arith) (by_type s 3 (rw e)) refl refl refl f.0 refl
    (λ k. step _ (I.ClockHigh high) [] s.left Inner (omega arith) (by_more _ refl) refl (ap not (eq-eqb _ _ v)) refl f.1.0 refl (λ k. inside_none _ Inner (λ i n. refl)))

-- while words of the scalers are to come every word is one
by_count : (s : Scan) (n : ℕ) → s.stage ≡ P.Scalers n → (n ≡ 0 → ⊥) → (w : ℕ) → is_of F.Scaler w ≡ true → meaning_at s w ≡ M.Form F.Scaler
unfolding meaning_at
by_count s n e z w h = rw (e, ne_eqb n 0 z) (go (eqb (read 31 31 w) 0))
  where
    go : (b : Bool) → cond b (M.Form F.Scaler) (M.Form F.Scaler) ≡ M.Form F.Scaler
    go true = refl
    go false = refl

scalers_inside : (n : ℕ) (ws : List ScalerWord) (s : Scan) → length ws ≡ n → s.stage ≡ P.Scalers n → s.place + length (each_scaler ws) < 4194303 → Widths (each_scaler ws)
    → Inside s (each_scaler ws) s.left Edge
unfolding after
scalers_inside n [] s v e l f = inside_none s Edge (rw (e, ← v) (refl, refl))
scalers_inside n (w ∷ ws) s v e l f =
    step s (I.Scaler w) (each_scaler ws) s.left Edge (omega arith) (by_count s n e (λ q. omega (arith, v))) refl refl refl f.0 refl
    (λ k. scalers_inside (n - 1) ws _ (omega (arith, v)) (ap scaled_by e) (omega arith) f.1)

tail_inside : (t : Tail) (s : Scan) → TailOk t → Inner s → s.place + length (tail_of t) < 4194303 → Widths (tail_of t) → Inside s (tail_of t) s.left Edge
unfolding after
tail_inside no_scalers s v h l f = inside_none s Edge (inner_edge s h)
tail_inside (scalers r ws) s v h l f =
    step s _ (each_scaler ws) s.left Edge (omega arith) (by_type s 12 (h 12 refl)) refl refl refl f.0 refl (λ k. scalers_inside r.count ws _ v refl (omega arith) f.1)

event_inside : (e : EventTree) (k : ℕ) (s : Scan) → EventOk k e → Edge s → s.slot ≡ k → 0 < s.left → s.place + length (event_of e) < 4194303 → Widths (event_of e)
    → Inside s (event_of e) (s.left - 1) Edge
unfolding after
event_inside e k s v g d o l f =
    let items : List Item = pieces_of e.pieces in
    let end : List Item = tail_of e.tail in
    let w = widths_split (clock_of e.clock) (items ++ end) f.1 in
    let u = widths_split items end w.1 in
    let n : length (clock_of e.clock ++ (items ++ end)) ≡ length (clock_of e.clock) + length (items ++ end) = length-append (clock_of e.clock) (items ++ end) in
    let m : length (items ++ end) ≡ length items + length end = length-append items end in
    step s _ _ (s.left - 1) Edge (omega arith) (by_type s 2 g.0) (ap not (eq-eqb _ _ (v.slot ∙ sym d))) refl (ne_eqb s.left 0 (λ q. omega arith)) f.0 refl
    (λ j. inside_append _ (clock_of e.clock) (items ++ end) (s.left - 1) (s.left - 1) Inner Edge (clock_inside e.clock _ v.clock refl (omega (arith, n)) w.0)
    (λ t p q r h. inside_append t items end (s.left - 1) (s.left - 1) Inner Edge
    (subst (λ (i : ℕ). Inside t items i Inner) r (pieces_fine e.pieces v.pieces u.0 t h (omega (arith, p, n, m))))
    (λ a b c i k. subst (λ (j : ℕ). Inside a end j Edge) i (tail_inside e.tail a v.tail k (omega (arith, b, p, n, m)) u.1))))

events_inside : (es : List EventTree) (k : ℕ) (s : Scan) → Each (EventOk k) es → Edge s → s.slot ≡ k → s.left ≡ length es → s.place + length (events_of es) < 4194303
    → Widths (events_of es) → Inside s (events_of es) 0 Edge
events_inside [] k s v g d o l f = subst (λ (n : ℕ). Inside s [] n Edge) o (inside_none s Edge g)
events_inside (e ∷ es) k s v g d o l f =
    let w = widths_split (event_of e) (events_of es) f in
    let n : length (events_of (e ∷ es)) ≡ length (event_of e) + length (events_of es) = length-append (event_of e) (events_of es) in
    inside_append s (event_of e) (events_of es) (s.left - 1) 0 Edge Edge (event_inside e k s v.0 g d (omega (arith, o)) (omega (arith, n)) w.0)
    (λ t p q r h. events_inside es k t v.1 h (q ∙ d) (omega (arith, r, o)) (omega (arith, n, p)) w.1)

-- ---- a block

setup_inside : (u : Setup) (s : Scan) → s.stage ≡ P.Head → s.place + length (setup_of u) < 4194303 → Widths (setup_of u) → Inside s (setup_of u) s.left Edge
unfolding after
setup_inside no_setup s e l f = inside_none s Edge (rw e (refl, refl))
setup_inside (setup r) s e l f = step s _ [] s.left Edge (omega arith) (by_more s (ap more_by e)) refl refl refl f.0 refl (λ k. inside_none _ Edge (refl, refl))

fillers_follow : (fs : List Filler) (n k : ℕ) (s : Scan) → Each (λ f. f.slot ≡ k) fs → s.stage ≡ P.Tail n → s.slot ≡ k → length fs ≤ n → Widths (map (λ f. I.Filler f) fs)
    → Follow s (map (λ f. I.Filler f) fs)
unfolding after at_limit
fillers_follow [] n k s v e d l f = ap unfinished_by e
fillers_follow (x ∷ fs) n k s v e d l f =
    let here : Stands s (I.Filler x) =
    record { limit = rw e; form = own s (I.Filler x) (by_type s 15 (rw (e, ne_eqb n 0 (λ q. omega arith)))) f.0; slot = ap not (eq-eqb _ _ (v.0 ∙ sym d)); fields = refl; count = refl; widths = f.0 } in
    (here, fillers_follow fs (n - 1) k _ v.1 (ap filled_by e) d (omega arith) f.1)

events_within : (r : BlockHeader) → 1 ≤ r.events → fits (I.Block r) ≡ true → W.block_header_within r ≡ true
unfolding fits W.block_header W.block_header_within
events_within r h f = both (le-leb 1 r.events h) (and_right (leb r.number 1023) _ (and_right (leb r.slot 31) _ f))

words_bound : (r : BlockTrailer) → fits (I.Trailer r) ≡ true → r.words ≤ 4194303
unfolding fits W.trailer
words_bound r f = leb-true r.words 4194303 (and_right (leb r.slot 31) _ f)

block_follows : (b : BlockTree) → BlockOk b → Widths (records_of (block b)) → IsBlock (records_of (block b))
unfolding after onward at_limit
block_follows b v f =
    let xs : List Item = setup_of b.setup ++ events_of b.events in
    let w = widths_split (body_of b) _ f in
    let u = widths_split (setup_of b.setup) (events_of b.events) w.0.1 in
    let n : length xs ≡ length (setup_of b.setup) + length (events_of b.events) = length-append (setup_of b.setup) (events_of b.events) in
    let m : b.trailer.words ≤ 4194303 = words_bound b.trailer w.1.0 in
    let s : Scan = after start_of (I.Block b.header) in
    let a : Inside s xs 0 Edge =
    inside_append s (setup_of b.setup) (events_of b.events) b.header.events 0 Edge Edge
    (setup_inside b.setup s refl (omega (arith, v.count, n, m)) u.0)
    (λ t p q r h. events_inside b.events b.header.slot t v.events h q (r ∙ sym v.stated) (omega (arith, p, v.count, n, m)) u.1) in
    let k : b.trailer.words ≡ a.to.place + 1 = omega (arith, v.count, a.place) in
    let head : Stands start_of (I.Block b.header) =
    record { limit = refl; form = own start_of (I.Block b.header) (by_type start_of 0 refl) w.0.0; slot = refl; fields = ap not (events_within b.header v.some w.0.0); count = refl; widths = w.0.0 } in
    let end : Stands a.to (I.Trailer b.trailer) =
    record {
      limit = not_limit a.to (omega arith);
      form = own a.to (I.Trailer b.trailer) (by_type a.to 1 a.stage.1) w.1.0;
      slot = ap not (eq-eqb _ _ (v.slot ∙ sym a.slot));
      fields = refl;
      count = rw (eq-eqb a.to.left 0 a.rest, eq-eqb b.trailer.words (a.to.place + 1) k);
      widths = w.1.0;
    } in
    (head, a.passes _ (end, fillers_follow b.fillers 3 b.header.slot _ v.fillers refl a.slot (omega (arith, v.few)) w.1.1))

-- the records of a well-formed tree stand as the layout asks
pub tree_is_block : (t : Tree) → WellFormed t → IsBlock (records_of t)
unfolding after at_limit
tree_is_block (block b) w = block_follows b w.tree w.widths
tree_is_block (empty r) w = (record { limit = refl; form = own start_of (I.Empty r) (by_type start_of 14 refl) w.widths.0; slot = refl; fields = refl; count = refl; widths = w.widths.0 }, refl)
