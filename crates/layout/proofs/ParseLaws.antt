-- A block of the layout has its tree: records that stand as the reader's stages ask are those of a well-formed tree of the grammar. Assumes nothing.
use Rattle.std.specs.Prelude.{ℕ, zero, suc, ◌+◌, ◌-◌, ◌%◌, ◌≤◌, ◌<◌, ◌≡◌, refl, Bool, true, false, not, cond, ◌&&◌, ◌||◌, List, [], ◌∷◌, ◌++◌, map, eqb, leb, length}
use Rattle.std.proofs.Common.{sym, ap, ◌∙◌, subst, true≢false, append_assoc, arith, leb-true, leb-false, eqb-true, ne_eqb, length-append}
use Rattle.std.proofs.lemmas.Bool.{eqb-false, not-false}
use Rattle.ground.specs.TestsLaws.{and_left, and_right, or_none}
use Rattle.limits.specs.Limits.{most_samples, pairs_of}
use Rattle.fields.specs.Word.{field_at}
use Rattle.fields.specs.Tag.{is_defining, is_continuation}
use Rattle.framing.specs.declared.block_header.BlockHeader.{BlockHeader}
use Rattle.framing.specs.declared.trailer.BlockTrailer.{BlockTrailer}
use Rattle.framing.specs.declared.event_header.EventHeader.{EventHeader}
use Rattle.framing.specs.declared.trigger_time.TriggerTime.{TriggerTime}
use Rattle.framing.specs.declared.scaler.ScalerWord.{ScalerWord}
use Rattle.framing.specs.declared.filler.Filler.{Filler}
use Rattle.framing.specs.Words as W
use Rattle.raw.specs.declared.window.WindowRaw.{WindowRaw}
use Rattle.raw.specs.declared.pair.SamplePair.{SamplePair}
use Rattle.raw.specs.Words as R
use Rattle.items.specs.Items.{word_of, fits, form_of, tag_fields, is_of}
use Rattle.items.specs.declared.Form.{Form}
use Rattle.items.specs.declared.Form.TheVariants as F
use Rattle.items.specs.declared.Item.{Item}
use Rattle.items.specs.declared.Item.TheVariants as I
use Rattle.scan.specs.declared.Stage.{Stage}
use Rattle.scan.specs.declared.Stage.TheVariants as P
use Rattle.scan.specs.declared.Scan.{Scan}
use Rattle.scan.specs.After.{onward, paired_by, filled_by, scaled_by, after, start_of}
use Rattle.meaning.specs.declared.Meaning.{Meaning}
use Rattle.meaning.specs.declared.Meaning.TheVariants as M
use Rattle.meaning.specs.Meaning.{more_by, more_in, opening, edges, inner, allowed_by, allowed_in, other_by, other_in, meaning_in, unfinished_by, is_unallowed, is_end}
use Rattle.meaning.specs.MeaningLaws.{meaning_more, meaning_type, scaler_any}
use Rattle.questions.specs.Questions.{flag_by, flag_wrong, time_by}
use Rattle.layout.specs.Layout.{Stands, Follow, IsBlock}
use Rattle.layout.specs.LayoutLaws.{says}
use Rattle.layout.specs.Grammar.{Piece, window, raw, integral, time, pedestal, no_clock, clock27, clock48, Tail, no_scalers, scalers, EventTree, Setup, no_setup, setup, Tree, block, empty, each_pair, piece_of, pieces_of, clock_of, each_scaler, tail_of, events_of, setup_of, records_of, Each, BothValid, OddEnd, WindowPairs, LastPair, full, short, RawPairs, PieceOk, ClockOk, TailOk, EventOk, TreeOk, WellFormed, Widths}

-- ---- the rest of the records, by where the reading stands

-- at most n fillers
record Fillers (n k : ℕ) (xs : List Item) : Type 0 where
  fillers : List Filler
  few : length fillers ≤ n
  same : Each (λ f. f.slot ≡ k) fillers
  are : map (λ f. I.Filler f) fillers ≡ xs

-- the records `front`, `left` events, the trailer and fillers; xs begin at that place, which the trailer's 22 bits bound
record Ending (k left place : ℕ) (front xs : List Item) : Type 0 where
  events : List EventTree
  stated : length events ≡ left
  each : Each (EventOk k) events
  trailer : BlockTrailer
  slot : trailer.slot ≡ k
  later : place < trailer.words
  most : trailer.words ≤ 4194303
  behind : List Item
  fillers : Fillers 3 k behind
  count : trailer.words + length behind ≡ place + length xs
  are : (front ++ events_of events) ++ (I.Trailer trailer ∷ behind) ≡ xs

-- the same with a front of a kind
record Rest (L : List Item → Type 0) (k left place : ℕ) (xs : List Item) : Type 0 where
  front : List Item
  lead : L front
  ending : Ending k left place front xs

-- what is left of an event: `first`, then pieces and the tail
record Then {A : Type 0} (of : A → List Item) (ok : A → Type 0) (ys : List Item) : Type 0 where
  first : A
  fine : ok first
  pieces : List Piece
  each : Each PieceOk pieces
  tail : Tail
  closed : TailOk tail
  are : of first ++ (pieces_of pieces ++ tail_of tail) ≡ ys

-- the kinds: nothing, what is left of a block's head, of an event with its time, of a window's n pairs, of at most n pairs of type 6, at least one where none was read,
-- of an event's scalers
abbrev Nothing : List Item → Type 0
Nothing ys = [] ≡ ys

abbrev Begun : List Item → Type 0
Begun ys = (p : Setup) × (setup_of p ≡ ys)

abbrev Pieces : List Item → Type 0
Pieces ys = Then {A = Unit {0}} (λ u. []) (λ u. Unit {0}) ys

abbrev Clocked : List Item → Type 0
Clocked ys = Then clock_of ClockOk ys

abbrev Timed : ℕ → List Item → Type 0
Timed d ys = (r : TriggerTime) → r.middle ≡ d → Clocked (I.Clock r ∷ ys)

abbrev Windowed : ℕ → Bool → List Item → Type 0
Windowed n b ys = (w : ℕ) → 1 ≤ w → pairs_of w ≡ n → eqb (w % 2) 1 ≡ b → Then each_pair (WindowPairs w) ys

abbrev RawLeft : ℕ → Bool → List SamplePair → Type 0
RawLeft n some ps = (length ps ≤ n) × (some ≡ false → 1 ≤ length ps) × (1 ≤ length ps → RawPairs ps)

abbrev Scaled : ℕ → List Item → Type 0
Scaled n ys = (ws : List ScalerWord) × (length ws ≡ n) × (each_scaler ws ≡ ys)

abbrev Made : List Item → Type 0
Made xs = (t : Tree) × TreeOk t × (records_of t ≡ xs)

abbrev Led : Scan → (List Item → Type 0) → List Item → Type 0
Led s L xs = Rest L s.slot s.left s.place xs

-- what the records look like from a stage on
abbrev Shape : Stage → Scan → List Item → Type 0
Shape P.Start s xs = s.place ≡ 0 → Made xs
Shape P.Head s xs = Led s Begun xs
Shape P.Front s xs = Led s Nothing xs
Shape P.Opened s xs = Led s Clocked xs
Shape (P.Timed d) s xs = Led s (Timed d) xs
Shape P.Items s xs = Led s Pieces xs
Shape (P.Window n b) s xs = Led s (Windowed n b) xs
Shape (P.Raw n some) s xs = Led s (Then each_pair (RawLeft n some)) xs
Shape (P.Tail n) s xs = Fillers n s.slot xs
Shape (P.Scalers n) s xs = Led s (Scaled n) xs

abbrev Here : Scan → List Item → Type 0
Here s xs = Shape s.stage s xs

-- ---- one more record before the rest

more : {k old : ℕ} {front xs : List Item} (x : Item) (left place : ℕ) (before : List Item) (es : List EventTree) (r : Ending k old (onward place) front xs) → length es ≡ left → Each (EventOk k) es
    → before ++ events_of es ≡ x ∷ (front ++ events_of r.events) → Ending k left place before (x ∷ xs)
unfolding onward
more x left place before es r n e q =
    let a = ap (λ (l : List Item). l ++ (I.Trailer r.trailer ∷ r.behind)) q ∙ ap (λ (l : List Item). x ∷ l) r.are in
    record { events = es; stated = n; each = e; trailer = r.trailer; slot = r.slot; later = omega arith; most = r.most; behind = r.behind; fillers = r.fillers; count = omega arith; are = a }

keep : {L M : List Item → Type 0} {k left : ℕ} {xs : List Item} (x : Item) (place : ℕ) → Rest L k left (onward place) xs → ((ys : List Item) → L ys → M (x ∷ ys))
    → Rest M k left place (x ∷ xs)
keep x place r f = let e = r.ending in record { front = x ∷ r.front; lead = f r.front r.lead; ending = more x _ place (x ∷ r.front) e.events e e.stated e.each refl }

turn : {L M : List Item → Type 0} {k left place : ℕ} {xs : List Item} → Rest L k left place xs → ((ys : List Item) → L ys → M ys) → Rest M k left place xs
turn r f = record { front = r.front; lead = f r.front r.lead; ending = r.ending }

-- records that join what comes first
join : {A B : Type 0} {of : A → List Item} {to : B → List Item} {ok : A → Type 0} {good : B → Type 0} {ys : List Item} (xs : List Item) (t : Then of ok ys) (b : B) → good b
    → to b ++ (pieces_of t.pieces ++ tail_of t.tail) ≡ xs ++ (of t.first ++ (pieces_of t.pieces ++ tail_of t.tail)) → Then to good (xs ++ ys)
join xs t b o q = record { first = b; fine = o; pieces = t.pieces; each = t.each; tail = t.tail; closed = t.closed; are = q ∙ ap (λ (l : List Item). xs ++ l) t.are }

-- a record that makes a piece with what comes first
piece : {A : Type 0} {of : A → List Item} {ok : A → Type 0} {k left : ℕ} {xs : List Item} (x : Item) (place : ℕ) → Rest (Then of ok) k left (onward place) xs → (g : A → Piece)
    → ((a : A) → piece_of (g a) ≡ x ∷ of a) → ((a : A) → ok a → PieceOk (g a)) → Rest Pieces k left place (x ∷ xs)
piece x place r g w f =
    keep x place r (λ ys t. let ps = pieces_of t.pieces in
    let e = tail_of t.tail in
    let a = append_assoc (piece_of (g t.first)) ps e ∙ (ap (λ (l : List Item). l ++ (ps ++ e)) (w t.first) ∙ ap (λ (l : List Item). x ∷ l) t.are) in
    record { first = tt; fine = tt; pieces = g t.first ∷ t.pieces; each = (f t.first t.fine, t.each); tail = t.tail; closed = t.closed; are = a })

-- ---- where a record may stand

alike : (a b : ℕ) → not (eqb a b) ≡ false → a ≡ b
alike a b h = eqb-true a b (not-false (eqb a b) h)

not_no : {A : Type 0} {f : Form} → M.Unallowed ≡ M.Form f → A
not_no e = absurd (true≢false (ap is_unallowed e))

not_end : {A : Type 0} {f : Form} → M.End ≡ M.Form f → A
not_end e = absurd (true≢false (ap is_end e))

-- a word without a tag is no record with a type
abbrev typed : Meaning → Bool
typed (M.Form f) = eqb (tag_fields f) 2
typed M.Unallowed = true
typed M.End = true

not_bare : {A : Type 0} {f : Form} → M.Form F.Scaler ≡ M.Form f → eqb (tag_fields f) 2 ≡ true → A
not_bare e d = absurd (true≢false (sym d ∙ sym (ap typed e)))

-- what the record's own word says: of a defining word by its type, of a continuation
type_of_lem : (s : Scan) (x : Item) (type : ℕ) → Stands s x → (is_of (form_of x) (word_of x) ≡ true → is_defining type (word_of x) ≡ true)
    → meaning_in (other_in s) (allowed_in s) type ≡ M.Form (form_of x)
type_of_lem s x type h d = sym (meaning_type s (word_of x) type (d (says x h.widths).tag)) ∙ h.form

more_of : (s : Scan) (x : Item) → Stands s x → (is_of (form_of x) (word_of x) ≡ true → is_continuation (word_of x) ≡ true) → more_in s ≡ M.Form (form_of x)
more_of s x h d = sym (meaning_more s (word_of x) (d (says x h.widths).tag)) ∙ h.form

-- of a scaler word whatever its bits: so a continuation would be one
bare_of : (s : Scan) (r : ScalerWord) → Stands s (I.Scaler r) → more_in s ≡ M.Form F.Scaler
unfolding is_continuation field_at
bare_of s r h = sym (meaning_more s 0 refl) ∙ scaler_any s 0 (word_of (I.Scaler r)) h.form

-- a record with a type, by the lists of types that are allowed in some stage
at : (s : Scan) (xs : List Item) (type : ℕ) {f : Form} → meaning_in (other_in s) (allowed_in s) type ≡ M.Form f → eqb (tag_fields f) 2 ≡ true → (meaning_in M.Unallowed opening type ≡ M.Form f → s.place ≡ 0 → Made xs)
    → (meaning_in M.Unallowed edges type ≡ M.Form f → Led s Nothing xs) → (meaning_in M.Unallowed (F.Clock ∷ inner) type ≡ M.Form f → Led s Clocked xs)
    → (meaning_in M.Unallowed inner type ≡ M.Form f → Led s Pieces xs) → ((n : ℕ) → s.stage ≡ P.Tail n → eqb n 0 ≡ false → meaning_in M.End (F.Filler ∷ []) type ≡ M.Form f → Fillers n s.slot xs)
    → Here s xs
at s xs type {f} e d start edge opened inside tail = go s.stage refl e
  where
    go : (p : Stage) → s.stage ≡ p → meaning_in (other_by p) (allowed_by p) type ≡ M.Form f → Shape p s xs
    go P.Start m e = start e
    go P.Head m e = turn (edge e) (λ ys q. (no_setup, q))
    go P.Front m e = edge e
    go P.Opened m e = opened e
    go (P.Timed d) m e = turn (inside e) (λ ys t r q. join (I.Clock r ∷ []) t (clock27 r) tt refl)
    go P.Items m e = inside e
    go (P.Window n b) m e = not_no e
    go (P.Raw n some) m e = by some e
      where
        by : (b : Bool) → meaning_in M.Unallowed (cond b inner []) type ≡ M.Form f → Led s (Then each_pair (RawLeft n b)) xs
        by true e = turn (inside e) (λ ys t. join [] t [] (omega arith, λ z. absurd (true≢false z), λ z. absurd (omega arith)) refl)
        by false e = not_no e
    go (P.Tail n) m e = by (eqb n 0) refl e
      where
        by : (b : Bool) → eqb n 0 ≡ b → meaning_in M.End (cond b [] (F.Filler ∷ [])) type ≡ M.Form f → Fillers n s.slot xs
        by true z e = not_end e
        by false z e = tail n m z e
    go (P.Scalers n) m e = by (eqb n 0) refl e
      where
        by : (b : Bool) → eqb n 0 ≡ b → meaning_in (cond b M.Unallowed (M.Form F.Scaler)) (cond b edges []) type ≡ M.Form f → Led s (Scaled n) xs
        by true z e = turn (edge e) (λ ys q. ([], sym (eqb-true n 0 z), q))
        by false z e = not_bare e d

-- a record of an event, or at its edge
item : (s : Scan) (xs : List Item) (type : ℕ) {f : Form} → meaning_in M.Unallowed opening type ≡ M.Unallowed → meaning_in M.End (F.Filler ∷ []) type ≡ M.End
    → meaning_in (other_in s) (allowed_in s) type ≡ M.Form f → eqb (tag_fields f) 2 ≡ true → (meaning_in M.Unallowed edges type ≡ M.Form f → Led s Nothing xs) → Led s Pieces xs → Here s xs
item s xs type i j e d a b =
    at s xs type e d (λ q. not_no (sym i ∙ q)) a (λ q. turn b (λ ys t. join [] t no_clock tt refl)) (λ q. b) (λ n m z q. not_end (sym j ∙ q))

edge : {k left place : ℕ} {xs : List Item} → Rest Nothing k left place xs → Rest Pieces k left place xs
edge a = turn a (λ ys n. record { first = tt; fine = tt; pieces = []; each = tt; tail = no_scalers; closed = tt; are = n })

-- a record with none, by what a continuation is in each stage; a scaler word is what a continuation is there
next : (S : Stage → Type 0) (p : Stage) {f : Form} → more_by p ≡ M.Form f → (F.Parameters ≡ f → S P.Head) → ((d : ℕ) → F.ClockHigh ≡ f → S (P.Timed d))
    → ((n : ℕ) (b : Bool) → F.Pair ≡ f → S (P.Window n b)) → ((n : ℕ) (some : Bool) → F.Pair ≡ f → eqb n 0 ≡ false → S (P.Raw n some))
    → ((n : ℕ) → F.Scaler ≡ f → eqb n 0 ≡ false → S (P.Scalers n)) → S p
next S p {f} e head timed windowed rawed scaled = go p e
  where
    same : {g : Form} → M.Form g ≡ M.Form f → g ≡ f
    same e = cc

    go : (p : Stage) → more_by p ≡ M.Form f → S p
    go P.Start e = not_no e
    go P.Head e = head (same e)
    go P.Front e = not_no e
    go P.Opened e = not_no e
    go (P.Timed d) e = timed d (same e)
    go P.Items e = not_no e
    go (P.Window n b) e = windowed n b (same e)
    go (P.Raw n some) e = by (eqb n 0) refl e
      where
        by : (b : Bool) → eqb n 0 ≡ b → cond b M.Unallowed (M.Form F.Pair) ≡ M.Form f → S (P.Raw n some)
        by true z e = not_no e
        by false z e = rawed n some (same e) z
    go (P.Tail n) e = not_end e
    go (P.Scalers n) e = by (eqb n 0) refl e
      where
        by : (b : Bool) → eqb n 0 ≡ b → cond b M.Unallowed (M.Form F.Scaler) ≡ M.Form f → S (P.Scalers n)
        by true z e = not_no e
        by false z e = scaled n (same e) z

-- ---- pairs

pair_is : (p : SamplePair) (a b c d : Bool) → eqb p.nofirst 0 ≡ a → eqb p.nosecond 1 ≡ b → eqb p.second 0 ≡ c → fits (I.Pair p) ≡ true → (not a || ((b && not c) || d)) ≡ false
    → LastPair p × (d ≡ false)
unfolding fits R.pair
pair_is p true true true d x y z l h = (short (record { first = eqb-true p.nofirst 0 x; second = eqb-true p.nosecond 1 y; zero = eqb-true p.second 0 z }), h)
pair_is p true true false d x y z l h = absurd (true≢false h)
pair_is p true false c d x y z l h =
    let m : leb p.nosecond 1 ≡ true = and_left (leb p.nosecond 1) _ (and_right (leb p.first 8191) _ (and_right (leb p.nofirst 1) _ l)) in
    (full (record { first = eqb-true p.nofirst 0 x; second = omega (arith, leb-true p.nosecond 1 m, eqb-false p.nosecond 1 y) }), h)
pair_is p false b c d x y z l h = absurd (true≢false h)

ends : {p : SamplePair} → LastPair p → (p.nosecond ≡ 1 → OddEnd p) × (p.nosecond ≡ 0 → BothValid p)
ends (full h) = (λ e. absurd (omega (arith, h.second)), λ e. h)
ends (short h) = (λ e. h, λ e. absurd (omega (arith, h.second)))

pair_first : {ok good : List SamplePair → Type 0} {ys : List Item} (p : SamplePair) → Then each_pair ok ys → ((ps : List SamplePair) → ok ps → good (p ∷ ps)) → Then each_pair good (I.Pair p ∷ ys)
pair_first p t f = join (I.Pair p ∷ []) t (p ∷ t.first) (f t.first t.fine) refl

-- a window's pair, where n were still to come
window_last : (n : ℕ) (b : Bool) (p : SamplePair) (ys : List Item) → LastPair p → p.nosecond ≡ cond (eqb n 1 && b) 1 0 → n ≤ 1 → Pieces ys → Windowed n b (I.Pair p ∷ ys)
unfolding pairs_of
window_last n b p ys l f h t zero o c d = absurd (omega arith)
window_last n b p ys l f h t (suc zero) o c d = join (I.Pair p ∷ []) t (p ∷ []) ((ends l).0 (f ∙ rw (← c, ← d))) refl
window_last n b p ys l f h t (suc (suc zero)) o c d = join (I.Pair p ∷ []) t (p ∷ []) ((ends l).1 (f ∙ rw (← c, ← d)), tt) refl
window_last n b p ys l f h t (suc (suc (suc w))) o c d = absurd (omega arith)

window_more : (n : ℕ) (b : Bool) (p : SamplePair) (ys : List Item) → LastPair p → p.nosecond ≡ cond (eqb n 1 && b) 1 0 → 1 < n → Windowed (n - 1) b ys → Windowed n b (I.Pair p ∷ ys)
unfolding pairs_of
window_more n b p ys l f h t zero o c d = absurd (omega arith)
window_more n b p ys l f h t (suc zero) o c d = absurd (omega arith)
window_more n b p ys l f h t (suc (suc w)) o c d =
    let m : (n ≡ 1 → ⊥) = λ e. omega arith in
    let q : suc (suc w) % 2 ≡ w % 2 = omega arith in
    pair_first p (t w (omega arith) (omega arith) (ap (λ (j : ℕ). eqb j 1) (sym q) ∙ d)) (λ ps k. ((ends l).1 (f ∙ rw (ne_eqb n 1 m)), k))

raw_more : (n : ℕ) (some : Bool) (p : SamplePair) (ps : List SamplePair) → 1 ≤ n → LastPair p → RawLeft (cond (eqb p.nosecond 1) 0 (n - 1)) true ps → RawLeft n some (p ∷ ps)
raw_more n some p [] o l h = (o, λ z. omega arith, λ z. l)
raw_more n some p (q ∷ ps) o (full w) h = let l : length (q ∷ ps) ≤ n - 1 = rw w.second at h.0 in (omega arith, λ z. omega arith, λ z. (w, h.2 (omega arith)))
raw_more n some p (q ∷ ps) o (short w) h = let l : length (q ∷ ps) ≤ 0 = rw w.second at h.0 in absurd (omega arith)

-- ---- one record and the rest

trailer_first : (s : Scan) (r : BlockTrailer) (xs : List Item) → Stands s (I.Trailer r) → Fillers 3 s.slot xs → Led s Nothing (I.Trailer r ∷ xs)
unfolding fits W.trailer
trailer_first s r xs h q =
    let c = or_none _ _ h.count in
    let l = alike s.left 0 c.0 in
    let w = alike r.words (s.place + 1) c.1 in
    let m = leb-true r.words 4194303 (and_right (leb r.slot 31) _ h.widths) in
    let k = alike r.slot s.slot h.slot in
    record { front = []; lead = refl; ending = record { events = []; stated = sym l; each = tt; trailer = r; slot = k; later = omega arith; most = m; behind = xs; fillers = q; count = omega arith; are = refl } }

event_first : (s : Scan) (r : EventHeader) (xs : List Item) → Stands s (I.Event r) → Rest Clocked s.slot (s.left - 1) (onward s.place) xs → Led s Nothing (I.Event r ∷ xs)
event_first s r xs h q =
    let t = q.lead in
    let e = q.ending in
    let v : EventTree = record { header = r; clock = t.first; pieces = t.pieces; tail = t.tail } in
    let k : EventOk s.slot v = record { slot = alike r.slot s.slot h.slot; clock = t.fine; pieces = t.each; tail = t.closed } in
    let a = ap (λ (l : List Item). I.Event r ∷ (l ++ events_of e.events)) t.are in
    record { front = []; lead = refl; ending = more (I.Event r) s.left s.place [] (v ∷ e.events) e (omega (arith, e.stated, eqb-false s.left 0 h.count)) (k, e.each) a }

block_first : (s : Scan) (r : BlockHeader) (xs : List Item) → Stands s (I.Block r) → Rest Begun r.slot r.events (onward s.place) xs → s.place ≡ 0 → Made (I.Block r ∷ xs)
unfolding onward W.block_header_within
block_first s r xs h q z =
    let e = q.ending in
    let b = setup_of q.lead.0 ++ events_of e.events in
    let fs = map (λ f. I.Filler f) e.fillers.fillers in
    let a : b ++ (I.Trailer e.trailer ∷ fs) ≡ xs = cc in
    let c : e.trailer.words ≡ suc (length b) + 1 = omega (arith, e.count, length-append b (I.Trailer e.trailer ∷ fs), ap length a, ap length e.fillers.are) in
    let o = leb-true 1 r.events (and_left _ _ (not-false _ h.fields)) in
    let t = block (record { header = r; setup = q.lead.0; events = e.events; trailer = e.trailer; fillers = e.fillers.fillers }) in
    let k : TreeOk t = record { some = o; stated = e.stated; events = e.each; count = c; slot = e.slot; few = e.fillers.few; fillers = e.fillers.same } in
    (t, k, ap (λ (l : List Item). I.Block r ∷ l) a)

width_of : (r : WindowRaw) → not (R.window_within r) ≡ false → (1 ≤ r.width) × (r.width ≤ most_samples)
unfolding R.window_within
width_of r h =
    let f = not-false _ h in
    (leb-true 1 r.width (and_left _ _ f), leb-true r.width most_samples (and_right (leb 1 r.width) _ f))

none_left : (fs : List Filler) (xs : List Item) → length fs ≤ 0 → map (λ f. I.Filler f) fs ≡ xs → [] ≡ xs
none_left [] xs l e = e
none_left (f ∷ fs) xs l e = absurd (omega arith)

differ : {A : Type 0} → ◌≡◌ {A = ℕ} 0 1 → A
differ e = absurd (omega arith)

one_more : (s : Scan) (x : Item) (xs : List Item) → Stands s x → Here (after s x) xs → Here s (x ∷ xs)
unfolding after
one_more s (I.Block r) xs h q = at s _ 0 (type_of_lem s _ 0 h (λ t. t)) refl (λ e. block_first s r xs h q) not_no not_no not_no (λ n m z. not_end)
one_more s (I.Parameters r) xs h q =
    next (λ p. Shape p s (I.Parameters r ∷ xs)) s.stage (more_of s _ h (λ t. t)) (λ e. keep (I.Parameters r) s.place q (λ ys n. (setup r, ap (λ (l : List Item). I.Parameters r ∷ l) n)))
    (λ d e. differ (cc)) (λ n b e. differ (cc)) (λ n some e z. differ (cc)) (λ n e z. differ (cc))
one_more s (I.Trailer r) xs h q = item s _ 1 refl refl (type_of_lem s _ 1 h (λ t. t)) refl (λ e. trailer_first s r xs h q) (edge (trailer_first s r xs h q))
one_more s (I.Event r) xs h q = item s _ 2 refl refl (type_of_lem s _ 2 h (λ t. t)) refl (λ e. event_first s r xs h q) (edge (event_first s r xs h q))
one_more s (I.Clock r) xs h q =
    at s _ 3 (type_of_lem s _ 3 h (λ t. t)) refl not_no not_no (λ e. keep (I.Clock r) s.place q (λ ys t. t r refl)) not_no (λ n m z. not_end)
one_more s (I.ClockHigh r) xs h q =
    next (λ p. time_by p r.high ≡ false → Shape p s (I.ClockHigh r ∷ xs)) s.stage (more_of s _ h (λ t. t)) (λ e. differ (cc))
    (λ d e f. keep (I.ClockHigh r) s.place q (λ ys t c m. join (I.Clock c ∷ I.ClockHigh r ∷ []) t (clock48 c r) (alike (r.high % 8) d f ∙ sym m) refl))
    (λ n b e. differ (cc)) (λ n some e z. differ (cc)) (λ n e z. differ (cc)) h.fields
one_more s (I.Window r) xs h q =
    let f = width_of r h.fields in
    let l = f.0 in
    item s _ 4 refl refl (type_of_lem s _ 4 h (λ t. t)) refl not_no
    (piece (I.Window r) s.place (turn q (λ ys t. t r.width l refl refl)) (window r) (λ ps. refl) (λ ps o. (l, (f.1, o))))
one_more s (I.Raw r) xs h q = item s _ 6 refl refl (type_of_lem s _ 6 h (λ t. t)) refl not_no (piece (I.Raw r) s.place q (raw r) (λ ps. refl) (λ ps o. (o.0, o.2 (o.1 refl))))
one_more s (I.Pair r) xs h q =
    let o = pair_is r (eqb r.nofirst 0) (eqb r.nosecond 1) (eqb r.second 0) (flag_wrong s r.nosecond) refl refl refl h.widths h.fields in
    next (λ p. flag_by p r.nosecond ≡ false → Shape (paired_by p r.nosecond) (after s (I.Pair r)) xs → Shape p s (I.Pair r ∷ xs)) s.stage (more_of s _ h (λ t. t))
    (λ e. differ (cc)) (λ d e. differ (cc))
    (λ n b e f. in_window_lem n b o.0 (alike r.nosecond (cond (eqb n 1 && b) 1 0) f) (leb n 1) refl)
    (λ n some e z f q. keep (I.Pair r) s.place q (λ ys t. pair_first r t (λ ps. raw_more n some r ps (omega (arith, eqb-false n 0 z)) o.0)))
    (λ n e z. differ (cc)) o.1 q
  where
    in_window_lem : (n : ℕ) (b : Bool) → LastPair r → r.nosecond ≡ cond (eqb n 1 && b) 1 0 → (d : Bool) → leb n 1 ≡ d
        → Shape (cond d P.Items (P.Window (n - 1) b)) (after s (I.Pair r)) xs → Led s (Windowed n b) (I.Pair r ∷ xs)
    in_window_lem n b l f true z q = keep (I.Pair r) s.place q (λ ys. window_last n b r ys l f (leb-true n 1 z))
    in_window_lem n b l f false z q = keep (I.Pair r) s.place q (λ ys. window_more n b r ys l f (leb-false n 1 z))
one_more s (I.Integral r) xs h q = item s _ 7 refl refl (type_of_lem s _ 7 h (λ t. t)) refl not_no (piece (I.Integral r) s.place q (λ u. integral r) (λ u. refl) (λ u o. tt))
one_more s (I.Time r) xs h q = item s _ 8 refl refl (type_of_lem s _ 8 h (λ t. t)) refl not_no (piece (I.Time r) s.place q (λ u. time r) (λ u. refl) (λ u o. tt))
one_more s (I.Pedestal r) xs h q = item s _ 10 refl refl (type_of_lem s _ 10 h (λ t. t)) refl not_no (piece (I.Pedestal r) s.place q (λ u. pedestal r) (λ u. refl) (λ u o. tt))
one_more s (I.Empty r) xs h q = at s _ 14 (type_of_lem s _ 14 h (λ t. t)) refl (λ e z. (empty r, tt, ap (λ (l : List Item). I.Empty r ∷ l) (none_left q.fillers xs q.few q.are))) not_no not_no not_no (λ n m z. not_end)
one_more s (I.Filler r) xs h q =
    at s _ 15 (type_of_lem s _ 15 h (λ t. t)) refl not_no not_no not_no not_no
    (λ n m z e. let t : Fillers (n - 1) s.slot xs = subst (λ (p : Stage). Shape (filled_by p) (after s (I.Filler r)) xs) m q in
    record { fillers = r ∷ t.fillers; few = omega (arith, t.few, eqb-false n 0 z); same = (alike r.slot s.slot h.slot, t.same); are = ap (λ (l : List Item). I.Filler r ∷ l) t.are })
one_more s (I.Scalers r) xs h q =
    item s _ 12 refl refl (type_of_lem s _ 12 h (λ t. t)) refl not_no
    (keep (I.Scalers r) s.place q (λ ys t. record { first = tt; fine = tt; pieces = []; each = tt; tail = scalers r t.0; closed = t.1; are = ap (λ (l : List Item). I.Scalers r ∷ l) t.2 }))
one_more s (I.Scaler r) xs h q =
    next (λ p. Shape (scaled_by p) (after s (I.Scaler r)) xs → Shape p s (I.Scaler r ∷ xs)) s.stage (bare_of s r h) (λ e. differ (cc)) (λ d e. differ (cc)) (λ n b e. differ (cc))
    (λ n some e z. differ (cc))
    (λ n e z q. keep (I.Scaler r) s.place q (λ ys t. (r ∷ t.0, omega (arith, t.1, eqb-false n 0 z), ap (λ (l : List Item). I.Scaler r ∷ l) t.2))) q

-- ---- all records

no_more : (p : Stage) (s : Scan) → unfinished_by p ≡ false → Shape p s []
no_more P.Start s h = absurd (true≢false h)
no_more P.Head s h = absurd (true≢false h)
no_more P.Front s h = absurd (true≢false h)
no_more P.Opened s h = absurd (true≢false h)
no_more (P.Timed d) s h = absurd (true≢false h)
no_more P.Items s h = absurd (true≢false h)
no_more (P.Window n b) s h = absurd (true≢false h)
no_more (P.Raw n some) s h = absurd (true≢false h)
no_more (P.Tail n) s h = record { fillers = []; few = omega arith; same = tt; are = refl }
no_more (P.Scalers n) s h = absurd (true≢false h)

shape_of : (s : Scan) (xs : List Item) → Follow s xs → Here s xs
shape_of s [] h = no_more s.stage s h
shape_of s (x ∷ xs) h = one_more s x xs h.0 (shape_of (after s x) xs h.1)

widths_of : (s : Scan) (xs : List Item) → Follow s xs → Widths xs
widths_of s [] h = tt
widths_of s (x ∷ xs) h = (h.0.widths, widths_of (after s x) xs h.1)

-- the tree of a block, with its records
pub record Parsed (xs : List Item) : Type 0 where
  pub tree : Tree
  pub formed : WellFormed tree
  pub are : records_of tree ≡ xs

-- records that stand as the layout asks are those of a well-formed tree
pub block_has_tree : (xs : List Item) → IsBlock xs → Parsed xs
block_has_tree xs h =
    let (t, k, e) = shape_of start_of xs h refl in
    record { tree = t; formed = record { tree = k; widths = subst Widths (sym e) (widths_of start_of xs h) }; are = e }
