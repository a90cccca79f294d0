-- How long a text can be: at most 23 bytes a word, and one refusal's line. Assumes nothing.
use Rattle.std.specs.Prelude.{ℕ, zero, suc, ◌+◌, ◌-◌, ◌*◌, ◌/◌, ◌^◌, ◌≤◌, ◌<◌, ◌≡◌, refl, Bool, true, false, cond, not, ◌||◌, List, [], ◌∷◌, ◌++◌, map, T, IsOk, leb, eqb, ltb, length}
use Rattle.std.specs.declared.option.Option.{Option}
use Rattle.std.specs.declared.option.Option.TheVariants.{Some, None}
use Rattle.std.specs.declared.result.Result.TheVariants.{Ok, Err}
use Rattle.std.proofs.Common.{sym, ap, ◌∙◌, arith, lt_of_lt_of_le, ltb-false, le-leb, ne_eqb, leb→le, lit<, lit≤}
use Rattle.ground.specs.Tests.{first_of}
use Rattle.fields.specs.Word.{field_at}
use Rattle.framing.specs.Words.{block_header_of, parameters_of, trailer_of, event_header_of, trigger_time_of, trigger_time_high_of, scalers_of, scaler_of, empty_of, filler_of}
use Rattle.raw.specs.Words.{window_of, pulse_raw_of, pair_of}
use Rattle.measures.specs.Words.{integral_of, time_of, pedestal_of}
use Rattle.framing.specs.declared.trigger_time.TriggerTime.{TriggerTime}
use Rattle.items.specs.Items.{item_from, fixed_in}
use Rattle.items.specs.declared.Form.{Form}
use Rattle.items.specs.declared.Form.TheVariants as F
use Rattle.items.specs.declared.Item.{Item}
use Rattle.scan.specs.declared.Scan.{Scan}
use Rattle.meaning.specs.declared.Meaning.{Meaning}
use Rattle.meaning.specs.declared.Meaning.TheVariants as M
use Rattle.reader.specs.Judged.{Judged}
use Rattle.reader.specs.Judged as J
use Rattle.reader.specs.RunLaws.{items_le}
use Rattle.scan.specs.After.{onward, after, start_of}
use Rattle.meaning.specs.Meaning.{meaning_at, is_unallowed, unfinished}
use Rattle.questions.specs.Questions.{at_limit, slot_wrong, item_wrong, count_wrong, of_form, refusal_of}
use Rattle.reader.specs.Reader.{step_by, step_at, with_item, judge_at, Out, Whole, Broken, end_of, Reading, just, on_judged, read_from}
use Rattle.reader.specs.Step as S
use Rattle.fields.proofs.WordLaws.{field_lt}
use Rattle.fields.specs.Bytes.{words_of_bytes}
use Rattle.fields.proofs.BytesLaws.{words_le}
use Rattle.written.specs.Line.{Cell, Number, cell_of, Line, line_of}
use Rattle.written.proofs.LengthLaws.{Below, most, size, size_none, size_both, size_one}
use Rattle.listing.specs.declared.NoRoom.{NoRoom}
use Rattle.lines.specs.Lines.{block_name, setup_name, event_name, clock_name, clock27_name, window_name, pulse_name, pair_name, integral_name, time_name, ped_name, end_name, fill_name, empty_name, refused_name, scalers_name, refused_line, fill_lines, clock_line, scalers_line}
use Rattle.entries.specs.Entries.{high_in, second_of, scalers_in, record_lines, filler_in}
use Rattle.blocklines.specs.BlockLines.{item_lines, fillers_in, is_whole, out_lines, block_lines}
use Rattle.listing.specs.Listing.{lines_from, cut_wrong, length_wrong, lines_unless, listing_of, long_listing_of}
use Rattle.listing.specs.Says.{Listed, listed_number, counted, ListSays}
use Rattle.blocklines.specs.BlockLaws.{whole_some}

-- ---- one record

-- a field of so many bits has so many decimal digits
field_digits : (word place width d : ℕ) → T (leb (2 ^ width) (10 ^ d)) → field_at word place width < 10 ^ d
field_digits word place width d t = lt_of_lt_of_le (field_lt word place width) (leb→le (2 ^ width) (10 ^ d) t)

-- a second time word has 24 bits
abbrev HighSmall : Option ℕ → Type 0
HighSmall None = Unit
HighSmall (Some high) = high < 2 ^ 24

-- a scaler word has 32 bits, and so ten digits
abbrev tens : List ℕ → List ℕ
tens [] = []
tens (n ∷ ns) = 9 ∷ tens ns

abbrev WordsSmall : List ℕ → Type 0
WordsSmall ns = Below (map (λ n. Number n) ns) (tens ns)

-- the cells of the scaler words behind a header are held for it by those words: 11 bytes each
record Small (x : Item) : Type 0 where
  line : (behind : List Item) → HighSmall (second_of behind) → WordsSmall (scalers_in behind)
      → size (record_lines x behind) + 23 * filler_in x + 11 * length (scalers_in (x ∷ behind)) ≤ 23 + 11 * length (scalers_in behind)
  high : HighSmall (high_in x)
  words : (behind : List Item) → WordsSmall (scalers_in behind) → WordsSmall (scalers_in (x ∷ behind))

one : (n : ℕ) (name : List ℕ) (cells : List Cell) (ds : List ℕ) → Below cells ds → length name + (most ds + 1) ≤ 23 → size (line_of name cells ∷ []) + 23 * 0 + 11 * 0 ≤ 23 + 11 * n
one n name cells ds h k = omega (arith, size_one name cells ds 23 h k)

most_tens : (ns : List ℕ) → most (tens ns) ≡ 11 * length ns
most_tens [] = refl
most_tens (n ∷ ns) = omega (arith, most_tens ns)

scalers_small : (ns : List ℕ) → WordsSmall ns → size (scalers_line ns ∷ []) ≤ 8 + 11 * length ns
scalers_small ns h = size_one scalers_name _ (tens ns) (8 + 11 * length ns) h (omega (arith, most_tens ns))

cell_below : (b : Bool) (n d : ℕ) (cells : List Cell) (ds : List ℕ) → n < 10 ^ suc d → Below cells ds → Below (cell_of b n ∷ cells) (d ∷ ds)
cell_below true n d cells ds h r = r
cell_below false n d cells ds h r = (h, r)

pair_below : (a b : Bool) (m n : ℕ) → m < 10 ^ 4 → n < 10 ^ 4 → Below (cell_of a m ∷ cell_of b n ∷ []) (3 ∷ 3 ∷ [])
pair_below a b m n h k = cell_below a m 3 (cell_of b n ∷ []) (3 ∷ []) h (cell_below b n 3 [] [] k tt)

clock_small : (n : ℕ) (r : TriggerTime) (second : Option ℕ) → r.middle < 10 → r.low < 2 ^ 24 → HighSmall second → size (clock_line r second ∷ []) + 23 * 0 + 11 * 0 ≤ 23 + 11 * n
clock_small n r None h k l = one n clock27_name _ (8 ∷ []) (omega arith, tt) (lit≤ tt)
clock_small n r (Some high) h k l = one n clock_name _ (14 ∷ []) (omega arith, tt) (lit≤ tt)

small : (f : Form) (word : ℕ) → Small (item_from f word)
unfolding block_header_of parameters_of trailer_of event_header_of trigger_time_of trigger_time_high_of scalers_of scaler_of empty_of filler_of window_of pulse_raw_of pair_of integral_of time_of pedestal_of
small F.Block w = record { line = λ b h k. one _ block_name _ (1 ∷ 3 ∷ 2 ∷ []) (field_digits w 22 5 2 tt, (field_digits w 8 10 4 tt, (field_digits w 0 8 3 tt, tt))) (lit≤ tt); high = tt; words = λ b k. tt }
small F.Parameters w = record { line = λ b h k. one _ setup_name _ (3 ∷ 2 ∷ 2 ∷ []) (field_digits w 18 11 4 tt, (field_digits w 9 9 3 tt, (field_digits w 0 9 3 tt, tt))) (lit≤ tt); high = tt; words = λ b k. tt }
small F.Trailer w = record { line = λ b h k. one _ end_name _ (6 ∷ []) (field_digits w 0 22 7 tt, tt) (lit≤ tt); high = tt; words = λ b k. tt }
small F.Event w = record { line = λ b h k. one _ event_name _ (6 ∷ []) (field_digits w 0 22 7 tt, tt) (lit≤ tt); high = tt; words = λ b k. tt }
small F.Clock w = record { line = λ b h k. clock_small _ _ (second_of b) (field_digits w 24 3 1 tt) (field_lt w 0 24) h; high = tt; words = λ b k. tt }
small F.ClockHigh w = record { line = λ b h k. omega (arith, size_none); high = field_lt w 0 24; words = λ b k. tt }
small F.Window w = record { line = λ b h k. one _ window_name _ (1 ∷ 3 ∷ []) (field_digits w 23 4 2 tt, (field_digits w 0 12 4 tt, tt)) (lit≤ tt); high = tt; words = λ b k. tt }
small F.Raw w = record { line = λ b h k. one _ pulse_name _ (1 ∷ 0 ∷ 3 ∷ []) (field_digits w 23 4 2 tt, (field_digits w 21 2 1 tt, (field_digits w 0 10 4 tt, tt))) (lit≤ tt); high = tt; words = λ b k. tt }
small F.Pair w = record { line = λ b h k. one _ pair_name _ (3 ∷ 3 ∷ []) (pair_below (eqb (field_at w 29 1) 1) (eqb (field_at w 13 1) 1) (field_at w 16 13) (field_at w 0 13) (field_digits w 16 13 4 tt) (field_digits w 0 13 4 tt)) (lit≤ tt); high = tt; words = λ b k. tt }
small F.Integral w = record { line = λ b h k. one _ integral_name _ (1 ∷ 0 ∷ 0 ∷ 5 ∷ []) (field_digits w 23 4 2 tt, (field_digits w 21 2 1 tt, (field_digits w 19 2 1 tt, (field_digits w 0 19 6 tt, tt)))) (lit≤ tt); high = tt; words = λ b k. tt }
small F.Time w = record { line = λ b h k. one _ time_name _ (1 ∷ 0 ∷ 0 ∷ 2 ∷ 1 ∷ []) (field_digits w 23 4 2 tt, (field_digits w 21 2 1 tt, (field_digits w 19 2 1 tt, (field_digits w 6 9 3 tt, (field_digits w 0 6 2 tt, tt))))) (lit≤ tt); high = tt; words = λ b k. tt }
small F.Pedestal w = record { line = λ b h k. one _ ped_name _ (1 ∷ 0 ∷ 2 ∷ 3 ∷ []) (field_digits w 23 4 2 tt, (field_digits w 21 2 1 tt, (field_digits w 12 9 3 tt, (field_digits w 0 12 4 tt, tt)))) (lit≤ tt); high = tt; words = λ b k. tt }
small F.Empty w = record { line = λ b h k. one _ empty_name _ (1 ∷ []) (field_digits w 22 5 2 tt, tt) (lit≤ tt); high = tt; words = λ b k. tt }
small F.Filler w = record { line = λ b h k. omega (arith, size_none); high = tt; words = λ b k. tt }
small F.Scalers w = record { line = λ b h k. omega (arith, scalers_small (scalers_in b) k); high = tt; words = λ b k. tt }
small F.Scaler w = record { line = λ b h k. omega (arith, size_none); high = tt; words = λ b k. (field_digits w 0 32 10 tt, k) }

-- ---- one word

abbrev Near : Scan → Type 0
Near s = s.place < 2 ^ 32

-- a record is small and the next place near; a refusal's number has two digits, and its place is near
abbrev Good : Judged → Type 0
Good (J.Took x t) = Small x × Near t
Good (J.Refused number place) = (number < 100) × (place < 2 ^ 32)
Good J.Ended = Unit

lt_cond : (b : Bool) (x y m : ℕ) → x < m → y < m → cond b x y < m
lt_cond true x y m g h = g
lt_cond false x y m g h = h

refusal_lt : (s : Scan) (m : Meaning) (word : ℕ) → refusal_of s m word < 100
unfolding refusal_of first_of
refusal_lt s m word =
    lt_cond (at_limit s) _ _ 100 (lit< tt) (lt_cond (is_unallowed m) _ _ 100 (lit< tt) (lt_cond (of_form (λ f. slot_wrong s (item_from f word)) m) _ _ 100 (lit< tt) (lt_cond (of_form (λ f. not (fixed_in f word) || item_wrong s (item_from f word)) m) _ _ 100 (lit< tt) (lt_cond (of_form (λ f. count_wrong s (item_from f word)) m) _ _ 100 (lit< tt) (lit< tt)))))

near_after : (s : Scan) (x : Item) → Near (after s x)
unfolding after onward
near_after s x = omega arith

good : (s : Scan) (word : ℕ) → Near s → Good (judge_at s word)
unfolding judge_at step_at
good s word h = go (meaning_at s word)
  where
    by : (f : Form) (b : Bool) → Good (with_item word (cond b (S.Went f (after s (item_from f word))) (S.Refused (refusal_of s (M.Form f) word) s.place)))
    by f true = (small f word, near_after s (item_from f word))
    by f false = (refusal_lt s (M.Form f) word, h)

    go : (m : Meaning) → Good (with_item word (step_by s m word (refusal_of s m word)))
    go (M.Form f) = by f (eqb (refusal_of s (M.Form f) word) 0)
    go M.Unallowed = (refusal_lt s M.Unallowed word, h)
    go M.End = tt

-- ---- one block

record SmallReading (r : Reading) : Type 0 where
  lines : size (item_lines r.items) + 23 * fillers_in r.items + 11 * length (scalers_in r.items) ≤ 23 * length r.items
  second : HighSmall (second_of r.items)
  words : WordsSmall (scalers_in r.items)
  ends : size (out_lines r.out) ≤ 22

refused_le : (number place : ℕ) → number < 100 → place < 2 ^ 32 → size (refused_line number place ∷ []) ≤ 22
refused_le number place h k = size_one refused_name _ (1 ∷ 9 ∷ []) 22 (h, (omega arith, tt)) (lit≤ tt)

small_none : (o : Out) → size (out_lines o) ≤ 22 → SmallReading (just o)
unfolding item_lines fillers_in
small_none o h = record { lines = omega (arith, size_none); second = tt; words = tt; ends = h }

end_le : (s : Scan) → Near s → size (out_lines (end_of s)) ≤ 22
unfolding end_of
end_le s h = go (at_limit s) (unfinished s)
  where
    go : (a b : Bool) → size (out_lines (cond a (Broken 14 s.place) (cond b (Broken 11 s.place) (Whole s.place)))) ≤ 22
    go true b = refused_le 14 s.place (lit< tt) h
    go false true = refused_le 11 s.place (lit< tt) h
    go false false = omega (arith, size_none)

small_reading : (s : Scan) (words : List ℕ) → Near s → SmallReading (read_from s words)
unfolding read_from item_lines fillers_in
small_reading s [] h = small_none (end_of s) (end_le s h)
small_reading s (word ∷ words) h = go (judge_at s word) (good s word h) (λ t n. small_reading t words n)
  where
    go : (j : Judged) → Good j → ((t : Scan) → Near t → SmallReading (read_from t words)) → SmallReading (on_judged j s.place (λ t. read_from t words))
    go (J.Took x t) g r =
        let rest = read_from t words in
        let i : SmallReading rest = r t g.1 in
        record {
          lines = omega (arith, size_both (record_lines x rest.items) (item_lines rest.items), g.0.line rest.items i.second i.words, i.lines);
          second = g.0.high;
          words = g.0.words rest.items i.words;
          ends = i.ends;
        }
    go (J.Refused n p) g r = small_none (Broken n p) (refused_le n p g.0 g.1)
    go J.Ended g r = small_none (Whole s.place) (omega (arith, size_none))

fill_le : (n : ℕ) → n < 10 ^ 20 → size (fill_lines n) ≤ 23 * n
fill_le zero h = omega (arith, size_none)
fill_le (suc zero) h = size_one fill_name (Number 1 ∷ []) (0 ∷ []) 23 (lit< tt, tt) (lit≤ tt)
fill_le (suc (suc n)) h = rw (ne_eqb (suc (suc n)) 0 (λ e. omega arith)) (omega (arith, size_one fill_name (Number (suc (suc n)) ∷ []) (19 ∷ []) 26 (h, tt) (lit≤ tt)))

block_le : (r : Reading) → SmallReading r → length r.items < 10 ^ 20 → size (block_lines r) ≤ 23 * length r.items + size (out_lines r.out)
unfolding block_lines
block_le r i h =
    let n = fillers_in r.items in
    omega (arith, i.lines, fill_le n (omega (arith, i.lines)), size_both (item_lines r.items) (fill_lines n ++ out_lines r.out), size_both (fill_lines n) (out_lines r.out))

-- ---- an input

lines_le : (skip : ℕ) (words : List ℕ) → length words < 10 ^ 20 → size (lines_from skip words) ≤ 23 * (length words - skip) + 22
unfolding lines_from
lines_le skip [] h = omega (arith, size_none)
lines_le (suc skip) (word ∷ words) h = omega (arith, lines_le skip words (omega arith))
lines_le zero (word ∷ words) h =
    go r.out (block_lines r) (lines_from (length r.items - 1) words) (block_le r i (omega (arith, count))) i.ends (whole_some word words) (lines_le (length r.items - 1) words (omega arith))
  where
    r : Reading
    r = read_from start_of (word ∷ words)

    count : length r.items ≤ suc (length words)
    count = items_le start_of (word ∷ words)

    i : SmallReading r
    i = small_reading start_of (word ∷ words) (lit< tt)

    go : (o : Out) (block behind : List Line) → size block ≤ 23 * length r.items + size (out_lines o) → size (out_lines o) ≤ 22 → (is_whole o ≡ true → 0 < length r.items)
        → size behind ≤ 23 * (length words - (length r.items - 1)) + 22 → size (block ++ cond (is_whole o) behind []) ≤ 23 * (suc (length words) - 0) + 22
    go (Whole n) block behind a b w d = omega (arith, count, w refl, size_none, size_both block behind)
    go (Broken n p) block behind a b w d = omega (arith, count, size_none, size_both block [])

pub unless_le : (wrong : Bool) (bytes : List ℕ) → length bytes < 10 ^ 20 → size (lines_unless wrong bytes) ≤ 23 * (length bytes / 4) + 22
unfolding lines_unless
unless_le true bytes h = omega (arith, refused_le 16 0 (lit< tt) (lit< tt))
unless_le false bytes h = omega (arith, words_le bytes, lines_le 0 (words_of_bytes bytes) (omega (arith, words_le bytes)))

pub listing_le : (bytes : List ℕ) → length (listing_of bytes) ≤ 376854
unfolding listing_of lines_unless
listing_le bytes = go (length_wrong (length bytes)) refl
  where
    short : (a : Bool) (n : ℕ) → (a || ltb 65536 n) ≡ false → n ≤ 65536
    short true n e = let z : ◌≡◌ {A = ℕ} 0 1 = cc in omega arith
    short false n e = ltb-false 65536 n e

    go : (b : Bool) → length_wrong (length bytes) ≡ b → size (lines_unless b bytes) ≤ 376854
    go true e = omega (arith, refused_le 16 0 (lit< tt) (lit< tt))
    go false e =
        let n : length bytes ≤ 65536 = short (cut_wrong (length bytes)) (length bytes) e in
        omega (arith, unless_le false bytes (omega arith))

-- without the limit: the text of fewer than 10 ^ 17 bytes, more than any memory has, is counted whole
pub long_counted : (bytes : List ℕ) → length bytes < 10 ^ 17 → counted (long_listing_of bytes) ≡ length (long_listing_of bytes)
unfolding long_listing_of
long_counted bytes h = omega (arith, unless_le (cut_wrong (length bytes)) bytes (omega arith))

-- a buffer of so many bytes has room for every text
pub always_room : (bytes : List ℕ) {text : List ℕ} {r : Listed} {text' : List ℕ} {n : NoRoom} → 376854 ≤ length text → r ≡ Err n → ListSays (listing_of bytes) text r text' → ⊥
always_room bytes {text} h e s =
    let f : leb (length (listing_of bytes)) (length text) ≡ true = le-leb (length (listing_of bytes)) (length text) (omega (arith, listing_le bytes)) in
    let a : ◌≡◌ {A = ℕ} 9 0 = sym (ap listed_number e) ∙ s.number ∙ rw f in
    omega arith

pub always_text : (bytes : List ℕ) {text : List ℕ} {r : Listed} {text' : List ℕ} → 376854 ≤ length text → ListSays (listing_of bytes) text r text' → IsOk r
always_text bytes {r = Ok n} h s = refl
always_text bytes {r = Err n} h s = absurd (always_room bytes h refl s)
