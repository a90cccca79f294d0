-- A block listed word by word. Assumes nothing.
use Rattle.std.specs.Prelude.{ℕ, ◌+◌, ◌-◌, ◌*◌, ◌≤◌, ◌<◌, ◌≡◌, refl, true, false, eqb, length, drop, get_or}
use Rattle.std.proofs.Math.Path.{sym, ap}
use Rattle.std.proofs.Common.{◌∙◌, arith, zero-add, add-zero, length-drop}
use Rattle.std.proofs.lemmas.Bool.{false≢true}
use mathlib.Core.List.{List, [], ◌∷◌, ◌++◌, append_assoc, append-nil}
use Rattle.fields.specs.Bytes.{word_of_bytes, words_of_bytes}
use Rattle.fields.proofs.BytesLaws.{words_none}
use Rattle.items.specs.declared.Item.{Item}
use Rattle.scan.specs.declared.Scan.{Scan}
use Rattle.reader.specs.Step.{Step}
use Rattle.reader.specs.Step as S
use Rattle.reader.specs.Judged.{Judged}
use Rattle.reader.specs.Judged as J
use Rattle.scan.specs.After.{start_of}
use Rattle.reader.specs.Reader.{step_at, with_item, judge_at, Out, end_number, out_of, Reading, then, just, on_judged, read_from}
use Rattle.reader.specs.ReaderLaws.{ended}
use Rattle.reader.specs.RunLaws.{end_by}
use Rattle.written.specs.Page.{Page, put}
use Rattle.written.specs.PageLaws.{put_append}
use Rattle.written.specs.Line.{Line, line_text, text_of}
use Rattle.written.specs.LineLaws.{text_append, say_one, say_both}
use Rattle.blocklines.specs.declared.Block.{Block}
use Rattle.lines.specs.Lines.{refused_line, fill_lines}
use Rattle.entries.specs.Entries.{record_lines, filler_in}
use Rattle.entries.specs.AheadLaws.{read_first}
use Rattle.glance.specs.QuickLaws.{Went}
use Rattle.blocklines.specs.BlockLines.{item_lines, fillers_in, is_whole, out_lines, block_lines, BlockSays, ReadingSays}

-- ---- a reading

-- no word is left
pub read_end : (bytes : List ℕ) (s : Scan) {number : ℕ} → length bytes < 4 → number ≡ end_number s → read_from s (words_of_bytes bytes) ≡ just (out_of number s.place)
unfolding read_from
read_end bytes s h e = ap (read_from s) (words_none bytes h) ∙ ap just (end_by s ∙ ap (λ (n : ℕ). out_of n s.place) (sym e))

-- a block that is whole has a word
start_judged : (word : ℕ) → J.Ended ≡ judge_at start_of word → ⊥
unfolding judge_at
start_judged word e = go (step_at start_of word) refl e
  where
    go : (y : Step) → step_at start_of word ≡ y → J.Ended ≡ with_item word y → ⊥
    go (S.Went f u) i e = let z : ◌≡◌ {A = ℕ} 0 1 = cc in omega arith
    go (S.Refused n p) i e = let z : ◌≡◌ {A = ℕ} 0 1 = cc in omega arith
    go S.Ended i e = false≢true (sym (ended start_of word i))

pub whole_some : (word : ℕ) (words : List ℕ) → is_whole (read_from start_of (word ∷ words)).out ≡ true → 0 < length (read_from start_of (word ∷ words)).items
unfolding read_from
whole_some word words = go (judge_at start_of word) refl
  where
    go : (j : Judged) → j ≡ judge_at start_of word → is_whole (on_judged j 0 (λ t. read_from t words)).out ≡ true → 0 < length (on_judged j 0 (λ t. read_from t words)).items
    go (J.Took x t) e h = omega arith
    go (J.Refused n p) e h = absurd (false≢true h)
    go J.Ended e h = absurd (start_judged word e)

-- ---- the bytes behind a word

module _ (all rest behind : List ℕ) (h : 4 ≤ length rest) (b : behind ≡ drop 4 rest) (w : length rest ≤ length all) where
  size : length behind ≡ length rest - 4
  size = ap length b ∙ length-drop 4 rest

  pub behind_within : length behind ≤ length all
  behind_within = omega (arith, size)

  pub behind_taken : length all - length behind ≡ length all - length rest + 4
  behind_taken = omega (arith, size)

  pub behind_fillers : {n k : ℕ} → n ≤ length all - length rest → k ≤ n + 1 → k ≤ length all - length behind
  behind_fillers few one = omega (arith, size)

-- ---- a block, word by word

-- the lines of what is left of a block, behind n fillers
abbrev pub rest_lines : ℕ → Reading → List Line
rest_lines n r = item_lines r.items ++ (fill_lines (n + fillers_in r.items) ++ out_lines r.out)

-- of the block r, put from place at of text₀: `rest` is left, to be put from place k of text, n fillers and i bytes behind
pub record Left (text₀ : List ℕ) (at : ℕ) (r : Reading) (text : List ℕ) (k n i : ℕ) (rest : Reading) : Type 0 where
  pub page : put (text₀, at) (text_of (block_lines r)) ≡ put (text, k) (text_of (rest_lines n rest))
  pub taken : 4 * length r.items ≡ i + 4 * length rest.items
  pub ended : r.out ≡ rest.out

pub left_all : (text : List ℕ) (at : ℕ) (r : Reading) {i : ℕ} → i ≡ 0 → Left text at r text at 0 i r
unfolding block_lines
left_all text at r none = record { page = rw (zero-add (fillers_in r.items)); taken = omega arith; ended = refl }

module _ {text₀ : List ℕ} {at : ℕ} {r : Reading} {text : List ℕ} {k n i : ℕ} where
  pub left_is : {rest rest' : Reading} → Left text₀ at r text k n i rest → rest ≡ rest' → Left text₀ at r text k n i rest'
  left_is l e = rw e at l

  -- a record is put
  left_less : {x : Item} {rest : Reading} {text' : List ℕ} {k' m : ℕ} → Left text₀ at r text k n i (then x rest)
      → ◌≡◌ {A = Page} (text', k') (put (text, k) (text_of (record_lines x rest.items))) → m ≡ filler_in x → Left text₀ at r text' k' (n + m) (i + 4) rest
  unfolding item_lines fillers_in
  left_less {x} {rest} {text'} {k'} {m} l p e =
      record {
        page = l.page ∙ ap (λ (ls : List Line). put (text, k) (text_of ls)) lines ∙ ap (put (text, k)) (text_append one (rest_lines (n + m) rest)) ∙ put_append (text, k) (text_of one) (text_of (rest_lines (n + m) rest)) ∙ ap (λ (q : Page). put q (text_of (rest_lines (n + m) rest))) (sym p);
        taken = l.taken ∙ omega arith;
        ended = l.ended;
      }
    where
      one : List Line
      one = record_lines x rest.items

      count : n + (filler_in x + fillers_in rest.items) ≡ n + m + fillers_in rest.items
      count = omega (arith, e)

      lines : rest_lines n (then x rest) ≡ one ++ rest_lines (n + m) rest
      lines = append_assoc one (item_lines rest.items) _ ∙ ap (λ (c : ℕ). one ++ (item_lines rest.items ++ (fill_lines c ++ out_lines rest.out))) count

  -- nothing is left but the block's end
  pub left_none : {o : Out} {b : Block} {text' : List ℕ} → Left text₀ at r text k n i (just o) → BlockSays text k (fill_lines n ++ out_lines o) i o b text' → ReadingSays text₀ at r b text'
  unfolding item_lines fillers_in
  left_none {o} l s =
      record {
        page = s.page ∙ ap (λ (c : ℕ). put (text, k) (text_of (fill_lines c ++ out_lines o))) (sym (add-zero n)) ∙ sym l.page;
        taken = s.taken ∙ omega (arith, l.taken);
        ended = s.ended ∙ ap is_whole (sym l.ended);
      }

  -- the first word of the bytes that are left, as it is judged; `behind` are those behind it
  module _ (bytes behind : List ℕ) (s : Scan) (h : 4 ≤ length bytes) (b : behind ≡ drop 4 bytes) (l : Left text₀ at r text k n i (read_from s (words_of_bytes bytes))) where
    left_word : {j : Judged} → j ≡ judge_at s (word_of_bytes (get_or bytes 0 0) (get_or bytes 1 0) (get_or bytes 2 0) (get_or bytes 3 0))
        → Left text₀ at r text k n i (on_judged j s.place (λ t. read_from t (words_of_bytes behind)))
    left_word {j} e = left_is l (read_first bytes s h e ∙ ap (λ (w : List ℕ). on_judged j s.place (λ t. read_from t (words_of_bytes w))) (sym b))

    -- its record is put
    pub left_took : {x : Item} {t : Scan} {text' : List ℕ} {k' m i' : ℕ} → J.Took x t ≡ judge_at s (word_of_bytes (get_or bytes 0 0) (get_or bytes 1 0) (get_or bytes 2 0) (get_or bytes 3 0))
        → ◌≡◌ {A = Page} (text', k') (put (text, k) (text_of (record_lines x (read_from t (words_of_bytes behind)).items))) → m ≡ filler_in x → i' ≡ i + 4
        → Left text₀ at r text' k' (n + m) i' (read_from t (words_of_bytes behind))
    left_took e p f g = rw g (left_less (left_word e) p f)

    -- and it is no filler
    pub left_known : {word : ℕ} {t : Scan} {text' : List ℕ} {k' i' : ℕ} → word ≡ word_of_bytes (get_or bytes 0 0) (get_or bytes 1 0) (get_or bytes 2 0) (get_or bytes 3 0)
        → Went s word behind text k k' t 0 text' → i' ≡ i + 4 → Left text₀ at r text' k' n i' (read_from t (words_of_bytes behind))
    left_known e w g = rw (add-zero n) at (left_took (w.judged ∙ ap (judge_at s) e) w.page w.filler g)

    -- it is refused, or the block ends before it
    pub left_last : {j : Judged} {o : Out} {c : Block} {text' : List ℕ} → j ≡ judge_at s (word_of_bytes (get_or bytes 0 0) (get_or bytes 1 0) (get_or bytes 2 0) (get_or bytes 3 0))
        → on_judged j s.place (λ t. read_from t (words_of_bytes behind)) ≡ just o → BlockSays text k (fill_lines n ++ out_lines o) i o c text' → ReadingSays text₀ at r c text'
    left_last e f says = left_none (left_is (left_word e) f) says

-- ---- a block's end, put by its number

module _ (fillers number place : ℕ) {text : List ℕ} {at : ℕ} {text₁ : List ℕ} {k i : ℕ} where
  pub stopped_whole : eqb number 0 ≡ true → ◌≡◌ {A = Page} (text₁, k) (put (text, at) (text_of (fill_lines fillers)))
      → BlockSays text at (fill_lines fillers ++ out_lines (out_of number place)) i (out_of number place) (record { at = k; bytes = i; whole = true }) text₁
  stopped_whole e p = rw e (record { page = p ∙ ap (λ (ls : List Line). put (text, at) (text_of ls)) (sym (append-nil (fill_lines fillers))); taken = refl; ended = refl })

  pub stopped_broken : eqb number 0 ≡ false → ◌≡◌ {A = Page} (text₁, k) (put (text, at) (text_of (fill_lines fillers)))
      → {text₂ : List ℕ} {m : ℕ} → ◌≡◌ {A = Page} (text₂, m) (put (text₁, k) (line_text (refused_line number place)))
      → BlockSays text at (fill_lines fillers ++ out_lines (out_of number place)) i (out_of number place) (record { at = m; bytes = i; whole = false }) text₂
  stopped_broken e p {text₂} {m} q =
      rw e (record { page = say_both (text, at) (text₁, k) (text₂, m) (fill_lines fillers) (refused_line number place ∷ []) p (say_one (text₁, k) (text₂, m) _ (refused_line number place) q refl); taken = refl; ended = refl })

-- two answers that a block's promise allows are one
pub one_block : {text : List ℕ} {at : ℕ} {ls : List Line} {size : ℕ} {o : Out} {b c : Block} {x y : List ℕ} → BlockSays text at ls size o b x → BlockSays text at ls size o c y → (b ≡ c) × (x ≡ y)
one_block p q =
    let page = p.page ∙ sym q.page in
    let taken = p.taken ∙ sym q.taken in
    let ended = p.ended ∙ sym q.ended in
    (λ i. record { at = (page i).1; bytes = taken i; whole = ended i }, λ i. (page i).0)
