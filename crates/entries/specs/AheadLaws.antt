-- A reading from the bytes at a place, one word ahead, and the scalers' words ahead. Assumes nothing.
use Rattle.std.specs.Prelude.{ℕ, ◌+◌, ◌-◌, ◌≤◌, ◌<◌, ◌≡◌, length, take, drop, get_or}
use Rattle.std.specs.declared.option.Option.TheVariants.{None}
use Rattle.std.proofs.Common.{refl, sym, ap, ◌∙◌, arith, drop-drop, take_all}
use mathlib.Core.List.{List, [], ◌∷◌, map}
use Rattle.std.proofs.Math.ListN.{length-drop}
use Rattle.fields.specs.Bytes.{word_of_bytes, words_of_bytes}
use Rattle.fields.proofs.BytesLaws.{words_none, words_some}
use Rattle.framing.specs.declared.scaler.ScalerWord.{ScalerWord}
use Rattle.items.specs.declared.Item.{Item}
use Rattle.items.specs.declared.Item.TheVariants as I
use Rattle.scan.specs.declared.Scan.{Scan}
use Rattle.reader.specs.Judged.{Judged}
use Rattle.reader.specs.Judged as J
use Rattle.reader.specs.Reader.{judge_at, Reading, on_judged, read_from}
use Rattle.written.specs.Page.{Page, put}
use Rattle.written.specs.PageLaws.{put_nil, put_append}
use Rattle.written.specs.Line.{Number, cell_text, cells_text}
use Rattle.entries.specs.Entries.{high_in, second_of, scalers_in, scaler_cells}

-- a part that is lent, from i to the end
pub tail_is : (bytes : List ℕ) (i : ℕ) → take (length bytes - i) (drop i bytes) ≡ drop i bytes
tail_is bytes i = take_all (length bytes - i) (drop i bytes) (omega (arith, length-drop i bytes))

-- the reading from the word at i, judged j
pub read_at : (bytes : List ℕ) (i : ℕ) (s : Scan) {word : ℕ} {j k : Judged} → i + 4 ≤ length bytes → word ≡ get_or (words_of_bytes (drop i bytes)) 0 0 → j ≡ judge_at s word → j ≡ k
    → read_from s (words_of_bytes (drop i bytes)) ≡ on_judged k s.place (λ t. read_from t (words_of_bytes (drop (i + 4) bytes)))
unfolding read_from
read_at bytes i s {word} {j} {k} h e f g =
    let some = words_some (drop i bytes) (omega (arith, length-drop i bytes)) in
    ap (read_from s) some
    ∙ ap (λ (x : Judged). on_judged x s.place (λ t. read_from t (words_of_bytes (drop 4 (drop i bytes))))) (ap (judge_at s) (sym (e ∙ ap (λ (l : List ℕ). get_or l 0 0) some)) ∙ sym f ∙ g)
    ∙ ap (λ (l : List ℕ). on_judged k s.place (λ t. read_from t (words_of_bytes l))) (drop-drop 4 i bytes)

-- the reading from the first word, judged j
from_first : (bytes : List ℕ) (s : Scan) {j : Judged} → 4 ≤ length bytes → j ≡ judge_at s (get_or (words_of_bytes bytes) 0 0)
    → read_from s (words_of_bytes bytes) ≡ on_judged j s.place (λ t. read_from t (words_of_bytes (drop 4 bytes)))
from_first bytes s h e = read_at bytes 0 s h refl e refl

pub read_first : (bytes : List ℕ) (s : Scan) {j : Judged} → 4 ≤ length bytes
    → j ≡ judge_at s (word_of_bytes (get_or bytes 0 0) (get_or bytes 1 0) (get_or bytes 2 0) (get_or bytes 3 0))
    → read_from s (words_of_bytes bytes) ≡ on_judged j s.place (λ t. read_from t (words_of_bytes (drop 4 bytes)))
read_first bytes s h e = from_first bytes s h (e ∙ ap (λ (l : List ℕ). judge_at s (get_or l 0 0)) (sym (words_some bytes h)))

-- a second time word, one word ahead
pub second_none : (bytes : List ℕ) (s : Scan) → length bytes < 4 → second_of (read_from s (words_of_bytes bytes)).items ≡ None
unfolding read_from
second_none bytes s h = rw (words_none bytes h)

module _ (bytes : List ℕ) (s : Scan) (h : 4 ≤ length bytes) where
  pub second_took : (x : Item) (u : Scan) → J.Took x u ≡ judge_at s (get_or (words_of_bytes bytes) 0 0) → second_of (read_from s (words_of_bytes bytes)).items ≡ high_in x
  second_took x u e = ap (λ (r : Reading). second_of r.items) (from_first bytes s h e)

  pub second_refused : (n p : ℕ) → J.Refused n p ≡ judge_at s (get_or (words_of_bytes bytes) 0 0) → second_of (read_from s (words_of_bytes bytes)).items ≡ None
  second_refused n p e = ap (λ (r : Reading). second_of r.items) (from_first bytes s h e)

  pub second_ended : J.Ended ≡ judge_at s (get_or (words_of_bytes bytes) 0 0) → second_of (read_from s (words_of_bytes bytes)).items ≡ None
  second_ended e = ap (λ (r : Reading). second_of r.items) (from_first bytes s h e)

pub ruleset second_ahead = (second_none, second_took, second_refused, second_ended)

-- ---- the scalers' words ahead

cells_turn : (p q : Page) (n : ℕ) (ns : List ℕ) → q ≡ put p (9 ∷ cell_text (Number n)) → put p (cells_text (map (λ k. Number k) (n ∷ ns))) ≡ put q (cells_text (map (λ k. Number k) ns))
unfolding cells_text
cells_turn p q n ns e = put_append p (9 ∷ cell_text (Number n)) _ ∙ ap (λ (x : Page). put x (cells_text (map (λ k. Number k) ns))) (sym e)

-- no word of them stands here
cells_done : (p : Page) (ns : List ℕ) → ns ≡ [] → put p (cells_text (map (λ k. Number k) ns)) ≡ p
unfolding cells_text
cells_done p ns e = ap (λ (l : List ℕ). put p (cells_text (map (λ k. Number k) l))) e ∙ put_nil p

module _ (rest : List ℕ) (s : Scan) (p : Page) where
  pub cells_none : length rest < 4 → put p (scaler_cells (read_from s (words_of_bytes rest)).items) ≡ p
  unfolding read_from
  cells_none h = cells_done p _ (ap (λ (l : List ℕ). scalers_in (read_from s l).items) (words_none rest h))

  module _ (h : 4 ≤ length rest) where
    -- a word of the scalers is put
    pub cells_went : (r : ScalerWord) (u : Scan) (q : Page) (behind : List ℕ) → behind ≡ drop 4 rest
        → J.Took (I.Scaler r) u ≡ judge_at s (word_of_bytes (get_or rest 0 0) (get_or rest 1 0) (get_or rest 2 0) (get_or rest 3 0))
        → q ≡ put p (9 ∷ cell_text (Number r.value))
        → put p (scaler_cells (read_from s (words_of_bytes rest)).items) ≡ put q (scaler_cells (read_from u (words_of_bytes behind)).items)
    cells_went r u q behind b e f =
        ap (λ (y : Reading). put p (scaler_cells y.items)) (read_first rest s h e)
        ∙ cells_turn p q r.value _ f
        ∙ ap (λ (l : List ℕ). put q (scaler_cells (read_from u (words_of_bytes l)).items)) (sym b)

    -- another word stands here
    pub cells_other : (x : Item) (u : Scan) → ((xs : List Item) → [] ≡ scalers_in (x ∷ xs))
        → J.Took x u ≡ judge_at s (word_of_bytes (get_or rest 0 0) (get_or rest 1 0) (get_or rest 2 0) (get_or rest 3 0))
        → put p (scaler_cells (read_from s (words_of_bytes rest)).items) ≡ p
    cells_other x u z e = ap (λ (y : Reading). put p (scaler_cells y.items)) (read_first rest s h e) ∙ cells_done p _ (sym (z _))

    pub cells_refused : (n k : ℕ) → J.Refused n k ≡ judge_at s (word_of_bytes (get_or rest 0 0) (get_or rest 1 0) (get_or rest 2 0) (get_or rest 3 0))
        → put p (scaler_cells (read_from s (words_of_bytes rest)).items) ≡ p
    cells_refused n k e = ap (λ (y : Reading). put p (scaler_cells y.items)) (read_first rest s h e) ∙ cells_done p _ refl

    pub cells_ended : J.Ended ≡ judge_at s (word_of_bytes (get_or rest 0 0) (get_or rest 1 0) (get_or rest 2 0) (get_or rest 3 0))
        → put p (scaler_cells (read_from s (words_of_bytes rest)).items) ≡ p
    cells_ended e = ap (λ (y : Reading). put p (scaler_cells y.items)) (read_first rest s h e) ∙ cells_done p _ refl

pub ruleset cells_ahead = (cells_none, cells_refused, cells_ended)
