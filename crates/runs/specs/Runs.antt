-- What the check passes many words at a time: measures, windows, data sets, and the heads of events. Only what is passed is said; whatever is not known is left to the
-- step of one word. Assumes nothing.
use Rattle.std.specs.Prelude.{ℕ, ◌+◌, ◌-◌, ◌*◌, ◌%◌, ◌≤◌, ◌<◌, ◌≡◌, Bool, not, cond, ◌&&◌, List, ◌∷◌, eqb, length, drop}
use Rattle.fields.specs.Word.{read}
use Rattle.fields.specs.Tag.{is_defining, is_continuation}
use Rattle.fields.specs.Bytes.{words_of_bytes}
use Rattle.framing.specs.Words.{trigger_time_high_fixed}
use Rattle.raw.specs.Words.{window_of, window_fixed, window_within, pulse_raw_fixed}
use Rattle.scan.specs.declared.Stage.{Stage}
use Rattle.scan.specs.declared.Stage.TheVariants as P
use Rattle.scan.specs.declared.Scan.{Scan}
use Rattle.reader.specs.Reader.{check_from}

-- ---- words that may be passed

-- a window's header with nothing to refuse
unfoldable pub window_head : ℕ → Bool
window_head word = (is_defining 4 word && window_fixed word) && window_within (window_of word)

-- a pulse's data set begins, with nothing to refuse
unfoldable pub raw_head : ℕ → Bool
raw_head word = is_defining 6 word && pulse_raw_fixed word

-- how many words an event's head has, by the two behind its header: a defining word shows that no more come; 0 where they are refused
unfoldable pub head_size : ℕ → ℕ → ℕ
head_size low high =
    cond (is_continuation low) 0
    (cond (not (is_defining 3 low)) 1
    (cond (not (is_continuation high)) 2
    (cond (trigger_time_high_fixed high && eqb (read 23 0 high % 8) (read 26 24 low)) 3
    0)))

-- ---- the check from one word on is the check from a later one on

abbrev pub standing : ℕ → ℕ → ℕ → Stage → Scan
standing place slot left stage = record { place = place; slot = slot; left = left; stage = stage }

-- this word stands as behind an item
pub record Behind (s : Scan) (word : ℕ) : Type 0 where
  pub same : (words : List ℕ) → check_from s (word ∷ words) ≡ check_from (standing s.place s.slot s.left P.Items) (word ∷ words)

-- behind an item at k, as behind an item at r, where no word between stands at the limit
pub record Passed (words : List ℕ) (k r : ℕ) : Type 0 where
  pub ahead : k ≤ r
  pub same : (place slot left : ℕ) → place + (r - k) ≤ 4194303
      → check_from (standing place slot left P.Items) (drop k words) ≡ check_from (standing (place + (r - k)) slot left P.Items) (drop r words)

-- the same over events: fewer are left
pub record PassedTo (words : List ℕ) (slot k left r rest : ℕ) : Type 0 where
  pub ahead : k ≤ r
  pub same : (place : ℕ) → place + (r - k) ≤ 4194303
      → check_from (standing place slot left P.Items) (drop k words) ≡ check_from (standing (place + (r - k)) slot rest P.Items) (drop r words)

-- where k is before r an event's head stands between them: one event fewer is left
pub record HeadTo (words : List ℕ) (slot k r : ℕ) : Type 0 where
  pub ahead : k ≤ r
  pub event : k < r → (left : ℕ) → 1 ≤ left → PassedTo words slot k left r (left - 1)

-- the same of a scan and one further on; as many words as there are
pub record Onward (bytes : List ℕ) (s : Scan) (k : ℕ) (t : Scan) (r : ℕ) : Type 0 where
  pub ahead : k ≤ r
  pub within : 4 * k ≤ length bytes → 4 * r ≤ length bytes
  pub same : check_from s (drop k (words_of_bytes bytes)) ≡ check_from t (drop r (words_of_bytes bytes))
