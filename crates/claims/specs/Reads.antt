-- Reading on with `next`, each call from the scan that the last one answered, to the block's end. Assumes nothing.
use Rattle.std.specs.Prelude.{ℕ, ◌≡◌, false, List, [], ◌++◌, drop}
use Rattle.items.specs.Items.{words_of}
use Rattle.items.specs.declared.Item.{Item}
use Rattle.scan.specs.After.{onward}
use Rattle.scan.specs.declared.Scan.{Scan}
use Rattle.rawitems.specs.declared.Pairs.{Pairs}
use Rattle.records.specs.declared.answer.Record.{Record}
use Rattle.records.specs.declared.answer.Record.TheVariants as R
use Rattle.records.specs.NextOf as N
use Rattle.rawitems.specs.Pairs.{part_of}
use Rattle.records.specs.Next.{next_at, starts_pair, Made, OfRaw}

-- "a raw item carries place and pair count, and a second call gives that part of the caller's words": the words of its pairs, which are the items
-- behind its head; what comes after them is no pair
pub record PartRead (words : List ℕ) (items rest : List Item) (p : Pairs) : Type 0 where
  pub part : part_of words p ≡ words_of (drop 1 items)
  pub all : starts_pair rest ≡ false

-- 02: an event's scalers carry place and count too, and the second call gives their words: those of the items behind the head
abbrev pub ScalersRead : List ℕ → List Item → Record → Type 0
ScalersRead words items r = (p : Pairs) → r ≡ R.Scalers p → part_of words p ≡ words_of (drop 1 items)

-- from a scan on: the items of the records that `next` answers, one after the other, and the block's words
pub data Reads (words : List ℕ) : Scan → List Item → ℕ → Type 0 where
  at_end : {s : Scan} (n : ℕ) → next_at words s ≡ N.End n → Reads words s [] n
  took : {s t : Scan} (r : Record) (items : List Item) {rest : List Item} {n : ℕ} → next_at words s ≡ N.Took r t → Made (onward s.place) r items → OfRaw r (PartRead words items rest)
      → ScalersRead words items r → Reads words t rest n → Reads words s (items ++ rest) n

-- a proof that computes opens this file and what it leans on by one name
unfoldable pub all_open : Unit {0}
unfolding Rattle.items.specs.Items.all_open Rattle.scan.specs.After.all_open Rattle.rawitems.specs.Pairs.all_open Rattle.records.specs.Next.all_open
all_open = tt
