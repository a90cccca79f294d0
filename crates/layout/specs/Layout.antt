-- The layout of a block by the reader's own questions, said of records: the step between the reader and `Grammar`. No word is read here: the record's own word says what it is. Assumes nothing.
use Rattle.std.specs.Prelude.{◌≡◌, true, false, List, [], ◌∷◌}
use Rattle.items.specs.Items.{word_of, fits, form_of}
use Rattle.items.specs.declared.Item.{Item}
use Rattle.scan.specs.declared.Scan.{Scan}
use Rattle.scan.specs.After.{start_of, after}
use Rattle.meaning.specs.declared.Meaning.TheVariants as M
use Rattle.meaning.specs.Meaning.{meaning_at, unfinished}
use Rattle.questions.specs.Questions.{at_limit, slot_wrong, item_wrong, count_wrong}

-- the record may stand where the reading of a block stands
pub record Stands (s : Scan) (x : Item) : Type 0 where
  pub limit : at_limit s ≡ false
  pub form : meaning_at s (word_of x) ≡ M.Form (form_of x)
  pub slot : slot_wrong s x ≡ false
  pub fields : item_wrong s x ≡ false
  pub count : count_wrong s x ≡ false
  pub widths : fits x ≡ true

-- the records stand one after the other, and nothing is missing behind the last
abbrev pub Follow : Scan → List Item → Type 0
Follow s [] = unfinished s ≡ false
Follow s (x ∷ xs) = Stands s x × Follow (after s x) xs

-- a whole block of records
abbrev pub IsBlock : List Item → Type 0
IsBlock xs = Follow start_of xs
