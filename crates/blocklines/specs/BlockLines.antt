-- The lines of one block: those of the records that the reader answers, its fillers, a refusal. Assumes nothing.
use Rattle.std.specs.Prelude.{ℕ, ◌+◌, ◌*◌, ◌≡◌, Bool, true, false, List, [], ◌∷◌, ◌++◌, length}
use Rattle.items.specs.declared.Item.{Item}
use Rattle.reader.specs.Reader.{Out, Whole, Broken, Reading}
use Rattle.written.specs.Page.{Page, put}
use Rattle.written.specs.Line.{Line, text_of}
use Rattle.lines.specs.Lines.{refused_line, fill_lines}
use Rattle.entries.specs.Entries.{record_lines, filler_in}
use Rattle.blocklines.specs.declared.Block.{Block}

-- the lines of records in their order
unfoldable pub item_lines : List Item → List Line
item_lines [] = []
item_lines (x ∷ xs) = record_lines x xs ++ item_lines xs

-- how many fillers
unfoldable pub fillers_in : List Item → ℕ
fillers_in [] = 0
fillers_in (x ∷ xs) = filler_in x + fillers_in xs

abbrev pub is_whole : Out → Bool
is_whole (Whole words) = true
is_whole (Broken number place) = false

-- "`refused` number, place, last; before it stand the lines of the accepted words, as if the input ended there"
abbrev pub out_lines : Out → List Line
out_lines (Whole words) = []
out_lines (Broken number place) = refused_line number place ∷ []

-- the records' lines, then the fillers' line, then a refusal's
unfoldable pub block_lines : Reading → List Line
block_lines r = item_lines r.items ++ (fill_lines (fillers_in r.items) ++ out_lines r.out)

-- ---- what is promised of one block

-- a block's lines are put, it takes so many bytes, it ends so
pub record BlockSays (text : List ℕ) (at : ℕ) (lines : List Line) (size : ℕ) (out : Out) (r : Block) (text' : List ℕ) : Type 0 where
  pub page : ◌≡◌ {A = Page} (text', r.at) (put (text, at) (text_of lines))
  pub taken : r.bytes ≡ size
  pub ended : r.whole ≡ is_whole out

-- the same of a block's reading
abbrev pub ReadingSays : List ℕ → ℕ → Reading → Block → List ℕ → Type 0
ReadingSays text at r b text' = BlockSays text at (block_lines r) (4 * length r.items) r.out b text'

-- a proof that computes opens this file and what it leans on by one name
unfoldable pub all_open : Unit {0}
unfolding item_lines fillers_in block_lines Rattle.entries.specs.Entries.all_open Rattle.written.specs.Line.all_open Rattle.lines.specs.Lines.all_open
all_open = tt
