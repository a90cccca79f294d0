-- What the lister prints: the lines of the records that the reader answers, block by block. Assumes nothing.
use Rattle.std.specs.Prelude.{ℕ, zero, suc, ◌-◌, ◌%◌, Bool, cond, not, ◌||◌, List, [], ◌∷◌, ◌++◌, eqb, ltb, length}
use Rattle.scan.specs.After.{start_of}
use Rattle.reader.specs.Reader.{Reading, read_from}
use Rattle.fields.specs.Bytes.{words_of_bytes}
use Rattle.written.specs.Line.{Line, text_of}
use Rattle.lines.specs.Lines.{refused_line}
use Rattle.blocklines.specs.BlockLines.{is_whole, block_lines}

-- a block's lines, and where it is whole those behind its words
abbrev pub block_then : Reading → (ℕ → List Line) → List Line
block_then r behind = block_lines r ++ cond (is_whole r.out) (behind (length r.items - 1)) []

-- "Blocks follow each other to the end of input": `skip` words still belong to the block before
unfoldable pub lines_from : ℕ → List ℕ → List Line
lines_from skip [] = []
lines_from zero (word ∷ words) = block_then (read_from start_of (word ∷ words)) (λ skip. lines_from skip words)
lines_from (suc skip) (word ∷ words) = lines_from skip words

-- 16: "byte input: length no multiple of 4"
abbrev pub cut_wrong : ℕ → Bool
cut_wrong n = not (eqb (n % 4) 0)

-- "lister also over 65,536 bytes"
abbrev pub length_wrong : ℕ → Bool
length_wrong n = cut_wrong n || ltb 65536 n

-- "Refusal 16 prints its line alone."
unfoldable pub lines_unless : Bool → List ℕ → List Line
lines_unless wrong bytes = cond wrong (refused_line 16 0 ∷ []) (lines_from 0 (words_of_bytes bytes))

-- the whole text of an input of the lister
unfoldable pub listing_of : List ℕ → List ℕ
listing_of bytes = text_of (lines_unless (length_wrong (length bytes)) bytes)

-- the whole text of any number of bytes
unfoldable pub long_listing_of : List ℕ → List ℕ
long_listing_of bytes = text_of (lines_unless (cut_wrong (length bytes)) bytes)

-- a proof that computes opens this file and what it leans on by one name
unfoldable pub all_open : Unit {0}
unfolding lines_from lines_unless listing_of long_listing_of Rattle.scan.specs.After.all_open Rattle.reader.specs.Reader.all_open Rattle.fields.specs.Bytes.all_open Rattle.blocklines.specs.BlockLines.all_open Rattle.written.specs.Line.all_open Rattle.lines.specs.Lines.all_open
all_open = tt
