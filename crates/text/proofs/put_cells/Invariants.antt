-- `text::put_cells` meets its contract: the page with the cells that are left is the page asked for.
use Rattle.std.proofs.Common.{◌≡◌, length, drop}
use Rattle.written.specs.Page.{put}
use Rattle.written.specs.Line.{cells_text, cells_of}
use Rattle.text.proofs.put_cells.Given as goal

abbrev pub invariant-loop-n : goal.invariant-loop-n
invariant-loop-n l =
    (length l.text ≡ length l.initial.text)
    × (put (l.initial.text, l.at) (cells_text (cells_of l.dashes l.cells)) ≡ put (l.text, l.end) (cells_text (cells_of l.marks (drop l.n-index l.cells))))
