-- Where a line is written without a test at each byte. Assumes nothing.
use Rattle.std.specs.Prelude.{ℕ, ◌-◌, Bool, false, cond, ◌&&◌, List, leb, length, replicate}
use Rattle.std.specs.declared.option.Option.{Option}
use Rattle.std.specs.declared.option.Option.TheVariants.{Some, None}
use Rattle.written.specs.Page.{Page, put}
use Rattle.written.specs.Line.{cells_of, line_of, line_text}

-- a line of a name of 8 bytes and five cells of 21 has room, and this one is no longer
abbrev pub has_room : ℕ → ℕ → ℕ → ℕ → Bool
has_room room at name cells = cond (leb room at) false (leb name 8 && leb cells 5 && leb 114 (room - at))

-- the buffer, and the next place
abbrev pub on_to : Page → List ℕ × Option ℕ
on_to p = (p.0, Some p.1)

-- a line that has room is put; else nothing
unfoldable pub written_of : Page → List ℕ → List ℕ → ℕ → List ℕ × Option ℕ
written_of p name cells dashes =
    cond (has_room (length p.0) p.1 (length name) (length cells))
    (on_to (put p (line_text (line_of name (cells_of dashes cells)))))
    (p.0, None)

-- a page that has room for any cell
abbrev pub aside_page : Page
aside_page = (replicate 21 0, 0)
