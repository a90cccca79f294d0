-- `text::put_cell` meets its contract: what was written aside is the cell.
use Rattle.std.proofs.Common.{ℕ, ap, ◌∙◌, List}
use Rattle.written.specs.Page.{put}
use Rattle.written.specs.RoomLaws.{aside_take}
use Rattle.text.proofs.put_cell.Goals as goal

pub returns : goal.returns
returns c =
    let a = c.args in
    let e = c.cell-cell.ensures in
    c.put_bytes.ensures ∙ ap (λ (l : List ℕ). put (a.text.now, a.at) l) (aside_take _ e.0 e.1)
