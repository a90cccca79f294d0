-- `written::write_line` meets its contract: three writers one after another.
use Rattle.std.proofs.Common.{[], ◌∷◌}
use Rattle.written.specs.PageLaws.{put_then}
use Rattle.written.specs.Line.{line_text}
use Rattle.written.proofs.write_line.Goals as goal

pub returns : goal.returns
unfolding line_text
returns c =
    put_then _ _ _ _ _ c.write_bytes-k.ensures.0
    (put_then _ _ _ _ (10 ∷ []) c.write_cells-m.ensures.0 c.write_byte.ensures.0)
