-- `text::put_parts` meets its contract: three writers one after another.
use Rattle.std.proofs.Common.{[], ◌∷◌}
use Rattle.written.specs.PageLaws.{put_then}
use Rattle.written.specs.Line.{line_text}
use Rattle.text.proofs.put_parts.Goals as goal

pub returns : goal.returns
unfolding line_text
returns c = put_then _ _ _ _ _ c.put_bytes-k.ensures (put_then _ _ _ _ (10 ∷ []) c.put_cells-m.ensures c.put_byte.ensures)
