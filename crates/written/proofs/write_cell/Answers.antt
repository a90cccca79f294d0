-- `written::write_cell` meets its contract: a tab, then what the test chose.
use Rattle.std.proofs.Common.{[], ◌∷◌, arith}
use Rattle.written.specs.PageLaws.{put_then}
use Rattle.written.proofs.write_cell.Goals as goal

pub returns-then-dash : goal.returns-then-dash
returns-then-dash c = (rw c.if-dash.true (put_then _ _ _ (9 ∷ []) _ c.write_byte-k.ensures.0 c.write_byte.ensures.0), omega arith)

pub returns : goal.returns
returns c = (rw c.if-dash.false (put_then _ _ _ (9 ∷ []) _ c.write_byte-k.ensures.0 c.write_number.ensures.0), omega arith)
