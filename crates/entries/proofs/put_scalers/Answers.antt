-- `entries::put_scalers` meets its contract: the name, the words, the line feed.
use Rattle.std.proofs.Common.{[], ◌∷◌}
use Rattle.written.specs.PageLaws.{put_then}
use Rattle.written.specs.Line.{line_text}
use Rattle.entries.proofs.put_scalers.Goals as goal

pub returns : goal.returns
unfolding line_text
returns c =
    put_then _ _ _ _ _ c.put_bytes-name.ensures
    (put_then _ _ _ _ (10 ∷ []) c.put_words-words.ensures c.put_bytes.ensures)
