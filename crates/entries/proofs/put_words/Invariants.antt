-- `entries::put_words` meets its contract: the words that are left, put where the text stands, give the page asked for.
use Rattle.std.proofs.Common.{◌≡◌, length}
use Rattle.fields.specs.Bytes.{words_of_bytes}
use Rattle.reader.specs.Reader.{read_from}
use Rattle.written.specs.Page.{put}
use Rattle.entries.specs.Entries.{scaler_cells}
use Rattle.entries.proofs.put_words.Given as goal

abbrev pub invariant-loop-rest : goal.invariant-loop-rest
invariant-loop-rest l = (length l.text ≡ length l.initial.text)
    × (put (l.initial.text, l.from) (scaler_cells (read_from l.initial.scan (words_of_bytes l.bytes)).items) ≡ put (l.text, l.at) (scaler_cells (read_from l.scan (words_of_bytes l.rest)).items))

abbrev pub decreases-loop-rest : goal.decreases-loop-rest
decreases-loop-rest l = length l.rest
