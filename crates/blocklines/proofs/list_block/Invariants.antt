-- `blocklines::list_block` meets its contract: what is left of the block, put where the text stands, gives the block.
use Rattle.std.proofs.Common.{◌-◌, ◌≤◌, ◌≡◌, length}
use Rattle.scan.specs.After.{start_of}
use Rattle.reader.specs.Reader.{read_from}
use Rattle.fields.specs.Bytes.{words_of_bytes}
use Rattle.blocklines.specs.BlockLaws.{Left}
use Rattle.blocklines.proofs.list_block.Given as goal

abbrev pub invariant-loop-rest : goal.invariant-loop-rest
invariant-loop-rest l =
    (length l.rest ≤ length l.bytes)
    × (l.fillers ≤ length l.bytes - length l.rest)
    × (length l.text ≡ length l.initial.text)
    × Left l.initial.text l.from (read_from start_of (words_of_bytes l.bytes)) l.text l.at l.fillers (length l.bytes - length l.rest) (read_from l.scan (words_of_bytes l.rest))

abbrev pub decreases-loop-rest : goal.decreases-loop-rest
decreases-loop-rest l = length l.rest
