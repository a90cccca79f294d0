-- `listing::list_blocks` meets its contract: the blocks that are left, put where the text stands, give them all.
use Rattle.std.proofs.Common.{◌≡◌, length}
use Rattle.fields.specs.Bytes.{words_of_bytes}
use Rattle.written.specs.Page.{put}
use Rattle.written.specs.Line.{text_of}
use Rattle.listing.specs.Listing.{lines_from}
use Rattle.listing.proofs.list_blocks.Given as goal

abbrev pub invariant-loop-rest : goal.invariant-loop-rest
invariant-loop-rest l =
    (length l.text ≡ length l.initial.text)
    × (put (l.initial.text, 0) (text_of (lines_from 0 (words_of_bytes l.bytes))) ≡ put (l.text, l.at) (text_of (lines_from 0 (words_of_bytes l.rest))))

abbrev pub decreases-loop-rest : goal.decreases-loop-rest
decreases-loop-rest l = length l.rest
