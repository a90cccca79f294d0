-- `listing::put_listing` meets its contract: refusal 16 alone, or all blocks.
use Rattle.written.specs.LineLaws.{say_one}
use Rattle.listing.specs.Listing.{lines_unless}
use Rattle.listing.proofs.put_listing.Goals as goal

pub returns-then-wrong : goal.returns-then-wrong
unfolding lines_unless
returns-then-wrong c = say_one _ _ _ _ c.put_refused.ensures (rw (c.if-wrong.true, c.number.ensures))
