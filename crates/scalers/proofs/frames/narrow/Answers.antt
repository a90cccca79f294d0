-- `scalers::frames::narrow` meets its contract.
use Rattle.std.proofs.Common.{rules}
use Rattle.scalers.specs.Inner.{narrow_of}
use Rattle.scalers.proofs.frames.narrow.Goals as goal

pub returns : goal.returns
unfolding narrow_of
returns c = search rules
