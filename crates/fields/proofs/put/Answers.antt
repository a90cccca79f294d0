-- `fields::put` meets its contract, from the laws of shifts and masks.
use Rattle.fields.proofs.Masks.{put_past, put_in}
use Rattle.fields.proofs.put.Goals as goal

pub returns-then-place-ge32 : goal.returns-then-place-ge32
returns-then-place-ge32 c = put_past _ _ _ c.ranges.word.fits c.if-place-ge32.true

pub returns : goal.returns
returns c = put_in _ _ _ c.if-place-ge32.false
