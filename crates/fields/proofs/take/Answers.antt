-- `fields::take` meets its contract, from the laws of shifts and masks.
use Rattle.fields.specs.Word.{field_at}
use Rattle.fields.proofs.Masks.{masked, past, whole}
use Rattle.fields.proofs.take.Goals as goal

pub returns-then-place-ge32 : goal.returns-then-place-ge32
returns-then-place-ge32 c = past _ _ _ c.ranges.word.fits c.if-place-ge32.true

pub returns-then-width-ge32 : goal.returns-then-width-ge32
returns-then-width-ge32 c = whole _ _ _ c.ranges.word.fits c.if-width-ge32.true

pub returns : goal.returns
unfolding field_at
returns c = masked _ _ c.if-width-ge32.false
