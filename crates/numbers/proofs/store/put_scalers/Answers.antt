-- `numbers::store::put_scalers` meets its contract. Assumes nothing.
use Rattle.std.proofs.Common.{◌≡◌, ap, ◌∙◌, rules, length}
use Rattle.copies.specs.Copies.{pasted}
use Rattle.places.specs.Places.{counts_at, latched_at}
use Rattle.numbers.specs.ScalersLaws.{scalers_stored_lem, scalers_short}
use Rattle.numbers.proofs.store.put_scalers.Goals as goal
use Rattle.numbers.proofs.store.put_scalers.Goals.{Start}

counts_size : (c : Start) → length c.args.scalers.counts ≡ 16
counts_size c = search rules

latched_size : (c : Start) → length c.args.scalers.latched ≡ 18
latched_size c = search rules

pub returns-then-numbers-lt-FRONT : goal.returns-then-numbers-lt-FRONT
returns-then-numbers-lt-FRONT c =
    scalers_short c.args.numbers.now c.args.scalers (counts_size (goal.at.returns-then-numbers-lt-FRONT c).Start) (latched_size (goal.at.returns-then-numbers-lt-FRONT c).Start) c.if-numbers-lt-FRONT.true

pub returns : goal.returns
returns c =
    let s = c.args.scalers in
    scalers_stored_lem c.args.numbers.now s (counts_size (goal.at.returns c).Start) (latched_size (goal.at.returns c).Start) c.if-numbers-lt-FRONT.false c.marks_number.ensures
    (c.put.ensures ∙ ap (pasted c.args.numbers.now counts_at) c.wide-counts.ensures)
    (rw (c.from.ensures, c.from-2.ensures, c.from-3.ensures) at c.put-2.ensures)
    (c.put-3.ensures ∙ ap (pasted c.put-2.new.out latched_at) c.wide-latched.ensures)
