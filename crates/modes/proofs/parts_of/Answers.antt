-- `modes::parts_of` meets its contract, row by row.
use Rattle.std.proofs.Common.{ne_eqb, rules}
use Rattle.modes.specs.Channel.{parts_of}
use Rattle.modes.proofs.parts_of.Goals as goal

pub returns-in-1 : goal.returns-in-1
unfolding parts_of
returns-in-1 c = rw c.in-1.is c.writing.ensures

pub returns-in-2 : goal.returns-in-2
unfolding parts_of
returns-in-2 c = rw c.in-2.is c.writing-in-2.ensures

pub returns-in-3 : goal.returns-in-3
unfolding parts_of
returns-in-3 c = rw c.in-3.is c.writing-in-3.ensures

pub returns-in-4 : goal.returns-in-4
unfolding parts_of
returns-in-4 c = rw c.in-4.is c.writing-in-4.ensures

pub returns-in-7 : goal.returns-in-7
unfolding parts_of
returns-in-7 c = rw c.in-7.is c.writing-in-7.ensures

pub returns-in-8 : goal.returns-in-8
unfolding parts_of
returns-in-8 c = rw c.in-8.is c.writing-in-8.ensures

pub returns-in_default : goal.returns-in_default
unfolding parts_of
returns-in_default c =
    let m = c.args.mode in
    rw (ne_eqb m 1 (search rules), ne_eqb m 2 (search rules), ne_eqb m 3 (search rules), ne_eqb m 4 (search rules), ne_eqb m 7 (search rules), ne_eqb m 8 (search rules)) c.writing-in_default.ensures
