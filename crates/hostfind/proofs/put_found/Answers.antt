-- `hostfind::put_found` meets its contract. Assumes nothing.
use Rattle.std.proofs.Common.{arith}
use Rattle.hostfind.specs.FoundLaws.{found_put}
use Rattle.hostfind.proofs.put_found.Goals as goal

pub overflow_cast-count : goal.overflow_cast-count
overflow_cast-count c = omega (arith, c.requires.1.count)

pub returns : goal.returns
returns c =
    found_put c.args.out.now c.args.found c.requires.0 c.pulse_row-first.ensures c.pulse_row-second.ensures c.pulse_row-third.ensures c.put.ensures c.put-2.ensures c.put-3.ensures c.put-4.ensures
