-- `host::place_event` meets its contract. Assumes nothing.
use Rattle.std.proofs.Common.{ℕ, ap, arith, set, length-set}
use Rattle.places.specs.Places.{phase_at, event_at, trigger_time_at, triggers_at}
use Rattle.host.proofs.place_event.Goals as goal

pub bounds-numbers-3 : goal.bounds-numbers-3
bounds-numbers-3 c = simp length-set (omega (arith, c.requires))

pub bounds-numbers-4 : goal.bounds-numbers-4
bounds-numbers-4 c = simp length-set (omega (arith, c.requires))

pub bounds-numbers-25 : goal.bounds-numbers-25
bounds-numbers-25 c = simp length-set (omega (arith, c.requires))

pub returns : goal.returns
returns c =
    let a = c.args in
    ap (λ (p : ℕ). set (set (set (set a.numbers.now phase_at p) event_at a.number) trigger_time_at a.time) triggers_at a.triggers) c.phase_number.ensures
