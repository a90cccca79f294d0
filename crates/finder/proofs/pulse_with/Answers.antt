-- `finder::pulse_with` meets its contract: a TC that it may be lent is tested. Assumes nothing.
use Rattle.std.proofs.Common.{◌≡◌, sym, ap₂, ◌∙◌, Bool, true, ◌&&◌, length}
use Rattle.ground.specs.TestsLaws.{and_left, and_right}
use Rattle.search.specs.Asked.{IsOver}
use Rattle.timing.specs.TimeLaws.{in_window_lem}
use Rattle.finder.specs.Find.{searchable}
use Rattle.finder.specs.Wanted.{pulse_from, is_tc}
use Rattle.finder.specs.FindLaws.{Searched, searched, is_tc_lem}
use Rattle.finder.proofs.pulse_with.Goals as goal
use Rattle.finder.proofs.pulse_with.Goals.{Else-not-can_search-is_tc}

-- what the tests say
module _ (c : Else-not-can_search-is_tc) where
  asked : (searchable (length c.args.window.now) c.args.nsa 0 && is_tc c.args.window.now c.args.threshold c.args.tc) ≡ true
  asked = sym (ap₂ (λ (x y : Bool). x && y) c.can_search.ensures c.is_tc.ensures) ∙ c.if-not-can_search-is_tc.false

  can : Searched (length c.args.window.now) c.args.nsa 0
  can = searched _ _ _ (and_left _ _ asked)

  over : IsOver c.args.window.now c.args.threshold c.args.tc
  over = is_tc_lem _ _ _ (and_right (searchable (length c.args.window.now) c.args.nsa 0) _ asked)

pub pulse_of-requires : goal.pulse_of-requires
pulse_of-requires c =
    let e = (goal.at.pulse_of-requires c).Else-not-can_search-is_tc in
    ((over e).from, (over e).to, (can e).short, (can e).within)

pub returns : goal.returns
unfolding pulse_from
returns c =
    let e = (goal.at.returns c).Else-not-can_search-is_tc in
    let time = rw (in_window_lem _ _ (over e).from (over e).to) at c.time_from-time.ensures in
    rw (asked e) (rw time at c.pulse_of.ensures)
