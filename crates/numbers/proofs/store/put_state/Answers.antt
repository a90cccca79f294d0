-- `numbers::store::put_state` meets its contract. Assumes nothing.
use Rattle.std.proofs.Common.{rules, ◌≡◌, length}
use Rattle.numbers.specs.ScalersLaws.{sizes}
use Rattle.numbers.specs.StoreLaws.{state_other, settings_other, state_stored_lem}
use Rattle.numbers.proofs.store.put_state.Goals as goal
use Rattle.numbers.proofs.store.put_state.Goals.{Start}

counts_size : (c : Start) → length c.args.state.scalers.counts ≡ 16
counts_size c = search rules

latched_size : (c : Start) → length c.args.state.scalers.latched ≡ 18
latched_size c = search rules

pub returns-then-numbers-ne-STATE : goal.returns-then-numbers-ne-STATE
returns-then-numbers-ne-STATE c = state_other c.args.numbers.now _ c.args.settings.now c.if-numbers-ne-STATE.true

pub returns-then-settings-ne-SETTINGS : goal.returns-then-settings-ne-SETTINGS
returns-then-settings-ne-SETTINGS c =
    settings_other c.args.numbers.now _ c.args.settings.now c.if-numbers-ne-STATE.false c.if-settings-ne-SETTINGS.true

pub returns : goal.returns
returns c =
    state_stored_lem c.args.numbers.now c.args.state c.args.settings.now (sizes c.args.state.scalers (counts_size (goal.at.returns c).Start) (latched_size (goal.at.returns c).Start)) c.if-numbers-ne-STATE.false c.if-settings-ne-SETTINGS.false c.put.ensures c.put_scalers.ensures c.put_head.ensures
