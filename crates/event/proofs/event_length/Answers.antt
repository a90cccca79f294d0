-- `event::event_length` meets its contract.
use Rattle.std.proofs.Common.{ap, ℕ, ◌+◌, arith}
use Rattle.limits.proofs.LimitsLaws.{most_channel_lem}
use Rattle.settings.specs.RangesLaws.{settings_in_range}
use Rattle.event.specs.Inner.{event_length}
use Rattle.event.proofs.EventLaws.{channels_most}
use Rattle.event.proofs.event_length.Goals as goal

pub overflow_add-result-2 : goal.overflow_add-result-2
overflow_add-result-2 c =
    omega (
      arith,
      c.channels_length.ensures,
      most_channel_lem,
      channels_most c.args.settings c.args.posted.now c.args.store.now c.requires.settings c.requires.marks,
      (settings_in_range c.args.settings c.requires.settings).times,
    )

pub returns : goal.returns
unfolding event_length
returns c = ap (λ (n : ℕ). 1 + c.args.settings.times + n) c.channels_length.ensures
