-- `state::ranges::words_ok` meets its contract. Assumes nothing.
use Rattle.limits.proofs.LimitsLaws.{most_event_lem}
use Rattle.state.specs.State.{words_ok}
use Rattle.state.proofs.ranges.words_ok.Goals as goal

pub returns : goal.returns
unfolding words_ok
returns c = rw (most_event_lem, c.head_words-head.ensures)
