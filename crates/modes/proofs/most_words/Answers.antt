-- `modes::most_words` meets its contract.
use Rattle.std.proofs.Common.{◌+◌, ◌*◌, ◌≤◌, ◌≡◌, arith, le-leb}
use borrow.Author.Tests.{lt-leb}
use Rattle.limits.specs.Limits.{most_samples}
use Rattle.limits.proofs.LimitsLaws.{most_samples_lem, most_channel_lem}
use Rattle.modes.specs.Channel.{mode_most}
use Rattle.modes.specs.BoundLaws.{mode_most_lem}
use Rattle.modes.proofs.most_words.Goals as goal
use Rattle.modes.proofs.most_words.Goals.{After-set_length-pulse}

-- what the code adds up
module _ (c : After-set_length-pulse) where
  few : c.args.samples ≤ most_samples
  few = omega (arith, most_samples_lem, c.if-samples-le-MOST_SAMPLES.true)

  sum : c.run_length_if-window.result + 3 * c.set_length-pulse.result ≡ mode_most c.args.mode c.args.samples
  unfolding mode_most
  sum = rw (c.run_length_if-window.ensures, c.set_length-pulse.ensures, c.parts_of-parts.ensures)

  small : c.run_length_if-window.result + 3 * c.set_length-pulse.result ≤ 753
  small = omega (arith, sum, most_channel_lem, mode_most_lem c.args.mode c.args.samples few)

pub returns-then-samples-le-MOST_SAMPLES : goal.returns-then-samples-le-MOST_SAMPLES
returns-then-samples-le-MOST_SAMPLES c = rw (le-leb _ _ (few c)) (sum c)

pub returns-else-samples-le-MOST_SAMPLES : goal.returns-else-samples-le-MOST_SAMPLES
returns-else-samples-le-MOST_SAMPLES c = rw (lt-leb c.args.samples most_samples (omega (arith, most_samples_lem, c.if-samples-le-MOST_SAMPLES.false)))

pub overflow_mul-result : goal.overflow_mul-result
overflow_mul-result c = omega (arith, small c)

pub overflow_add-result : goal.overflow_add-result
overflow_add-result c = omega (arith, small c)
