-- `reader::window::window_step` meets its contract.
use Rattle.std.proofs.Common.{◌≡◌, sym, ◌∙◌, not, ◌||◌}
use Rattle.ground.specs.Tests.{first_of}
use Rattle.raw.specs.Words.{pair_of, pair_fixed}
use Rattle.items.specs.Items.{item_from}
use Rattle.items.specs.declared.Form.TheVariants as F
use Rattle.scan.specs.After.{after}
use Rattle.meaning.specs.MeaningLaws.{window_pair, window_other}
use Rattle.questions.specs.Questions.{item_wrong}
use Rattle.reader.specs.ReaderLaws.{step_form, step_unallowed}
use Rattle.reader.proofs.Via.{via}
use Rattle.reader.proofs.window.window_step.Goals as goal
use Rattle.reader.proofs.window.window_step.Goals.{After-pair_bits_wrong}

-- what is asked of the pair's bits
bits : (c : After-pair_bits_wrong) → let a = c.args in c.pair_bits_wrong.result ≡ not (pair_fixed a.word) || item_wrong a.scan (item_from F.Pair a.word)
unfolding pair_of
bits c = c.pair_bits_wrong.ensures ∙ rw (c.window_flag_wrong-flag.ensures, c.take.ensures, c.requires.0)

pub returns-then-not-is : goal.returns-then-not-is
returns-then-not-is c =
    let h = c.requires in
    rw c.at.ensures (sym (step_unallowed _ _ (sym (window_other _ _ h.0 (via c.is.ensures c.if-not-is.true))) h.1))

pub returns-then-pair_bits_wrong : goal.returns-then-pair_bits_wrong
unfolding first_of
returns-then-pair_bits_wrong c =
    let h = c.requires in
    rw c.at-then-pair_bits_wrong.ensures
    (sym
    (step_form _ _ (sym (window_pair _ _ h.0 (via c.is.ensures (c.if-not-is.false)))) h.1
    ∙ rw (via (bits (goal.at.returns-then-pair_bits_wrong c).After-pair_bits_wrong) c.if-pair_bits_wrong.true)))

pub returns : goal.returns
unfolding first_of after pair_of
returns c =
    let h = c.requires in
    sym
    (step_form _ _ (sym (window_pair _ _ h.0 (via c.is.ensures (c.if-not-is.false)))) h.1
    ∙ rw (via (bits (goal.at.returns c).After-pair_bits_wrong) c.if-pair_bits_wrong.false, c.moved-after.ensures, c.window_paired.ensures, h.0))
