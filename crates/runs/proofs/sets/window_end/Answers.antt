-- `runs::sets::window_end` meets its contract.
use Rattle.std.proofs.Common.{◌+◌, ◌-◌, ◌*◌, ◌/◌, ◌≡◌, refl, sym, ◌∙◌, true, arith}
use Rattle.fields.specs.Bytes.{words_of_bytes}
use Rattle.raw.specs.Plain.{plain}
use Rattle.stretches.specs.WordsLaws.{words_count}
use Rattle.stretches.specs.Stretches.{All}
use Rattle.stretches.specs.StretchesLaws.{all_passed}
use Rattle.runs.specs.RunsLaws.{window_run}
use Rattle.runs.proofs.sets.window_end.Goals as goal
use Rattle.runs.proofs.sets.window_end.Goals.{After-all_plain}

-- what is so of them all
pairs : (c : After-all_plain) → c.all_plain.result ≡ true →
    let a = c.args in
    All plain (words_of_bytes a.bytes.now) (a.k + 1) (a.k + 1 + a.width / 2)
pairs c e =
    let a = c.args in
    all_passed a.bytes.now {size = 4 * (a.k + 1 + a.width / 2) - 4 * (a.k + 1)} (a.k + 1) (a.width / 2) (sym c.all_plain.ensures ∙ e) refl (omega arith) (omega arith)

pub returns-then-width-eq0-2 : goal.returns-then-width-eq0-2
returns-then-width-eq0-2 c = (
  omega arith,
  window_run c.args.width c.requires.1.0 c.requires.1.1 (omega arith) (omega arith)
      (pairs (goal.at.returns-then-width-eq0-2 c).After-all_plain (c.if-not-all_plain.false))
      (λ h. absurd (omega arith))
      (omega (arith, words_count c.args.bytes.now)),
)

pub returns-then-single_at : goal.returns-then-single_at
returns-then-single_at c = (
  omega arith,
  window_run c.args.width c.requires.1.0 c.requires.1.1 (omega arith) (omega arith)
      (pairs (goal.at.returns-then-single_at c).After-all_plain (c.if-not-all_plain.false))
      (λ h. sym c.single_at.ensures ∙ c.if-single_at.true)
      (omega (arith, words_count c.args.bytes.now)),
)
