-- `runs::events::head_end` meets its contract.
use Rattle.std.proofs.Common.{sym, ◌∙◌, arith, eqb-true}
use Rattle.ground.specs.TestsLaws.{and_left, and_right}
use Rattle.fields.specs.Bytes.{words_of_bytes}
use Rattle.stretches.specs.WordsLaws.{words_count}
use Rattle.runs.specs.RunsLaws.{head_run}
use Rattle.runs.proofs.events.head_end.Goals as goal

pub returns-then-is-take : goal.returns-then-is-take
returns-then-is-take c =
    let a = c.args in
    let word = c.joined_at-head.ensures in
    let is = c.is in
    let slot = c.take.ensures in
    let test = c.if-is-take.true in
    let size = c.head_size.ensures in (
      omega (arith, size.0),
      record {
        ahead = omega arith;
        event = λ h left some.
            head_run (words_of_bytes a.bytes.now) a.slot a.k left some
            (rw (← word) (sym is.ensures ∙ and_left is.result _ test))
            (rw (← word) (sym slot ∙ eqb-true _ _ (and_right is.result _ test)))
            (omega (arith, words_count a.bytes.now))
            _ (rw (c.joined_at-low.ensures, c.joined_at-high.ensures) at size.1) (omega arith);
      },
    )
